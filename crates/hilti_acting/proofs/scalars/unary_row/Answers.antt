use Rattle.std.proofs.Common.{ℕ, ◌≤◌, sym, subst, refl}
use Rattle.hilti_heap.specs.Held.{held}
use Rattle.hilti_acting.specs.Acts.{IfGives}
use Rattle.hilti_acting.specs.Owned.{owned}
use Rattle.hilti_acting.proofs.Answering.{shared_owned, reads}
use Rattle.hilti_acting.proofs.Holding.{unary_owned}
use Rattle.hilti_acting.proofs.scalars.unary_row.Goals as goal

pub give-requires-clause-owned : goal.give-requires-clause-owned
give-requires-clause-owned c =
    subst
    (λ made. IfGives made (λ value. (s : ℕ) →
    held s value ≤ owned c.args.stack.now c.args.memory.now.globals.items s))
    (sym c.in_ok-made.ensures)
    (unary_owned (λ s. owned c.args.stack.now c.args.memory.now.globals.items s) c.args.op
    c.value_at-value.result.now
    (shared_owned c.args.stack.now c.args.memory.now.globals.items c.args.a.now
    c.value_at-value.result.now c.value_at-value.result.now c.requires.free
    (reads c.args.stack.now.slots c.args.memory.now.globals.items c.as_slice.result.now
    c.args.a.now c.value_at-value.result.now c.as_slice.ensures.value c.value_at-value.ensures)
    refl))
