use Rattle.std.proofs.Common.{refl, sym, subst, Some}
use Rattle.std.specs.Prelude.{Ok}
use Rattle.hilti_heap.specs.Stands.{Meets}
use Rattle.hilti_heap_ops.specs.Meaning.{ref_is_null}
use Rattle.hilti_effects.specs.Operands.{value_at}
use Rattle.hilti_acting.proofs.Answering.{meets_fitted, reads}
use Rattle.hilti_acting.proofs.scalars.is_null_row.Goals as goal

pub complete-requires-clause-fits : goal.complete-requires-clause-fits
complete-requires-clause-fits c =
    meets_fitted (ref_is_null c.value_at-value.result.now) (Ok (Some c.ref_is_null-null.result))
    c.args.memory.now.heap c.args.memory.now.heap c.args.stack.now
    c.args.memory.now.globals.items (c.ref_is_null-null.ensures c.args.memory.now.heap)
    c.requires.stands.fits

pub returns : goal.returns
returns c =
    c.in_ok-did.ensures
    (ref_is_null (value_at c.args.stack.now.slots c.args.memory.now.globals.items
    c.args.object.now))
    c.args.memory.now refl
    (subst (λ x. Meets (ref_is_null x) (Ok (Some c.ref_is_null-null.result))
    c.args.memory.now.heap c.args.memory.now.heap)
    (sym (reads c.args.stack.now.slots c.args.memory.now.globals.items c.as_slice.result.now
    c.args.object.now c.value_at-value.result.now c.as_slice.ensures.value
    c.value_at-value.ensures))
    (c.ref_is_null-null.ensures c.args.memory.now.heap))
