use Rattle.std.proofs.Common.{◌≡◌, ℕ, true, List, [], ◌∷◌, Some, ap, sym, ◌∙◌, subst, lit≤}
use Rattle.hilti_tree.specs.declared.tree.Tree.TheVariants as variants
use Rattle.hilti_core.specs.declared.countdown.Counter.{Counter}
use Rattle.hilti_core.specs.declared.pieces.Segment.{Segment}
use Rattle.hilti_core.specs.Core.{Running, running_after}
use Rattle.hilti_core.specs.Countdown.{IsAt, HasProgress}
use Rattle.hilti_core.proofs.Numbers.{number_is}
use Rattle.hilti_thread_tests.proofs.countdown.send.Goals as goal

abbrev printed : ℕ → Running
printed n = record { call = record { function = record { n = 0 }; args = variants.Int n ∷ [] }; given = 1 }

is_printed : (counter : Counter) (n : ℕ) → HasProgress counter n true → IsAt counter (Some (printed n))
is_printed counter n h = (h ∙ ap (λ (m : ℕ). Some (record { function = record { n = 0 }; number = m; printed = true })) (sym (number_is n)), lit≤ tt)

pub segment-requires : goal.segment-requires
segment-requires c = (0, [], printed c.args.number, is_printed c.args.counter.now c.args.number c.requires)

pub returns : goal.returns
returns c =
    let given = c.in_ok-segment.ensures 0 [] (printed c.args.number) (is_printed c.args.counter.now c.args.number c.requires) in
    let rest : given.0 ≡ [] = cc (given.1) in
    subst (λ (l : List Segment). IsAt c.segment.new.vt (running_after (printed c.args.number) l)) rest given.2
