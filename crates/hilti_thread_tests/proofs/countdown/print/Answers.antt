use Rattle.std.proofs.Common.{◌≡◌, ℕ, true, false, List, [], ◌∷◌, Some, ap, sym, ◌∙◌, subst, lit≤}
use Rattle.hilti_tree.specs.declared.tree.Tree.TheVariants as variants
use Rattle.hilti_core.specs.declared.countdown.Counter.{Counter}
use Rattle.hilti_core.specs.declared.pieces.Segment.{Segment}
use Rattle.hilti_core.specs.declared.pieces.End.TheVariants.{Returned}
use Rattle.hilti_core.specs.Core.{Running, running_after}
use Rattle.hilti_core.specs.Countdown.{IsAt, next, number_of, HasProgress}
use Rattle.hilti_core.proofs.Numbers.{number_is}
use Rattle.hilti_thread_tests.proofs.countdown.print.Goals as goal

abbrev begun : ℕ → Running
begun n = record { call = record { function = record { n = 0 }; args = variants.Int n ∷ [] }; given = 0 }

is_begun : (counter : Counter) (n : ℕ) → HasProgress counter n false → IsAt counter (Some (begun n))
is_begun counter n h = (h ∙ ap (λ (m : ℕ). Some (record { function = record { n = 0 }; number = m; printed = false })) (sym (number_is n)), lit≤ tt)

pub segment-requires : goal.segment-requires
segment-requires c = (0, [], begun c.args.number, is_begun c.args.counter.now c.args.number c.requires)

pub returns : goal.returns
returns c =
    let given = c.in_ok-segment.ensures 0 [] (begun c.args.number) (is_begun c.args.counter.now c.args.number c.requires) in
    let rest : given.0 ≡ record { items = next (record { n = 0 }) (number_of (variants.Int c.args.number ∷ [])); end = Returned } ∷ [] = cc (given.1) in
    (subst (λ (l : List Segment). IsAt c.segment.new.vt (running_after (begun c.args.number) l)) rest given.2).0
    ∙ ap (λ (m : ℕ). Some (record { function = record { n = 0 }; number = m; printed = true })) (number_is c.args.number)
