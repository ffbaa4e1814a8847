use Rattle.std.proofs.Common.{◌≡◌, ℕ, zero, suc, true, false, List, [], ◌∷◌, Some, ap, sym, ◌∙◌, drop, decimal, arith}
use Rattle.std.proofs.lemmas.Bool.Decides.{nat_tests}
use Rattle.std.specs.Prelude.{not, ◌==◌}
use Rattle.std.specs.declared.alloc.Global.{Global}
use Rattle.hilti_tree.specs.declared.call.Call.{Call}
use Rattle.hilti_core.specs.declared.pieces.Item.{Item}
use Rattle.hilti_core.specs.declared.pieces.Item.TheVariants.{Line}
use Rattle.hilti_core.specs.declared.pieces.Segment.{Segment}
use Rattle.hilti_core.specs.declared.pieces.End.TheVariants.{Yielded, Returned}
use Rattle.hilti_core.specs.declared.countdown.Progress.{Progress}
use Rattle.hilti_core.specs.Core.{running_after}
use Rattle.hilti_core.specs.Countdown.{number_of, next, effect_of, progress_of, IsAt}
use Rattle.hilti_core.proofs.countdown.CountdownBody.segment.Goals as goal

-- before its number is printed a call has given no segment
first : (call : Call) (given : ℕ) (progress : Progress) (alloc : Global) (items : List Item) → Some progress ≡ Some (progress_of (record { call = call; given = given })) → not progress.printed ≡ true → items ≡ Line (decimal progress.number) ∷ [] →
    (rest : List Segment) × (drop given (effect_of call) ≡ record { items = items; end = Yielded } ∷ rest)
    × IsAt (record { alloc = alloc; progress = Some (record { function = progress.function; number = progress.number; printed = true }) }) (running_after (record { call = call; given = given }) rest)
first call (suc k) progress alloc items is new e = absurd (
    let p : progress ≡ progress_of (record { call = call; given = suc k }) = cc in
    let given : (suc k == 0) ≡ false = grind (arith, nat_tests) in
    let q : not progress.printed ≡ false = ap (λ (x : Progress). not x.printed) p ∙ ap (λ b. not (not b)) given in
    let r : true ≡ false = sym new ∙ q in cc)
first call zero progress alloc items is new e =
    let p : progress ≡ progress_of (record { call = call; given = zero }) = cc in
    let n : progress.number ≡ number_of call.args = ap (λ (x : Progress). x.number) p in
    let line : items ≡ Line (decimal (number_of call.args)) ∷ [] = e ∙ ap (λ k. Line (decimal k) ∷ []) n in (
      record { items = next call.function (number_of call.args); end = Returned } ∷ [],
      ap (λ l. record { items = l; end = Yielded } ∷ record { items = next call.function (number_of call.args); end = Returned } ∷ []) (sym line),
      (ap (λ (x : Progress). Some (record { function = x.function; number = x.number; printed = true })) p, omega arith),
    )

pub returns-in_ok-items-in-Some : goal.returns-in_ok-items-in-Some
returns-in_ok-items-in-Some c = λ thread finished running at.
    first running.call running.given c.in-Some.progress c.args.vt.now.alloc c.in_ok-items-in-Some.items (sym c.in-Some.is ∙ at.0) c.if-not-progress.true c.in_ok-items-in-Some.ensures
