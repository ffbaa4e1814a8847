use Rattle.std.proofs.Common.{◌≡◌, ℕ, false, [], ◌∷◌, Some, ap, ◌∙◌}
use Rattle.hilti_tree.specs.declared.call.Call.{Call}
use Rattle.hilti_core.specs.Countdown.{number_of}
use Rattle.hilti_core.proofs.Numbers.{number_is}
use Rattle.hilti_thread_tests.proofs.countdown.begin.Goals as goal

pub returns : goal.returns
returns c =
    (c.in_ok-start.ensures 0 [] c.requires).0
    ∙ (ap (λ (k : Call). Some (record { function = k.function; number = number_of k.args; printed = false })) c.in_ok-call.ensures.is
    ∙ ap (λ (n : ℕ). Some (record { function = record { n = 0 }; number = n; printed = false })) (number_is c.args.number))
