use Rattle.std.proofs.Common.{subst, sym}
use Rattle.std.specs.List.{All}
use Rattle.std.proofs.lemmas.List.Elements.{All-push}
use Rattle.hilti_core.specs.Countdown.{IsNumber}
use Rattle.hilti_thread_tests.proofs.one.calls_on.Goals as goal

pub loop-number-preserved : goal.loop-number-preserved
loop-number-preserved c =
    subst (All IsNumber) (sym c.in_ok-push.ensures.ok)
    (All-push IsNumber c.loop-number.calls c.in_ok-number_call.field-0 c.loop-number.invariant
    c.in_ok-number_call.ensures.number)
