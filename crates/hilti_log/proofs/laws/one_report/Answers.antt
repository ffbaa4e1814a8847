use Rattle.std.proofs.Common.{◌≡◌, ◌++◌, ◌∙◌, ap, sym}
use Rattle.hilti_log.specs.Texts.{total_text}
use Rattle.hilti_log.specs.Reports.{threads_text}
use Rattle.hilti_log.proofs.Rolls.{one_roll}
use Rattle.hilti_log.proofs.laws.one_report.Goals as goal
use Rattle.std.specs.Prelude.{length}

pub returns : goal.returns
returns c = λ core a b h k.
    h.reads
    ∙ ap (λ threads. threads_text core threads ++ total_text (length core.started) core.takes)
    (one_roll core.started h.threads k.threads h.ran k.ran)
    ∙ sym k.reads
