use Rattle.std.proofs.Common.{sym}
use Rattle.hilti_link.specs.Linking.{head_refusal, named_again}
use Rattle.hilti_link.specs.Versions.{version_refusal}
use Rattle.hilti_link.proofs.Answering.{answers_as, answers_given, answers_or, behind_none}
use Rattle.hilti_link.proofs.linking.refuse_head.Goals as goal

pub returns-in_err-refuse_second : goal.returns-in_err-refuse_second
returns-in_err-refuse_second c = λ seen context file.
    let m = c.args.module.now in
    let e = c.in_err-refuse_second.field-0.0 in
    answers_given c.from_residual.result e _ c.from_residual.ensures.0 c.from_residual.ensures.1
    (answers_or e (named_again seen m) (version_refusal m.version) (c.in_err-refuse_second.ensures seen context file))

pub returns : goal.returns
returns c = λ seen context file.
    let m = c.args.module.now in
    answers_as c.refuse_version.result (version_refusal m.version) (head_refusal seen m)
    (sym (behind_none (named_again seen m) (version_refusal m.version) (c.in_ok-refuse_second.ensures seen context file))) c.refuse_version.ensures
