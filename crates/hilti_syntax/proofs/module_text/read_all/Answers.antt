use Rattle.std.proofs.Common.{◌∙◌, sym}
use Rattle.std.proofs.lemmas.Result.{err_from_is_err_and}
use Rattle.hilti_syntax.proofs.Texts.{all_read, some_left_there, stopped_there, handed, err_same}
use Rattle.hilti_syntax.proofs.module_text.read_all.Goals as goal

pub returns-in_err-module-clause-refusal : goal.returns-in_err-module-clause-refusal
returns-in_err-module-clause-refusal c = λ tokens end_place stop e f h.
    let failed = err_from_is_err_and c.from_residual.result c.from_residual.ensures.1 in
    stopped_there tokens end_place _ _ c.in_err-module.field-0.0 stop (handed c.from_residual.result failed.0 c.in_err-module.field-0.0 stop failed.1 failed.2 f) e h c.in_err-module.ensures

pub returns-then-not-is_at_end-clause-refusal : goal.returns-then-not-is_at_end-clause-refusal
returns-then-not-is_at_end-clause-refusal c = λ tokens end_place stop e f h.
    some_left_there tokens end_place _ _ c.in_ok-module.module stop (err_same _ stop f) e (sym c.is_at_end.ensures ∙ c.if-not-is_at_end.true) c.in_ok-module.ensures

pub returns-clause-module : goal.returns-clause-module
returns-clause-module c = λ tokens end_place e. all_read tokens end_place _ _ c.in_ok-module.module e (sym c.is_at_end.ensures ∙ c.if-not-is_at_end.false) c.in_ok-module.ensures
