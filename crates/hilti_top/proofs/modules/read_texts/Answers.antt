use Rattle.std.proofs.Common.{◌≡◌, ◌<◌, [], ◌∷◌, length, ◌∙◌, Err, ap, subst}
use Rattle.std.proofs.lemmas.Result.{err_from_is_err_and}
use Rattle.hilti_outside.specs.Contents.{Grows, content}
use Rattle.hilti_top.specs.declared.modules.ModulesFault.TheVariants.{At}
use Rattle.hilti_top.proofs.Opened.{until_at}
use Rattle.hilti_top.proofs.Reading.{too_long_at}
use Rattle.hilti_top.proofs.modules.read_texts.Goals as goal

pub returns-in_err-text-clause-refused : goal.returns-in_err-text-clause-refused
returns-in_err-text-clause-refused g c = λ place code is all told.
    let failed = err_from_is_err_and c.from_residual.result c.from_residual.ensures.1 in
    let refused : c.in_err-text.field-0.0 ≡ At place code = cc (failed.1, failed.2, is) in
    let at = c.in_err-text.ensures.refused_at place code (ap Err refused) in
    let long = c.in_err-text.ensures.refused place code (ap Err refused) all (c.loop-name.invariant.files ∙ told) in
    let long_name : 1048576 < length (content all c.name-item.result) = subst (λ name. 1048576 < length (content all name)) c.bytes.ensures long in
    too_long_at (content all) c.args.names.now c.loop-name.texts c.loop-name.name-index c.len.result c.name-item.result place code
    c.loop-name-test.true c.name-item.is c.len.ensures (c.loop-name.invariant.texts all told) c.loop-name.invariant.short at.0 at.1 long_name

pub returns-in_err-text-clause-opened_until : goal.returns-in_err-text-clause-opened_until
returns-in_err-text-clause-opened_until g c = λ place code is.
    let failed = err_from_is_err_and c.from_residual.result c.from_residual.ensures.1 in
    let refused : c.in_err-text.field-0.0 ≡ At place code = cc (failed.1, failed.2, is) in
    let at = c.in_err-text.ensures.refused_at place code (ap Err refused) in
    let more = subst (λ name. Grows (g.F.Files.opened c.loop-name.files) (g.F.Files.opened c.read_text.new.files) (name ∷ [])) c.bytes.ensures c.in_err-text.ensures.opened in
    until_at (g.F.Files.opened c.args.files.now) (g.F.Files.opened c.loop-name.files) (g.F.Files.opened c.read_text.new.files)
    c.args.names.now c.loop-name.name-index c.len.result c.name-item.result place code
    c.loop-name-test.true c.name-item.is (c.len.ensures ∙ c.loop-name.invariant.count) at.0 at.1 c.loop-name.invariant.opened more
