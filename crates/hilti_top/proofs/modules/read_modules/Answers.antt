use Rattle.std.proofs.Common.{◌≡◌, ℕ, Err, ap, subst}
use Rattle.std.proofs.lemmas.Result.{err_from_is_err_and}
use Rattle.hilti_base.specs.declared.names.Place.{Place}
use Rattle.hilti_base.specs.declared.refusal.Refusal.{Refusal}
use Rattle.hilti_base.specs.declared.refusal.Refusal.TheVariants as refusals
use Rattle.hilti_top.specs.declared.modules.ModulesFault.TheVariants.{At}
use Rattle.hilti_top.specs.ModuleFaults.{of_refusal}
use Rattle.hilti_top.specs.ModuleTexts.{IsRefused}
use Rattle.hilti_top.proofs.Opened.{refused_behind}
use Rattle.hilti_top.proofs.modules.read_modules.Goals as goal

-- what refuses modules is a refusal of that place and code
refused_as : (refusal : Refusal) (place : Place) (code : ℕ) → of_refusal refusal ≡ At place code → refusal ≡ refusals.At place code
refused_as (refusals.At there other) place code is = cc
refused_as refusals.NoMemory place code is = absurd cc

pub returns-in_err-read_program-clause-refused : goal.returns-in_err-read_program-clause-refused
returns-in_err-read_program-clause-refused g c = λ place code is all told.
    let failed = err_from_is_err_and c.from_residual-in_err-read_program.result c.from_residual-in_err-read_program.ensures.1 in
    let refused : of_refusal c.in_err-read_program.field-0.0 ≡ At place code = cc (failed.1, failed.2, is) in
    let is_refused = c.in_err-read_program.ensures.refused place code (ap Err (refused_as c.in_err-read_program.field-0.0 place code refused)) in
    subst (λ texts. IsRefused texts place code) (c.in_ok-texts.ensures.texts all told) is_refused

pub returns-in_err-read_program-clause-opened_refused :
    goal.returns-in_err-read_program-clause-opened_refused
returns-in_err-read_program-clause-opened_refused g c = λ place code is.
    refused_behind (g.F.Files.files c.args.files.now) (g.F.Files.opened c.args.files.now) (g.F.Files.opened c.read_texts.new.files)
    c.args.names.now c.in_ok-texts.texts place code c.in_ok-texts.ensures.opened c.in_ok-texts.ensures.texts c.in_ok-texts.ensures.short
