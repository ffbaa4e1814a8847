use Rattle.std.proofs.Common.{◌≡◌, ℕ, List, Option, Err, refl, sym, ◌∙◌, ap, subst, inr}
use Rattle.hilti_base.specs.declared.names.Place.{Place}
use Rattle.hilti_core.specs.Atomic.{NothingWaits}
use Rattle.hilti_outside.specs.Contents.{FileMap}
use Rattle.hilti_parts.specs.declared.parts.Parts.{Parts}
use Rattle.hilti_pcap.specs.Endings.{CaptureEnding}
use Rattle.hilti_words.specs.Words.{Asked, Asked.Check, Asked.One, Asks, IsAsked, asked_by, modules_in}
use Rattle.hilti_top.specs.declared.modules.ModulesFault.TheVariants.{At}
use Rattle.hilti_top.specs.declared.status.Status.{Status}
use Rattle.hilti_top.specs.declared.status.Status.TheVariants as status
use Rattle.hilti_top.specs.Inputs.{AreRefused, IsOutput}
use Rattle.hilti_top.specs.Opening.{Names, OpensFor, OpensWhole}
use Rattle.hilti_top.specs.Report.{EndsAs}
use Rattle.hilti_top.specs.StatusText.{IsWritten}
use Rattle.hilti_top.proofs.Opened.{all_front, all_opened, front_opened, refused_opened}
use Rattle.hilti_top.proofs.call.hilti_call.Goals as goal

-- modules that are refused are those of the command
refused_from : (files : Option FileMap) (words : List (List ℕ)) (asked : Asked) (modules : List (List ℕ)) (place : Place) (code : ℕ)
    → IsAsked words asked → modules ≡ modules_in asked → AreRefused files modules place code
    → Asks words (λ asked. AreRefused files (modules_in asked) place code)
refused_from files words asked modules place code is named refused = record {
  asked = asked;
  is = is;
  holds = subst (λ names. AreRefused files names place code) named refused;
}

-- how a run ends is told behind its whole output
ended : (s : Status) (ending : CaptureEnding) (nothing : Type 0) → EndsAs s ending nothing → IsWritten s
ended status.Done ending nothing ends = tt
ended status.CallLimit ending nothing ends = tt
ended (status.CaptureCut at) ending nothing ends = tt
ended status.Usage ending nothing ends = ends
ended status.ReadFault ending nothing ends = ends
ended (status.BadModule place code) ending nothing ends = ends
ended (status.BadCapture at code) ending nothing ends = ends
ended status.WriteFault ending nothing ends = ends
ended status.NoMemory ending nothing ends = ends

written : (files : Option FileMap) (asked : Asked) (parts : Parts) (s : Status) (text : List ℕ) → IsOutput files asked parts s text → IsWritten s
written files (Check modules) parts s text output = subst IsWritten (sym output.0) tt
written files (One limits capture modules) parts s text ran = ended s ran.ending (NothingWaits ran.run.core) ran.run.ends

opened_whole : (s : Status) (words : List (List ℕ)) (files : Option FileMap) (before after : Names) → IsWritten s
    → OpensWhole words before after → OpensFor s words files before after
opened_whole status.Done words files before after is whole = whole
opened_whole status.CallLimit words files before after is whole = whole
opened_whole (status.CaptureCut at) words files before after is whole = whole
opened_whole status.Usage words files before after is whole = absurd is
opened_whole status.ReadFault words files before after is whole = absurd is
opened_whole (status.BadModule place code) words files before after is whole = absurd is
opened_whole (status.BadCapture at code) words files before after is whole = absurd is
opened_whole status.WriteFault words files before after is whole = absurd is
opened_whole status.NoMemory words files before after is whole = absurd is

pub returns-in-Err-ReadFault-clause-opens : goal.returns-in-Err-ReadFault-clause-opens
returns-in-Err-ReadFault-clause-opens g c =
    front_opened (g.F.Files.opened c.args.files.now) (g.F.Files.opened c.read_modules.new.files) c.args.words.now (asked_by c.in-Ok.command) c.as_slice.result.now
    c.in-Ok.ensures.command (c.as_slice.ensures ∙ c.modules.ensures) c.read_modules.ensures.opened_front

pub returns-in-Err-NoMemory-read_modules-clause-opens : goal.returns-in-Err-NoMemory-read_modules-clause-opens
returns-in-Err-NoMemory-read_modules-clause-opens g c =
    inr (front_opened (g.F.Files.opened c.args.files.now) (g.F.Files.opened c.read_modules.new.files) c.args.words.now (asked_by c.in-Ok.command) c.as_slice.result.now
    c.in-Ok.ensures.command (c.as_slice.ensures ∙ c.modules.ensures) c.read_modules.ensures.opened_front)

pub returns-in-Err-ReadFault-output_of-clause-opens : goal.returns-in-Err-ReadFault-output_of-clause-opens
returns-in-Err-ReadFault-output_of-clause-opens g c =
    all_front (g.F.Files.opened c.args.files.now) (g.F.Files.opened c.read_modules.new.files) (g.F.Files.opened c.output_of.new.files)
    c.args.words.now (asked_by c.in-Ok.command) c.as_slice.result.now c.in-Ok.ensures.command (c.as_slice.ensures ∙ c.modules.ensures)
    c.in-Ok-read_modules.ensures.opened c.output_of.ensures.opened

pub returns-in-Err-NoMemory-output_of-clause-opens : goal.returns-in-Err-NoMemory-output_of-clause-opens
returns-in-Err-NoMemory-output_of-clause-opens g c =
    inr (all_front (g.F.Files.opened c.args.files.now) (g.F.Files.opened c.read_modules.new.files) (g.F.Files.opened c.output_of.new.files)
    c.args.words.now (asked_by c.in-Ok.command) c.as_slice.result.now c.in-Ok.ensures.command (c.as_slice.ensures ∙ c.modules.ensures)
    c.in-Ok-read_modules.ensures.opened c.output_of.ensures.opened)

pub returns-in-Ok-write_all-clause-opens : goal.returns-in-Ok-write_all-clause-opens
returns-in-Ok-write_all-clause-opens g c =
    let whole = all_opened (g.F.Files.opened c.args.files.now) (g.F.Files.opened c.read_modules.new.files) (g.F.Files.opened c.output_of.new.files)
    c.args.words.now (asked_by c.in-Ok.command) c.as_slice.result.now c.in-Ok.ensures.command (c.as_slice.ensures ∙ c.modules.ensures)
    c.in-Ok-read_modules.ensures.opened c.output_of.ensures.opened in
    opened_whole c.in-Ok-output_of.output.status c.args.words.now (g.F.Files.files c.args.files.now) (g.F.Files.opened c.args.files.now) (g.F.Files.opened c.output_of.new.files)
    (written (g.F.Files.files c.read_modules.new.files) (asked_by c.in-Ok.command) c.in-Ok-read_modules.program c.in-Ok-output_of.output.status c.in-Ok-output_of.output.text c.in-Ok-output_of.ensures.output) whole

pub returns-in-Err-At-clause-opens : goal.returns-in-Err-At-clause-opens
returns-in-Err-At-clause-opens g c =
    let opened = refused_opened (g.F.Files.files c.args.files.now) (g.F.Files.opened c.args.files.now) (g.F.Files.opened c.read_modules.new.files)
    c.args.words.now (asked_by c.in-Ok.command) c.as_slice.result.now c.in-Err-At.place c.in-Err-At.code c.in-Ok.ensures.command (c.as_slice.ensures ∙ c.modules.ensures)
    (rw c.in-Err-At.field-0-is at c.in-Err-At.ensures.opened_refused _ _ refl) in
    rw (← c.in-Err-At.place-is, ← c.in-Err-At.code-is) at opened

pub returns-in-Err-At-clause-bad_module : goal.returns-in-Err-At-clause-bad_module
returns-in-Err-At-clause-bad_module g c = λ place code is.
    let fault : c.in-Err-At.field-0 ≡ At place code = cc (c.in-Err-At.field-0-is, is, c.in-Err-At.place-is, c.in-Err-At.code-is) in
    refused_from (g.F.Files.files c.args.files.now) c.args.words.now (asked_by c.in-Ok.command) c.as_slice.result.now place code c.in-Ok.ensures.command (c.as_slice.ensures ∙ c.modules.ensures)
    (c.in-Err-At.ensures.refused place code (ap Err fault))
