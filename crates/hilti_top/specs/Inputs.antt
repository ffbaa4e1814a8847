-- The inputs of a command, by the names of their files, and what is written of them.
use Rattle.std.specs.Prelude.{◌≡◌, ℕ, List, map, Option}
use Rattle.hilti_base.specs.declared.limits.Limits.{Limits}
use Rattle.hilti_base.specs.declared.names.Place.{Place}
use Rattle.hilti_outside.specs.Contents.{FileMap, WhereTold, content}
use Rattle.hilti_parts.specs.declared.parts.Parts.{Parts}
use Rattle.hilti_pcap.specs.Endings.{CaptureEnding}
use Rattle.hilti_tree.specs.declared.call.Call.{Call}
use Rattle.hilti_feed.specs.Wholes.{IsBadCapture}
use Rattle.hilti_words.specs.Words.{Asked, Asked.Check, Asked.One, modules_in}
use Rattle.hilti_top.specs.declared.status.Status.{Status}
use Rattle.hilti_top.specs.declared.status.Status.TheVariants.{Done}
use Rattle.hilti_top.specs.Calls.{AreCallsOf}
use Rattle.hilti_top.specs.ModuleTexts.{IsAccepted, IsRefused}
use Rattle.hilti_top.specs.Report.{ReportsCalls, accepted_text}

-- the files of these names, where they are told, are those of modules that are accepted as the
-- program of these parts
abbrev pub AreAccepted : Option FileMap → List (List ℕ) → Parts → Type 0
AreAccepted files modules parts =
    WhereTold files (λ all. IsAccepted (map (content all) modules) parts)

-- the files of these names, where they are told, are those of modules that are refused with this
-- place and code
abbrev pub AreRefused : Option FileMap → List (List ℕ) → Place → ℕ → Type 0
AreRefused files modules place code =
    WhereTold files (λ all. IsRefused (map (content all) modules) place code)

-- the capture of a command, where files are told, is refused at a place with a code
abbrev pub IsCaptureRefused : Option FileMap → Asked → (at code : ℕ) → Type 0
IsCaptureRefused files (Check modules) at code = ⊥
IsCaptureRefused files (One limits capture modules) at code =
    WhereTold files (λ all. IsBadCapture (content all capture) at code)

-- modules are accepted, and the capture behind them is refused
pub record RefusesCapture (files : Option FileMap) (at code : ℕ) (asked : Asked) : Type 0 where
  pub parts : Parts
  pub accepted : AreAccepted files (modules_in asked) parts
  pub refused : IsCaptureRefused files asked at code

-- one worker ran the calls of a program over the capture of this name, which ended so, and the text
-- is the report; where files are told, the calls and the ending are those of the capture
pub record ReportsRun (files : Option FileMap) (limits : Limits) (capture : List ℕ)
    (parts : Parts) (status : Status) (text : List ℕ) : Type 0 where
  pub calls : List Call
  pub ending : CaptureEnding
  pub come : WhereTold files (λ all. AreCallsOf parts (content all capture) calls ending)
  pub run : ReportsCalls limits parts calls ending status text

-- how a command ends and what it writes, where the modules are the program of these parts
abbrev pub IsOutput : Option FileMap → Asked → Parts → Status → List ℕ → Type 0
IsOutput files (Check modules) parts status text =
    (status ≡ Done) × (text ≡ accepted_text parts)
IsOutput files (One limits capture modules) parts status text =
    ReportsRun files limits capture parts status text

-- modules are accepted, the command ends so where all can be written, and its output is such
pub record Reports (files : Option FileMap) (status : Status) (is : List ℕ → Type 0)
    (asked : Asked) : Type 0 where
  pub parts : Parts
  pub text : List ℕ
  pub accepted : AreAccepted files (modules_in asked) parts
  pub output : IsOutput files asked parts status text
  pub reported : is text
