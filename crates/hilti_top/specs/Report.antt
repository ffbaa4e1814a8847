-- What the commands write: the report of a run, and that modules are accepted.
use Rattle.std.specs.Prelude.{◌≡◌, ◌≢◌, ℕ, List, ◌++◌, length, codes}
use Rattle.std.specs.Fmt.{decimal}
use Rattle.hilti_base.specs.declared.limits.Limits.{Limits}
use Rattle.hilti_tree.specs.declared.call.Call.{Call}
use Rattle.hilti_core.specs.Atomic.{NothingWaits}
use Rattle.hilti_core.specs.Core.{Core}
use Rattle.hilti_parts.specs.declared.parts.Parts.{Parts}
use Rattle.hilti_pcap.specs.Endings.{CaptureEnding, Whole, Cut, Bad}
use Rattle.hilti_machine.specs.Segments.{effect_of}
use Rattle.hilti_machine.specs.Threads.{Facts}
use Rattle.hilti_one.specs.Alone.{RanAlone}
use Rattle.hilti_log.specs.Reports.{IsReport}
use Rattle.hilti_top.specs.declared.status.Status.{Status}
use Rattle.hilti_top.specs.declared.status.Status.TheVariants as status

-- a program, each of whose calls may run so many instructions
abbrev pub facts_of : Limits → Parts → Facts
facts_of limits parts = record { parts = parts; fuel = limits.fuel }

-- a capture doesn't end badly
abbrev pub IsGood : CaptureEnding → Type 0
IsGood ending = (at code : ℕ) → ending ≢ Bad at code

-- how a run ends, by how its capture ends and what it is for nothing to wait: by the limit of calls
-- where a call waits, and else as the capture does
abbrev pub EndsAs : Status → CaptureEnding → (nothing_waits : Type 0) → Type 0
EndsAs status.CallLimit ending nothing_waits = IsGood ending × ¬ nothing_waits
EndsAs (status.CaptureCut at) ending nothing_waits = (ending ≡ Cut at) × nothing_waits
EndsAs status.Done ending nothing_waits = (ending ≡ Whole) × nothing_waits
EndsAs _ ending nothing_waits = ⊥

-- one worker ran these calls of a program within limits, which ended so, and the text is the report
-- of it
pub record ReportsCalls (limits : Limits) (parts : Parts) (calls : List Call)
    (ending : CaptureEnding) (status : Status) (text : List ℕ) : Type 0 where
  pub core : Core
  pub ran : RanAlone (effect_of (facts_of limits parts)) calls limits.calls core
  pub ends : EndsAs status ending (NothingWaits core)
  pub report : IsReport core text

-- how many functions and hook bodies the program of accepted modules has
abbrev pub accepted_text : Parts → List ℕ
accepted_text parts =
    codes "accepted: " ++ decimal (length parts.functions) ++ codes " functions\n"
