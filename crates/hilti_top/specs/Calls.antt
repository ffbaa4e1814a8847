-- The calls of a run: that of `packet` for each packet, and then that of `done`.
use Rattle.std.specs.Prelude.{ℕ, List, codes, Option, Some, None}
use Rattle.hilti_base.specs.declared.names.FnId.{FnId}
use Rattle.hilti_tree.specs.declared.call.Call.{Call}
use Rattle.hilti_parts.specs.declared.parts.Parts.{Parts}
use Rattle.hilti_pcap.specs.Endings.{CaptureEnding}
use Rattle.hilti_program.specs.Programs.{named}
use Rattle.hilti_feed.specs.Wholes.{ComeOf}

-- calls come of a capture for these entries; a program without an entry for packets has none
abbrev pub ComeBy : Option FnId → Option FnId → List ℕ → List Call → CaptureEnding → Type 0
ComeBy None last capture calls ending = ⊥
ComeBy (Some packet) last capture calls ending = ComeOf capture packet last calls ending

-- the calls of a run of a program over a capture, which ends so
abbrev pub AreCallsOf : Parts → List ℕ → List Call → CaptureEnding → Type 0
AreCallsOf parts =
    ComeBy (named parts (codes "Main::packet")) (named parts (codes "Main::done"))
