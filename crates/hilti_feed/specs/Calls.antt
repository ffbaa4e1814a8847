-- The calls of a capture.
use Rattle.std.specs.Prelude.{◌≡◌, ◌⊎◌, ◌≤◌, List, [], ◌∷◌, ◌++◌, map, length}
use Rattle.std.specs.Prelude.{Option, Some, None}
use Rattle.hilti_base.specs.declared.names.FnId.{FnId}
use Rattle.hilti_pcap.specs.declared.packet.Packet.{Packet}
use Rattle.hilti_pcap.specs.Endings.{CaptureEnding, Whole, Cut, Bad}
use Rattle.hilti_pcap.specs.Readings.{Reading}
use Rattle.hilti_tree.specs.declared.call.Call.{Call}
use Rattle.hilti_tree.specs.declared.tree.Tree.TheVariants as trees

-- the call of a packet: its time and its bytes
abbrev pub packet_call : FnId → Packet → Call
packet_call function packet = record {
  function = function;
  args = trees.Time packet.time ∷ trees.Bytes packet.bytes ∷ [];
}

-- the call at the end, which has no arguments
abbrev pub done_call : FnId → Call
done_call function = record { function = function; args = [] }

-- the call at the end, where there is such a function
abbrev pub done_calls : Option FnId → List Call
done_calls None = []
done_calls (Some done) = done_call done ∷ []

-- it isn't made where the capture is bad
abbrev pub last_call : Option FnId → CaptureEnding → List Call
last_call function Whole = done_calls function
last_call function (Cut at) = done_calls function
last_call function (Bad at code) = []

-- the calls of what is read: one for each packet, and then the one at the end
abbrev pub calls_of : FnId → Option FnId → Reading → List Call
calls_of packet done reading =
    map (packet_call packet) reading.packets ++ last_call done reading.ending

-- a call of the function for packets, with a time and at most so many bytes, or the call at the end
abbrev pub IsCallOf : FnId → Option FnId → Call → Type 0
IsCallOf packet done call =
    ((found : Packet) × (call ≡ packet_call packet found) × (length found.bytes ≤ 262144))
    ⊎ ((function : FnId) × (done ≡ Some function) × (call ≡ done_call function))
