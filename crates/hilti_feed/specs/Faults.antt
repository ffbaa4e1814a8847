-- When a fault was counted.
use Rattle.std.specs.Prelude.{◌≡◌, ◌≢◌, ◌≤◌, ℕ, Result, Ok, Err, length}
use Rattle.hilti_outside.specs.Faults.{Rose}
use Rattle.hilti_feed.specs.declared.tail.Outcome.{Outcome}
use Rattle.hilti_feed.specs.declared.tail.Outcome.TheVariants as outcomes
use Rattle.hilti_feed.specs.declared.pieces.Found.{Found}
use Rattle.hilti_feed.specs.declared.pieces.Found.TheVariants as founds
use Rattle.hilti_feed.specs.declared.pieces.PieceFault.{PieceFault}
use Rattle.hilti_feed.specs.declared.pieces.PieceFault.TheVariants as piece_faults

-- a failed read was counted, and nothing was counted otherwise
abbrev pub HasCause : Outcome → ℕ → ℕ → Type 0
HasCause outcomes.ReadFault before after = Rose before after
HasCause _ before after = after ≡ before

abbrev pub HasFault : Found → ℕ → ℕ → Type 0
HasFault (founds.Packet packet) before after = after ≡ before
HasFault (founds.Ended outcome) before after = HasCause outcome before after

abbrev pub CausesFault : {T : Type 0} → Result T PieceFault → ℕ → ℕ → Type 0
CausesFault (Ok _) before after = after ≡ before
CausesFault (Err piece_faults.Failed) before after = Rose before after
CausesFault (Err piece_faults.NoMemory) before after = after ≡ before

-- unless there was no memory
abbrev pub IfUnlessMemory : {T : Type 0} → Result T PieceFault → Type 0 → Type 0
IfUnlessMemory (Ok _) holds = holds
IfUnlessMemory (Err piece_faults.Failed) holds = holds
IfUnlessMemory (Err piece_faults.NoMemory) holds = Unit {0}

-- a packet
abbrev pub IsPacket : Found → Type 0
IsPacket (founds.Packet packet) = Unit {0}
IsPacket (founds.Ended outcome) = ⊥

-- a packet of at most so many bytes, or an outcome that says how the capture ended
abbrev pub IsFound : Found → Type 0
IsFound (founds.Packet packet) = length packet.bytes ≤ 262144
IsFound (founds.Ended outcome) = outcome ≢ outcomes.Reading

-- no failed read
abbrev pub IsHeard : Found → Type 0
IsHeard (founds.Packet packet) = Unit {0}
IsHeard (founds.Ended outcome) = outcome ≢ outcomes.ReadFault

-- a failed read ended a feed now, and was counted; and nothing was counted otherwise
abbrev pub HasCauseIn : Outcome → Outcome → ℕ → ℕ → Type 0
HasCauseIn outcomes.Reading after faults faults' = HasCause after faults faults'
HasCauseIn before after faults faults' = (after ≡ before) × (faults' ≡ faults)
