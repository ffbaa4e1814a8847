-- Why a capture isn't begun.
use Rattle.std.specs.Prelude.{◌≡◌, ℕ, List, Result, Ok, Err}
use Rattle.hilti_outside.specs.Faults.{Rose}
use Rattle.hilti_pcap.specs.Endings.{IsRefused, Bad}
use Rattle.hilti_feed.specs.declared.feed.FeedFault.{FeedFault}
use Rattle.hilti_feed.specs.declared.feed.FeedFault.TheVariants as faults

-- a failed read was counted, and nothing was counted otherwise
abbrev pub CausesFault : {T : Type 0} → Result T FeedFault → ℕ → ℕ → Type 0
CausesFault (Err faults.ReadFault) before after = Rose before after
CausesFault _ before after = after ≡ before

-- a fault that is found in bytes is that of their header
abbrev pub IsRefusedBy : {T : Type 0} → List ℕ → Result T FeedFault → Type 0
IsRefusedBy bytes (Ok _) = Unit {0}
IsRefusedBy bytes (Err (faults.Bad at code)) = IsRefused bytes (Bad at code)
IsRefusedBy bytes (Err faults.ReadFault) = ⊥
IsRefusedBy bytes (Err faults.NoMemory) = ⊥

-- the same of a fault alone
abbrev pub IsBadBy : List ℕ → FeedFault → Type 0
IsBadBy capture (faults.Bad at code) = IsRefused capture (Bad at code)
IsBadBy capture faults.ReadFault = Unit {0}
IsBadBy capture faults.NoMemory = Unit {0}
