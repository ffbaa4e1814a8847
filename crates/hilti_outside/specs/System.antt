-- What the files and the output of the system tell, as far as std's readers and writers tell it.
use Rattle.std.specs.Prelude.{ℕ, List, [], Option, Some, None}

-- the bytes of the current file that are still unread, where its reader tells them, and how many
-- calls failed
pub record SystemFiles : Type 0 where
  pub rest : Option (List ℕ)
  pub faults : ℕ

-- what is left of a reader, nothing where there is none
abbrev pub left_of : {F : Type 0} → (F → Option (List ℕ)) → Option F → Option (List ℕ)
left_of remaining None = Some []
left_of remaining (Some file) = remaining file

-- what the writer holds, where it tells that from the start on, and how many calls failed
pub record SystemSink : Type 0 where
  pub written : Option (List ℕ)
  pub faults : ℕ

-- what a writer holds now, where it told that at first
abbrev pub told_since : Option (List ℕ) → Option (List ℕ) → Option (List ℕ)
told_since None now = None
told_since (Some first) now = now

-- what was told at first is told now
abbrev pub StaysTold : Option (List ℕ) → Option (List ℕ) → Type 0
StaysTold None now = Unit {0}
StaysTold (Some first) None = ⊥
StaysTold (Some first) (Some now) = Unit {0}
