-- What a feeder's calls do with the list of what it will still give, where that is told.
use Rattle.std.specs.Prelude.{◌≡◌, ◌≢◌, ◌↔◌, ◌≤◌, ℕ, List, [], ◌∷◌, Bool, true, false}
use Rattle.std.specs.Prelude.{Option, Some, None, IsTrue}
use Rattle.hilti_outside.specs.Faults.{Rose}
use Rattle.hilti_tree.specs.declared.call.Call.{Call}

-- what was to come was this call and then what is to come now; what was told stays told, and no
-- more is
abbrev pub Gave : Option (List Call) → Call → Option (List Call) → Type 0
Gave None call None = Unit {0}
Gave (Some before) call (Some after) = before ≡ call ∷ after
Gave None call (Some after) = ⊥
Gave (Some before) call None = ⊥

-- nothing is to come any more; what was told stays told, and no more is
abbrev pub Emptied : Option (List Call) → Option (List Call) → Type 0
Emptied None None = Unit {0}
Emptied (Some before) (Some after) = after ≡ []
Emptied None (Some after) = ⊥
Emptied (Some before) None = ⊥

-- nothing was to come, where that is told
abbrev pub WasEmpty : Option (List Call) → Type 0
WasEmpty None = Unit {0}
WasEmpty (Some before) = before ≡ []

-- whether something was to come, where that is told
abbrev pub SaysWhetherMore : Option (List Call) → Bool → Type 0
SaysWhetherMore None more = Unit {0}
SaysWhetherMore (Some before) more = IsTrue more ↔ (before ≢ [])

-- a failed read ended the feeder in this call
abbrev pub BecameLost : Bool → Bool → Type 0
BecameLost before after = (before ≡ false) × (after ≡ true)

-- how often reading failed, and whether that ended it, before and after a call: the count never
-- falls; once lost it stays so, and it becomes lost only where a failure was counted
pub record CountsFaults (faults faults' : ℕ) (lost lost' : Bool) : Type 0 where
  pub counted : faults ≤ faults'
  pub stays : lost ≡ true → lost' ≡ true
  pub cause : BecameLost lost lost' → Rose faults faults'
