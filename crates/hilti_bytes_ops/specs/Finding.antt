-- Where bytes stand in others.
use Rattle.std.specs.Prelude.{ℕ, ◌+◌, nat_eq, Bool, List, length, drop, Option, Some, None, Result, Ok, Err}
use Rattle.std.specs.List.{find, range_with_len, starts_with}
use Rattle.hilti_base.specs.declared.refusal.Raise.{Raise}
use Rattle.hilti_base.specs.declared.refusal.Raise.TheVariants.{IndexError}

-- whether a needle stands in bytes at a place
abbrev pub stands_at : List ℕ → List ℕ → ℕ → Bool
stands_at bytes needle at = starts_with nat_eq (drop at bytes) needle

-- the places of bytes by rising place, the end as the last
abbrev pub places : List ℕ → List ℕ
places bytes = range_with_len 0 (length bytes + 1)

abbrev pub found : Option ℕ → Result ℕ Raise
found (Some at) = Ok at
found None = Err IndexError

-- the first place at which a needle stands
abbrev pub place_of : List ℕ → List ℕ → Result ℕ Raise
place_of bytes needle = found (find (stands_at bytes needle) (places bytes))
