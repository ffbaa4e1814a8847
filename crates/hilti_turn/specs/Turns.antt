-- What contracts see of a turn.
use Rattle.std.specs.Prelude.{◌≡◌, ℕ, ◌+◌, ◌<◌, List, Some, slice_get}
use Rattle.hilti_turn.specs.declared.turn.Turn.{Turn}
use Rattle.hilti_turn.specs.declared.pass.Pass.{Pass}
use Rattle.hilti_turn.specs.Passes.{number, IsFresh}

module _ {V E A : Type 0} where
  -- how many passes were made with the turn
  abbrev pub seat_count : Turn V E A → ℕ
  seat_count turn = turn.table.shared.key.seats

  -- the pass was made with this turn
  abbrev pub IsPassOf : Turn V E A → Pass V E A → Type 0
  IsPassOf turn p = (p.seat.table_id ≡ turn.table.shared.table_id) × (p.number ≡ p.seat.me.0.number)

  -- the passes of a new turn stand by number
  abbrev pub AreFresh : Turn V E A → A → List (Pass V E A) → Type 0
  AreFresh turn topic passes = (k : ℕ) (p : Pass V E A) → slice_get passes k ≡ Some p
      → (number p ≡ k) × IsPassOf turn p × IsFresh topic p

  -- the same from the number `from` on
  abbrev pub AreFreshFrom : ℕ → Turn V E A → A → List (Pass V E A) → Type 0
  AreFreshFrom from turn topic passes = (k : ℕ) (p : Pass V E A) → slice_get passes k ≡ Some p
      → (number p ≡ from + k) × IsPassOf turn p × IsFresh topic p

  -- some pass of the list has this number
  abbrev pub HasNumber : List (Pass V E A) → ℕ → Type 0
  HasNumber passes n = (k : ℕ) × (p : Pass V E A) × (slice_get passes k ≡ Some p) × (number p ≡ n)

  -- each pass that was made with the turn is there
  abbrev pub AreAll : Turn V E A → List (Pass V E A) → Type 0
  AreAll turn passes = (n : ℕ) → n < seat_count turn → HasNumber passes n
