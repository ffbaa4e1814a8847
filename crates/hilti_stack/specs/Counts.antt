-- How much the values of a stack hold together, for any measure of what one value holds.
use Rattle.std.specs.Prelude.{◌≡◌, ◌≤◌, ℕ, ◌+◌, [], ◌∷◌, ◌++◌, sum_by, slice_get, slice_set, Some}
use Rattle.hilti_values.specs.declared.value.Value.{Value}
use Rattle.hilti_stack.specs.declared.head.Head.{Head}
use Rattle.hilti_stack.specs.Frames.{Frame, Frames, with_slots, with_made, begun, entered}
use Rattle.hilti_stack.specs.Frames.{Leaves}

-- by the slots of all frames and by those that are being made
abbrev pub held : (Value → ℕ) → Frames → ℕ
held holds s = sum_by (λ (caller : Frame). sum_by holds caller.slots) s.below
    + sum_by holds s.slots + sum_by holds s.made

-- where a slot has another value, the old one is held besides
pub record SetsCount (holds : Value → ℕ) (s : Frames) : Type 0 where
  pub set : (n : ℕ) (old value : Value) → slice_get s.slots n ≡ Some old
      → held holds (with_slots s (slice_set s.slots n value)) + holds old
      ≡ held holds s + holds value
  pub slot : (n : ℕ) (value : Value) → slice_get s.slots n ≡ Some value
      → holds value ≤ held holds s

-- what was made is held once, before a call and in the callee
pub record CallsCount (holds : Value → ℕ) (s : Frames) : Type 0 where
  pub make : (value : Value)
      → held holds (with_made s (s.made ++ value ∷ [])) ≡ held holds s + holds value
  pub unmake : held holds (with_made s []) + sum_by holds s.made ≡ held holds s
  pub begin : s.slots ≡ [] → held holds (begun s) ≡ held holds s
  pub enter : (head : Head) → held holds (entered s head) ≡ held holds s

-- a frame that is gone holds nothing any more, nor what it made
abbrev pub LeavesCount : (Value → ℕ) → Frames → Frames → Head → Type 0
LeavesCount holds s after head = Leaves s head after
    → held holds after + sum_by holds s.slots + sum_by holds s.made ≡ held holds s
