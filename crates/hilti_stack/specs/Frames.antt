-- Frames as contracts see them.
use Rattle.std.specs.Prelude.{◌≡◌, List, [], ◌∷◌, ◌++◌}
use Rattle.hilti_stack.specs.declared.head.Head.{Head}
use Rattle.hilti_values.specs.declared.value.Value.{Value}

-- what a frame is, and its slots
pub record Frame : Type 0 where
  pub head : Head
  pub slots : List Value

-- the frames that wait, the nearest caller last; the slots of the top frame; and those that are
-- being made for its callee
pub record Frames : Type 0 where
  pub below : List Frame
  pub slots : List Value
  pub made : List Value

abbrev pub frame : Head → List Value → Frame
frame head slots = record { head = head; slots = slots }

-- nothing waits, and the top has no slots
abbrev pub no_frames : Frames
no_frames = record { below = []; slots = []; made = [] }

abbrev pub with_slots : Frames → List Value → Frames
with_slots s slots = record s { slots = slots }

abbrev pub with_made : Frames → List Value → Frames
with_made s made = record s { made = made }

-- what was made are the slots of the top
abbrev pub begun : Frames → Frames
begun s = record s { slots = s.made; made = [] }

-- what was made are the slots of a new top, above the old one, which waits
abbrev pub entered : Frames → Head → Frames
entered s head =
    record { below = s.below ++ frame head s.slots ∷ []; slots = s.made; made = [] }

-- the top is gone with what it made, and the nearest caller, which had this head, is the top
pub record Leaves (s : Frames) (head : Head) (after : Frames) : Type 0 where
  pub caller : s.below ≡ after.below ++ frame head after.slots ∷ []
  pub made : after.made ≡ []

-- Leaving a callee undoes entering it, whatever the callee did to its own slots: the caller is as
-- it was, but that its callee's slots are no longer being made.
abbrev pub Undoes : Frames → Head → Frames → Head → Frames → Type 0
Undoes s its callee head after =
    callee.below ≡ (entered s its).below → Leaves callee head after
    → (head ≡ its) × (after ≡ with_made s [])
