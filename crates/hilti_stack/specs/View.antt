-- How one list of values stands for frames.
use Rattle.std.specs.Prelude.{◌≡◌, ℕ, ◌+◌, ◌≤◌, List, [], ◌∷◌, length, take, drop}
use Rattle.hilti_values.specs.declared.value.Value.{Value}
use Rattle.hilti_stack.specs.declared.stack.Link.{Link}
use Rattle.hilti_stack.specs.declared.stack.Stack.TheInside.{Inside}
use Rattle.hilti_stack.specs.Frames.{Frame, Frames, frame}

-- how many slots callers have
abbrev pub total : List Link → ℕ
total [] = 0
total (link ∷ links) = link.count + total links

-- the callers, whose slots stand one caller's behind another's
abbrev pub split : List Link → List Value → List Frame
split [] values = []
split (link ∷ links) values =
    frame link.head (take link.count values) ∷ split links (drop link.count values)

-- values as the slots of callers, then those of the top from a base, and then what is being made
abbrev pub frames_of : List Link → ℕ → ℕ → List Value → Frames
frames_of links base count values = record {
  below = split links values;
  slots = take count (drop base values);
  made = drop (base + count) values;
}

abbrev pub frames : Inside → Frames
frames s = frames_of s.links.items s.base s.count s.values.items

-- the slots of the top stand behind those of all callers
pub record Stands (links : List Link) (base count : ℕ) (values : List Value) : Type 0 where
  pub base_is : base ≡ total links
  pub within : base + count ≤ length values

abbrev pub IsStack : Inside → Type 0
IsStack s = Stands s.links.items s.base s.count s.values.items
