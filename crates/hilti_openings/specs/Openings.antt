-- Where a call begins, and what it holds then.
use Rattle.std.specs.Prelude.{◌≡◌, ℕ, List, [], map, None}
use Rattle.hilti_base.specs.declared.names.FnId.{FnId}
use Rattle.hilti_tree.specs.declared.tree.Tree.{Tree}
use Rattle.hilti_parts.specs.declared.parts.Parts.{Parts}
use Rattle.hilti_effects.specs.Acting.{at, entry}
use Rattle.hilti_effects.specs.Effect.{value_of_tree, fresh}
use Rattle.hilti_heap.specs.Held.{all_held}
use Rattle.hilti_values.specs.declared.value.Value.{Value}
use Rattle.hilti_openings.specs.declared.entries.Opened.{Opened}

-- a function with these arguments is at its first instruction, and nothing waits below it
pub record Opens (parts : Parts) (f : FnId) (arguments : List Tree) (o : Opened) : Type 0 where
  pub top : at o.position o.stack.slots ≡ entry parts f (map value_of_tree arguments) None
  pub alone : o.stack.below ≡ []
  pub none_made : o.stack.made ≡ []

-- no value holds an object
abbrev pub HoldNothing : List Value → Type 0
HoldNothing values = (serial : ℕ) → all_held serial values ≡ 0

-- Calls begin with values that hold no object, and so do the globals of a thread: there is nothing
-- that they could hold.
pub record BeginWithNothing (parts : Parts) : Type 0 where
  pub calls : (f : FnId) (arguments : List Tree) (o : Opened) → Opens parts f arguments o
      → HoldNothing o.stack.slots
  pub threads : (number : ℕ) → HoldNothing (fresh parts number).globals
