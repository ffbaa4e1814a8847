-- How often values hold an object.
use Rattle.std.specs.Prelude.{ℕ, nat_eq, List, map, sum, sum_by, Option, Some, None}
use Rattle.std.specs.Prelude.{if◌then◌else◌}
use Rattle.hilti_values.specs.declared.value.Value.{Value}
use Rattle.hilti_values.specs.declared.value.Value.TheOpen.{Value-F}
use Rattle.hilti_values.specs.declared.value.Value.TheFolds.{fold-Value}
use Rattle.hilti_heap.specs.declared.object.Object.{Object}
use Rattle.hilti_heap.specs.declared.object.Object.TheVariants.{Struct, Bound}

-- 1 where the two numbers are one
abbrev pub is : ℕ → ℕ → ℕ
is s r = if nat_eq s r then 1 else 0

-- a reference holds its object; a tuple holds what its parts hold
abbrev pub held_step : ℕ → Value-F ℕ → ℕ
held_step s (Value-F.Ref r) = is s r
held_step s (Value-F.Tuple parts) = sum parts
held_step s (Value-F.Iter cursor) = is s cursor.object
held_step s _ = 0

-- how often a value holds the object s
abbrev pub held : ℕ → Value → ℕ
held s = fold-Value ℕ (held_step s)

-- how often values hold it
abbrev pub all_held : ℕ → List Value → ℕ
all_held s values = sum (map (held s) values)

-- what there is adds to a sum
abbrev pub part : {X : Type 0} → (X → ℕ) → Option X → ℕ
part f None = 0
part f (Some x) = f x

-- how often fields hold it
abbrev pub fields_held : ℕ → List (Option Value) → ℕ
fields_held s fields = sum_by (part (held s)) fields

-- how often an object holds it
abbrev pub object_held : ℕ → Object → ℕ
object_held s (Struct fields) = fields_held s fields
object_held s (Bound function values) = all_held s values
