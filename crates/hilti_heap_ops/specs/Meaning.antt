-- What the instructions on structs, references and callables mean, over a store that never loses an
-- object.
use Rattle.std.specs.Prelude.{ℕ, Bool, true, false, List, Option, Some, None}
use Rattle.std.specs.Prelude.{replicate, slice_get, slice_set}
use Rattle.std.specs.Option.{option_flatten, is_some}
use Rattle.hilti_base.specs.declared.refusal.Raise.TheVariants.{UnsetField}
use Rattle.hilti_values.specs.declared.value.Value.{Value, out-Value}
use Rattle.hilti_values.specs.declared.value.Value.TheOpen.{Value-F}
use Rattle.hilti_values.specs.declared.value.Value.TheVariants as values
use Rattle.hilti_heap.specs.declared.object.Object.{Object}
use Rattle.hilti_heap.specs.declared.object.Object.TheVariants.{Struct, Bound}
use Rattle.hilti_heap.specs.Stores.{Store, Answer, Answer.Done, create, change, told}

-- new of a struct: all its fields are unset
abbrev pub struct_new : ℕ → Store → Answer
struct_new fields = create (Struct (replicate fields None))

-- the value of a field; none where it is unset
abbrev pub field_of : ℕ → Object → Option Value
field_of at (Struct fields) = option_flatten (slice_get fields at)
field_of at _ = None

-- a struct with another content of a field
abbrev pub with_field : ℕ → Option Value → Object → Object
with_field at field (Struct fields) = Struct (slice_set fields at field)
with_field at field o = o

-- struct.get s f
abbrev pub struct_get : Value → ℕ → Store → Answer
struct_get s at = told (field_of at) UnsetField s

-- struct.set s f x
abbrev pub struct_set : Value → ℕ → Value → Store → Answer
struct_set s at x = change (with_field at (Some x)) s

-- struct.unset s f
abbrev pub struct_unset : Value → ℕ → Store → Answer
struct_unset s at = change (with_field at None) s

-- whether a field is set
abbrev pub field_is_set : ℕ → Object → Option Value
field_is_set at o = Some (values.Bool (is_some (field_of at o)))

-- struct.is_set s f
abbrev pub struct_is_set : Value → ℕ → Store → Answer
struct_is_set s at = told (field_is_set at) UnsetField s

-- whether a value is Null
abbrev pub null_step : Value-F Value → Bool
null_step Value-F.Null = true
null_step _ = false

abbrev pub is_null : Value → Bool
is_null v = null_step (out-Value v)

-- ref.is_null x
abbrev pub ref_is_null : Value → Store → Answer
ref_is_null x st = Done (Some (values.Bool (is_null x))) st

-- callable.bind F (x ..)
abbrev pub callable_bind : ℕ → List Value → Store → Answer
callable_bind function arguments = create (Bound (record { n = function }) arguments)
