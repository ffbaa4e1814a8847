-- What the lines of a function or a hook body are typed in.
use Rattle.std.specs.Prelude.{ℕ, Bool, List, Option, slice_get}
use Rattle.hilti_types.specs.declared.declared.Declared.{Declared}
use Rattle.hilti_types.specs.declared.declared.OverlayField.{OverlayField}
use Rattle.hilti_types.specs.declared.value_type.ValueType.{ValueType}
use Rattle.hilti_parts.specs.declared.parts.Variable.{Variable}
use Rattle.hilti_parts.specs.declared.parts.Variable.TheVariants as variables

-- the types of what a function takes and gives; a hook gives nothing
pub record Signature : Type 0 where
  pub parameters : List ValueType
  pub result : Option ValueType

-- what a body can name, by its place: declared types, globals by their types, functions and hooks
-- by their signatures, so many exceptions, the slots of the body by their types, and so many
-- blocks; and what body it is
pub record Context : Type 0 where
  pub declared : List Declared
  pub globals : List ValueType
  pub functions : List Signature
  pub hooks : List Signature
  pub exceptions : ℕ
  pub slots : List ValueType
  pub blocks : ℕ
  pub result : Option ValueType
  pub in_hook : Bool

-- a context with the type of a line's target, and the width of the line's numbers
pub record Setting : Type 0 where
  pub context : Context
  pub target : Option ValueType
  pub width : ℕ

-- what the operands of a line have told so far
pub data Known : Type 0 where
  Nothing : Known
  Of : ValueType → Known
  Calls : Signature → Known
  Reads : List OverlayField → Known

-- the type of a variable that is there
abbrev pub variable_type : Context → Variable → Option ValueType
variable_type c (variables.Slot n) = slice_get c.slots n
variable_type c (variables.Global n) = slice_get c.globals n
