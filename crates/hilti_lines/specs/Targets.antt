-- The targets of lines.
use Rattle.std.specs.Prelude.{ℕ, Bool, true, false, not, ◌&&◌, Option, Some, None, is_some}
use Rattle.std.specs.Option.{option_map, option_and_then}
use Rattle.hilti_base.specs.declared.names.Place.{Place}
use Rattle.hilti_base.specs.declared.refusal.Refusal.{Refusal}
use Rattle.hilti_base.specs.declared.refusal.Refusal.TheVariants.{At}
use Rattle.hilti_types.specs.declared.value_type.ValueType.{ValueType, out-ValueType}
use Rattle.hilti_types.specs.declared.value_type.ValueType.TheVariants as types
use Rattle.hilti_module.specs.declared.types.Name.{Name}
use Rattle.hilti_scope.specs.declared.meaning.Meaning.{Meaning}
use Rattle.hilti_scope.specs.declared.meaning.Meaning.TheVariants as means
use Rattle.hilti_table.specs.declared.row.Gives.{Gives}
use Rattle.hilti_table.specs.declared.row.Gives.TheVariants as gives
use Rattle.hilti_table.specs.declared.row.Part.TheVariants as parts
use Rattle.hilti_parts.specs.declared.parts.Operand.{Operand}
use Rattle.hilti_parts.specs.declared.parts.Operand.TheVariants as operands
use Rattle.hilti_parts.specs.declared.parts.Variable.{Variable}
use Rattle.hilti_row_types.specs.Same.{same_type}
use Rattle.hilti_typing.specs.Context.{Known}
use Rattle.hilti_typing.specs.Fits.{known_type, known_object, known_part, called_result}
use Rattle.hilti_typing.specs.Types.{plain_type, item_of, iterated, is_int}
use Rattle.hilti_operands.specs.Seen.{BodySeen, LineSeen}
use Rattle.hilti_operands.specs.Values.{given, kind_given}

-- the variable that a target names, and its type
abbrev pub target_given : BodySeen → Option Name → Option Operand
target_given body None = None
target_given body (Some name) = given body name

abbrev pub variable_named : Operand → Option Variable
variable_named (operands.Var v kind) = Some v
variable_named _ = None

abbrev pub target_variable : BodySeen → Option Name → Option Variable
target_variable body target = option_and_then variable_named (target_given body target)

abbrev pub target_type : BodySeen → Option Name → Option ValueType
target_type body target = kind_given (target_given body target)

-- a target that is written is a variable
abbrev pub is_variable : Option Name → Option ValueType → Bool
is_variable (Some name) None = false
is_variable _ _ = true

-- a target has to be there, or may be, and is of the type that a row gives
abbrev pub is_given : ValueType → Option ValueType → Bool
is_given kind None = false
is_given kind (Some result) = same_type result kind

abbrev pub needs : Option ValueType → Option ValueType → Bool
needs None result = false
needs (Some kind) result = is_given kind result

abbrev pub may_take : Option ValueType → Option ValueType → Bool
may_take None result = true
may_take (Some kind) result = is_given kind result

abbrev pub is_any_int : Option ValueType → Bool
is_any_int None = false
is_any_int (Some kind) = is_int (out-ValueType kind)

-- whether the type of a target is the one that a row gives, behind what is known
abbrev pub gets : ℕ → Option ValueType → Gives → Known → Bool
gets width target gives.Nothing known = not (is_some target)
gets width target (gives.Fixed t) known = needs target (Some (plain_type t))
gets width target gives.Sized known = needs target (Some (types.Int width))
gets width target gives.Same known = needs target (known_type known)
gets width target (gives.Part part) known = needs target (known_part part known)
gets width target gives.Popped known = may_take target (known_part parts.First known)
gets width target gives.Iterator known = needs target (option_map types.Iter (known_object known))
gets width target gives.Item known =
    needs target (option_and_then item_of (option_and_then iterated (known_type known)))
gets width target gives.Called known = may_take target (called_result known)
gets width target gives.AnyInt known = is_any_int target

-- whether the target of a line is one that its row allows
abbrev pub is_target : LineSeen → Option Name → Gives → Known → Bool
is_target line target rule known =
    is_variable target line.target && gets line.width line.target rule known

-- a wrong target: code 21 at a name that means nothing, else 32; where none is written, at the
-- mnemonic
abbrev pub target_code : Meaning → ℕ
target_code means.Nothing = 21
target_code _ = 32

abbrev pub target_refusal : LineSeen → Option Name → Refusal
target_refusal line None = At line.mnemonic 32
target_refusal line (Some name) = At name.first.place (target_code (line.body.mean name))
