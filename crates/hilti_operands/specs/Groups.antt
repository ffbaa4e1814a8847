-- What operands in parentheses stand for.
use Rattle.std.specs.Prelude.{ℕ, nat_eq, nat_le, Bool, false, ◌&&◌, cond, List, [], ◌∷◌, length}
use Rattle.std.specs.Prelude.{drop, slice_get, Option, Some, None, Result, Ok, Err}
use Rattle.std.specs.Option.{option_map}
use Rattle.hilti_base.specs.declared.names.Place.{Place}
use Rattle.hilti_base.specs.declared.refusal.Refusal.{Refusal}
use Rattle.hilti_base.specs.declared.refusal.Refusal.TheVariants.{At}
use Rattle.hilti_types.specs.Sendable.{is_sendable_in}
use Rattle.hilti_types.specs.declared.declared.Declared.{Declared}
use Rattle.hilti_types.specs.declared.value_type.ValueType.{ValueType, out-ValueType}
use Rattle.hilti_types.specs.declared.value_type.ValueType.TheVariants as types
use Rattle.hilti_module.specs.declared.module.Simple.{Simple}
use Rattle.hilti_module.specs.declared.module.Simple.TheVariants as simples
use Rattle.hilti_table.specs.declared.row.Kind.{Kind}
use Rattle.hilti_table.specs.declared.row.Kind.TheVariants as kinds
use Rattle.hilti_parts.specs.declared.parts.Operand.{Operand}
use Rattle.hilti_parts.specs.declared.parts.Operand.TheVariants as operands
use Rattle.hilti_typing.specs.Context.{Signature, Known}
use Rattle.hilti_typing.specs.Fits.{known_signature, known_rule}
use Rattle.hilti_typing.specs.Types.{asked_for, is_int}
use Rattle.hilti_operands.specs.declared.own.Untyped.{Untyped}
use Rattle.hilti_operands.specs.Answers.{then_read, refused, if_passes}
use Rattle.hilti_operands.specs.Names.{known_parts}
use Rattle.hilti_operands.specs.Seen.{BodySeen, LineSeen}
use Rattle.hilti_operands.specs.Values.{simple_start, read_asked, read_own}

-- an argument that is sent to another thread: where its parameter isn't of a sendable type it is
-- refused with code 35, behind its own faults
abbrev pub is_sent : List Declared → Option ValueType → Bool
is_sent table (Some kind) = is_sendable_in table kind
is_sent table None = false

abbrev pub read_sent : LineSeen → Option ValueType → Simple → Result Operand Refusal
read_sent line kind simple =
    then_read (read_asked line.body kind simple)
    (λ (x : Operand). if_passes (is_sent line.body.tables.types kind) x
    (At (simple_start simple) 35))

-- a part of a tuple: a number and Null take their types from the part of the target
abbrev pub number_in : LineSeen → Option ValueType → ValueType
number_in line None = types.Int line.width
number_in line (Some part) = cond (is_int (out-ValueType part)) part (types.Int line.width)

abbrev pub untyped_part : LineSeen → Option ValueType → Untyped
untyped_part line part = record { number = Some (number_in line part); null = part }

abbrev pub read_part : LineSeen → Option ValueType → Simple → Result Operand Refusal
read_part line part simple = read_own line.body (untyped_part line part) simple

-- a part of a rule: a value, or `*`
abbrev pub read_match : BodySeen → Option ValueType → Simple → Result Operand Refusal
read_match body kind (simples.Any place) = Ok operands.Star
read_match body kind simple = read_asked body kind simple

-- one of the operands of a group of a kind, where the type that belongs to its place is this
abbrev pub read_member : LineSeen → Kind → Option ValueType → Simple → Result Operand Refusal
read_member line kinds.Sent kind simple = read_sent line kind simple
read_member line kinds.Parts kind simple = read_part line kind simple
read_member line kinds.Rule kind simple = read_match line.body kind simple
read_member line kinds.Query kind simple = read_asked line.body (option_map asked_for kind) simple
read_member line _ kind simple = read_asked line.body kind simple

-- all of them, from left to right
unfoldable pub read_members :
    (Option ValueType → Simple → Result Operand Refusal) → List ValueType → List Simple
    → Result (List Operand) Refusal
read_members read kinds [] = Ok []
read_members read kinds (x ∷ more) =
    then_read (read (slice_get kinds 0) x)
    (λ (first : Operand). then_read (read_members read (drop 1 kinds) more)
    (λ (others : List Operand). Ok (first ∷ others)))

-- the types that belong to the places of a group: those of the parameters of what is called, of the
-- parts of the rules of the known classifier, or of the parts of the target
abbrev pub parameters_of : Option Signature → Option (List ValueType)
parameters_of None = None
parameters_of (Some signature) = Some signature.parameters

abbrev pub member_types : LineSeen → Kind → Known → Option (List ValueType)
member_types line kinds.Arguments known = parameters_of (known_signature known)
member_types line kinds.Sent known = parameters_of (known_signature known)
member_types line kinds.Parts known = Some (known_parts line.target)
member_types line kinds.Rule known = known_rule known
member_types line kinds.Query known = known_rule known
member_types line _ known = None

-- a tuple has 1 to 8 parts; of all others there is one for each type
abbrev pub is_counted : Kind → ℕ → ℕ → Bool
is_counted kinds.Parts asked count = nat_le 1 count && nat_le count 8
is_counted _ asked count = nat_eq asked count

abbrev pub grouped_read : Result (List Operand) Refusal → Result Operand Refusal
grouped_read (Ok items) = Ok (operands.Group items)
grouped_read (Err refusal) = Err refusal

abbrev pub members_read :
    LineSeen → Kind → Place → List Simple → Option (List ValueType) → Result Operand Refusal
members_read line kind place items None = refused place 30
members_read line kind place items (Some asked) =
    cond (is_counted kind (length asked) (length items))
    (grouped_read (read_members (read_member line kind) asked items)) (refused line.mnemonic 31)

-- operands in parentheses, where a kind asks for some
abbrev pub read_group : LineSeen → Kind → Known → Place → List Simple → Result Operand Refusal
read_group line kind known place items =
    members_read line kind place items (member_types line kind known)
