-- What written values stand for.
use Rattle.std.specs.Prelude.{ℕ, ◌^◌, nat_lt, Bool, false, cond, List, Option, Some, None}
use Rattle.std.specs.Prelude.{Result, Ok, Err}
use Rattle.std.specs.Option.{option_map, option_and_then}
use Rattle.hilti_base.specs.declared.names.Place.{Place}
use Rattle.hilti_base.specs.declared.refusal.Refusal.{Refusal}
use Rattle.hilti_base.specs.declared.refusal.Refusal.TheVariants.{At}
use Rattle.hilti_types.specs.declared.declared.Declared.{Declared}
use Rattle.hilti_types.specs.declared.value_type.ValueType.{ValueType}
use Rattle.hilti_types.specs.declared.value_type.ValueType.TheVariants as types
use Rattle.hilti_tree.specs.declared.tree.Tree.{Tree}
use Rattle.hilti_module.specs.declared.types.Name.{Name}
use Rattle.hilti_module.specs.declared.module.Literal.{Literal}
use Rattle.hilti_module.specs.declared.module.Literal.TheVariants as literals
use Rattle.hilti_module.specs.declared.module.Seconds.{Seconds}
use Rattle.hilti_module.specs.declared.module.Simple.{Simple}
use Rattle.hilti_module.specs.declared.module.Simple.TheVariants as simples
use Rattle.hilti_scope.specs.declared.meaning.Meaning.{Meaning}
use Rattle.hilti_scope.specs.declared.meaning.Meaning.TheVariants as means
use Rattle.hilti_resolve.specs.Containers.{container_start}
use Rattle.hilti_resolve.specs.Literals.{literal_refusal, nanoseconds}
use Rattle.hilti_resolve.specs.LiteralValues.{literal_value, literal_type}
use Rattle.hilti_resolve.specs.Refused.{parametric_start}
use Rattle.hilti_table.specs.declared.row.Kind.{Kind}
use Rattle.hilti_table.specs.declared.row.Kind.TheVariants as kinds
use Rattle.hilti_table.specs.declared.row.Test.{Test}
use Rattle.hilti_table.specs.declared.row.Test.TheVariants as tests
use Rattle.hilti_parts.specs.declared.parts.Operand.{Operand}
use Rattle.hilti_parts.specs.declared.parts.Operand.TheVariants as operands
use Rattle.hilti_parts.specs.declared.parts.Variable.{Variable}
use Rattle.hilti_parts.specs.declared.parts.Variable.TheVariants as variables
use Rattle.hilti_parts.specs.Named.{given_kind}
use Rattle.hilti_typing.specs.Context.{Known, variable_type}
use Rattle.hilti_typing.specs.Fits.{known_type, known_part}
use Rattle.hilti_typing.specs.Types.{plain_type, passes}
use Rattle.hilti_operands.specs.Answers.{then_read, if_passes}
use Rattle.hilti_row_types.specs.Same.{same_type}
use Rattle.hilti_operands.specs.declared.own.Untyped.{Untyped}
use Rattle.hilti_operands.specs.Seen.{BodySeen, LineSeen, context}

-- the first token of an operand
abbrev pub literal_start : Literal → Place
literal_start (literals.Number number) = number.place
literal_start (literals.Address place bits) = place
literal_start (literals.Net place bits length) = place
literal_start (literals.Port place number udp) = place
literal_start (literals.Text place bytes) = place
literal_start (literals.Bytes place bytes) = place
literal_start (literals.True place) = place
literal_start (literals.False place) = place
literal_start (literals.Null place) = place
literal_start (literals.Constant name constant) = name.first.place
literal_start (literals.Time place number) = place
literal_start (literals.Interval place number) = place

abbrev pub simple_start : Simple → Place
simple_start (simples.Literal literal) = literal_start literal
simple_start (simples.Name name) = name.first.place
simple_start (simples.Label place name) = place
simple_start (simples.Any place) = place
simple_start (simples.Plain place plain) = place
simple_start (simples.Parametric parametric) = parametric_start parametric
simple_start (simples.Timer place) = place
simple_start (simples.Manager place) = place
simple_start (simples.Container container) = container_start container

-- An operand of a wrong kind is refused at its first token: with code 21 where that is a name that
-- means nothing, with code 36 where it is a time or an interval that is too large, else with 30.
abbrev pub name_code : Meaning → ℕ
name_code means.Nothing = 21
name_code _ = 30

abbrev pub seconds_code : Seconds → ℕ
seconds_code number = cond (nat_lt (nanoseconds number) (2 ^ 64)) 30 36

abbrev pub literal_code : (Name → Meaning) → Literal → ℕ
literal_code mean (literals.Constant name constant) = name_code (mean name)
literal_code mean (literals.Time place number) = seconds_code number
literal_code mean (literals.Interval place number) = seconds_code number
literal_code mean _ = 30

abbrev pub wrong_code : (Name → Meaning) → Simple → ℕ
wrong_code mean (simples.Name name) = name_code (mean name)
wrong_code mean (simples.Literal literal) = literal_code mean literal
wrong_code mean _ = 30

abbrev pub wrong : BodySeen → Simple → Refusal
wrong body simple = At (simple_start simple) (wrong_code body.mean simple)

-- the variable that a name means
abbrev pub variable_meant : Meaning → Option Variable
variable_meant (means.Local slot) = Some (variables.Slot slot)
variable_meant (means.Global n) = Some (variables.Global n)
variable_meant _ = None

abbrev pub with_its_type : BodySeen → Variable → Option Operand
with_its_type body variable =
    option_map (λ (kind : ValueType). operands.Var variable kind)
    (variable_type (context body) variable)

-- the variable of a name, with its type
abbrev pub given : BodySeen → Name → Option Operand
given body name = option_and_then (with_its_type body) (variable_meant (body.mean name))

abbrev pub is_of_type : ValueType → Option ValueType → Bool
is_of_type kind (Some own) = same_type own kind
is_of_type kind None = false

abbrev pub variable_of_type : ValueType → Refusal → Option Operand → Result Operand Refusal
variable_of_type kind refusal None = Err refusal
variable_of_type kind refusal (Some x) = if_passes (is_of_type kind (given_kind x)) x refusal

abbrev pub literal_of_type : ValueType → Option Refusal → Tree → Result Operand Refusal
literal_of_type kind (Some refusal) value = Err refusal
literal_of_type kind None value = Ok (operands.Literal kind value)

-- a value of a type: a variable of it, or a literal of it
abbrev pub read_value : BodySeen → ValueType → Simple → Result Operand Refusal
read_value body kind (simples.Name name) =
    variable_of_type kind (wrong body (simples.Name name)) (given body name)
read_value body kind (simples.Literal literal) =
    literal_of_type kind (literal_refusal body.tables.types body.mean kind literal)
    (literal_value body.tables.types body.mean literal)
read_value body kind simple = Err (wrong body simple)

-- a value of a type that is asked
abbrev pub read_asked : BodySeen → Option ValueType → Simple → Result Operand Refusal
read_asked body (Some kind) simple = read_value body kind simple
read_asked body None simple = Err (wrong body simple)

-- the type that a kind asks of a value
abbrev pub asked_type : LineSeen → Kind → Known → Option ValueType
asked_type line (kinds.Fixed plain) known = Some (plain_type plain)
asked_type line kinds.Sized known = Some (types.Int line.width)
asked_type line (kinds.Part part) known = known_part part known
asked_type line kinds.Same known = known_type known
asked_type line _ known = None

-- the type that a literal has by itself; numbers and Null have these types where none is asked
abbrev pub literal_by : Untyped → (Name → Meaning) → Literal → Option ValueType
literal_by untyped mean (literals.Number number) = untyped.number
literal_by untyped mean (literals.Null place) = untyped.null
literal_by untyped mean literal = literal_type mean literal

abbrev pub kind_given : Option Operand → Option ValueType
kind_given found = option_and_then given_kind found

-- the type that a value has by itself
abbrev pub own_type : BodySeen → Untyped → Simple → Option ValueType
own_type body untyped (simples.Name name) = kind_given (given body name)
own_type body untyped (simples.Literal literal) = literal_by untyped body.mean literal
own_type body untyped _ = None

abbrev pub read_own : BodySeen → Untyped → Simple → Result Operand Refusal
read_own body untyped simple = read_asked body (own_type body untyped simple) simple

-- a number is of the line's width, and of 64 bits where the row has no width; only where any type
-- will do, Null has one
abbrev pub untyped_by : LineSeen → Test → Untyped
untyped_by line tests.Any = record { number = Some (types.Int line.width); null = line.null }
untyped_by line tests.Key = record { number = Some (types.Int line.width); null = None }
untyped_by line tests.Sendable = record { number = Some (types.Int 64); null = None }
untyped_by line tests.Int = record { number = Some (types.Int 64); null = None }
untyped_by line _ = record { number = None; null = None }

abbrev pub is_passing : List Declared → Test → Option ValueType → Bool
is_passing table test (Some kind) = passes table test kind
is_passing table test None = false

-- a value of a type that isn't sendable is refused with code 35
abbrev pub test_code : Test → ℕ
test_code tests.Sendable = 35
test_code _ = 30

abbrev pub tested : BodySeen → Test → Place → Operand → Result Operand Refusal
tested body test place x =
    if_passes (is_passing body.tables.types test (given_kind x)) x (At place (test_code test))

-- a value whose own type passes a test
abbrev pub read_tested : LineSeen → Test → Simple → Result Operand Refusal
read_tested line test simple =
    then_read (read_own line.body (untyped_by line test) simple)
    (tested line.body test (simple_start simple))

-- a value of the type of the body's result, and any value where the body has none
abbrev pub read_returned : LineSeen → Option ValueType → Simple → Result Operand Refusal
read_returned line (Some kind) simple = read_value line.body kind simple
read_returned line None simple =
    read_own line.body (record { number = Some (types.Int line.width); null = None }) simple
