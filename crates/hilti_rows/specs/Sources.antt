-- Where the values of operands are.
use Rattle.std.specs.Prelude.{List, [], ◌∷◌, Option, Some, None}
use Rattle.std.specs.Option.{option_map, option_and_then}
use Rattle.hilti_types.specs.declared.value_type.ValueType.{ValueType}
use Rattle.hilti_parts.specs.declared.parts.Operand.{Operand}
use Rattle.hilti_parts.specs.declared.parts.Operand.TheVariants as operands
use Rattle.hilti_parts.specs.declared.parts.Variable.{Variable}
use Rattle.hilti_parts.specs.declared.parts.Variable.TheVariants as variables
use Rattle.hilti_parts.specs.Named.{given_kind, grouped}
use Rattle.hilti_values.specs.Literals.{value_of}
use Rattle.hilti_rows.specs.declared.row.Printed.{Printed}
use Rattle.hilti_rows.specs.declared.row.Source.{Source}
use Rattle.hilti_rows.specs.declared.row.Source.TheVariants as sources

abbrev pub variable_source : Variable → Source
variable_source (variables.Slot n) = sources.Slot n
variable_source (variables.Global n) = sources.Global n

-- a variable, or the value of a literal; nothing else has a value
abbrev pub source_of : Operand → Option Source
source_of (operands.Var v kind) = Some (variable_source v)
source_of (operands.Literal kind tree) = option_map sources.Constant (value_of tree)
source_of _ = None

-- what `of` gives for each, where it gives something for all
abbrev pub each_of : {A B : Type 0} → (A → Option B) → List A → Option (List B)
each_of of [] = Some []
each_of of (x ∷ more) =
    option_and_then (λ y. option_map (λ ys. y ∷ ys) (each_of of more)) (of x)

abbrev pub sources_of : List Operand → Option (List Source)
sources_of = each_of source_of

-- those of the operands in parentheses
abbrev pub grouped_sources : Operand → Option (List Source)
grouped_sources group = option_and_then sources_of (grouped group)

abbrev pub printed_with : Option ValueType → Source → Option Printed
printed_with None s = None
printed_with (Some kind) s = Some (record { value = s; kind = kind })

-- a value and its type
abbrev pub printed_of : Operand → Option Printed
printed_of x = option_and_then (printed_with (given_kind x)) (source_of x)

abbrev pub pair : {A B : Type 0} → A → B → A × B
pair a b = (a, b)

-- what is made of two things, where both are there
abbrev pub both : {A B C : Type 0} → (A → B → C) → Option A → Option B → Option C
both make a b = option_and_then (λ x. option_map (make x) b) a
