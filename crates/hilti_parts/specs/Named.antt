-- What an operand names or gives.
use Rattle.std.specs.Prelude.{ℕ, List, Option, Some, None}
use Rattle.hilti_types.specs.declared.value_type.ValueType.{ValueType}
use Rattle.hilti_parts.specs.declared.parts.Operand.{Operand, out-Operand}
use Rattle.hilti_parts.specs.declared.parts.Operand.TheOpen.{Operand-F}
use Rattle.hilti_parts.specs.declared.parts.Operand.TheVariants as operands

-- the type of what an operand gives
abbrev pub given_kind : Operand → Option ValueType
given_kind (operands.Var v kind) = Some kind
given_kind (operands.Literal kind value) = Some kind
given_kind _ = None

-- the block that an operand names
abbrev pub named_block : Operand → Option ℕ
named_block (operands.Block n) = Some n
named_block _ = None

-- the function that an operand names
abbrev pub named_function : Operand → Option ℕ
named_function (operands.Function f) = Some f.n
named_function _ = None

abbrev pub in_parentheses : Operand-F Operand → Option (List Operand)
in_parentheses (Operand-F.Group items) = Some items
in_parentheses _ = None

-- the operands that an operand has in parentheses
abbrev pub grouped : Operand → Option (List Operand)
grouped operand = in_parentheses (out-Operand operand)
