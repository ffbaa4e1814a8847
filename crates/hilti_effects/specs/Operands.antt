-- The values of operands, and where results go.
use Rattle.std.specs.Prelude.{List, Option, Some, None, slice_get, slice_set, map}
use Rattle.hilti_parts.specs.declared.parts.Variable.{Variable}
use Rattle.hilti_parts.specs.declared.parts.Variable.TheVariants as variables
use Rattle.hilti_rows.specs.declared.row.Source.{Source}
use Rattle.hilti_rows.specs.declared.row.Source.TheVariants as sources
use Rattle.hilti_values.specs.declared.value.Value.{Value}
use Rattle.hilti_values.specs.declared.value.Value.TheVariants as values

-- the value at a source, over the slots and the globals
abbrev pub found : List Value → List Value → Source → Option Value
found slots globals (sources.Slot n) = slice_get slots n
found slots globals (sources.Global n) = slice_get globals n
found slots globals (sources.Constant value) = Some value

-- no typed program reads a variable that isn't there
abbrev pub value_or_null : Option Value → Value
value_or_null (Some value) = value
value_or_null None = values.Null

abbrev pub value_at : List Value → List Value → Source → Value
value_at slots globals s = value_or_null (found slots globals s)

abbrev pub values_at : List Value → List Value → List Source → List Value
values_at slots globals ss = map (value_at slots globals) ss

-- the slots, and the globals, after a value went to a variable
abbrev pub slots_with : Variable → Value → List Value → List Value
slots_with (variables.Slot n) value slots = slice_set slots n value
slots_with (variables.Global n) value slots = slots

abbrev pub globals_with : Variable → Value → List Value → List Value
globals_with (variables.Slot n) value globals = globals
globals_with (variables.Global n) value globals = slice_set globals n value

-- after a result went to its target, if there are both
abbrev pub slots_taking : Option Variable → Option Value → List Value → List Value
slots_taking (Some target) (Some value) slots = slots_with target value slots
slots_taking _ _ slots = slots

abbrev pub globals_taking : Option Variable → Option Value → List Value → List Value
globals_taking (Some target) (Some value) globals = globals_with target value globals
globals_taking _ _ globals = globals
