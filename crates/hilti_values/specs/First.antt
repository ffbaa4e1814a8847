-- What a variable holds at first.
use Rattle.std.specs.Prelude.{ℕ, false, []}
use Rattle.hilti_addr.specs.Masks.{mapped}
use Rattle.hilti_types.specs.declared.value_type.Inner.TheOpen.{Inner-F, ValueType-F}
use Rattle.hilti_types.specs.declared.value_type.Inner.TheFolds.{fold-ValueType}
use Rattle.hilti_types.specs.declared.value_type.ValueType.{ValueType}
use Rattle.hilti_values.specs.declared.value.Value.{Value}
use Rattle.hilti_values.specs.declared.value.Value.TheVariants as values

-- false, 0, nothing, `0.0.0.0`, `0.0.0.0/0`, the TCP port 0, the first constant of an enum, of a
-- tuple what variables of its parts hold at first, and Null
abbrev pub first_step : ValueType-F ℕ Value → Value
first_step ValueType-F.Bool = values.Bool false
first_step (ValueType-F.Int bits) = values.Int 0
first_step ValueType-F.Text = values.Text []
first_step ValueType-F.Bytes = values.Bytes []
first_step ValueType-F.Addr = values.Addr (mapped 0)
first_step ValueType-F.Net = values.Net 96 (mapped 0)
first_step ValueType-F.Port = values.Port 0 false
first_step ValueType-F.Time = values.Time 0
first_step ValueType-F.Span = values.Span 0
first_step ValueType-F.Callable = values.Null
first_step (ValueType-F.Enum n) = values.Pick 0
first_step (ValueType-F.Tuple parts) = values.Tuple parts
first_step (ValueType-F.Iter over) = values.Null
first_step (ValueType-F.Ref to) = values.Null

-- the types of objects say nothing of it
abbrev pub no_value : Inner-F ℕ Value → ℕ
no_value _ = 0

-- what a variable of a type holds at first
abbrev pub first_of : ValueType → Value
first_of = fold-ValueType ℕ Value no_value first_step
