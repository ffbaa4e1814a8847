-- The values that variables have by default.
use Rattle.std.specs.Prelude.{ℕ, false, []}
use Rattle.hilti_addr.specs.Masks.{mapped}
use Rattle.hilti_tree.specs.declared.tree.Tree.{Tree}
use Rattle.hilti_tree.specs.declared.tree.Tree.TheVariants as trees
use Rattle.hilti_types.specs.declared.value_type.Inner.TheOpen.{Inner-F, ValueType-F}
use Rattle.hilti_types.specs.declared.value_type.Inner.TheFolds.{fold-ValueType}
use Rattle.hilti_types.specs.declared.value_type.ValueType.{ValueType}

-- false, 0, nothing, `0.0.0.0`, `0.0.0.0/0`, the TCP port 0, the first constant of an enum, of a
-- tuple the defaults of its parts, and Null
abbrev pub default_step : ValueType-F ℕ Tree → Tree
default_step ValueType-F.Bool = trees.Bool false
default_step (ValueType-F.Int bits) = trees.Int 0
default_step ValueType-F.Text = trees.Text []
default_step ValueType-F.Bytes = trees.Bytes []
default_step ValueType-F.Addr = trees.Addr (mapped 0)
default_step ValueType-F.Net = trees.Net (mapped 0) 96
default_step ValueType-F.Port = trees.Port 0 false
default_step ValueType-F.Time = trees.Time 0
default_step ValueType-F.Span = trees.Span 0
default_step ValueType-F.Callable = trees.Null
default_step (ValueType-F.Enum n) = trees.Pick 0
default_step (ValueType-F.Tuple parts) = trees.Tuple parts
default_step (ValueType-F.Iter over) = trees.Null
default_step (ValueType-F.Ref to) = trees.Null

-- the types of objects say nothing of it
abbrev pub no_default : Inner-F ℕ Tree → ℕ
no_default _ = 0

-- the value that a variable of a type has by default
abbrev pub default_of : ValueType → Tree
default_of = fold-ValueType ℕ Tree no_default default_step
