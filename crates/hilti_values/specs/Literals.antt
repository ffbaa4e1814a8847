-- The values that literals write.
use Rattle.std.specs.Prelude.{Option, Some, None}
use Rattle.hilti_tree.specs.declared.tree.Tree.{Tree, out-Tree}
use Rattle.hilti_tree.specs.declared.tree.Tree.TheOpen.{Tree-F}
use Rattle.hilti_values.specs.declared.value.Value.{Value}
use Rattle.hilti_values.specs.declared.value.Value.TheVariants as values

-- a scalar, a constant of an enum and Null are literals, and no other tree is one
abbrev pub value_step : Tree-F Tree → Option Value
value_step (Tree-F.Bool value) = Some (values.Bool value)
value_step (Tree-F.Int n) = Some (values.Int n)
value_step (Tree-F.Text bytes) = Some (values.Text bytes)
value_step (Tree-F.Bytes bytes) = Some (values.Bytes bytes)
value_step (Tree-F.Addr address) = Some (values.Addr address)
value_step (Tree-F.Net address length) = Some (values.Net length address)
value_step (Tree-F.Port n is_udp) = Some (values.Port n is_udp)
value_step (Tree-F.Time nanos) = Some (values.Time nanos)
value_step (Tree-F.Span nanos) = Some (values.Span nanos)
value_step (Tree-F.Pick n) = Some (values.Pick n)
value_step Tree-F.Null = Some values.Null
value_step _ = None

-- the value of a literal's tree
abbrev pub value_of : Tree → Option Value
value_of tree = value_step (out-Tree tree)
