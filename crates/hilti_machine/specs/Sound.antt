-- The calls that a machine may start.
use Rattle.std.specs.Prelude.{◌≡◌, ℕ, ◌-◌, ◌%◌, ◌^◌, ◌≤◌, nat_lt, nat_eq, Bool, true, false, IsTrue}
use Rattle.std.specs.Prelude.{cond, List, take, Some, None, slice_get}
use Rattle.std.specs.List.{list_all, AllZip}
use Rattle.hilti_types.specs.declared.declared.Declared.{Declared}
use Rattle.hilti_types.specs.declared.value_type.ValueType.{ValueType}
use Rattle.hilti_tree.specs.declared.call.Call.{Call}
use Rattle.hilti_tree.specs.declared.tree.Tree.{Tree}
use Rattle.hilti_tree.specs.declared.tree.Tree.TheOpen.{Tree-F}
use Rattle.hilti_tree.specs.declared.tree.Tree.TheFolds.{fold-Tree}
use Rattle.hilti_tree.specs.Sizes.{forest_size}
use Rattle.hilti_parts.specs.declared.parts.Function.{Function}
use Rattle.hilti_typing.specs.Programs.{is_hook_body}
use Rattle.hilti_effects.specs.Effect.{value_of_tree}
use Rattle.hilti_shapes.specs.Needs.{needs, nothing}
use Rattle.hilti_code.specs.Runnable.{IsTypedProgram}
use Rattle.hilti_machine.specs.Threads.{Facts}

-- a net has a length, counted from the 128-bit top, and no bits behind it
abbrev pub is_net : ℕ → ℕ → Bool
is_net length address =
    cond (nat_lt 128 length) false (nat_eq (address % 2 ^ (128 - length)) 0)

-- whether a tree is of a value that names no object
abbrev pub plain_step : Tree-F Bool → Bool
plain_step (Tree-F.Net address length) = is_net length address
plain_step (Tree-F.Tuple parts) = list_all (λ plain. plain) parts
plain_step Tree-F.Unset = false
plain_step (Tree-F.List items) = false
plain_step (Tree-F.Vector items) = false
plain_step (Tree-F.Set keys) = false
plain_step (Tree-F.Map keys values) = false
plain_step (Tree-F.Fields fields) = false
plain_step (Tree-F.Rules fields priorities values compiled) = false
plain_step _ = true

abbrev pub is_plain : Tree → Bool
is_plain = fold-Tree Bool plain_step

-- an argument of a type: so far those alone may be given that name no object
pub record IsArgument (table : List Declared) (tree : Tree) (t : ValueType) : Type 0 where
  pub plain : IsTrue (is_plain tree)
  pub fits : needs table (value_of_tree tree) t ≡ nothing

-- a call of a void function of a typed program, which is no body of a hook, on arguments of the
-- types of its parameters that aren't too large
pub record IsSound (facts : Facts) (call : Call) : Type 0 where
  pub program : IsTypedProgram facts.parts
  pub function : Function
  pub stands : slice_get facts.parts.functions call.function.n ≡ Some function
  pub void : function.result ≡ None
  pub no_body : is_hook_body facts.parts call.function.n ≡ false
  pub arguments :
      AllZip (IsArgument facts.parts.types) call.args (take function.params function.slots)
  pub size : forest_size call.args ≤ 1000000
