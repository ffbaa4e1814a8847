-- A body, and lines that are typed in it or not.
use Rattle.std.specs.Prelude.{ℕ, false, List, [], ◌∷◌, Option, Some, None}
use Rattle.hilti_types.specs.declared.op.Op.{Op}
use Rattle.hilti_types.specs.declared.op.Op.TheVariants as ops
use Rattle.hilti_types.specs.declared.value_type.Inner.TheVariants as inners
use Rattle.hilti_types.specs.declared.value_type.ValueType.{ValueType}
use Rattle.hilti_types.specs.declared.value_type.ValueType.TheVariants as types
use Rattle.hilti_parts.specs.declared.parts.Operand.{Operand}
use Rattle.hilti_parts.specs.declared.parts.Operand.TheVariants as operands
use Rattle.hilti_parts.specs.declared.parts.Variable.TheVariants as variables
use Rattle.hilti_typing.specs.Context.{Signature, Context}
use Rattle.hilti_typing.specs.Fits.{IsTypedLine}

-- a void function of one parameter
abbrev pub taking : ValueType → Signature
taking t = record { parameters = t ∷ []; result = None }

-- two blocks of a void function, among functions that take a number and a timer
abbrev pub body : Context
body = record {
  declared = [];
  globals = [];
  functions = taking (types.Int 64) ∷ taking (types.Ref inners.Timer) ∷ [];
  hooks = [];
  exceptions = 7;
  slots = types.Bool ∷ types.Int 8 ∷ types.Int 64 ∷ types.Ref (inners.List (types.Int 8))
      ∷ types.Ref inners.Timer ∷ [];
  blocks = 2;
  result = None;
  in_hook = false;
}

abbrev pub slot : ℕ → ValueType → Operand
slot n t = operands.Var (variables.Slot n) t

abbrev pub flag : Operand
flag = slot 0 types.Bool

abbrev pub small : Operand
small = slot 1 (types.Int 8)

abbrev pub large : Operand
large = slot 2 (types.Int 64)

abbrev pub numbers : Operand
numbers = slot 3 (types.Ref (inners.List (types.Int 8)))

abbrev pub a_timer : Operand
a_timer = slot 4 (types.Ref inners.Timer)

abbrev pub function : ℕ → Operand
function n = operands.Function (record { n = n })

abbrev pub Typed : Op → Option ValueType → List Operand → Type 0
Typed op target items = IsTypedLine body op target items

-- a line of each of these shapes is typed
pub record FittingLines : Type 0 where
  pub plain : Typed ops.BoolNot (Some types.Bool) (flag ∷ [])
  pub numbers_of_one_width : Typed ops.IntAdd (Some (types.Int 8)) (small ∷ small ∷ [])
  pub same_as_before : Typed ops.Assign (Some (types.Int 64)) (large ∷ [])
  pub block : Typed ops.Jump None (operands.Block 1 ∷ [])
  pub call : Typed ops.Call None (function 0 ∷ operands.Group (large ∷ []) ∷ [])
  pub item : Typed ops.ListAppend None (numbers ∷ small ∷ [])

-- and these aren't
pub record RefusedLines : Type 0 where
  pub other_width : Typed ops.IntAdd (Some (types.Int 8)) (small ∷ large ∷ []) → ⊥
  pub other_target : Typed ops.IntAdd (Some (types.Int 64)) (small ∷ small ∷ []) → ⊥
  pub other_item : Typed ops.ListAppend None (numbers ∷ large ∷ []) → ⊥
  pub no_such_block : Typed ops.Jump None (operands.Block 2 ∷ []) → ⊥
  pub timer_sent : Typed ops.ThreadSchedule None
      (large ∷ function 1 ∷ operands.Group (a_timer ∷ []) ∷ []) → ⊥
  pub left_by_result : Typed ops.ReturnResult None (flag ∷ []) → ⊥
  pub one_too_many : Typed ops.BoolNot (Some types.Bool) (flag ∷ flag ∷ []) → ⊥
