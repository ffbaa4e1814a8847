-- The row of an instruction: its shape by its mnemonic, its operands as sources.
use Rattle.std.specs.Prelude.{ℕ, ◌==◌, if◌then◌else◌, List, [], ◌∷◌, Option, Some, None}
use Rattle.std.specs.Option.{option_map, option_and_then}
use Rattle.hilti_base.specs.declared.names.FnId.{FnId}
use Rattle.hilti_int.specs.declared.width.Width.{Width}
use Rattle.hilti_int.specs.declared.width.Width.TheVariants.{W8, W16, W32, W64}
use Rattle.hilti_int.specs.declared.operations.IntOp.{IntOp}
use Rattle.hilti_int.specs.declared.operations.IntOp.TheVariants as int_ops
use Rattle.hilti_int.specs.declared.comparisons.IntCmp.{IntCmp}
use Rattle.hilti_int.specs.declared.comparisons.IntCmp.TheVariants as comparisons
use Rattle.hilti_types.specs.declared.op.Op.{Op}
use Rattle.hilti_types.specs.declared.op.Op.TheVariants as ops
use Rattle.hilti_types.specs.declared.value_type.Inner.{Inner}
use Rattle.hilti_types.specs.declared.value_type.Inner.TheVariants as inners
use Rattle.hilti_parts.specs.declared.parts.Instruction.{Instruction}
use Rattle.hilti_parts.specs.declared.parts.Operand.{Operand}
use Rattle.hilti_parts.specs.declared.parts.Operand.TheVariants as operands
use Rattle.hilti_parts.specs.declared.parts.Variable.{Variable}
use Rattle.hilti_parts.specs.Named.{named_block}
use Rattle.hilti_typing.specs.Fits.{width_of, int_width, exception_number, field_number, made}
use Rattle.hilti_rows.specs.declared.row.Binary.{Binary}
use Rattle.hilti_rows.specs.declared.row.Binary.TheVariants as binaries
use Rattle.hilti_rows.specs.declared.row.Row.{Row}
use Rattle.hilti_rows.specs.declared.row.Row.TheVariants as rows
use Rattle.hilti_rows.specs.declared.row.StructRow.TheVariants as structs
use Rattle.hilti_rows.specs.declared.row.Unary.{Unary}
use Rattle.hilti_rows.specs.declared.row.Unary.TheVariants as unaries
use Rattle.hilti_rows.specs.Sources.{source_of, grouped_sources, printed_of, each_of, both}

-- the width of so many bits
abbrev pub width : ℕ → Option Width
width n =
    if n == 8 then Some W8 else if n == 16 then Some W16 else if n == 32 then Some W32
    else if n == 64 then Some W64 else None

abbrev pub unary : Unary → Option Variable → List Operand → Option Row
unary op (Some t) (a ∷ []) = option_map (rows.Unary op t) (source_of a)
unary op target items = None

abbrev pub binary : Binary → Option Variable → List Operand → Option Row
binary op (Some t) (a ∷ b ∷ []) = both (rows.Binary op t) (source_of a) (source_of b)
binary op target items = None

-- an operation on numbers of the line's width
abbrev pub line_width : Instruction → Option Width
line_width i = width (width_of i.kind i.operands)

abbrev pub sized : IntOp → Instruction → Option Row
sized op i =
    option_and_then (λ w. binary (binaries.Int op w) i.target i.operands) (line_width i)

abbrev pub compared : IntCmp → Instruction → Option Row
compared op i =
    option_and_then (λ w. binary (binaries.Compare op w) i.target i.operands) (line_width i)

-- a number of the target's width
abbrev pub target_width : Instruction → Option Width
target_width i = option_and_then width (int_width i.kind)

abbrev pub converted : (Width → Unary) → Instruction → Option Row
converted op i = option_and_then (λ w. unary (op w) i.target i.operands) (target_width i)

abbrev pub selected : Option Variable → List Operand → Option Row
selected (Some t) (test ∷ a ∷ b ∷ []) =
    option_and_then (λ c. both (rows.Select t c) (source_of a) (source_of b)) (source_of test)
selected target items = None

abbrev pub tested : Option Variable → List Operand → Option Row
tested (Some t) (object ∷ []) = option_map (rows.IsNull t) (source_of object)
tested target items = None

abbrev pub function : Operand → Option FnId
function (operands.Function f) = Some f
function _ = None

abbrev pub called : Option Variable → List Operand → Option Row
called target (callee ∷ group ∷ []) =
    both (λ f arguments. rows.Call f arguments target) (function callee) (grouped_sources group)
called target items = None

abbrev pub bound : Option Variable → List Operand → Option Row
bound (Some t) (callee ∷ group ∷ []) =
    both (rows.Bind t) (function callee) (grouped_sources group)
bound target items = None

abbrev pub jumps : List Operand → Option Row
jumps (block ∷ []) = option_map rows.Jump (named_block block)
jumps items = None

abbrev pub branches : List Operand → Option Row
branches (test ∷ a ∷ b ∷ []) =
    option_and_then (λ c. both (rows.IfElse c) (named_block a) (named_block b)) (source_of test)
branches items = None

abbrev pub returned : List Operand → Option Row
returned (value ∷ []) = option_map rows.ReturnResult (source_of value)
returned items = None

abbrev pub thrown : List Operand → Option Row
thrown (exception ∷ text ∷ []) =
    both rows.Throw (exception_number exception) (source_of text)
thrown items = None

-- the values that are printed, and their types
abbrev pub printed_row : List Operand → Option Row
printed_row items = option_map rows.Print (each_of printed_of items)

-- the declared struct of which an object is made
abbrev pub struct_number : Inner → Option ℕ
struct_number (inners.Struct n) = Some n
struct_number _ = None

abbrev pub declared_struct : Operand → Option ℕ
declared_struct word = option_and_then struct_number (made word)

abbrev pub new_struct : Option Variable → List Operand → Option Row
new_struct (Some t) (word ∷ []) =
    option_map (λ n. rows.Struct (structs.New t n)) (declared_struct word)
new_struct target items = None

abbrev pub struct_get : Option Variable → List Operand → Option Row
struct_get (Some t) (object ∷ field ∷ []) =
    both (λ o n. rows.Struct (structs.Get t o n)) (source_of object) (field_number field)
struct_get target items = None

abbrev pub struct_is_set : Option Variable → List Operand → Option Row
struct_is_set (Some t) (object ∷ field ∷ []) =
    both (λ o n. rows.Struct (structs.IsSet t o n)) (source_of object) (field_number field)
struct_is_set target items = None

abbrev pub struct_set : List Operand → Option Row
struct_set (object ∷ field ∷ value ∷ []) =
    option_and_then (λ o. both (λ n v. rows.Struct (structs.Set o n v)) (field_number field)
    (source_of value)) (source_of object)
struct_set items = None

abbrev pub struct_unset : List Operand → Option Row
struct_unset (object ∷ field ∷ []) =
    both (λ o n. rows.Struct (structs.Unset o n)) (source_of object) (field_number field)
struct_unset items = None

-- the operations on two whole numbers
abbrev pub int_op : Op → Option IntOp
int_op ops.IntAdd = Some int_ops.Add
int_op ops.IntSub = Some int_ops.Sub
int_op ops.IntMul = Some int_ops.Mul
int_op ops.IntDiv = Some int_ops.Div
int_op ops.IntMod = Some int_ops.Mod
int_op ops.IntSdiv = Some int_ops.Sdiv
int_op ops.IntSmod = Some int_ops.Smod
int_op ops.IntAnd = Some int_ops.And
int_op ops.IntOr = Some int_ops.Or
int_op ops.IntXor = Some int_ops.Xor
int_op ops.IntShl = Some int_ops.Shl
int_op ops.IntShr = Some int_ops.Shr
int_op ops.IntSshr = Some int_ops.Sshr
int_op ops.IntAddExact = Some int_ops.AddExact
int_op ops.IntSubExact = Some int_ops.SubExact
int_op ops.IntMulExact = Some int_ops.MulExact
int_op ops.IntShlExact = Some int_ops.ShlExact
int_op ops.IntSdivExact = Some int_ops.SdivExact
int_op _ = None

-- the comparisons of two whole numbers
abbrev pub comparison : Op → Option IntCmp
comparison ops.IntLt = Some comparisons.Lt
comparison ops.IntGt = Some comparisons.Gt
comparison ops.IntLeq = Some comparisons.Leq
comparison ops.IntGeq = Some comparisons.Geq
comparison ops.IntSlt = Some comparisons.Slt
comparison ops.IntSgt = Some comparisons.Sgt
comparison _ = None

abbrev pub of_numbers : Option IntOp → Option IntCmp → Instruction → Option Row
of_numbers (Some op) test i = sized op i
of_numbers None (Some test) i = compared test i
of_numbers None None i = None

abbrev pub numbers_row : Instruction → Option Row
numbers_row i = of_numbers (int_op i.op) (comparison i.op) i

-- the row of an instruction of this mnemonic; those that aren't named here have none yet
abbrev pub row_by : Op → Instruction → Option Row
row_by ops.Nop i = Some rows.Nop
row_by ops.Assign i = unary unaries.Assign i.target i.operands
row_by ops.Select i = selected i.target i.operands
row_by ops.Print i = printed_row i.operands
row_by ops.Yield i = Some rows.Yield
row_by ops.Call i = called i.target i.operands
row_by ops.CallableBind i = bound i.target i.operands
row_by ops.Jump i = jumps i.operands
row_by ops.IfElse i = branches i.operands
row_by ops.ReturnVoid i = Some rows.ReturnVoid
row_by ops.ReturnResult i = returned i.operands
row_by ops.ExceptionThrow i = thrown i.operands
row_by ops.New i = new_struct i.target i.operands
row_by ops.RefIsNull i = tested i.target i.operands
row_by ops.BoolAnd i = binary binaries.And i.target i.operands
row_by ops.BoolOr i = binary binaries.Or i.target i.operands
row_by ops.BoolNot i = unary unaries.Not i.target i.operands
row_by ops.IntAs i = converted unaries.IntAs i
row_by ops.IntAsExact i = converted unaries.IntAsExact i
row_by ops.StructGet i = struct_get i.target i.operands
row_by ops.StructSet i = struct_set i.operands
row_by ops.StructUnset i = struct_unset i.operands
row_by ops.StructIsSet i = struct_is_set i.target i.operands
row_by op i = of_numbers (int_op op) (comparison op) i

-- the row of an instruction
abbrev pub row_of : Instruction → Option Row
row_of i = row_by i.op i
