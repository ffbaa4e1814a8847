-- Which rows end a block: those of ending instructions.
use Rattle.std.proofs.Common.{◌≡◌, Bool, true, false, List, [], ◌∷◌, ap, Option, Some, None}
use Rattle.std.proofs.lemmas.Option.{same_Some}
use Rattle.std.specs.Option.{option_and_then}
use Rattle.hilti_int.specs.declared.width.Width.{Width}
use Rattle.hilti_int.specs.declared.comparisons.IntCmp.TheVariants as comparisons
use Rattle.hilti_int.specs.declared.operations.IntOp.TheVariants as int_ops
use Rattle.hilti_types.specs.declared.op.Op.{Op}
use Rattle.hilti_types.specs.declared.op.Op.TheVariants as ops
use Rattle.hilti_table.specs.Rows.{ends_block}
use Rattle.hilti_table.specs.Table.{line_of}
use Rattle.hilti_parts.specs.declared.parts.Instruction.{Instruction}
use Rattle.hilti_parts.specs.declared.parts.Operand.{Operand}
use Rattle.hilti_parts.specs.declared.parts.Variable.{Variable}
use Rattle.hilti_parts.specs.Named.{named_block}
use Rattle.hilti_typing.specs.Fits.{exception_number, field_number}
use Rattle.hilti_rows.specs.declared.row.Binary.{Binary}
use Rattle.hilti_rows.specs.declared.row.Binary.TheVariants as binaries
use Rattle.hilti_rows.specs.declared.row.Row.{Row}
use Rattle.hilti_rows.specs.declared.row.Row.TheVariants as rows
use Rattle.hilti_rows.specs.declared.row.StructRow.TheVariants as structs
use Rattle.hilti_rows.specs.declared.row.Unary.{Unary}
use Rattle.hilti_rows.specs.declared.row.Unary.TheVariants as unaries
use Rattle.hilti_rows.specs.Sources.{source_of, grouped_sources, printed_of, each_of}
use Rattle.hilti_rows.specs.Resolving.{unary, binary, line_width, target_width, selected, tested}
use Rattle.hilti_rows.specs.Resolving.{function, called, bound, jumps, branches, returned, thrown}
use Rattle.hilti_rows.specs.Resolving.{declared_struct, new_struct, struct_get, struct_is_set}
use Rattle.hilti_rows.specs.Resolving.{struct_set, struct_unset, row_by}
use Rattle.hilti_shapes.proofs.Sources.{mapped, behind, both_are}

abbrev pub ends : Row → Bool
ends (rows.Jump block) = true
ends (rows.IfElse test a b) = true
ends rows.ReturnVoid = true
ends (rows.ReturnResult value) = true
ends (rows.Throw exception text) = true
ends _ = false

unary_ends : (op : Unary) (o : Option Variable) (items : List Operand) (row : Row) → unary op o items ≡ Some row
    → false ≡ ends row
unary_ends op (Some v) (a ∷ []) row e = ap ends (mapped (rows.Unary op v) (source_of a) row e).2
unary_ends op (Some v) [] row e = absurd cc
unary_ends op (Some v) (a ∷ b ∷ more) row e = absurd cc
unary_ends op None items row e = absurd cc

binary_ends : (op : Binary) (o : Option Variable) (items : List Operand) (row : Row) → binary op o items ≡ Some row
    → false ≡ ends row
binary_ends op (Some v) (a ∷ b ∷ []) row e = ap ends (both_are (rows.Binary op v) (source_of a) (source_of b) row e).4
binary_ends op (Some v) [] row e = absurd cc
binary_ends op (Some v) (a ∷ []) row e = absurd cc
binary_ends op (Some v) (a ∷ b ∷ d ∷ more) row e = absurd cc
binary_ends op None items row e = absurd cc

sized_ends : (op : Width → Binary) (o : Option Variable) (items : List Operand) (w : Option Width) (row : Row)
    → option_and_then (λ w. binary (op w) o items) w ≡ Some row → false ≡ ends row
sized_ends op o items w row e = let m = behind (λ w. binary (op w) o items) w row e in binary_ends (op m.0) o items
    row m.2

converted_ends : (op : Width → Unary) (o : Option Variable) (items : List Operand) (w : Option Width) (row : Row)
    → option_and_then (λ w. unary (op w) o items) w ≡ Some row → false ≡ ends row
converted_ends op o items w row e = let m = behind (λ w. unary (op w) o items) w row e in unary_ends (op m.0) o items
    row m.2

selected_ends : (o : Option Variable) (items : List Operand) (row : Row) → selected o items ≡ Some row
    → false ≡ ends row
selected_ends (Some v) (test ∷ a ∷ b ∷ []) row e =
    let m = behind _ (source_of test) row e in ap ends (both_are (rows.Select v m.0) (source_of a) (source_of b) row
    m.2).4
selected_ends (Some v) [] row e = absurd cc
selected_ends (Some v) (test ∷ []) row e = absurd cc
selected_ends (Some v) (test ∷ a ∷ []) row e = absurd cc
selected_ends (Some v) (test ∷ a ∷ b ∷ d ∷ more) row e = absurd cc
selected_ends None items row e = absurd cc

tested_ends : (o : Option Variable) (items : List Operand) (row : Row) → tested o items ≡ Some row → false ≡ ends row
tested_ends (Some v) (a ∷ []) row e = ap ends (mapped (rows.IsNull v) (source_of a) row e).2
tested_ends (Some v) [] row e = absurd cc
tested_ends (Some v) (a ∷ b ∷ more) row e = absurd cc
tested_ends None items row e = absurd cc

called_ends : (o : Option Variable) (items : List Operand) (row : Row) → called o items ≡ Some row → false ≡ ends row
called_ends o (x ∷ group ∷ []) row e = ap ends (both_are (λ f arguments. rows.Call f arguments o) (function x)
    (grouped_sources group) row e).4
called_ends o [] row e = absurd cc
called_ends o (x ∷ []) row e = absurd cc
called_ends o (x ∷ y ∷ z ∷ more) row e = absurd cc

bound_ends : (o : Option Variable) (items : List Operand) (row : Row) → bound o items ≡ Some row → false ≡ ends row
bound_ends (Some v) (x ∷ group ∷ []) row e = ap ends (both_are (rows.Bind v) (function x) (grouped_sources group) row
    e).4
bound_ends (Some v) [] row e = absurd cc
bound_ends (Some v) (x ∷ []) row e = absurd cc
bound_ends (Some v) (x ∷ y ∷ z ∷ more) row e = absurd cc
bound_ends None items row e = absurd cc

jumps_end : (items : List Operand) (row : Row) → jumps items ≡ Some row → true ≡ ends row
jumps_end (x ∷ []) row e = ap ends (mapped rows.Jump (named_block x) row e).2
jumps_end [] row e = absurd cc
jumps_end (x ∷ y ∷ more) row e = absurd cc

branches_end : (items : List Operand) (row : Row) → branches items ≡ Some row → true ≡ ends row
branches_end (test ∷ a ∷ b ∷ []) row e =
    let m = behind _ (source_of test) row e in ap ends (both_are (rows.IfElse m.0) (named_block a) (named_block b)
    row m.2).4
branches_end [] row e = absurd cc
branches_end (test ∷ []) row e = absurd cc
branches_end (test ∷ a ∷ []) row e = absurd cc
branches_end (test ∷ a ∷ b ∷ d ∷ more) row e = absurd cc

returned_ends : (items : List Operand) (row : Row) → returned items ≡ Some row → true ≡ ends row
returned_ends (x ∷ []) row e = ap ends (mapped rows.ReturnResult (source_of x) row e).2
returned_ends [] row e = absurd cc
returned_ends (x ∷ y ∷ more) row e = absurd cc

thrown_ends : (items : List Operand) (row : Row) → thrown items ≡ Some row → true ≡ ends row
thrown_ends (x ∷ text ∷ []) row e = ap ends (both_are rows.Throw (exception_number x) (source_of text) row e).4
thrown_ends [] row e = absurd cc
thrown_ends (x ∷ []) row e = absurd cc
thrown_ends (x ∷ y ∷ z ∷ more) row e = absurd cc

new_ends : (o : Option Variable) (items : List Operand) (row : Row) → new_struct o items ≡ Some row → false ≡ ends row
new_ends (Some v) (word ∷ []) row e = ap ends (mapped (λ n. rows.Struct (structs.New v n)) (declared_struct word) row
    e).2
new_ends (Some v) [] row e = absurd cc
new_ends (Some v) (x ∷ y ∷ more) row e = absurd cc
new_ends None items row e = absurd cc

get_ends : (o : Option Variable) (items : List Operand) (row : Row) → struct_get o items ≡ Some row → false ≡ ends row
get_ends (Some v) (x ∷ y ∷ []) row e = ap ends (both_are (λ o n. rows.Struct (structs.Get v o n)) (source_of x)
    (field_number y) row e).4
get_ends (Some v) [] row e = absurd cc
get_ends (Some v) (x ∷ []) row e = absurd cc
get_ends (Some v) (x ∷ y ∷ z ∷ more) row e = absurd cc
get_ends None items row e = absurd cc

is_set_ends : (o : Option Variable) (items : List Operand) (row : Row) → struct_is_set o items ≡ Some row
    → false ≡ ends row
is_set_ends (Some v) (x ∷ y ∷ []) row e = ap ends (both_are (λ o n. rows.Struct (structs.IsSet v o n)) (source_of x)
    (field_number y) row e).4
is_set_ends (Some v) [] row e = absurd cc
is_set_ends (Some v) (x ∷ []) row e = absurd cc
is_set_ends (Some v) (x ∷ y ∷ z ∷ more) row e = absurd cc
is_set_ends None items row e = absurd cc

set_ends : (items : List Operand) (row : Row) → struct_set items ≡ Some row → false ≡ ends row
set_ends (x ∷ y ∷ z ∷ []) row e =
    let l = behind _ (source_of x) row e in ap ends (both_are (λ n v. rows.Struct (structs.Set l.0 n v))
    (field_number y) (source_of z) row l.2).4
set_ends [] row e = absurd cc
set_ends (x ∷ []) row e = absurd cc
set_ends (x ∷ y ∷ []) row e = absurd cc
set_ends (x ∷ y ∷ z ∷ w ∷ more) row e = absurd cc

unset_ends : (items : List Operand) (row : Row) → struct_unset items ≡ Some row → false ≡ ends row
unset_ends (x ∷ y ∷ []) row e = ap ends (both_are (λ o n. rows.Struct (structs.Unset o n)) (source_of x)
    (field_number y) row e).4
unset_ends [] row e = absurd cc
unset_ends (x ∷ []) row e = absurd cc
unset_ends (x ∷ y ∷ z ∷ more) row e = absurd cc

pub ends_by : (op : Op) (i : Instruction) (row : Row) → row_by op i ≡ Some row
    → ends_block (line_of op).row.flow ≡ ends row
ends_by ops.Nop i row e = ap ends (same_Some rows.Nop row e)
ends_by ops.Yield i row e = ap ends (same_Some rows.Yield row e)
ends_by ops.Assign i row e = unary_ends unaries.Assign i.target i.operands row e
ends_by ops.BoolNot i row e = unary_ends unaries.Not i.target i.operands row e
ends_by ops.BoolAnd i row e = binary_ends binaries.And i.target i.operands row e
ends_by ops.BoolOr i row e = binary_ends binaries.Or i.target i.operands row e
ends_by ops.IntAs i row e = converted_ends unaries.IntAs i.target i.operands (target_width i) row e
ends_by ops.IntAsExact i row e = converted_ends unaries.IntAsExact i.target i.operands (target_width i) row e
ends_by ops.Select i row e = selected_ends i.target i.operands row e
ends_by ops.RefIsNull i row e = tested_ends i.target i.operands row e
ends_by ops.Print i row e = ap ends (mapped rows.Print (each_of printed_of i.operands) row e).2
ends_by ops.Call i row e = called_ends i.target i.operands row e
ends_by ops.CallableBind i row e = bound_ends i.target i.operands row e
ends_by ops.Jump i row e = jumps_end i.operands row e
ends_by ops.IfElse i row e = branches_end i.operands row e
ends_by ops.ReturnVoid i row e = ap ends (same_Some rows.ReturnVoid row e)
ends_by ops.ReturnResult i row e = returned_ends i.operands row e
ends_by ops.ExceptionThrow i row e = thrown_ends i.operands row e
ends_by ops.New i row e = new_ends i.target i.operands row e
ends_by ops.StructGet i row e = get_ends i.target i.operands row e
ends_by ops.StructSet i row e = set_ends i.operands row e
ends_by ops.StructUnset i row e = unset_ends i.operands row e
ends_by ops.StructIsSet i row e = is_set_ends i.target i.operands row e
ends_by ops.IntAdd i row e = sized_ends (binaries.Int int_ops.Add) i.target i.operands (line_width i) row e
ends_by ops.IntSub i row e = sized_ends (binaries.Int int_ops.Sub) i.target i.operands (line_width i) row e
ends_by ops.IntMul i row e = sized_ends (binaries.Int int_ops.Mul) i.target i.operands (line_width i) row e
ends_by ops.IntDiv i row e = sized_ends (binaries.Int int_ops.Div) i.target i.operands (line_width i) row e
ends_by ops.IntMod i row e = sized_ends (binaries.Int int_ops.Mod) i.target i.operands (line_width i) row e
ends_by ops.IntSdiv i row e = sized_ends (binaries.Int int_ops.Sdiv) i.target i.operands (line_width i) row e
ends_by ops.IntSmod i row e = sized_ends (binaries.Int int_ops.Smod) i.target i.operands (line_width i) row e
ends_by ops.IntAnd i row e = sized_ends (binaries.Int int_ops.And) i.target i.operands (line_width i) row e
ends_by ops.IntOr i row e = sized_ends (binaries.Int int_ops.Or) i.target i.operands (line_width i) row e
ends_by ops.IntXor i row e = sized_ends (binaries.Int int_ops.Xor) i.target i.operands (line_width i) row e
ends_by ops.IntShl i row e = sized_ends (binaries.Int int_ops.Shl) i.target i.operands (line_width i) row e
ends_by ops.IntShr i row e = sized_ends (binaries.Int int_ops.Shr) i.target i.operands (line_width i) row e
ends_by ops.IntSshr i row e = sized_ends (binaries.Int int_ops.Sshr) i.target i.operands (line_width i) row e
ends_by ops.IntAddExact i row e = sized_ends (binaries.Int int_ops.AddExact) i.target i.operands (line_width i) row e
ends_by ops.IntSubExact i row e = sized_ends (binaries.Int int_ops.SubExact) i.target i.operands (line_width i) row e
ends_by ops.IntMulExact i row e = sized_ends (binaries.Int int_ops.MulExact) i.target i.operands (line_width i) row e
ends_by ops.IntShlExact i row e = sized_ends (binaries.Int int_ops.ShlExact) i.target i.operands (line_width i) row e
ends_by ops.IntSdivExact i row e = sized_ends (binaries.Int int_ops.SdivExact) i.target i.operands (line_width i) row
    e
ends_by ops.IntLt i row e = sized_ends (binaries.Compare comparisons.Lt) i.target i.operands (line_width i) row e
ends_by ops.IntGt i row e = sized_ends (binaries.Compare comparisons.Gt) i.target i.operands (line_width i) row e
ends_by ops.IntLeq i row e = sized_ends (binaries.Compare comparisons.Leq) i.target i.operands (line_width i) row e
ends_by ops.IntGeq i row e = sized_ends (binaries.Compare comparisons.Geq) i.target i.operands (line_width i) row e
ends_by ops.IntSlt i row e = sized_ends (binaries.Compare comparisons.Slt) i.target i.operands (line_width i) row e
ends_by ops.IntSgt i row e = sized_ends (binaries.Compare comparisons.Sgt) i.target i.operands (line_width i) row e
ends_by op i row e = absurd cc
