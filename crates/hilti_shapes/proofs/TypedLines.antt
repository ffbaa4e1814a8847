-- The row of a typed instruction is typed: one case a mnemonic.
use Rattle.std.proofs.Common.{◌≡◌, ℕ, IsTrue, List, [], ◌∷◌, refl, sym, ap, ◌∙◌, Option, Some, None, IsSomeAnd}
use Rattle.std.proofs.Math.Path.{subst}
use Rattle.std.proofs.lemmas.List.Elements.{recursion_from_All}
use Rattle.std.proofs.lemmas.Option.{same_Some}
use Rattle.hilti_int.specs.declared.comparisons.IntCmp.TheVariants as comparisons
use Rattle.hilti_int.specs.declared.operations.IntOp.TheVariants as int_ops
use Rattle.hilti_types.specs.declared.op.Op.{Op}
use Rattle.hilti_types.specs.declared.op.Op.TheVariants as ops
use Rattle.hilti_types.specs.declared.value_type.ValueType.{ValueType, out-ValueType}
use Rattle.hilti_types.specs.declared.value_type.ValueType.TheVariants as types
use Rattle.hilti_table.specs.declared.row.Callee.TheVariants as callees
use Rattle.hilti_table.specs.declared.row.Plain.TheVariants as plain
use Rattle.hilti_table.specs.declared.row.Test.TheVariants as tests
use Rattle.hilti_table.specs.Table.{line_of}
use Rattle.hilti_parts.specs.declared.parts.Instruction.{Instruction}
use Rattle.hilti_parts.specs.declared.parts.Operand.{Operand}
use Rattle.hilti_parts.specs.declared.parts.Variable.{Variable}
use Rattle.hilti_typing.specs.Context.{Context, Setting}
use Rattle.hilti_typing.specs.Types.{is_int}
use Rattle.hilti_typing.specs.Fits.{Has as Fit, AsksOwn, FitsRow, HaveAll, setting, width_of}
use Rattle.hilti_typing.specs.Facts.{FieldOfStruct}
use Rattle.hilti_typing.specs.Programs.{IsTarget as HasTarget, IsTypedInstruction}
use Rattle.hilti_typing.proofs.Meeting.{plain_rows, number_rows, own_rows, flow_rows}
use Rattle.hilti_typing.proofs.Calls.{call_rows}
use Rattle.hilti_typing.proofs.Objects.{object_rows}
use Rattle.hilti_typing.proofs.Records.{struct_rows, passed_tests, targets}
use Rattle.hilti_rows.specs.declared.row.Row.{Row}
use Rattle.hilti_rows.specs.declared.row.Row.TheVariants as rows
use Rattle.hilti_rows.specs.declared.row.StructRow.TheVariants as structs
use Rattle.hilti_rows.specs.declared.row.Unary.TheVariants as unaries
use Rattle.hilti_rows.specs.declared.row.Binary.TheVariants as binaries
use Rattle.hilti_rows.specs.Sources.{source_of, printed_of, each_of}
use Rattle.hilti_rows.specs.Resolving.{called, bound, jumps, branches, thrown, new_struct}
use Rattle.hilti_rows.specs.Resolving.{struct_get, struct_set, struct_unset, struct_is_set, row_by}
use Rattle.hilti_rows.specs.Resolving.{row_of}
use Rattle.hilti_typing.specs.Fits.{field_number}
use Rattle.hilti_shapes.specs.TypedRows.{IsSource, IsRow}
use Rattle.hilti_shapes.proofs.Sources.{mapped, behind, both_are, source_is}
use Rattle.hilti_shapes.proofs.Lines.{at_target, unary_row, binary_row, sized_row, compared_row}
use Rattle.hilti_shapes.proofs.Lines.{converted_row, selected_row, tested_row, called_row}
use Rattle.hilti_shapes.proofs.Lines.{bound_row, new_row, field_is, printed_items, jump_row}
use Rattle.hilti_shapes.proofs.Lines.{branch_row, result_row, throw_row}

-- a target of some width of numbers
any_int : (kind : Option ValueType) → IsSomeAnd kind (λ t. IsTrue (is_int (out-ValueType t)))
    → (n : ℕ) × (kind ≡ Some (types.Int n))
any_int None h = absurd h
any_int (Some t) h = let it = passed_tests.int [] t h in (it.0, ap (λ t. Some t) it.1)

module _ (c : Context) (target : Option Variable) (kind : Option ValueType) (is : HasTarget c target kind) (s :
    Setting) (same : s.context ≡ c) where
  get_row : (items : List Operand) (f : FieldOfStruct [] s items) (row : Row) (o : Option Variable) → target ≡ o
      → kind ≡ Some f.kind → struct_get o (f.holder ∷ f.name ∷ []) ≡ Some row → IsRow c row
  get_row items f row (Some v) t k e =
      let m = both_are (λ o n. rows.Struct (structs.Get v o n)) (source_of f.holder) (field_number f.name) row e in
      let i = field_is c s [] items f same m.0 m.1 m.2 m.3 in
      subst (IsRow c) m.4 (i.0, at_target c target kind is v i.0.kind t (k ∙ ap (λ t. Some t) (sym i.1)))
  get_row items f row None t k e = absurd cc

  set_row : (x : Operand) (items : List Operand) (f : FieldOfStruct (x ∷ []) s items) (row : Row) → Fit c f.kind x
      → struct_set (f.holder ∷ f.name ∷ x ∷ []) ≡ Some row → IsRow c row
  set_row x items f row has e =
      let l = behind _ (source_of f.holder) row e in
      let m = both_are (λ n v. rows.Struct (structs.Set l.0 n v)) (field_number f.name) (source_of x) row l.2 in
      let i = field_is c s (x ∷ []) items f same l.0 m.0 l.1 m.2 in
      subst (IsRow c) m.4 (i.0, subst (IsSource c m.1) (sym i.1) (source_is c f.kind m.1 x has m.3))

  unset_row : (items : List Operand) (f : FieldOfStruct [] s items) (row : Row)
      → struct_unset (f.holder ∷ f.name ∷ []) ≡ Some row → IsRow c row
  unset_row items f row e =
      let m = both_are (λ o n. rows.Struct (structs.Unset o n)) (source_of f.holder) (field_number f.name) row e in
      subst (IsRow c) m.4 (field_is c s [] items f same m.0 m.1 m.2 m.3).0

  is_set_row : (items : List Operand) (f : FieldOfStruct [] s items) (row : Row) (o : Option Variable) → target ≡ o
      → kind ≡ Some types.Bool → struct_is_set o (f.holder ∷ f.name ∷ []) ≡ Some row → IsRow c row
  is_set_row items f row (Some v) t k e =
      let m = both_are (λ o n. rows.Struct (structs.IsSet v o n)) (source_of f.holder) (field_number f.name) row e in
      subst (IsRow c) m.4 (
        (field_is c s [] items f same m.0 m.1 m.2 m.3).0,
        at_target c target kind is v types.Bool
            t k,
      )
  is_set_row items f row None t k e = absurd cc

module _ (c : Context) (i : Instruction) (is : HasTarget c i.target i.kind) (row : Row) where
  abbrev s : Setting
  s = setting c i.kind i.operands

  print_row : FitsRow s (line_of ops.Print).row i.operands → row_by ops.Print i ≡ Some row → IsRow c row
  print_row line e =
      let it = own_rows.print s i.operands line in
      let m = mapped rows.Print (each_of printed_of i.operands) row e in
      subst (IsRow c) m.2 (printed_items c i.operands m.0 (recursion_from_All (AsksOwn c tests.Sendable) i.operands
      it.each) m.1)

  call_row : FitsRow s (line_of ops.Call).row i.operands → row_by ops.Call i ≡ Some row → IsRow c row
  call_row line e =
      let it = call_rows.functions callees.Any s _ _ _ i.operands line in
      called_row c i.target i.kind is it.0.called it.0.group it.0.calling.arguments it.0.calling.signature row
      it.0.calling.calls it.0.calling.groups it.0.calling.arguments_are it.2
      (subst (λ items. called i.target items ≡ Some row) it.0.are e)

  bind_row : FitsRow s (line_of ops.CallableBind).row i.operands → row_by ops.CallableBind i ≡ Some row → IsRow c row
  bind_row line e =
      let it = call_rows.functions callees.Void s _ _ _ i.operands line in
      bound_row c i.target i.kind is it.0.called it.0.group it.0.calling.arguments it.0.calling.signature row
      i.target refl it.0.calling.calls it.0.calling.groups it.0.calling.arguments_are it.1 it.2
      (subst (λ items. bound i.target items ≡ Some row) it.0.are e)

  made_row : FitsRow s (line_of ops.New).row i.operands → row_by ops.New i ≡ Some row → IsRow c row
  made_row line e =
      let it = object_rows.made s _ _ _ i.operands line in
      new_row c i.target i.kind is it.0.word it.0.object row i.target refl it.0.names (targets.same s (types.Ref
      it.0.object) it.1)
      (subst (λ items. new_struct i.target items ≡ Some row) it.0.are e)

  -- the row that a mnemonic has
  typed_by : (op : Op) → FitsRow s (line_of op).row i.operands → row_by op i ≡ Some row → IsRow c row
  typed_by ops.Nop line e = subst (IsRow c) (same_Some rows.Nop row e) tt
  typed_by ops.Yield line e = subst (IsRow c) (same_Some rows.Yield row e) tt
  typed_by ops.Assign line e =
      let it = own_rows.one tests.Any s _ _ _ i.operands line in
      unary_row c i.target i.kind is unaries.Assign it.0 it.0 i.operands row i.target refl refl it.2 (targets.same s
      it.0 it.3) e
  typed_by ops.BoolNot line e =
      let it = plain_rows.one plain.Bool s _ _ _ i.operands line in
      unary_row c i.target i.kind is unaries.Not types.Bool types.Bool i.operands row i.target refl (refl, refl) it.0
      it.1 e
  typed_by ops.BoolAnd line e =
      let it = plain_rows.two plain.Bool plain.Bool s _ _ _ i.operands line in
      binary_row c i.target i.kind is binaries.And types.Bool types.Bool i.operands row i.target refl (refl, refl)
      it.0 it.1 e
  typed_by ops.BoolOr line e =
      let it = plain_rows.two plain.Bool plain.Bool s _ _ _ i.operands line in
      binary_row c i.target i.kind is binaries.Or types.Bool types.Bool i.operands row i.target refl (refl, refl)
      it.0 it.1 e
  typed_by ops.IntAs line e =
      let it = own_rows.one tests.Int s _ _ _ i.operands line in
      let from = passed_tests.int c.declared it.0 it.1 in
      let to = any_int i.kind it.3 in
      converted_row c i.target i.kind is unaries.IntAs (λ w bits. ((bits, refl), refl)) from.0 to.0 i.operands row
      (subst (λ t. HaveAll c (t ∷ []) i.operands) from.1 it.2) to.1 e
  typed_by ops.IntAsExact line e =
      let it = own_rows.one tests.Int s _ _ _ i.operands line in
      let from = passed_tests.int c.declared it.0 it.1 in
      let to = any_int i.kind it.3 in
      converted_row c i.target i.kind is unaries.IntAsExact (λ w bits. ((bits, refl), refl)) from.0 to.0 i.operands
      row
      (subst (λ t. HaveAll c (t ∷ []) i.operands) from.1 it.2) to.1 e
  typed_by ops.Select line e =
      let it = own_rows.choice plain.Bool tests.Any s _ _ _ i.operands line in
      selected_row c i.target i.kind is it.0 i.operands row i.target refl it.2 (targets.same s it.0 it.3) e
  typed_by ops.RefIsNull line e =
      let it = own_rows.one tests.Nullable s _ _ _ i.operands line in
      tested_row c i.target i.kind is it.0 i.operands row i.target refl it.2 it.3 e
  typed_by ops.Print line e = print_row line e
  typed_by ops.Call line e = call_row line e
  typed_by ops.CallableBind line e = bind_row line e
  typed_by ops.Jump line e =
      let it = flow_rows.block s _ _ _ i.operands line in
      jump_row c it.0.block row it.0.named (subst (λ items. jumps items ≡ Some row) it.0.are e)
  typed_by ops.IfElse line e =
      let it = flow_rows.blocks plain.Bool s _ _ _ i.operands line in
      branch_row c it.0.test it.0.first it.0.second row it.0.test_is it.0.first_named it.0.second_named (subst (λ
      items. branches items ≡ Some row) it.0.are e)
  typed_by ops.ReturnVoid line e = subst (IsRow c) (same_Some rows.ReturnVoid row e) line.stands
  typed_by ops.ReturnResult line e =
      let it = flow_rows.returned s _ _ _ i.operands line in
      result_row c it.0.kind i.operands row it.0.result it.0.value e
  typed_by ops.ExceptionThrow line e =
      let it = flow_rows.thrown plain.Text s _ _ _ i.operands line in
      throw_row c it.0.exception it.0.value row it.0.named it.0.value_is (subst (λ items. thrown items ≡ Some row)
      it.0.are e)
  typed_by ops.New line e = made_row line e
  typed_by ops.StructGet line e =
      let it = struct_rows.field s _ _ _ i.operands line in
      get_row c i.target i.kind is s refl i.operands it.0 row i.target refl (targets.same s it.0.kind it.1) (subst (λ
      items. struct_get i.target items ≡ Some row) it.0.are e)
  typed_by ops.StructSet line e =
      let it = struct_rows.value s _ _ _ i.operands line in
      set_row c i.target i.kind is s refl it.0 i.operands it.1 row it.2 (subst (λ items. struct_set items ≡ Some row)
      it.1.are e)
  typed_by ops.StructUnset line e =
      let it = struct_rows.field s _ _ _ i.operands line in
      unset_row c i.target i.kind is s refl i.operands it.0 row (subst (λ items. struct_unset items ≡ Some row)
      it.0.are e)
  typed_by ops.StructIsSet line e =
      let it = struct_rows.field s _ _ _ i.operands line in
      is_set_row c i.target i.kind is s refl i.operands it.0 row i.target refl it.1 (subst (λ items. struct_is_set
      i.target items ≡ Some row) it.0.are e)
  typed_by ops.IntAdd line e = let it = number_rows s _ _ _ i.operands line in sized_row c i.target i.kind is
      int_ops.Add (width_of i.kind i.operands) i.operands row it.0 it.1 e
  typed_by ops.IntSub line e = let it = number_rows s _ _ _ i.operands line in sized_row c i.target i.kind is
      int_ops.Sub (width_of i.kind i.operands) i.operands row it.0 it.1 e
  typed_by ops.IntMul line e = let it = number_rows s _ _ _ i.operands line in sized_row c i.target i.kind is
      int_ops.Mul (width_of i.kind i.operands) i.operands row it.0 it.1 e
  typed_by ops.IntDiv line e = let it = number_rows s _ _ _ i.operands line in sized_row c i.target i.kind is
      int_ops.Div (width_of i.kind i.operands) i.operands row it.0 it.1 e
  typed_by ops.IntMod line e = let it = number_rows s _ _ _ i.operands line in sized_row c i.target i.kind is
      int_ops.Mod (width_of i.kind i.operands) i.operands row it.0 it.1 e
  typed_by ops.IntSdiv line e = let it = number_rows s _ _ _ i.operands line in sized_row c i.target i.kind is
      int_ops.Sdiv (width_of i.kind i.operands) i.operands row it.0 it.1 e
  typed_by ops.IntSmod line e = let it = number_rows s _ _ _ i.operands line in sized_row c i.target i.kind is
      int_ops.Smod (width_of i.kind i.operands) i.operands row it.0 it.1 e
  typed_by ops.IntAnd line e = let it = number_rows s _ _ _ i.operands line in sized_row c i.target i.kind is
      int_ops.And (width_of i.kind i.operands) i.operands row it.0 it.1 e
  typed_by ops.IntOr line e = let it = number_rows s _ _ _ i.operands line in sized_row c i.target i.kind is
      int_ops.Or (width_of i.kind i.operands) i.operands row it.0 it.1 e
  typed_by ops.IntXor line e = let it = number_rows s _ _ _ i.operands line in sized_row c i.target i.kind is
      int_ops.Xor (width_of i.kind i.operands) i.operands row it.0 it.1 e
  typed_by ops.IntShl line e = let it = number_rows s _ _ _ i.operands line in sized_row c i.target i.kind is
      int_ops.Shl (width_of i.kind i.operands) i.operands row it.0 it.1 e
  typed_by ops.IntShr line e = let it = number_rows s _ _ _ i.operands line in sized_row c i.target i.kind is
      int_ops.Shr (width_of i.kind i.operands) i.operands row it.0 it.1 e
  typed_by ops.IntSshr line e = let it = number_rows s _ _ _ i.operands line in sized_row c i.target i.kind is
      int_ops.Sshr (width_of i.kind i.operands) i.operands row it.0 it.1 e
  typed_by ops.IntAddExact line e = let it = number_rows s _ _ _ i.operands line in sized_row c i.target i.kind is
      int_ops.AddExact (width_of i.kind i.operands) i.operands row it.0 it.1 e
  typed_by ops.IntSubExact line e = let it = number_rows s _ _ _ i.operands line in sized_row c i.target i.kind is
      int_ops.SubExact (width_of i.kind i.operands) i.operands row it.0 it.1 e
  typed_by ops.IntMulExact line e = let it = number_rows s _ _ _ i.operands line in sized_row c i.target i.kind is
      int_ops.MulExact (width_of i.kind i.operands) i.operands row it.0 it.1 e
  typed_by ops.IntShlExact line e = let it = number_rows s _ _ _ i.operands line in sized_row c i.target i.kind is
      int_ops.ShlExact (width_of i.kind i.operands) i.operands row it.0 it.1 e
  typed_by ops.IntSdivExact line e = let it = number_rows s _ _ _ i.operands line in sized_row c i.target i.kind is
      int_ops.SdivExact (width_of i.kind i.operands) i.operands row it.0 it.1 e
  typed_by ops.IntLt line e = let it = number_rows s _ _ _ i.operands line in compared_row c i.target i.kind is
      comparisons.Lt (width_of i.kind i.operands) i.operands row it.0 it.1 e
  typed_by ops.IntGt line e = let it = number_rows s _ _ _ i.operands line in compared_row c i.target i.kind is
      comparisons.Gt (width_of i.kind i.operands) i.operands row it.0 it.1 e
  typed_by ops.IntLeq line e = let it = number_rows s _ _ _ i.operands line in compared_row c i.target i.kind is
      comparisons.Leq (width_of i.kind i.operands) i.operands row it.0 it.1 e
  typed_by ops.IntGeq line e = let it = number_rows s _ _ _ i.operands line in compared_row c i.target i.kind is
      comparisons.Geq (width_of i.kind i.operands) i.operands row it.0 it.1 e
  typed_by ops.IntSlt line e = let it = number_rows s _ _ _ i.operands line in compared_row c i.target i.kind is
      comparisons.Slt (width_of i.kind i.operands) i.operands row it.0 it.1 e
  typed_by ops.IntSgt line e = let it = number_rows s _ _ _ i.operands line in compared_row c i.target i.kind is
      comparisons.Sgt (width_of i.kind i.operands) i.operands row it.0 it.1 e
  typed_by op line e = absurd cc

pub typed_row : (c : Context) (i : Instruction) → IsTypedInstruction c i → (row : Row) → row_of i ≡ Some row
    → IsRow c row
typed_row c i typed row e = typed_by c i typed.target row i.op typed.line e
