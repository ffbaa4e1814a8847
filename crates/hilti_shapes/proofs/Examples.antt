-- Some calls in progress that are typed, and some that aren't.
use Rattle.std.proofs.Common.{◌≡◌, ℕ, ◌<◌, true, List, [], ◌∷◌, refl, sym, ap, ◌∙◌, length, Some}
use Rattle.std.proofs.Common.{None, IsSomeAnd, slice_get, arith}
use Rattle.std.proofs.Math.Path.{subst}
use Rattle.std.proofs.lemmas.Option.{same_Some}
use Rattle.hilti_types.specs.declared.value_type.Inner.TheOpen.{ValueType-F}
use Rattle.hilti_types.specs.declared.value_type.Inner.TheVariants as inners
use Rattle.hilti_types.specs.declared.value_type.ValueType.TheVariants as types
use Rattle.hilti_parts.specs.declared.parts.Block.{Block}
use Rattle.hilti_parts.specs.declared.parts.Function.{Function}
use Rattle.hilti_typing.specs.ProgramExamples.{whole, packet}
use Rattle.hilti_values.specs.declared.value.Value.{Value}
use Rattle.hilti_values.specs.declared.value.Value.TheVariants as values
use Rattle.hilti_values.specs.declared.value.Value.TheOpen.{Value-F}
use Rattle.hilti_shapes.specs.Needs.{Meets, Has, Have, no_kinds, ObjectType.Referred}
use Rattle.hilti_shapes.specs.Places.{IsAt}
use Rattle.hilti_shapes.specs.Examples.{beginning, packet_slots, TypedBeginning, UntypedBeginnings}
use Rattle.hilti_shapes.specs.Examples.{one_struct, TypedValues}
use Rattle.hilti_shapes.proofs.Stores.{empty_typed}
use Rattle.hilti_shapes.proofs.Values.{shape_needs, has_bool, has_text, has_int, has_ref, has_null}
use Rattle.hilti_shapes.proofs.Values.{is_number, IsNumber, NumberIs}

has_time : (n : ℕ) → Has [] no_kinds (values.Time n) types.Time
has_time n = subst (λ o. IsSomeAnd o (Meets no_kinds)) (sym (shape_needs [] (Value-F.Time n) (values.Time n)
    ValueType-F.Time types.Time (values.rolls-Time n) types.rolls-Time)) tt

has_bytes : (bytes : List ℕ) → Has [] no_kinds (values.Bytes bytes) types.Bytes
has_bytes bytes = subst (λ o. IsSomeAnd o (Meets no_kinds)) (sym (shape_needs [] (Value-F.Bytes bytes) (values.Bytes
    bytes) ValueType-F.Bytes types.Bytes (values.rolls-Bytes bytes) types.rolls-Bytes)) tt

pub typed_beginning : TypedBeginning
typed_beginning = record {
  top = record {
    function = packet;
    in_parts = refl;
    block = _;
    in_function = refl;
    within = omega arith;
    slots_are = (has_time 5, (has_bytes (1 ∷ 2 ∷ []), (has_text [] no_kinds [], tt)));
  };
  below = tt;
  chain = tt;
  shared = record { globals_are = (has_bool [] no_kinds true, tt); store_is = empty_typed whole };
  none_made = refl;
}

no_number_truth : (n : ℕ) → Has [] no_kinds (values.Int n) types.Bool → ⊥
no_number_truth n h = subst (λ o. IsSomeAnd o (Meets no_kinds)) (shape_needs [] (Value-F.Int n) (values.Int n)
    ValueType-F.Bool types.Bool (values.rolls-Int n) types.rolls-Bool) h

few_slots : (f : Function) → Some packet ≡ Some f → Have [] no_kinds (values.Time 5 ∷ []) f.slots → ⊥
few_slots f e h = let g = subst (λ (f : Function). Have [] no_kinds (values.Time 5 ∷ []) f.slots) (sym (same_Some
    packet f e)) h in g.1

no_place : (f : Function) (b : Block) → Some packet ≡ Some f → slice_get f.blocks 0 ≡ Some b → 1 < 1 → ⊥
no_place f b e i h = omega (arith, h)

pub untyped_beginnings : UntypedBeginnings
untyped_beginnings = record {
  global = λ c. no_number_truth 1 c.shared.globals_are.0;
  slots = λ c. few_slots c.top.function c.top.in_parts c.top.slots_are;
  place = λ c. behind c.top;
  made = λ c. some_made c.none_made;
}
  where
    behind : IsAt whole (record beginning { at = 1 }) packet_slots no_kinds → ⊥
    behind a =
        let f = same_Some packet a.function a.in_parts in
        let b : slice_get packet.blocks 0 ≡ Some a.block = ap (λ (f : Function). slice_get f.blocks 0) f
        ∙ a.in_function in
        let w = subst (λ (b : Block). 1 < length b.instructions) (sym (same_Some _ a.block b)) a.within in omega
        (arith, w)

    some_made : values.Null ∷ [] ≡ [] → ⊥
    some_made e = cc

not_wide : IsNumber 8 (values.Int 256) → ⊥
not_wide (NumberIs n e h) = let i = same_int 256 n e in omega (arith, i, h)
  where
    whole_of : Value → ℕ
    whole_of (values.Int n) = n
    whole_of _ = 0

    same_int : (n m : ℕ) → values.Int n ≡ values.Int m → n ≡ m
    same_int n m e = ap whole_of e

other_object : Has [] one_struct (values.Ref 1) (types.Ref (inners.Struct 0)) → ⊥
other_object h =
    let g = subst (λ o. IsSomeAnd o (Meets one_struct)) (shape_needs [] (Value-F.Ref 1) (values.Ref 1)
    (ValueType-F.Ref (inners.Struct 0)) (types.Ref (inners.Struct 0)) (values.rolls-Ref 1) (types.rolls-Ref
    (inners.Struct 0))) h in
    none_there g.0
  where
    none_there : None ≡ Some (Referred (inners.Struct 0)) → ⊥
    none_there e = cc

pub typed_values : TypedValues
typed_values = record {
  byte = has_int [] no_kinds 255 8 (omega arith);
  too_wide = λ h. not_wide (is_number [] no_kinds 8 (values.Int 256) h);
  reference = has_ref [] one_struct 0 (inners.Struct 0) refl;
  other_object = other_object;
  no_object = has_null [] no_kinds (inners.Struct 0);
}
