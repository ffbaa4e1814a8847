-- A call in progress finds what the rows of a typed program ask.
use Rattle.std.proofs.Common.{◌≡◌, ℕ, IsTrue, List, [], ◌∷◌, length, map, take, refl, sym, ap, ◌∙◌}
use Rattle.std.proofs.Common.{Option, Some, None, IsSomeAnd, inl, slice_get, arith}
use Rattle.std.proofs.Math.Path.{subst}
use Rattle.std.specs.List.{AllByRecursion}
use Rattle.std.specs.Option.{option_map}
use Rattle.std.proofs.lemmas.List.Elements.{All-from_recursion}
use Rattle.std.proofs.lemmas.Option.{slice_get_within, slice_get-map}
use Rattle.std.proofs.lemmas.Slice.Zip.{AllZip-long}
use Rattle.hilti_types.specs.declared.value_type.Inner.TheVariants as inners
use Rattle.hilti_types.specs.declared.value_type.ValueType.{ValueType}
use Rattle.hilti_types.specs.declared.value_type.ValueType.TheVariants as types
use Rattle.hilti_parts.specs.declared.parts.Function.{Function}
use Rattle.hilti_parts.specs.declared.parts.Parts.{Parts}
use Rattle.hilti_typing.specs.Context.{Signature, Context}
use Rattle.hilti_typing.specs.Programs.{context, signature}
use Rattle.hilti_values.specs.declared.value.Value.{Value}
use Rattle.hilti_values.specs.declared.value.Value.TheVariants as values
use Rattle.hilti_heap.specs.Kept.{Kept}
use Rattle.hilti_heap.specs.Stands.{StandsFor, Fits, IsKept}
use Rattle.hilti_heap.specs.Stores.{Store}
use Rattle.hilti_heap.proofs.Keeping.{held_kept}
use Rattle.hilti_heap_ops.specs.Shapes.{HasField}
use Rattle.hilti_rows.specs.declared.row.Printed.{Printed}
use Rattle.hilti_rows.specs.declared.row.Row.{Row}
use Rattle.hilti_rows.specs.declared.row.Row.TheVariants as rows
use Rattle.hilti_rows.specs.declared.row.Source.{Source}
use Rattle.hilti_rows.specs.declared.row.Source.TheVariants as sources
use Rattle.hilti_rows.specs.declared.row.StructRow.{StructRow}
use Rattle.hilti_rows.specs.declared.row.StructRow.TheVariants as structs
use Rattle.hilti_scalar_ops.specs.Computing.{IsBool, TakesOne}
use Rattle.hilti_stack.specs.declared.head.Position.{Position}
use Rattle.hilti_effects.specs.Operands.{value_or_null, value_at}
use Rattle.hilti_effects.specs.Asks.{Gets, Any, IsText, AreThere, AsksPrinted, Asks, AsksStruct}
use Rattle.hilti_shapes.specs.Needs.{Kinds, Meets, Has, no_kinds}
use Rattle.hilti_shapes.specs.Objects.{field_types}
use Rattle.hilti_shapes.specs.TypedRows.{IsSource, AreSources, IsField, IsStructRow, IsRow}
use Rattle.hilti_code.specs.Runnable.{IsTypedProgram, PrintsTexts, has_text}
use Rattle.hilti_shapes.specs.Places.{IsAt, AreShared}
use Rattle.hilti_shapes.specs.Keeping.{HoldsAll, FindWhatRowsAsk}
use Rattle.hilti_shapes.proofs.Sources.{mapped}
use Rattle.hilti_shapes.proofs.Values.{IsString, StringIs, Refers, RefersNull, RefersTo, is_string, refers}
use Rattle.hilti_shapes.proofs.Scalars.{bool_of, takes_one, takes_two}
use Rattle.hilti_shapes.proofs.Places.{found_has, value_has, gets, target_there}
use Rattle.hilti_shapes.proofs.Fields.{ref_held, has_field}
use Rattle.hilti_shapes.proofs.Entering.{row_here}

pub some_and : {A : Type 0} (o : Option A) (P : A → Type 0) → IsSomeAnd o P → (x : A) × (o ≡ Some x) × P x
some_and None P h = absurd h
some_and (Some x) P h = (x, refl, h)

-- the function that a signature of a context is of
pub callee_of : (parts : Parts) (n : ℕ) (P : Signature → Type 0)
    → IsSomeAnd (slice_get (map signature parts.functions) n) P
    → (f : Function) × (slice_get parts.functions n ≡ Some f) × P (signature f)
callee_of parts n P h =
    let s = some_and (slice_get (map signature parts.functions) n) P h in
    let m = mapped signature (slice_get parts.functions n) s.0 (sym (slice_get-map signature parts.functions n)
    ∙ s.1) in
    (m.0, m.1, subst P (sym m.2) s.2)

string_is_text : (v : Value) → IsString v → IsText v
string_is_text v (StringIs bytes e) = subst IsText (sym e) tt

module _ (parts : Parts) (p : Position) (slots globals : List Value) (k : Kinds) (store : Store) (a : IsAt parts p
    slots k) (shared : AreShared parts globals k store)
    (heap : Kept) (others : ℕ → ℕ) (stands : StandsFor heap store) (fits : Fits heap others) (holds : HoldsAll slots
    globals others) where
  abbrev c : Context
  c = context parts p.function.n a.function

  has_value : (s : Source) (t : ValueType) → IsSource c s t → Has parts.types k (value_at slots globals s) t
  has_value s t e = value_has c k slots globals a.slots_are shared.globals_are s t e

  has_gets : (so : Value → Type 0) (s : Source) (t : ValueType) → IsSource c s t → so (value_at slots globals s)
      → Gets slots globals so s
  has_gets so s t e h = gets c k slots globals a.slots_are shared.globals_are so s t e h

  any_gets : (s : Source) (t : ValueType) → IsSource c s t → Gets slots globals Any s
  any_gets s t e = has_gets Any s t e tt

  bool_gets : (s : Source) → IsSource c s types.Bool → Gets slots globals IsBool s
  bool_gets s e = has_gets IsBool s types.Bool e (bool_of parts.types k (value_at slots globals s) (has_value s
      types.Bool e))

  -- a struct that a source refers to, with its field
  constant_field : (n at : ℕ) (v : Value) → Refers no_kinds (inners.Struct n) v → HasField heap at v
  constant_field n at v (RefersNull i) = subst (HasField heap at) (sym i) tt
  constant_field n at v (RefersTo q i m) = absurd cc

  kept_in_slots : (n q : ℕ) (x : Value) → slice_get slots n ≡ Some x → x ≡ values.Ref q → IsKept q heap.cells
  kept_in_slots n q x e i = held_kept heap others fits q (inl (let h = ref_held q slots n x e i in let g = holds q in
      omega (arith, h, g)))

  kept_in_globals : (n q : ℕ) (x : Value) → slice_get globals n ≡ Some x → x ≡ values.Ref q → IsKept q heap.cells
  kept_in_globals n q x e i = held_kept heap others fits q (inl (let h = ref_held q globals n x e i in let g = holds
      q in omega (arith, h, g)))

  field_there : (s : Source) (n at : ℕ) (t : ValueType) → IsSource c s (types.Ref (inners.Struct n))
      → slice_get (field_types parts.types n) at ≡ Some t → HasField heap at (value_at slots globals s)
  field_there (sources.Slot m) n at t e f =
      let x = found_has c k slots globals a.slots_are shared.globals_are (sources.Slot m) (types.Ref (inners.Struct
      n)) e in
      has_field parts k store shared.store_is heap n at t (value_at slots globals (sources.Slot m)) stands f
      (has_value (sources.Slot m) (types.Ref (inners.Struct n)) e)
      (λ q i. kept_in_slots m q x.0 x.1 (sym (ap value_or_null x.1) ∙ i))
  field_there (sources.Global m) n at t e f =
      let x = found_has c k slots globals a.slots_are shared.globals_are (sources.Global m) (types.Ref (inners.Struct
      n)) e in
      has_field parts k store shared.store_is heap n at t (value_at slots globals (sources.Global m)) stands f
      (has_value (sources.Global m) (types.Ref (inners.Struct n)) e)
      (λ q i. kept_in_globals m q x.0 x.1 (sym (ap value_or_null x.1) ∙ i))
  field_there (sources.Constant v) n at t e f =
      constant_field n at v (refers parts.types no_kinds (inners.Struct n) v (subst (λ o. IsSomeAnd o (Meets
      no_kinds)) (sym e) tt))

  field_gets : (s : Source) (at : ℕ) → IsField c s at → Gets slots globals (HasField heap at) s
  field_gets s at f = has_gets (HasField heap at) s (types.Ref (inners.Struct f.struct)) f.holder (field_there s
      f.struct at f.kind f.holder f.there)

  sources_there : (ss : List Source) (ts : List ValueType) → AreSources c ss ts
      → AllByRecursion (Gets slots globals Any) ss
  sources_there [] [] h = tt
  sources_there (s ∷ ss) (t ∷ ts) h = (any_gets s t h.0, sources_there ss ts h.1)
  sources_there [] (t ∷ ts) h = absurd h
  sources_there (s ∷ ss) [] h = absurd h

  all_there : (ss : List Source) (ts : List ValueType) → AreSources c ss ts → AreThere slots globals ss
  all_there ss ts h = All-from_recursion (Gets slots globals Any) ss (sources_there ss ts h)

  texts_there : (items : List Printed) → AllByRecursion (λ (item : Printed). IsSource c item.value item.kind) items
      → AllByRecursion (λ (item : Printed). IsTrue (has_text item.kind)) items
      → AllByRecursion (AsksPrinted slots globals) items
  texts_there [] h g = tt
  texts_there (item ∷ items) h g = (
    any_gets item.value item.kind h.0,
    texts_there items h.1 g.1,
  )

  asks_struct : (row : StructRow) → IsStructRow c row → AsksStruct slots globals heap row
  asks_struct (structs.New t n) r = target_there c k slots globals a.slots_are shared.globals_are t (types.Ref
      (inners.Struct n)) r
  asks_struct (structs.Get t o at) r = (
    field_gets o at r.0,
    target_there c k slots globals a.slots_are
        shared.globals_are t r.0.kind r.1,
  )
  asks_struct (structs.Set o at x) r = (field_gets o at r.0, any_gets x r.0.kind r.1)
  asks_struct (structs.Unset o at) r = field_gets o at r
  asks_struct (structs.IsSet t o at) r = (
    field_gets o at r.0,
    target_there c k slots globals a.slots_are
        shared.globals_are t types.Bool r.1,
  )

  asks : (row : Row) → IsRow c row → PrintsTexts row → Asks parts slots globals heap row
  asks rows.Nop r w = tt
  asks (rows.Unary op t x) r w = record {
    operand = has_gets (TakesOne op) x r.from r.operand (takes_one parts.types k op r.from r.to (value_at slots
        globals x) r.turns (has_value x r.from r.operand));
    target = target_there c k slots globals a.slots_are shared.globals_are t r.to r.goes;
  }
  asks (rows.Binary op t x y) r w = record {
    first = any_gets x r.of r.first;
    second = any_gets y r.of r.second;
    takes = takes_two parts.types k op r.of r.to (value_at slots globals x) (value_at slots globals y) r.combines
        (has_value x r.of r.first) (has_value y r.of r.second);
    target = target_there c k slots globals a.slots_are shared.globals_are t r.to r.goes;
  }
  asks (rows.Select t test x y) r w = record {
    condition = bool_gets test r.condition;
    first = any_gets x r.of r.first;
    second = any_gets y r.of r.second;
    target = target_there c k slots globals a.slots_are shared.globals_are t r.of r.goes;
  }
  asks (rows.IsNull t x) r w = (
    any_gets x r.of r.operand,
    target_there c k slots globals a.slots_are
        shared.globals_are t types.Bool r.goes,
  )
  asks (rows.Print items) r w = All-from_recursion (AsksPrinted slots globals) items (texts_there items r w)
  asks rows.Yield r w = tt
  asks (rows.Call f arguments t) r w =
      let g = callee_of parts f.n _ r in record {
        callee = slice_get_within parts.functions f.n g.0 g.1;
        given = all_there arguments (take g.0.params g.0.slots) g.2.given;
      }
  asks (rows.Bind t f arguments) r w =
      let g = callee_of parts f.n _ r in (
        all_there arguments (take g.0.params g.0.slots) g.2.given,
        target_there c k slots globals a.slots_are shared.globals_are t types.Callable g.2.goes,
      )
  asks (rows.Jump block) r w = tt
  asks (rows.IfElse test x y) r w = bool_gets test r.condition
  asks rows.ReturnVoid r w = tt
  asks (rows.ReturnResult value) r w = let t = some_and a.function.result _ r in any_gets value t.0 t.2
  asks (rows.Throw e text) r w = (
    r.there,
    has_gets IsText text types.Text r.of_text (string_is_text (value_at slots globals text) (is_string parts.types k
        (value_at slots globals text) (has_value text types.Text r.of_text))),
  )
  asks (rows.Struct row) r w = asks_struct row r

pub find_what_rows_ask : (parts : Parts) → IsTypedProgram parts → FindWhatRowsAsk parts
find_what_rows_ask parts program p frames globals k store config heap others stands fits holds =
    let a = config.top in
    let r = row_here parts program p frames.slots k a in record {
      row = r.row;
      here = r.here;
      asks = asks parts p frames.slots globals k store a config.shared heap others stands fits holds r.row r.typed
          r.prints;
      slots_are = ap (option_map (λ (f : Function). length f.slots)) a.in_parts
          ∙ ap (λ n. Some n) (AllZip-long (Has parts.types k) frames.slots a.function.slots a.slots_are);
    }
