-- Structs and callables of types: what rows on them ask, and that they keep types.
use Rattle.std.proofs.Common.{◌≡◌, ℕ, zero, suc, ◌+◌, ◌≤◌, List, [], ◌∷◌, length, map, replicate}
use Rattle.std.proofs.Common.{refl, sym, ap, ◌∙◌, Option, Some, None, IsSomeAnd, arith, slice_get}
use Rattle.std.proofs.Common.{rules}
use Rattle.std.proofs.Math.Path.{subst}
use Rattle.std.specs.Prelude.{slice_set}
use Rattle.std.proofs.lemmas.List.Sums.{sum-map, sum_by-cons}
use Rattle.std.specs.List.{AllZip}
use Rattle.std.specs.Option.{option_flatten, is_some}
use Rattle.std.proofs.lemmas.Option.{same_Some, slice_get_within}
use Rattle.hilti_base.specs.declared.names.FnId.{FnId}
use Rattle.hilti_base.specs.declared.refusal.Raise.{Raise}
use Rattle.hilti_types.specs.declared.declared.Declared.{Declared}
use Rattle.hilti_types.specs.declared.declared.Declared.TheVariants as declared
use Rattle.hilti_types.specs.declared.declared.Member.{Member}
use Rattle.hilti_types.specs.declared.value_type.Inner.{out-Inner, out-roll-Inner}
use Rattle.hilti_types.specs.declared.value_type.Inner.TheOpen.{Inner-F}
use Rattle.hilti_types.specs.declared.value_type.Inner.TheVariants as inners
use Rattle.hilti_types.specs.declared.value_type.ValueType.{ValueType}
use Rattle.hilti_types.specs.declared.value_type.ValueType.TheVariants as types
use Rattle.hilti_parts.specs.declared.parts.Parts.{Parts}
use Rattle.hilti_typing.specs.Types.{struct_fields}
use Rattle.hilti_values.specs.declared.value.Value.{Value, roll-Value}
use Rattle.hilti_values.specs.declared.value.Value.TheVariants as values
use Rattle.hilti_values.specs.declared.value.Value.TheOpen.{Value-F}
use Rattle.hilti_values.specs.declared.value.Value.TheFolds.{the_lemmas}
use Rattle.hilti_heap.specs.declared.object.Object.{Object}
use Rattle.hilti_heap.specs.declared.object.Object.TheVariants.{Struct, Bound}
use Rattle.hilti_heap.specs.Held.{held, held_step, all_held}
use Rattle.hilti_heap.specs.Kept.{Kept}
use Rattle.hilti_heap.specs.Stands.{StandsFor, IsKept}
use Rattle.hilti_heap.specs.Stores.{Store, Answer, Answer.Done, Answer.Raised, create, change, told, changed}
use Rattle.hilti_heap.proofs.Heaping.{with_here}
use Rattle.hilti_heap.proofs.Places.{is_self}
use Rattle.hilti_heap_ops.specs.Meaning.{struct_new, field_of, with_field, struct_get}
use Rattle.hilti_heap_ops.specs.Meaning.{struct_is_set, field_is_set, callable_bind}
use Rattle.hilti_heap_ops.specs.Shapes.{HasField, HasFieldAt, HasFieldIn}
use Rattle.hilti_effects.specs.Acting.{members, fields_of}
use Rattle.hilti_shapes.specs.Needs.{ObjectType, ObjectType.Referred, ObjectType.Callable, Kinds}
use Rattle.hilti_shapes.specs.Needs.{Has, MayHave, IsResult}
use Rattle.hilti_shapes.specs.Objects.{field_types, IsStruct, CanRun, IsObject, IsStore, Gives, Answers}
use Rattle.hilti_shapes.proofs.Growing.{zip_at, zip_put, same_kinds}
use Rattle.hilti_shapes.proofs.Stores.{with_type, grows_new, new_typed, changed_typed}
use Rattle.hilti_shapes.proofs.Values.{Refers, RefersNull, RefersTo, refers, has_ref, has_callable, has_bool}

out_struct : (n : ℕ) → out-Inner (inners.Struct n) ≡ Inner-F.Struct n
out_struct n = ap out-Inner (sym (inners.rolls-Struct n)) ∙ out-roll-Inner (Inner-F.Struct n)

abbrev pub struct_type : ℕ → ObjectType
struct_type n = Referred (inners.Struct n)

module _ (parts : Parts) (k : Kinds) (n : ℕ) where
  struct_has : (fields : List (Option Value)) → IsObject parts k (Struct fields) (struct_type n)
      → AllZip (MayHave parts.types k) fields (field_types parts.types n)
  struct_has fields h = subst (IsStruct parts.types k fields) (out_struct n) h

  has_struct : (fields : List (Option Value)) → AllZip (MayHave parts.types k) fields (field_types parts.types n)
      → IsObject parts k (Struct fields) (struct_type n)
  has_struct fields h = subst (IsStruct parts.types k fields) (sym (out_struct n)) h

  field_in : (at : ℕ) (t : ValueType) (o : Object) → IsObject parts k o (struct_type n)
      → slice_get (field_types parts.types n) at ≡ Some t → HasFieldIn at o
  field_in at t (Struct fields) h e =
      let f = zip_at (MayHave parts.types k) fields (field_types parts.types n) at t (struct_has fields h) e in
      slice_get_within fields at f.0 f.1
  field_in at t (Bound function args) h e = absurd h

  -- a struct with another content of a field
  put_field : (at : ℕ) (t : ValueType) (x : Option Value) (o : Object)
      → slice_get (field_types parts.types n) at ≡ Some t → MayHave parts.types k x t
      → IsObject parts k o (struct_type n) → IsObject parts k (with_field at x o) (struct_type n)
  put_field at t x (Struct fields) e g h = has_struct (slice_set fields at x) (zip_put (MayHave parts.types k) fields
      (field_types parts.types n) at x t (struct_has fields h) e g)
  put_field at t x (Bound function args) e g h = absurd h

  -- the value of a field
  field_has : (at : ℕ) (t : ValueType) (o : Object) → slice_get (field_types parts.types n) at ≡ Some t
      → IsObject parts k o (struct_type n) → MayHave parts.types k (field_of at o) t
  field_has at t (Struct fields) e h =
      let f = zip_at (MayHave parts.types k) fields (field_types parts.types n) at t (struct_has fields h) e in
      subst (λ o. MayHave parts.types k (option_flatten o) t) (sym f.1) f.2
  field_has at t (Bound function args) e h = absurd h

-- how often a reference holds its object
held_self : (s : ℕ) → held s (values.Ref s) ≡ 1
held_self s =
    let e : held s (roll-Value (Value-F.Ref s)) ≡ held_step s (Value-F.Ref s) = search (rules, the_lemmas) in
    ap (held s) (sym (values.rolls-Ref s)) ∙ e ∙ is_self s

all_held_cons : (q : ℕ) (v : Value) (vs : List Value) → all_held q (v ∷ vs) ≡ held q v + all_held q vs
all_held_cons q v vs =
    let a = sum-map (held q) (v ∷ vs) in let b = sum_by-cons (held q) v vs in let c = sum-map (held q) vs in omega
    (arith, a, b, c)

pub member_held : (q : ℕ) (vs : List Value) (n : ℕ) (x : Value) → slice_get vs n ≡ Some x → held q x ≤ all_held q vs
member_held q [] n x e = absurd cc
member_held q (v ∷ vs) zero x e = let i : held q v ≡ held q x = ap (held q) (same_Some v x e) in let j =
    all_held_cons q v vs in omega (arith, i, j)
member_held q (v ∷ vs) (suc n) x e = let i = member_held q vs n x e in let j = all_held_cons q v vs in omega (
  arith,
  i,
  j,
)

pub ref_held : (q : ℕ) (vs : List Value) (n : ℕ) (x : Value) → slice_get vs n ≡ Some x → x ≡ values.Ref q
    → 1 ≤ all_held q vs
ref_held q vs n x e i = let h = member_held q vs n x e in let j = ap (held q) i ∙ held_self q in omega (arith, h, j)

module _ (parts : Parts) (k : Kinds) (st : Store) (is_store : IsStore parts k st) where
  -- a typed reference to a struct that the heap keeps has its fields
  kept_field : (h : Kept) (n at q : ℕ) (t : ValueType) → StandsFor h st
      → slice_get (field_types parts.types n) at ≡ Some t → k q ≡ Some (struct_type n) → IsKept q h.cells
      → HasFieldAt h at q
  kept_field h n at q t stands e m kept =
      let b = is_store.each q (struct_type n) m in
      let same : b.object ≡ kept.object = same_Some b.object kept.object (sym b.there
      ∙ stands.same q kept.object kept.there) in
      record {
        object = kept.object;
        there = kept.there;
        field = subst (HasFieldIn at) same (field_in parts k n at t
            b.object b.is e);
      }

  pub has_field : (h : Kept) (n at : ℕ) (t : ValueType) (v : Value) → StandsFor h st
      → slice_get (field_types parts.types n) at ≡ Some t → Has parts.types k v (types.Ref (inners.Struct n))
      → ((q : ℕ) → v ≡ values.Ref q → IsKept q h.cells) → HasField h at v
  has_field h n at t v stands e has kept = fielded (refers parts.types k (inners.Struct n) v has)
    where
      fielded : Refers k (inners.Struct n) v → HasField h at v
      fielded (RefersNull i) = subst (HasField h at) (sym i) tt
      fielded (RefersTo q i m) = subst (HasField h at) (sym i) (kept_field h n at q t stands e m (kept q i))

  unchanged : (t : Option ValueType) (v : Option Value) → IsResult parts.types k t v → Gives parts k t v st
  unchanged t v r = record { grown = k; grows = same_kinds k; store = is_store; result_is = r }

  -- a new object
  pub created : (o : Object) (type : ObjectType) (t : ValueType) → IsObject parts k o type → ((l : Kinds) (s : ℕ)
      → l s ≡ Some type → Has parts.types l (values.Ref s) t) → Answers parts k (Some t) (create o st)
  created o type t h has = record {
    grown = with_type k st.next type;
    grows = grows_new parts k st is_store type;
    store = new_typed parts k st is_store o type h;
    result_is = has (with_type k st.next type) st.next (with_here k st.next st.next (Some type) refl);
  }

  -- a change of an object that keeps its type
  changed_if : (f : Object → Object) (q : ℕ) (type : ObjectType) → ((o : Object) → IsObject parts k o type
      → IsObject parts k (f o) type) → k q ≡ Some type → Answers parts k None (change f (values.Ref q) st)
  changed_if f q type keeps m =
      let b = is_store.each q type m in
      subst (Answers parts k None) (sym (ap (λ (o : Option Object). change_of o) b.there))
      (record {
        grown = k;
        grows = same_kinds k;
        store = changed_typed parts k st is_store q type (f b.object) m
            (keeps b.object b.is);
        result_is = refl;
      })
    where
      change_of : Option Object → Answer
      change_of (Some o) = Done None (changed st q (f o))
      change_of None = Raised Raise.NullReference

  pub set_answers : (n at : ℕ) (t : ValueType) (x : Option Value) (v : Value)
      → slice_get (field_types parts.types n) at ≡ Some t → MayHave parts.types k x t
      → Has parts.types k v (types.Ref (inners.Struct n)) → Answers parts k None (change (with_field at x) v st)
  set_answers n at t x v e h has = by_reference (refers parts.types k (inners.Struct n) v has)
    where
      by_reference : Refers k (inners.Struct n) v → Answers parts k None (change (with_field at x) v st)
      by_reference (RefersNull i) = subst (λ v. Answers parts k None (change (with_field at x) v st)) (sym i) tt
      by_reference (RefersTo q i m) = subst (λ v. Answers parts k None (change (with_field at x) v st)) (sym i)
          (changed_if (with_field at x) q (struct_type n) (λ o is. put_field parts k n at t x o e h is) m)

  -- what an object tells
  told_by : (tell : Object → Option Value) (r : Raise) (q : ℕ) (type : ObjectType) (t : ValueType) → ((o : Object)
      → IsObject parts k o type → MayHave parts.types k (tell o) t) → k q ≡ Some type
      → Answers parts k (Some t) (told tell r (values.Ref q) st)
  told_by tell r q type t tells m =
      let b = is_store.each q type m in
      subst (Answers parts k (Some t)) (sym (ap (λ (o : Option Object). told_if o) b.there)) (answers_if (tell
      b.object) (tells b.object b.is))
    where
      raised_or : Option Value → Answer
      raised_or (Some v) = Done (Some v) st
      raised_or None = Raised r

      told_if : Option Object → Answer
      told_if (Some o) = raised_or (tell o)
      told_if None = Raised Raise.NullReference

      answers_if : (v : Option Value) → MayHave parts.types k v t → Answers parts k (Some t) (raised_or v)
      answers_if (Some v) h = unchanged (Some t) (Some v) h
      answers_if None h = tt

  pub tells_answers : (tell : Object → Option Value) (r : Raise) (n : ℕ) (t : ValueType) (v : Value)
      → ((o : Object) → IsObject parts k o (struct_type n) → MayHave parts.types k (tell o) t)
      → Has parts.types k v (types.Ref (inners.Struct n)) → Answers parts k (Some t) (told tell r v st)
  tells_answers tell r n t v tells has = by_reference (refers parts.types k (inners.Struct n) v has)
    where
      by_reference : Refers k (inners.Struct n) v → Answers parts k (Some t) (told tell r v st)
      by_reference (RefersNull i) = subst (λ v. Answers parts k (Some t) (told tell r v st)) (sym i) tt
      by_reference (RefersTo q i m) = subst (λ v. Answers parts k (Some t) (told tell r v st)) (sym i) (told_by tell
          r q (struct_type n) t tells m)

  pub get_answers : (n at : ℕ) (t : ValueType) (v : Value) → slice_get (field_types parts.types n) at ≡ Some t
      → Has parts.types k v (types.Ref (inners.Struct n)) → Answers parts k (Some t) (struct_get v at st)
  get_answers n at t v e has = tells_answers (field_of at) Raise.UnsetField n t v (λ o is. field_has parts k n at t o
      e is) has

  pub is_set_answers : (n at : ℕ) (v : Value) → Has parts.types k v (types.Ref (inners.Struct n))
      → Answers parts k (Some types.Bool) (struct_is_set v at st)
  is_set_answers n at v has = tells_answers (field_is_set at) Raise.UnsetField n types.Bool v (λ o is. has_bool
      parts.types k (is_some (field_of at o))) has

  -- a new struct has unset fields of the declared types
  none_have : (ms : List Member) → AllZip (MayHave parts.types k) (replicate (length ms) None) (map (λ (m : Member).
      m.kind) ms)
  none_have [] = tt
  none_have (m ∷ ms) = (tt, none_have ms)

  members_are : (d : Option Declared) → members d ≡ struct_fields d
  members_are None = refl
  members_are (Some (declared.Struct name fields)) = refl
  members_are (Some (declared.Enum name words)) = refl
  members_are (Some (declared.Overlay name fields)) = refl

  pub new_answers : (n : ℕ) → Answers parts k (Some (types.Ref (inners.Struct n))) (struct_new (fields_of parts n) st)
  new_answers n =
      let h : AllZip (MayHave parts.types k) (replicate (fields_of parts n) None) (field_types parts.types n) =
      subst (λ (ms : List Member). AllZip (MayHave parts.types k) (replicate (length ms) None) (field_types
      parts.types n)) (sym (members_are (slice_get parts.types n))) (none_have (struct_fields (slice_get
      parts.types n))) in
      created (Struct (replicate (fields_of parts n) None)) (struct_type n) (types.Ref (inners.Struct n)) (has_struct
      parts k n (replicate (fields_of parts n) None) h)
      (λ l s m. has_ref parts.types l s (inners.Struct n) m)

  pub bind_answers : (f : FnId) (args : List Value)
      → IsSomeAnd (slice_get parts.functions f.n) (CanRun parts.types k args)
      → Answers parts k (Some types.Callable) (callable_bind f.n args st)
  bind_answers f args h = created (Bound (record { n = f.n }) args) Callable types.Callable h (λ l s m. has_callable
      parts.types l s m)
