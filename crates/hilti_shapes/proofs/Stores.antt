-- Stores of typed objects, with more objects and with changed ones.
use Rattle.std.proofs.Common.{◌≡◌, ◌≢◌, ℕ, ◌+◌, ◌<◌, List, sym, ap, ◌∙◌, Option, Some, None}
use Rattle.std.proofs.Common.{IsSomeAnd, arith, ◌⊎◌, inl, inr}
use Rattle.std.proofs.Math.Path.{subst}
use Rattle.std.proofs.lemmas.Option.{same_Some}
use Rattle.std.proofs.lemmas.Bool.Decides.{nat_tests}
use Rattle.std.specs.Prelude.{slice_get, take}
use Rattle.hilti_types.specs.declared.value_type.Inner.{Inner, out-Inner}
use Rattle.hilti_types.specs.declared.value_type.Inner.TheOpen.{Inner-F}
use Rattle.hilti_types.specs.declared.value_type.ValueType.{ValueType}
use Rattle.hilti_parts.specs.declared.parts.Function.{Function}
use Rattle.hilti_parts.specs.declared.parts.Parts.{Parts}
use Rattle.hilti_values.specs.declared.value.Value.{Value}
use Rattle.hilti_heap.specs.declared.object.Object.{Object}
use Rattle.hilti_heap.specs.declared.object.Object.TheVariants.{Struct, Bound}
use Rattle.hilti_heap.specs.Kept.{with_at}
use Rattle.hilti_heap.specs.Stores.{Store, added, changed}
use Rattle.hilti_heap.proofs.Heaping.{with_here, with_there}
use Rattle.hilti_shapes.specs.Needs.{ObjectType, ObjectType.Referred, ObjectType.Callable, Kinds, Grows, no_kinds}
use Rattle.hilti_shapes.specs.Objects.{field_types, IsStruct, CanRun, IsObject, Names, IsStore}
use Rattle.hilti_shapes.proofs.Growing.{have_grow, fields_grow}

module _ (parts : Parts) (k l : Kinds) (g : Grows k l) where
  struct_grow : (fields : List (Option Value)) (shape : Inner-F Inner ValueType)
      → IsStruct parts.types k fields shape → IsStruct parts.types l fields shape
  struct_grow fields (Inner-F.Struct n) h = fields_grow parts.types k l g fields (field_types parts.types n) h
  struct_grow fields Inner-F.Timer h = absurd h
  struct_grow fields Inner-F.Manager h = absurd h
  struct_grow fields (Inner-F.List item) h = absurd h
  struct_grow fields (Inner-F.Vector item) h = absurd h
  struct_grow fields (Inner-F.Set item) h = absurd h
  struct_grow fields (Inner-F.Map key value) h = absurd h
  struct_grow fields (Inner-F.Classifier rule value) h = absurd h

  callable_grow : (values : List Value) (f : Option Function) → IsSomeAnd f (CanRun parts.types k values)
      → IsSomeAnd f (CanRun parts.types l values)
  callable_grow values None h = absurd h
  callable_grow values (Some f) h = record {
    void = h.void;
    arguments = have_grow parts.types k l g values (take
        f.params f.slots) h.arguments;
  }

  pub object_grow : (o : Object) (type : ObjectType) → IsObject parts k o type → IsObject parts l o type
  object_grow (Struct fields) (Referred to) h = struct_grow fields (out-Inner to) h
  object_grow (Struct fields) Callable h = absurd h
  object_grow (Bound function values) (Referred to) h = absurd h
  object_grow (Bound function values) Callable h = callable_grow values (slice_get parts.functions function.n) h

-- one type more
abbrev pub with_type : Kinds → ℕ → ObjectType → Kinds
with_type k n type = with_at k n (Some type)

one_or : (q s : ℕ) → (q ≡ s) ⊎ (q ≢ s)
one_or q s = grind (arith, nat_tests)

module _ (parts : Parts) (k : Kinds) (st : Store) (is : IsStore parts k st) where
  pub grows_new : (type : ObjectType) → Grows k (with_type k st.next type)
  grows_new type s of e = let b = is.known s of e in with_there k st.next s (Some type) (omega arith) ∙ e

  new_known : (type : ObjectType) (s : ℕ) (of : ObjectType) → with_type k st.next type s ≡ Some of
      → (s ≡ st.next) ⊎ (s ≢ st.next) → s < st.next + 1
  new_known type s of e (inl i) = omega (arith, i)
  new_known type s of e (inr i) = let b = is.known s of (sym (with_there k st.next s (Some type) i)
      ∙ e) in omega arith

  new_names : (o : Object) (type : ObjectType) → IsObject parts k o type → (s : ℕ) (of : ObjectType)
      → with_type k st.next type s ≡ Some of → (s ≡ st.next) ⊎ (s ≢ st.next)
      → Names parts (with_type k st.next type) (added st o) s of
  new_names o type h s of e (inl i) = record {
    object = o;
    there = with_here st.object st.next s (Some o) i;
    is = subst (IsObject parts (with_type k st.next type) o) (same_Some type of (sym (with_here k st.next s (Some
        type) i) ∙ e))
        (object_grow parts k (with_type k st.next type) (grows_new type) o type h);
  }
  new_names o type h s of e (inr i) =
      let b = is.each s of (sym (with_there k st.next s (Some type) i) ∙ e) in record {
        object = b.object;
        there = with_there st.object st.next s (Some o) i ∙ b.there;
        is = object_grow parts k (with_type k st.next type) (grows_new type) b.object of b.is;
      }

  -- a new object has the next serial
  pub new_typed : (o : Object) (type : ObjectType) → IsObject parts k o type
      → IsStore parts (with_type k st.next type) (added st o)
  new_typed o type h = record {
    known = λ s of e. new_known type s of e (one_or s st.next);
    each = λ s of e. new_names o type h s of e (one_or s st.next);
  }

  changed_names : (s : ℕ) (type : ObjectType) (o : Object) → k s ≡ Some type → IsObject parts k o type
      → (q : ℕ) (of : ObjectType) → k q ≡ Some of → (q ≡ s) ⊎ (q ≢ s)
      → Names parts k (changed st s o) q of
  changed_names s type o e h q of i (inl j) = record {
    object = o;
    there = with_here st.object s q (Some o) j;
    is = subst (IsObject parts k o) (same_Some type of (sym e ∙ ap k (sym j) ∙ i)) h;
  }
  changed_names s type o e h q of i (inr j) =
      let b = is.each q of i in record {
        object = b.object;
        there = with_there st.object s q (Some o) j
            ∙ b.there;
        is = b.is;
      }

  -- another object of the same type in the place of one
  pub changed_typed : (s : ℕ) (type : ObjectType) (o : Object) → k s ≡ Some type → IsObject parts k o type
      → IsStore parts k (changed st s o)
  changed_typed s type o e h = record {
    known = is.known;
    each = λ q of i. changed_names s type o e h q of i (one_or q s);
  }

-- nothing is typed where no object is
pub empty_typed : (parts : Parts) → IsStore parts no_kinds (record { next = 0; object = λ s. None })
empty_typed parts = record { known = λ s of e. absurd cc; each = λ s of e. absurd cc }
