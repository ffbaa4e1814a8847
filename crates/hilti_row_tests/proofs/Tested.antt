-- A struct that was made on an empty heap.
use Rattle.std.proofs.Common.{◌≡◌, ℕ, ◌+◌, ◌<◌, ◌≤◌, List, [], replicate, refl, sym, ap, subst, ◌∙◌}
use Rattle.std.proofs.Common.{Option, Some, None, arith, inl}
use Rattle.std.proofs.lemmas.List.{length-replicate}
use Rattle.hilti_values.specs.declared.value.Value.{Value}
use Rattle.hilti_values.specs.declared.value.Value.TheVariants.{Ref, Int, rolls-Ref, rolls-Int}
use Rattle.hilti_values.specs.declared.value.Value.TheOpen.{Value-F}
use Rattle.hilti_values.specs.declared.value.Value.TheFolds.{fold-roll-Value}
use Rattle.hilti_heap.specs.declared.object.Object.{Object}
use Rattle.hilti_heap.specs.declared.object.Object.TheVariants.{Struct}
use Rattle.hilti_heap.specs.Held.{is, held, all_held, held_step}
use Rattle.hilti_heap.specs.Kept.{Kept, AreKept}
use Rattle.hilti_heap.specs.Stands.{Fits, Goes, GoesTo, IsKept}
use Rattle.hilti_heap.specs.Stores.{Store, added}
use Rattle.hilti_heap.proofs.Heaping.{with_here}
use Rattle.hilti_heap.proofs.Keeping.{held_kept}
use Rattle.hilti_heap.proofs.Places.{is_self}
use Rattle.hilti_heap.proofs.Standing.{empty_stands, empty_fits, fits_covers}
use Rattle.hilti_heap_ops.specs.Meaning.{struct_new}
use Rattle.hilti_heap_ops.specs.Shapes.{HasField, HasFieldAt, AreHeld}

-- a reference holds its object
held_itself : (s : ℕ) → held s (Ref s) ≡ is s s
held_itself s =
    ap (held s) (sym (rolls-Ref s)) ∙ fold-roll-Value ℕ (held_step s) (Value-F.Ref s)

module _ (n at : ℕ) (v : Value) (a b : Kept) (empty : a.cells ≡ []) (below : at < n)
    (result : Option Value) (is_v : result ≡ Some v) (made : Goes (struct_new n) result a b) where
  goes : Goes (struct_new n) (Some v) a b
  goes = subst (λ result. Goes (struct_new n) result a b) is_v made

  abbrev unset : Option Value
  unset = None

  abbrev fields : Object
  fields = Struct (replicate n unset)

  abbrev before : Store
  before = record { next = a.next; object = λ s. None }

  done : GoesTo (struct_new n) (Some v) b before
  done = goes.each before (empty_stands a empty)

  named : v ≡ Ref a.next
  named = let so = done.so in cc (so)

  after : done.store ≡ added before fields
  after = let so = done.so in cc (so)

  fit : Fits b (λ s. 0 + held s v)
  fit = goes.fits (λ s. 0) (empty_fits a empty)

  pub made_held : AreHeld b v
  made_held =
      let c = fits_covers b (λ s. 0 + held s v) fit in
      record { each = λ s. let e = c.each s in omega arith }

  once : 1 ≤ 0 + held a.next v
  once =
      let e = ap (held a.next) named in
      let one = held_itself a.next in
      let s = is_self a.next in
      omega arith

  kept : IsKept a.next b.cells
  kept = held_kept b (λ s. 0 + held s v) fit a.next (inl once)

  is_struct : kept.object ≡ fields
  is_struct =
      let told = done.stands.same a.next kept.object kept.there in
      let added_there = ap (λ (st : Store). st.object a.next) after in
      let here = with_here (λ s. None) a.next a.next (Some fields) refl in
      cc (told, added_there, here)

  pub made_field : HasField b at v
  made_field =
      let len = length-replicate n unset in
      let there : HasFieldAt b at a.next = record {
        object = fields;
        there = kept.there ∙ ap Some is_struct;
        field = omega arith;
      } in
      subst (HasField b at) (sym named) there

  -- a value that holds nothing is held by others
  pub made_plain : (x : Value) → ((s : ℕ) → held s x ≡ 0) → AreHeld b x
  made_plain x none =
      let c = fits_covers b (λ s. 0 + held s v) fit in
      record { each = λ s. let e = c.each s in let z = none s in omega arith }

-- a number holds nothing
pub number_holds_nothing : (n s : ℕ) → held s (Int n) ≡ 0
number_holds_nothing n s =
    ap (held s) (sym (rolls-Int n)) ∙ fold-roll-Value ℕ (held_step s) (Value-F.Int n)

-- no arguments hold anything
pub none_held : (h : Kept) (values : List Value) → values ≡ []
    → AreKept h (λ s. all_held s values)
none_held h values none = record {
  each = λ s some. let z = ap (all_held s) none in
      let d : all_held s [] ≡ 0 = refl in omega arith;
}
