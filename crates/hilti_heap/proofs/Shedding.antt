-- Holders that go one after another.
use Rattle.std.proofs.Common.{◌≡◌, ℕ, ◌+◌, ◌<◌, ◌≤◌, List, length, take, get_or, refl, sym, ap, ◌∙◌}
use Rattle.std.proofs.Common.{arith, Option, Some, None, ⊎_elim}
use Rattle.std.specs.Prelude.{slice_get}
use Rattle.std.proofs.lemmas.Option.{get_or_from_slice_get, slice_get_cases}
use Rattle.std.proofs.lemmas.List.Sums.{sum-map, sum_by_more, sum_by-take-le}
use Rattle.hilti_values.specs.declared.value.Value.{Value}
use Rattle.hilti_heap.specs.declared.shelf.Shelf.{Shelf}
use Rattle.hilti_heap.specs.Held.{part, held, all_held, fields_held}
use Rattle.hilti_values.proofs.value.Value.TheLaws.{the_size}
use denote.Param.Weighed.{most, at_most}
use Rattle.hilti_heap.specs.Shelves.{Ready, Sheds}

-- none went so far
pub sheds_none : (a : Shelf) (lost : ℕ → ℕ) → ((s : ℕ) → lost s ≡ 0) → Sheds a a lost
sheds_none a lost e = record {
  count = λ s. let z = e s in omega arith;
  within = λ s. refl;
  objects = λ s o h. h;
  times = λ s. omega arith;
  alive = λ s h. h;
  kept = λ h. h;
  size = refl;
  capacity = refl;
}

-- more went
pub sheds_then : (a b c : Shelf) (m k l : ℕ → ℕ) → Sheds a b m → Sheds b c k
    → ((s : ℕ) → m s + k s ≡ l s) → Sheds a c l
sheds_then a b c m k l x y e = record {
  count = λ s. let p = x.count s in let q = y.count s in let z = e s in omega arith;
  within = λ s. y.within s ∙ x.within s;
  objects = λ s o h. x.objects s o (y.objects s o h);
  times = λ s. let p = x.times s in let q = y.times s in omega arith;
  alive = λ s h. y.alive s (x.alive s h);
  kept = λ h. y.kept (x.kept h);
  size = y.size ∙ x.size;
  capacity = y.capacity ∙ x.capacity;
}

-- the others can still go
pub ready_rest : (a b : Shelf) (m k l : ℕ → ℕ) → Ready a l → Sheds a b m
    → ((s : ℕ) → m s + k s ≤ l s) → Ready b k
ready_rest a b m k l r x e = record {
  enough = λ s. let p = r.enough s in let q = x.count s in let z = e s in omega arith;
  once = λ s. let p = r.once s in let q = x.times s in omega arith;
  kept = x.kept r.kept;
  room = let p = r.room in let q = x.size in let z = x.capacity in omega arith;
}

-- the values before a place and the value there
pub held_next : (s : ℕ) (values : List Value) (at : ℕ) (value : Value) → at < length values
    → value ≡ get_or values at value
    → all_held s (take (at + 1) values) ≡ all_held s (take at values) + held s value
held_next s values at value below is =
    omega (
      arith,
      sum-map (held s) (take (at + 1) values),
      sum-map (held s) (take at values),
      sum_by_more (held s) values at value below,
      ap (held s) is,
    )

-- some values hold no more than all
pub held_some : (s : ℕ) (values : List Value) (at : ℕ)
    → all_held s (take at values) ≤ all_held s values
held_some s values at =
    omega (
      arith,
      sum-map (held s) (take at values),
      sum-map (held s) values,
      sum_by-take-le (held s) values at,
    )

pub held_upto : (s : ℕ) (values items : List Value) (at : ℕ) (value : Value) → items ≡ values
    → at < length items → value ≡ get_or items at value
    → all_held s (take at items) + held s value ≤ all_held s values
held_upto s values items at value same below is =
    let next = held_next s items at value below is in
    let some = held_some s items (at + 1) in
    let all = ap (all_held s) same in
    omega arith

-- a value is no deeper than the deepest
pub none_deeper : (values items : List Value) (at : ℕ) (value : Value) → items ≡ values
    → at < length items → value ≡ get_or items at value
    → the_size value ≤ most the_size values
none_deeper values items at value same below is =
    let deep = at_most the_size items at value below in
    let one = ap the_size is in
    let all = ap (most the_size) same in
    omega (arith, deep, one, all)

-- the fields before a place and the field there
pub fields_next : (s : ℕ) (fields : List (Option Value)) (at : ℕ) (field : Option Value)
    → at < length fields → slice_get fields at ≡ Some field
    → fields_held s (take (at + 1) fields) ≡ fields_held s (take at fields) + part (held s) field
fields_next s fields at field below is =
    let more = sum_by_more (part (held s)) fields at field below in
    let one = ap (part (held s)) (get_or_from_slice_get fields at field field is) in
    omega arith

fields_some : (s : ℕ) (fields : List (Option Value)) (at : ℕ)
    → fields_held s (take at fields) ≤ fields_held s fields
fields_some s fields at = sum_by-take-le (part (held s)) fields at

-- the items before a place and the item there
pub items_next : (s : ℕ) (items : List Value) (at : ℕ) (item : Option Value) → at < length items
    → item ≡ slice_get items at
    → all_held s (take (at + 1) items) ≡ all_held s (take at items) + part (held s) item
items_next s items at None below is = absurd
    (let e = slice_get_cases items at in ⊎_elim (λ x. let y = x.2 in cc) (λ x. let y = x.0 in omega
    arith) e.1)
items_next s items at (Some item) below is =
    held_next s items at item below (sym (get_or_from_slice_get items at item item (sym is)))

module _ (a b c : Shelf) (at : ℕ) (field : Option Value) where
  pub fields_ready : (fields : List (Option Value)) → Ready a (λ s. fields_held s fields)
      → Sheds a b (λ s. fields_held s (take at fields)) → at < length fields
      → slice_get fields at ≡ Some field
      → Ready b (λ s. part (held s) field)
  fields_ready fields ready sheds below is =
      ready_rest a b (λ s. fields_held s (take at fields)) (λ s. part (held s) field)
      (λ s. fields_held s fields) ready sheds
      (λ s. let n = fields_next s fields at field below is in let m = fields_some s fields (at +
      1) in omega arith)

  pub fields_then : (fields : List (Option Value)) → Sheds a b (λ s. fields_held s (take at fields))
      → Sheds b c (λ s. part (held s) field) → at < length fields → slice_get fields at ≡ Some field
      → Sheds a c (λ s. fields_held s (take (at + 1) fields))
  fields_then fields x y below is = sheds_then a b c _ _ _ x y
      (λ s. sym (fields_next s fields at field below is))

  pub items_ready : (items : List Value) → Ready a (λ s. all_held s items)
      → Sheds a b (λ s. all_held s (take at items)) → at < length items → field ≡ slice_get items at
      → Ready b (λ s. part (held s) field)
  items_ready items ready sheds below is =
      ready_rest a b (λ s. all_held s (take at items)) (λ s. part (held s) field)
      (λ s. all_held s items) ready sheds
      (λ s. let n = items_next s items at field below is in let m = held_some s items (at + 1) in
      omega arith)

  pub items_then : (items : List Value) → Sheds a b (λ s. all_held s (take at items))
      → Sheds b c (λ s. part (held s) field) → at < length items → field ≡ slice_get items at
      → Sheds a c (λ s. all_held s (take (at + 1) items))
  items_then items x y below is = sheds_then a b c _ _ _ x y
      (λ s. sym (items_next s items at field below is))
