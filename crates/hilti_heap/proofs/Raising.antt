-- Holders that come one after another.
use Rattle.std.proofs.Common.{◌≡◌, ℕ, ◌+◌, ◌<◌, List, length, take, get_or, refl, ◌∙◌}
use Rattle.std.proofs.Common.{arith}
use Rattle.std.specs.Prelude.{Result, Ok, Err, OnErr}
use Rattle.hilti_values.specs.declared.value.Value.{Value}
use Rattle.hilti_heap.specs.declared.shelf.Shelf.{Shelf}
use Rattle.hilti_heap.specs.Held.{held, all_held}
use Rattle.hilti_heap.specs.Shelves.{Known, Gains, Overflows, SameBut}
use Rattle.hilti_heap.proofs.Shedding.{held_upto}

pub same_self : (a : Shelf) → SameBut a a
same_self a = record { inner = λ s. refl; objects = λ s. refl; times = λ s. refl; size = refl }

pub raises_none : (a : Shelf) (gained : ℕ → ℕ) → ((s : ℕ) → gained s ≡ 0) → Gains a a gained
raises_none a gained e = record { count = λ s. let z = e s in omega arith; same = same_self a }

pub same_then : (a b c : Shelf) → SameBut a b → SameBut b c → SameBut a c
same_then a b c x y = record {
  inner = λ s. y.inner s ∙ x.inner s;
  objects = λ s. y.objects s ∙ x.objects s;
  times = λ s. y.times s ∙ x.times s;
  size = y.size ∙ x.size;
}

pub raises_then : (a b c : Shelf) (m k l : ℕ → ℕ) → Gains a b m → Gains b c k
    → ((s : ℕ) → l s ≡ m s + k s) → Gains a c l
raises_then a b c m k l x y e = record {
  count = λ s. let p = x.count s in let q = y.count s in let z = e s in omega arith;
  same = same_then a b c x.same y.same;
}

-- the next value's objects are there
pub known_next : (a b : Shelf) (values items : List Value) (at : ℕ) (value : Value) (m : ℕ → ℕ)
    → items ≡ values → at < length items → value ≡ get_or items at value
    → Known a (λ s. all_held s values) → Gains a b m → Known b (λ s. held s value)
known_next a b values items at value m same below is known x = record {
  each = λ s h.
      let k = held_upto s values items at value same below is in
      let t = known.each s (omega arith) in
      let e = x.same.times s in
      omega arith;
}

-- where one more value overflows, all of them do
pub overflows_next : (a b : Shelf) (values items : List Value) (at : ℕ) (value : Value)
    → items ≡ values → at < length items → value ≡ get_or items at value
    → Gains a b (λ s. all_held s (take at items)) → Overflows b (λ s. held s value)
    → Overflows a (λ s. all_held s values)
overflows_next a b values items at value same below is x full = record {
  serial = full.serial;
  over = λ once.
      let t = x.same.times full.serial in
      let o = full.over (omega arith) in
      let c = x.count full.serial in
      let k = held_upto full.serial values items at value same below is in
      omega arith;
}

-- what is so, is so where a call failed
pub failed : {X E : Type 0} {P : Type 0} (r : Result X E) → P → OnErr r P
failed (Ok x) p = tt
failed (Err e) p = p
