-- What instructions do with stores, from what the calls of a heap do.
use Rattle.std.proofs.Common.{◌≡◌, ◌≢◌, ℕ, ◌+◌, ◌≤◌, Bool, true, false, [], ◌∷◌, refl, sym, ap}
use Rattle.std.proofs.Common.{subst, ◌∙◌}
use Rattle.std.proofs.Common.{Option, Some, None, arith, ◌⊎◌, ⊎_elim}
use Rattle.std.proofs.lemmas.Bool.Decides.{nat_tests}
use Rattle.std.specs.Prelude.{nat_eq, OnOk, OnErr, Result, Ok, Err}
use Rattle.hilti_base.specs.declared.refusal.Raise.{Raise}
use Rattle.hilti_values.specs.declared.value.Value.{Value}
use Rattle.hilti_values.specs.declared.value.Value.TheVariants.{Ref}
use Rattle.hilti_heap.specs.declared.cells.Cell.{Cell}
use Rattle.hilti_heap.specs.declared.object.Object.{Object}
use Rattle.hilti_heap.specs.Cells.{Cells, count_at, inner_at, times_at, object_at}
use Rattle.hilti_heap.specs.Changed.{with_object}
use Rattle.hilti_heap.specs.Held.{part, held, object_held}
use Rattle.hilti_heap.specs.Kept.{Kept, Covers, AreKept, Holds, Releases, Changes}
use Rattle.hilti_heap.specs.Stands.{StandsFor, Fits, Goes, Creates}
use Rattle.hilti_heap.specs.Stores.{Store, Answer.Done, Answer.Raised}
use Rattle.hilti_heap.specs.Stores.{added, changed, create, change, told}
use Rattle.hilti_heap.proofs.Heaping.{with_here, with_there}
use Rattle.hilti_heap.proofs.Keeping.{counted_there}

-- a new object that holds nothing
pub create_goes : (o : Object) (v : Value) (a b : Kept) → ((s : ℕ) → object_held s o ≡ 0)
    → Creates o v a b → Goes (create o) (Some v) a b
create_goes o v a b none c = record {
  each = λ st stands. record {
    store = added st o;
    so = ap (λ v. Done (Some v) (added st o)) (ap (λ n. Ref n) (sym stands.next) ∙ sym c.names);
    stands = c.each st stands;
  };
  fits = λ n f. c.fits n (record {
    count = λ s. let e = f.count s in let z = none s in omega arith;
    alive = f.alive;
  });
}

-- a new object that holds what others were made to hold
pub create_with : (o : Object) (v : Value) (a b c : Kept) → Holds a b (λ s. object_held s o)
    → Creates o v b c → Goes (create o) (Some v) a c
create_with o v a b c h made = record {
  each = λ st stands. let n : b.next ≡ st.next = h.next ∙ stands.next in record {
    store = added st o;
    so = ap (λ v. Done (Some v) (added st o)) (ap (λ n. Ref n) (sym n) ∙ sym made.names);
    stands = made.each st (record {
      next = n;
      same = λ q o e. stands.same q o (sym (h.objects q) ∙ e);
    });
  };
  fits = λ n f. made.fits n (record {
    count = λ s. let e = f.count s in let k = h.count s in let i = h.inner s in omega arith;
    alive = λ s t.
        let k = h.count s in let i = h.times s in let live = f.alive s (omega arith) in omega arith;
  });
}

one_or : (q s : ℕ) → (q ≡ s) ⊎ (q ≢ s)
one_or q s = grind (arith, nat_tests)

-- a changed heap stands for the changed store
pub stands_changed : (a b : Kept) (s : ℕ) (old new : Object) (st : Store) → Changes a b s old new
    → StandsFor a st → StandsFor b (changed st s new)
stands_changed a b s old new st c f = record {
  next = c.next ∙ f.next;
  same = λ q o e. ⊎_elim
      (λ (d : q ≡ s).
      with_here st.object s q (Some new) d
      ∙ sym (with_here (λ q. object_at q a.cells) s q (Some new) d) ∙ sym (c.objects q) ∙ e)
      (λ (d : q ≢ s).
      with_there st.object s q (Some new) d
      ∙ f.same q o
      (sym (with_there (λ q. object_at q a.cells) s q (Some new) d) ∙ sym (c.objects q) ∙ e))
      (one_or q s);
}

-- the same objects stand for the same store
pub stands_held : (a b : Kept) (gained : ℕ → ℕ) (st : Store) → Holds a b gained → StandsFor a st
    → StandsFor b st
stands_held a b gained st h f = record {
  next = h.next ∙ f.next;
  same = λ q o e. f.same q o (sym (h.objects q) ∙ e);
}

-- and so do fewer of them
pub stands_released : (a b : Kept) (lost : ℕ → ℕ) (st : Store) → Releases a b lost
    → StandsFor a st → StandsFor b st
stands_released a b lost st r f = record {
  next = r.next ∙ f.next;
  same = λ q o e. f.same q o (r.objects q o e);
}

-- a value that an object tells, and that is held once more
told_is : (tell : Object → Option Value) (r : Raise) (s : ℕ) (o : Object) (v : Value) (st : Store)
    → st.object s ≡ Some o → tell o ≡ Some v → told tell r (Ref s) st ≡ Done (Some v) st
told_is tell r s o v st e t = rw (e, t) refl

pub told_goes : (tell : Object → Option Value) (r : Raise) (s : ℕ) (o : Object) (v : Value)
    (a b : Kept) → object_at s a.cells ≡ Some o → tell o ≡ Some v → Holds a b (λ q. held q v)
    → Goes (told tell r (Ref s)) (Some v) a b
told_goes tell r s o v a b there t h = record {
  each = λ st stands. record {
    store = st;
    so = told_is tell r s o v st (stands.same s o there) t;
    stands = stands_held a b (λ q. held q v) st h stands;
  };
  fits = λ n fit. record {
    count = λ q. let e = fit.count q in let k = h.count q in let i = h.inner q in omega arith;
    alive = λ q t.
        let k = h.count q in let i = h.times q in let live = fit.alive q (omega arith) in
        omega arith;
  };
}

-- none is told
pub told_raises : (tell : Object → Option Value) (r : Raise) (s : ℕ) (o : Object) (st : Store)
    → st.object s ≡ Some o → tell o ≡ None → told tell r (Ref s) st ≡ Raised r
told_raises tell r s o st e t = rw (e, t) refl

change_is : (f : Object → Object) (s : ℕ) (old : Object) (st : Store) → st.object s ≡ Some old
    → change f (Ref s) st ≡ Done None (changed st s (f old))
change_is f s old st e = rw e refl

-- what a value holds is held once more, and then it is put into an object
pub put_goes : (f : Object → Object) (s : ℕ) (x : Value) (old : Object) (a b c : Kept)
    → object_at s a.cells ≡ Some old → Holds a b (λ q. held q x) → Changes b c s old (f old)
    → ((q : ℕ) → object_held q (f old) ≡ object_held q old + held q x)
    → Goes (change f (Ref s)) None a c
put_goes f s x old a b c there h ch more = record {
  each = λ st stands. record {
    store = changed st s (f old);
    so = change_is f s old st (stands.same s old there);
    stands = stands_changed b c s old (f old) st ch (stands_held a b (λ q. held q x) st h stands);
  };
  fits = λ n fit. record {
    count = λ q.
        let e = fit.count q in let k = h.count q in let i = h.inner q in
        let l = ch.count q in let j = ch.inner q in let m = more q in omega arith;
    alive = λ q t.
        let k = h.count q in let i = h.times q in let l = ch.count q in let j = ch.times q in
        let live = fit.alive q (omega arith) in omega arith;
  };
}

module _ (f : Object → Object) (s : ℕ) (gained lost : ℕ → ℕ) (old : Object) (a b c d : Kept)
    (there : object_at s a.cells ≡ Some old) (h : Holds a b gained) (ch : Changes b c s old (f old))
    (more : (q : ℕ) → object_held q (f old) + lost q ≡ object_held q old + gained q) where
  -- what an object no longer holds can be released
  pub swap_covers : (m : ℕ → ℕ) → Covers a m → Covers c lost
  swap_covers m cov = record {
    each = λ q.
        let e = cov.each q in let k = h.count q in let i = h.inner q in
        let l = ch.count q in let j = ch.inner q in let t = more q in omega arith;
  }

  -- what others were made to hold goes into an object, and what it held before is released
  pub swap_goes : Releases c d lost → Goes (change f (Ref s)) None a d
  swap_goes r = record {
    each = λ st stands. record {
      store = changed st s (f old);
      so = change_is f s old st (stands.same s old there);
      stands =
          stands_released c d lost _ r
          (stands_changed b c s old (f old) st ch (stands_held a b gained st h stands));
    };
    fits = λ n fit. record {
      count = λ q.
          let e = fit.count q in let k = h.count q in let i = h.inner q in
          let l = ch.count q in let j = ch.inner q in let t = more q in
          let m = r.moves.share q in omega arith;
      alive = λ q. r.moves.alive q (λ t.
          let k = h.count q in let i = h.times q in let l = ch.count q in let j = ch.times q in
          let live = fit.alive q (omega arith) in omega arith);
    };
  }

-- nothing is held besides
pub holds_none : (a : Kept) → Holds a a (λ q. 0)
holds_none a = record {
  next = refl;
  objects = λ q. refl;
  count = λ q. omega arith;
  inner = λ q. refl;
  times = λ q. refl;
}

on_ok : {X E : Type 0} {P Q : Type 0} (r : Result X E) → (P → Q) → OnOk r P → OnOk r Q
on_ok (Ok x) f p = f p
on_ok (Err e) f p = tt

on_err : {X E : Type 0} {P Q : Type 0} (r : Result X E) → (P → Q) → OnErr r P → OnErr r Q
on_err (Ok x) f p = tt
on_err (Err e) f p = f p

-- an object is changed through a reference: what the write did is what happens to the heap
pub changes_to : (h : Kept) (s : ℕ) (f : Object → Object) (now then : Object)
    → Some now ≡ object_at s h.cells
    → ((old new : Object) → object_at s h.cells ≡ Some old
    → Changes h (with_object h s new) s old new)
    → then ≡ f now → (old : Object) → object_at s h.cells ≡ Some old
    → Changes h (with_object h s then) s old (f old)
changes_to h s f now then value ch t old e =
    let k : now ≡ old = let d = value ∙ e in cc (d) in
    subst (λ new. Changes h (with_object h s then) s old new) (t ∙ ap f k) (ch old then e)

-- the same for a write that may be refused
pub changes_by : {X E : Type 0} (r : Result X E) (h : Kept) (s : ℕ) (f : Object → Object)
    (now then : Object) → Some now ≡ object_at s h.cells
    → ((old new : Object) → object_at s h.cells ≡ Some old
    → Changes h (with_object h s new) s old new)
    → OnOk r (then ≡ f now) → (old : Object) → object_at s h.cells ≡ Some old
    → OnOk r (Changes h (with_object h s then) s old (f old))
changes_by r h s f now then value ch ok old e =
    on_ok r (λ t. changes_to h s f now then value ch t old e) ok

pub keeps_by : {X E : Type 0} (r : Result X E) (h : Kept) (s : ℕ) (now then : Object)
    → Some now ≡ object_at s h.cells
    → ((old : Object) → object_at s h.cells ≡ Some old → with_object h s old ≡ h)
    → OnErr r (then ≡ now) → OnErr r (with_object h s then ≡ h)
keeps_by r h s now then value keeps err =
    on_err r (λ t. ap (with_object h s) t ∙ keeps now (sym value)) err

-- counts that fit cover what others hold
pub fits_covers : (h : Kept) (n : ℕ → ℕ) → Fits h n → Covers h n
fits_covers h n fit = record { each = λ s. let e = fit.count s in omega arith }

-- a heap without objects stands for a store without objects, and its counts fit where nothing is held
pub empty_stands : (h : Kept) → h.cells ≡ []
    → StandsFor h (record { next = h.next; object = λ s. None })
empty_stands h e = record {
  next = refl;
  same = λ s o there. absurd (let d = ap (object_at s) e in cc (d, there));
}

pub empty_fits : (h : Kept) → h.cells ≡ [] → Fits h (λ s. 0)
empty_fits h e = record {
  count = λ s. let c = ap (count_at s) e in let i = ap (inner_at s) e in omega arith;
  alive = λ s t. let d = ap (times_at s) e in absurd (omega arith);
}

-- what the counts cover is kept
pub covers_kept : (h : Kept) (m k : ℕ → ℕ) → Covers h m → ((s : ℕ) → k s ≤ m s) → AreKept h k
covers_kept h m k c below = record {
  each = λ s one.
      let e = c.each s in let b = below s in counted_there s h.cells (omega arith);
}

-- what an object holds is a part of what objects hold
object_step : (q s : ℕ) (cell : Cell) (cells : Cells) (o : Object) (b : Bool)
    → nat_eq s cell.serial ≡ b → object_at s (Some cell ∷ cells) ≡ Some o
    → (object_at s cells ≡ Some o → object_held q o ≤ inner_at q cells)
    → object_held q o ≤ inner_at q (Some cell ∷ cells)
object_step q s cell cells o true d e more =
    let k : Some cell.object ≡ Some o = rw d at e in
    let j : object_held q cell.object ≡ object_held q o = ap (part (object_held q)) k in
    omega arith
object_step q s cell cells o false d e more = let h = more (rw d at e) in omega arith

pub object_in_inner : (q s : ℕ) (cells : Cells) (o : Object) → object_at s cells ≡ Some o
    → object_held q o ≤ inner_at q cells
object_in_inner q s [] o e = absurd (cc)
object_in_inner q s (None ∷ cells) o e =
    let d = object_in_inner q s cells o e in omega arith
object_in_inner q s (Some cell ∷ cells) o e =
    object_step q s cell cells o (nat_eq s cell.serial) refl e (object_in_inner q s cells o)

-- what an object that is kept holds is kept
pub inner_kept : (h : Kept) (s : ℕ) (o : Object) (m k : ℕ → ℕ) → Covers h m
    → object_at s h.cells ≡ Some o → ((q : ℕ) → k q ≤ object_held q o) → AreKept h k
inner_kept h s o m k c there below = record {
  each = λ q one.
      let a = c.each q in let b = object_in_inner q s h.cells o there in let f = below q in
      counted_there q h.cells (omega arith);
}
