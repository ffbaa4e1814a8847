-- What the calls of a heap do, from what its parts do.
use Rattle.std.proofs.Common.{◌≡◌, ◌≢◌, ℕ, ◌+◌, true, false, [], length}
use Rattle.std.proofs.Common.{refl, sym, ap, ◌∙◌, Some, None, arith, ⊎_elim}
use Rattle.std.proofs.lemmas.Bool.Decides.{nat_tests}
use Rattle.std.specs.Prelude.{slice_get, slice_set, nat_eq}
use Rattle.std.specs.Vec.{vec_len, vec_capacity}
use Rattle.hilti_heap.specs.declared.cells.Cell.{Cell}
use Rattle.hilti_heap.specs.declared.object.Object.{Object}
use Rattle.hilti_heap.specs.declared.shelf.Shelf.{Shelf}
use Rattle.hilti_heap.specs.declared.heap.Heap.TheInside.{Inside}
use Rattle.hilti_heap.specs.Held.{is, object_held}
use Rattle.hilti_heap.specs.Cells.{new_cell, over, count_in, count_at, inner_at}
use Rattle.hilti_heap.specs.Cells.{times_at, object_at}
use Rattle.hilti_heap.specs.Shelves.{dying_held, within, Ready, Sheds, LetsGo, Opens}
use Rattle.hilti_heap.specs.Shelves.{KeepsRest, Known}
use Rattle.hilti_heap.specs.Kept.{Kept, with_at, Covers, AreKept, Makes, Releases}
use Rattle.hilti_heap.specs.Heaps.{seen, Sound}
use Rattle.hilti_heap.proofs.Places.{set_here, is_same, is_other, over_set, no_count}
use Rattle.hilti_heap.proofs.Places.{object_here, object_other}
use Rattle.hilti_heap.proofs.Lowering.{apart}

-- nothing is to be given back
none_dying : (a : Inside) → Sound a → vec_len a.shelf.dying ≡ 0
none_dying a sound = let o = a.shelf.dying.ok in let e = ap length sound.dying in omega arith

inner_only : (b : Shelf) (s : ℕ) → b.dying.items ≡ [] → within s b ≡ inner_at s b.cells.items
inner_only b s e = let d : dying_held s b.dying.items ≡ 0 = ap (dying_held s) e in omega arith

module _ (a : Inside) (v : Kept) (is_v : seen a ≡ v) (sound : Sound a) (m : ℕ → ℕ)
    (covers : Covers v m) where
  pub ready : Ready a.shelf m
  ready = record {
    enough = λ s. let c = covers.each s in let e = ap (λ (v : Kept). count_at s v.cells) is_v in
        omega arith;
    once = sound.once;
    kept = sound.kept;
    room = let r = sound.room in let n = none_dying a sound in omega arith;
  }

  pub drain_ready : (b : Shelf) → Sheds a.shelf b m → Ready b (λ s. within s b)
  drain_ready b x = record {
    enough = λ s.
        let c = covers.each s in let e = ap (λ (v : Kept). count_at s v.cells) is_v in let i =
        ap (λ (v : Kept). inner_at s v.cells) is_v in
        let p = x.count s in let q = x.within s in let d = inner_only a.shelf s sound.dying in
        omega arith;
    once = λ s. let o = sound.once s in let t = x.times s in omega arith;
    kept = x.kept sound.kept;
    room = let r = sound.room in let n = none_dying a sound in let z = x.size in let c =
        x.capacity in omega arith;
  }

  module _ (b c : Shelf) (x : Sheds a.shelf b m) (y : LetsGo b c) (over : c.dying.items ≡ []) where
    pub released : Releases v (record { next = a.next; cells = c.cells.items }) m
    released = record {
      next = ap (λ (v : Kept). v.next) is_v;
      objects = λ s o h. let e = ap (λ (v : Kept). object_at s v.cells) is_v in sym e ∙
          x.objects s o (y.objects s o h);
      moves = record {
        share = λ s.
            let e = ap (λ (v : Kept). count_at s v.cells) is_v in let i =
            ap (λ (v : Kept). inner_at s v.cells) is_v in
            let p = x.count s in let q = x.within s in let d = inner_only a.shelf s sound.dying in
            let r = y.count s in let f = inner_only c s over in omega arith;
        alive = λ s. rw (← is_v) (λ h. y.alive s (x.alive s h));
      };
      covers = record
          { each = λ s. let r = y.ready.enough s in let f = inner_only c s over in omega arith };
    }

    pub sound_then : Sound (record { shelf = c; next = a.next })
    sound_then = record {
      once = y.ready.once;
      new = λ s h. let n = sound.new s h in let t = x.times s in let u = y.times s in omega arith;
      kept = y.ready.kept;
      room = let r = y.ready.room in omega arith;
      dying = over;
    }

pub known_in : (a : Inside) (v : Kept) (m : ℕ → ℕ) → seen a ≡ v → AreKept v m → Known a.shelf m
known_in a v m is_v kept = record {
  each = λ s h. let k = kept.each s h in let e = ap (λ (v : Kept). times_at s v.cells) is_v in
      omega arith;
}

-- with another value at a place
pub with_here : {X : Type 0} (f : ℕ → X) (s q : ℕ) (x : X) → q ≡ s → with_at f s x q ≡ x
with_here f s q x e = let d : nat_eq q s ≡ true = grind (arith, nat_tests) in rw d refl

pub with_there : {X : Type 0} (f : ℕ → X) (s q : ℕ) (x : X) → q ≢ s → with_at f s x q ≡ f q
with_there f s q x e = let d : nat_eq q s ≡ false = grind (arith, nat_tests) in rw d refl

pub is_zero : (s r : ℕ) → is s r ≡ 0 → s ≢ r
is_zero s r z e = let o = is_same s r e in omega arith

-- a new object at a free place
module _ (a : Inside) (v : Kept) (is_v : seen a ≡ v) (sound : Sound a) (b c : Shelf) (p : ℕ)
    (o : Object) (opens : Opens a.shelf b p) (rest : KeepsRest a.shelf b)
    (ec : c.cells.items ≡ slice_set b.cells.items p (Some (new_cell a.next o)))
    (ek : c.kept ≡ b.kept + 1) (ed : c.dying ≡ b.dying) where
  more : (f : Cell → ℕ) → over f c.cells.items ≡ over f a.shelf.cells.items + f (new_cell a.next o)
  more f =
      let x = over_set f b.cells.items p None (Some (new_cell a.next o)) opens.free in
      let z = ap (over f) ec in let e = opens.sums f in
      omega arith

  pub made_sound : Sound (record { shelf = c; next = a.next + 1 })
  made_sound = record {
    once = λ s. let t = more (λ cell. is s cell.serial) in let n = sound.new s in let u =
        sound.once s in ⊎_elim
        (λ (z : is s a.next ≡ 0). omega arith)
        (λ (e : s ≡ a.next). let i = is_same s a.next e in let w = n (omega arith) in omega arith)
        (apart s a.next);
    new = λ s h. let t = more (λ cell. is s cell.serial) in let i =
        is_other s a.next (λ e. omega arith) in let w = sound.new s (omega arith) in omega arith;
    kept = let t = more (λ cell. 1) in let k = sound.kept in let r = rest.kept in omega arith;
    room = let t = more (λ cell. 1) in let r = opens.room in let k = opens.sums (λ cell. 1) in
        let e = ap vec_capacity ed in omega arith;
    dying = ap (λ d. d.items) ed ∙ rest.dying ∙ sound.dying;
  }

  pub made : Makes v (record { next = a.next + 1; cells = c.cells.items }) a.next o
  made = record {
    is = ap (λ (v : Kept). v.next) is_v;
    next = ap (λ (v : Kept). v.next + 1) is_v;
    objects = λ s. rw (← is_v) (⊎_elim
        (λ (z : is s a.next ≡ 0). ap (object_at s) ec ∙ object_other s b.cells.items p None (Some
        (new_cell a.next o)) opens.free refl z ∙ opens.objects s ∙ sym (with_there
        (λ s. object_at s a.shelf.cells.items) a.next s (Some o) (is_zero s a.next z)))
        (λ (e : s ≡ a.next).
        let there : slice_get c.cells.items p ≡ Some (Some (new_cell a.next o)) =
        ap (λ cells. slice_get cells p) ec ∙
        set_here b.cells.items p None (Some (new_cell a.next o)) opens.free in
        object_here s c.cells.items p
        (record { cell = new_cell a.next o; there = there; serial = sym e })
        (made_sound.once s) ∙ sym
        (with_here (λ s. object_at s a.shelf.cells.items) a.next s (Some o) e))
        (apart s a.next));
    count = λ s. let t = more (count_in s) in let n = no_count s a.shelf.cells.items in let e =
        ap (λ (v : Kept). count_at s v.cells) is_v in let z : count_in s (new_cell a.next o) ≡ 0 =
        grind (arith, nat_tests) in omega arith;
    inner = λ s. let t = more (λ cell. object_held s cell.object) in let e =
        ap (λ (v : Kept). inner_at s v.cells) is_v in omega arith;
    times = λ s. let t = more (λ cell. is s cell.serial) in let e =
        ap (λ (v : Kept). times_at s v.cells) is_v in omega arith;
  }
