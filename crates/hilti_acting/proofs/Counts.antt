-- What frames and globals hold, as they change.
use Rattle.std.proofs.Common.{◌≡◌, ℕ, ◌+◌, ◌≤◌, List, [], ◌∷◌, ◌++◌, refl, sym, ap, subst, ◌∙◌}
use Rattle.std.proofs.Common.{Option, Some, None, arith, sum_by}
use Rattle.std.specs.Prelude.{slice_get, slice_set}
use Rattle.std.proofs.lemmas.Option.{slice_get_within, get_or_from_slice_get}
use Rattle.std.proofs.lemmas.List.Sums.{sum-map, sum_by-set}
use Rattle.hilti_values.specs.declared.value.Value.{Value}
use Rattle.hilti_heap.specs.Held.{part, held, all_held}
use Rattle.hilti_heap.specs.Kept.{Kept, Covers, Holds, Releases}
use Rattle.hilti_heap.specs.Stands.{StandsFor, Fits}
use Rattle.hilti_heap.specs.Stores.{Store}
use Rattle.hilti_parts.specs.declared.parts.Variable.{Variable}
use Rattle.hilti_parts.specs.declared.parts.Variable.TheVariants as variables
use Rattle.hilti_stack.specs.declared.head.Head.{Head}
use Rattle.hilti_stack.specs.Frames.{Frame, Frames, with_slots, with_made, entered, Leaves}
use Rattle.hilti_stack.proofs.Counting.{sets_count, calls_count, leaves_count}
use Rattle.hilti_effects.specs.Operands.{slots_with, globals_with}
use Rattle.hilti_acting.specs.Owned.{owned, FitsWith, Fewer, variable_at}

-- a value in the place of another
held_put : (q : ℕ) (vs : List Value) (n : ℕ) (x y : Value) → slice_get vs n ≡ Some x
    → all_held q (slice_set vs n y) + held q x ≡ all_held q vs + held q y
held_put q vs n x y e = omega (
  arith,
  sum_by-set (held q) vs n y x (slice_get_within vs n x e),
  ap (held q) (get_or_from_slice_get vs n x x e),
  sum-map (held q) vs,
  sum-map (held q) (slice_set vs n y),
)

module _ (f : Frames) (globals : List Value) where
  owned_put : (q : ℕ) (t : Variable) (x y : Value) → variable_at f.slots globals t ≡ Some x
      → owned (with_slots f (slots_with t y f.slots)) (globals_with t y globals) q + held q x
      ≡ owned f globals q + held q y
  owned_put q (variables.Slot n) x y e =
      let h = (sets_count (held q) f).set n x y e in omega arith
  owned_put q (variables.Global n) x y e = let h = held_put q globals n x y e in omega arith

-- what others hold is covered
pub fits_covers : (h : Kept) (n m : ℕ → ℕ) → Fits h n → ((s : ℕ) → m s ≤ n s) → Covers h m
fits_covers h n m f e =
    record { each = λ s. let c = f.count s in let l = e s in omega arith }

pub fits_released : (a b : Kept) (n m k : ℕ → ℕ) → Fits a n → Releases a b m
    → ((s : ℕ) → k s + m s ≡ n s) → Fits b k
fits_released a b n m k f r e = record {
  count = λ s. let c = f.count s in let l = r.moves.share s in let z = e s in omega arith;
  alive = λ s. r.moves.alive s (f.alive s);
}

pub fits_held : (a b : Kept) (n m k : ℕ → ℕ) → Fits a n → Holds a b m
    → ((s : ℕ) → k s ≡ n s + m s) → Fits b k
fits_held a b n m k f h z = record {
  count = λ s.
      let e = f.count s in let c = h.count s in let i = h.inner s in let l = z s in omega arith;
  alive = λ s t.
      let c = h.count s in let i = h.times s in
      let live = f.alive s (omega arith) in omega arith;
}

pub fits_same : (h : Kept) (n m : ℕ → ℕ) → ((s : ℕ) → m s ≡ n s) → Fits h n → Fits h m
fits_same h n m e f = record {
  count = λ s. let c = f.count s in let k = e s in omega arith;
  alive = f.alive;
}

-- fewer objects

pub fewer_same : (a : Kept) → Fewer a a
fewer_same a = record { next = refl; objects = λ s o e. e }

pub fewer_then : (a b c : Kept) → Fewer a b → Fewer b c → Fewer a c
fewer_then a b c x y =
    record { next = y.next ∙ x.next; objects = λ s o e. x.objects s o (y.objects s o e) }

pub fewer_released : (a b : Kept) (m : ℕ → ℕ) → Releases a b m → Fewer a b
fewer_released a b m r = record { next = r.next; objects = r.objects }

pub fewer_held : (a b : Kept) (m : ℕ → ℕ) → Holds a b m → Fewer a b
fewer_held a b m h = record { next = h.next; objects = λ s o e. sym (h.objects s) ∙ e }

pub stands_fewer : (a b : Kept) (st : Store) → Fewer a b → StandsFor a st → StandsFor b st
stands_fewer a b st l f =
    record { next = l.next ∙ f.next; same = λ q o e. f.same q o (l.objects q o e) }

-- a variable's value is exchanged, and the old one is let go
module _ (f g : Frames) (gs hs : List Value) (t : Variable) (x y : Value) (a : Kept)
    (stack : g ≡ with_slots f (slots_with t y f.slots)) (globals : hs ≡ globals_with t y gs)
    (old : variable_at f.slots gs t ≡ Some x) (fits : FitsWith a f gs (Some y)) where
  moved : (q : ℕ) → owned g hs q + held q x ≡ owned f gs q + held q y
  moved q =
      subst (λ g. owned g hs q + held q x ≡ owned f gs q + held q y) (sym stack)
      (subst
      (λ hs. owned (with_slots f (slots_with t y f.slots)) hs q + held q x
      ≡ owned f gs q + held q y)
      (sym globals) (owned_put f gs q t x y old))

  pub put_covers : Covers a (λ s. held s x)
  put_covers = fits_covers a (λ s. owned f gs s + held s y) (λ s. held s x) fits.is
      (λ s. let m = moved s in omega arith)

  pub put_fits : (b : Kept) → Releases a b (λ s. held s x) → FitsWith b g hs None
  put_fits b r = record {
    is = fits_released a b (λ s. owned f gs s + held s y) (λ s. held s x)
        (λ s. owned g hs s + 0) fits.is r (λ s. let m = moved s in omega arith);
  }

-- a value that was on its way is let go
pub gone_covers : (f : Frames) (gs : List Value) (v : Value) (a : Kept) → FitsWith a f gs (Some v)
    → Covers a (λ s. held s v)
gone_covers f gs v a fits =
    fits_covers a (λ s. owned f gs s + held s v) (λ s. held s v) fits.is (λ s. omega arith)

pub gone_fits : (f : Frames) (gs : List Value) (v : Value) (a b : Kept) → FitsWith a f gs (Some v)
    → Releases a b (λ s. held s v) → FitsWith b f gs None
gone_fits f gs v a b fits r = record {
  is = fits_released a b (λ s. owned f gs s + held s v) (λ s. held s v) (λ s. owned f gs s + 0)
      fits.is r (λ s. omega arith);
}

-- an argument is held, and made
pub make_fits : (f g : Frames) (gs : List Value) (v w : Value) (a b : Kept)
    → g ≡ with_made f (f.made ++ w ∷ []) → w ≡ v → FitsWith a f gs None
    → Holds a b (λ s. held s v) → FitsWith b g gs None
make_fits f g gs v w a b e i fits h = subst (λ g. FitsWith b g gs None) (sym e) (record {
  is = fits_held a b (λ s. owned f gs s + 0) (λ s. held s v)
      (λ s. owned (with_made f (f.made ++ w ∷ [])) gs s + 0) fits.is h
      (λ s.
      let m = (calls_count (held s) f).make w in let k = ap (held s) i in omega arith);
})

-- what was made is held by the callee
pub enter_fits : (f g : Frames) (gs : List Value) (head : Head) (a : Kept)
    → g ≡ entered f head → FitsWith a f gs None → FitsWith a g gs None
enter_fits f g gs head a e fits = subst (λ g. FitsWith a g gs None) (sym e) (record {
  is = fits_same a (λ s. owned f gs s + 0) (λ s. owned (entered f head) gs s + 0)
      (λ s. let m = (calls_count (held s) f).enter head in omega arith) fits.is;
})

-- the slots of the top are let go
pub slots_covered : (f : Frames) (gs : List Value) (v : Option Value) (a : Kept)
    → FitsWith a f gs v → Covers a (λ s. all_held s f.slots)
slots_covered f gs v a fits =
    fits_covers a (λ s. owned f gs s + part (held s) v) (λ s. all_held s f.slots) fits.is
    (λ s. let m = sum-map (held s) f.slots in omega arith)

pub leave_fits : (f g : Frames) (gs : List Value) (head : Head) (v : Option Value) (a b : Kept)
    → Leaves f head g → f.made ≡ [] → FitsWith a f gs v
    → Releases a b (λ s. all_held s f.slots) → FitsWith b g gs v
leave_fits f g gs head v a b leaves made fits r = record {
  is = fits_released a b (λ s. owned f gs s + part (held s) v) (λ s. all_held s f.slots)
      (λ s. owned g gs s + part (held s) v) fits.is r
      (λ s.
      let l = leaves_count (held s) f g head leaves in
      let m = sum-map (held s) f.slots in
      let n = ap (sum_by (held s)) made in
      omega arith);
}

-- no frame is left
pub none_left : (f : Frames) (gs : List Value) (v : Option Value) (a b : Kept) → f.below ≡ []
    → f.made ≡ [] → FitsWith a f gs v → Releases a b (λ s. all_held s f.slots)
    → Fits b (λ s. all_held s gs + part (held s) v)
none_left f gs v a b e made fits r =
    fits_released a b (λ s. owned f gs s + part (held s) v) (λ s. all_held s f.slots)
    (λ s. all_held s gs + part (held s) v) fits.is r
    (λ s.
    let b = ap (sum_by (λ (caller : Frame). sum_by (held s) caller.slots)) e in
    let m = sum-map (held s) f.slots in
    let n = ap (sum_by (held s)) made in
    omega arith)

-- what is still to be let go is covered
pub covers_rest : (a b : Kept) (m k l : ℕ → ℕ) → Covers a l → Releases a b m
    → ((s : ℕ) → m s + k s ≤ l s) → Covers b k
covers_rest a b m k l c x e = record {
  each = λ s. let p = c.each s in let q = x.moves.share s in let z = e s in omega arith;
}
