-- The seats, the threads at rest and those that are out, when a worker takes a thread and when it puts one back.
use Rattle.std.proofs.Common.{◌≡◌, ℕ, ◌+◌, ◌≤◌, ◌≢◌, inl, inr, ◌↔◌, suc, Bool, true, false, cond, List, [], ◌∷◌, ◌++◌, length, refl, ap, sym, ◌∙◌, subst, arith, eqb, not, filter, Contains}
use Rattle.std.proofs.lemmas.Bool.{eqb-true, eqb-false, eq-eqb}
use Rattle.std.proofs.lemmas.List.Elements.{All-nil, All-cons, All-contains, Contains-append_left, Contains-append_right, Contains-append_cases, Contains-push, Contains-push_cases}
use Rattle.hilti_base.specs.declared.names.ThreadId.{ThreadId}
use Rattle.hilti_core.specs.Sending.{put_at}
use Rattle.hilti_core.specs.Machine.{Start}
use Rattle.hilti_pool.specs.declared.seat.Away.{Away}
use Rattle.hilti_pool.specs.declared.seat.Place.{Place}
use Rattle.hilti_pool.specs.declared.seat.Place.TheVariants.{Out}
use Rattle.hilti_pool.specs.declared.hall.Hall.{Hall}
use Rattle.hilti_pool.specs.Hall.{face, gone, Leaves, Wakes, IsResting, IsAtHome}
use Rattle.hilti_pool.specs.Threads.{calls_of}

-- the value at the number where it was put
pub put_here : {A : Type 0} (f : ℕ → A) (n : ℕ) (v : A) → put_at f n v n ≡ v
put_here f n v = ap (λ b. cond b v (f n)) (eq-eqb n n refl)

abbrev pub one_if : Bool → ℕ
one_if b = cond b 1 0

pub calls_of-push : (r : ℕ) (started : List Start) (s : Start) → calls_of r (started ++ s ∷ []) ≡ calls_of r started + one_if (eqb r s.receiver)
calls_of-push r [] s = go (eqb r s.receiver)
  where
    go : (b : Bool) → one_if b ≡ 0 + one_if b
    go true = refl
    go false = refl
calls_of-push r (x ∷ started) s = go (eqb r x.receiver) (calls_of-push r started s)
  where
    go : (b : Bool) → calls_of r (started ++ s ∷ []) ≡ calls_of r started + one_if (eqb r s.receiver) →
        cond b (suc (calls_of r (started ++ s ∷ []))) (calls_of r (started ++ s ∷ [])) ≡ cond b (suc (calls_of r started)) (calls_of r started) + cond (eqb r s.receiver) 1 0
    go true e = omega (arith, e)
    go false e = e

pub calls_of-within : (r : ℕ) (started : List Start) → calls_of r started ≤ length started
calls_of-within r [] = omega arith
calls_of-within r (x ∷ started) = go (eqb r x.receiver) (calls_of-within r started)
  where
    go : (b : Bool) → calls_of r started ≤ length started → cond b (suc (calls_of r started)) (calls_of r started) ≤ suc (length started)
    go true h = omega arith
    go false h = omega arith

pub only_one : {A : Type 0} (y x : A) → Contains (y ∷ []) x → y ≡ x
only_one y x h = All-contains (λ z. y ≡ z) (y ∷ []) x (All-cons (λ z. y ≡ z) y [] refl (All-nil (λ z. y ≡ z))) h

passing_into : {A : Type 0} (p : A → Bool) (x : A) (ys : List A) → Contains (filter p ys) x → Contains ys x × (p x ≡ true)
passing_into p x [] here = absurd (All-contains (λ y. ⊥) [] x (All-nil (λ y. ⊥)) here)
passing_into {A} p x (y ∷ ys) here = go (p y) refl here (λ h. passing_into p x ys h)
  where
    later : Contains ys x × (p x ≡ true) → Contains (y ∷ ys) x × (p x ≡ true)
    later both = (Contains-append_right (y ∷ []) ys x both.0, both.1)

    first_is : y ≡ x → p y ≡ true → Contains (y ∷ ys) x × (p x ≡ true)
    first_is is e = (subst (Contains (y ∷ ys)) is (Contains-append_left (y ∷ []) ys y (Contains-push [] y)), ap p (sym is) ∙ e)

    go : (b : Bool) → p y ≡ b → Contains (cond b (y ∷ filter p ys) (filter p ys)) x → (Contains (filter p ys) x → Contains ys x × (p x ≡ true)) → Contains (y ∷ ys) x × (p x ≡ true)
    go false e h again = later (again h)
    go true e h again = elim (Contains-append_cases (y ∷ []) (filter p ys) x h) [ inl first ↦ first_is (only_one y x first) e | inr more ↦ later (again more) ]

passing_back : {A : Type 0} (p : A → Bool) (x : A) (ys : List A) → Contains ys x → p x ≡ true → Contains (filter p ys) x
passing_back p x [] here e = absurd (All-contains (λ y. ⊥) [] x (All-nil (λ y. ⊥)) here)
passing_back {A} p x (y ∷ ys) here e = elim (Contains-append_cases (y ∷ []) ys x here) [ inl first ↦ head (only_one y x first) | inr more ↦ tail (p y) (passing_back p x ys more e) ]
  where
    head : y ≡ x → Contains (cond (p y) (y ∷ filter p ys) (filter p ys)) x
    head is = subst (λ b. Contains (cond b (y ∷ filter p ys) (filter p ys)) x) (sym (ap p is ∙ e)) (subst (Contains (y ∷ filter p ys)) is (Contains-append_left (y ∷ []) (filter p ys) y (Contains-push [] y)))

    tail : (b : Bool) → Contains (filter p ys) x → Contains (cond b (y ∷ filter p ys) (filter p ys)) x
    tail true h = Contains-append_right (y ∷ []) (filter p ys) x h
    tail false h = h

-- what a filter keeps are the elements that pass
pub passing : {A : Type 0} (p : A → Bool) (xs : List A) (x : A) → Contains (filter p xs) x ↔ (Contains xs x × (p x ≡ true))
passing p xs x = (passing_into p x xs, λ both. passing_back p x xs both.0 both.1)

other_than : (m n : ℕ) → (not (eqb m n) ≡ true) ↔ (m ≢ n)
other_than m n = go (eqb m n) refl
  where
    go : (b : Bool) → eqb m n ≡ b → (not b ≡ true) ↔ (m ≢ n)
    go true e = (λ h. absurd cc, λ h. absurd (h (eqb-true m n e)))
    go false e = (λ h. eqb-false m n e, λ h. refl)

-- a thread that is filtered out is awake
pub wakes_by : (n : ℕ) (old new : List ℕ) → new ≡ filter (λ other. not (eqb other n)) old → Wakes n old new
wakes_by n old new is r = subst (λ l. Contains l r ↔ (Contains old r × (r ≢ n))) (sym is) (
  λ here. let both = (passing (λ other. not (eqb other n)) old r).0 here in (both.0, (other_than r n).0 both.1),
  λ both. (passing (λ other. not (eqb other n)) old r).1 (both.0, (other_than r n).1 both.1),
)

-- a worker that is filtered out has nothing
pub outs_by : (worker : ℕ) (old new : List Away) → new ≡ filter (λ away. not (eqb away.worker worker)) old → (w : ℕ) (t : ThreadId) →
    Contains new (record { worker = w; thread = t }) ↔ (Contains old (record { worker = w; thread = t }) × (w ≢ worker))
outs_by worker old new is w t = subst (λ l. Contains l me ↔ (Contains old me × (w ≢ worker))) (sym is) (
  λ here. let both = (passing (λ away. not (eqb away.worker worker)) old me).0 here in (both.0, (other_than w worker).0 both.1),
  λ both. (passing (λ away. not (eqb away.worker worker)) old me).1 (both.0, (other_than w worker).1 both.1),
)
  where
    me : Away
    me = record { worker = w; thread = t }

module _ {V : Type 0} where
  abbrev pub RestsAre : Hall V → Type 0
  RestsAre hall = (r : ℕ) → Contains hall.resting.items r ↔ IsResting (face hall r).place

  abbrev pub OutsAre : Hall V → Type 0
  OutsAre hall = (worker : ℕ) (thread : ThreadId) → Contains hall.outs.items (record { worker = worker; thread = thread }) ↔ ((face hall thread.n).place ≡ Out worker)

  -- a thread that isn't at rest needs no waking
  pub already_awake : (hall : Hall V) (r : ℕ) → RestsAre hall → ¬ IsResting (face hall r).place → Wakes r hall.resting.items hall.resting.items
  already_awake hall r h not x = (λ here. (here, λ is. not (subst (λ y. IsResting (face hall y).place) is ((h x).0 here))), λ both. both.0)

  pub rests_left : (old new : Hall V) (worker : ℕ) (thread : ThreadId) (begun : ℕ) → Leaves worker thread begun old new → Wakes thread.n old.resting.items new.resting.items → RestsAre old → RestsAre new
  rests_left old new worker thread begun l w h r = subst (λ x. Contains new.resting.items r ↔ IsResting x.place) (sym (l.faces r)) (go (eqb r thread.n) refl)
    where
      go : (b : Bool) → eqb r thread.n ≡ b → Contains new.resting.items r ↔ IsResting (cond b (gone worker begun (face old thread.n)) (face old r)).place
      go true e = (λ here. ((w r).0 here).1 (eqb-true r thread.n e), λ x. absurd x)
      go false e = (λ here. (h r).0 ((w r).0 here).0, λ x. (w r).1 ((h r).1 x, eqb-false r thread.n e))

  abbrev out_of : ℕ → Place V
  out_of a = Out a

  out_same : (a b : ℕ) → out_of a ≡ out_of b → a ≡ b
  out_same a b e = cc

  pub outs_left : (old new : Hall V) (worker : ℕ) (thread : ThreadId) (begun : ℕ) → Leaves worker thread begun old new → IsAtHome (face old thread.n).place → OutsAre old → OutsAre new
  outs_left old new worker thread begun l home h w t =
      subst (λ x. Contains new.outs.items me ↔ (x.place ≡ Out w)) (sym (l.faces t.n)) (subst (λ o. Contains o me ↔ ((put_at (face old) thread.n (gone worker begun (face old thread.n)) t.n).place ≡ Out w)) (sym l.outs) (go (eqb t.n thread.n) refl))
    where
      me : Away
      me = record { worker = w; thread = t }

      not_out : (x : ℕ) → (face old thread.n).place ≡ Out x → ⊥
      not_out x is = subst IsAtHome is home

      go : (b : Bool) → eqb t.n thread.n ≡ b →
          Contains (old.outs.items ++ record { worker = worker; thread = thread } ∷ []) me ↔ ((cond b (gone worker begun (face old thread.n)) (face old t.n)).place ≡ Out w)
      go true e = (
        λ here. elim (Contains-push_cases old.outs.items (record { worker = worker; thread = thread }) me here) [
          | inl before ↦ absurd (not_out w (subst (λ y. (face old y).place ≡ Out w) (eqb-true t.n thread.n e) ((h w t).0 before)))
          | inr is ↦ ap (λ a. Out a.worker) is
        ],
        λ is. subst (Contains (old.outs.items ++ record { worker = worker; thread = thread } ∷ [])) (same (out_same worker w is) (eqb-true t.n thread.n e)) (Contains-push old.outs.items (record { worker = worker; thread = thread })),
      )
        where
          same : worker ≡ w → t.n ≡ thread.n → record { worker = worker; thread = thread } ≡ me
          same a b = ap (λ x. record { worker = x; thread = thread }) a ∙ ap (λ x. record { worker = w; thread = record { n = x } }) (sym b)
      go false e = (
        λ here. elim (Contains-push_cases old.outs.items (record { worker = worker; thread = thread }) me here) [
          | inl before ↦ (h w t).0 before
          | inr is ↦ absurd (eqb-false t.n thread.n e (ap (λ a. a.thread.n) (sym is)))
        ],
        λ is. Contains-append_left old.outs.items (record { worker = worker; thread = thread } ∷ []) me ((h w t).1 is),
      )

  pub outs_back : (old new : Hall V) (worker : ℕ) (thread : ThreadId) (place : Place V) → IsAtHome place →
      ((r : ℕ) → (face new r).place ≡ (cond (eqb r thread.n) place (face old r).place)) →
      ((w : ℕ) (t : ThreadId) → Contains new.outs.items (record { worker = w; thread = t }) ↔ (Contains old.outs.items (record { worker = w; thread = t }) × (w ≢ worker))) →
      ((t : ThreadId) → (face old t.n).place ≡ Out worker → t.n ≡ thread.n) → (face old thread.n).place ≡ Out worker → OutsAre old → OutsAre new
  outs_back old new worker thread place home places outs alone was h w t =
      subst (λ x. Contains new.outs.items (record { worker = w; thread = t }) ↔ (x ≡ Out w)) (sym (places t.n)) (go (eqb t.n thread.n) refl)
    where
      go : (b : Bool) → eqb t.n thread.n ≡ b → Contains new.outs.items (record { worker = w; thread = t }) ↔ (cond b place (face old t.n).place ≡ Out w)
      go true e = (
        λ here.
            let both = (outs w t).0 here in
            let there : (face old thread.n).place ≡ Out w = subst (λ y. (face old y).place ≡ Out w) (eqb-true t.n thread.n e) ((h w t).0 both.0) in
            absurd (both.1 (out_same w worker (sym there ∙ was))),
        λ is. absurd (subst IsAtHome is home),
      )
      go false e = (
        λ here. (h w t).0 ((outs w t).0 here).0,
        λ is. (outs w t).1 ((h w t).1 is, λ same. eqb-false t.n thread.n e (alone t (is ∙ ap Out same))),
      )
