-- Which worker has which thread: the core says it twice, and both agree.
use Rattle.std.proofs.Common.{◌≡◌, ℕ, Bool, true, false, cond, List, Option, Some, None, refl, ap, sym, ◌∙◌, subst, arith, eqb}
use Rattle.std.proofs.lemmas.Bool.{eqb-true}
use Rattle.std.proofs.lemmas.Bool.Decides.{nat_tests}
use Rattle.hilti_tree.specs.declared.call.Call.{Call}
use Rattle.hilti_core.specs.declared.event.Event.{Event}
use Rattle.hilti_core.specs.declared.event.Event.TheVariants.{Feed, Take, Put}
use Rattle.hilti_core.specs.Sending.{Effect, put_at}
use Rattle.hilti_core.specs.Core.{Running, Resident, Core, core_of_none, after_segment}
use Rattle.hilti_core.specs.Atomic.{HasSeats}
use Rattle.hilti_core.proofs.Moves.{Moves, Moves.Fed, Moves.Goes, Moves.Starts, Moves.Home}

some_is : {A : Type 0} (x y : A) → Some x ≡ Some y → x ≡ y
some_is x y e = cc

-- a worker that had none takes a thread that was home
pub seats_taken : (thread : ℕ → Resident) (out : ℕ → Option ℕ) (worker r : ℕ) (t : Resident) (running : Running) → HasSeats thread out →
    out worker ≡ None → (thread r).worker ≡ None → t.worker ≡ Some worker → t.running ≡ Some running → HasSeats (put_at thread r t) (put_at out worker (Some r))
seats_taken thread out worker r t running h free home has runs = record {
  seated = λ w x e. seat w x (eqb w worker) (eqb x r) refl refl e;
  sits = λ x w e. sit x w (eqb w worker) (eqb x r) refl refl e;
  busy = λ x w e. work x w (eqb x r) refl e;
}
  where
    seat : (w x : ℕ) (a b : Bool) → eqb w worker ≡ a → eqb x r ≡ b → cond a (Some r) (out w) ≡ Some x → (cond b t (thread x)).worker ≡ Some w
    seat w x true true p q e = has ∙ ap Some (sym (eqb-true w worker p))
    seat w x true false p q e = absurd (let k : r ≡ x = some_is r x e in grind (arith, nat_tests))
    seat w x false true p q e = absurd (let k : x ≡ r = eqb-true x r q in let l : (thread r).worker ≡ Some w = sym (ap (λ y. (thread y).worker) k) ∙ h.seated w x e in cc)
    seat w x false false p q e = h.seated w x e

    sit : (x w : ℕ) (a b : Bool) → eqb w worker ≡ a → eqb x r ≡ b → (cond b t (thread x)).worker ≡ Some w → cond a (Some r) (out w) ≡ Some x
    sit x w true true p q e = ap Some (sym (eqb-true x r q))
    sit x w false true p q e = absurd (let k : worker ≡ w = some_is worker w (sym has ∙ e) in grind (arith, nat_tests))
    sit x w true false p q e = absurd (let k : w ≡ worker = eqb-true w worker p in let l : out worker ≡ Some x = sym (ap out k) ∙ h.sits x w e in cc)
    sit x w false false p q e = h.sits x w e

    work : (x w : ℕ) (b : Bool) → eqb x r ≡ b → (cond b t (thread x)).worker ≡ Some w → (u : Running) × ((cond b t (thread x)).running ≡ Some u)
    work x w true q e = (running, runs)
    work x w false q e = h.busy x w e

-- a worker gives back its thread
pub seats_left : (thread : ℕ → Resident) (out : ℕ → Option ℕ) (worker r : ℕ) (t : Resident) → HasSeats thread out →
    out worker ≡ Some r → t.worker ≡ None → HasSeats (put_at thread r t) (put_at out worker None)
seats_left thread out worker r t h has home = record {
  seated = λ w x e. seat w x (eqb w worker) (eqb x r) refl refl e;
  sits = λ x w e. sit x w (eqb w worker) (eqb x r) refl refl e;
  busy = λ x w e. work x w (eqb x r) refl e;
}
  where
    mine : (thread r).worker ≡ Some worker
    mine = h.seated worker r has

    seat : (w x : ℕ) (a b : Bool) → eqb w worker ≡ a → eqb x r ≡ b → cond a None (out w) ≡ Some x → (cond b t (thread x)).worker ≡ Some w
    seat w x true b p q e = absurd cc
    seat w x false true p q e = absurd (let k : x ≡ r = eqb-true x r q in let l : (thread r).worker ≡ Some w = sym (ap (λ y. (thread y).worker) k) ∙ h.seated w x e in
        let same : worker ≡ w = some_is worker w (sym mine ∙ l) in grind (arith, nat_tests))
    seat w x false false p q e = h.seated w x e

    sit : (x w : ℕ) (a b : Bool) → eqb w worker ≡ a → eqb x r ≡ b → (cond b t (thread x)).worker ≡ Some w → cond a None (out w) ≡ Some x
    sit x w a true p q e = absurd (let k : None ≡ Some w = sym home ∙ e in cc)
    sit x w true false p q e = absurd (let k : w ≡ worker = eqb-true w worker p in let l : out worker ≡ Some x = sym (ap out k) ∙ h.sits x w e in
        let same : r ≡ x = some_is r x (sym has ∙ l) in grind (arith, nat_tests))
    sit x w false false p q e = h.sits x w e

    work : (x w : ℕ) (b : Bool) → eqb x r ≡ b → (cond b t (thread x)).worker ≡ Some w → (u : Running) × ((cond b t (thread x)).running ≡ Some u)
    work x w true q e = absurd (let k : None ≡ Some w = sym home ∙ e in cc)
    work x w false q e = h.busy x w e

-- each event keeps them
pub seats_step : (effect : Effect) (limit : ℕ) (c d : Core) (event : Event) → Moves effect limit c d event → HasSeats c.thread c.out → HasSeats d.thread d.out
seats_step effect limit c d event move h = go event move
  where
    go : (event : Event) → Moves effect limit c d event → HasSeats d.thread d.out
    go Feed (Fed call rest is) = subst (λ (x : Core). HasSeats x.thread x.out) (sym is.gives) h
    go (Take w r) (Goes worker thread running is) = subst (λ (x : Core). HasSeats x.thread x.out) (sym is.gives)
        (seats_taken c.thread c.out worker thread.n (record (c.thread thread.n) { worker = Some worker }) running h is.free is.home refl is.runs)
    go (Take w r) (Starts worker thread head rest is) = subst (λ (x : Core). HasSeats x.thread x.out) (sym is.gives)
        (seats_taken c.thread c.out worker thread.n (record (c.thread thread.n) { running = Some (record { call = head.message.call; given = 0 }); worker = Some worker })
        (record { call = head.message.call; given = 0 }) h is.free is.home refl refl)
    go (Put w) (Home worker r running segment rest is) = subst (λ (x : Core). HasSeats x.thread x.out) (sym is.gives)
        (seats_left c.thread c.out worker r (after_segment (c.thread r) running segment rest) h is.has refl)

pub seats_none : (calls : List Call) → HasSeats (core_of_none calls).thread (core_of_none calls).out
seats_none calls = record { seated = λ w x e. absurd cc; sits = λ x w e. absurd cc; busy = λ x w e. absurd cc }
