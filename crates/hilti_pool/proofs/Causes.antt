-- What the seats and the mail say of the core: which threads are ready, out or awaited.
use Rattle.std.proofs.Common.{◌≡◌, ℕ, ◌<◌, ◌≤◌, ◌⊎◌, ◌↔◌, inl, inr, suc, Bool, true, false, cond, List, [], ◌∷◌, length, map, Option, Some, None, refl, ap, sym, ◌∙◌, subst, arith, eqb, All, Contains}
use Rattle.std.proofs.lemmas.Bool.{eqb-true, eqb-false}
use Rattle.std.proofs.lemmas.List.Elements.{All-nil, All-cons, All-head, All-tail, All-weaker, All-contains, Contains-push, Contains-append_left, Contains-append_cases}
use Rattle.hilti_base.specs.declared.names.ThreadId.{ThreadId}
use Rattle.hilti_tree.specs.declared.call.Call.{Call}
use Rattle.hilti_core.specs.declared.event.Event.{Event}
use Rattle.hilti_core.specs.Sending.{Effect}
use Rattle.hilti_core.specs.Body.{Runs, HasSegments}
use Rattle.hilti_core.specs.Core.{Running, Resident, Core}
use Rattle.hilti_core.specs.Kept.{IsKept, IsSoundCore}
use Rattle.hilti_core.proofs.Kept.{keeps_core}
use Rattle.hilti_pool.specs.declared.seat.Away.{Away}
use Rattle.hilti_pool.specs.declared.seat.Place.{Place}
use Rattle.hilti_pool.specs.declared.seat.Place.TheVariants.{Fresh, Idle, Suspended, Out}
use Rattle.hilti_pool.specs.declared.seat.Posted.{Posted}
use Rattle.hilti_pool.specs.declared.hall.Hall.{Hall}
use Rattle.hilti_pool.specs.State.{PoolState, core_of, InCore}
use Rattle.hilti_pool.specs.Readiness.{IsHome, IsSuspended, HasMail, IsReady, NoneReady, SomeOut, NoneOut, SomeMail, NoMail, HasWaiting}
use Rattle.hilti_pool.specs.Hall.{face, HasSeat, IsFor, NoneFor, IsResting, IsAtHome, CanBegin, CanGo, MayGo, NoneMayGo}
use Rattle.hilti_pool.specs.Stands.{Delivery, posted_of, inbox_in, PlaceStands, HallStands, StandsFor}
use Rattle.hilti_pool.proofs.Seats.{calls_of-within, only_one}
use Rattle.hilti_pool.proofs.Mail.{nothing_for}
use Rattle.hilti_pool.proofs.Homecoming.{was_out, some_same}

-- what contracts say of the pool holds of what it keeps
pub told : {D : Type 0} (effect : D → Effect) (Q : PoolState D → Core → Type 0) (pool shown : PoolState D) (c : Core) → pool ≡ shown → core_of effect pool ≡ Some c → InCore effect shown (Q shown) → Q pool c
told effect Q pool shown c is here x = subst (Q pool) (some_same x.core c (sym x.is ∙ sym (ap (core_of effect) is) ∙ here)) (subst (λ p. Q p x.core) (sym is) x.holds)

-- and the other way
pub shows : {D : Type 0} (effect : D → Effect) (Q : PoolState D → Core → Type 0) (pool shown : PoolState D) (c : Core) → pool ≡ shown → core_of effect pool ≡ Some c → Q pool c → InCore effect shown (Q shown)
shows effect Q pool shown c is here q = record { core = c; is = sym (ap (core_of effect) is) ∙ here; holds = subst (λ p. Q p c) is q }

pub in_nothing : {A : Type 0} (x : A) → Contains [] x → ⊥
in_nothing x h = All-contains (λ y. ⊥) [] x (All-nil (λ y. ⊥)) h

in_some : {A : Type 0} (xs : List A) (x : A) → Contains xs x → ¬ (xs ≡ [])
in_some xs x h none = in_nothing x (subst (λ l. Contains l x) none h)

someone : (r : ℕ) (ws : List Delivery) (posted : Posted) → Contains (map posted_of ws) posted → posted.to.n ≡ r → ¬ (inbox_in r ws ≡ [])
someone r [] posted here is none = in_nothing posted here
someone r (w ∷ ws) posted here is none = go (eqb r w.to) refl none (λ more x. someone r ws posted more is x)
  where
    go : (b : Bool) → eqb r w.to ≡ b → cond b (w.waiting ∷ inbox_in r ws) (inbox_in r ws) ≡ [] → (Contains (map posted_of ws) posted → inbox_in r ws ≡ [] → ⊥) → ⊥
    go true e none again = absurd cc
    go false e none again = elim (Contains-append_cases (posted_of w ∷ []) (map posted_of ws) posted here) [
      | inl first ↦ eqb-false r w.to e (sym (ap (λ x. x.to.n) (only_one (posted_of w) posted first) ∙ is))
      | inr more ↦ again more none
    ]

module _ {V : Type 0} where
  -- a place at home is that of a thread at home
  pub at_home : (runs : V → Runs) (r : ℕ) (resident : Resident) (place : Place V) → PlaceStands runs r resident place → resident.worker ≡ None → IsAtHome place
  at_home runs r resident Fresh p none = tt
  at_home runs r resident (Idle vt) p none = tt
  at_home runs r resident (Suspended vt) p none = tt
  at_home runs r resident (Out worker) p none = absurd (let h = p.0 in cc)

  pub from_home : (runs : V → Runs) (r : ℕ) (resident : Resident) (place : Place V) → PlaceStands runs r resident place → IsAtHome place → resident.worker ≡ None
  from_home runs r resident Fresh p h = p.0
  from_home runs r resident (Idle vt) p h = p.0
  from_home runs r resident (Suspended vt) p h = p.0
  from_home runs r resident (Out worker) p h = absurd h

  at_rest : (runs : V → Runs) (r : ℕ) (resident : Resident) (place : Place V) (running : Running) → PlaceStands runs r resident place → resident.worker ≡ None → resident.running ≡ Some running → IsResting place
  at_rest runs r resident Fresh running p none busy = absurd (let h = p.1 in cc)
  at_rest runs r resident (Idle vt) running p none busy = absurd (let h = p.1 in cc)
  at_rest runs r resident (Suspended vt) running p none busy = tt
  at_rest runs r resident (Out worker) running p none busy = absurd (let h = p.0 in cc)

  from_rest : (runs : V → Runs) (r : ℕ) (resident : Resident) (place : Place V) → PlaceStands runs r resident place → IsResting place → (resident.worker ≡ None) × ((running : Running) × (resident.running ≡ Some running))
  from_rest runs r resident Fresh p h = absurd h
  from_rest runs r resident (Idle vt) p h = absurd h
  from_rest runs r resident (Suspended vt) p h = (p.0, (p.1.0, p.1.1))
  from_rest runs r resident (Out worker) p h = absurd h

  pub rests_in : (runs : V → Runs) (c : Core) (hall : Hall V) (r : ℕ) → HallStands runs c hall → IsSuspended c r → IsResting (face hall r).place
  rests_in runs c hall r h s = at_rest runs r (c.thread r) (face hall r).place s.1.0 (h.seats r).place s.0 s.1.1

  pub suspended_in : (runs : V → Runs) (c : Core) (hall : Hall V) (r : ℕ) → HallStands runs c hall → IsResting (face hall r).place → IsSuspended c r
  suspended_in runs c hall r h s = from_rest runs r (c.thread r) (face hall r).place (h.seats r).place s

  -- a thread whose inbox isn't empty is one that some mail is for
  pub no_mail_for : (runs : V → Runs) (c : Core) (hall : Hall V) (r : ℕ) → HallStands runs c hall → NoneFor r hall.mail.items → c.inbox r ≡ []
  no_mail_for runs c hall r h none = h.mail.inboxes r ∙ nothing_for r h.mail.deliveries (subst (NoneFor r) (sym h.mail.posted) none)

  pub mail_for : (runs : V → Runs) (c : Core) (hall : Hall V) (posted : Posted) → HallStands runs c hall → Contains hall.mail.items posted → HasMail c posted.to.n
  mail_for runs c hall posted h here none = someone posted.to.n h.mail.deliveries posted (subst (λ l. Contains l posted) (sym h.mail.posted) here) refl (sym (h.mail.inboxes posted.to.n) ∙ none)

  -- no thread may go: none is ready
  pub none_ready : (runs : V → Runs) (c : Core) (hall : Hall V) (may : Bool) (limit : ℕ) → HallStands runs c hall → (length c.started < limit → may ≡ true) → NoneMayGo may hall → (r : ℕ) → IsReady limit c r → ⊥
  none_ready runs c hall may limit h allowed none r (inl s) = in_nothing r (subst (λ l. Contains l r) none.0 ((h.resting r).1 (rests_in runs c hall r h s)))
  none_ready runs c hall may limit h allowed none r (inr m) =
      m.1 (no_mail_for runs c hall r h (All-weaker (λ posted. ¬ IsAtHome (face hall posted.to.n).place) (λ posted. ¬ IsFor r posted)
      (λ posted away is. away (subst (λ x. IsAtHome (face hall x).place) (sym is) (at_home runs r (c.thread r) (face hall r).place (h.seats r).place m.0))) hall.mail.items (none.1 (allowed m.2))))

  -- a thread that may go is ready
  pub is_ready : (runs : V → Runs) (c : Core) (hall : Hall V) (may : Bool) (limit : ℕ) (thread : ThreadId) → HallStands runs c hall → (may ≡ true → length c.started < limit) → MayGo may hall thread → IsReady limit c thread.n
  is_ready runs c hall may limit thread h allowed (inl here) = inl (suspended_in runs c hall thread.n h ((h.resting thread.n).0 here))
  is_ready runs c hall may limit thread h allowed (inr waits) =
      inr (
        from_home runs thread.n (c.thread thread.n) (face hall thread.n).place (h.seats thread.n).place waits.1.0,
        subst (λ t. HasMail c t.n) waits.1.1.2 (mail_for runs c hall waits.1.1.0 h waits.1.1.1),
        allowed waits.0,
      )

  pub some_out : (runs : V → Runs) (fed : List Call) (limit : ℕ) (c : Core) (hall : Hall V) → HallStands runs c hall → IsKept fed limit c → ¬ (hall.outs.items ≡ []) → SomeOut c
  some_out runs fed limit c hall h kept some = go hall.outs.items refl
    where
      from_out : (r worker : ℕ) (place : Place V) → PlaceStands runs r (c.thread r) place → place ≡ Out worker → c.out worker ≡ Some r
      from_out r worker place p is = kept.seats.sits r worker (subst (PlaceStands runs r (c.thread r)) is p).0

      go : (l : List Away) → hall.outs.items ≡ l → SomeOut c
      go [] e = absurd (some e)
      go (away ∷ more) e = (
        away.worker,
        (
          away.thread.n,
          from_out away.thread.n away.worker (face hall away.thread.n).place (h.seats away.thread.n).place
              ((h.outs away.worker away.thread).0 (subst (λ l. Contains l away) (sym e) (Contains-append_left (away ∷ []) more away (Contains-push [] away)))),
        ),
      )

  pub none_out : (runs : V → Runs) (fed : List Call) (limit : ℕ) (c : Core) (hall : Hall V) → HallStands runs c hall → IsKept fed limit c → hall.outs.items ≡ [] → NoneOut c
  none_out runs fed limit c hall h kept none worker = go (c.out worker) refl
    where
      go : (o : Option ℕ) → c.out worker ≡ o → o ≡ None
      go None e = refl
      go (Some r) e = absurd (in_nothing (record { worker = worker; thread = record { n = r } })
          (subst (λ l. Contains l (record { worker = worker; thread = record { n = r } })) none ((h.outs worker (record { n = r })).1 (was_out (λ t finished call. []) (λ call. Unit {0}) runs fed limit worker r c hall h kept e))))

  pub some_mail : (runs : V → Runs) (c : Core) (hall : Hall V) → HallStands runs c hall → ¬ (hall.mail.items ≡ []) → SomeMail c
  some_mail runs c hall h some = go hall.mail.items refl
    where
      go : (l : List Posted) → hall.mail.items ≡ l → SomeMail c
      go [] e = absurd (some e)
      go (posted ∷ more) e = (posted.to.n, mail_for runs c hall posted h (subst (λ l. Contains l posted) (sym e) (Contains-append_left (posted ∷ []) more posted (Contains-push [] posted))))

  pub no_mail : (runs : V → Runs) (c : Core) (hall : Hall V) → HallStands runs c hall → hall.mail.items ≡ [] → NoMail c
  no_mail runs c hall h none r = no_mail_for runs c hall r h (subst (NoneFor r) (sym none) (All-nil (λ posted. ¬ IsFor r posted)))

  -- where calls wait, none is ready and nothing is out, as many calls as the limit have started
  pub at_limit : (runs : V → Runs) (fed : List Call) (limit : ℕ) (c : Core) → IsKept fed limit c → NoneReady limit c → NoneOut c → SomeMail c → length c.started ≡ limit
  at_limit runs fed limit c kept none out mail =
      let home : IsHome c mail.0 = go (c.thread mail.0).worker refl in
      let stop : length c.started < limit → ⊥ = λ few. none mail.0 (inr (home, mail.1, few)) in
      omega (arith, kept.within, stop)
    where
      go : (o : Option ℕ) → (c.thread mail.0).worker ≡ o → o ≡ None
      go None e = refl
      go (Some w) e = let a = kept.seats.sits mail.0 w e in let b = out w in absurd cc

  pub kept_of : (effect : Effect) (sound : Call → Type 0) (runs : V → Runs) → HasSegments effect sound → (fed : List Call) (limit : ℕ) (journal : List Event) (started segments : ℕ) (hall : Hall V) →
      (s : StandsFor effect sound runs fed limit journal started segments hall) → IsKept fed limit s.c × IsSoundCore sound s.c
  kept_of effect sound runs segments fed limit journal started n hall s = let k = keeps_core effect sound segments fed limit journal s.c s.is in (k.0, k.1 s.sound_fed)

  pub few_calls : (effect : Effect) (sound : Call → Type 0) (runs : V → Runs) (fed : List Call) (limit : ℕ) (journal : List Event) (started segments : ℕ) (hall : Hall V) (r : ℕ) →
      (s : StandsFor effect sound runs fed limit journal started segments hall) → (face hall r).calls ≤ started
  few_calls effect sound runs fed limit journal started segments hall r s = omega (arith, (s.hall_stands.seats r).calls, calls_of-within r s.c.started, s.started_are)

seat_for : {V : Type 0} (hall : Hall V) (r : ℕ) (ws : List Delivery) → All (λ posted. HasSeat hall posted.to.n) (map posted_of ws) → ¬ (inbox_in r ws ≡ []) → HasSeat hall r
seat_for hall r [] h some = absurd (some refl)
seat_for hall r (w ∷ ws) h some = go (eqb r w.to) refl some (λ x. seat_for hall r ws (All-tail (λ posted. HasSeat hall posted.to.n) (posted_of w) (map posted_of ws) h) x)
  where
    go : (b : Bool) → eqb r w.to ≡ b → ¬ (cond b (w.waiting ∷ inbox_in r ws) (inbox_in r ws) ≡ []) → (¬ (inbox_in r ws ≡ []) → HasSeat hall r) → HasSeat hall r
    go true e x again = subst (HasSeat hall) (sym (eqb-true r w.to e)) (All-head (λ posted. HasSeat hall posted.to.n) (posted_of w) (map posted_of ws) h)
    go false e x again = again x

nothing_in : (r : ℕ) (ws : List Delivery) → inbox_in r ws ≡ [] → NoneFor r (map posted_of ws)
nothing_in r [] none = All-nil (λ posted. ¬ IsFor r posted)
nothing_in r (w ∷ ws) none = go (eqb r w.to) refl none (λ x. nothing_in r ws x)
  where
    go : (b : Bool) → eqb r w.to ≡ b → cond b (w.waiting ∷ inbox_in r ws) (inbox_in r ws) ≡ [] → (inbox_in r ws ≡ [] → NoneFor r (map posted_of ws)) → NoneFor r (posted_of w ∷ map posted_of ws)
    go true e x again = absurd cc
    go false e x again = All-cons (λ posted. ¬ IsFor r posted) (posted_of w) (map posted_of ws) (λ is. eqb-false r w.to e (sym is)) (again x)

-- an inbox is empty where no mail is for its thread
none_for : (r : ℕ) (ws : List Delivery) (mail : List Posted) → map posted_of ws ≡ mail → inbox_in r ws ≡ [] → NoneFor r mail
none_for r ws mail is none = subst (NoneFor r) is (nothing_in r ws none)

-- a thread that is ready can leave
pub can_leave : {V : Type 0} (runs : V → Runs) (c : Core) (hall : Hall V) (limit r : ℕ) → HallStands runs c hall → IsReady limit c r → IsResting (face hall r).place ⊎ CanBegin hall r
can_leave runs c hall limit r h (inl suspended) = inl (rests_in runs c hall r h suspended)
can_leave runs c hall limit r h (inr m) = inr (record {
  seat = seat_for hall r h.mail.deliveries (subst (All (λ posted. HasSeat hall posted.to.n)) (sym h.mail.posted) h.settled) (λ none. m.1 (h.mail.inboxes r ∙ none));
  home = at_home runs r (c.thread r) (face hall r).place (h.seats r).place m.0;
  waits = λ none. m.1 (no_mail_for runs c hall r h none);
})

length-posted : (ws : List Delivery) → length (map posted_of ws) ≡ length ws
length-posted [] = refl
length-posted (w ∷ ws) = ap suc (length-posted ws)

-- as many calls wait as there is mail
pub waiting_are : {V : Type 0} (runs : V → Runs) (c : Core) (hall : Hall V) (n : ℕ) → HallStands runs c hall → n ≡ length hall.mail.items → HasWaiting c n
waiting_are runs c hall n h is = omega (arith, h.mail.count, is, length-posted h.mail.deliveries, ap length h.mail.posted)

-- a thread can go exactly where it is ready
pub goes_ready : {V : Type 0} (runs : V → Runs) (c : Core) (hall : Hall V) (may : Bool) (limit r : ℕ) → HallStands runs c hall → (may ≡ true) ↔ (length c.started < limit) → CanGo may hall r ↔ IsReady limit c r
goes_ready {V} runs c hall may limit r h allowed = (ready, go)
  where
    ready : CanGo may hall r → IsReady limit c r
    ready (inl rests) = inl (suspended_in runs c hall r h rests)
    ready (inr m) = inr (from_home runs r (c.thread r) (face hall r).place (h.seats r).place m.1, mail_of m.2, allowed.0 m.0)
      where
        mail_of : ¬ NoneFor r hall.mail.items → HasMail c r
        mail_of some none = some (none_for r h.mail.deliveries hall.mail.items h.mail.posted (sym (h.mail.inboxes r) ∙ none))

    go : IsReady limit c r → CanGo may hall r
    go (inl suspended) = inl (rests_in runs c hall r h suspended)
    go (inr m) = inr (allowed.1 m.2, at_home runs r (c.thread r) (face hall r).place (h.seats r).place m.0, λ none. m.1 (no_mail_for runs c hall r h none))
