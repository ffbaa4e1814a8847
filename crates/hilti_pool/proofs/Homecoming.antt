-- What a pool keeps is kept when a worker puts a thread back.
use Rattle.std.proofs.Common.{◌≡◌, ℕ, ◌≤◌, ◌⊎◌, inl, inr, ◌↔◌, zero, suc, Bool, true, false, cond, List, [], ◌∷◌, ◌++◌, length, drop, Option, Some, None, Contains, refl, ap, sym, ◌∙◌, subst, arith, eqb, not, filter, All}
use Rattle.std.proofs.lemmas.Bool.{eqb-true, eqb-false}
use Rattle.std.proofs.lemmas.List.{length_push}
use Rattle.std.proofs.lemmas.List.Elements.{All-weaker, All-append, All-nil, All-cons, All-head, All-tail, Contains-push, Contains-push_cases, Contains-append_left}
use Rattle.hilti_base.specs.declared.names.ThreadId.{ThreadId}
use Rattle.hilti_tree.specs.declared.call.Call.{Call}
use Rattle.hilti_core.specs.declared.pieces.Item.{Item}
use Rattle.hilti_core.specs.declared.pieces.Item.TheVariants.{Send, Line}
use Rattle.hilti_core.specs.declared.pieces.Segment.{Segment}
use Rattle.hilti_core.specs.declared.pieces.End.TheVariants.{Yielded, Returned, Raised, OutOfFuel}
use Rattle.hilti_core.specs.declared.pieces.End.{End}
use Rattle.hilti_core.specs.declared.event.Event.{Event}
use Rattle.hilti_core.specs.declared.event.Event.TheVariants.{Put}
use Rattle.hilti_core.specs.Sending.{Effect, Sender.Thread, Text, letters, lines, put_at}
use Rattle.hilti_core.specs.Atomic.{started_calls}
use Rattle.hilti_core.specs.Body.{Runs, EndsOnce, IsEffect, HasSegments}
use Rattle.hilti_core.specs.Core.{Running, Resident, Core, core_of_none, left_of, after_segment, finished_after, running_after, comes_home}
use Rattle.hilti_core.specs.Kept.{IsKept, IsSoundCore}
use Rattle.hilti_core.proofs.Lists.{put_both}
use Rattle.hilti_pool.specs.declared.seat.Place.{Place}
use Rattle.hilti_pool.specs.declared.seat.Place.TheVariants.{Fresh, Idle, Suspended, Out}
use Rattle.hilti_pool.specs.declared.hall.Hall.{Hall}
use Rattle.hilti_pool.specs.Hall.{face, back_home, HasSeat, receivers, posted_by, IsResting, IsAtHome}
use Rattle.hilti_pool.specs.Hall.{ComesBack}
use Rattle.hilti_pool.specs.ComingHome.{ComesToRest}
use Rattle.hilti_pool.specs.Work.{IsDone}
use Rattle.hilti_pool.specs.Roll.{IsRoll}
use Rattle.hilti_pool.specs.Stands.{MailStands, PlaceStands, SeatStands, HallStands, StandsFor}
use Rattle.hilti_pool.proofs.Plays.{play_push, puts}
use Rattle.hilti_pool.proofs.Mail.{mail_posts, posted-deliveries}
use Rattle.hilti_pool.proofs.Seats.{RestsAre, outs_back, outs_by}

-- what is left of segments that end once ends once
ends_drop : (xs : List Segment) (k : ℕ) (y : Segment) (ys : List Segment) → EndsOnce xs → drop k xs ≡ y ∷ ys → EndsOnce (y ∷ ys)
ends_drop [] k y ys e is = absurd e
ends_drop (x ∷ xs) zero y ys e is = subst EndsOnce is e
ends_drop (x ∷ []) (suc zero) y ys e is = absurd cc
ends_drop (x ∷ []) (suc (suc k)) y ys e is = absurd cc
ends_drop (x ∷ z ∷ xs) (suc k) y ys e is = ends_drop (z ∷ xs) k y ys e.1 is

-- the last segment isn't yielded
abbrev pub EndsAs : Segment → List Segment → Type 0
EndsAs segment [] = ¬ (segment.end ≡ Yielded)
EndsAs segment (_ ∷ _) = segment.end ≡ Yielded

ends_as : (segment : Segment) (rest : List Segment) → EndsOnce (segment ∷ rest) → EndsAs segment rest
ends_as segment [] e = e
ends_as segment (x ∷ rest) e = e.0

pub some_same : {A : Type 0} (x y : A) → Some x ≡ Some y → x ≡ y
some_same x y e = cc

-- a segment is yielded or not
is_yielded : (e : End) → (e ≡ Yielded) ⊎ ¬ (e ≡ Yielded)
is_yielded Yielded = inl refl
is_yielded Returned = inr (λ x. cc)
is_yielded (Raised exception) = inr (λ x. cc)
is_yielded OutOfFuel = inr (λ x. cc)

module _ {V : Type 0} (effect : Effect) (sound : Call → Type 0) (runs : V → Runs) where
  -- where a worker has a thread, its place says so
  out_place : (resident : Resident) (r worker : ℕ) (place : Place V) → PlaceStands runs r resident place → resident.worker ≡ Some worker → place ≡ Out worker
  out_place resident r worker Fresh p is = absurd (let h = p.0 in cc)
  out_place resident r worker (Idle vt) p is = absurd (let h = p.0 in cc)
  out_place resident r worker (Suspended vt) p is = absurd (let h = p.0 in cc)
  out_place resident r worker (Out w) p is = ap Out (some_same w worker (sym p.0 ∙ is))

  pub was_out : (fed : List Call) (limit worker r : ℕ) (c : Core) (hall : Hall V) → HallStands runs c hall → IsKept fed limit c → c.out worker ≡ Some r → (face hall r).place ≡ Out worker
  was_out fed limit worker r c hall h kept out = out_place (c.thread r) r worker (face hall r).place (h.seats r).place (kept.seats.seated worker r out)

  -- how a segment of a thread in progress ends tells whether it is the last
  pub how_it_ends : HasSegments effect sound → (c : Core) → IsSoundCore sound c → (worker r : ℕ) (vt : V) (segment : Segment) (d : IsDone effect runs worker r vt segment c) → EndsAs segment d.rest
  how_it_ends segments c s worker r vt segment d =
      let whole : IsEffect sound (effect r (c.thread r).finished d.running.call) = segments r (c.thread r).finished d.running.call (s.finished r) (s.running r d.running d.busy) in
      let is : drop d.running.given (effect r (c.thread r).finished d.running.call) ≡ segment ∷ d.rest = sym (ap (left_of effect r (c.thread r).finished) d.busy) ∙ d.next in
      ends_as segment d.rest (ends_drop (effect r (c.thread r).finished d.running.call) d.running.given segment d.rest whole.ends is)

  -- the place at home that the virtual thread has then
  pub idle_after : (r : ℕ) (resident : Resident) (running : Running) (segment : Segment) (rest : List Segment) (vt : V) → EndsAs segment rest → ¬ (segment.end ≡ Yielded) →
      runs vt r (finished_after resident.finished running rest) (running_after running rest) → PlaceStands runs r (after_segment resident running segment rest) (Idle vt)
  idle_after r resident running segment [] vt e other it = (refl, refl, it)
  idle_after r resident running segment (x ∷ rest) vt e other it = absurd (other e)

  pub suspended_after : (r : ℕ) (resident : Resident) (running : Running) (segment : Segment) (rest : List Segment) (vt : V) → EndsAs segment rest → segment.end ≡ Yielded →
      runs vt r (finished_after resident.finished running rest) (running_after running rest) → PlaceStands runs r (after_segment resident running segment rest) (Suspended vt)
  suspended_after r resident running segment [] vt e yielded it = absurd (e yielded)
  suspended_after r resident running segment (x ∷ rest) vt e yielded it = (refl, (record { call = running.call; given = suc running.given }, refl, it))

  few_after : (finished : List Call) (before : Option Running) (running : Running) (rest : List Segment) (n : ℕ) → before ≡ Some running → length (started_calls finished before) ≤ n →
      length (started_calls (finished_after finished running rest) (running_after running rest)) ≤ n
  few_after finished None running rest n e h = absurd cc
  few_after finished (Some x) running [] n e h = let same : x ≡ running = some_same x running e in subst (λ y. length (finished ++ y.call ∷ []) ≤ n) same h
  few_after finished (Some x) running (z ∷ rest) n e h = let same : x ≡ running = some_same x running e in subst (λ y. length (finished ++ y.call ∷ []) ≤ n) same h

  all_settled : (hall : Hall V) (items : List Item) → All (HasSeat hall) (receivers items) → All (λ posted. HasSeat hall posted.to.n) (posted_by items)
  all_settled hall [] h = All-nil (λ posted. HasSeat hall posted.to.n)
  all_settled hall (Send to call ∷ items) h = All-cons (λ posted. HasSeat hall posted.to.n) (record { to = to; call = call }) (posted_by items)
      (All-head (HasSeat hall) to.n (receivers items) h) (all_settled hall items (All-tail (HasSeat hall) to.n (receivers items) h))
  all_settled hall (Line text ∷ items) h = all_settled hall items h

  -- the threads at rest are those before, and one that is suspended now
  pub rests_idle : (old new : Hall V) (r : ℕ) (place : Place V) (more : List Text) → ¬ IsResting place → ¬ IsResting (face old r).place →
      ((x : ℕ) → face new x ≡ put_at (face old) r (back_home place more (face old r)) x) → new.resting.items ≡ old.resting.items → RestsAre old → RestsAre new
  rests_idle old new r place more awake out faces same h x =
      subst (λ y. Contains new.resting.items x ↔ IsResting y.place) (sym (faces x)) (subst (λ l. Contains l x ↔ IsResting (put_at (face old) r (back_home place more (face old r)) x).place) (sym same) (go (eqb x r) refl))
    where
      go : (b : Bool) → eqb x r ≡ b → Contains old.resting.items x ↔ IsResting (cond b (back_home place more (face old r)) (face old x)).place
      go true e = (λ here. absurd (out (subst (λ y. IsResting (face old y).place) (eqb-true x r e) ((h x).0 here))), λ y. absurd (awake y))
      go false e = h x

  pub rests_suspended : (old new : Hall V) (r : ℕ) (vt : V) (more : List Text) →
      ((x : ℕ) → face new x ≡ put_at (face old) r (back_home (Suspended vt) more (face old r)) x) → new.resting.items ≡ old.resting.items ++ r ∷ [] → RestsAre old → RestsAre new
  rests_suspended old new r vt more faces same h x =
      subst (λ y. Contains new.resting.items x ↔ IsResting y.place) (sym (faces x)) (subst (λ l. Contains l x ↔ IsResting (put_at (face old) r (back_home (Suspended vt) more (face old r)) x).place) (sym same) (go (eqb x r) refl))
    where
      go : (b : Bool) → eqb x r ≡ b → Contains (old.resting.items ++ r ∷ []) x ↔ IsResting (cond b (back_home (Suspended vt) more (face old r)) (face old x)).place
      go true e = (λ here. tt, λ y. subst (Contains (old.resting.items ++ r ∷ [])) (sym (eqb-true x r e)) (Contains-push old.resting.items r))
      go false e = (
        λ here. elim (Contains-push_cases old.resting.items r x here) [ inl before ↦ (h x).0 before | inr is ↦ absurd (eqb-false x r e (sym is)) ],
        λ y. Contains-append_left old.resting.items (r ∷ []) x ((h x).1 y),
      )

  -- a worker put its thread back
  pub came_home : (fed : List Call) (limit : ℕ) (journal : List Event) (started segments : ℕ) (old new : Hall V) (worker : ℕ) (thread : ThreadId) (vt : V) (segment : Segment) (place : Place V) →
      (s : StandsFor effect sound runs fed limit journal started segments old) → IsKept fed limit s.c → (d : IsDone effect runs worker thread.n vt segment s.c) →
      PlaceStands runs thread.n (after_segment (s.c.thread thread.n) d.running segment d.rest) place → IsAtHome place →
      ((r : ℕ) → face new r ≡ put_at (face old) thread.n (back_home place (lines segment.items) (face old thread.n)) r) → ((r : ℕ) → HasSeat old r → HasSeat new r) →
      All (HasSeat old) (receivers segment.items) → new.mail.items ≡ old.mail.items ++ posted_by segment.items →
      new.outs.items ≡ filter (λ away. not (eqb away.worker worker)) old.outs.items → new.roll ≡ old.roll → RestsAre new →
      StandsFor effect sound runs fed limit (journal ++ Put worker ∷ []) started segments new
  came_home fed limit journal started segments old new worker thread vt segment place s kept d stands home faces seats room mail outs roll rests = record {
    c = comes_home worker thread.n d.running segment d.rest s.c;
    is = play_push effect limit journal (Put worker) (Some (core_of_none fed)) s.c s.is ∙ puts effect limit worker thread.n s.c d.running segment d.rest d.out d.busy d.next;
    unfed = s.unfed;
    sound_fed = s.sound_fed;
    low = s.low;
    high = s.high;
    started_are = s.started_are;
    takes_are = s.takes_are;
    few_takes = let k = length_push journal (Put worker) in omega (arith, k, s.few_takes);
    hall_stands = record {
      seats = λ r. subst (SeatStands runs s.c.started r ((comes_home worker thread.n d.running segment d.rest s.c).thread r)) (sym (faces r))
          (put_both (SeatStands runs s.c.started) s.c.thread (face old) thread.n (after_segment (s.c.thread thread.n) d.running segment d.rest) (back_home place (lines segment.items) (face old thread.n)) (record {
            place = stands;
            calls = seat.calls;
            few = few_after (s.c.thread thread.n).finished (s.c.thread thread.n).running d.running d.rest (face old thread.n).calls d.busy seat.few;
            log = ap (λ l. l ++ lines segment.items) seat.log;
          }) h.seats r);
      mail = subst (MailStands (comes_home worker thread.n d.running segment d.rest s.c)) (sym mail)
          (mail_posts between (Thread thread.n) (letters (s.c.thread thread.n).sent segment.items) old.mail.items (posted_by segment.items)
          (record { deliveries = h.mail.deliveries; posted = h.mail.posted; inboxes = h.mail.inboxes; ordered = h.mail.ordered; below = h.mail.below; count = h.mail.count })
          (posted-deliveries (Thread thread.n) (length s.c.posts) (s.c.thread thread.n).sent segment.items));
      settled = subst (All (λ posted. HasSeat new posted.to.n)) (sym mail) (All-append (λ posted. HasSeat new posted.to.n) old.mail.items (posted_by segment.items)
          (All-weaker (λ posted. HasSeat old posted.to.n) (λ posted. HasSeat new posted.to.n) (λ posted. seats posted.to.n) old.mail.items h.settled)
          (All-weaker (λ posted. HasSeat old posted.to.n) (λ posted. HasSeat new posted.to.n) (λ posted. seats posted.to.n) (posted_by segment.items) (all_settled old segment.items room)));
      resting = rests;
      outs = outs_back old new worker thread place home (λ r. ap (λ x. x.place) (faces r) ∙ split r (eqb r thread.n)) (outs_by worker old.outs.items new.outs.items outs)
          (λ t is. some_same t.n thread.n (sym (kept.seats.sits t.n worker (subst (PlaceStands runs t.n (s.c.thread t.n)) is (h.seats t.n).place).0) ∙ d.out))
          (was_out fed limit worker thread.n s.c old h kept d.out) h.outs;
      roll = subst (IsRoll s.c.started) (sym (ap (λ v. v.items) roll)) h.roll;
    };
  }
    where
      h : HallStands runs s.c old
      h = s.hall_stands

      seat : SeatStands runs s.c.started thread.n (s.c.thread thread.n) (face old thread.n)
      seat = s.hall_stands.seats thread.n

      between : Core
      between = record s.c {
        thread = put_at s.c.thread thread.n (after_segment (s.c.thread thread.n) d.running segment d.rest);
        out = put_at s.c.out worker None;
      }

      split : (r : ℕ) (b : Bool) → (cond b (back_home place (lines segment.items) (face old thread.n)) (face old r)).place ≡ cond b place (face old r).place
      split r true = refl
      split r false = refl

  -- a worker put its thread back, by what each part of the pool is then
  pub put_back : (fed : List Call) (limit : ℕ) (journal events : List Event) (started segments : ℕ) (old new : Hall V) (worker : ℕ) (thread : ThreadId) (vt : V) (segment : Segment) →
      (s : StandsFor effect sound runs fed limit journal started segments old) → IsKept fed limit s.c → IsSoundCore sound s.c → HasSegments effect sound → IsDone effect runs worker thread.n vt segment s.c →
      All (HasSeat old) (receivers segment.items) → (segment.end ≡ Yielded → ComesToRest worker thread vt segment.items (lines segment.items) old new) →
      (¬ (segment.end ≡ Yielded) → ComesBack worker thread (Idle vt) segment.items (lines segment.items) old new) → events ≡ journal ++ Put worker ∷ [] → StandsFor effect sound runs fed limit events started segments new
  put_back fed limit journal events started segments old new worker thread vt segment s kept sound_core has d settled yielded ended noted =
      subst (λ x. StandsFor effect sound runs fed limit x started segments new) (sym noted) (by_end (is_yielded segment.end))
    where
      e : EndsAs segment d.rest
      e = how_it_ends has s.c sound_core worker thread.n vt segment d

      by_end : (segment.end ≡ Yielded) ⊎ ¬ (segment.end ≡ Yielded) → StandsFor effect sound runs fed limit (journal ++ Put worker ∷ []) started segments new
      by_end (inl is) =
          let b = yielded is in
          came_home fed limit journal started segments old new worker thread vt segment (Suspended vt) s kept d
          (suspended_after thread.n (s.c.thread thread.n) d.running segment d.rest vt e is d.runs_it) tt b.faces b.seats settled b.mail b.outs b.roll
          (rests_suspended old new thread.n vt (lines segment.items) b.faces b.resting s.hall_stands.resting)
      by_end (inr not_so) =
          let b = ended not_so in
          came_home fed limit journal started segments old new worker thread vt segment (Idle vt) s kept d
          (idle_after thread.n (s.c.thread thread.n) d.running segment d.rest vt e not_so d.runs_it) tt b.faces b.seats settled b.mail b.outs b.roll
          (rests_idle old new thread.n (Idle vt) (lines segment.items) (λ x. x)
          (λ x. subst IsResting (was_out fed limit worker thread.n s.c old s.hall_stands kept d.out) x) b.faces (ap (λ v. v.items) b.resting) s.hall_stands.resting)
