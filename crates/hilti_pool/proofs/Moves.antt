-- What a pool keeps is kept by each event.
use Rattle.std.proofs.Common.{◌≡◌, ℕ, ◌+◌, ◌<◌, ◌≤◌, ◌↔◌, zero, suc, Bool, true, false, cond, List, [], ◌∷◌, ◌++◌, length, Option, Some, None, MatchOption, IsSome, Contains, refl, ap, sym, ◌∙◌, subst, arith, eqb, All}
use Rattle.std.proofs.lemmas.Bool.{eqb-true}
use Rattle.std.proofs.lemmas.List.{length_push}
use Rattle.std.proofs.lemmas.List.Elements.{All-nil, All-contains, All-weaker, All-push, All-head}
use Rattle.std.specs.Ordering.{nat_cmp}
use Rattle.std.specs.BTreeMap.{get}
use Rattle.hilti_base.specs.declared.names.ThreadId.{ThreadId}
use Rattle.hilti_tree.specs.declared.call.Call.{Call}
use Rattle.hilti_core.specs.declared.event.Event.{Event}
use Rattle.hilti_core.specs.declared.event.Event.TheVariants.{Feed, Take}
use Rattle.hilti_core.specs.Sending.{Effect, Sender.Capture}
use Rattle.hilti_core.specs.Machine.{Start}
use Rattle.hilti_core.specs.Atomic.{started_calls}
use Rattle.hilti_core.specs.Body.{Runs}
use Rattle.hilti_core.specs.Core.{Running, Resident, fresh, core_of_none, begins, goes_on}
use Rattle.hilti_core.specs.Kept.{IsSoundCore}
use Rattle.hilti_core.proofs.Lists.{put_both}
use Rattle.hilti_core.proofs.Moves.{fed_core}
use Rattle.hilti_core.proofs.Kept.{takes_more}
use Rattle.hilti_pool.specs.declared.seat.Place.{Place}
use Rattle.hilti_pool.specs.declared.seat.Place.TheVariants.{Fresh, Idle, Suspended, Out}
use Rattle.hilti_pool.specs.declared.hall.Hall.{Hall}
use Rattle.hilti_pool.specs.Hall.{Face, face, face_of, seat_at, gone, HasSeat, Grows, Leaves, Wakes, TakesFirst, IsResting, IsAtHome, WasIdle}
use Rattle.hilti_pool.specs.Work.{HasWork, IsJob}
use Rattle.hilti_pool.specs.Stands.{MailStands, PlaceStands, SeatStands, HallStands, StandsFor}
use Rattle.hilti_pool.specs.Threads.{calls_of}
use Rattle.hilti_pool.specs.Roll.{IsRoll, Enrols}
use Rattle.hilti_pool.proofs.Roll.{roll_starts, roll_nothing}
use Rattle.hilti_pool.proofs.Plays.{play_push, feeds, goes, starts}
use Rattle.hilti_pool.proofs.Mail.{mail_posts, Heads, mail_starts, without}
use Rattle.hilti_pool.proofs.Seats.{put_here, already_awake, rests_left, outs_left, one_if, calls_of-push, calls_of-within}

module _ {V : Type 0} (effect : Effect) (sound : Call → Type 0) (runs : V → Runs) where
  -- a thread that isn't at home can't be out, and so on: what a place at home says
  suspended_home : (place : Place V) → IsResting place → IsAtHome place
  suspended_home Fresh x = tt
  suspended_home (Idle vt) x = tt
  suspended_home (Suspended vt) x = tt
  suspended_home (Out worker) x = x

  seat_fits : (started : List Start) (r : ℕ) (resident : Resident) (x : Face V) (place : Place V) → SeatStands runs started r resident x → x.place ≡ place → PlaceStands runs r resident place
  seat_fits started r resident x place s is = subst (PlaceStands runs r resident) is s.place

  -- a worker took a thread that was suspended
  pub resumed : (fed : List Call) (limit : ℕ) (journal : List Event) (started segments : ℕ) (old new : Hall V) (worker : ℕ) (thread : ThreadId) (vt : V) →
      (s : StandsFor effect sound runs fed limit journal started segments old) → s.c.out worker ≡ None → (face old thread.n).place ≡ Suspended vt → Leaves worker thread 0 old new →
      Wakes thread.n old.resting.items new.resting.items → new.mail.items ≡ old.mail.items → new.roll.items ≡ old.roll.items →
      (t : StandsFor effect sound runs fed limit (journal ++ Take worker thread ∷ []) started (segments + 1) new) × IsJob sound runs worker thread.n (Some vt) None t.c
  resumed fed limit journal started segments old new worker thread vt s free place l w mail roll = (
    record {
      c = goes_on worker thread.n s.c;
      is = play_push effect limit journal (Take worker thread) (Some (core_of_none fed)) s.c s.is ∙ goes effect limit worker thread s.c at.1.0 free at.0 at.1.1;
      unfed = s.unfed;
      sound_fed = s.sound_fed;
      low = s.low;
      high = s.high;
      started_are = s.started_are;
      takes_are = omega (arith, s.takes_are);
      few_takes = let k = length_push journal (Take worker thread) in omega (arith, k, s.few_takes);
      hall_stands = record {
        seats = λ r. subst (SeatStands runs s.c.started r ((goes_on worker thread.n s.c).thread r)) (sym (l.faces r))
            (put_both (SeatStands runs s.c.started) s.c.thread (face old) thread.n (record (s.c.thread thread.n) { worker = Some worker }) (gone worker 0 (face old thread.n)) (record {
              place = (refl, (at.1.0, at.1.1));
              calls = omega (arith, seat.calls);
              few = omega (arith, seat.few);
              log = seat.log;
            }) h.seats r);
        mail = record { deliveries = h.mail.deliveries; posted = h.mail.posted ∙ sym mail; inboxes = h.mail.inboxes; ordered = h.mail.ordered; below = h.mail.below; count = h.mail.count };
        settled = subst (All (λ posted. HasSeat new posted.to.n)) (sym mail) (All-weaker (λ posted. HasSeat old posted.to.n) (λ posted. HasSeat new posted.to.n) (λ posted. l.seats posted.to.n) old.mail.items h.settled);
        resting = rests_left old new worker thread 0 l w h.resting;
        outs = outs_left old new worker thread 0 l (subst IsAtHome (sym place) tt) h.outs;
        roll = subst (IsRoll s.c.started) (sym roll) h.roll;
      };
    },
    record {
      out = put_here s.c.out worker (Some thread.n);
      work = subst (λ x. HasWork sound runs thread.n x (Some vt) None) (sym (put_here s.c.thread thread.n (record (s.c.thread thread.n) { worker = Some worker })))
          (record { running = at.1.0; busy = at.1.1; runs_it = at.1.2 });
    },
  )
    where
      h : HallStands runs s.c old
      h = s.hall_stands

      seat : SeatStands runs s.c.started thread.n (s.c.thread thread.n) (face old thread.n)
      seat = s.hall_stands.seats thread.n

      at : PlaceStands runs thread.n (s.c.thread thread.n) (Suspended vt)
      at = seat_fits s.c.started thread.n (s.c.thread thread.n) (face old thread.n) (Suspended vt) (s.hall_stands.seats thread.n) place

  -- a thread at home that isn't suspended has no call in progress, and what its virtual thread ran is known
  idle_place : (started : List Start) (r : ℕ) (resident : Resident) (x : Face V) (vt : Option V) → SeatStands runs started r resident x → WasIdle vt x.place →
      (resident.worker ≡ None) × (resident.running ≡ None) × MatchOption vt (resident.finished ≡ []) (λ vt. runs vt r resident.finished None)
  idle_place started r resident x None s is = let at = seat_fits started r resident x Fresh s is in (at.0, at.1, at.2)
  idle_place started r resident x (Some vt) s is = let at = seat_fits started r resident x (Idle vt) s is in (at.0, at.1, at.2)

  pub idle_home : (place : Place V) (vt : Option V) → WasIdle vt place → IsAtHome place × ¬ IsResting place
  idle_home place None is = (subst IsAtHome (sym is) tt, λ x. subst IsResting is x)
  idle_home place (Some vt) is = (subst IsAtHome (sym is) tt, λ x. subst IsResting is x)

  -- the calls started are the finished ones where none is in progress
  idle_few : (finished : List Call) (running : Option Running) (n : ℕ) → running ≡ None → length (started_calls finished running) ≤ n → length finished ≤ n
  idle_few finished None n e h = h
  idle_few finished (Some running) n e h = absurd cc

  -- a worker took a thread to begin the first call that waited for it
  pub begins_call : (fed : List Call) (limit : ℕ) (journal : List Event) (started segments : ℕ) (old new : Hall V) (worker : ℕ) (thread : ThreadId) (vt : Option V) (call : Call) →
      (s : StandsFor effect sound runs fed limit journal started segments old) → IsSoundCore sound s.c → s.c.out worker ≡ None → length s.c.started < limit →
      WasIdle vt (face old thread.n).place → Leaves worker thread 1 old new → new.resting.items ≡ old.resting.items → TakesFirst thread.n call old.mail.items new.mail.items → Enrols thread.n old.roll.items new.roll.items →
      (t : StandsFor effect sound runs fed limit (journal ++ Take worker thread ∷ []) (started + 1) (segments + 1) new) × IsJob sound runs worker thread.n vt (Some call) t.c
  begins_call fed limit journal started segments old new worker thread vt call s sound_core free few place l resting takes enrols = (
    record {
      c = begins worker thread.n heads.head heads.rest s.c;
      is = play_push effect limit journal (Take worker thread) (Some (core_of_none fed)) s.c s.is ∙ starts effect limit worker thread s.c heads.head heads.rest free at.0 at.1 heads.inbox few;
      unfed = s.unfed;
      sound_fed = s.sound_fed;
      low = s.low;
      high = s.high;
      started_are = let k = length_push s.c.started start in omega (arith, k, s.started_are);
      takes_are = omega (arith, s.takes_are);
      few_takes = let k = length_push journal (Take worker thread) in omega (arith, k, s.few_takes);
      hall_stands = record {
        seats = λ r. subst (SeatStands runs (s.c.started ++ start ∷ []) r ((begins worker thread.n heads.head heads.rest s.c).thread r)) (sym (l.faces r)) (go r (eqb r thread.n) refl);
        mail = heads.mail worker;
        settled = All-weaker (λ posted. HasSeat old posted.to.n) (λ posted. HasSeat new posted.to.n) (λ posted. l.seats posted.to.n) new.mail.items
            (subst (All (λ posted. HasSeat old posted.to.n)) (sym takes.is) (without (λ posted. HasSeat old posted.to.n) takes.front takes.first takes.back (subst (All (λ posted. HasSeat old posted.to.n)) takes.was h.settled)));
        resting = rests_left old new worker thread 1 l (subst (Wakes thread.n old.resting.items) (sym resting) (already_awake old thread.n h.resting quiet.1)) h.resting;
        outs = outs_left old new worker thread 1 l quiet.0 h.outs;
        roll = roll_starts s.c.started start old.roll.items new.roll.items h.roll enrols;
      };
    },
    record {
      out = put_here s.c.out worker (Some thread.n);
      work = subst (λ x. HasWork sound runs thread.n x vt (Some call)) (sym (put_here s.c.thread thread.n taken)) (record {
        busy = ap (λ x. Some (record { call = x; given = 0 })) heads.call;
        sound_call = subst sound heads.call (All-head (λ w. sound w.message.call) heads.head heads.rest (subst (All (λ w. sound w.message.call)) heads.inbox (sound_core.inboxes thread.n)));
        runs_it = at.2;
        few = let a = idle_few (s.c.thread thread.n).finished (s.c.thread thread.n).running (face old thread.n).calls at.1 seat.few in
            let b = calls_of-within thread.n s.c.started in
            omega (arith, a, b, seat.calls, few, s.high);
      });
    },
  )
    where
      h : HallStands runs s.c old
      h = s.hall_stands

      heads : Heads s.c thread.n call new.mail.items
      heads = mail_starts s.c thread.n call old.mail.items new.mail.items s.hall_stands.mail takes

      seat : SeatStands runs s.c.started thread.n (s.c.thread thread.n) (face old thread.n)
      seat = s.hall_stands.seats thread.n

      quiet : IsAtHome (face old thread.n).place × ¬ IsResting (face old thread.n).place
      quiet = idle_home (face old thread.n).place vt place

      at : ((s.c.thread thread.n).worker ≡ None) × ((s.c.thread thread.n).running ≡ None) × MatchOption vt ((s.c.thread thread.n).finished ≡ []) (λ vt. runs vt thread.n (s.c.thread thread.n).finished None)
      at = idle_place s.c.started thread.n (s.c.thread thread.n) (face old thread.n) vt (s.hall_stands.seats thread.n) place

      start : Start
      start = record { sender = heads.head.sender; receiver = thread.n; message = heads.head.message; sent = (s.c.thread thread.n).sent }

      taken : Resident
      taken = record (s.c.thread thread.n) { running = Some (record { call = heads.head.message.call; given = 0 }); worker = Some worker }

      go : (r : ℕ) (b : Bool) → eqb r thread.n ≡ b → SeatStands runs (s.c.started ++ start ∷ []) r (cond b taken (s.c.thread r)) (cond b (gone worker 1 (face old thread.n)) (face old r))
      go r true e = record {
        place = (refl, (record { call = heads.head.message.call; given = 0 }, refl));
        calls = let same : r ≡ thread.n = eqb-true r thread.n e in
            let one : one_if (eqb r thread.n) ≡ suc zero = ap one_if e in
            let here : calls_of thread.n s.c.started ≡ calls_of r s.c.started = ap (λ x. calls_of x s.c.started) (sym same) in
            omega (arith, calls_of-push r s.c.started start, one, here, seat.calls);
        few = let a = idle_few (s.c.thread thread.n).finished (s.c.thread thread.n).running (face old thread.n).calls at.1 seat.few in
            let k = length_push (s.c.thread thread.n).finished heads.head.message.call in
            omega (arith, a, k);
        log = seat.log;
      }
      go r false e = record {
        place = (h.seats r).place;
        calls = let none : one_if (eqb r thread.n) ≡ zero = ap one_if e in omega (arith, calls_of-push r s.c.started start, none, (h.seats r).calls);
        few = (h.seats r).few;
        log = (h.seats r).log;
      }

  -- a call was fed
  pub was_fed : (fed : List Call) (limit : ℕ) (journal : List Event) (started segments : ℕ) (old grown new : Hall V) (call : Call) →
      StandsFor effect sound runs fed limit journal started segments old → sound call → Grows old grown → HasSeat grown 0 → new.seats ≡ grown.seats → new.resting ≡ grown.resting → new.outs ≡ grown.outs → new.roll ≡ grown.roll →
      new.mail.items ≡ grown.mail.items ++ record { to = record { n = 0 }; call = call } ∷ [] →
      StandsFor effect sound runs (fed ++ call ∷ []) limit (journal ++ Feed ∷ []) started segments new
  was_fed fed limit journal started segments old grown new call s is_sound g seat seats resting outs roll mail = record {
    c = fed_core call [] s.c;
    is = play_push effect limit journal Feed (Some (core_of_none (fed ++ call ∷ []))) (record s.c { unfed = s.c.unfed ++ call ∷ [] }) (takes_more effect fed (call ∷ []) limit journal s.c s.is)
        ∙ feeds effect limit s.c call s.unfed;
    unfed = refl;
    sound_fed = All-push sound fed call s.sound_fed is_sound;
    low = s.low;
    high = s.high;
    started_are = s.started_are;
    takes_are = s.takes_are;
    few_takes = let k = length_push journal Feed in omega (arith, k, s.few_takes);
    hall_stands = record {
      seats = λ r. subst (SeatStands runs s.c.started r (s.c.thread r)) (sym (faces r)) (h.seats r);
      mail = subst (MailStands (fed_core call [] s.c)) (sym (mail ∙ ap (λ l. l ++ record { to = record { n = 0 }; call = call } ∷ []) g.mail))
          (mail_posts (record s.c { fed = suc s.c.fed; unfed = [] }) Capture (record { to = 0; message = record { call = call; place = s.c.fed } } ∷ []) old.mail.items (record { to = record { n = 0 }; call = call } ∷ [])
          (record { deliveries = h.mail.deliveries; posted = h.mail.posted; inboxes = h.mail.inboxes; ordered = h.mail.ordered; below = h.mail.below; count = h.mail.count }) refl);
      settled = subst (All (λ posted. HasSeat new posted.to.n)) (sym (mail ∙ ap (λ l. l ++ record { to = record { n = 0 }; call = call } ∷ []) g.mail))
          (All-push (λ posted. HasSeat new posted.to.n) old.mail.items (record { to = record { n = 0 }; call = call })
          (All-weaker (λ posted. HasSeat old posted.to.n) (λ posted. HasSeat new posted.to.n) (λ posted x. there posted.to.n (g.seats posted.to.n x)) old.mail.items h.settled) (there 0 seat));
      resting = λ r. subst (λ x. Contains new.resting.items r ↔ IsResting x.place) (sym (faces r)) (subst (λ x. Contains x r ↔ IsResting (face old r).place) (sym (ap (λ x. x.items) resting ∙ g.resting)) (h.resting r));
      outs = λ w t. subst (λ x. Contains new.outs.items (record { worker = w; thread = t }) ↔ (x.place ≡ Out w)) (sym (faces t.n))
          (subst (λ x. Contains x (record { worker = w; thread = t }) ↔ ((face old t.n).place ≡ Out w)) (sym (ap (λ x. x.items) outs ∙ g.outs)) (h.outs w t));
      roll = subst (IsRoll s.c.started) (sym (ap (λ x. x.items) roll ∙ g.roll)) h.roll;
    };
  }
    where
      h : HallStands runs s.c old
      h = s.hall_stands

      faces : (r : ℕ) → face new r ≡ face old r
      faces r = ap (λ x. face_of (get nat_cmp x r)) seats ∙ g.faces r

      there : (r : ℕ) → HasSeat grown r → HasSeat new r
      there r x = subst (λ y. IsSome (get nat_cmp y r)) (sym seats) x

  -- nothing happened yet
  pub nothing_yet : (fed : List Call) (limit : ℕ) (journal : List Event) (hall : Hall V) → 1 ≤ limit → limit ≤ 100000000 → fed ≡ [] → journal ≡ [] → ((r : ℕ) → seat_at hall r ≡ None) →
      hall.mail.items ≡ [] → hall.resting.items ≡ [] → hall.outs.items ≡ [] → hall.roll.items ≡ [] → StandsFor effect sound runs fed limit journal 0 0 hall
  nothing_yet fed limit journal hall low high no_calls no_events seats mail resting outs roll =
      subst (λ calls. StandsFor effect sound runs calls limit journal 0 0 hall) (sym no_calls) (subst (λ events. StandsFor effect sound runs [] limit events 0 0 hall) (sym no_events) (record {
        c = core_of_none [];
        is = refl;
        unfed = refl;
        sound_fed = All-nil sound;
        low = low;
        high = high;
        started_are = refl;
        takes_are = refl;
        few_takes = omega arith;
        hall_stands = record {
          seats = λ r. subst (SeatStands runs [] r fresh) (sym (ap face_of (seats r))) (record { place = (refl, refl, refl); calls = refl; few = omega arith; log = refl });
          mail = subst (MailStands (core_of_none [])) (sym mail) (record { deliveries = []; posted = refl; inboxes = λ to. refl; ordered = tt; below = All-nil (λ d. d.waiting.number < 0); count = refl });
          settled = subst (All (λ posted. HasSeat hall posted.to.n)) (sym mail) (All-nil (λ posted. HasSeat hall posted.to.n));
          resting = λ r. (λ here. absurd (empty_list r (subst (λ l. Contains l r) resting here)), λ x. absurd (subst IsResting (ap (λ x. x.place) (ap face_of (seats r))) x));
          outs = λ w t. (
            λ here. absurd (empty_list (record { worker = w; thread = t }) (subst (λ l. Contains l (record { worker = w; thread = t })) outs here)),
            λ is. absurd (let e = sym (ap (λ x. x.place) (ap face_of (seats t.n))) ∙ is in cc),
          );
          roll = roll_nothing hall.roll.items roll;
        };
      }))
    where
      empty_list : {A : Type 0} (x : A) → Contains [] x → ⊥
      empty_list x h = All-contains (λ y. ⊥) [] x (All-nil (λ y. ⊥)) h

  -- room alone was made
  pub stays : (fed calls : List Call) (limit : ℕ) (journal events : List Event) (started segments : ℕ) (old new : Hall V) → StandsFor effect sound runs fed limit journal started segments old →
      calls ≡ fed → events ≡ journal → Grows old new → StandsFor effect sound runs calls limit events started segments new
  stays fed calls limit journal events started segments old new s same_calls same_events g =
      subst (λ x. StandsFor effect sound runs x limit events started segments new) (sym same_calls) (subst (λ x. StandsFor effect sound runs fed limit x started segments new) (sym same_events) (record {
        c = s.c;
        is = s.is;
        unfed = s.unfed;
        sound_fed = s.sound_fed;
        low = s.low;
        high = s.high;
        started_are = s.started_are;
        takes_are = s.takes_are;
        few_takes = s.few_takes;
        hall_stands = record {
          seats = λ r. subst (SeatStands runs s.c.started r (s.c.thread r)) (sym (g.faces r)) (s.hall_stands.seats r);
          mail = subst (MailStands s.c) (sym g.mail) s.hall_stands.mail;
          settled = subst (All (λ posted. HasSeat new posted.to.n)) (sym g.mail) (All-weaker (λ posted. HasSeat old posted.to.n) (λ posted. HasSeat new posted.to.n) (λ posted. g.seats posted.to.n) old.mail.items s.hall_stands.settled);
          resting = λ r. subst (λ x. Contains new.resting.items r ↔ IsResting x.place) (sym (g.faces r)) (subst (λ x. Contains x r ↔ IsResting (face old r).place) (sym g.resting) (s.hall_stands.resting r));
          outs = λ w t. subst (λ x. Contains new.outs.items (record { worker = w; thread = t }) ↔ (x.place ≡ Out w)) (sym (g.faces t.n))
              (subst (λ x. Contains x (record { worker = w; thread = t }) ↔ ((face old t.n).place ≡ Out w)) (sym g.outs) (s.hall_stands.outs w t));
          roll = subst (IsRoll s.c.started) (sym g.roll) s.hall_stands.roll;
        };
      }))

  -- a call was fed, by what each part of the pool is then
  pub fed_on : (fed calls : List Call) (limit : ℕ) (journal noted events : List Event) (started segments : ℕ) (old grown new : Hall V) (call : Call) →
      StandsFor effect sound runs fed limit journal started segments old → sound call → calls ≡ fed ++ call ∷ [] → noted ≡ journal → events ≡ noted ++ Feed ∷ [] →
      Grows old grown → HasSeat grown 0 → new.seats ≡ grown.seats → new.resting ≡ grown.resting → new.outs ≡ grown.outs → new.roll ≡ grown.roll →
      new.mail.items ≡ grown.mail.items ++ record { to = record { n = 0 }; call = call } ∷ [] → StandsFor effect sound runs calls limit events started segments new
  fed_on fed calls limit journal noted events started segments old grown new call s is_sound a b c g seat seats resting outs roll mail =
      subst (λ x. StandsFor effect sound runs x limit events started segments new) (sym a)
      (subst (λ x. StandsFor effect sound runs (fed ++ call ∷ []) limit x started segments new) (sym (c ∙ ap (λ l. l ++ Feed ∷ []) b))
      (was_fed fed limit journal started segments old grown new call s is_sound g seat seats resting outs roll mail))
