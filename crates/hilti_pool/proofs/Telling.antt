-- What a pool tells of its core.
use Rattle.std.proofs.Common.{◌≡◌, ℕ, ◌≤◌, inl, inr, Bool, true, false, cond, List, [], ◌∷◌, length, map, Option, Some, None, MatchOption, option_map, refl, ap, sym, ◌∙◌, subst, arith, eqb, All, Contains}
use Rattle.std.proofs.lemmas.Bool.{eq-eqb}
use Rattle.std.proofs.lemmas.List.Elements.{All-nil, All-cons, All-head, All-tail, All-contains}
use Rattle.hilti_base.specs.declared.names.ThreadId.{ThreadId}
use Rattle.hilti_tree.specs.declared.call.Call.{Call}
use Rattle.hilti_core.specs.Body.{Runs}
use Rattle.hilti_core.specs.Core.{Waiting, Core}
use Rattle.hilti_core.specs.Kept.{IsKept}
use Rattle.hilti_pool.specs.declared.seat.Posted.{Posted}
use Rattle.hilti_pool.specs.declared.hall.Hall.{Hall}
use Rattle.hilti_pool.specs.Readiness.{NoneSuspended, IsFirst, IsFirstPosted}
use Rattle.hilti_core.specs.Sending.{Text}
use Rattle.hilti_pool.specs.Roll.{IsLogAt, EndsBy}
use Rattle.hilti_pool.specs.Hall.{HasNothing, HasThread, ComesFirst, IsLogOf}
use Rattle.hilti_pool.specs.Stands.{Delivery, posted_of, inbox_in, AreInOrder, PlaceStands, HallStands}
use Rattle.hilti_pool.proofs.Homecoming.{was_out}
use Rattle.hilti_pool.proofs.Causes.{in_nothing, rests_in, suspended_in, no_mail}

inbox_all : (P : Waiting → Type 0) (to : ℕ) (ws : List Delivery) → All (λ d. P d.waiting) ws → All P (inbox_in to ws)
inbox_all P to [] h = All-nil P
inbox_all P to (w ∷ ws) h = go (eqb to w.to) (inbox_all P to ws (All-tail (λ d. P d.waiting) w ws h))
  where
    go : (b : Bool) → All P (inbox_in to ws) → All P (cond b (w.waiting ∷ inbox_in to ws) (inbox_in to ws))
    go true later = All-cons P w.waiting (inbox_in to ws) (All-head (λ d. P d.waiting) w ws h) later
    go false later = later

first_posted : (c : Core) (first : Posted) (rest : List Posted) (ws : List Delivery) → map posted_of ws ≡ first ∷ rest → AreInOrder ws → ((to : ℕ) → c.inbox to ≡ inbox_in to ws) → IsFirstPosted c first.to.n
first_posted c first rest [] is o inboxes = absurd cc
first_posted c first rest (w ∷ ws) is o inboxes =
    let same : posted_of w ≡ first = cc in
    let to : w.to ≡ first.to.n = ap (λ p. p.to.n) same in
    record {
      head = w.waiting;
      rest = inbox_in first.to.n ws;
      inbox = inboxes first.to.n ∙ ap (λ b. cond b (w.waiting ∷ inbox_in first.to.n ws) (inbox_in first.to.n ws)) (eq-eqb first.to.n w.to (sym to));
      least = λ other. subst (All (λ x. w.waiting.number ≤ x.number)) (sym (inboxes other))
          (inbox_all (λ x. w.waiting.number ≤ x.number) other (w ∷ ws) (All-cons (λ d. w.waiting.number ≤ d.waiting.number) w ws (omega arith) o.0));
    }

pub match_weaker : {X : Type 0} (o : Option X) (P Q : Type 0) (A B : X → Type 0) → (P → Q) → ((x : X) → A x → B x) → MatchOption o P A → MatchOption o Q B
match_weaker None P Q A B none some h = none h
match_weaker (Some x) P Q A B none some h = some x h

module _ {V : Type 0} (runs : V → Runs) (c : Core) (hall : Hall V) (h : HallStands runs c hall) where
  none_rests : hall.resting.items ≡ [] → NoneSuspended c
  none_rests none r s = in_nothing r (subst (λ l. Contains l r) none ((h.resting r).1 (rests_in runs c hall r h s)))

  pub is_first : (o : Option ThreadId) → ComesFirst hall o → IsFirst c (option_map (λ thread. thread.n) o)
  is_first None none = (none_rests none.0, no_mail runs c hall h none.1)
  is_first (Some thread) (inl least) = inl (record {
    suspended = suspended_in runs c hall thread.n h ((h.resting thread.n).0 least.0);
    least = λ other s. All-contains (λ o. thread.n ≤ o) hall.resting.items other least.1 ((h.resting other).1 (rests_in runs c hall other h s));
  })
  is_first (Some thread) (inr waits) =
      let first = waits.1.0 in
      let cut = waits.1.1 in
      inr (none_rests waits.0, subst (λ t. IsFirstPosted c t.n) cut.2 (first_posted c first cut.0 h.mail.deliveries (h.mail.posted ∙ cut.1) h.mail.ordered h.mail.inboxes))

  -- what a worker has in the hall is what it has in the core
  pub has_out : (fed : List Call) (limit worker : ℕ) (o : Option ThreadId) → IsKept fed limit c → MatchOption o (HasNothing worker hall.outs.items) (HasThread worker hall.outs.items) → c.out worker ≡ option_map (λ thread. thread.n) o
  has_out fed limit worker None kept none = go (c.out worker) refl
    where
      go : (o : Option ℕ) → c.out worker ≡ o → o ≡ None
      go None is = refl
      go (Some r) is = absurd (none (record { n = r }) ((h.outs worker (record { n = r })).1 (was_out (λ t finished call. []) (λ call. Unit {0}) runs fed limit worker r c hall h kept is)))
  has_out fed limit worker (Some thread) kept here =
      kept.seats.sits thread.n worker (subst (PlaceStands runs thread.n (c.thread thread.n)) ((h.outs worker thread).0 here) (h.seats thread.n).place).0

  -- what is told of a thread that ran
  pub log_told : (place thread calls : ℕ) (lines : List Text) → IsLogOf hall place thread calls lines → IsLogAt place thread calls lines c
  log_told place thread calls lines l = record {
    roll = hall.roll.items;
    is = h.roll;
    at = l.at;
    calls_are = l.calls_are ∙ (h.seats thread).calls;
    lines_are = l.lines_are ∙ (h.seats thread).log;
  }

  pub log_ends : (place : ℕ) → length hall.roll.items ≤ place → EndsBy place c
  log_ends place past = record { roll = hall.roll.items; is = h.roll; ends = past }
