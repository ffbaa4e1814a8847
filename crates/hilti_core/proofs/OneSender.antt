-- The law of one sender.
use Rattle.std.proofs.Common.{◌≡◌, ℕ, ◌+◌, ◌<◌, ◌≤◌, Bool, true, false, cond, List, [], ◌∷◌, ◌++◌, length, Some, refl, ap, sym, ◌∙◌, arith, append_assoc, eqb, length-append, ◌⊎◌, inl, inr}
use Rattle.std.specs.Prelude.{◌&&◌, map}
use Rattle.std.specs.List.{Contains}
use Rattle.std.proofs.lemmas.List.{append-nil, nil_from_length, map-append, length-map}
use Rattle.std.proofs.lemmas.List.Elements.{Contains-append_left, Contains-append_right, Contains-push, Contains-push_cases}
use Rattle.std.proofs.lemmas.Bool.{eqb-true}
use Rattle.hilti_tree.specs.declared.call.Call.{Call}
use Rattle.hilti_core.specs.Sending.{Text, Sender, Sender.Capture, Sender.Thread, same_sender, Message, letters, sends, lines, mail, items_of, Effect}
use Rattle.hilti_core.specs.Machine.{Ran, Start, Machine, Pick, pick_of, machine, after_call, after_message, run, IsComplete}
use Rattle.hilti_core.specs.History.{did_from, did, segments_from, picked, ran_calls, sent_to, IsReached}
use Rattle.hilti_core.specs.One.{one, HasOneSender, SameOutcome, HasOneAnswer, HasOneCount}
use Rattle.hilti_core.proofs.Sums.{sum_same, sum_le}
use Rattle.hilti_core.proofs.Lists.{put_cases, same_sender_refl, same_sender_true, mail_cut}
use Rattle.hilti_core.proofs.Histories.{keeps_all, picks_bound, did-append, reached, reached_first, reached_more, counted, started_picks}
use Rattle.hilti_core.proofs.Queue.{one_leads}

-- a list begins with another
abbrev Front : {A : Type 0} → List A → List A → Type 0
Front {A} xs ys = (more : List A) × (xs ++ more ≡ ys)

front_length : {A : Type 0} (xs ys : List A) → Front xs ys → length xs ≤ length ys
front_length xs ys f = omega (arith, length-append xs f.0, ap length f.1)

front_both : {A : Type 0} (xs ys : List A) → Front xs ys → Front ys xs → xs ≡ ys
front_both xs ys f g =
    let none : length f.0 ≡ 0 = omega (arith, length-append xs f.0, ap length f.1, length-append ys g.0, ap length g.1) in
    sym (append-nil xs) ∙ (ap (λ l. xs ++ l) (sym (nil_from_length f.0 none)) ∙ f.1)

contains_here : {A : Type 0} (x : A) (xs : List A) → Contains (x ∷ xs) x
contains_here x xs = Contains-append_left (x ∷ []) xs x (Contains-push [] x)

contains_there : {A : Type 0} (x y : A) (xs : List A) → Contains xs y → Contains (x ∷ xs) y
contains_there x y xs h = Contains-append_right (x ∷ []) xs y h

-- where a message was picked, a call of that sender was started
picked_some : (s : Sender) (x : ℕ) (started : List Start) → 0 < length (picked s x started) → (z : Start) × Contains started z × (z.receiver ≡ x) × (z.sender ≡ s)
picked_some s x [] low = absurd (omega arith)
picked_some s x (y ∷ more) low = go (picked_some s x more) (same_sender s y.sender) (eqb x y.receiver) refl refl low
  where
    later : (0 < length (picked s x more) → (z : Start) × Contains more z × (z.receiver ≡ x) × (z.sender ≡ s)) → 0 < length (picked s x more) → (z : Start) × Contains (y ∷ more) z × (z.receiver ≡ x) × (z.sender ≡ s)
    later again h = let w = again h in (w.0, contains_there y w.0 more w.1, w.2, w.3)

    go : (0 < length (picked s x more) → (z : Start) × Contains more z × (z.receiver ≡ x) × (z.sender ≡ s)) → (t b : Bool) → same_sender s y.sender ≡ t → eqb x y.receiver ≡ b →
        0 < length (cond (t && b) (y.message ∷ picked s x more) (picked s x more)) → (z : Start) × Contains (y ∷ more) z × (z.receiver ≡ x) × (z.sender ≡ s)
    go again true true e1 e2 h = (y, contains_here y more, sym (eqb-true x y.receiver e2), sym (same_sender_true s y.sender e1))
    go again true false e1 e2 h = later again h
    go again false true e1 e2 h = later again h
    go again false false e1 e2 h = later again h

-- where a thread's calls have one sender, they are what was picked from it
only_from : (s : Sender) (x : ℕ) (started : List Start) → ((y : Start) → Contains started y → y.receiver ≡ x → y.sender ≡ s) → map (λ (message : Message). message.call) (picked s x started) ≡ ran_calls x started
only_from s x [] h = refl
only_from s x (y ∷ more) h = go (only_from s x more (λ z c e. h z (contains_there y z more c) e)) (same_sender s y.sender) (eqb x y.receiver) refl refl
  where
    go : map (λ (message : Message). message.call) (picked s x more) ≡ ran_calls x more → (t b : Bool) → same_sender s y.sender ≡ t → eqb x y.receiver ≡ b →
        map (λ (message : Message). message.call) (cond (t && b) (y.message ∷ picked s x more) (picked s x more)) ≡ cond b (y.message.call ∷ ran_calls x more) (ran_calls x more)
    go again true true e1 e2 = ap (λ l. y.message.call ∷ l) again
    go again true false e1 e2 = again
    go again false true e1 e2 =
        let same : y.sender ≡ s = h y (contains_here y more) (sym (eqb-true x y.receiver e2)) in
        let yes : same_sender s y.sender ≡ true = ap (λ z. same_sender s z) same ∙ same_sender_refl s in
        absurd (let k : true ≡ false = sym yes ∙ e1 in cc)
    go again false false e1 e2 = again

-- a history whose threads ran the beginnings of what they ran in another, from the same senders
pub record KeepsTo (effect : Effect) (calls : List Call) (best n : Machine) : Type 0 where
  pub reached : IsReached effect calls n
  pub fronts : (r : ℕ) → (more : List Call) × ((n.thread r).calls ++ more ≡ (best.thread r).calls)
  pub met : (y : Start) → Contains n.started y → (z : Start) × Contains best.started z × (z.receiver ≡ y.receiver) × (z.sender ≡ y.sender)

module _ (effect : Effect) (calls : List Call) (best : Machine) (all : IsReached effect calls best) (complete : IsComplete best) (single : HasOneSender best.started) where
  -- what was sent then begins with what was sent so far
  sent_front : (m : Machine) → KeepsTo effect calls best m → (s : Sender) (x : ℕ) → (more : List Message) × (sent_to effect calls m s x ++ more ≡ sent_to effect calls best s x)
  sent_front m h Capture x = ([], append-nil (sent_to effect calls best Capture x))
  sent_front m h (Thread from) x =
      let front = h.fronts from in
      let before : List Call = (m.thread from).calls in (
        mail x (letters (0 + sends (did effect from before)) (did_from effect from before front.0)),
        sym (mail_cut x 0 (did effect from before) (did_from effect from before front.0))
            ∙ (ap (λ l. mail x (letters 0 l)) (sym (did-append effect from [] before front.0)) ∙ ap (λ l. mail x (letters 0 (did effect from l))) front.1),
      )

  module _ (pick : Pick) (m : Machine) (message : Message) (rest : List Message) (here : m.channel pick.sender pick.receiver ≡ message ∷ rest) (h : KeepsTo effect calls best m) where
    abbrev s : Sender
    s = pick.sender

    abbrev x : ℕ
    x = pick.receiver

    abbrev before : List Message
    before = picked s x m.started

    abbrev later : List Message
    later = (sent_front m h s x).0

    whole : picked s x best.started ≡ (before ++ message ∷ rest) ++ later
    whole =
        sym (append-nil (picked s x best.started)) ∙ (ap (λ l. picked s x best.started ++ l) (sym (complete s x)) ∙ (all.channels s x
        ∙ (sym (sent_front m h s x).1 ∙ ap (λ l. l ++ later) (sym (h.reached.channels s x) ∙ ap (λ l. before ++ l) here))))

    first : (z : Start) × Contains best.started z × (z.receiver ≡ x) × (z.sender ≡ s)
    first = picked_some s x best.started (let k = ap length whole in omega (arith, k, length-append (before ++ message ∷ rest) later, length-append before (message ∷ rest)))

    only_best : (y : Start) → Contains best.started y → y.receiver ≡ x → y.sender ≡ s
    only_best y c e = single y first.0 c first.1 (e ∙ sym first.2) ∙ first.3

    only_here : (y : Start) → Contains m.started y → y.receiver ≡ x → y.sender ≡ s
    only_here y c e = let z = h.met y c in sym z.3 ∙ only_best z.0 z.1 (z.2 ∙ e)

    new_front : (more : List Call) × (((m.thread x).calls ++ message.call ∷ []) ++ more ≡ (best.thread x).calls)
    new_front = (
      map (λ (message : Message). message.call) (rest ++ later),
      append_assoc (m.thread x).calls (message.call ∷ []) (map (λ (message : Message). message.call) (rest ++ later))
          ∙ (ap (λ l. l ++ message.call ∷ map (λ (message : Message). message.call) (rest ++ later)) (h.reached.ran x ∙ sym (only_from s x m.started only_here))
          ∙ (sym (map-append (λ (message : Message). message.call) before (message ∷ (rest ++ later)))
          ∙ (ap (map (λ (message : Message). message.call)) (sym (append_assoc before (message ∷ rest) later) ∙ sym whole)
          ∙ (only_from s x best.started only_best ∙ sym (all.ran x))))),
    )

    pub keeps_to_more : KeepsTo effect calls best (after_message effect pick message rest m)
    keeps_to_more = record {
      reached = reached_more effect calls pick m message rest here h.reached;
      fronts = put_cases (λ y ran. (more : List Call) × (ran.calls ++ more ≡ (best.thread y).calls)) m.thread x
          (after_call (m.thread x) message.call (items_of (effect x (m.thread x).calls message.call))) new_front h.fronts;
      met = λ y c. at y (Contains-push_cases m.started (record { sender = s; receiver = x; message = message; sent = (m.thread x).sent }) y c);
    }
      where
        at : (y : Start) → Contains m.started y ⊎ (record { sender = s; receiver = x; message = message; sent = (m.thread x).sent } ≡ y) → (z : Start) × Contains best.started z × (z.receiver ≡ y.receiver) × (z.sender ≡ y.sender)
        at y (inl c) = h.met y c
        at y (inr e) = (first.0, first.1, first.2 ∙ ap (λ (w : Start). w.receiver) e, first.3 ∙ ap (λ (w : Start). w.sender) e)

  pub keeps_to : (picks : List Pick) (n : Machine) → run effect calls picks ≡ Some n → KeepsTo effect calls best n
  keeps_to picks n e = keeps_all effect (KeepsTo effect calls best) (picks_bound picks)
      (λ pick m message rest low here h. keeps_to_more pick m message rest here h) picks (machine calls) n (omega arith) e
      (record {
        reached = reached_first effect calls;
        fronts = λ r. ((best.thread r).calls, refl);
        met = λ y c. absurd (omega (arith, c.1));
      })

-- a history that keeps to one with one sender a receiver has one sender a receiver
keeps_single : (effect : Effect) (calls : List Call) (best n : Machine) → HasOneSender best.started → KeepsTo effect calls best n → HasOneSender n.started
keeps_single effect calls best n single h x y cx cy e =
    let a = h.met x cx in let b = h.met y cy in sym a.3 ∙ (single a.0 b.0 a.1 b.1 (a.2 ∙ (e ∙ sym b.2)) ∙ b.3)

same_ran : (a b : Ran) → a.calls ≡ b.calls → a.log ≡ b.log → a.sent ≡ b.sent → a ≡ b
same_ran a b p q r = ap (λ (l : List Call). record { calls = l; log = a.log; sent = a.sent }) p
    ∙ (ap (λ (l : List Text). record { calls = b.calls; log = l; sent = a.sent }) q ∙ ap (λ (n : ℕ). record { calls = b.calls; log = b.log; sent = n }) r)

module _ (effect : Effect) (calls : List Call) (first : List Pick) (best : Machine) (runs : run effect calls first ≡ Some best) (complete : IsComplete best) (single : HasOneSender best.started) where
  keeps : (picks : List Pick) (n : Machine) → run effect calls picks ≡ Some n → KeepsTo effect calls best n
  keeps = keeps_to effect calls best (reached effect calls first best runs) complete single

  count : (picks : List Pick) (n : Machine) → run effect calls picks ≡ Some n → length n.started ≡ length picks
  count picks n e = sym (length-map n.started pick_of) ∙ ap length (started_picks effect picks (machine calls) n e)

  pub most : (picks : List Pick) (n : Machine) → run effect calls picks ≡ Some n → length picks ≤ length first
  most picks n e =
      let bound : ℕ = picks_bound picks + picks_bound first in
      let a = counted effect calls picks bound n (omega arith) e in
      let b = counted effect calls first bound best (omega arith) runs in
      let h = keeps picks n e in
      let le = sum_le bound (λ r. length (n.thread r).calls) (λ r. length (best.thread r).calls) (λ r. front_length (n.thread r).calls (best.thread r).calls (h.fronts r)) in
      omega (arith, a.picks, b.picks, le, count picks n e, count first best runs)

  pub same_outcome : (picks : List Pick) (n : Machine) → run effect calls picks ≡ Some n → IsComplete n → SameOutcome n best
  same_outcome picks n e done =
      let bound : ℕ = picks_bound picks + picks_bound first in
      let h = keeps picks n e in
      let back = keeps_to effect calls n h.reached done (keeps_single effect calls best n single h) first best runs in
      let equal : (r : ℕ) → (n.thread r).calls ≡ (best.thread r).calls = λ r. front_both (n.thread r).calls (best.thread r).calls (h.fronts r) (back.fronts r) in
      let a = counted effect calls picks bound n (omega arith) e in
      let b = counted effect calls first bound best (omega arith) runs in
      record {
        threads = λ r. same_ran (n.thread r) (best.thread r) (equal r)
            ((h.reached.threads r).log ∙ (ap (λ l. lines (did effect r l)) (equal r) ∙ sym (back.reached.threads r).log))
            ((h.reached.threads r).sent ∙ (ap (λ l. sends (did effect r l)) (equal r) ∙ sym (back.reached.threads r).sent));
        segments = a.segments ∙ (sum_same bound (λ r. segments_from effect r [] (n.thread r).calls) (λ r. segments_from effect r [] (best.thread r).calls) (λ r. ap (λ l. segments_from effect r [] l) (equal r)) ∙ sym b.segments);
      }

pub one_sender : (effect : Effect) (calls : List Call) (limit : ℕ) → HasOneAnswer effect calls limit
one_sender effect calls limit =
    let l = one_leads effect calls limit in (
      l.0,
      record {
        runs = l.1.runs;
        within = l.1.within;
        ends = l.1.ends;
        best = λ complete single. record {
          most = most effect calls (one effect calls limit) l.0 l.1.runs complete single;
          same = same_outcome effect calls (one effect calls limit) l.0 l.1.runs complete single;
        };
      },
    )

-- complete histories have equal numbers of picks, so of starts
pub one_count : (effect : Effect) (calls : List Call) (limit : ℕ) → HasOneCount effect calls limit
one_count effect calls limit m picks n runs complete single e done =
    let first : List Pick = one effect calls limit in
    let h = keeps_to effect calls m (reached effect calls first m runs) complete single picks n e in
    let a = most effect calls first m runs complete single picks n e in
    let b = most effect calls picks n e done (keeps_single effect calls m n single h) first m runs in
    let k = started_count effect calls picks n e in
    let l = started_count effect calls first m runs in
    record { picks = omega (arith, a, b); started = omega (arith, a, b, k, l) }
  where
    started_count : (effect : Effect) (calls : List Call) (picks : List Pick) (n : Machine) → run effect calls picks ≡ Some n → length n.started ≡ length picks
    started_count effect calls picks n e = sym (length-map n.started pick_of) ∙ ap length (started_picks effect picks (machine calls) n e)
