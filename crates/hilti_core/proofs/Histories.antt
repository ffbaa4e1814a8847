-- What every history keeps.
use Rattle.std.proofs.Common.{◌≡◌, ℕ, ◌+◌, ◌<◌, ◌≤◌, suc, Bool, true, false, cond, List, [], ◌∷◌, ◌++◌, length, Some, None, refl, ap, sym, ◌∙◌, subst, arith, append_assoc, eqb}
use Rattle.std.specs.Prelude.{◌&&◌, map}
use Rattle.std.proofs.lemmas.List.{append-nil, length_push, map-append}
use Rattle.std.proofs.lemmas.Bool.{eqb-true}
use Rattle.hilti_tree.specs.declared.call.Call.{Call}
use Rattle.hilti_core.specs.declared.pieces.Item.{Item}
use Rattle.hilti_core.specs.Sending.{Sender, Sender.Capture, Sender.Thread, same_sender, Message, letters, sends, lines, mail, items_of, Effect}
use Rattle.hilti_core.specs.Machine.{Ran, Start, Machine, Pick, pick_of, machine, after_call, without_head, sent_by, after_message, pick_from, run_from, run, sent_first}
use Rattle.hilti_core.specs.History.{did_from, did, segments_from, picked, ran_calls, sent_to, IsThread, IsReached}
use Rattle.hilti_core.specs.Sums.{sum_below}
use Rattle.hilti_core.proofs.Sums.{sum_put, sum_zero}
use Rattle.hilti_core.proofs.Lists.{put_cases, same_sender_true, lines-append, sends-append, mail_cut}

-- a bound above all receivers
abbrev pub picks_bound : List Pick → ℕ
picks_bound [] = 0
picks_bound (pick ∷ more) = suc pick.receiver + picks_bound more

run_none : (effect : Effect) (picks : List Pick) (n : Machine) → run_from effect picks None ≡ Some n → ⊥
run_none effect [] n e = cc
run_none effect (pick ∷ more) n e = cc

-- what the first machine has and each pick keeps, the last machine has
pub keeps_all : (effect : Effect) (P : Machine → Type 0) (bound : ℕ) →
    ((pick : Pick) (m : Machine) (message : Message) (rest : List Message) → pick.receiver < bound → m.channel pick.sender pick.receiver ≡ message ∷ rest → P m → P (after_message effect pick message rest m)) →
    (picks : List Pick) (m n : Machine) → picks_bound picks ≤ bound → run_from effect picks (Some m) ≡ Some n → P m → P n
keeps_all effect P bound keeps [] m n low e p = subst P (let is : m ≡ n = cc in is) p
keeps_all effect P bound keeps (pick ∷ more) m n low e p = go (λ x h q. keeps_all effect P bound keeps more x n (omega arith) h q) (m.channel pick.sender pick.receiver) refl e
  where
    go : ((x : Machine) → run_from effect more (Some x) ≡ Some n → P x → P n) → (channel : List Message) → m.channel pick.sender pick.receiver ≡ channel →
        run_from effect more (pick_from effect pick m channel) ≡ Some n → P n
    go again [] is h = absurd (run_none effect more n h)
    go again (message ∷ rest) is h = again (after_message effect pick message rest m) h (keeps pick m message rest (omega arith) is p)

pub did_more : (effect : Effect) (r : ℕ) (before calls : List Call) (call : Call) →
    did_from effect r before (calls ++ call ∷ []) ≡ did_from effect r before calls ++ items_of (effect r (before ++ calls) call)
did_more effect r before [] call = append-nil (items_of (effect r before call)) ∙ ap (λ l. items_of (effect r l call)) (sym (append-nil before))
did_more effect r before (x ∷ calls) call =
    ap (λ l. items_of (effect r before x) ++ l) (did_more effect r (before ++ x ∷ []) calls call)
    ∙ (sym (append_assoc (items_of (effect r before x)) (did_from effect r (before ++ x ∷ []) calls) (items_of (effect r ((before ++ x ∷ []) ++ calls) call)))
    ∙ ap (λ l. (items_of (effect r before x) ++ did_from effect r (before ++ x ∷ []) calls) ++ items_of (effect r l call)) (append_assoc before (x ∷ []) calls))

pub did-append : (effect : Effect) (r : ℕ) (before xs ys : List Call) → did_from effect r before (xs ++ ys) ≡ did_from effect r before xs ++ did_from effect r (before ++ xs) ys
did-append effect r before [] ys = ap (λ l. did_from effect r l ys) (sym (append-nil before))
did-append effect r before (x ∷ xs) ys =
    ap (λ l. items_of (effect r before x) ++ l) (did-append effect r (before ++ x ∷ []) xs ys)
    ∙ (sym (append_assoc (items_of (effect r before x)) (did_from effect r (before ++ x ∷ []) xs) (did_from effect r ((before ++ x ∷ []) ++ xs) ys))
    ∙ ap (λ l. (items_of (effect r before x) ++ did_from effect r (before ++ x ∷ []) xs) ++ did_from effect r l ys) (append_assoc before (x ∷ []) xs))

pub segments_more : (effect : Effect) (r : ℕ) (before calls : List Call) (call : Call) →
    segments_from effect r before (calls ++ call ∷ []) ≡ segments_from effect r before calls + length (effect r (before ++ calls) call)
segments_more effect r before [] call = let e = ap (λ l. length (effect r l call)) (append-nil before) in omega (arith, e)
segments_more effect r before (x ∷ calls) call =
    let e = ap (λ l. length (effect r l call)) (append_assoc before (x ∷ []) calls) in omega (arith, e, segments_more effect r (before ++ x ∷ []) calls call)

picked_more : (s : Sender) (x : ℕ) (started : List Start) (start : Start) →
    picked s x (started ++ start ∷ []) ≡ picked s x started ++ cond (same_sender s start.sender && (eqb x start.receiver)) (start.message ∷ []) []
picked_more s x [] start = refl
picked_more s x (y ∷ started) start = go (same_sender s y.sender && eqb x y.receiver) (picked_more s x started start)
  where
    more : List Message
    more = cond (same_sender s start.sender && (eqb x start.receiver)) (start.message ∷ []) []

    go : (b : Bool) → picked s x (started ++ start ∷ []) ≡ picked s x started ++ more →
        cond b (y.message ∷ picked s x (started ++ start ∷ [])) (picked s x (started ++ start ∷ [])) ≡ cond b (y.message ∷ picked s x started) (picked s x started) ++ more
    go true e = ap (λ l. y.message ∷ l) e
    go false e = e

ran_more : (r : ℕ) (started : List Start) (start : Start) → ran_calls r (started ++ start ∷ []) ≡ ran_calls r started ++ cond (eqb r start.receiver) (start.message.call ∷ []) []
ran_more r [] start = refl
ran_more r (y ∷ started) start = go (eqb r y.receiver) (ran_more r started start)
  where
    more : List Call
    more = cond (eqb r start.receiver) (start.message.call ∷ []) []

    go : (b : Bool) → ran_calls r (started ++ start ∷ []) ≡ ran_calls r started ++ more →
        cond b (y.message.call ∷ ran_calls r (started ++ start ∷ [])) (ran_calls r (started ++ start ∷ [])) ≡ cond b (y.message.call ∷ ran_calls r started) (ran_calls r started) ++ more
    go true e = ap (λ l. y.message.call ∷ l) e
    go false e = e

module _ (effect : Effect) (calls : List Call) (pick : Pick) (m : Machine) (message : Message) (rest : List Message)
    (here : m.channel pick.sender pick.receiver ≡ message ∷ rest) (h : IsReached effect calls m) where
  abbrev r : ℕ
  r = pick.receiver

  abbrev ran : Ran
  ran = m.thread r

  abbrev items : List Item
  items = items_of (effect r ran.calls message.call)

  abbrev pub new_start : Start
  new_start = record { sender = pick.sender; receiver = r; message = message; sent = ran.sent }

  thread_reached : IsThread effect r (after_call ran message.call items)
  thread_reached = record {
    log = ap (λ l. l ++ lines items) (h.threads r).log ∙ (sym (lines-append (did effect r ran.calls) items) ∙ ap lines (sym (did_more effect r [] ran.calls message.call)));
    sent = ap (λ n. n + sends items) (h.threads r).sent ∙ (sym (sends-append (did effect r ran.calls) items) ∙ ap sends (sym (did_more effect r [] ran.calls message.call)));
  }

  -- a pick takes the head of its channel, and leaves the others
  head_picked : (s : Sender) (to : ℕ) → picked s to (m.started ++ new_start ∷ []) ++ without_head pick rest m.channel s to ≡ picked s to m.started ++ m.channel s to
  head_picked s to = ap (λ l. l ++ without_head pick rest m.channel s to) (picked_more s to m.started new_start) ∙ go (same_sender s pick.sender) (eqb to r) refl refl
    where
      go : (t b : Bool) → same_sender s pick.sender ≡ t → eqb to r ≡ b → (picked s to m.started ++ cond (t && b) (message ∷ []) []) ++ cond (t && b) rest (m.channel s to) ≡ picked s to m.started ++ m.channel s to
      go true true e1 e2 =
          let e : m.channel s to ≡ message ∷ rest = ap (λ x. m.channel x to) (same_sender_true s pick.sender e1) ∙ (ap (λ x. m.channel pick.sender x) (eqb-true to r e2) ∙ here) in
          append_assoc (picked s to m.started) (message ∷ []) rest ∙ ap (λ l. picked s to m.started ++ l) (sym e)
      go true false e1 e2 = ap (λ l. l ++ m.channel s to) (append-nil (picked s to m.started))
      go false true e1 e2 = ap (λ l. l ++ m.channel s to) (append-nil (picked s to m.started))
      go false false e1 e2 = ap (λ l. l ++ m.channel s to) (append-nil (picked s to m.started))

  abbrev after : Machine
  after = after_message effect pick message rest m

  channel_reached : (s : Sender) (to : ℕ) → picked s to after.started ++ after.channel s to ≡ sent_to effect calls after s to
  channel_reached Capture to =
      ap (λ l. picked Capture to after.started ++ l) (append-nil (without_head pick rest m.channel Capture to)) ∙ (head_picked Capture to ∙ h.channels Capture to)
  channel_reached (Thread from) to =
      sym (append_assoc (picked (Thread from) to after.started) (without_head pick rest m.channel (Thread from) to) (sent_by r ran.sent items (Thread from) to))
      ∙ (ap (λ l. l ++ sent_by r ran.sent items (Thread from) to) (head_picked (Thread from) to ∙ h.channels (Thread from) to) ∙ go (eqb from r) refl)
    where
      go : (b : Bool) → eqb from r ≡ b → mail to (letters 0 (did effect from (m.thread from).calls)) ++ cond b (mail to (letters ran.sent items)) []
          ≡ mail to (letters 0 (did effect from (cond b (after_call ran message.call items) (m.thread from)).calls))
      go false e = append-nil (mail to (letters 0 (did effect from (m.thread from).calls)))
      go true e =
          let at : from ≡ r = eqb-true from r e in
          let n : ran.sent ≡ 0 + sends (did effect r ran.calls) = (h.threads r).sent ∙ omega arith in
          ap (λ x. mail to (letters 0 (did effect x (m.thread x).calls)) ++ mail to (letters ran.sent items)) at
          ∙ (ap (λ k. mail to (letters 0 (did effect r ran.calls)) ++ mail to (letters k items)) n
          ∙ (sym (mail_cut to 0 (did effect r ran.calls) items)
          ∙ (ap (λ l. mail to (letters 0 l)) (sym (did_more effect r [] ran.calls message.call))
          ∙ ap (λ x. mail to (letters 0 (did effect x (ran.calls ++ message.call ∷ [])))) (sym at))))

  ran_reached : (x : ℕ) → (after.thread x).calls ≡ ran_calls x after.started
  ran_reached x = go (eqb x r) refl ∙ sym (ran_more x m.started new_start)
    where
      go : (b : Bool) → eqb x r ≡ b → (cond b (after_call ran message.call items) (m.thread x)).calls ≡ ran_calls x m.started ++ cond b (message.call ∷ []) []
      go true e =
          let at : x ≡ r = eqb-true x r e in
          ap (λ l. l ++ message.call ∷ []) (h.ran r ∙ ap (λ y. ran_calls y m.started) (sym at))
      go false e = h.ran x ∙ sym (append-nil (ran_calls x m.started))

  pub reached_more : IsReached effect calls after
  reached_more = record {
    threads = put_cases (λ x ran. IsThread effect x ran) m.thread r (after_call ran message.call items) thread_reached h.threads;
    channels = channel_reached;
    ran = ran_reached;
  }

pub reached_first : (effect : Effect) (calls : List Call) → IsReached effect calls (machine calls)
reached_first effect calls = record {
  threads = λ r. record { log = refl; sent = refl };
  channels = λ from to. go from to;
  ran = λ r. refl;
}
  where
    go : (from : Sender) (to : ℕ) → sent_first calls from to ≡ sent_to effect calls (machine calls) from to
    go Capture to = refl
    go (Thread from) to = refl

-- every history has this
pub reached : (effect : Effect) (calls : List Call) (picks : List Pick) (m : Machine) → run effect calls picks ≡ Some m → IsReached effect calls m
reached effect calls picks m e = keeps_all effect (IsReached effect calls) (picks_bound picks)
    (λ pick m message rest low here h. reached_more effect calls pick m message rest here h) picks (machine calls) m (omega arith) e (reached_first effect calls)

-- the counts of a history, summed over its threads
pub record IsCounted (effect : Effect) (bound : ℕ) (m : Machine) : Type 0 where
  pub picks : length m.started ≡ sum_below bound (λ r. length (m.thread r).calls)
  pub segments : m.segments ≡ sum_below bound (λ r. segments_from effect r [] (m.thread r).calls)

counted_more : (effect : Effect) (bound : ℕ) (pick : Pick) (m : Machine) (message : Message) (rest : List Message) → pick.receiver < bound → IsCounted effect bound m → IsCounted effect bound (after_message effect pick message rest m)
counted_more effect bound pick m message rest low h =
    let ran : Ran = m.thread pick.receiver in
    let new : Ran = after_call ran message.call (items_of (effect pick.receiver ran.calls message.call)) in
    let a = sum_put (λ (x : ℕ) (y : Ran). length y.calls) m.thread pick.receiver new bound low in
    let b = sum_put (λ (x : ℕ) (y : Ran). segments_from effect x [] y.calls) m.thread pick.receiver new bound low in
    let c : length (ran.calls ++ message.call ∷ []) ≡ length ran.calls + 1 = length_push ran.calls message.call in
    let d : length (m.started ++ record { sender = pick.sender; receiver = pick.receiver; message = message; sent = ran.sent } ∷ []) ≡ length m.started + 1 = length_push m.started _ in
    let e = segments_more effect pick.receiver [] ran.calls message.call in
    record { picks = omega (arith, a, c, d, h.picks); segments = omega (arith, b, e, h.segments) }

pub counted : (effect : Effect) (calls : List Call) (picks : List Pick) (bound : ℕ) (m : Machine) → picks_bound picks ≤ bound → run effect calls picks ≡ Some m → IsCounted effect bound m
counted effect calls picks bound m low e = keeps_all effect (IsCounted effect bound) bound
    (λ pick m message rest below here h. counted_more effect bound pick m message rest below h) picks (machine calls) m low e
    (record { picks = sym (sum_zero bound (λ r. 0) (λ r. refl)); segments = sym (sum_zero bound (λ r. 0) (λ r. refl)) })

-- the calls started are the picks
pub started_picks : (effect : Effect) (picks : List Pick) (m n : Machine) → run_from effect picks (Some m) ≡ Some n → map pick_of n.started ≡ map pick_of m.started ++ picks
started_picks effect [] m n e = let is : m ≡ n = cc in ap (λ (x : Machine). map pick_of x.started) (sym is) ∙ sym (append-nil (map pick_of m.started))
started_picks effect (pick ∷ more) m n e = go (λ x h. started_picks effect more x n h) (m.channel pick.sender pick.receiver) refl e
  where
    go : ((x : Machine) → run_from effect more (Some x) ≡ Some n → map pick_of n.started ≡ map pick_of x.started ++ more) → (channel : List Message) → m.channel pick.sender pick.receiver ≡ channel →
        run_from effect more (pick_from effect pick m channel) ≡ Some n → map pick_of n.started ≡ map pick_of m.started ++ pick ∷ more
    go again [] is h = absurd (run_none effect more n h)
    go again (message ∷ rest) is h =
        let start : Start = record { sender = pick.sender; receiver = pick.receiver; message = message; sent = (m.thread pick.receiver).sent } in
        again (after_message effect pick message rest m) h
        ∙ (ap (λ l. l ++ more) (map-append pick_of m.started (start ∷ [])) ∙ append_assoc (map pick_of m.started) (pick ∷ []) more)
