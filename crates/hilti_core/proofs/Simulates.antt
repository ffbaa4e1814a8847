-- Each event keeps the machine and the core comparable: the machine runs a call where the core starts it.
use Rattle.std.proofs.Common.{◌≡◌, ℕ, ◌+◌, suc, Bool, true, false, cond, List, [], ◌∷◌, ◌++◌, length, drop, Some, None, refl, ap, sym, ◌∙◌, arith, append_assoc, eqb}
use Rattle.std.specs.Prelude.{◌&&◌}
use Rattle.std.proofs.lemmas.List.{append-nil}
use Rattle.std.proofs.lemmas.Bool.{eqb-true}
use Rattle.hilti_tree.specs.declared.call.Call.{Call}
use Rattle.hilti_core.specs.declared.pieces.Item.{Item}
use Rattle.hilti_core.specs.declared.pieces.Segment.{Segment}
use Rattle.hilti_core.specs.Sending.{Sender, Sender.Capture, Sender.Thread, same_sender, Message, Letter, letters, sends, lines, mail, items_of, messages, Effect, put_at}
use Rattle.hilti_core.specs.Machine.{Ran, Machine, Pick, after_call, without_head, after_message, pick_from, pick_next}
use Rattle.hilti_core.specs.Core.{Waiting, Running, Resident, Core, arrivals, goes_on, begins, left, left_of, after_segment, comes_home}
use Rattle.hilti_core.specs.Atomic.{started_calls, from_sender, to_come, to_feed, ThreadCompares, Compares, SameDone}
use Rattle.hilti_core.proofs.Lists.{put_cases, put_both, same_sender_refl, same_sender_true, lines-append, sends-append, mail_cut, from_sender-append, from_sender-arrivals, drop_next}
use Rattle.hilti_core.proofs.Moves.{fed_core}

-- what a sender's channel still gets beside what waits in the inbox
abbrev pub to_post : Effect → Core → Sender → ℕ → List Message
to_post effect c Capture to = to_feed c to
to_post effect c (Thread from) to = to_come effect from (c.thread from) to

pub channel_is : (effect : Effect) (m : Machine) (c : Core) → Compares effect m c → (s : Sender) (to : ℕ) → m.channel s to ≡ from_sender s (c.inbox to) ++ to_post effect c s to
channel_is effect m c h Capture to = h.capture to
channel_is effect m c h (Thread from) to = h.channels from to

-- what comes from a sender after a post
pub posted_from : (s sender : Sender) (inbox : List Waiting) (n to : ℕ) (posted : List Letter) →
    from_sender s (inbox ++ arrivals sender n to posted) ≡ from_sender s inbox ++ cond (same_sender s sender) (mail to posted) []
posted_from s sender inbox n to posted = from_sender-append s inbox (arrivals sender n to posted) ∙ ap (λ l. from_sender s inbox ++ l) (from_sender-arrivals s sender n to posted)

-- a thread with no call in progress did the same both ways
pub same_done : (effect : Effect) (r : ℕ) (ran : Ran) (t : Resident) → ThreadCompares effect r ran t → t.running ≡ None → SameDone ran t
same_done effect r ran t h e =
    let none : left effect r t ≡ [] = ap (left_of effect r t.finished) e in
    record {
      calls = h.calls ∙ ap (started_calls t.finished) e;
      log = h.log ∙ (ap (λ l. t.log ++ lines (items_of l)) none ∙ append-nil t.log);
      sent = h.sent ∙ (ap (λ l. t.sent + sends (items_of l)) none ∙ omega arith);
    }

module _ (effect : Effect) (m : Machine) (c : Core) (h : Compares effect m c) where
  -- a call is fed
  fed_capture : (call : Call) (rest : List Call) → c.unfed ≡ call ∷ rest → (b : Bool) (front : List Message) →
      front ++ cond b (messages c.fed c.unfed) [] ≡ (front ++ cond b (record { call = call; place = c.fed } ∷ []) []) ++ cond b (messages (suc c.fed) rest) []
  fed_capture call rest e true front = ap (λ l. front ++ messages c.fed l) e ∙ sym (append_assoc front (record { call = call; place = c.fed } ∷ []) (messages (suc c.fed) rest))
  fed_capture call rest e false front = sym (append-nil (front ++ []))

  pub simulates_fed : (call : Call) (rest : List Call) → c.unfed ≡ call ∷ rest → Compares effect m (fed_core call rest c)
  simulates_fed call rest e =
      let letter : Letter = record { to = 0; message = record { call = call; place = c.fed } } in
      record {
        threads = h.threads;
        channels = λ from to. h.channels from to ∙ ap (λ l. l ++ to_come effect from (c.thread from) to)
            (sym (posted_from (Thread from) Capture (c.inbox to) (length c.posts) to (letter ∷ []) ∙ append-nil (from_sender (Thread from) (c.inbox to))));
        capture = λ to. h.capture to ∙ (fed_capture call rest e (eqb to 0) (from_sender Capture (c.inbox to))
            ∙ ap (λ l. l ++ cond (eqb to 0) (messages (suc c.fed) rest) []) (sym (posted_from Capture Capture (c.inbox to) (length c.posts) to (letter ∷ []))));
        started = h.started;
      }

  -- a thread goes on
  pub simulates_goes : (worker r : ℕ) → Compares effect m (goes_on worker r c)
  simulates_goes worker r =
      let t = c.thread r in
      record {
        threads = put_cases (λ x resident. ThreadCompares effect x (m.thread x) resident) c.thread r (record t { worker = Some worker })
            (record { calls = (h.threads r).calls; log = (h.threads r).log; sent = (h.threads r).sent }) h.threads;
        channels = put_cases (λ x resident. (to : ℕ) → m.channel (Thread x) to ≡ from_sender (Thread x) (c.inbox to) ++ to_come effect x resident to) c.thread r (record t { worker = Some worker })
            (h.channels r) h.channels;
        capture = h.capture;
        started = h.started;
      }

  -- a thread begins the call at the head of its inbox
  module _ (worker r : ℕ) (head : Waiting) (rest : List Waiting) (idle : (c.thread r).running ≡ None) (inbox : c.inbox r ≡ head ∷ rest) where
    abbrev pub the_pick : Pick
    the_pick = record { sender = head.sender; receiver = r }

    abbrev pub the_rest : List Message
    the_rest = from_sender head.sender rest ++ to_post effect c head.sender r

    abbrev pub the_items : List Item
    the_items = items_of (effect r (m.thread r).calls head.message.call)

    abbrev new_resident : Resident
    new_resident = record (c.thread r) { running = Some (record { call = head.message.call; given = 0 }); worker = Some worker }

    same : SameDone (m.thread r) (c.thread r)
    same = same_done effect r (m.thread r) (c.thread r) (h.threads r) idle

    pub head_here : m.channel head.sender r ≡ head.message ∷ the_rest
    head_here = channel_is effect m c h head.sender r ∙ (ap (λ l. from_sender head.sender l ++ to_post effect c head.sender r) inbox
        ∙ ap (λ b. cond b (head.message ∷ from_sender head.sender rest) (from_sender head.sender rest) ++ to_post effect c head.sender r) (same_sender_refl head.sender))

    pub picks_head : pick_next effect the_pick m ≡ Some (after_message effect the_pick head.message the_rest m)
    picks_head = ap (pick_from effect the_pick m) head_here

    -- the channels without the head are the inboxes without it
    headless : (s : Sender) (to : ℕ) → without_head the_pick the_rest m.channel s to ≡ from_sender s (put_at c.inbox r rest to) ++ to_post effect c s to
    headless s to = go (same_sender s head.sender) (eqb to r) refl refl
      where
        go : (t b : Bool) → same_sender s head.sender ≡ t → eqb to r ≡ b → cond (t && b) the_rest (m.channel s to) ≡ from_sender s (cond b rest (c.inbox to)) ++ to_post effect c s to
        go true true e1 e2 =
            let a : s ≡ head.sender = same_sender_true s head.sender e1 in
            let d : to ≡ r = eqb-true to r e2 in
            ap (λ x. from_sender x rest ++ to_post effect c x r) (sym a) ∙ ap (λ x. from_sender s rest ++ to_post effect c s x) (sym d)
        go false true e1 e2 = channel_is effect m c h s to ∙ (ap (λ l. from_sender s l ++ to_post effect c s to) (ap c.inbox (eqb-true to r e2) ∙ inbox)
            ∙ ap (λ b. cond b (head.message ∷ from_sender s rest) (from_sender s rest) ++ to_post effect c s to) e1)
        go true false e1 e2 = channel_is effect m c h s to
        go false false e1 e2 = channel_is effect m c h s to

    begun_thread : ThreadCompares effect r (after_call (m.thread r) head.message.call the_items) new_resident
    begun_thread =
        let e = same in
        record {
          calls = ap (λ l. l ++ head.message.call ∷ []) e.calls;
          log = ap (λ l. l ++ lines the_items) e.log ∙ ap (λ l. (c.thread r).log ++ lines (items_of (effect r l head.message.call))) e.calls;
          sent = ap (λ n. n + sends the_items) e.sent ∙ ap (λ l. (c.thread r).sent + sends (items_of (effect r l head.message.call))) e.calls;
        }

    -- what the call sends is what is to come of it
    begun_sends : (to : ℕ) → mail to (letters (m.thread r).sent the_items) ≡ to_come effect r new_resident to
    begun_sends to =
        ap (λ n. mail to (letters n the_items)) same.sent ∙ ap (λ l. mail to (letters (c.thread r).sent (items_of (effect r l head.message.call)))) same.calls

    nothing_came : (to : ℕ) → to_come effect r (c.thread r) to ≡ []
    nothing_came to = ap (λ x. mail to (letters (c.thread r).sent (items_of (left_of effect r (c.thread r).finished x)))) idle

    begun_channel : (from to : ℕ) (w front : List Message) → w ≡ front ++ to_come effect from (c.thread from) to →
        w ++ cond (eqb from r) (mail to (letters (m.thread r).sent the_items)) [] ≡ front ++ to_come effect from (put_at c.thread r new_resident from) to
    begun_channel from to w front is = go (eqb from r) refl
      where
        go : (b : Bool) → eqb from r ≡ b → w ++ cond b (mail to (letters (m.thread r).sent the_items)) [] ≡ front ++ to_come effect from (cond b new_resident (c.thread from)) to
        go false e = append-nil w ∙ is
        go true e =
            let at : from ≡ r = eqb-true from r e in
            let came : to_come effect from (c.thread from) to ≡ [] = ap (λ x. to_come effect x (c.thread x) to) at ∙ nothing_came to in
            let bare : w ≡ front = is ∙ (ap (λ l. front ++ l) came ∙ append-nil front) in
            ap (λ l. l ++ mail to (letters (m.thread r).sent the_items)) bare ∙ (ap (λ l. front ++ l) (begun_sends to) ∙ ap (λ x. front ++ to_come effect x new_resident to) (sym at))

    pub simulates_begins : Compares effect (after_message effect the_pick head.message the_rest m) (begins worker r head rest c)
    simulates_begins = record {
      threads = put_both (λ x ran resident. ThreadCompares effect x ran resident) m.thread c.thread r (after_call (m.thread r) head.message.call the_items) new_resident begun_thread h.threads;
      channels = λ from to. begun_channel from to (without_head the_pick the_rest m.channel (Thread from) to) (from_sender (Thread from) (put_at c.inbox r rest to)) (headless (Thread from) to);
      capture = λ to. append-nil (without_head the_pick the_rest m.channel Capture to) ∙ headless Capture to;
      started = ap (λ l. l ++ record { sender = head.sender; receiver = r; message = head.message; sent = (m.thread r).sent } ∷ []) h.started
          ∙ ap (λ n. c.started ++ record { sender = head.sender; receiver = r; message = head.message; sent = n } ∷ []) same.sent;
    }

  -- a thread comes home
  module _ (worker r : ℕ) (running : Running) (segment : Segment) (rest : List Segment) (runs : (c.thread r).running ≡ Some running)
      (cut : drop running.given (effect r (c.thread r).finished running.call) ≡ segment ∷ rest) where
    abbrev t : Resident
    t = c.thread r

    abbrev pub home_resident : Resident
    home_resident = after_segment t running segment rest

    pub left_before : left effect r t ≡ segment ∷ rest
    left_before = ap (left_of effect r t.finished) runs ∙ cut

    pub left_after : left effect r home_resident ≡ rest
    left_after = go rest cut
      where
        go : (more : List Segment) → drop running.given (effect r t.finished running.call) ≡ segment ∷ more → left effect r (after_segment t running segment more) ≡ more
        go [] e = refl
        go (x ∷ more) e = drop_next running.given (effect r t.finished running.call) segment (x ∷ more) e

    home_calls : started_calls home_resident.finished home_resident.running ≡ started_calls t.finished t.running
    home_calls = go rest ∙ sym (ap (started_calls t.finished) runs)
      where
        go : (more : List Segment) → started_calls (after_segment t running segment more).finished (after_segment t running segment more).running ≡ t.finished ++ running.call ∷ []
        go [] = refl
        go (x ∷ more) = refl

    home_thread : ThreadCompares effect r (m.thread r) home_resident
    home_thread = record {
      calls = (h.threads r).calls ∙ sym home_calls;
      log = (h.threads r).log ∙ (ap (λ l. t.log ++ lines (items_of l)) left_before
          ∙ (ap (λ l. t.log ++ l) (lines-append segment.items (items_of rest))
          ∙ (sym (append_assoc t.log (lines segment.items) (lines (items_of rest)))
          ∙ ap (λ l. home_resident.log ++ lines (items_of l)) (sym left_after))));
      sent = (h.threads r).sent ∙ (ap (λ l. t.sent + sends (items_of l)) left_before
          ∙ (let e : t.sent + sends (segment.items ++ items_of rest) ≡ (t.sent + sends segment.items) + sends (items_of rest) = omega (arith, sends-append segment.items (items_of rest)) in e
          ∙ ap (λ l. home_resident.sent + sends (items_of l)) (sym left_after)));
    }

    -- what was to come is what is posted now and what is still to come
    home_sends : (to : ℕ) → to_come effect r t to ≡ mail to (letters t.sent segment.items) ++ to_come effect r home_resident to
    home_sends to = ap (λ l. mail to (letters t.sent (items_of l))) left_before ∙ (mail_cut to t.sent segment.items (items_of rest)
        ∙ ap (λ l. mail to (letters t.sent segment.items) ++ mail to (letters home_resident.sent (items_of l))) (sym left_after))

    home_channel : (from to : ℕ) (channel front : List Message) → channel ≡ front ++ to_come effect from (c.thread from) to →
        channel ≡ (front ++ cond (eqb from r) (mail to (letters t.sent segment.items)) []) ++ to_come effect from (put_at c.thread r home_resident from) to
    home_channel from to channel front is = go (eqb from r) refl
      where
        go : (b : Bool) → eqb from r ≡ b → channel ≡ (front ++ cond b (mail to (letters t.sent segment.items)) []) ++ to_come effect from (cond b home_resident (c.thread from)) to
        go false e = is ∙ ap (λ l. l ++ to_come effect from (c.thread from) to) (sym (append-nil front))
        go true e =
            let at : from ≡ r = eqb-true from r e in
            is ∙ (ap (λ x. front ++ to_come effect x (c.thread x) to) at ∙ (ap (λ l. front ++ l) (home_sends to)
            ∙ (sym (append_assoc front (mail to (letters t.sent segment.items)) (to_come effect r home_resident to))
            ∙ ap (λ x. (front ++ mail to (letters t.sent segment.items)) ++ to_come effect x home_resident to) (sym at))))

    pub simulates_home : Compares effect m (comes_home worker r running segment rest c)
    simulates_home = record {
      threads = put_cases (λ x resident. ThreadCompares effect x (m.thread x) resident) c.thread r home_resident home_thread h.threads;
      channels = λ from to. home_channel from to (m.channel (Thread from) to) (from_sender (Thread from) (c.inbox to)) (h.channels from to)
          ∙ ap (λ l. l ++ to_come effect from (put_at c.thread r home_resident from) to) (sym (posted_from (Thread from) (Thread r) (c.inbox to) (length c.posts) to (letters t.sent segment.items)));
      capture = λ to. h.capture to ∙ ap (λ l. l ++ to_feed c to)
          (sym (posted_from Capture (Thread r) (c.inbox to) (length c.posts) to (letters t.sent segment.items) ∙ append-nil (from_sender Capture (c.inbox to))));
      started = h.started;
    }
