-- The order of one worker: its starts are the one-worker history.
use Rattle.std.proofs.Common.{◌≡◌, ℕ, ◌+◌, ◌-◌, ◌≤◌, zero, suc, Bool, true, false, cond, List, [], ◌∷◌, ◌++◌, length, drop, Option, Some, None, refl, ap, sym, ◌∙◌, subst, arith, append_assoc, eqb, length-append, ◌⊎◌, inl, inr}
use Rattle.std.specs.Prelude.{map}
use Rattle.std.specs.List.{All}
use Rattle.std.proofs.lemmas.List.{append-nil, length_push, map-append}
use Rattle.std.proofs.lemmas.List.Elements.{All-nil, All-cons, All-head, All-tail, All-weaker}
use Rattle.std.proofs.lemmas.Bool.{eqb-true, eq-eqb}
use Rattle.hilti_base.specs.declared.names.ThreadId.{ThreadId}
use Rattle.hilti_tree.specs.declared.call.Call.{Call}
use Rattle.hilti_core.specs.declared.pieces.Segment.{Segment}
use Rattle.hilti_core.specs.declared.event.Event.{Event}
use Rattle.hilti_core.specs.declared.event.Event.TheVariants.{Feed, Take, Put}
use Rattle.hilti_core.specs.Sending.{Sender, Sender.Capture, Sender.Thread, Message, Letter, letters, sends, items_of, Effect, put_at}
use Rattle.hilti_core.specs.Machine.{Start, Machine, Pick, pick_of, machine, after_message, run_from, run}
use Rattle.hilti_core.specs.Core.{Waiting, Running, Resident, Core, Post, core_of_none, arrivals, goes_on, begins, comes_home, after_segment, left, left_of, step, play, core, picks_of, starts}
use Rattle.hilti_core.specs.Atomic.{HasSeats, Compares, NothingRuns}
use Rattle.hilti_core.specs.One.{letters_of, picks_for, one_from, one}
use Rattle.hilti_core.specs.Schedule.{NoneSuspended, IsFirstPosted, ArrivedFirst, NobodyArrived, OneByOne, OneByOne.AtFirst, OneByOne.Feeding, OneByOne.Turn, IsOver, RunsOneByOne}
use Rattle.hilti_core.proofs.Lists.{put_cases, letters-append}
use Rattle.hilti_core.proofs.Moves.{Begins, Moves, Moves.Fed, Moves.Goes, Moves.Starts, Moves.Home, moves, fed_core}
use Rattle.hilti_core.proofs.Seats.{seats_step, seats_none}
use Rattle.hilti_core.proofs.Simulates.{simulates_fed, simulates_goes, simulates_begins, simulates_home, the_pick, the_rest, head_here, picks_head, same_done, left_before, left_after}
use Rattle.hilti_core.proofs.Atomic.{run_from-append, tied_first, call_atomic}
use Rattle.hilti_core.proofs.Posts.{posts_of}
use Rattle.hilti_core.proofs.Kept.{kept}
use Rattle.hilti_core.proofs.Journals.{front_legal, core_more}
use Rattle.hilti_core.proofs.Complete.{completes}

-- what waits for a thread of these posts, of which the first has this number
abbrev pub waiting_at : ℕ → ℕ → List Post → List Waiting
waiting_at to n [] = []
waiting_at to n (post ∷ more) = cond (eqb to post.letter.to) (record { sender = post.sender; message = post.letter.message; number = n } ∷ waiting_at to (suc n) more) (waiting_at to (suc n) more)

waiting_append : (to n : ℕ) (xs ys : List Post) → waiting_at to n (xs ++ ys) ≡ waiting_at to n xs ++ waiting_at to (n + length xs) ys
waiting_append to n [] ys = ap (λ k. waiting_at to k ys) (let e : n ≡ n + 0 = omega arith in e)
waiting_append to n (post ∷ xs) ys = go (eqb to post.letter.to)
    (waiting_append to (suc n) xs ys ∙ ap (λ k. waiting_at to (suc n) xs ++ waiting_at to k ys) (let e : suc n + length xs ≡ n + suc (length xs) = omega arith in e))
  where
    go : (b : Bool) → waiting_at to (suc n) (xs ++ ys) ≡ waiting_at to (suc n) xs ++ waiting_at to (n + length (post ∷ xs)) ys →
        cond b (record { sender = post.sender; message = post.letter.message; number = n } ∷ waiting_at to (suc n) (xs ++ ys)) (waiting_at to (suc n) (xs ++ ys))
        ≡ cond b (record { sender = post.sender; message = post.letter.message; number = n } ∷ waiting_at to (suc n) xs) (waiting_at to (suc n) xs) ++ waiting_at to (n + length (post ∷ xs)) ys
    go true e = ap (λ l. record { sender = post.sender; message = post.letter.message; number = n } ∷ l) e
    go false e = e

waiting_arrivals : (s : Sender) (n to : ℕ) (sent : List Letter) → arrivals s n to sent ≡ waiting_at to n (posts_of s sent)
waiting_arrivals s n to [] = refl
waiting_arrivals s n to (letter ∷ more) = go (eqb to letter.to) (waiting_arrivals s (suc n) to more)
  where
    first : Waiting
    first = record { sender = s; message = letter.message; number = n }

    go : (b : Bool) → arrivals s (suc n) to more ≡ waiting_at to (suc n) (posts_of s more) →
        cond b (first ∷ arrivals s (suc n) to more) (arrivals s (suc n) to more) ≡ cond b (first ∷ waiting_at to (suc n) (posts_of s more)) (waiting_at to (suc n) (posts_of s more))
    go true e = ap (λ l. first ∷ l) e
    go false e = e

waiting_high : (to n : ℕ) (posts : List Post) → All (λ (w : Waiting). n ≤ w.number) (waiting_at to n posts)
waiting_high to n [] = All-nil (λ (w : Waiting). n ≤ w.number)
waiting_high to n (post ∷ more) = go (eqb to post.letter.to)
    (All-weaker (λ (w : Waiting). suc n ≤ w.number) (λ (w : Waiting). n ≤ w.number) (λ w h. omega (arith, h)) (waiting_at to (suc n) more) (waiting_high to (suc n) more))
  where
    go : (b : Bool) → All (λ (w : Waiting). n ≤ w.number) (waiting_at to (suc n) more) →
        All (λ (w : Waiting). n ≤ w.number) (cond b (record { sender = post.sender; message = post.letter.message; number = n } ∷ waiting_at to (suc n) more) (waiting_at to (suc n) more))
    go true h = All-cons (λ (w : Waiting). n ≤ w.number) (record { sender = post.sender; message = post.letter.message; number = n }) (waiting_at to (suc n) more) (omega arith) h
    go false h = h

-- the receiver of the first post has it at the head of its inbox
waiting_here : (n : ℕ) (post : Post) (more : List Post) →
    waiting_at post.letter.to n (post ∷ more) ≡ record { sender = post.sender; message = post.letter.message; number = n } ∷ waiting_at post.letter.to (suc n) more
waiting_here n post more = ap (λ b. cond b (record { sender = post.sender; message = post.letter.message; number = n } ∷ waiting_at post.letter.to (suc n) more) (waiting_at post.letter.to (suc n) more))
    (eq-eqb post.letter.to post.letter.to refl)

-- the others' inboxes are those behind it
waiting_else : (to n : ℕ) (post : Post) (more : List Post) → ¬ (to ≡ post.letter.to) → waiting_at to n (post ∷ more) ≡ waiting_at to (suc n) more
waiting_else to n post more other = go (eqb to post.letter.to) refl
  where
    go : (b : Bool) → eqb to post.letter.to ≡ b → cond b (record { sender = post.sender; message = post.letter.message; number = n } ∷ waiting_at to (suc n) more) (waiting_at to (suc n) more) ≡ waiting_at to (suc n) more
    go true e = absurd (other (eqb-true to post.letter.to e))
    go false e = refl

-- the pick of a post
abbrev pub pick_of_post : Post → Pick
pick_of_post post = record { sender = post.sender; receiver = post.letter.to }

picks_posted : (r : ℕ) (sent : List Letter) → map pick_of_post (posts_of (Thread r) sent) ≡ picks_for r sent
picks_posted r [] = refl
picks_posted r (letter ∷ more) = ap (λ l. record { sender = Thread r; receiver = letter.to } ∷ l) (picks_posted r more)

abbrev pub capture_picks : List Call → List Pick
capture_picks calls = map (λ _. record { sender = Capture; receiver = 0 }) calls

-- the picks of what a thread still has to post
abbrev pub coming : Effect → ℕ → Resident → List Pick
coming effect r t = picks_for r (letters t.sent (items_of (left effect r t)))

-- a changed function at the number, and at others
pub put_here : {A : Type 0} (f : ℕ → A) (n : ℕ) (v : A) → put_at f n v n ≡ v
put_here f n v = ap (λ b. cond b v (f n)) (eq-eqb n n refl)

pub put_apart : {A : Type 0} (P : ℕ → A → Type 0) (f : ℕ → A) (n : ℕ) (v : A) → P n v → ((x : ℕ) → ¬ (x ≡ n) → P x (f x)) → (x : ℕ) → P x (put_at f n v x)
put_apart {A} P f n v here there x = go (eqb x n) refl
  where
    go : (b : Bool) → eqb x n ≡ b → P x (cond b v (f x))
    go true e = subst (λ y. P y v) (sym (eqb-true x n e)) here
    go false e = there x (λ is. let k : true ≡ false = sym (eq-eqb x n is) ∙ e in cc)

-- what holds of a core in this order: its posts are those started and those ahead, which wait; at most one thread has
-- a call in progress; and the one-worker history goes on from its starts with the posts ahead, the unfed calls and
-- what that call still sends
pub record InTurn (effect : Effect) (calls : List Call) (c : Core) : Type 0 where
  pub reached : Machine
  pub busy : ℕ
  pub done : List Post
  pub ahead : List Post
  pub split : c.posts ≡ done ++ ahead
  pub count : length c.started ≡ length done
  pub inboxes : (to : ℕ) → c.inbox to ≡ waiting_at to (length done) ahead
  pub others : (x : ℕ) → ¬ (x ≡ busy) → (c.thread x).running ≡ None
  pub compares : Compares effect reached c
  pub runs : run effect calls (map pick_of c.started) ≡ Some reached
  pub path : (extra : ℕ) → one effect calls (length c.started + extra) ≡
      map pick_of c.started ++ one_from effect extra (Some reached) (map pick_of_post ahead ++ (capture_picks c.unfed ++ coming effect busy (c.thread busy)))

module _ (effect : Effect) (calls : List Call) where
  at_first : InTurn effect calls (core_of_none calls)
  at_first = record {
    reached = machine calls;
    busy = 0;
    done = [];
    ahead = [];
    split = refl;
    count = refl;
    inboxes = λ to. refl;
    others = λ x other. refl;
    compares = (tied_first effect 0 calls).compares;
    runs = refl;
    path = λ extra. ap (one effect calls) (let e : 0 + extra ≡ extra = omega arith in e) ∙ ap (one_from effect extra (Some (machine calls))) (sym (append-nil (capture_picks calls)));
  }

  module _ (c : Core) (h : InTurn effect calls c) where
    -- what is posted waits behind those ahead
    posted : (s : Sender) (sent : List Letter) (to : ℕ) → c.inbox to ++ arrivals s (length c.posts) to sent ≡ waiting_at to (length h.done) (h.ahead ++ posts_of s sent)
    posted s sent to =
        let e : length c.posts ≡ length h.done + length h.ahead = ap length h.split ∙ length-append h.done h.ahead in
        ap (λ l. l ++ arrivals s (length c.posts) to sent) (h.inboxes to)
        ∙ (ap (λ l. waiting_at to (length h.done) h.ahead ++ l) (waiting_arrivals s (length c.posts) to sent ∙ ap (λ k. waiting_at to k (posts_of s sent)) e)
        ∙ sym (waiting_append to (length h.done) h.ahead (posts_of s sent)))

    more_posts : (s : Sender) (sent : List Letter) → c.posts ++ posts_of s sent ≡ h.done ++ (h.ahead ++ posts_of s sent)
    more_posts s sent = ap (λ l. l ++ posts_of s sent) h.split ∙ append_assoc h.done h.ahead (posts_of s sent)

    turn_fed : (call : Call) (rest : List Call) → c.unfed ≡ call ∷ rest → InTurn effect calls (fed_core call rest c)
    turn_fed call rest e =
        let letter : Letter = record { to = 0; message = record { call = call; place = c.fed } } in
        let came : List Pick = coming effect h.busy (c.thread h.busy) in
        let queue : map pick_of_post h.ahead ++ (capture_picks c.unfed ++ came) ≡ map pick_of_post (h.ahead ++ posts_of Capture (letter ∷ [])) ++ (capture_picks rest ++ came) =
        ap (λ l. map pick_of_post h.ahead ++ (capture_picks l ++ came)) e
        ∙ (sym (append_assoc (map pick_of_post h.ahead) (record { sender = Capture; receiver = 0 } ∷ []) (capture_picks rest ++ came))
        ∙ ap (λ l. l ++ (capture_picks rest ++ came)) (sym (map-append pick_of_post h.ahead (posts_of Capture (letter ∷ []))))) in
        record {
          reached = h.reached;
          busy = h.busy;
          done = h.done;
          ahead = h.ahead ++ posts_of Capture (letter ∷ []);
          split = more_posts Capture (letter ∷ []);
          count = h.count;
          inboxes = posted Capture (letter ∷ []);
          others = h.others;
          compares = simulates_fed effect h.reached c h.compares call rest e;
          runs = h.runs;
          path = λ extra. h.path extra ∙ ap (λ q. map pick_of c.started ++ one_from effect extra (Some h.reached) q) queue;
        }

    -- a thread with a call in progress is the busy one
    pub is_busy : (r : ℕ) (running : Running) → (c.thread r).running ≡ Some running → r ≡ h.busy
    is_busy r running runs = go (eqb r h.busy) refl
      where
        go : (b : Bool) → eqb r h.busy ≡ b → r ≡ h.busy
        go true e = eqb-true r h.busy e
        go false e = absurd (
            let other : ¬ (r ≡ h.busy) = λ is. let k : true ≡ false = sym (eq-eqb r h.busy is) ∙ e in cc in
            let l : Some running ≡ None = sym runs ∙ h.others r other in cc)

    turn_goes : (worker r : ℕ) → InTurn effect calls (goes_on worker r c)
    turn_goes worker r =
        let t : Resident = record (c.thread r) { worker = Some worker } in
        let same = put_cases (λ x u. coming effect x u ≡ coming effect x (c.thread x)) c.thread r t refl (λ x. refl) h.busy in
        record {
          reached = h.reached;
          busy = h.busy;
          done = h.done;
          ahead = h.ahead;
          split = h.split;
          count = h.count;
          inboxes = h.inboxes;
          others = put_cases (λ x u. ¬ (x ≡ h.busy) → u.running ≡ None) c.thread r t (h.others r) h.others;
          compares = simulates_goes effect h.reached c h.compares worker r;
          runs = h.runs;
          path = λ extra. h.path extra ∙ ap (λ l. map pick_of c.started ++ one_from effect extra (Some h.reached) (map pick_of_post h.ahead ++ (capture_picks c.unfed ++ l))) (sym same);
        }

    -- a thread comes home
    module _ (worker r : ℕ) (running : Running) (segment : Segment) (rest : List Segment) (runs : (c.thread r).running ≡ Some running)
        (cut : drop running.given (effect r (c.thread r).finished running.call) ≡ segment ∷ rest) (fed : c.unfed ≡ []) where
      abbrev t : Resident
      t = c.thread r

      abbrev after : Resident
      after = after_segment t running segment rest

      abbrev sent : List Letter
      sent = letters t.sent segment.items

      comes_cut : coming effect r t ≡ picks_for r sent ++ coming effect r after
      comes_cut =
          ap (λ l. picks_for r (letters t.sent (items_of l))) (left_before effect h.reached c h.compares worker r running segment rest runs cut)
          ∙ (ap (picks_for r) (letters-append t.sent segment.items (items_of rest))
          ∙ (map-append (λ letter. record { sender = Thread r; receiver = letter.to }) sent (letters (t.sent + sends segment.items) (items_of rest))
          ∙ ap (λ l. picks_for r sent ++ picks_for r (letters after.sent (items_of l))) (sym (left_after effect h.reached c h.compares worker r running segment rest runs cut))))

      home_queue : map pick_of_post h.ahead ++ (capture_picks c.unfed ++ coming effect h.busy (c.thread h.busy))
          ≡ map pick_of_post (h.ahead ++ posts_of (Thread r) sent) ++ (capture_picks c.unfed ++ coming effect h.busy (put_at c.thread r after h.busy))
      home_queue =
          let is : r ≡ h.busy = is_busy r running runs in
          ap (λ x. map pick_of_post h.ahead ++ (capture_picks c.unfed ++ coming effect x (c.thread x))) (sym is)
          ∙ (ap (λ l. map pick_of_post h.ahead ++ (capture_picks l ++ coming effect r t)) fed
          ∙ (ap (λ l. map pick_of_post h.ahead ++ l) comes_cut
          ∙ (sym (append_assoc (map pick_of_post h.ahead) (picks_for r sent) (coming effect r after))
          ∙ (ap (λ l. (map pick_of_post h.ahead ++ l) ++ coming effect r after) (sym (picks_posted r sent))
          ∙ (ap (λ l. l ++ coming effect r after) (sym (map-append pick_of_post h.ahead (posts_of (Thread r) sent)))
          ∙ (ap (λ u. map pick_of_post (h.ahead ++ posts_of (Thread r) sent) ++ coming effect r u) (sym (put_here c.thread r after))
          ∙ (ap (λ l. map pick_of_post (h.ahead ++ posts_of (Thread r) sent) ++ (capture_picks l ++ coming effect r (put_at c.thread r after r))) (sym fed)
          ∙ ap (λ x. map pick_of_post (h.ahead ++ posts_of (Thread r) sent) ++ (capture_picks c.unfed ++ coming effect x (put_at c.thread r after x))) is)))))))

      turn_home : InTurn effect calls (comes_home worker r running segment rest c)
      turn_home = record {
        reached = h.reached;
        busy = h.busy;
        done = h.done;
        ahead = h.ahead ++ posts_of (Thread r) sent;
        split = more_posts (Thread r) sent;
        count = h.count;
        inboxes = posted (Thread r) sent;
        others = put_cases (λ x u. ¬ (x ≡ h.busy) → u.running ≡ None) c.thread r after (λ other. absurd (other (is_busy r running runs))) h.others;
        compares = simulates_home effect h.reached c h.compares worker r running segment rest runs cut;
        runs = h.runs;
        path = λ extra. h.path extra ∙ ap (λ q. map pick_of c.started ++ one_from effect extra (Some h.reached) q) home_queue;
      }

    -- with no call in progress, nothing is to come
    nothing_comes : NothingRuns c → (r : ℕ) → coming effect r (c.thread r) ≡ []
    nothing_comes still r = ap (λ o. picks_for r (letters (c.thread r).sent (items_of (left_of effect r (c.thread r).finished o)))) (still r)

    -- the thread whose call was posted first is that of the first post ahead
    module _ (still : NothingRuns c) (fed : c.unfed ≡ []) (r : ℕ) (is : IsFirstPosted c r) where
      abbrev n : ℕ
      n = length h.done

      record IsHead (post : Post) (more : List Post) : Type 0 where
        opens : h.ahead ≡ post ∷ more
        receiver : post.letter.to ≡ r
        head : is.head ≡ record { sender = post.sender; message = post.letter.message; number = n }
        rest : is.rest ≡ waiting_at r (suc n) more

      first_open : (post : Post) × (more : List Post) × IsHead post more
      first_open = go h.ahead refl
        where
          none : (l : List Waiting) → c.inbox r ≡ l → ¬ (l ≡ [])
          none l e f = let k : is.head ∷ is.rest ≡ [] = sym is.inbox ∙ (e ∙ f) in cc

          heads : (x y : Waiting) (xs ys : List Waiting) → x ∷ xs ≡ y ∷ ys → x ≡ y
          heads x y xs ys e = cc

          tails : (x y : Waiting) (xs ys : List Waiting) → x ∷ xs ≡ y ∷ ys → xs ≡ ys
          tails x y xs ys e = cc

          go : (ahead : List Post) → h.ahead ≡ ahead → (post : Post) × (more : List Post) × IsHead post more
          go [] e = absurd (none (waiting_at r n h.ahead) (h.inboxes r) (ap (waiting_at r n) e))
          go (post ∷ more) e = at (eqb post.letter.to r) refl
            where
              w : Waiting
              w = record { sender = post.sender; message = post.letter.message; number = n }

              here : c.inbox post.letter.to ≡ record { sender = post.sender; message = post.letter.message; number = n } ∷ waiting_at post.letter.to (suc n) more
              here = h.inboxes post.letter.to ∙ (ap (waiting_at post.letter.to n) e ∙ waiting_here n post more)

              low : is.head.number ≤ n
              low = All-head (λ (waiting : Waiting). is.head.number ≤ waiting.number) (record { sender = post.sender; message = post.letter.message; number = n }) (waiting_at post.letter.to (suc n) more)
                  (subst (All (λ (waiting : Waiting). is.head.number ≤ waiting.number)) here (is.first post.letter.to))

              at : (b : Bool) → eqb post.letter.to r ≡ b → (post : Post) × (more : List Post) × IsHead post more
              at true t =
                  let to : post.letter.to ≡ r = eqb-true post.letter.to r t in
                  let both : is.head ∷ is.rest ≡ record { sender = post.sender; message = post.letter.message; number = n } ∷ waiting_at r (suc n) more =
                  sym is.inbox ∙ (ap c.inbox (sym to) ∙ (here ∙ ap (λ x. record { sender = post.sender; message = post.letter.message; number = n } ∷ waiting_at x (suc n) more) to)) in (
                    post,
                    more,
                    record {
                      opens = e;
                      receiver = to;
                      head = heads is.head (record { sender = post.sender; message = post.letter.message; number = n }) is.rest (waiting_at r (suc n) more) both;
                      rest = tails is.head (record { sender = post.sender; message = post.letter.message; number = n }) is.rest (waiting_at r (suc n) more) both;
                    },
                  )
              at false t =
                  let other : ¬ (r ≡ post.letter.to) = λ same. let k : true ≡ false = sym (eq-eqb post.letter.to r (sym same)) ∙ t in cc in
                  let behind : is.head ∷ is.rest ≡ waiting_at r (suc n) more = sym is.inbox ∙ (h.inboxes r ∙ (ap (waiting_at r n) e ∙ waiting_else r n post more other)) in
                  let high : suc n ≤ is.head.number = All-head (λ (w : Waiting). suc n ≤ w.number) is.head is.rest (subst (All (λ (w : Waiting). suc n ≤ w.number)) (sym behind) (waiting_high r (suc n) more)) in
                  absurd (omega (arith, low, high))

      module _ (worker : ℕ) where
        abbrev post : Post
        post = first_open.0

        abbrev more : List Post
        more = first_open.1

        abbrev found : IsHead post more
        found = first_open.2

        abbrev m : Machine
        m = h.reached

        abbrev pick : Pick
        pick = the_pick effect m c h.compares worker r is.head is.rest (still r) is.inbox

        abbrev left_there : List Message
        left_there = the_rest effect m c h.compares worker r is.head is.rest (still r) is.inbox

        abbrev then : Machine
        then = after_message effect pick is.head.message left_there m

        abbrev new : Start
        new = record { sender = is.head.sender; receiver = r; message = is.head.message; sent = (c.thread r).sent }

        abbrev begun : Resident
        begun = record (c.thread r) { running = Some (record { call = is.head.message.call; given = 0 }); worker = Some worker }

        pick_is : pick_of_post post ≡ pick
        pick_is = ap (λ (x : ℕ). record { sender = post.sender; receiver = x }) found.receiver ∙ ap (λ (w : Waiting). record { sender = w.sender; receiver = r }) (sym found.head)

        long : length (h.done ++ post ∷ []) ≡ suc n
        long = omega (arith, length_push h.done post)

        -- what the call sends is what is to come of it
        begun_comes : picks_for r (letters (m.thread r).sent (items_of (effect r (m.thread r).calls is.head.message.call))) ≡ coming effect r begun
        begun_comes =
            let same = same_done effect r (m.thread r) (c.thread r) (h.compares.threads r) (still r) in
            ap (λ k. picks_for r (letters k (items_of (effect r (m.thread r).calls is.head.message.call)))) same.sent
            ∙ ap (λ l. picks_for r (letters (c.thread r).sent (items_of (effect r l is.head.message.call)))) same.calls

        -- the queue begins with this call
        queue_is : map pick_of_post h.ahead ++ (capture_picks c.unfed ++ coming effect h.busy (c.thread h.busy)) ≡ pick ∷ map pick_of_post more
        queue_is =
            ap (λ l. map pick_of_post h.ahead ++ (capture_picks l ++ coming effect h.busy (c.thread h.busy))) fed
            ∙ (ap (λ l. map pick_of_post h.ahead ++ l) (nothing_comes still h.busy)
            ∙ (append-nil (map pick_of_post h.ahead)
            ∙ (ap (map pick_of_post) found.opens ∙ ap (λ p. p ∷ map pick_of_post more) pick_is)))

        queue_next : (extra : ℕ) → one_from effect (suc extra) (Some m) (pick ∷ map pick_of_post more)
            ≡ pick ∷ one_from effect extra (Some then) (map pick_of_post more ++ (capture_picks c.unfed ++ coming effect r (put_at c.thread r begun r)))
        queue_next extra =
            ap (λ o. pick ∷ one_from effect extra o (map pick_of_post more ++ picks_for r (letters_of effect pick m (m.channel is.head.sender r)))) (picks_head effect m c h.compares worker r is.head is.rest (still r) is.inbox)
            ∙ (ap (λ l. pick ∷ one_from effect extra (Some then) (map pick_of_post more ++ picks_for r (letters_of effect pick m l))) (head_here effect m c h.compares worker r is.head is.rest (still r) is.inbox)
            ∙ (ap (λ l. pick ∷ one_from effect extra (Some then) (map pick_of_post more ++ l)) (begun_comes ∙ ap (coming effect r) (sym (put_here c.thread r begun)))
            ∙ ap (λ l. pick ∷ one_from effect extra (Some then) (map pick_of_post more ++ (capture_picks l ++ coming effect r (put_at c.thread r begun r)))) (sym fed)))

        begun_path : (extra : ℕ) → one effect calls (length (c.started ++ new ∷ []) + extra)
            ≡ map pick_of (c.started ++ new ∷ []) ++ one_from effect extra (Some then) (map pick_of_post more ++ (capture_picks c.unfed ++ coming effect r (put_at c.thread r begun r)))
        begun_path extra =
            let count : length (c.started ++ new ∷ []) + extra ≡ length c.started + suc extra = omega (arith, length_push c.started new) in
            let rest : List Pick = one_from effect extra (Some then) (map pick_of_post more ++ (capture_picks c.unfed ++ coming effect r (put_at c.thread r begun r))) in
            ap (one effect calls) count
            ∙ (h.path (suc extra)
            ∙ (ap (λ q. map pick_of c.started ++ one_from effect (suc extra) (Some m) q) queue_is
            ∙ (ap (λ l. map pick_of c.started ++ l) (queue_next extra)
            ∙ (sym (append_assoc (map pick_of c.started) (pick ∷ []) rest)
            ∙ ap (λ l. l ++ rest) (sym (map-append pick_of c.started (new ∷ [])))))))

        begun_inboxes : (to : ℕ) → put_at c.inbox r is.rest to ≡ waiting_at to (length (h.done ++ post ∷ [])) more
        begun_inboxes = put_apart (λ to inbox. inbox ≡ waiting_at to (length (h.done ++ post ∷ [])) more) c.inbox r is.rest
            (found.rest ∙ ap (λ k. waiting_at r k more) (sym long))
            (λ to other. h.inboxes to ∙ (ap (waiting_at to n) found.opens ∙ (waiting_else to n post more (λ e. other (e ∙ found.receiver)) ∙ ap (λ k. waiting_at to k more) (sym long))))

        turn_begins : InTurn effect calls (begins worker r is.head is.rest c)
        turn_begins = record {
          reached = then;
          busy = r;
          done = h.done ++ post ∷ [];
          ahead = more;
          split = h.split ∙ (ap (λ l. h.done ++ l) found.opens ∙ sym (append_assoc h.done (post ∷ []) more));
          count = omega (arith, h.count, length_push c.started new, long);
          inboxes = begun_inboxes;
          others = put_cases (λ x u. ¬ (x ≡ r) → u.running ≡ None) c.thread r begun (λ other. absurd (other refl)) (λ x other. still x);
          compares = simulates_begins effect m c h.compares worker r is.head is.rest (still r) is.inbox;
          runs = ap (λ l. run effect calls l) (map-append pick_of c.started (new ∷ []))
              ∙ (run_from-append effect (map pick_of c.started) (pick ∷ []) (Some (machine calls))
              ∙ (ap (run_from effect (pick ∷ [])) h.runs ∙ ap (run_from effect []) (picks_head effect m c h.compares worker r is.head is.rest (still r) is.inbox)));
          path = begun_path;
        }

-- nothing is out at any worker
abbrev pub AllHome : Core → Type 0
AllHome c = (worker : ℕ) → c.out worker ≡ None

-- a core between turns
pub record Between (effect : Effect) (calls : List Call) (c : Core) : Type 0 where
  pub turn : InTurn effect calls c
  pub seats : HasSeats c.thread c.out
  pub home : AllHome c

pub nothing_runs : (c : Core) → HasSeats c.thread c.out → AllHome c → NoneSuspended c → NothingRuns c
nothing_runs c seats home none r = go (c.thread r).running (c.thread r).worker refl refl
  where
    go : (running : Option Running) (worker : Option ℕ) → (c.thread r).running ≡ running → (c.thread r).worker ≡ worker → (c.thread r).running ≡ None
    go None worker a b = a
    go (Some running) None a b = absurd (none r (record { running = running; runs = a; home = b }))
    go (Some running) (Some worker) a b = absurd (let k : Some r ≡ None = sym (seats.sits r worker b) ∙ home worker in cc)

-- with nothing in progress nobody is suspended
none_runs : (c : Core) (r : ℕ) (running : Running) → (c.thread r).running ≡ None → (c.thread r).running ≡ Some running → ⊥
none_runs c r running a b = let k : None ≡ Some running = sym a ∙ b in cc

pub taken : (effect : Effect) (calls : List Call) (limit : ℕ) (c d : Core) (event : Event) (worker : ℕ) (thread : ThreadId) → event ≡ Take worker thread → Moves effect limit c d event →
    Between effect calls c → c.unfed ≡ [] → ArrivedFirst c thread.n → InTurn effect calls d × (d.unfed ≡ []) × (d.out ≡ put_at c.out worker (Some thread.n))
taken effect calls limit c d event worker thread is_take move h fed first = go event is_take move
  where
    same_take : (w v : ℕ) (x y : ThreadId) → Take w x ≡ Take v y → (w ≡ v) × (x ≡ y)
    same_take w v x y e = (cc, cc)

    Result : Core → Type 0
    Result x = InTurn effect calls x × (x.unfed ≡ []) × (x.out ≡ put_at c.out worker (Some thread.n))

    -- the call at the head of the inbox, by the head that was posted first
    starts : (w : ℕ) (x : ThreadId) (head : Waiting) (rest : List Waiting) → Begins limit c w x.n head rest d → w ≡ worker → x ≡ thread → ArrivedFirst c thread.n → Result d
    starts w x head rest is a b (inl suspended) = absurd (none_runs c thread.n suspended.suspended.running (subst (λ (y : ThreadId). (c.thread y.n).running ≡ None) b is.runs) suspended.suspended.runs)
    starts w x head rest is a b (inr (none, posted)) =
        let still = nothing_runs c h.seats h.home none in
        let both : posted.head ∷ posted.rest ≡ head ∷ rest = sym posted.inbox ∙ (ap (λ (y : ThreadId). c.inbox y.n) (sym b) ∙ is.inbox) in
        let gives : d ≡ begins worker thread.n posted.head posted.rest c = is.gives ∙ same_begin both in
        subst Result (sym gives) (turn_begins effect calls c h.turn still fed thread.n posted worker, fed, refl)
      where
        heads : (x y : Waiting) (xs ys : List Waiting) → x ∷ xs ≡ y ∷ ys → x ≡ y
        heads x y xs ys e = cc

        tails : (x y : Waiting) (xs ys : List Waiting) → x ∷ xs ≡ y ∷ ys → xs ≡ ys
        tails x y xs ys e = cc

        same_begin : posted.head ∷ posted.rest ≡ head ∷ rest → begins w x.n head rest c ≡ begins worker thread.n posted.head posted.rest c
        same_begin e = ap (λ k. begins k x.n head rest c) a ∙ (ap (λ (y : ThreadId). begins worker y.n head rest c) b
            ∙ (ap (λ y. begins worker thread.n y rest c) (sym (heads posted.head head posted.rest rest e)) ∙ ap (λ l. begins worker thread.n posted.head l c) (sym (tails posted.head head posted.rest rest e))))

    go : (event : Event) → event ≡ Take worker thread → Moves effect limit c d event → Result d
    go Feed e move = absurd cc
    go (Put w) e move = absurd cc
    go (Take w x) e (Goes v y running is) =
        let same = same_take v worker y thread e in
        let gives : d ≡ goes_on worker thread.n c = is.gives ∙ (ap (λ k. goes_on k y.n c) same.0 ∙ ap (λ (z : ThreadId). goes_on worker z.n c) same.1) in
        subst Result (sym gives) (turn_goes effect calls c h.turn worker thread.n, fed, refl)
    go (Take w x) e (Starts v y head rest is) = let same = same_take v worker y thread e in starts v y head rest is same.0 same.1 first

put_back : (effect : Effect) (calls : List Call) (limit : ℕ) (b d : Core) (event : Event) (worker : ℕ) → event ≡ Put worker → Moves effect limit b d event →
    InTurn effect calls b → b.unfed ≡ [] → InTurn effect calls d × (d.out ≡ put_at b.out worker None)
put_back effect calls limit b d event worker is_put move h fed = go event is_put move
  where
    same_put : (w v : ℕ) → Put w ≡ Put v → w ≡ v
    same_put w v e = cc

    Result : Core → Type 0
    Result x = InTurn effect calls x × (x.out ≡ put_at b.out worker None)

    go : (event : Event) → event ≡ Put worker → Moves effect limit b d event → Result d
    go Feed e move = absurd cc
    go (Take w x) e move = absurd cc
    go (Put w) e (Home v r running segment rest is) =
        let gives : d ≡ comes_home worker r running segment rest b = is.gives ∙ ap (λ k. comes_home k r running segment rest b) (same_put v worker e) in
        subst Result (sym gives) (turn_home effect calls b h worker r running segment rest is.runs is.left fed, refl)

fed_by : (effect : Effect) (calls : List Call) (limit : ℕ) (c d : Core) (event : Event) → event ≡ Feed → Moves effect limit c d event → Between effect calls c → InTurn effect calls d × (d.out ≡ c.out)
fed_by effect calls limit c d event is_feed move h = go event is_feed move
  where
    Result : Core → Type 0
    Result x = InTurn effect calls x × (x.out ≡ c.out)

    go : (event : Event) → event ≡ Feed → Moves effect limit c d event → Result d
    go Feed e (Fed call rest is) = subst Result (sym is.gives) (turn_fed effect calls c h.turn call rest is.unfed, refl)
    go (Take w x) e move = absurd cc
    go (Put w) e move = absurd cc

some_is : {A : Type 0} (x y : A) → Some x ≡ Some y → x ≡ y
some_is x y e = cc

-- a turn leaves nothing out
home_again : (c b d : Core) (worker : ℕ) (r : Option ℕ) → AllHome c → b.out ≡ put_at c.out worker r → d.out ≡ put_at b.out worker None → AllHome d
home_again c b d worker r home first second x = ap (λ f. f x) second ∙ (ap (λ (f : ℕ → Option ℕ). put_at f worker None x) first ∙ go (eqb x worker))
  where
    go : (t : Bool) → cond t None (cond t r (c.out x)) ≡ None
    go true = refl
    go false = home x

-- what holds of all cores in this order
pub between : (effect : Effect) (calls : List Call) (limit : ℕ) (c : Core) → OneByOne effect calls limit c → Between effect calls c
between effect calls limit x (AtFirst c is) = subst (Between effect calls) (sym is) (record { turn = at_first effect calls; seats = seats_none calls; home = λ worker. refl })
between effect calls limit x (Feeding c d way e) =
    let h = between effect calls limit c way in
    let move = moves effect limit Feed c d e in
    let fed = fed_by effect calls limit c d Feed refl move h in
    record { turn = fed.0; seats = seats_step effect limit c d Feed move h.seats; home = λ worker. ap (λ f. f worker) fed.1 ∙ h.home worker }
between effect calls limit x (Turn c d worker thread way fed first e) =
    let h = between effect calls limit c way in
    let take : Event = Take worker thread in
    let put : Event = Put worker in
    let front = front_legal effect limit (put ∷ []) (step effect limit take c) d e in
    let b : Core = front.0 in
    let back = front_legal effect limit [] (step effect limit put b) d front.2 in
    let one = moves effect limit take c b front.1 in
    let two = moves effect limit put b d (back.1 ∙ back.2) in
    let out = taken effect calls limit c b take worker thread refl one h fed first in
    let again = put_back effect calls limit b d put worker refl two out.0 out.1 in
    record {
      turn = again.0;
      seats = seats_step effect limit b d put two (seats_step effect limit c b take one h.seats);
      home = home_again c b d worker (Some thread.n) h.home out.2 again.1;
    }

one_from_nil : (effect : Effect) (limit : ℕ) (m : Machine) → one_from effect limit (Some m) [] ≡ []
one_from_nil effect zero m = refl
one_from_nil effect (suc limit) m = refl

module _ (effect : Effect) (calls : List Call) (limit : ℕ) (c : Core) (h : Between effect calls c) (within : length c.started ≤ limit) where
  abbrev turn : InTurn effect calls c
  turn = h.turn

  so_far : map pick_of c.started ≡ one effect calls (length c.started)
  so_far = sym (append-nil (map pick_of c.started)) ∙ (sym (turn.path 0) ∙ ap (one effect calls) (let e : length c.started + 0 ≡ length c.started = omega arith in e))

  -- where no call waits there are no posts ahead
  none_ahead : ((to : ℕ) → c.inbox to ≡ []) → turn.ahead ≡ []
  none_ahead none = go turn.ahead refl
    where
      go : (posts : List Post) → turn.ahead ≡ posts → turn.ahead ≡ []
      go [] e = e
      go (post ∷ more) e = absurd (
          let k = sym (none post.letter.to) ∙ (turn.inboxes post.letter.to ∙ (ap (waiting_at post.letter.to (length turn.done)) e ∙ waiting_here (length turn.done) post more)) in
          let l : [] ≡ record { sender = post.sender; message = post.letter.message; number = length turn.done } ∷ waiting_at post.letter.to (suc (length turn.done)) more = k in cc)

  ends : IsOver limit c → map pick_of c.started ≡ one effect calls limit
  ends over = go over.no_more
    where
      still : NothingRuns c
      still = nothing_runs c h.seats h.home over.suspended

      go : ((to : ℕ) → c.inbox to ≡ []) ⊎ (limit ≤ length c.started) → map pick_of c.started ≡ one effect calls limit
      go (inr full) = so_far ∙ ap (one effect calls) (let e : length c.started ≡ limit = omega (arith, within, full) in e)
      go (inl none) =
          let extra : ℕ = limit - length c.started in
          let e : length c.started + extra ≡ limit = omega (arith, within) in
          let queue : map pick_of_post turn.ahead ++ (capture_picks c.unfed ++ coming effect turn.busy (c.thread turn.busy)) ≡ [] =
          ap (λ l. map pick_of_post l ++ (capture_picks c.unfed ++ coming effect turn.busy (c.thread turn.busy))) (none_ahead none)
          ∙ (ap (λ l. capture_picks l ++ coming effect turn.busy (c.thread turn.busy)) over.unfed ∙ nothing_comes effect calls c turn still turn.busy) in
          sym (append-nil (map pick_of c.started))
          ∙ (ap (λ l. map pick_of c.started ++ l) (sym (one_from_nil effect extra turn.reached))
          ∙ (ap (λ q. map pick_of c.started ++ one_from effect extra (Some turn.reached) q) (sym queue)
          ∙ (sym (turn.path extra) ∙ ap (one effect calls) e)))

  -- before the end somebody arrived first
  pub first_of : NobodyArrived c ⊎ ((r : ℕ) × ArrivedFirst c r)
  first_of = by (c.thread turn.busy).running (c.thread turn.busy).worker refl refl
    where
      waits : NothingRuns c → (posts : List Post) → turn.ahead ≡ posts → NobodyArrived c ⊎ ((r : ℕ) × ArrivedFirst c r)
      waits still [] e = inl (record {
        suspended = λ r is. none_runs c r is.running (still r) is.runs;
        inboxes = λ to. turn.inboxes to ∙ ap (waiting_at to (length turn.done)) e;
      })
      waits still (post ∷ more) e = inr (
        post.letter.to,
        inr (
          λ r is. none_runs c r is.running (still r) is.runs,
          record {
            head = record { sender = post.sender; message = post.letter.message; number = length turn.done };
            rest = waiting_at post.letter.to (suc (length turn.done)) more;
            inbox = turn.inboxes post.letter.to ∙ (ap (waiting_at post.letter.to (length turn.done)) e ∙ waiting_here (length turn.done) post more);
            first = λ x. subst (All (λ (w : Waiting). length turn.done ≤ w.number)) (sym (turn.inboxes x)) (waiting_high x (length turn.done) turn.ahead);
          },
        ),
      )

      still : (c.thread turn.busy).running ≡ None → NothingRuns c
      still idle r = go (eqb r turn.busy) refl
        where
          go : (b : Bool) → eqb r turn.busy ≡ b → (c.thread r).running ≡ None
          go true e = ap (λ x. (c.thread x).running) (eqb-true r turn.busy e) ∙ idle
          go false e = turn.others r (λ is. let k : true ≡ false = sym (eq-eqb r turn.busy is) ∙ e in cc)

      by : (running : Option Running) (worker : Option ℕ) → (c.thread turn.busy).running ≡ running → (c.thread turn.busy).worker ≡ worker → NobodyArrived c ⊎ ((r : ℕ) × ArrivedFirst c r)
      by None worker a b = waits (still a) turn.ahead refl
      by (Some running) (Some worker) a b = absurd (let k : Some turn.busy ≡ None = sym (h.seats.sits turn.busy worker b) ∙ h.home worker in cc)
      by (Some running) None a b = inr (
        turn.busy,
        inl (record {
          suspended = record { running = running; runs = a; home = b };
          least = λ x is. let same : x ≡ turn.busy = is_busy effect calls c turn x is.running is.runs in omega (arith, same);
        }),
      )

pub one_by_one : (effect : Effect) (calls : List Call) (limit : ℕ) (journal : List Event) → RunsOneByOne effect calls limit journal
one_by_one effect calls limit journal c e way =
    let h = between effect calls limit c way in
    let within : length c.started ≤ limit = (kept effect calls limit journal c e).within in
    let picks : starts effect calls limit journal ≡ map pick_of c.started = ap picks_of e in
    let atomic = call_atomic effect calls limit journal c e in
    let same : IsOver limit c → starts effect calls limit journal ≡ one effect calls limit = λ over. picks ∙ ends effect calls limit c h within over in
    record {
      so_far = picks ∙ so_far effect calls limit c h within;
      ends = same;
      outcome = λ over. let still = nothing_runs c h.seats h.home over.suspended in (
        atomic.0,
        record {
          runs = ap (run effect calls) (sym (same over)) ∙ atomic.1;
          threads = atomic.2.threads still;
          segments = atomic.2.segments still;
          complete = (completes effect calls limit journal c atomic.0 e atomic.1).still still;
        },
      );
      alone = λ r x a b. is_busy effect calls c h.turn r a.running a.runs ∙ sym (is_busy effect calls c h.turn x b.running b.runs);
      first = first_of effect calls limit c h within;
    }

-- a core that is reached by feeds alone is in this order
pub fed_in_order : (effect : Effect) (calls : List Call) (limit : ℕ) (journal : List Event) → All (λ (event : Event). event ≡ Feed) journal →
    (c d : Core) → OneByOne effect calls limit c → play effect limit journal (Some c) ≡ Some d → OneByOne effect calls limit d
fed_in_order effect calls limit [] feeds c d way e = subst (OneByOne effect calls limit) (some_is c d e) way
fed_in_order effect calls limit (event ∷ more) feeds c d way e =
    let front = front_legal effect limit more (step effect limit event c) d e in
    let is : event ≡ Feed = All-head (λ (event : Event). event ≡ Feed) event more feeds in
    fed_in_order effect calls limit more (All-tail (λ (event : Event). event ≡ Feed) event more feeds) front.0 d
    (Feeding c front.0 way (ap (λ event. step effect limit event c) (sym is) ∙ front.1)) front.2

pub core_fed : (effect : Effect) (calls : List Call) (limit : ℕ) (journal : List Event) (c : Core) → All (λ (event : Event). event ≡ Feed) journal →
    core effect calls limit journal ≡ Some c → OneByOne effect calls limit c
core_fed effect calls limit journal c feeds e = fed_in_order effect calls limit journal feeds (core_of_none calls) c (AtFirst (core_of_none calls) refl) e

-- and so is the core of a journal with a turn more
pub core_turn : (effect : Effect) (calls : List Call) (limit : ℕ) (journal : List Event) (c d : Core) (worker : ℕ) (thread : ThreadId) →
    core effect calls limit journal ≡ Some c → OneByOne effect calls limit c → c.unfed ≡ [] → ArrivedFirst c thread.n →
    core effect calls limit (journal ++ Take worker thread ∷ Put worker ∷ []) ≡ Some d → OneByOne effect calls limit d
core_turn effect calls limit journal c d worker thread here way fed first there =
    Turn c d worker thread way fed first (sym (core_more effect calls limit journal (Take worker thread ∷ Put worker ∷ []) c here) ∙ there)
