-- What every legal core keeps.
use Rattle.std.proofs.Common.{◌≡◌, ℕ, ◌≤◌, zero, suc, Bool, true, false, cond, List, [], ◌∷◌, ◌++◌, length, drop, Option, Some, None, refl, ap, sym, ◌∙◌, subst, arith, append_assoc, eqb, slice_get}
use Rattle.std.specs.Prelude.{nat_lt}
use Rattle.std.specs.List.{All}
use Rattle.std.proofs.lemmas.List.{length_push}
use Rattle.std.proofs.lemmas.List.Elements.{All-nil, All-cons, All-head, All-tail, All-append, All-push, All-weaker}
use Rattle.std.proofs.lemmas.Bool.{eqb-true}
use Rattle.hilti_tree.specs.declared.call.Call.{Call}
use Rattle.hilti_core.specs.declared.pieces.Item.{Item}
use Rattle.hilti_core.specs.declared.pieces.Item.TheVariants.{Send, Line}
use Rattle.hilti_core.specs.declared.pieces.Segment.{Segment}
use Rattle.hilti_core.specs.declared.event.Event.{Event}
use Rattle.hilti_core.specs.declared.event.Event.TheVariants.{Feed, Take, Put}
use Rattle.hilti_core.specs.Sending.{Sender, Sender.Capture, Sender.Thread, Letter, letters, items_of, Effect}
use Rattle.hilti_core.specs.Core.{Waiting, Running, Resident, Core, Post, core_of_none, arrivals, goes_on, begins, comes_home, after_segment, finished_after, running_after, take_by, put_by, put_of, feed, left, step, play, core}
use Rattle.hilti_core.specs.Atomic.{HasSeats}
use Rattle.hilti_core.specs.Body.{HasSegments, sent_calls}
use Rattle.hilti_core.specs.Kept.{post_of, IsKept, IsSoundCore, KeepsCore, TakesMore}
use Rattle.hilti_core.proofs.Lists.{put_cases, drop_next}
use Rattle.hilti_core.proofs.Moves.{Moves, Moves.Fed, Moves.Goes, Moves.Starts, Moves.Home, keeps_play, fed_core}
use Rattle.hilti_core.proofs.Seats.{seats_step, seats_none}
use Rattle.hilti_core.proofs.Posts.{posts_of}
use Rattle.hilti_core.proofs.Causal.{core_in_order}

-- what a legal core has of its calls, starts and numbers
record Counted (calls : List Call) (limit : ℕ) (c : Core) : Type 0 where
  within : length c.started ≤ limit
  unfed : drop c.fed calls ≡ c.unfed
  numbers : (to : ℕ) → All (λ waiting. slice_get c.posts waiting.number ≡ Some (post_of to waiting)) (c.inbox to)

get_left : {A : Type 0} (xs ys : List A) (k : ℕ) (x : A) → slice_get xs k ≡ Some x → slice_get (xs ++ ys) k ≡ Some x
get_left [] ys k x e = absurd cc
get_left (y ∷ xs) ys zero x e = e
get_left (y ∷ xs) ys (suc k) x e = get_left xs ys k x e

get_at : {A : Type 0} (xs : List A) (y : A) (ys : List A) (k : ℕ) → length xs ≡ k → slice_get (xs ++ y ∷ ys) k ≡ Some y
get_at [] y ys zero e = refl
get_at [] y ys (suc k) e = absurd (omega arith)
get_at (x ∷ xs) y ys zero e = absurd (omega arith)
get_at (x ∷ xs) y ys (suc k) e = get_at xs y ys k (omega arith)

abbrev Numbered : List Post → ℕ → Waiting → Type 0
Numbered posts to waiting = slice_get posts waiting.number ≡ Some (post_of to waiting)

-- what arrives has the numbers of its posts
arrivals_numbered : (s : Sender) (posts : List Post) (sent : List Letter) (n to : ℕ) → length posts ≡ n → All (Numbered (posts ++ posts_of s sent) to) (arrivals s n to sent)
arrivals_numbered s posts [] n to e = All-nil (Numbered (posts ++ []) to)
arrivals_numbered s posts (letter ∷ more) n to e = go (eqb to letter.to) refl
    (subst (λ l. All (Numbered l to) (arrivals s (suc n) to more)) (append_assoc posts (new ∷ []) (posts_of s more))
    (arrivals_numbered s (posts ++ new ∷ []) more (suc n) to (omega (arith, length_push posts new))))
  where
    new : Post
    new = record { sender = s; letter = letter }

    go : (b : Bool) → eqb to letter.to ≡ b → All (Numbered (posts ++ new ∷ posts_of s more) to) (arrivals s (suc n) to more) →
        All (Numbered (posts ++ new ∷ posts_of s more) to) (cond b (record { sender = s; message = letter.message; number = n } ∷ arrivals s (suc n) to more) (arrivals s (suc n) to more))
    go false t h = h
    go true t h = All-cons (Numbered (posts ++ new ∷ posts_of s more) to) (record { sender = s; message = letter.message; number = n }) (arrivals s (suc n) to more)
        (get_at posts new (posts_of s more) n e ∙ ap (λ x. Some (record { sender = s; letter = record { to = x; message = letter.message } })) (sym (eqb-true to letter.to t))) h

numbers_post : (c : Core) (s : Sender) (sent : List Letter) → ((to : ℕ) → All (Numbered c.posts to) (c.inbox to)) → (to : ℕ) →
    All (Numbered (c.posts ++ posts_of s sent) to) (c.inbox to ++ arrivals s (length c.posts) to sent)
numbers_post c s sent h to = All-append (Numbered (c.posts ++ posts_of s sent) to) (c.inbox to) (arrivals s (length c.posts) to sent)
    (All-weaker (Numbered c.posts to) (Numbered (c.posts ++ posts_of s sent) to) (λ w e. get_left c.posts (posts_of s sent) w.number (post_of to w) e) (c.inbox to) (h to))
    (arrivals_numbered s c.posts sent (length c.posts) to refl)

counted_step : (effect : Effect) (calls : List Call) (limit : ℕ) (event : Event) (c d : Core) → Moves effect limit c d event → Counted calls limit c → Counted calls limit d
counted_step effect calls limit event c d move h = go event move
  where
    go : (event : Event) → Moves effect limit c d event → Counted calls limit d
    go Feed (Fed call rest is) = subst (Counted calls limit) (sym is.gives) (record {
      within = h.within;
      unfed = drop_next c.fed calls call rest (h.unfed ∙ is.unfed);
      numbers = numbers_post c Capture (record { to = 0; message = record { call = call; place = c.fed } } ∷ []) h.numbers;
    })
    go (Take w x) (Goes worker thread running is) = subst (Counted calls limit) (sym is.gives) (record { within = h.within; unfed = h.unfed; numbers = h.numbers })
    go (Take w x) (Starts worker thread head rest is) = subst (Counted calls limit) (sym is.gives) (record {
      within = let k = length_push c.started (record { sender = head.sender; receiver = thread.n; message = head.message; sent = (c.thread thread.n).sent }) in omega (arith, k, is.room);
      unfed = h.unfed;
      numbers = put_cases (λ to inbox. All (Numbered c.posts to) inbox) c.inbox thread.n rest
          (All-tail (Numbered c.posts thread.n) head rest (subst (All (Numbered c.posts thread.n)) is.inbox (h.numbers thread.n))) h.numbers;
    })
    go (Put w) (Home worker r running segment rest is) = subst (Counted calls limit) (sym is.gives) (record {
      within = h.within;
      unfed = h.unfed;
      numbers = numbers_post c (Thread r) (letters (c.thread r).sent segment.items) h.numbers;
    })

pub kept : (effect : Effect) (calls : List Call) (limit : ℕ) (journal : List Event) (c : Core) → core effect calls limit journal ≡ Some c → IsKept calls limit c
kept effect calls limit journal c e =
    let counted = keeps_play effect limit (Counted calls limit) (counted_step effect calls limit) journal (core_of_none calls) c e
    (record { within = omega arith; unfed = refl; numbers = λ to. All-nil (Numbered [] to) }) in
    let seats = keeps_play effect limit (λ x. HasSeats x.thread x.out) (λ event x y move h. seats_step effect limit x y event move h) journal (core_of_none calls) c e (seats_none calls) in
    record {
      seats = seats;
      within = counted.within;
      unfed = counted.unfed;
      arrivals = (core_in_order effect calls limit journal c e).queue;
      numbers = counted.numbers;
    }

module _ (effect : Effect) (sound : Call → Type 0) (segments : HasSegments effect sound) where
  abbrev SoundWaiting : Waiting → Type 0
  SoundWaiting waiting = sound waiting.message.call

  abbrev SoundLetter : Letter → Type 0
  SoundLetter letter = sound letter.message.call

  sent_calls-append : (xs ys : List Item) → sent_calls (xs ++ ys) ≡ sent_calls xs ++ sent_calls ys
  sent_calls-append [] ys = refl
  sent_calls-append (Send to call ∷ xs) ys = ap (λ l. call ∷ l) (sent_calls-append xs ys)
  sent_calls-append (Line text ∷ xs) ys = sent_calls-append xs ys

  sound_letters : (k : ℕ) (items : List Item) → All sound (sent_calls items) → All SoundLetter (letters k items)
  sound_letters k [] h = All-nil SoundLetter
  sound_letters k (Send to call ∷ items) h = All-cons SoundLetter (record { to = to.n; message = record { call = call; place = k } }) (letters (suc k) items)
      (All-head sound call (sent_calls items) h) (sound_letters (suc k) items (All-tail sound call (sent_calls items) h))
  sound_letters k (Line text ∷ items) h = sound_letters k items h

  sound_arrivals : (s : Sender) (n to : ℕ) (sent : List Letter) → All SoundLetter sent → All SoundWaiting (arrivals s n to sent)
  sound_arrivals s n to [] h = All-nil SoundWaiting
  sound_arrivals s n to (letter ∷ more) h = go (eqb to letter.to) (sound_arrivals s (suc n) to more (All-tail SoundLetter letter more h))
    where
      go : (b : Bool) → All SoundWaiting (arrivals s (suc n) to more) → All SoundWaiting (cond b (record { sender = s; message = letter.message; number = n } ∷ arrivals s (suc n) to more) (arrivals s (suc n) to more))
      go false x = x
      go true x = All-cons SoundWaiting (record { sender = s; message = letter.message; number = n }) (arrivals s (suc n) to more) (All-head SoundLetter letter more h) x

  -- a segment of a call sends sound calls
  sound_segment : (n : ℕ) (all : List Segment) (segment : Segment) (rest : List Segment) → All sound (sent_calls (items_of all)) → drop n all ≡ segment ∷ rest → All sound (sent_calls segment.items)
  sound_segment zero [] segment rest h e = absurd cc
  sound_segment zero (s ∷ all) segment rest h e =
      let first : s ≡ segment = cc in
      let both : All sound (sent_calls s.items ++ sent_calls (items_of all)) = subst (All sound) (sent_calls-append s.items (items_of all)) h in
      subst (λ (x : Segment). All sound (sent_calls x.items)) first (all_left (sent_calls s.items) (sent_calls (items_of all)) both)
    where
      all_left : (xs ys : List Call) → All sound (xs ++ ys) → All sound xs
      all_left [] ys h = All-nil sound
      all_left (x ∷ xs) ys h = All-cons sound x xs (All-head sound x (xs ++ ys) h) (all_left xs ys (All-tail sound x (xs ++ ys) h))
  sound_segment (suc n) [] segment rest h e = absurd cc
  sound_segment (suc n) (s ∷ all) segment rest h e =
      sound_segment n all segment rest (all_right (sent_calls s.items) (sent_calls (items_of all)) (subst (All sound) (sent_calls-append s.items (items_of all)) h)) e
    where
      all_right : (xs ys : List Call) → All sound (xs ++ ys) → All sound ys
      all_right [] ys h = h
      all_right (x ∷ xs) ys h = all_right xs ys (All-tail sound x (xs ++ ys) h)

  sound_fed : (c : Core) → IsSoundCore sound c → (call : Call) (rest : List Call) → c.unfed ≡ call ∷ rest → IsSoundCore sound (fed_core call rest c)
  sound_fed c h call rest e =
      let letter : Letter = record { to = 0; message = record { call = call; place = c.fed } } in
      let all : All sound (call ∷ rest) = subst (All sound) e h.unfed in
      record {
        inboxes = λ to. All-append SoundWaiting (c.inbox to) (arrivals Capture (length c.posts) to (letter ∷ [])) (h.inboxes to)
            (sound_arrivals Capture (length c.posts) to (letter ∷ []) (All-cons SoundLetter letter [] (All-head sound call rest all) (All-nil SoundLetter)));
        finished = h.finished;
        running = h.running;
        unfed = All-tail sound call rest all;
      }

  sound_goes : (c : Core) → IsSoundCore sound c → (worker r : ℕ) → IsSoundCore sound (goes_on worker r c)
  sound_goes c h worker r =
      let t : Resident = record (c.thread r) { worker = Some worker } in
      record {
        inboxes = h.inboxes;
        finished = put_cases (λ x t. All sound t.finished) c.thread r t (h.finished r) h.finished;
        running = put_cases (λ x t. (running : Running) → t.running ≡ Some running → sound running.call) c.thread r t (h.running r) h.running;
        unfed = h.unfed;
      }

  sound_begins : (c : Core) → IsSoundCore sound c → (worker r : ℕ) (head : Waiting) (rest : List Waiting) → c.inbox r ≡ head ∷ rest → IsSoundCore sound (begins worker r head rest c)
  sound_begins c h worker r head rest e =
      let t : Resident = record (c.thread r) { running = Some (record { call = head.message.call; given = 0 }); worker = Some worker } in
      let all : All SoundWaiting (head ∷ rest) = subst (All SoundWaiting) e (h.inboxes r) in
      record {
        inboxes = put_cases (λ x inbox. All SoundWaiting inbox) c.inbox r rest (All-tail SoundWaiting head rest all) h.inboxes;
        finished = put_cases (λ x t. All sound t.finished) c.thread r t (h.finished r) h.finished;
        running = put_cases (λ x t. (running : Running) → t.running ≡ Some running → sound running.call) c.thread r t
            (λ running is. let same : head.message.call ≡ running.call = one_call (record { call = head.message.call; given = 0 }) running is in subst sound same (All-head SoundWaiting head rest all)) h.running;
        unfed = h.unfed;
      }
    where
      one_call : (x y : Running) → Some x ≡ Some y → x.call ≡ y.call
      one_call x y e = let same : x ≡ y = cc in ap (λ (z : Running). z.call) same

  sound_home : (c : Core) → IsSoundCore sound c → (worker r : ℕ) (running : Running) (segment : Segment) (rest : List Segment) → (c.thread r).running ≡ Some running →
      drop running.given (effect r (c.thread r).finished running.call) ≡ segment ∷ rest → IsSoundCore sound (comes_home worker r running segment rest c)
  sound_home c h worker r running segment rest runs cut =
      let t : Resident = after_segment (c.thread r) running segment rest in
      let call : sound running.call = h.running r running runs in
      let items = sound_segment running.given (effect r (c.thread r).finished running.call) segment rest (segments r (c.thread r).finished running.call (h.finished r) call).sends cut in
      let sent : List Letter = letters (c.thread r).sent segment.items in
      record {
        inboxes = λ to. All-append SoundWaiting (c.inbox to) (arrivals (Thread r) (length c.posts) to sent) (h.inboxes to)
            (sound_arrivals (Thread r) (length c.posts) to sent (sound_letters (c.thread r).sent segment.items items));
        finished = put_cases (λ x t. All sound t.finished) c.thread r t (finished rest call) h.finished;
        running = put_cases (λ x t. (running : Running) → t.running ≡ Some running → sound running.call) c.thread r t (still rest call) h.running;
        unfed = h.unfed;
      }
    where
      finished : (rest : List Segment) → sound running.call → All sound (finished_after (c.thread r).finished running rest)
      finished [] call = All-push sound (c.thread r).finished running.call (h.finished r) call
      finished (x ∷ rest) call = h.finished r

      still : (rest : List Segment) → sound running.call → (next : Running) → running_after running rest ≡ Some next → sound next.call
      still [] call next e = absurd cc
      still (x ∷ rest) call next e = subst sound (one_call (record { call = running.call; given = suc running.given }) next e) call
        where
          one_call : (x y : Running) → Some x ≡ Some y → x.call ≡ y.call
          one_call x y e = let same : x ≡ y = cc in ap (λ (z : Running). z.call) same

  pub sound_step : (limit : ℕ) (event : Event) (c d : Core) → Moves effect limit c d event → IsSoundCore sound c → IsSoundCore sound d
  sound_step limit event c d move h = go event move
    where
      go : (event : Event) → Moves effect limit c d event → IsSoundCore sound d
      go Feed (Fed call rest is) = subst (IsSoundCore sound) (sym is.gives) (sound_fed c h call rest is.unfed)
      go (Take w x) (Goes worker thread running is) = subst (IsSoundCore sound) (sym is.gives) (sound_goes c h worker thread.n)
      go (Take w x) (Starts worker thread head rest is) = subst (IsSoundCore sound) (sym is.gives) (sound_begins c h worker thread.n head rest is.inbox)
      go (Put w) (Home worker r running segment rest is) = subst (IsSoundCore sound) (sym is.gives) (sound_home c h worker r running segment rest is.runs is.left)

  pub sound_first : (calls : List Call) → All sound calls → IsSoundCore sound (core_of_none calls)
  sound_first calls all = record { inboxes = λ to. All-nil SoundWaiting; finished = λ r. All-nil sound; running = λ r running is. absurd cc; unfed = all }

  pub keeps_core : (calls : List Call) (limit : ℕ) (journal : List Event) → KeepsCore effect sound calls limit journal
  keeps_core calls limit journal c e = (
    kept effect calls limit journal c e,
    λ all. keeps_play effect limit (IsSoundCore sound) (sound_step limit) journal (core_of_none calls) c e (sound_first calls all),
  )

-- the core with more calls behind those that weren't fed
abbrev wide : List Call → Core → Core
wide more c = record c { unfed = c.unfed ++ more }

wide_step : (effect : Effect) (limit : ℕ) (more : List Call) (event : Event) (c d : Core) → step effect limit event c ≡ Some d → step effect limit event (wide more c) ≡ Some (wide more d)
wide_step effect limit more Feed c d e = go c.unfed refl e
  where
    go : (unfed : List Call) → c.unfed ≡ unfed → feed c unfed ≡ Some d → feed (wide more c) (c.unfed ++ more) ≡ Some (wide more d)
    go [] is h = absurd cc
    go (call ∷ rest) is h = ap (λ l. feed (wide more c) (l ++ more)) is ∙ ap (λ x. Some (wide more x)) (some_is (fed_core call rest c) d h)
      where
        some_is : (x y : Core) → Some x ≡ Some y → x ≡ y
        some_is x y e = cc
wide_step effect limit more (Take worker thread) c d e =
    go (c.out worker) (c.thread thread.n).worker (c.thread thread.n).running (c.inbox thread.n) (nat_lt (length c.started) limit) e
  where
    some_is : (x y : Core) → Some x ≡ Some y → x ≡ y
    some_is x y e = cc

    go : (seat home : Option ℕ) (running : Option Running) (inbox : List Waiting) (may : Bool) → take_by worker thread.n c seat home running inbox may ≡ Some d →
        take_by worker thread.n (wide more c) seat home running inbox may ≡ Some (wide more d)
    go None None (Some running) inbox may h = ap (λ x. Some (wide more x)) (some_is (goes_on worker thread.n c) d h)
    go None None None (head ∷ rest) true h = ap (λ x. Some (wide more x)) (some_is (begins worker thread.n head rest c) d h)
    go None None None (head ∷ rest) false h = absurd cc
    go None None None [] may h = absurd cc
    go None (Some w) running inbox may h = absurd cc
    go (Some w) home running inbox may h = absurd cc
wide_step effect limit more (Put worker) c d e = at (c.out worker) e
  where
    some_is : (x y : Core) → Some x ≡ Some y → x ≡ y
    some_is x y e = cc

    go : (r : ℕ) (running : Option Running) (segments : List Segment) → put_by worker r c running segments ≡ Some d → put_by worker r (wide more c) running segments ≡ Some (wide more d)
    go r None segments h = absurd cc
    go r (Some running) [] h = absurd cc
    go r (Some running) (segment ∷ rest) h = ap (λ x. Some (wide more x)) (some_is (comes_home worker r running segment rest c) d h)

    at : (seat : Option ℕ) → put_of effect worker c seat ≡ Some d → put_of effect worker (wide more c) seat ≡ Some (wide more d)
    at None h = absurd cc
    at (Some r) h = go r (c.thread r).running (left effect r (c.thread r)) h

wide_play : (effect : Effect) (limit : ℕ) (more : List Call) (journal : List Event) (c d : Core) → play effect limit journal (Some c) ≡ Some d → play effect limit journal (Some (wide more c)) ≡ Some (wide more d)
wide_play effect limit more [] c d e = ap (λ x. Some (wide more x)) (let same : c ≡ d = cc in same)
wide_play effect limit more (event ∷ journal) c d e = go (λ b h. wide_play effect limit more journal b d h) (step effect limit event c) refl e
  where
    nowhere : (events : List Event) → play effect limit events None ≡ Some d → ⊥
    nowhere [] x = cc
    nowhere (y ∷ ys) x = cc

    go : ((b : Core) → play effect limit journal (Some b) ≡ Some d → play effect limit journal (Some (wide more b)) ≡ Some (wide more d)) → (o : Option Core) → step effect limit event c ≡ o →
        play effect limit journal o ≡ Some d → play effect limit journal (step effect limit event (wide more c)) ≡ Some (wide more d)
    go again None is h = absurd (nowhere journal h)
    go again (Some b) is h = ap (play effect limit journal) (wide_step effect limit more event c b is) ∙ again b h

pub takes_more : (effect : Effect) (calls more : List Call) (limit : ℕ) (journal : List Event) → TakesMore effect calls more limit journal
takes_more effect calls more limit journal c e = wide_play effect limit more journal (core_of_none calls) c e
