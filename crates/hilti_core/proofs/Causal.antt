-- The law of causal arrival.
use Rattle.std.proofs.Common.{◌≡◌, ℕ, ◌+◌, ◌<◌, ◌≤◌, zero, suc, Bool, true, false, cond, List, [], ◌∷◌, ◌++◌, length, Some, refl, ap, sym, ◌∙◌, subst, arith, append_assoc, eqb, get_or, ◌⊎◌, inl, inr}
use Rattle.std.specs.Prelude.{map}
use Rattle.std.specs.List.{Contains}
use Rattle.std.proofs.lemmas.List.{append-nil, map-append}
use Rattle.std.proofs.lemmas.List.Elements.{Contains-append_left, Contains-append_right, Contains-append_cases, Contains-push}
use Rattle.std.proofs.lemmas.Bool.{eqb-true, eq-eqb}
use Rattle.hilti_tree.specs.declared.call.Call.{Call}
use Rattle.hilti_core.specs.declared.pieces.Item.{Item}
use Rattle.hilti_core.specs.declared.pieces.Item.TheVariants.{Send, Line}
use Rattle.hilti_core.specs.declared.pieces.Segment.{Segment}
use Rattle.hilti_core.specs.declared.event.Event.{Event}
use Rattle.hilti_core.specs.declared.event.Event.TheVariants.{Feed, Take, Put}
use Rattle.hilti_core.specs.Sending.{Sender, Sender.Capture, Sender.Thread, same_sender, Message, Letter, letters, sends, mail, messages, items_of, Effect, put_at}
use Rattle.hilti_core.specs.Machine.{Start, Machine}
use Rattle.hilti_core.specs.Core.{Waiting, Running, Core, Post, core_of_none, arrivals, goes_on, begins, comes_home, after_segment, left, core}
use Rattle.hilti_core.specs.Atomic.{Compares, from_sender}
use Rattle.hilti_core.specs.Causes.{Name, start_name, post_name, Before, Before.Earlier, Before.Caused, Before.Through, WasPosted, WasStarted, WasSentTo, IsCausal, ArrivesCausally}
use Rattle.hilti_core.specs.Kept.{posts_to, starts_at, waiting_name}
use Rattle.hilti_core.proofs.Lists.{put_cases, same_sender_true}
use Rattle.hilti_core.proofs.Moves.{keeps_play, Moves, Moves.Fed, Moves.Goes, Moves.Starts, Moves.Home, fed_core}
use Rattle.hilti_core.proofs.Simulates.{to_post, channel_is}
use Rattle.hilti_core.proofs.Atomic.{call_atomic}
use Rattle.hilti_core.proofs.Posts.{count, count-append, count_items, InOrder, Cause, Cause.BySender, Cause.ByStart, order_post, order_start, order_none, order_items, posts_of}

posts_to-append : (to : ℕ) (xs ys : List Post) → posts_to to (xs ++ ys) ≡ posts_to to xs ++ posts_to to ys
posts_to-append to [] ys = refl
posts_to-append to (post ∷ xs) ys = go (eqb to post.letter.to) (posts_to-append to xs ys)
  where
    go : (b : Bool) → posts_to to (xs ++ ys) ≡ posts_to to xs ++ posts_to to ys → cond b (post_name post ∷ posts_to to (xs ++ ys)) (posts_to to (xs ++ ys)) ≡ cond b (post_name post ∷ posts_to to xs) (posts_to to xs) ++ posts_to to ys
    go true e = ap (λ l. post_name post ∷ l) e
    go false e = e

starts_at-append : (to : ℕ) (xs ys : List Start) → starts_at to (xs ++ ys) ≡ starts_at to xs ++ starts_at to ys
starts_at-append to [] ys = refl
starts_at-append to (start ∷ xs) ys = go (eqb to start.receiver) (starts_at-append to xs ys)
  where
    go : (b : Bool) → starts_at to (xs ++ ys) ≡ starts_at to xs ++ starts_at to ys → cond b (start_name start ∷ starts_at to (xs ++ ys)) (starts_at to (xs ++ ys)) ≡ cond b (start_name start ∷ starts_at to xs) (starts_at to xs) ++ starts_at to ys
    go true e = ap (λ l. start_name start ∷ l) e
    go false e = e

arrival_names : (s : Sender) (n to : ℕ) (sent : List Letter) → map waiting_name (arrivals s n to sent) ≡ posts_to to (posts_of s sent)
arrival_names s n to [] = refl
arrival_names s n to (letter ∷ more) = go (eqb to letter.to) (arrival_names s (suc n) to more)
  where
    rest : List Waiting
    rest = arrivals s (suc n) to more

    go : (b : Bool) → map waiting_name rest ≡ posts_to to (posts_of s more) →
        map waiting_name (cond b (record { sender = s; message = letter.message; number = n } ∷ rest) rest) ≡ cond b (record { sender = s; place = letter.message.place } ∷ posts_to to (posts_of s more)) (posts_to to (posts_of s more))
    go true e = ap (λ l. record { sender = s; place = letter.message.place } ∷ l) e
    go false e = e

pub contains_here : {A : Type 0} (x : A) (xs : List A) → Contains (x ∷ xs) x
contains_here x xs = Contains-append_left (x ∷ []) xs x (Contains-push [] x)

contains_there : {A : Type 0} (x y : A) (xs : List A) → Contains xs y → Contains (x ∷ xs) y
contains_there x y xs h = Contains-append_right (x ∷ []) xs y h

-- what is in a list cuts it
pub contains_cut : {A : Type 0} (xs : List A) (x : A) → Contains xs x → (front : List A) × (back : List A) × (xs ≡ front ++ x ∷ back)
contains_cut {A} xs x c = go xs c.0 c.1 c.2
  where
    go : (xs : List A) (k : ℕ) → k < length xs → get_or xs k x ≡ x → (front : List A) × (back : List A) × (xs ≡ front ++ x ∷ back)
    go [] k low e = absurd (omega arith)
    go (y ∷ ys) zero low e = ([], ys, ap (λ z. z ∷ ys) e)
    go (y ∷ ys) (suc k) low e = let r = go ys k (omega arith) e in (y ∷ r.0, r.1, ap (λ l. y ∷ l) r.2)

contains_names : (to : ℕ) (posts : List Post) (post : Post) → Contains posts post → post.letter.to ≡ to → Contains (posts_to to posts) (post_name post)
contains_names to posts post c e =
    let cut = contains_cut posts post c in
    let at : posts_to to posts ≡ posts_to to cut.0 ++ post_name post ∷ posts_to to cut.1 =
    ap (posts_to to) cut.2 ∙ (posts_to-append to cut.0 (post ∷ cut.1)
    ∙ ap (λ b. posts_to to cut.0 ++ cond b (post_name post ∷ posts_to to cut.1) (posts_to to cut.1)) (eq-eqb to post.letter.to (sym e))) in
    subst (λ l. Contains l (post_name post)) (sym at) (Contains-append_right (posts_to to cut.0) (post_name post ∷ posts_to to cut.1) (post_name post) (contains_here (post_name post) (posts_to to cut.1)))

contains_starts : (to : ℕ) (started : List Start) (start : Start) → Contains started start → start.receiver ≡ to → Contains (starts_at to started) (start_name start)
contains_starts to started start c e =
    let cut = contains_cut started start c in
    let at : starts_at to started ≡ starts_at to cut.0 ++ start_name start ∷ starts_at to cut.1 =
    ap (starts_at to) cut.2 ∙ (starts_at-append to cut.0 (start ∷ cut.1)
    ∙ ap (λ b. starts_at to cut.0 ++ cond b (start_name start ∷ starts_at to cut.1) (starts_at to cut.1)) (eq-eqb to start.receiver (sym e))) in
    subst (λ l. Contains l (start_name start)) (sym at) (Contains-append_right (starts_at to cut.0) (start_name start ∷ starts_at to cut.1) (start_name start) (contains_here (start_name start) (starts_at to cut.1)))

-- the post that a name in this list stands for, with what was posted to the thread before it
posts_cut : (to : ℕ) (posts : List Post) (name : Name) (before after : List Name) → posts_to to posts ≡ before ++ name ∷ after →
    (front : List Post) × (post : Post) × (back : List Post) × (posts ≡ front ++ post ∷ back) × (posts_to to front ≡ before) × (post_name post ≡ name) × (post.letter.to ≡ to)
posts_cut to [] name [] after e = absurd cc
posts_cut to [] name (x ∷ before) after e = absurd cc
posts_cut to (p ∷ posts) name before after e = go (posts_cut to posts name) (eqb to p.letter.to) refl before e
  where
    go : ((before after : List Name) → posts_to to posts ≡ before ++ name ∷ after →
        (front : List Post) × (post : Post) × (back : List Post) × (posts ≡ front ++ post ∷ back) × (posts_to to front ≡ before) × (post_name post ≡ name) × (post.letter.to ≡ to)) →
        (b : Bool) → eqb to p.letter.to ≡ b → (before : List Name) → cond b (post_name p ∷ posts_to to posts) (posts_to to posts) ≡ before ++ name ∷ after →
        (front : List Post) × (post : Post) × (back : List Post) × (p ∷ posts ≡ front ++ post ∷ back) × (posts_to to front ≡ before) × (post_name post ≡ name) × (post.letter.to ≡ to)
    go again true t [] e = ([], p, posts, refl, refl, cc, sym (eqb-true to p.letter.to t))
    go again true t (x ∷ before) e =
        let r = again before after cc in
        let first : post_name p ≡ x = cc in (
          p ∷ r.0,
          r.1,
          r.2,
          ap (λ l. p ∷ l) r.3,
          ap (λ b. cond b (post_name p ∷ posts_to to r.0) (posts_to to r.0)) t ∙ (ap (λ l. post_name p ∷ l) r.4 ∙ ap (λ n. n ∷ before) first),
          r.5,
          r.6,
        )
    go again false t before e =
        let r = again before after e in
        (p ∷ r.0, r.1, r.2, ap (λ l. p ∷ l) r.3, ap (λ b. cond b (post_name p ∷ posts_to to r.0) (posts_to to r.0)) t ∙ r.4, r.5, r.6)

posted_at : (to : ℕ) (posts : List Post) (name : Name) → Contains (posts_to to posts) name → (post : Post) × Contains posts post × (post_name post ≡ name) × (post.letter.to ≡ to)
posted_at to posts name c =
    let names = contains_cut (posts_to to posts) name c in
    let cut = posts_cut to posts name names.0 names.1 names.2 in
    (cut.1, subst (λ l. Contains l cut.1) (sym cut.3) (Contains-append_right cut.0 (cut.1 ∷ cut.2) cut.1 (contains_here cut.1 cut.2)), cut.5, cut.6)

started_at : (to : ℕ) (started : List Start) (name : Name) → Contains (starts_at to started) name → WasStarted started name to
started_at to [] name c = absurd (omega (arith, c.1))
started_at to (start ∷ more) name c = go (started_at to more name) (eqb to start.receiver) refl c
  where
    later : WasStarted more name to → WasStarted (start ∷ more) name to
    later w = (w.0, contains_there start w.0 more w.1, w.2, w.3)

    first : start.receiver ≡ to → Contains (start_name start ∷ []) name ⊎ Contains (starts_at to more) name → (Contains (starts_at to more) name → WasStarted more name to) → WasStarted (start ∷ more) name to
    first e (inl h) again = (start, contains_here start more, only (start_name start) name h, e)
      where
        only : (x y : Name) → Contains (x ∷ []) y → x ≡ y
        only x y h = at h.0 h.1 h.2
          where
            at : (k : ℕ) → k < 1 → get_or (x ∷ []) k y ≡ y → x ≡ y
            at zero low e = e
            at (suc k) low e = absurd (omega arith)
    first e (inr h) again = later (again h)

    go : (Contains (starts_at to more) name → WasStarted more name to) → (b : Bool) → eqb to start.receiver ≡ b → Contains (cond b (start_name start ∷ starts_at to more) (starts_at to more)) name → WasStarted (start ∷ more) name to
    go again true t h = first (sym (eqb-true to start.receiver t)) (Contains-append_cases (start_name start ∷ []) (starts_at to more) name h) again
    go again false t h = later (again h)

-- the core in order: posts and starts are, counts are those of the posts, and inboxes are first in first out
pub record CoreInOrder (c : Core) : Type 0 where
  pub order : InOrder c.posts c.started
  pub sent : (r : ℕ) → (c.thread r).sent ≡ count (Thread r) c.posts
  pub fed : c.fed ≡ count Capture c.posts
  pub queue : (to : ℕ) → posts_to to c.posts ≡ starts_at to c.started ++ map waiting_name (c.inbox to)

-- an inbox after a post
queue_post : (c : Core) → CoreInOrder c → (s : Sender) (sent : List Letter) (to : ℕ) →
    posts_to to (c.posts ++ posts_of s sent) ≡ starts_at to c.started ++ map waiting_name (c.inbox to ++ arrivals s (length c.posts) to sent)
queue_post c h s sent to =
    posts_to-append to c.posts (posts_of s sent) ∙ (ap (λ l. l ++ posts_to to (posts_of s sent)) (h.queue to)
    ∙ (ap (λ l. (starts_at to c.started ++ map waiting_name (c.inbox to)) ++ l) (sym (arrival_names s (length c.posts) to sent))
    ∙ (append_assoc (starts_at to c.started) (map waiting_name (c.inbox to)) (map waiting_name (arrivals s (length c.posts) to sent))
    ∙ ap (λ l. starts_at to c.started ++ l) (sym (map-append waiting_name (c.inbox to) (arrivals s (length c.posts) to sent))))))

order_fed : (c : Core) → CoreInOrder c → (call : Call) (rest : List Call) → CoreInOrder (fed_core call rest c)
order_fed c h call rest =
    let letter : Letter = record { to = 0; message = record { call = call; place = c.fed } } in
    let new : Post = record { sender = Capture; letter = letter } in
    record {
      order = order_post c.posts c.started h.order new h.fed;
      sent = λ r. h.sent r ∙ (let e : count (Thread r) c.posts ≡ count (Thread r) (c.posts ++ new ∷ []) = omega (arith, count-append (Thread r) c.posts (new ∷ [])) in e);
      fed = omega (arith, h.fed, count-append Capture c.posts (new ∷ []));
      queue = queue_post c h Capture (letter ∷ []);
    }

order_goes : (c : Core) → CoreInOrder c → (worker r : ℕ) → CoreInOrder (goes_on worker r c)
order_goes c h worker r = record {
  order = h.order;
  sent = put_cases (λ x t. t.sent ≡ count (Thread x) c.posts) c.thread r (record (c.thread r) { worker = Some worker }) (h.sent r) h.sent;
  fed = h.fed;
  queue = h.queue;
}

order_begins : (c : Core) → CoreInOrder c → (worker r : ℕ) (head : Waiting) (rest : List Waiting) → c.inbox r ≡ head ∷ rest → CoreInOrder (begins worker r head rest c)
order_begins c h worker r head rest inbox = record {
  order = order_start c.posts c.started h.order new (found.0, found.1, found.2) (h.sent r);
  sent = put_cases (λ x t. t.sent ≡ count (Thread x) c.posts) c.thread r (record (c.thread r) { running = Some (record { call = head.message.call; given = 0 }); worker = Some worker }) (h.sent r) h.sent;
  fed = h.fed;
  queue = λ to. queue to (eqb to r) refl ∙ ap (λ l. l ++ map waiting_name (put_at c.inbox r rest to)) (sym (starts_at-append to c.started (new ∷ [])));
}
  where
    new : Start
    new = record { sender = head.sender; receiver = r; message = head.message; sent = (c.thread r).sent }

    at_r : posts_to r c.posts ≡ starts_at r c.started ++ start_name new ∷ map waiting_name rest
    at_r = h.queue r ∙ ap (λ l. starts_at r c.started ++ map waiting_name l) inbox

    found : (post : Post) × Contains c.posts post × (post_name post ≡ start_name new) × (post.letter.to ≡ r)
    found = posted_at r c.posts (start_name new) (subst (λ l. Contains l (start_name new)) (sym at_r)
        (Contains-append_right (starts_at r c.started) (start_name new ∷ map waiting_name rest) (start_name new) (contains_here (start_name new) (map waiting_name rest))))

    queue : (to : ℕ) (b : Bool) → eqb to r ≡ b → posts_to to c.posts ≡ (starts_at to c.started ++ cond b (start_name new ∷ []) []) ++ map waiting_name (cond b rest (c.inbox to))
    queue to true e =
        let at : to ≡ r = eqb-true to r e in
        ap (λ x. posts_to x c.posts) at ∙ (at_r ∙ (ap (λ x. starts_at x c.started ++ start_name new ∷ map waiting_name rest) (sym at)
        ∙ sym (append_assoc (starts_at to c.started) (start_name new ∷ []) (map waiting_name rest))))
    queue to false e = h.queue to ∙ ap (λ l. l ++ map waiting_name (c.inbox to)) (sym (append-nil (starts_at to c.started)))

order_home : (c : Core) → CoreInOrder c → (worker r : ℕ) (running : Running) (segment : Segment) (rest : List Segment) → CoreInOrder (comes_home worker r running segment rest c)
order_home c h worker r running segment rest = record {
  order = order_items segment.items c.posts c.started (Thread r) (c.thread r).sent (h.sent r) h.order;
  sent = λ x. sent x (eqb x r) refl ∙ sym (count-append (Thread x) c.posts posted ∙ ap (λ n. count (Thread x) c.posts + n) (count_items segment.items (Thread r) (Thread x) (c.thread r).sent));
  fed = h.fed ∙ sym (count-append Capture c.posts posted ∙ (ap (λ n. count Capture c.posts + n) (count_items segment.items (Thread r) Capture (c.thread r).sent) ∙ omega arith));
  queue = queue_post c h (Thread r) (letters (c.thread r).sent segment.items);
}
  where
    posted : List Post
    posted = posts_of (Thread r) (letters (c.thread r).sent segment.items)

    sent : (x : ℕ) (b : Bool) → eqb x r ≡ b → (cond b (after_segment (c.thread r) running segment rest) (c.thread x)).sent ≡ count (Thread x) c.posts + cond b (sends segment.items) 0
    sent x true e =
        let at : x ≡ r = eqb-true x r e in
        ap (λ n. n + sends segment.items) (h.sent r) ∙ ap (λ y. count (Thread y) c.posts + sends segment.items) (sym at)
    sent x false e = h.sent x ∙ omega arith

pub order_step : (effect : Effect) (limit : ℕ) (event : Event) (c d : Core) → Moves effect limit c d event → CoreInOrder c → CoreInOrder d
order_step effect limit event c d move h = go event move
  where
    go : (event : Event) → Moves effect limit c d event → CoreInOrder d
    go Feed (Fed call rest is) = subst CoreInOrder (sym is.gives) (order_fed c h call rest)
    go (Take w x) (Goes worker thread running is) = subst CoreInOrder (sym is.gives) (order_goes c h worker thread.n)
    go (Take w x) (Starts worker thread head rest is) = subst CoreInOrder (sym is.gives) (order_begins c h worker thread.n head rest is.inbox)
    go (Put w) (Home worker r running segment rest is) = subst CoreInOrder (sym is.gives) (order_home c h worker r running segment rest)

pub core_in_order : (effect : Effect) (calls : List Call) (limit : ℕ) (journal : List Event) (c : Core) → core effect calls limit journal ≡ Some c → CoreInOrder c
core_in_order effect calls limit journal c e = keeps_play effect limit CoreInOrder (order_step effect limit) journal (core_of_none calls) c e
    (record { order = order_none; sent = λ r. refl; fed = refl; queue = λ to. refl })

-- what comes before a posted call was posted before it
pub before_posted : (c : Core) → CoreInOrder c → (m n : Name) → Before c.started m n → (front back : List Post) (post : Post) → c.posts ≡ front ++ post ∷ back → post_name post ≡ n → WasPosted front m
before_posted c h _ _ (Earlier m n same low) front back post is e = h.order.after front back post m is (subst (λ x. Cause c.started m x) (sym e) (BySender same low))
before_posted c h _ _ (Caused m n start d named by place) front back post is e = h.order.after front back post m is (subst (λ x. Cause c.started m x) (sym e) (ByStart start d named by place))
before_posted c h _ _ (Through m k n a b) front back post is e =
    let w = before_posted c h k n b front back post is e in
    let cut = contains_cut front w.0 w.1 in
    let whole : c.posts ≡ cut.0 ++ w.0 ∷ (cut.1 ++ post ∷ back) = is ∙ (ap (λ l. l ++ post ∷ back) cut.2 ∙ append_assoc cut.0 (w.0 ∷ cut.1) (post ∷ back)) in
    let v = before_posted c h m k a cut.0 (cut.1 ++ post ∷ back) w.0 whole w.2 in
    (v.0, subst (λ l. Contains l v.0) (sym cut.2) (Contains-append_left cut.0 (w.0 ∷ cut.1) v.0 v.1), v.2)

-- what is still to come has places past those that were posted
pub mail_late : (to k : ℕ) (items : List Item) (message : Message) → Contains (mail to (letters k items)) message → k ≤ message.place
mail_late to k [] message c = absurd (omega (arith, c.1))
mail_late to k (Send x call ∷ items) message c = go (mail_late to (suc k) items message) (eqb to x.n) c
  where
    go : (Contains (mail to (letters (suc k) items)) message → suc k ≤ message.place) → (b : Bool) → Contains (cond b (record { call = call; place = k } ∷ mail to (letters (suc k) items)) (mail to (letters (suc k) items))) message → k ≤ message.place
    go again false h = omega (arith, again h)
    go again true h = at (Contains-append_cases (record { call = call; place = k } ∷ []) (mail to (letters (suc k) items)) message h)
      where
        first : (j : ℕ) → j < 1 → get_or (record { call = call; place = k } ∷ []) j message ≡ message → k ≤ message.place
        first zero low e = let p : k ≡ message.place = ap (λ (x : Message). x.place) e in omega (arith, p)
        first (suc j) low e = absurd (omega arith)

        at : Contains (record { call = call; place = k } ∷ []) message ⊎ Contains (mail to (letters (suc k) items)) message → k ≤ message.place
        at (inl h) = first h.0 h.1 h.2
        at (inr h) = omega (arith, again h)
mail_late to k (Line text ∷ items) message c = mail_late to k items message c

pub messages_late : (k : ℕ) (calls : List Call) (message : Message) → Contains (messages k calls) message → k ≤ message.place
messages_late k [] message c = absurd (omega (arith, c.1))
messages_late k (call ∷ calls) message c = at (Contains-append_cases (record { call = call; place = k } ∷ []) (messages (suc k) calls) message c) (messages_late (suc k) calls message)
  where
    first : (j : ℕ) → j < 1 → get_or (record { call = call; place = k } ∷ []) j message ≡ message → k ≤ message.place
    first zero low e = let p : k ≡ message.place = ap (λ (x : Message). x.place) e in omega (arith, p)
    first (suc j) low e = absurd (omega arith)

    at : Contains (record { call = call; place = k } ∷ []) message ⊎ Contains (messages (suc k) calls) message → (Contains (messages (suc k) calls) message → suc k ≤ message.place) → k ≤ message.place
    at (inl h) again = first h.0 h.1 h.2
    at (inr h) again = omega (arith, again h)

-- a message that waits in an inbox, by its name
waits_named : (s : Sender) (inbox : List Waiting) (message : Message) → Contains (from_sender s inbox) message → Contains (map waiting_name inbox) (record { sender = s; place = message.place })
waits_named s [] message c = absurd (omega (arith, c.1))
waits_named s (w ∷ inbox) message c = go (waits_named s inbox message) (same_sender s w.sender) refl c
  where
    later : Contains (map waiting_name inbox) (record { sender = s; place = message.place }) → Contains (map waiting_name (w ∷ inbox)) (record { sender = s; place = message.place })
    later h = contains_there (waiting_name w) (record { sender = s; place = message.place }) (map waiting_name inbox) h

    go : (Contains (from_sender s inbox) message → Contains (map waiting_name inbox) (record { sender = s; place = message.place })) → (b : Bool) → same_sender s w.sender ≡ b →
        Contains (cond b (w.message ∷ from_sender s inbox) (from_sender s inbox)) message → Contains (map waiting_name (w ∷ inbox)) (record { sender = s; place = message.place })
    go again false t h = later (again h)
    go again true t h = at (Contains-append_cases (w.message ∷ []) (from_sender s inbox) message h)
      where
        first : (j : ℕ) → j < 1 → get_or (w.message ∷ []) j message ≡ message → Contains (map waiting_name (w ∷ inbox)) (record { sender = s; place = message.place })
        first zero low e =
            let name : waiting_name w ≡ record { sender = s; place = message.place } = ap (λ x. record { sender = x; place = w.message.place }) (sym (same_sender_true s w.sender t)) ∙ ap (λ (x : Message). record { sender = s; place = x.place }) e in
            subst (λ n. Contains (map waiting_name (w ∷ inbox)) n) name (contains_here (waiting_name w) (map waiting_name inbox))
        first (suc j) low e = absurd (omega arith)

        at : Contains (w.message ∷ []) message ⊎ Contains (from_sender s inbox) message → Contains (map waiting_name (w ∷ inbox)) (record { sender = s; place = message.place })
        at (inl h) = first h.0 h.1 h.2
        at (inr h) = later (again h)

module _ (effect : Effect) (m : Machine) (c : Core) (h : CoreInOrder c) (compares : Compares effect m c) where
  late : (s : Sender) (to : ℕ) (message : Message) → Contains (to_post effect c s to) message → count s c.posts ≤ message.place
  late (Thread from) to message d = let k = h.sent from in omega (arith, k, mail_late to (c.thread from).sent (items_of (left effect from (c.thread from))) message d)
  late Capture to message d = go (eqb to 0) d
    where
      go : (b : Bool) → Contains (cond b (messages c.fed c.unfed) []) message → count Capture c.posts ≤ message.place
      go true d = let k = h.fed in omega (arith, k, messages_late c.fed c.unfed message d)
      go false d = absurd (omega (arith, d.1))

  -- a call that was sent to a thread and posted was posted to it
  posted_there : (name : Name) (to : ℕ) → WasSentTo m name to → (post : Post) → Contains c.posts post → post_name post ≡ name → post.letter.to ≡ to
  posted_there name to sent post d e = go sent
    where
      named : (xs : List Name) → posts_to to c.posts ≡ starts_at to c.started ++ xs → Contains (starts_at to c.started ++ xs) name → post.letter.to ≡ to
      named xs is at =
          let found = posted_at to c.posts name (subst (λ l. Contains l name) (sym is) at) in
          h.order.unique post found.0 d found.1 (e ∙ sym found.2) ∙ found.3

      waits : (message : Message) → message.place ≡ name.place → Contains (from_sender name.sender (c.inbox to)) message ⊎ Contains (to_post effect c name.sender to) message → post.letter.to ≡ to
      waits message place (inl k) =
          let n : Contains (map waiting_name (c.inbox to)) name = subst (λ p. Contains (map waiting_name (c.inbox to)) (record { sender = name.sender; place = p })) place (waits_named name.sender (c.inbox to) message k) in
          named (map waiting_name (c.inbox to)) (h.queue to) (Contains-append_right (starts_at to c.started) (map waiting_name (c.inbox to)) name n)
      waits message place (inr k) = absurd (
          let a = late name.sender to message k in
          let b = h.order.below post d in
          let p : post.letter.message.place ≡ name.place = ap (λ (x : Name). x.place) e in
          let q : count post.sender c.posts ≡ count name.sender c.posts = ap (λ (x : Name). count x.sender c.posts) e in
          omega (arith, a, b, p, q, place))

      go : WasSentTo m name to → post.letter.to ≡ to
      go (inl w) =
          let there : Contains c.started w.0 = subst (λ l. Contains l w.0) compares.started w.1 in
          let n : Contains (starts_at to c.started) name = subst (Contains (starts_at to c.started)) w.2 (contains_starts to c.started w.0 there w.3) in
          named (map waiting_name (c.inbox to)) (h.queue to) (Contains-append_left (starts_at to c.started) (map waiting_name (c.inbox to)) name n)
      go (inr w) = waits w.0 w.2 (Contains-append_cases (from_sender name.sender (c.inbox to)) (to_post effect c name.sender to) w.0
          (subst (λ l. Contains l w.0) (channel_is effect m c compares name.sender to) w.1))

  pub causal_history : IsCausal m
  causal_history front back start name is before sent =
      let to : ℕ = start.receiver in
      let here : c.started ≡ front ++ start ∷ back = sym compares.started ∙ is in
      let names : posts_to to c.posts ≡ starts_at to front ++ start_name start ∷ (starts_at to back ++ map waiting_name (c.inbox to)) =
      h.queue to ∙ (ap (λ l. starts_at to l ++ map waiting_name (c.inbox to)) here
      ∙ (ap (λ l. l ++ map waiting_name (c.inbox to)) (starts_at-append to front (start ∷ back)
      ∙ ap (λ b. starts_at to front ++ cond b (start_name start ∷ starts_at to back) (starts_at to back)) (eq-eqb to to refl))
      ∙ append_assoc (starts_at to front) (start_name start ∷ starts_at to back) (map waiting_name (c.inbox to)))) in
      let cut = posts_cut to c.posts (start_name start) (starts_at to front) (starts_at to back ++ map waiting_name (c.inbox to)) names in
      let w = before_posted c h name (start_name start) (subst (λ l. Before l name (start_name start)) compares.started before) cut.0 cut.2 cut.1 cut.3 cut.5 in
      let posted : Contains c.posts w.0 = subst (λ l. Contains l w.0) (sym cut.3) (Contains-append_left cut.0 (cut.1 ∷ cut.2) w.0 w.1) in
      let there : w.0.letter.to ≡ to = posted_there name to sent w.0 posted w.2 in
      started_at to front name (subst (λ l. Contains l name) cut.4 (subst (Contains (posts_to to cut.0)) w.2 (contains_names to cut.0 w.0 w.1 there)))

pub causal : (effect : Effect) (calls : List Call) (limit : ℕ) (journal : List Event) → ArrivesCausally effect calls limit journal
causal effect calls limit journal c e =
    let h = core_in_order effect calls limit journal c e in
    let atomic = call_atomic effect calls limit journal c e in (
      record {
        after = λ front back post name is before. before_posted c h name (post_name post) before front back post is refl;
        once = h.order.once;
      },
      λ m runs. let same : atomic.0 ≡ m = some_one atomic.0 m (sym atomic.1 ∙ runs) in
          causal_history effect m c h (subst (λ x. Compares effect x c) same atomic.2.compares),
    )
  where
    some_one : (x y : Machine) → Some x ≡ Some y → x ≡ y
    some_one x y e = cc
