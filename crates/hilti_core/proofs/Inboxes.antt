-- What waits in the inboxes: the calls posted and not started, in the order of posting.
use Rattle.std.proofs.Common.{◌≡◌, ℕ, ◌+◌, ◌<◌, ◌≤◌, zero, suc, Bool, true, false, cond, List, [], ◌∷◌, ◌++◌, length, refl, ap, sym, ◌∙◌, subst, arith, eqb, length-append}
use Rattle.std.specs.Prelude.{map}
use Rattle.std.specs.List.{All}
use Rattle.std.proofs.lemmas.List.{nil_from_length, length-map}
use Rattle.std.proofs.lemmas.List.Elements.{All-nil, All-cons, All-head, All-tail, All-append, All-weaker}
use Rattle.std.proofs.lemmas.Bool.{eqb-true}
use Rattle.std.proofs.lemmas.Bool.Decides.{nat_tests}
use Rattle.hilti_tree.specs.declared.call.Call.{Call}
use Rattle.hilti_core.specs.declared.event.Event.{Event}
use Rattle.hilti_core.specs.declared.event.Event.TheVariants.{Feed, Take, Put}
use Rattle.hilti_core.specs.Sending.{Sender, Sender.Capture, Sender.Thread, Letter, letters, Effect, put_at}
use Rattle.hilti_core.specs.Machine.{Start}
use Rattle.hilti_core.specs.Core.{Waiting, Core, Post, core_of_none, arrivals}
use Rattle.hilti_core.specs.Causes.{start_name, post_name}
use Rattle.hilti_core.specs.Kept.{posts_to, starts_at, waiting_name}
use Rattle.hilti_core.specs.Sums.{sum_below}
use Rattle.hilti_core.specs.Inboxes.{Rises, NoneFrom, waiting_below, KeepsInboxes}
use Rattle.hilti_core.proofs.Lists.{put_cases}
use Rattle.hilti_core.proofs.Sums.{sum_same, sum_zero, sum_put}
use Rattle.hilti_core.proofs.Moves.{Moves, Moves.Fed, Moves.Goes, Moves.Starts, Moves.Home, keeps_play}
use Rattle.hilti_core.proofs.Posts.{posts_of}
use Rattle.hilti_core.proofs.Causal.{core_in_order}

-- how many elements of a list go to a thread
abbrev hits : {A : Type 0} → (A → ℕ) → ℕ → List A → ℕ
hits f to [] = 0
hits f to (x ∷ xs) = cond (eqb to (f x)) (suc (hits f to xs)) (hits f to xs)

-- a number above all threads that they go to
abbrev above : {A : Type 0} → (A → ℕ) → List A → ℕ
above f [] = 0
above f (x ∷ xs) = suc (f x) + above f xs

abbrev post_to : Post → ℕ
post_to post = post.letter.to

abbrev start_at : Start → ℕ
start_at start = start.receiver

posts_hit : (to : ℕ) (posts : List Post) → length (posts_to to posts) ≡ hits post_to to posts
posts_hit to [] = refl
posts_hit to (post ∷ more) = go (eqb to post.letter.to) (posts_hit to more)
  where
    go : (b : Bool) → length (posts_to to more) ≡ hits post_to to more → length (cond b (post_name post ∷ posts_to to more) (posts_to to more)) ≡ cond b (suc (hits post_to to more)) (hits post_to to more)
    go true e = ap suc e
    go false e = e

starts_hit : (to : ℕ) (started : List Start) → length (starts_at to started) ≡ hits start_at to started
starts_hit to [] = refl
starts_hit to (start ∷ more) = go (eqb to start.receiver) (starts_hit to more)
  where
    go : (b : Bool) → length (starts_at to more) ≡ hits start_at to more → length (cond b (start_name start ∷ starts_at to more) (starts_at to more)) ≡ cond b (suc (hits start_at to more)) (hits start_at to more)
    go true e = ap suc e
    go false e = e

-- each element goes to one thread
sum_hits : {A : Type 0} (f : A → ℕ) (bound : ℕ) (xs : List A) → above f xs ≤ bound → sum_below bound (λ to. hits f to xs) ≡ length xs
sum_hits f bound [] low = sum_zero bound (λ to. 0) (λ to. refl)
sum_hits f bound (x ∷ xs) low =
    let more = sum_hits f bound xs (omega (arith, low)) in
    let one = sum_put (λ (y : ℕ) (k : ℕ). k) (λ to. hits f to xs) (f x) (suc (hits f (f x) xs)) bound (omega (arith, low)) in
    let same = sum_same bound (λ to. hits f to (x ∷ xs)) (put_at (λ to. hits f to xs) (f x) (suc (hits f (f x) xs))) (λ to. at to (eqb to (f x)) refl) in
    omega (arith, more, one, same)
  where
    at : (to : ℕ) (b : Bool) → eqb to (f x) ≡ b → cond b (suc (hits f to xs)) (hits f to xs) ≡ cond b (suc (hits f (f x) xs)) (hits f to xs)
    at to true e = ap (λ y. suc (hits f y xs)) (eqb-true to (f x) e)
    at to false e = refl

-- nothing goes to a thread above all
hits_past : {A : Type 0} (f : A → ℕ) (xs : List A) (to : ℕ) → above f xs ≤ to → hits f to xs ≡ 0
hits_past f [] to high = refl
hits_past f (x ∷ xs) to high = go (eqb to (f x)) refl (hits_past f xs to (omega (arith, high)))
  where
    go : (b : Bool) → eqb to (f x) ≡ b → hits f to xs ≡ 0 → cond b (suc (hits f to xs)) (hits f to xs) ≡ 0
    go true e again = absurd (let same : to ≡ f x = eqb-true to (f x) e in omega (arith, high, same))
    go false e again = again

-- a sum over more threads, of which the others have nothing
sum_further : (bound more : ℕ) (f : ℕ → ℕ) → ((x : ℕ) → bound ≤ x → f x ≡ 0) → sum_below (more + bound) f ≡ sum_below bound f
sum_further bound zero f h = ap (λ k. sum_below k f) (let e : zero + bound ≡ bound = omega arith in e)
sum_further bound (suc n) f h =
    let e : suc n + bound ≡ suc (n + bound) = omega arith in
    ap (λ k. sum_below k f) e ∙ (let k : sum_below (suc (n + bound)) f ≡ sum_below bound f = omega (arith, sum_further bound n f h, h (n + bound) (omega arith)) in k)

-- each part of a sum that is 0 is 0
sum_parts : (bound : ℕ) (f : ℕ → ℕ) → sum_below bound f ≡ 0 → (x : ℕ) → x < bound → f x ≡ 0
sum_parts zero f e x low = absurd (omega (arith, low))
sum_parts (suc n) f e x low = go (eqb x n) refl (sum_parts n f (omega (arith, e)) x)
  where
    go : (b : Bool) → eqb x n ≡ b → (x < n → f x ≡ 0) → f x ≡ 0
    go true is again = let same : f x ≡ f n = ap f (eqb-true x n is) in omega (arith, e, same)
    go false is again = again (grind (arith, nat_tests))

module _ (c : Core) (queue : (to : ℕ) → posts_to to c.posts ≡ starts_at to c.started ++ map waiting_name (c.inbox to)) where
  counted_at : (to : ℕ) → hits post_to to c.posts ≡ hits start_at to c.started + length (c.inbox to)
  counted_at to =
      let e = ap length (queue to) in
      let k = length-append (starts_at to c.started) (map waiting_name (c.inbox to)) in
      let l = length-map (c.inbox to) waiting_name in
      omega (arith, e, k, l, posts_hit to c.posts, starts_hit to c.started)

  sum_both : (bound : ℕ) → sum_below bound (λ to. hits post_to to c.posts) ≡ sum_below bound (λ to. hits start_at to c.started) + sum_below bound (λ to. length (c.inbox to))
  sum_both zero = refl
  sum_both (suc n) = omega (arith, sum_both n, counted_at n)

  bounded : NoneFrom (above post_to c.posts) c
  bounded to high = nil_from_length (c.inbox to) (omega (arith, counted_at to, hits_past post_to c.posts to high))

  counts : (bound : ℕ) → NoneFrom bound c → length c.started + waiting_below bound c ≡ length c.posts
  counts bound none =
      let more : ℕ = above post_to c.posts + above start_at c.started in
      let p = sum_hits post_to (more + bound) c.posts (omega arith) in
      let s = sum_hits start_at (more + bound) c.started (omega arith) in
      let w = sum_further bound more (λ to. length (c.inbox to)) (λ x high. ap length (none x high)) in
      omega (arith, p, s, w, sum_both (more + bound))

  all_started : ((to : ℕ) → c.inbox to ≡ []) → length c.started ≡ length c.posts
  all_started none = let k = counts 0 (λ to high. none to) in omega (arith, k)

  none_waits : length c.started ≡ length c.posts → (to : ℕ) → c.inbox to ≡ []
  none_waits e to =
      let bound : ℕ = suc to + above post_to c.posts in
      let k = counts bound (λ x high. bounded x (omega (arith, high))) in
      nil_from_length (c.inbox to) (sum_parts bound (λ x. length (c.inbox x)) (omega (arith, k, e)) to (omega arith))

-- numbers below a bound
abbrev Below : ℕ → Waiting → Type 0
Below n waiting = waiting.number < n

rises_append : (xs ys : List Waiting) (n : ℕ) → Rises xs → Rises ys → All (Below n) xs → All (λ (w : Waiting). n ≤ w.number) ys → Rises (xs ++ ys)
rises_append [] ys n a b low high = b
rises_append (x ∷ xs) ys n a b low high = (
  All-append (λ (later : Waiting). x.number < later.number) xs ys a.0
      (All-weaker (λ (w : Waiting). n ≤ w.number) (λ (later : Waiting). x.number < later.number) (λ w h. let k : x.number < n = All-head (Below n) x xs low in omega (arith, h, k)) ys high),
  rises_append xs ys n a.1 b (All-tail (Below n) x xs low) high,
)

-- what arrives has rising numbers from a first one on
pub arrivals_high : (s : Sender) (n to : ℕ) (sent : List Letter) → All (λ (w : Waiting). n ≤ w.number) (arrivals s n to sent)
arrivals_high s n to [] = All-nil (λ (w : Waiting). n ≤ w.number)
arrivals_high s n to (letter ∷ more) = go (eqb to letter.to)
    (All-weaker (λ (w : Waiting). suc n ≤ w.number) (λ (w : Waiting). n ≤ w.number) (λ w h. omega (arith, h)) (arrivals s (suc n) to more) (arrivals_high s (suc n) to more))
  where
    go : (b : Bool) → All (λ (w : Waiting). n ≤ w.number) (arrivals s (suc n) to more) →
        All (λ (w : Waiting). n ≤ w.number) (cond b (record { sender = s; message = letter.message; number = n } ∷ arrivals s (suc n) to more) (arrivals s (suc n) to more))
    go true h = All-cons (λ (w : Waiting). n ≤ w.number) (record { sender = s; message = letter.message; number = n }) (arrivals s (suc n) to more) (omega arith) h
    go false h = h

arrivals_low : (s : Sender) (n to : ℕ) (sent : List Letter) → All (Below (n + length sent)) (arrivals s n to sent)
arrivals_low s n to [] = All-nil (Below (n + 0))
arrivals_low s n to (letter ∷ more) = go (eqb to letter.to)
    (All-weaker (Below (suc n + length more)) (Below (n + suc (length more))) (λ w h. omega (arith, h)) (arrivals s (suc n) to more) (arrivals_low s (suc n) to more))
  where
    go : (b : Bool) → All (Below (n + suc (length more))) (arrivals s (suc n) to more) →
        All (Below (n + suc (length more))) (cond b (record { sender = s; message = letter.message; number = n } ∷ arrivals s (suc n) to more) (arrivals s (suc n) to more))
    go true h = All-cons (Below (n + suc (length more))) (record { sender = s; message = letter.message; number = n }) (arrivals s (suc n) to more) (omega arith) h
    go false h = h

arrivals_rise : (s : Sender) (n to : ℕ) (sent : List Letter) → Rises (arrivals s n to sent)
arrivals_rise s n to [] = tt
arrivals_rise s n to (letter ∷ more) = go (eqb to letter.to) (arrivals_rise s (suc n) to more)
  where
    go : (b : Bool) → Rises (arrivals s (suc n) to more) → Rises (cond b (record { sender = s; message = letter.message; number = n } ∷ arrivals s (suc n) to more) (arrivals s (suc n) to more))
    go true h = (All-weaker (λ (w : Waiting). suc n ≤ w.number) (λ (later : Waiting). n < later.number) (λ w h. omega (arith, h)) (arrivals s (suc n) to more) (arrivals_high s (suc n) to more), h)
    go false h = h

-- each inbox rises, below the number of posts
record Numbers (c : Core) : Type 0 where
  rises : (to : ℕ) → Rises (c.inbox to)
  below : (to : ℕ) → All (Below (length c.posts)) (c.inbox to)

numbers_post : (c : Core) (s : Sender) (sent : List Letter) → Numbers c → (to : ℕ) →
    Rises (c.inbox to ++ arrivals s (length c.posts) to sent) × All (Below (length (c.posts ++ posts_of s sent))) (c.inbox to ++ arrivals s (length c.posts) to sent)
numbers_post c s sent h to =
    let n : ℕ = length c.posts in
    let mapped : length (posts_of s sent) ≡ length sent = length-map {B = Post} sent (λ (letter : Letter). record { sender = s; letter = letter }) in
    let more : length (c.posts ++ posts_of s sent) ≡ n + length sent = omega (arith, length-append c.posts (posts_of s sent), mapped) in (
      rises_append (c.inbox to) (arrivals s n to sent) n (h.rises to) (arrivals_rise s n to sent) (h.below to) (arrivals_high s n to sent),
      All-append (Below (length (c.posts ++ posts_of s sent))) (c.inbox to) (arrivals s n to sent)
          (All-weaker (Below n) (Below (length (c.posts ++ posts_of s sent))) (λ w low. omega (arith, low, more)) (c.inbox to) (h.below to))
          (subst (λ k. All (Below k) (arrivals s n to sent)) (sym more) (arrivals_low s n to sent)),
    )

rises_tail : (w : Waiting) (more : List Waiting) → Rises (w ∷ more) → Rises more
rises_tail w more h = h.1

numbers_step : (effect : Effect) (limit : ℕ) (event : Event) (c d : Core) → Moves effect limit c d event → Numbers c → Numbers d
numbers_step effect limit event c d move h = go event move
  where
    go : (event : Event) → Moves effect limit c d event → Numbers d
    go Feed (Fed call rest is) = subst Numbers (sym is.gives) (record {
      rises = λ to. (numbers_post c Capture (record { to = 0; message = record { call = call; place = c.fed } } ∷ []) h to).0;
      below = λ to. (numbers_post c Capture (record { to = 0; message = record { call = call; place = c.fed } } ∷ []) h to).1;
    })
    go (Take w x) (Goes worker thread running is) = subst Numbers (sym is.gives) (record { rises = h.rises; below = h.below })
    go (Take w x) (Starts worker thread head rest is) = subst Numbers (sym is.gives) (record {
      rises = put_cases (λ to inbox. Rises inbox) c.inbox thread.n rest (rises_tail head rest (subst Rises is.inbox (h.rises thread.n))) h.rises;
      below = put_cases (λ to inbox. All (Below (length c.posts)) inbox) c.inbox thread.n rest
          (All-tail (Below (length c.posts)) head rest (subst (All (Below (length c.posts))) is.inbox (h.below thread.n))) h.below;
    })
    go (Put w) (Home worker r running segment rest is) = subst Numbers (sym is.gives) (record {
      rises = λ to. (numbers_post c (Thread r) (letters (c.thread r).sent segment.items) h to).0;
      below = λ to. (numbers_post c (Thread r) (letters (c.thread r).sent segment.items) h to).1;
    })

pub keeps_inboxes : (effect : Effect) (calls : List Call) (limit : ℕ) (journal : List Event) → KeepsInboxes effect calls limit journal
keeps_inboxes effect calls limit journal c e =
    let numbers = keeps_play effect limit Numbers (numbers_step effect limit) journal (core_of_none calls) c e (record { rises = λ to. tt; below = λ to. All-nil (Below 0) }) in
    let queue = (core_in_order effect calls limit journal c e).queue in
    record {
      rises = numbers.rises;
      bound = (above post_to c.posts, bounded c queue);
      counts = counts c queue;
      none = (all_started c queue, none_waits c queue);
    }
