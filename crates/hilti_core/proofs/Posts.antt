-- Posts and starts in their order: each change adds one at the end.
use Rattle.std.proofs.Common.{◌≡◌, ℕ, ◌+◌, ◌<◌, ◌≤◌, suc, Bool, true, false, cond, List, [], ◌∷◌, ◌++◌, refl, ap, sym, ◌∙◌, subst, arith, append_assoc, eqb, ◌⊎◌, inl, inr}
use Rattle.std.specs.Prelude.{map}
use Rattle.std.specs.List.{Contains}
use Rattle.std.proofs.lemmas.List.{append-nil}
use Rattle.std.proofs.lemmas.List.Elements.{Contains-append_left, Contains-append_right, Contains-push, Contains-push_cases}
use Rattle.std.proofs.lemmas.Bool.{eqb-true}
use Rattle.std.proofs.lemmas.Bool.Decides.{nat_tests}
use Rattle.hilti_core.specs.declared.pieces.Item.{Item}
use Rattle.hilti_core.specs.declared.pieces.Item.TheVariants.{Send, Line}
use Rattle.hilti_core.specs.Sending.{Sender, Sender.Thread, same_sender, Letter, letters, sends}
use Rattle.hilti_core.specs.Machine.{Start}
use Rattle.hilti_core.specs.Core.{Post}
use Rattle.hilti_core.specs.Causes.{Name, start_name, post_name, WasPosted}
use Rattle.hilti_core.proofs.Lists.{same_sender_refl, same_sender_tells}

-- how many calls a sender posted
abbrev pub count : Sender → List Post → ℕ
count s [] = 0
count s (post ∷ more) = cond (same_sender s post.sender) (suc (count s more)) (count s more)

pub count-append : (s : Sender) (xs ys : List Post) → count s (xs ++ ys) ≡ count s xs + count s ys
count-append s [] ys = omega arith
count-append s (post ∷ xs) ys = go (same_sender s post.sender) (count-append s xs ys)
  where
    go : (b : Bool) → count s (xs ++ ys) ≡ count s xs + count s ys → cond b (suc (count s (xs ++ ys))) (count s (xs ++ ys)) ≡ cond b (suc (count s xs)) (count s xs) + count s ys
    go true e = omega (arith, e)
    go false e = e

-- a list cut before its last element or within the rest
pub push_cut : {A : Type 0} (xs : List A) (y : A) (front : List A) (n : A) (back : List A) → xs ++ y ∷ [] ≡ front ++ n ∷ back →
    ((rest : List A) × (xs ≡ front ++ n ∷ rest)) ⊎ ((front ≡ xs) × (n ≡ y))
push_cut [] y [] n back e = inr (refl, cc)
push_cut [] y (f ∷ []) n back e = absurd cc
push_cut [] y (f ∷ g ∷ front) n back e = absurd cc
push_cut (x ∷ xs) y [] n back e = inl (xs, cc)
push_cut {A} (x ∷ xs) y (f ∷ front) n back e = go (push_cut xs y front n back cc)
  where
    go : ((rest : List A) × (xs ≡ front ++ n ∷ rest)) ⊎ ((front ≡ xs) × (n ≡ y)) → ((rest : List A) × (x ∷ xs ≡ f ∷ (front ++ n ∷ rest))) ⊎ ((f ∷ front ≡ x ∷ xs) × (n ≡ y))
    go (inl h) = inl (h.0, cc (h.1))
    go (inr h) = inr (cc (h.0), h.1)

-- a cause in one step
pub data Cause (started : List Start) (m n : Name) : Type 0 where
  BySender : m.sender ≡ n.sender → m.place < n.place → Cause started m n
  ByStart : (start : Start) → Contains started start → start_name start ≡ m → n.sender ≡ Thread start.receiver → start.sent ≤ n.place → Cause started m n

-- posts and starts in their order
pub record InOrder (posts : List Post) (started : List Start) : Type 0 where
  pub all : (s : Sender) (k : ℕ) → k < count s posts → WasPosted posts (record { sender = s; place = k })
  pub below : (post : Post) → Contains posts post → post.letter.message.place < count post.sender posts
  pub unique : (p q : Post) → Contains posts p → Contains posts q → post_name p ≡ post_name q → p.letter.to ≡ q.letter.to
  pub once : (front back : List Post) (post : Post) → posts ≡ front ++ post ∷ back → ¬ WasPosted front (post_name post)
  pub starts : (start : Start) → Contains started start → WasPosted posts (start_name start)
  pub after : (front back : List Post) (post : Post) (name : Name) → posts ≡ front ++ post ∷ back → Cause started name (post_name post) → WasPosted front name

posted_left : (xs ys : List Post) (name : Name) → WasPosted xs name → WasPosted (xs ++ ys) name
posted_left xs ys name h = (h.0, Contains-append_left xs ys h.0 h.1, h.2)

module _ (posts : List Post) (started : List Start) (h : InOrder posts started) where
  -- one more post, which its sender numbers by those that it posted
  pub order_post : (new : Post) → new.letter.message.place ≡ count new.sender posts → InOrder (posts ++ new ∷ []) started
  order_post new numbered = record {
    all = λ s k low. every s k (same_sender_tells s new.sender) low;
    below = λ post c. low post (Contains-push_cases posts new post c);
    unique = λ p q cp cq e. single p q (Contains-push_cases posts new p cp) (Contains-push_cases posts new q cq) e;
    once = λ front back post is w. one front post w (push_cut posts new front post back is);
    starts = λ start c. posted_left posts (new ∷ []) (start_name start) (h.starts start c);
    after = λ front back post name is cause. later front post name cause (push_cut posts new front post back is);
  }
    where
      here : (s : Sender) → same_sender s new.sender ≡ true → count s (posts ++ new ∷ []) ≡ suc (count s posts)
      here s e = let k : count s (new ∷ []) ≡ 1 = ap (λ b. cond b 1 0) e in omega (arith, count-append s posts (new ∷ []), k)

      there : (s : Sender) → same_sender s new.sender ≡ false → count s (posts ++ new ∷ []) ≡ count s posts
      there s e = let k : count s (new ∷ []) ≡ 0 = ap (λ b. cond b 1 0) e in omega (arith, count-append s posts (new ∷ []), k)

      grows : (s : Sender) → count s posts ≤ count s (posts ++ new ∷ [])
      grows s = omega (arith, count-append s posts (new ∷ []))

      every : (s : Sender) (k : ℕ) → ((same_sender s new.sender ≡ true) × (s ≡ new.sender)) ⊎ (same_sender s new.sender ≡ false) → k < count s (posts ++ new ∷ []) → WasPosted (posts ++ new ∷ []) (record { sender = s; place = k })
      every s k (inr e) low = posted_left posts (new ∷ []) (record { sender = s; place = k }) (h.all s k (omega (arith, there s e, low)))
      every s k (inl e) low = at (eqb k (count s posts)) refl
        where
          at : (b : Bool) → eqb k (count s posts) ≡ b → WasPosted (posts ++ new ∷ []) (record { sender = s; place = k })
          at true t = (new, Contains-push posts new, let a : k ≡ count s posts = eqb-true k (count s posts) t in cc (a, numbered, e.1))
          at false t = posted_left posts (new ∷ []) (record { sender = s; place = k }) (h.all s k (let d = here s e.0 in grind (arith, nat_tests, d, low)))

      low : (post : Post) → Contains posts post ⊎ (new ≡ post) → post.letter.message.place < count post.sender (posts ++ new ∷ [])
      low post (inl c) = omega (arith, h.below post c, grows post.sender)
      low post (inr e) = subst (λ (x : Post). x.letter.message.place < count x.sender (posts ++ new ∷ [])) e (omega (arith, here new.sender (same_sender_refl new.sender), numbered))

      -- no post has the new one's name
      fresh : (p : Post) → Contains posts p → post_name p ≡ post_name new → ⊥
      fresh p c e =
          let a : p.letter.message.place ≡ new.letter.message.place = ap (λ (x : Name). x.place) e in
          let b : count p.sender posts ≡ count new.sender posts = ap (λ (x : Name). count x.sender posts) e in
          omega (arith, h.below p c, a, b, numbered)

      single : (p q : Post) → Contains posts p ⊎ (new ≡ p) → Contains posts q ⊎ (new ≡ q) → post_name p ≡ post_name q → p.letter.to ≡ q.letter.to
      single p q (inl a) (inl b) e = h.unique p q a b e
      single p q (inl a) (inr b) e = absurd (fresh p a (e ∙ ap post_name (sym b)))
      single p q (inr a) (inl b) e = absurd (fresh q b (sym e ∙ ap post_name (sym a)))
      single p q (inr a) (inr b) e = ap (λ (x : Post). x.letter.to) (sym a ∙ b)

      one : (front : List Post) (post : Post) → WasPosted front (post_name post) → ((rest : List Post) × (posts ≡ front ++ post ∷ rest)) ⊎ ((front ≡ posts) × (post ≡ new)) → ⊥
      one front post w (inl c) = h.once front c.0 post c.1 w
      one front post w (inr c) = fresh w.0 (subst (λ l. Contains l w.0) c.0 w.1) (w.2 ∙ ap post_name c.1)

      cause_posted : (name : Name) → Cause started name (post_name new) → WasPosted posts name
      cause_posted name (BySender same before) = h.all name.sender name.place (let k : count name.sender posts ≡ count new.sender posts = ap (λ s. count s posts) same in omega (arith, k, before, numbered))
      cause_posted name (ByStart start c is by place) = subst (WasPosted posts) is (h.starts start c)

      later : (front : List Post) (post : Post) (name : Name) → Cause started name (post_name post) → ((rest : List Post) × (posts ≡ front ++ post ∷ rest)) ⊎ ((front ≡ posts) × (post ≡ new)) → WasPosted front name
      later front post name cause (inl c) = h.after front c.0 post name c.1 cause
      later front post name cause (inr c) = subst (λ l. WasPosted l name) (sym c.0) (cause_posted name (subst (λ (x : Post). Cause started name (post_name x)) c.1 cause))

  -- one more start of a posted call, whose receiver posted all that it sent
  pub order_start : (new : Start) → WasPosted posts (start_name new) → new.sent ≡ count (Thread new.receiver) posts → InOrder posts (started ++ new ∷ [])
  order_start new posted sent = record {
    all = h.all;
    below = h.below;
    unique = h.unique;
    once = h.once;
    starts = λ start c. at start (Contains-push_cases started new start c);
    after = λ front back post name is cause. later front back post name is cause;
  }
    where
      at : (start : Start) → Contains started start ⊎ (new ≡ start) → WasPosted posts (start_name start)
      at start (inl c) = h.starts start c
      at start (inr e) = subst (λ (x : Start). WasPosted posts (start_name x)) e posted

      later : (front back : List Post) (post : Post) (name : Name) → posts ≡ front ++ post ∷ back → Cause (started ++ new ∷ []) name (post_name post) → WasPosted front name
      later front back post name is (BySender same before) = h.after front back post name is (BySender same before)
      later front back post name is (ByStart start c named by place) = go (Contains-push_cases started new start c)
        where
          there : Contains posts post
          there = subst (λ l. Contains l post) (sym is) (Contains-append_right front (post ∷ back) post (Contains-append_left (post ∷ []) back post (Contains-push [] post)))

          go : Contains started start ⊎ (new ≡ start) → WasPosted front name
          go (inl d) = h.after front back post name is (ByStart start d named by place)
          go (inr e) = absurd (
              let a : new.sent ≤ post.letter.message.place = subst (λ (x : Start). x.sent ≤ post.letter.message.place) (sym e) place in
              let b : count post.sender posts ≡ count (Thread new.receiver) posts = ap (λ s. count s posts) (by ∙ ap (λ (x : Start). Thread x.receiver) (sym e)) in
              omega (arith, h.below post there, a, b, sent))

pub order_none : InOrder [] []
order_none = record {
  all = λ s k low. absurd (omega arith);
  below = λ post c. absurd (omega (arith, c.1));
  unique = λ p q c d e. absurd (omega (arith, c.1));
  once = λ front back post is w. nothing front back post is;
  starts = λ start c. absurd (omega (arith, c.1));
  after = λ front back post name is cause. absurd (nothing front back post is);
}
  where
    nothing : (front back : List Post) (post : Post) → [] ≡ front ++ post ∷ back → ⊥
    nothing [] back post e = cc
    nothing (x ∷ front) back post e = cc

-- the posts of a thread's letters
abbrev pub posts_of : Sender → List Letter → List Post
posts_of sender sent = map (λ letter. record { sender = sender; letter = letter }) sent

-- all that some items send is posted in order
pub order_items : (items : List Item) (posts : List Post) (started : List Start) (s : Sender) (k : ℕ) → k ≡ count s posts → InOrder posts started → InOrder (posts ++ posts_of s (letters k items)) started
order_items [] posts started s k e h = subst (λ l. InOrder l started) (sym (append-nil posts)) h
order_items (Send to call ∷ items) posts started s k e h =
    let new : Post = record { sender = s; letter = record { to = to.n; message = record { call = call; place = k } } } in
    let more : count s (new ∷ []) ≡ 1 = ap (λ b. cond b 1 0) (same_sender_refl s) in
    subst (λ l. InOrder l started) (append_assoc posts (new ∷ []) (posts_of s (letters (suc k) items)))
    (order_items items (posts ++ new ∷ []) started s (suc k) (omega (arith, count-append s posts (new ∷ []), more, e)) (order_post posts started h new e))
order_items (Line text ∷ items) posts started s k e h = order_items items posts started s k e h

pub count_items : (items : List Item) (s t : Sender) (k : ℕ) → count t (posts_of s (letters k items)) ≡ cond (same_sender t s) (sends items) 0
count_items [] s t k = go (same_sender t s)
  where
    zero_of : ℕ
    zero_of = 0

    go : (b : Bool) → zero_of ≡ cond b zero_of zero_of
    go true = refl
    go false = refl
count_items (Send to call ∷ items) s t k = go (same_sender t s) (count_items items s t (suc k))
  where
    go : (b : Bool) → count t (posts_of s (letters (suc k) items)) ≡ cond b (sends items) 0 →
        cond b (suc (count t (posts_of s (letters (suc k) items)))) (count t (posts_of s (letters (suc k) items))) ≡ cond b (suc (sends items)) 0
    go true e = ap suc e
    go false e = e
count_items (Line text ∷ items) s t k = count_items items s t k
