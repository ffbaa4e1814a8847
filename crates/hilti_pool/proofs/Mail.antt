-- Calls that wait, in their order of posting, against the inboxes.
use Rattle.std.proofs.Common.{◌≡◌, ℕ, ◌+◌, ◌<◌, ◌≤◌, suc, Bool, true, false, cond, List, [], ◌∷◌, ◌++◌, length, map, refl, ap, sym, ◌∙◌, subst, arith, eqb, length-append}
use Rattle.std.specs.List.{All}
use Rattle.std.proofs.lemmas.Bool.{eqb-true, eq-eqb}
use Rattle.std.proofs.lemmas.List.{length_push}
use Rattle.std.proofs.lemmas.List.Elements.{All-nil, All-cons, All-head, All-tail, All-append, All-weaker}
use Rattle.hilti_tree.specs.declared.call.Call.{Call}
use Rattle.hilti_core.specs.declared.pieces.Item.{Item}
use Rattle.hilti_core.specs.declared.pieces.Item.TheVariants.{Send, Line}
use Rattle.hilti_core.specs.Sending.{Sender, Letter, letters}
use Rattle.hilti_core.specs.Core.{Waiting, Core, arrivals, post, begins}
use Rattle.hilti_pool.specs.declared.seat.Posted.{Posted}
use Rattle.hilti_pool.specs.Hall.{posted_by, IsFor, NoneFor, TakesFirst}
use Rattle.hilti_pool.specs.Stands.{Delivery, posted_of, inbox_in, AreInOrder, MailStands}

-- what these letters deliver, where the first has this number
abbrev pub deliveries_of : Sender → ℕ → List Letter → List Delivery
deliveries_of s n [] = []
deliveries_of s n (letter ∷ more) = record { to = letter.to; waiting = record { sender = s; message = letter.message; number = n } } ∷ deliveries_of s (suc n) more

inbox_in-append : (to : ℕ) (xs ys : List Delivery) → inbox_in to (xs ++ ys) ≡ inbox_in to xs ++ inbox_in to ys
inbox_in-append to [] ys = refl
inbox_in-append to (x ∷ xs) ys = go (eqb to x.to) (inbox_in-append to xs ys)
  where
    go : (b : Bool) → inbox_in to (xs ++ ys) ≡ inbox_in to xs ++ inbox_in to ys →
        cond b (x.waiting ∷ inbox_in to (xs ++ ys)) (inbox_in to (xs ++ ys)) ≡ cond b (x.waiting ∷ inbox_in to xs) (inbox_in to xs) ++ inbox_in to ys
    go true e = ap (λ l. x.waiting ∷ l) e
    go false e = e

inbox_in-deliveries : (to : ℕ) (s : Sender) (n : ℕ) (sent : List Letter) → inbox_in to (deliveries_of s n sent) ≡ arrivals s n to sent
inbox_in-deliveries to s n [] = refl
inbox_in-deliveries to s n (letter ∷ more) =
    ap (λ l. cond (eqb to letter.to) (record { sender = s; message = letter.message; number = n } ∷ l) l) (inbox_in-deliveries to s (suc n) more)

pub posted-deliveries : (s : Sender) (n k : ℕ) (items : List Item) → map posted_of (deliveries_of s n (letters k items)) ≡ posted_by items
posted-deliveries s n k [] = refl
posted-deliveries s n k (Send to call ∷ items) = ap (λ l. record { to = to; call = call } ∷ l) (posted-deliveries s (suc n) (suc k) items)
posted-deliveries s n k (Line text ∷ items) = posted-deliveries s n k items

late : (s : Sender) (m n : ℕ) (sent : List Letter) → m ≤ n → All (λ later. m ≤ later.waiting.number) (deliveries_of s n sent)
late s m n [] h = All-nil (λ later. m ≤ later.waiting.number)
late s m n (letter ∷ more) h = All-cons (λ later. m ≤ later.waiting.number) (record { to = letter.to; waiting = record { sender = s; message = letter.message; number = n } }) (deliveries_of s (suc n) more)
    h (late s m (suc n) more (omega arith))

soon : (s : Sender) (m n : ℕ) (sent : List Letter) → n + length sent ≤ m → All (λ later. later.waiting.number < m) (deliveries_of s n sent)
soon s m n [] h = All-nil (λ later. later.waiting.number < m)
soon s m n (letter ∷ more) h = All-cons (λ later. later.waiting.number < m) (record { to = letter.to; waiting = record { sender = s; message = letter.message; number = n } }) (deliveries_of s (suc n) more)
    (omega arith) (soon s m (suc n) more (omega arith))

length-deliveries : (s : Sender) (n : ℕ) (sent : List Letter) → length (deliveries_of s n sent) ≡ length sent
length-deliveries s n [] = refl
length-deliveries s n (letter ∷ more) = ap suc (length-deliveries s (suc n) more)

length-map : {A B : Type 0} (f : A → B) (xs : List A) → length (map f xs) ≡ length xs
length-map f [] = refl
length-map f (x ∷ xs) = ap suc (length-map f xs)

ordered-deliveries : (s : Sender) (n : ℕ) (sent : List Letter) → AreInOrder (deliveries_of s n sent)
ordered-deliveries s n [] = tt
ordered-deliveries s n (letter ∷ more) = (late s n (suc n) more (omega arith), ordered-deliveries s (suc n) more)

ordered-append : (ws : List Delivery) (s : Sender) (n : ℕ) (sent : List Letter) → AreInOrder ws → All (λ w. w.waiting.number < n) ws → AreInOrder (ws ++ deliveries_of s n sent)
ordered-append [] s n sent o h = ordered-deliveries s n sent
ordered-append (w ∷ ws) s n sent o h =
    let first : w.waiting.number < n = All-head (λ w. w.waiting.number < n) w ws h in (
      All-append (λ later. w.waiting.number ≤ later.waiting.number) ws (deliveries_of s n sent) o.0 (late s w.waiting.number n sent (omega arith)),
      ordered-append ws s n sent o.1 (All-tail (λ w. w.waiting.number < n) w ws h),
    )

map-append : {A B : Type 0} (f : A → B) (xs ys : List A) → map f (xs ++ ys) ≡ map f xs ++ map f ys
map-append f [] ys = refl
map-append f (x ∷ xs) ys = ap (λ l. f x ∷ l) (map-append f xs ys)

-- letters that are posted wait behind all others
pub mail_posts : (c : Core) (s : Sender) (sent : List Letter) (mail more : List Posted) → MailStands c mail → map posted_of (deliveries_of s (length c.posts) sent) ≡ more →
    MailStands (post s sent c) (mail ++ more)
mail_posts c s sent mail more m is = record {
  deliveries = m.deliveries ++ new;
  posted = map-append posted_of m.deliveries new ∙ ap (λ l. l ++ map posted_of new) m.posted ∙ ap (λ l. mail ++ l) is;
  inboxes = λ to. ap (λ l. l ++ arrivals s n to sent) (m.inboxes to) ∙ ap (λ l. inbox_in to m.deliveries ++ l) (sym (inbox_in-deliveries to s n sent)) ∙ sym (inbox_in-append to m.deliveries new);
  ordered = ordered-append m.deliveries s n sent m.ordered m.below;
  below = All-append (λ w. w.waiting.number < total) m.deliveries new
      (All-weaker (λ w. w.waiting.number < n) (λ w. w.waiting.number < total) (λ w h. omega (arith, grown)) m.deliveries m.below)
      (soon s total n sent (omega (arith, grown)));
  count = omega (arith, grown, length-append m.deliveries new, length-deliveries s n sent, m.count);
}
  where
    n : ℕ
    n = length c.posts

    new : List Delivery
    new = deliveries_of s (length c.posts) sent

    total : ℕ
    total = length (c.posts ++ map (λ letter. record { sender = s; letter = letter }) sent)

    grown : length (c.posts ++ map (λ letter. record { sender = s; letter = letter }) sent) ≡ length c.posts + length sent
    grown = length-append c.posts (map (λ letter. record { sender = s; letter = letter }) sent) ∙ ap (λ k. length c.posts + k) (length-map (λ letter. record { sender = s; letter = letter }) sent)

-- a list whose image is cut before an element is cut there
record Cut {A B : Type 0} (h : A → B) (ws : List A) (front : List B) (x : B) (back : List B) : Type 0 where
  before : List A
  at : A
  after : List A
  was : ws ≡ before ++ at ∷ after
  fronts : map h before ≡ front
  here : h at ≡ x
  backs : map h after ≡ back

cut : {A B : Type 0} (h : A → B) (ws : List A) (front : List B) (x : B) (back : List B) → map h ws ≡ front ++ x ∷ back → Cut h ws front x back
cut h [] [] x back e = absurd cc
cut h [] (y ∷ front) x back e = absurd cc
cut h (w ∷ ws) [] x back e = record { before = []; at = w; after = ws; was = refl; fronts = refl; here = cc; backs = cc }
cut h (w ∷ ws) (y ∷ front) x back e =
    let s = cut h ws front x back (cc) in
    let same : h w ≡ y = cc in
    record { before = w ∷ s.before; at = s.at; after = s.after; was = ap (λ l. w ∷ l) s.was; fronts = ap (λ l. h w ∷ l) s.fronts ∙ ap (λ z. z ∷ front) same; here = s.here; backs = s.backs }

pub nothing_for : (r : ℕ) (ws : List Delivery) → NoneFor r (map posted_of ws) → inbox_in r ws ≡ []
nothing_for r [] h = refl
nothing_for r (w ∷ ws) h = go (eqb r w.to) refl (nothing_for r ws (All-tail (λ posted. ¬ IsFor r posted) (posted_of w) (map posted_of ws) h))
  where
    go : (b : Bool) → eqb r w.to ≡ b → inbox_in r ws ≡ [] → cond b (w.waiting ∷ inbox_in r ws) (inbox_in r ws) ≡ []
    go true e later = absurd (All-head (λ posted. ¬ IsFor r posted) (posted_of w) (map posted_of ws) h (sym (eqb-true r w.to e)))
    go false e later = later

pub without : {A : Type 0} (P : A → Type 0) (before : List A) (x : A) (after : List A) → All P (before ++ x ∷ after) → All P (before ++ after)
without P [] x after h = All-tail P x after h
without P (y ∷ before) x after h = All-cons P y (before ++ after) (All-head P y (before ++ x ∷ after) h) (without P before x after (All-tail P y (before ++ x ∷ after) h))

ordered-without : (before : List Delivery) (x : Delivery) (after : List Delivery) → AreInOrder (before ++ x ∷ after) → AreInOrder (before ++ after)
ordered-without [] x after h = h.1
ordered-without (y ∷ before) x after h = (without (λ later. y.waiting.number ≤ later.waiting.number) before x after h.0, ordered-without before x after h.1)

-- the first call for a thread is the head of its inbox
pub record Heads (c : Core) (r : ℕ) (taken : Call) (new : List Posted) : Type 0 where
  pub head : Waiting
  pub rest : List Waiting
  pub inbox : c.inbox r ≡ head ∷ rest
  pub call : head.message.call ≡ taken
  pub mail : (worker : ℕ) → MailStands (begins worker r head rest c) new

pub mail_starts : (c : Core) (r : ℕ) (taken : Call) (old new : List Posted) → MailStands c old → TakesFirst r taken old new → Heads c r taken new
mail_starts c r taken old new m t = record {
  head = w.waiting;
  rest = inbox_in r after;
  inbox = m.inboxes r ∙ ap (inbox_in r) s.was ∙ inbox_in-append r before (w ∷ after) ∙ ap (λ l. l ++ inbox_in r (w ∷ after)) quiet ∙ shown;
  call = ap (λ x. x.call) s.here ∙ t.call;
  mail = λ worker. record {
    deliveries = before ++ after;
    posted = map-append posted_of before after ∙ ap (λ l. l ++ map posted_of after) s.fronts ∙ ap (λ l. t.front ++ l) s.backs ∙ sym t.is;
    inboxes = λ to. go to (eqb to r) refl;
    ordered = ordered-without before w after (subst AreInOrder s.was m.ordered);
    below = without (λ d. d.waiting.number < length c.posts) before w after (subst (All (λ d. d.waiting.number < length c.posts)) s.was m.below);
    count =
        let a = ap length s.was in
        let b = length-append before (w ∷ after) in
        let d = length-append before after in
        omega (arith, a, b, d, m.count, length_push c.started (record { sender = w.waiting.sender; receiver = r; message = w.waiting.message; sent = (c.thread r).sent }));
  };
}
  where
    s : Cut posted_of m.deliveries t.front t.first t.back
    s = cut posted_of m.deliveries t.front t.first t.back (m.posted ∙ t.was)

    before : List Delivery
    before = s.before

    after : List Delivery
    after = s.after

    w : Delivery
    w = s.at

    quiet : inbox_in r s.before ≡ []
    quiet = nothing_for r s.before (subst (NoneFor r) (sym s.fronts) t.others)

    for_r : s.at.to ≡ r
    for_r = ap (λ x. x.to.n) s.here ∙ t.receiver

    shown : inbox_in r (s.at ∷ s.after) ≡ s.at.waiting ∷ inbox_in r s.after
    shown = ap (λ b. cond b (s.at.waiting ∷ inbox_in r s.after) (inbox_in r s.after)) (eq-eqb r s.at.to (sym for_r))

    hidden : (to : ℕ) → eqb to r ≡ false → inbox_in to (s.at ∷ s.after) ≡ inbox_in to s.after
    hidden to e = ap (λ b. cond b (s.at.waiting ∷ inbox_in to s.after) (inbox_in to s.after)) (ap (eqb to) for_r ∙ e)

    go : (to : ℕ) (b : Bool) → eqb to r ≡ b → cond b (inbox_in r s.after) (c.inbox to) ≡ inbox_in to (s.before ++ s.after)
    go to true e = sym (ap (λ x. inbox_in x (s.before ++ s.after)) (eqb-true to r e) ∙ inbox_in-append r s.before s.after ∙ ap (λ l. l ++ inbox_in r s.after) quiet)
    go to false e = m.inboxes to ∙ ap (inbox_in to) s.was ∙ inbox_in-append to s.before (s.at ∷ s.after) ∙ ap (λ l. inbox_in to s.before ++ l) (hidden to e) ∙ sym (inbox_in-append to s.before s.after)
