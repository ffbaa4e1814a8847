-- Lists of items, letters and messages, and functions that are changed at one number.
use Rattle.std.proofs.Common.{◌≡◌, ℕ, ◌+◌, zero, suc, Bool, true, false, cond, List, [], ◌∷◌, ◌++◌, drop, refl, ap, sym, ◌∙◌, subst, arith, eqb, ◌⊎◌, inl, inr}
use Rattle.std.proofs.lemmas.Bool.{eq-eqb, eqb-true}
use Rattle.hilti_core.specs.declared.pieces.Item.{Item}
use Rattle.hilti_core.specs.declared.pieces.Item.TheVariants.{Send, Line}
use Rattle.hilti_core.specs.Sending.{Sender, Sender.Capture, Sender.Thread, same_sender, Message, Letter, letters, sends, lines, mail, put_at}
use Rattle.hilti_core.specs.Core.{Waiting, arrivals}
use Rattle.hilti_core.specs.Atomic.{from_sender}

-- what holds of the new value, and of the old values elsewhere, holds of the changed function
pub put_cases : {A : Type 0} (P : ℕ → A → Type 0) (f : ℕ → A) (n : ℕ) (v : A) → P n v → ((x : ℕ) → P x (f x)) → (x : ℕ) → P x (put_at f n v x)
put_cases {A} P f n v here there x = go (eqb x n) refl
  where
    go : (b : Bool) → eqb x n ≡ b → P x (cond b v (f x))
    go true e = subst (λ y. P y v) (sym (eqb-true x n e)) here
    go false e = there x

-- the same of two functions that are changed at one number
pub put_both : {A B : Type 0} (P : ℕ → A → B → Type 0) (f : ℕ → A) (g : ℕ → B) (n : ℕ) (v : A) (w : B) → P n v w → ((x : ℕ) → P x (f x) (g x)) → (x : ℕ) → P x (put_at f n v x) (put_at g n w x)
put_both {A} {B} P f g n v w here there x = go (eqb x n) refl
  where
    go : (b : Bool) → eqb x n ≡ b → P x (cond b v (f x)) (cond b w (g x))
    go true e = subst (λ y. P y v w) (sym (eqb-true x n e)) here
    go false e = there x

-- one sender, or two
pub same_sender_tells : (a b : Sender) → ((same_sender a b ≡ true) × (a ≡ b)) ⊎ (same_sender a b ≡ false)
same_sender_tells Capture Capture = inl (refl, refl)
same_sender_tells Capture (Thread b) = inr refl
same_sender_tells (Thread a) Capture = inr refl
same_sender_tells (Thread a) (Thread b) = go (eqb a b) refl
  where
    go : (t : Bool) → eqb a b ≡ t → ((eqb a b ≡ true) × (Thread a ≡ Thread b)) ⊎ (eqb a b ≡ false)
    go true e = inl (e, ap Thread (eqb-true a b e))
    go false e = inr e

pub same_sender_refl : (a : Sender) → same_sender a a ≡ true
same_sender_refl Capture = refl
same_sender_refl (Thread a) = eq-eqb a a refl

pub same_sender_true : (a b : Sender) → same_sender a b ≡ true → a ≡ b
same_sender_true Capture Capture e = refl
same_sender_true Capture (Thread b) e = cc
same_sender_true (Thread a) Capture e = cc
same_sender_true (Thread a) (Thread b) e = ap Thread (eqb-true a b e)

pub lines-append : (xs ys : List Item) → lines (xs ++ ys) ≡ lines xs ++ lines ys
lines-append [] ys = refl
lines-append (Send to call ∷ xs) ys = lines-append xs ys
lines-append (Line text ∷ xs) ys = ap (λ l. text ∷ l) (lines-append xs ys)

pub sends-append : (xs ys : List Item) → sends (xs ++ ys) ≡ sends xs + sends ys
sends-append [] ys = omega arith
sends-append (Send to call ∷ xs) ys = omega (arith, sends-append xs ys)
sends-append (Line text ∷ xs) ys = sends-append xs ys

pub letters-append : (n : ℕ) (xs ys : List Item) → letters n (xs ++ ys) ≡ letters n xs ++ letters (n + sends xs) ys
letters-append n [] ys = ap (λ k. letters k ys) (omega arith)
letters-append n (Send to call ∷ xs) ys =
    let e : suc n + sends xs ≡ n + suc (sends xs) = omega arith in
    ap (λ l. record { to = to.n; message = record { call = call; place = n } } ∷ l) (letters-append (suc n) xs ys ∙ ap (λ k. letters (suc n) xs ++ letters k ys) e)
letters-append n (Line text ∷ xs) ys = letters-append n xs ys

pub mail-append : (to : ℕ) (xs ys : List Letter) → mail to (xs ++ ys) ≡ mail to xs ++ mail to ys
mail-append to [] ys = refl
mail-append to (letter ∷ xs) ys = go (eqb to letter.to) (mail-append to xs ys)
  where
    go : (b : Bool) → mail to (xs ++ ys) ≡ mail to xs ++ mail to ys → cond b (letter.message ∷ mail to (xs ++ ys)) (mail to (xs ++ ys)) ≡ cond b (letter.message ∷ mail to xs) (mail to xs) ++ mail to ys
    go true e = ap (λ l. letter.message ∷ l) e
    go false e = e

-- what a call sends, cut after some of its items
pub mail_cut : (to n : ℕ) (xs ys : List Item) → mail to (letters n (xs ++ ys)) ≡ mail to (letters n xs) ++ mail to (letters (n + sends xs) ys)
mail_cut to n xs ys = ap (mail to) (letters-append n xs ys) ∙ mail-append to (letters n xs) (letters (n + sends xs) ys)

pub from_sender-append : (s : Sender) (xs ys : List Waiting) → from_sender s (xs ++ ys) ≡ from_sender s xs ++ from_sender s ys
from_sender-append s [] ys = refl
from_sender-append s (w ∷ xs) ys = go (same_sender s w.sender) (from_sender-append s xs ys)
  where
    go : (b : Bool) → from_sender s (xs ++ ys) ≡ from_sender s xs ++ from_sender s ys → cond b (w.message ∷ from_sender s (xs ++ ys)) (from_sender s (xs ++ ys)) ≡ cond b (w.message ∷ from_sender s xs) (from_sender s xs) ++ from_sender s ys
    go true e = ap (λ l. w.message ∷ l) e
    go false e = e

-- what arrives from a sender that posts
pub from_sender-arrivals : (s sender : Sender) (n to : ℕ) (posted : List Letter) → from_sender s (arrivals sender n to posted) ≡ cond (same_sender s sender) (mail to posted) []
from_sender-arrivals s sender n to [] = go (same_sender s sender)
  where
    nothing : List Message
    nothing = []

    go : (b : Bool) → nothing ≡ cond b nothing nothing
    go true = refl
    go false = refl
from_sender-arrivals s sender n to (letter ∷ more) = go (eqb to letter.to) (same_sender s sender) refl (from_sender-arrivals s sender (suc n) to more)
  where
    rest : List Waiting
    rest = arrivals sender (suc n) to more

    go : (b t : Bool) → same_sender s sender ≡ t → from_sender s rest ≡ cond t (mail to more) [] →
        from_sender s (cond b (record { sender = sender; message = letter.message; number = n } ∷ rest) rest) ≡ cond t (cond b (letter.message ∷ mail to more) (mail to more)) []
    go true true e h = rw e (ap (λ l. letter.message ∷ l) h)
    go true false e h = rw e h
    go false true e h = h
    go false false e h = h

-- one more of a list that is left behind its first elements
pub drop_next : {A : Type 0} (n : ℕ) (xs : List A) (y : A) (ys : List A) → drop n xs ≡ y ∷ ys → drop (suc n) xs ≡ ys
drop_next zero [] y ys e = cc
drop_next zero (x ∷ xs) y ys e = cc
drop_next (suc n) [] y ys e = cc
drop_next (suc n) (x ∷ xs) y ys e = drop_next n xs y ys e
