-- What is read stays the same while the file is read on.
use Rattle.std.proofs.Common.{◌≡◌, ◌≢◌, ℕ, ◌-◌, ◌<◌, ◌≤◌, zero, suc, true, false, List, [], ◌∷◌, ◌++◌, length, take, Option, Some, None, refl, sym, ◌∙◌, ap, inl, inr, arith, append_assoc, ltb}
use Rattle.std.proofs.lemmas.Bool.{lt-ltb, le-ltb, cases_lt}
use Rattle.std.proofs.lemmas.List.{take-append-le, take-take, length-take-le, length-append, append-nil}
use Rattle.std.specs.Io.KnownBytes.{Consumes, IsAtEnd, Keeps}
use Rattle.hilti_pcap.specs.declared.header.Header.{Header}
use Rattle.hilti_pcap.specs.Reader.{fed}
use Rattle.hilti_pcap.specs.Readings.{reading_from, reading_within}
use Rattle.hilti_feed.specs.declared.tail.Tail.{Tail}
use Rattle.hilti_feed.specs.declared.tail.Source.TheVariants as sources
use Rattle.hilti_feed.specs.Tails.{SameReading, reading_by, reading_of, weight, open_weight}

take_past : (n : ℕ) (a b : List ℕ) → length a ≤ n → take n (a ++ b) ≡ a ++ take (n - length a) b
take_past n [] b h = let same : n ≡ n - 0 = omega arith in ap (λ m. take m b) same
take_past zero (x ∷ a) b h = absurd (omega (arith, h))
take_past (suc n) (x ∷ a) b h =
    let same : n - length a ≡ suc n - suc (length a) = omega arith in
    ap (λ l. x ∷ l) (take_past n a b (omega (arith, h)) ∙ ap (λ m. a ++ take m b) same)

same_test : (a b c d : ℕ) → (a < b → c < d) → (b ≤ a → d ≤ c) → ltb a b ≡ ltb c d
same_test a b c d h k = elim (cases_lt a b) [
  | inl l ↦ lt-ltb a b l ∙ sym (lt-ltb c d (h l))
  | inr l ↦ le-ltb a b l ∙ sym (le-ltb c d (k l))
]

-- a piece that is within the room
pub within_room : (h : Header) (at room : ℕ) (held piece rest : List ℕ) → length piece ≤ room
    → reading_within h at (held ++ piece) (room - length piece) rest ≡ reading_within h at held room (piece ++ rest)
within_room h at room held piece rest l =
    let window : (held ++ piece) ++ take (room - length piece) rest ≡ held ++ take room (piece ++ rest)
    = append_assoc held piece (take (room - length piece) rest) ∙ ap (λ x. held ++ x) (sym (take_past room piece rest l)) in
    let larger : ltb (room - length piece) (length rest) ≡ ltb room (length (piece ++ rest))
    = same_test _ _ _ _ (λ m. omega (arith, m, l, length-append piece rest)) (λ m. omega (arith, m, l, length-append piece rest)) in
    ap (λ w. reading_from h at w (ltb (room - length piece) (length rest))) window
    ∙ ap (λ b. reading_from h at (held ++ take room (piece ++ rest)) b) larger

-- a piece that is past the room
pub past_room : (h : Header) (at room : ℕ) (held piece rest : List ℕ) → room < length piece
    → reading_from h at (held ++ take room piece) true ≡ reading_within h at held room (piece ++ rest)
past_room h at room held piece rest l =
    let window : held ++ take room piece ≡ held ++ take room (piece ++ rest)
    = ap (λ x. held ++ x) (sym (take-append-le room piece rest (omega (arith, l)))) in
    let larger : true ≡ ltb room (length (piece ++ rest)) = sym (lt-ltb _ _ (omega (arith, l, length-append piece rest))) in
    ap (λ w. reading_from h at w true) window
    ∙ ap (λ b. reading_from h at (held ++ take room (piece ++ rest)) b) larger

no_bytes : (n : ℕ) → ◌≡◌ {A = List ℕ} (take n []) []
no_bytes zero = refl
no_bytes (suc n) = refl

-- no further piece
pub at_end : (h : Header) (at room : ℕ) (held : List ℕ) → reading_from h at held false ≡ reading_within h at held room []
at_end h at room held =
    let window : held ≡ held ++ take room [] = sym (append-nil held) ∙ ap (λ x. held ++ x) (sym (no_bytes room)) in
    let larger : false ≡ ltb room 0 = sym (le-ltb room 0 (omega arith)) in
    ap (λ w. reading_from h at w false) window ∙ ap (λ b. reading_from h at (held ++ take room []) b) larger

pub read_more : (t t' : Tail) (r r' : Option (List ℕ)) (n : ℕ) (buffer piece : List ℕ) → t.source ≡ sources.Open → t'.source ≡ sources.Open
    → t'.reader ≡ fed piece t.reader → piece ≡ take n buffer → length piece ≡ n → n ≤ t.room → t'.room ≡ t.room - n
    → Consumes r r' (take n buffer) → SameReading t t' r r'
unfolding reading_of
read_more t t' None r' n buffer piece s s' e p l k m c = tt
read_more t t' (Some x) None n buffer piece s s' e p l k m c = absurd c
read_more t t' (Some x) (Some y) n buffer piece s s' e p l k m c =
    let room : t'.room ≡ t.room - length piece = m ∙ ap (λ i. t.room - i) (sym l) in
    let all : x ≡ piece ++ y = c ∙ ap (λ q. q ++ y) (sym p) in
    ap (λ q. reading_by q t' y) s'
    ∙ ap (λ q. reading_within q.header q.at q.bytes t'.room y) e
    ∙ ap (λ q. reading_within t.reader.header t.reader.at (t.reader.bytes ++ piece) q y) room
    ∙ within_room t.reader.header t.reader.at t.room t.reader.bytes piece y (omega (arith, l, k))
    ∙ ap (λ q. reading_within t.reader.header t.reader.at t.reader.bytes t.room q) (sym all)
    ∙ ap (λ q. reading_by q t x) (sym s)

pub read_past : (t t' : Tail) (r r' : Option (List ℕ)) (n : ℕ) (buffer piece : List ℕ) → t.source ≡ sources.Open → t'.source ≡ sources.Larger
    → t'.reader ≡ fed piece t.reader → piece ≡ take t.room buffer → t.room < n → n ≤ length buffer
    → Consumes r r' (take n buffer) → SameReading t t' r r'
unfolding reading_of
read_past t t' None r' n buffer piece s s' e p k l c = tt
read_past t t' (Some x) None n buffer piece s s' e p k l c = absurd c
read_past t t' (Some x) (Some y) n buffer piece s s' e p k l c =
    let front : piece ≡ take t.room (take n buffer) = p ∙ sym (take-take t.room n buffer (omega (arith, k))) in
    ap (λ q. reading_by q t' y) s'
    ∙ ap (λ q. reading_from q.header q.at q.bytes true) e
    ∙ ap (λ q. reading_from t.reader.header t.reader.at (t.reader.bytes ++ q) true) front
    ∙ past_room t.reader.header t.reader.at t.room t.reader.bytes (take n buffer) y (omega (arith, k, l, length-take-le n buffer l))
    ∙ ap (λ q. reading_within t.reader.header t.reader.at t.reader.bytes t.room q) (sym c)
    ∙ ap (λ q. reading_by q t x) (sym s)

pub read_nothing : (t t' : Tail) (r r' : Option (List ℕ)) (buffer : List ℕ) → t.source ≡ sources.Open → t'.source ≡ sources.Ended
    → t'.reader ≡ t.reader → Consumes r r' [] → IsAtEnd r' → SameReading t t' r r'
unfolding reading_of
read_nothing t t' None r' buffer s s' e c a = tt
read_nothing t t' (Some x) None buffer s s' e c a = absurd c
read_nothing t t' (Some x) (Some y) buffer s s' e c a =
    ap (λ q. reading_by q t' y) s'
    ∙ ap (λ q. reading_from q.header q.at q.bytes false) e
    ∙ at_end t.reader.header t.reader.at t.room t.reader.bytes
    ∙ ap (λ q. reading_within t.reader.header t.reader.at t.reader.bytes t.room q) (sym (c ∙ a))
    ∙ ap (λ q. reading_by q t x) (sym s)

pub kept : (t : Tail) (r r' : Option (List ℕ)) → Keeps r r' → SameReading t t r r'
kept t None r' k = tt
kept t (Some x) None k = absurd k
kept t (Some x) (Some y) k = ap (λ q. reading_of t q) k

pub lighter_more : (t t' : Tail) (n : ℕ) (piece : List ℕ) → t'.source ≡ t.source → t'.reader ≡ fed piece t.reader → length piece ≡ n → n ≢ 0
    → n ≤ t.room → t'.room ≡ t.room - n → weight t' < weight t
lighter_more t t' n piece s e l some k m =
    omega (arith, ap open_weight s, ap (λ h. length h.bytes) e, length-append t.reader.bytes piece, l, some, k, m)
