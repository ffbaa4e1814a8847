-- Which tokens have a kind.
use Rattle.std.proofs.Common.{◌≡◌, ℕ, Bool, true, false, cond, List, [], ◌∷◌, refl, sym, ◌∙◌, eqb}
use Rattle.std.specs.Prelude.{◌⊎◌, not, ◌&&◌, bytes_eq}
use Rattle.std.proofs.lemmas.Bool.{not-true}
use Rattle.hilti_grammar.proofs.Sets.{and_left, and_right, true_not_false, within_has}
use Rattle.std.proofs.Common.{ap, subst}
use Rattle.std.proofs.lemmas.Slice.Eq.{bytes_eq-Decides}
use Rattle.hilti_grammar.specs.Predictive.{within}
use Rattle.hilti_kinds.specs.Kinds.{IsPiece}
use Rattle.hilti_kinds.specs.declared.piece.Piece.{Piece}
use Rattle.hilti_reader.specs.declared.keyword.Keyword.{Keyword}
use Rattle.hilti_reader.specs.Spelled.{keyword_tree}
use Rattle.hilti_grammar.specs.Grammar.{sees, Symbol.One, Keep.Placed, Tree.Spot}
use Rattle.hilti_reader.specs.Readers.{ReadsTree}
use Rattle.hilti_reader.proofs.Taking.{taken}
use Rattle.std.specs.Prelude.{Ok}
use Rattle.std.specs.List.{All}
use Rattle.std.proofs.Common.{◌<◌, length, arith}
use Rattle.hilti_base.specs.declared.names.Place.{Place}
use Rattle.std.proofs.Common.{inl, inr}
use Rattle.hilti_lexer.specs.declared.token.TokenKind.{TokenKind}
use Rattle.hilti_lexer.specs.declared.token.TokenKind.TheVariants as tokens
use Rattle.hilti_grammar.specs.Grammar.{has}
use Rattle.hilti_kinds.specs.declared.kind.Kind.{Kind}
use Rattle.hilti_kinds.specs.declared.kind.Kind.TheVariants as kinds
use Rattle.hilti_kinds.specs.Kinds.{kind_of, mark_kind, keyword_kinds, look_up, spelled}
use Rattle.hilti_reader.specs.Modules.{grammar, words}
use Rattle.hilti_reader.specs.Readers.{IsAmong}

pub choose : (p : Kind → Bool) (b : Bool) (x y : Kind) → p x ≡ false → p y ≡ false → p (cond b x y) ≡ false
choose p true x y h k = h
choose p false x y h k = k

-- no mark is in a set that has none
pub no_mark : (set : List Kind) (byte : ℕ) → has grammar set kinds.OpenBrace ≡ false → has grammar set kinds.CloseBrace ≡ false → has grammar set kinds.OpenParen ≡ false →
    has grammar set kinds.CloseParen ≡ false → has grammar set kinds.Less ≡ false → has grammar set kinds.Greater ≡ false → has grammar set kinds.Comma ≡ false →
    has grammar set kinds.Colon ≡ false → has grammar set kinds.Scope ≡ false → has grammar set kinds.Dot ≡ false → has grammar set kinds.Equals ≡ false →
    has grammar set kinds.AtSign ≡ false → has grammar set kinds.Star ≡ false → has grammar set (mark_kind byte) ≡ false
no_mark set byte a b c d e f g h i j k l m =
    choose p (eqb byte 123) _ _ a (choose p (eqb byte 125) _ _ b (choose p (eqb byte 40) _ _ c (choose p (eqb byte 41) _ _ d (choose p (eqb byte 60) _ _ e
    (choose p (eqb byte 62) _ _ f (choose p (eqb byte 44) _ _ g (choose p (eqb byte 58) _ _ h (choose p (eqb byte 42) _ _ m (choose p (eqb byte 46) _ _ j
    (choose p (eqb byte 61) _ _ k (choose p (eqb byte 64) _ _ l i)))))))))))
  where
    p : Kind → Bool
    p = has grammar set

pub neither : (b : Bool) → b ≡ false → (b ≡ true) ⊎ (false ≡ true) → ⊥
neither b h (inl i) = cc
neither b h (inr i) = cc

-- what is among words is a word
pub is_word : (place : Place) (kind : TokenKind) → IsAmong words (record { place = place; kind = kind }) → ((bytes : List ℕ) → kind ≡ tokens.Word bytes → ⊥) → ⊥
is_word place (tokens.Word bytes) h n = n bytes refl
is_word place (tokens.Number a) h n = neither false refl h
is_word place (tokens.Decimal a b) h n = neither false refl h
is_word place (tokens.Address a) h n = neither false refl h
is_word place (tokens.Net a b) h n = neither false refl h
is_word place (tokens.Port a b) h n = neither false refl h
is_word place (tokens.Text a) h n = neither false refl h
is_word place (tokens.Bytes a) h n = neither false refl h
is_word place (tokens.Mark byte) h n = neither _ (no_mark words byte refl refl refl refl refl refl refl refl refl refl refl refl refl) h
is_word place tokens.LineEnd h n = neither false refl h

-- whether no kind of a list is in a set
abbrev pub none_in : List Kind → List Kind → Bool
none_in set [] = true
none_in set (kind ∷ more) = not (has grammar set kind) && none_in set more

-- a word isn't of the kinds of a set that has none that means something
pub look_up_none : (set : List Kind) (list : List Kind) (bytes : List ℕ) → none_in set list ≡ true → has grammar set kinds.Word ≡ false → has grammar set (look_up list bytes) ≡ false
look_up_none set [] bytes h w = w
look_up_none set (kind ∷ more) bytes h w =
    choose (has grammar set) (bytes_eq (spelled kind) bytes) kind (look_up more bytes)
    (not-true (has grammar set kind) (and_left (not (has grammar set kind)) (none_in set more) h))
    (look_up_none set more bytes (and_right (not (has grammar set kind)) (none_in set more) h) w)

-- what is among numbers is a number
pub is_number : (place : Place) (kind : TokenKind) → IsAmong (kinds.Number ∷ []) (record { place = place; kind = kind }) → ((value : ℕ) → kind ≡ tokens.Number value → ⊥) → ⊥
is_number place (tokens.Word bytes) h n = neither _ (look_up_none (kinds.Number ∷ []) keyword_kinds bytes refl refl) h
is_number place (tokens.Number a) h n = n a refl
is_number place (tokens.Decimal a b) h n = neither false refl h
is_number place (tokens.Address a) h n = neither false refl h
is_number place (tokens.Net a b) h n = neither false refl h
is_number place (tokens.Port a b) h n = neither false refl h
is_number place (tokens.Text a) h n = neither false refl h
is_number place (tokens.Bytes a) h n = neither false refl h
is_number place (tokens.Mark byte) h n = neither _ (no_mark (kinds.Number ∷ []) byte refl refl refl refl refl refl refl refl refl refl refl refl refl) h
is_number place tokens.LineEnd h n = neither false refl h

bytes_same : (xs ys : List ℕ) → bytes_eq xs ys ≡ true → xs ≡ ys
bytes_same xs ys h = (bytes_eq-Decides xs ys).0 h

-- a word of a kind that means something is spelled so
is_spelled : (list : List Kind) (bytes : List ℕ) (kind : Kind) → look_up list bytes ≡ kind → (kind ≡ kinds.Word → ⊥) → bytes ≡ spelled kind
is_spelled [] bytes kind e n = absurd (n (sym e))
is_spelled (first ∷ more) bytes kind e n = go (bytes_eq (spelled first) bytes) refl e (λ later. is_spelled more bytes kind later n)
  where
    go : (b : Bool) → bytes_eq (spelled first) bytes ≡ b → cond b first (look_up more bytes) ≡ kind → (look_up more bytes ≡ kind → bytes ≡ spelled kind) → bytes ≡ spelled kind
    go true same is later = sym (bytes_same (spelled first) bytes same) ∙ ap spelled is
    go false other is later = later is

off : (kind other : Kind) → kind ≡ other → has grammar keyword_kinds other ≡ false → has grammar keyword_kinds kind ≡ true → ⊥
off kind other e h k = true_not_false (has grammar keyword_kinds other) (subst (λ i. has grammar keyword_kinds i ≡ true) e k) h

-- a token of a kind that means something is the word that is spelled so
pub is_keyword : (token : TokenKind) (kind : Kind) → (kind ≡ kind_of token) ⊎ (kind ≡ kinds.DeepLess) → has grammar keyword_kinds kind ≡ true → token ≡ tokens.Word (spelled kind)
is_keyword token kind (inr e) h = absurd (off kind kinds.DeepLess e refl h)
is_keyword (tokens.Word bytes) kind (inl e) h = ap tokens.Word (is_spelled keyword_kinds bytes kind (sym e) (λ w. off kind kinds.Word w refl h))
is_keyword (tokens.Number a) kind (inl e) h = absurd (off kind kinds.Number e refl h)
is_keyword (tokens.Decimal a b) kind (inl e) h = absurd (off kind kinds.Decimal e refl h)
is_keyword (tokens.Address a) kind (inl e) h = absurd (off kind kinds.Address e refl h)
is_keyword (tokens.Net a b) kind (inl e) h = absurd (off kind kinds.NetNumber e refl h)
is_keyword (tokens.Port a b) kind (inl e) h = absurd (off kind kinds.PortNumber e refl h)
is_keyword (tokens.Text a) kind (inl e) h = absurd (off kind kinds.Text e refl h)
is_keyword (tokens.Bytes a) kind (inl e) h = absurd (off kind kinds.BytesText e refl h)
is_keyword (tokens.Mark byte) kind (inl e) h = absurd (off kind (mark_kind byte) e (no_mark keyword_kinds byte refl refl refl refl refl refl refl refl refl refl refl refl refl) h)
is_keyword tokens.LineEnd kind (inl e) h = absurd (off kind kinds.LineEnd e refl h)

-- taking a piece of a kind that means something
pub took_keyword : (set : List Kind) (pieces rest : List Piece) (piece : Piece) → pieces ≡ piece ∷ rest → sees grammar set pieces ≡ true → IsPiece piece → within grammar set keyword_kinds ≡ true →
    ReadsTree {V = Keyword} (One Placed set) keyword_tree pieces (Ok (record { place = piece.token.place; kind = piece.kind })) rest
took_keyword set pieces rest piece e seen is_piece all =
    subst (λ token. ReadsTree {V = Keyword} (One Placed set) (λ _. Spot (record { place = piece.token.place; kind = token })) pieces (Ok (record { place = piece.token.place; kind = piece.kind })) rest)
    (is_keyword piece.token.kind piece.kind is_piece (within_has grammar set keyword_kinds piece.kind all (subst (λ l. sees grammar set l ≡ true) e seen)))
    (taken set pieces rest piece e seen)

pub seen_kind : (set : List Kind) (pieces rest : List Piece) (piece : Piece) → pieces ≡ piece ∷ rest → sees grammar set pieces ≡ true → has grammar set piece.kind ≡ true
seen_kind set pieces rest piece e seen = subst (λ l. sees grammar set l ≡ true) e seen

pub first_piece : (pieces rest : List Piece) (piece : Piece) → pieces ≡ piece ∷ rest → All IsPiece pieces → IsPiece piece
first_piece pieces rest piece e all =
    let more : All IsPiece (piece ∷ rest) = subst (All IsPiece) e all in
    let here : 0 < length (piece ∷ rest) = omega arith in
    more 0 piece here
