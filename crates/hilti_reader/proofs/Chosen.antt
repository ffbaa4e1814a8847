-- Words of some kinds, and marks whose places are kept.
use Rattle.std.proofs.Common.{◌≡◌, ℕ, Bool, true, false, cond, List, [], ◌∷◌, refl, ◌∙◌, ap, subst, eqb, inl, inr}
use Rattle.std.proofs.lemmas.Bool.{eqb-true}
use Rattle.hilti_base.specs.declared.names.Place.{Place}
use Rattle.hilti_lexer.specs.declared.token.Token.{Token}
use Rattle.hilti_lexer.specs.declared.token.TokenKind.{TokenKind}
use Rattle.hilti_lexer.specs.declared.token.TokenKind.TheVariants as tokens
use Rattle.hilti_grammar.specs.Grammar.{has, Symbol.One, Keep.Placed, Tree.Spot}
use Rattle.hilti_grammar.specs.Predictive.{within}
use Rattle.hilti_grammar.specs.Runs.{Outcome.Done}
use Rattle.hilti_grammar.proofs.Sets.{apart_none, true_not_false, within_has}
use Rattle.hilti_kinds.specs.declared.kind.Kind.{Kind}
use Rattle.hilti_kinds.specs.declared.kind.Kind.TheVariants as kinds
use Rattle.hilti_kinds.specs.declared.piece.Piece.{Piece}
use Rattle.hilti_kinds.specs.Kinds.{kind_of, mark_kind, keyword_kinds, look_up}
use Rattle.hilti_reader.specs.Modules.{grammar, any_words, words, reserved_words}
use Rattle.hilti_reader.specs.Readers.{IsAmong}
use Rattle.hilti_reader.specs.Spelled.{marked_at}
use Rattle.hilti_reader.proofs.Exits.{Goes}
use Rattle.hilti_reader.proofs.Payloads.{choose, neither, no_mark, none_in, look_up_none}

-- what is among some words is among all
among_more : (set larger : List Kind) (token : Token) → within grammar set larger ≡ true → IsAmong set token → IsAmong larger token
among_more set larger token h (inl i) = inl (within_has grammar set larger (kind_of token.kind) h i)
among_more set larger token h (inr i) = inr (within_has grammar set larger kinds.DeepLess h i)

-- what is among words is a word
pub any_word : (place : Place) (kind : TokenKind) → IsAmong any_words (record { place = place; kind = kind }) → ((bytes : List ℕ) → kind ≡ tokens.Word bytes → ⊥) → ⊥
any_word place (tokens.Word bytes) h n = n bytes refl
any_word place (tokens.Number a) h n = neither false refl h
any_word place (tokens.Decimal a b) h n = neither false refl h
any_word place (tokens.Address a) h n = neither false refl h
any_word place (tokens.Net a b) h n = neither false refl h
any_word place (tokens.Port a b) h n = neither false refl h
any_word place (tokens.Text a) h n = neither false refl h
any_word place (tokens.Bytes a) h n = neither false refl h
any_word place (tokens.Mark byte) h n = neither _ (no_mark any_words byte refl refl refl refl refl refl refl refl refl refl refl refl refl) h
any_word place tokens.LineEnd h n = neither false refl h

pub is_some_word : (set : List Kind) (place : Place) (kind : TokenKind) → within grammar set any_words ≡ true → IsAmong set (record { place = place; kind = kind }) → ((bytes : List ℕ) → kind ≡ tokens.Word bytes → ⊥) → ⊥
is_some_word set place kind all h n = any_word place kind (among_more set any_words (record { place = place; kind = kind }) all h) n

no_less : has grammar any_words kinds.DeepLess ≡ false
no_less = refl

-- a word that was taken is of the kinds that were asked for
pub word_among : (set : List Kind) (token : Token) (bytes : List ℕ) → token.kind ≡ tokens.Word bytes → within grammar set any_words ≡ true → IsAmong set token → has grammar set (look_up keyword_kinds bytes) ≡ true
word_among set token bytes e all (inl i) = subst (λ kind. has grammar set (kind_of kind) ≡ true) e i
word_among set token bytes e all (inr i) = absurd (true_not_false _ (within_has grammar set any_words kinds.DeepLess all i) no_less)

-- no word that may be a name is reserved
pub not_reserved : (kind : Kind) → has grammar words kind ≡ true → has grammar reserved_words kind ≡ false
not_reserved kind h = go (has grammar reserved_words kind) refl
  where
    go : (b : Bool) → has grammar reserved_words kind ≡ b → b ≡ false
    go false e = refl
    go true e = absurd (apart_none grammar words reserved_words kind refl h e)

-- what is in a set but not its first choice is in the others
other : (p : Kind → Bool) (b : Bool) (x y : Kind) → p x ≡ false → p (cond b x y) ≡ true → p y ≡ true
other p true x y h k = absurd (true_not_false (p x) k h)
other p false x y h k = k

first : (p : Kind → Bool) (b : Bool) (x y : Kind) → p y ≡ false → p (cond b x y) ≡ true → b ≡ true
first p true x y h k = refl
first p false x y h k = absurd (true_not_false (p y) k h)

close_brace_byte : (byte : ℕ) → has grammar (kinds.CloseBrace ∷ []) (mark_kind byte) ≡ true → eqb byte 125 ≡ true
close_brace_byte byte h =
    first p (eqb byte 125) _ _
    (choose p (eqb byte 40) _ _ refl (choose p (eqb byte 41) _ _ refl (choose p (eqb byte 60) _ _ refl (choose p (eqb byte 62) _ _ refl (choose p (eqb byte 44) _ _ refl (choose p (eqb byte 58) _ _ refl
    (choose p (eqb byte 42) _ _ refl (choose p (eqb byte 46) _ _ refl (choose p (eqb byte 61) _ _ refl (choose p (eqb byte 64) _ _ refl refl))))))))))
    (other p (eqb byte 123) _ _ refl h)
  where
    p : Kind → Bool
    p = has grammar (kinds.CloseBrace ∷ [])

-- what is among marks is a mark
module _ (set : List Kind) where
  pub is_mark : (place : Place) (kind : TokenKind) → none_in set keyword_kinds ≡ true → has grammar set kinds.Word ≡ false → has grammar set kinds.Number ≡ false → has grammar set kinds.Decimal ≡ false →
      has grammar set kinds.Address ≡ false → has grammar set kinds.NetNumber ≡ false → has grammar set kinds.PortNumber ≡ false → has grammar set kinds.Text ≡ false → has grammar set kinds.BytesText ≡ false →
      has grammar set kinds.LineEnd ≡ false → has grammar set kinds.DeepLess ≡ false → IsAmong set (record { place = place; kind = kind }) → ((byte : ℕ) → kind ≡ tokens.Mark byte → ⊥) → ⊥
  is_mark place kind a b c d e f g h i j k (inr l) n = true_not_false _ l k
  is_mark place (tokens.Word bytes) a b c d e f g h i j k (inl l) n = true_not_false _ l (look_up_none set keyword_kinds bytes a b)
  is_mark place (tokens.Number x) a b c d e f g h i j k (inl l) n = true_not_false _ l c
  is_mark place (tokens.Decimal x y) a b c d e f g h i j k (inl l) n = true_not_false _ l d
  is_mark place (tokens.Address x) a b c d e f g h i j k (inl l) n = true_not_false _ l e
  is_mark place (tokens.Net x y) a b c d e f g h i j k (inl l) n = true_not_false _ l f
  is_mark place (tokens.Port x y) a b c d e f g h i j k (inl l) n = true_not_false _ l g
  is_mark place (tokens.Text x) a b c d e f g h i j k (inl l) n = true_not_false _ l h
  is_mark place (tokens.Bytes x) a b c d e f g h i j k (inl l) n = true_not_false _ l i
  is_mark place (tokens.Mark byte) a b c d e f g h i j k (inl l) n = n byte refl
  is_mark place tokens.LineEnd a b c d e f g h i j k (inl l) n = true_not_false _ l j

pub is_close_brace : (place : Place) (kind : TokenKind) → IsAmong (kinds.CloseBrace ∷ []) (record { place = place; kind = kind }) → ((byte : ℕ) → kind ≡ tokens.Mark byte → ⊥) → ⊥
is_close_brace place kind among n = is_mark (kinds.CloseBrace ∷ []) place kind refl refl refl refl refl refl refl refl refl refl refl among n

same_token : (token : Token) (place : Place) (kind : TokenKind) → token.place ≡ place → token.kind ≡ kind → token ≡ record { place = place; kind = kind }
same_token token place kind e f = ap (λ p. record { place = p; kind = token.kind }) e ∙ ap (λ k. record { place = place; kind = k }) f

-- and which one it is
marked : (set : List Kind) (before after : List Piece) (place : Place) (byte other : ℕ) → eqb byte other ≡ true →
    Goes (One Placed set) before (Done (marked_at place byte) after) → Goes (One Placed set) before (Done (marked_at place other) after)
marked set before after place byte other same d = subst (λ b. Goes (One Placed set) before (Done (marked_at place b) after)) (eqb-true byte other same) d

pub took_close_brace : (before after : List Piece) (token : Token) (place : Place) (byte : ℕ) → token.place ≡ place → token.kind ≡ tokens.Mark byte → IsAmong (kinds.CloseBrace ∷ []) token →
    Goes (One Placed (kinds.CloseBrace ∷ [])) before (Done (Spot token) after) → Goes (One Placed (kinds.CloseBrace ∷ [])) before (Done (marked_at place 125) after)
took_close_brace before after token place byte e f among d =
    took before after place byte (subst (λ t. IsAmong (kinds.CloseBrace ∷ []) t) (same_token token place (tokens.Mark byte) e f) among)
    (subst (λ t. Goes (One Placed (kinds.CloseBrace ∷ [])) before (Done (Spot t) after)) (same_token token place (tokens.Mark byte) e f) d)
  where
    took : (before after : List Piece) (place : Place) (byte : ℕ) → IsAmong (kinds.CloseBrace ∷ []) (record { place = place; kind = tokens.Mark byte }) →
        Goes (One Placed (kinds.CloseBrace ∷ [])) before (Done (marked_at place byte) after) → Goes (One Placed (kinds.CloseBrace ∷ [])) before (Done (marked_at place 125) after)
    took before after place byte (inl i) d = marked (kinds.CloseBrace ∷ []) before after place byte 125 (close_brace_byte byte i) d
    took before after place byte (inr i) d = cc
