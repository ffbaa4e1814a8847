-- The loop that makes pieces of tokens.
use Rattle.std.proofs.Common.{◌≡◌, zero, suc, ◌+◌, ◌<◌, ◌^◌, ◌⊎◌, inl, inr, Bool, true, false, cond, ◌&&◌, List, [], ◌∷◌, ◌++◌, length, sym, ◌∙◌, ap, subst, append_assoc, arith}
use Rattle.std.specs.Prelude.{Option, Some, None, option_map}
use Rattle.std.specs.Option.{option_to_list}
use Rattle.std.specs.List.{All}
use Rattle.std.proofs.lemmas.List.Elements.{All-append}
use Rattle.hilti_base.specs.declared.names.Place.{Place}
use Rattle.hilti_lexer.specs.declared.token.Token.{Token}
use Rattle.hilti_kinds.specs.declared.kind.Kind.{Kind}
use Rattle.hilti_kinds.specs.declared.kind.Kind.TheVariants as kinds
use Rattle.hilti_kinds.specs.declared.piece.Piece.{Piece}
use Rattle.hilti_pieces.specs.declared.surroundings.Surroundings.{Surroundings}
use Rattle.hilti_kinds.specs.Kinds.{kind_of, IsPiece}
use Rattle.hilti_kinds.specs.Kinds.{is}
use Rattle.hilti_pieces.specs.Pieces.{is_deep, line_end_stands, kind_behind, pieces_behind, pieces_of, end_token}
use Rattle.hilti_pieces.specs.Surroundings.{Describes}

-- these pieces are those of the tokens before the ones that are left, of which this was kept
pub record Gathered (tokens : List Token) (end_place : Place) (kept : Surroundings) (pieces : List Piece) (left : List Token) : Type 0 where
  pub before : List Kind
  pub describes : Describes kept before
  pub room : length before + length left < 2 ^ 64
  pub told : pieces ++ pieces_behind before left ≡ pieces_of tokens end_place
  pub are_pieces : All IsPiece pieces

pub begun : (tokens : List Token) (end_place : Place) (kept : Surroundings) (left : List Token) → Describes kept [] → left ≡ tokens ++ end_token end_place ∷ [] → length left < 2 ^ 64 →
    Gathered tokens end_place kept [] left
begun tokens end_place kept left describes e small = record {
  before = [];
  describes = describes;
  room = omega arith;
  told = ap (pieces_behind []) e;
  are_pieces = λ k d h. absurd (omega arith);
}

-- a piece is of its token's kind or a `<` that is too deep
kind_is : (before : List Kind) (kind found : Kind) → kind_behind before kind ≡ Some found → (found ≡ kind) ⊎ (found ≡ kinds.DeepLess)
kind_is before kind found e = by_tests (is kinds.LineEnd kind) (line_end_stands before) (is kinds.Less kind && is_deep before) e
  where
    by_tests : (a b d : Bool) → cond a (cond b (Some kind) None) (cond d (Some kinds.DeepLess) (Some kind)) ≡ Some found → (found ≡ kind) ⊎ (found ≡ kinds.DeepLess)
    by_tests true true d e = inl (cc)
    by_tests true false d e = absurd (let h : ⊥ = cc in h)
    by_tests false b true e = inr (cc)
    by_tests false b false e = inl (cc)

all_of_one : (P : Piece → Type 0) (piece : Piece) → P piece → All P (piece ∷ [])
all_of_one P piece last zero d h = last
all_of_one P piece last (suc k) d h = absurd (omega arith)

-- the pieces of a token of which a piece of this kind stands, if any
abbrev pieces_for : Option Kind → Token → List Piece
pieces_for found token = option_to_list (option_map (λ kind. record { token = token; kind = kind }) found)

-- one token further
next_told : (tokens : List Token) (end_place : Place) (kept : Surroundings) (pieces : List Piece) (left rest : List Token) (token : Token) (kind : Kind) (found : Option Kind) (g : Gathered tokens end_place kept pieces left) →
    left ≡ token ∷ rest → kind ≡ kind_of token.kind → found ≡ kind_behind g.before kind →
    pieces ++ (pieces_for found token ++ pieces_behind (kind ∷ g.before) rest) ≡ pieces_of tokens end_place
next_told tokens end_place kept pieces left rest token kind found g e same told =
    ap (λ f. pieces ++ (pieces_for f token ++ pieces_behind (kind ∷ g.before) rest)) told
    ∙ (ap (λ k. pieces ++ (pieces_for (kind_behind g.before k) token ++ pieces_behind (k ∷ g.before) rest)) same
    ∙ (ap (λ l. pieces ++ pieces_behind g.before l) (sym e)
    ∙ g.told))

-- a token that is no piece
pub passed_over : (tokens : List Token) (end_place : Place) (kept then_kept : Surroundings) (pieces more : List Piece) (left rest : List Token) (token : Token) (kind : Kind) (found : Option Kind) →
    Gathered tokens end_place kept pieces left → left ≡ token ∷ rest → kind ≡ kind_of token.kind →
    ((before : List Kind) → Describes kept before → found ≡ kind_behind before kind) →
    ((before : List Kind) → Describes kept before → Describes then_kept (kind ∷ before)) → found ≡ None → more ≡ pieces →
    Gathered tokens end_place then_kept more rest
passed_over tokens end_place kept then_kept pieces more left rest token kind found g e same told behind none stays = record {
  before = kind ∷ g.before;
  describes = behind g.before g.describes;
  room = let longer : length left ≡ suc (length rest) = ap length e in omega (arith, g.room, longer);
  told =
      ap (λ m. m ++ pieces_behind (kind ∷ g.before) rest) stays
      ∙ (ap (λ f. pieces ++ (pieces_for f token ++ pieces_behind (kind ∷ g.before) rest)) (sym none)
      ∙ next_told tokens end_place kept pieces left rest token kind found g e same (told g.before g.describes));
  are_pieces = subst (All IsPiece) (sym stays) g.are_pieces;
}

-- a token that is a piece
pub added : (tokens : List Token) (end_place : Place) (kept then_kept : Surroundings) (pieces more : List Piece) (left rest : List Token) (token : Token) (kind stands : Kind) (found : Option Kind) →
    Gathered tokens end_place kept pieces left → left ≡ token ∷ rest → kind ≡ kind_of token.kind →
    ((before : List Kind) → Describes kept before → found ≡ kind_behind before kind) →
    ((before : List Kind) → Describes kept before → Describes then_kept (kind ∷ before)) → found ≡ Some stands →
    more ≡ pieces ++ record { token = token; kind = stands } ∷ [] →
    Gathered tokens end_place then_kept more rest
added tokens end_place kept then_kept pieces more left rest token kind stands found g e same told behind some grown = record {
  before = kind ∷ g.before;
  describes = behind g.before g.describes;
  room = let longer : length left ≡ suc (length rest) = ap length e in omega (arith, g.room, longer);
  told =
      ap (λ m. m ++ pieces_behind (kind ∷ g.before) rest) grown
      ∙ (append_assoc pieces (record { token = token; kind = stands } ∷ []) (pieces_behind (kind ∷ g.before) rest)
      ∙ (ap (λ f. pieces ++ (pieces_for f token ++ pieces_behind (kind ∷ g.before) rest)) (sym some)
      ∙ next_told tokens end_place kept pieces left rest token kind found g e same (told g.before g.describes)));
  are_pieces = subst (All IsPiece) (sym grown)
      (All-append IsPiece pieces (record { token = token; kind = stands } ∷ []) g.are_pieces
      (all_of_one IsPiece (record { token = token; kind = stands }) (is_piece (kind_is g.before kind stands (sym (told g.before g.describes) ∙ some)))));
}
  where
    is_piece : (stands ≡ kind) ⊎ (stands ≡ kinds.DeepLess) → (stands ≡ kind_of token.kind) ⊎ (stands ≡ kinds.DeepLess)
    is_piece (inl h) = inl (h ∙ same)
    is_piece (inr h) = inr h
