-- The pieces that the grammar of modules reads: which tokens stand as pieces, and of which kinds,
-- told for each token by the kinds of the tokens before it, the nearest first.
use Rattle.std.specs.Prelude.{◌≡◌, reverse, map, ℕ, ◌-◌, Bool, false, not, cond, ◌&&◌, ◌||◌, leb, ltb, List, [], ◌∷◌, ◌++◌, Option, Some, None, option_map}
use Rattle.std.specs.List.{count_by}
use Rattle.std.specs.Option.{option_to_list}
use Rattle.hilti_base.specs.declared.names.Place.{Place}
use Rattle.hilti_lexer.specs.declared.token.Token.{Token}
use Rattle.hilti_lexer.specs.declared.token.TokenKind.TheVariants as tokens
use Rattle.hilti_kinds.specs.declared.kind.Kind.{Kind}
use Rattle.hilti_kinds.specs.declared.kind.Kind.TheVariants as kinds
use Rattle.hilti_kinds.specs.declared.piece.Piece.{Piece}
use Rattle.hilti_kinds.specs.Kinds.{is, kind_of}

-- how many marks of one kind are open: how many more of it stand there than of the kind that closes
-- it
abbrev pub open_marks : Kind → Kind → List Kind → ℕ
open_marks opens closes before = count_by (is opens) before - count_by (is closes) before

-- whether a place behind these tokens lies between `(` and `)`
abbrev pub in_parens : List Kind → Bool
in_parens before = ltb 0 (open_marks kinds.OpenParen kinds.CloseParen before)

-- whether 64 `<` or more are open
abbrev pub is_deep : List Kind → Bool
is_deep before = leb 64 (open_marks kinds.Less kinds.Greater before)

-- whether a kind is that of a word before the braces of a shape
abbrev pub is_shape_word : Kind → Bool
is_shape_word kind = is kinds.Struct kind || (is kinds.Enum kind || is kinds.Overlay kind)

-- whether the nearest token is such a word
abbrev pub behind_shape_word : List Kind → Bool
behind_shape_word [] = false
behind_shape_word (kind ∷ before) = is_shape_word kind

-- whether a place behind these tokens lies between the braces of a shape: behind a `{` that stands
-- right behind such a word, with no `}` since
abbrev pub in_shape : List Kind → Bool
in_shape [] = false
in_shape (kind ∷ before) =
    not (is kinds.CloseBrace kind)
    && ((is kinds.OpenBrace kind && behind_shape_word before) || in_shape before)

-- whether a token stands right before, and no line end
abbrev pub behind_token : List Kind → Bool
behind_token [] = false
behind_token (kind ∷ before) = not (is kinds.LineEnd kind)

-- whether a line end stands as a piece: the first of a run of them, behind a token, outside
-- parentheses and the braces of shapes
abbrev pub line_end_stands : List Kind → Bool
line_end_stands before = behind_token before && (not (in_parens before) && not (in_shape before))

-- the kind of the piece that a token of this kind is behind these, if it is one
abbrev pub kind_behind : List Kind → Kind → Option Kind
kind_behind before kind =
    cond (is kinds.LineEnd kind) (cond (line_end_stands before) (Some kind) None)
    (cond (is kinds.Less kind && is_deep before) (Some kinds.DeepLess) (Some kind))

-- the piece of a token, as a list of at most one
abbrev pub piece_behind : List Kind → Token → List Piece
piece_behind before token =
    option_to_list
    (option_map (λ kind. record { token = token; kind = kind })
    (kind_behind before (kind_of token.kind)))

-- the pieces of tokens behind these
abbrev pub pieces_behind : List Kind → List Token → List Piece
pieces_behind before [] = []
pieces_behind before (token ∷ tokens) =
    piece_behind before token ++ pieces_behind (kind_of token.kind ∷ before) tokens

-- the end of a text, which counts as a line end
abbrev pub end_token : Place → Token
end_token place = record { place = place; kind = tokens.LineEnd }

-- the pieces of a text with these tokens, which ends there
abbrev pub pieces_of : List Token → Place → List Piece
pieces_of tokens end_place = pieces_behind [] (tokens ++ end_token end_place ∷ [])

-- the kinds of these tokens, the nearest to their end first
abbrev pub kinds_behind : List Token → List Kind
kinds_behind tokens = reverse (map (λ token. kind_of token.kind) tokens)

-- Each token of a text stands by itself: wherever it is cut, there come the pieces of the tokens in
-- front, the piece of the next token as the kinds in front tell it, and the pieces of those behind.
abbrev pub EachByItself : Type 0
EachByItself =
    (tokens : List Token) (end_place : Place) (front : List Token) (token : Token)
    (back : List Token) → tokens ++ end_token end_place ∷ [] ≡ front ++ token ∷ back →
    pieces_of tokens end_place ≡ pieces_behind [] front
    ++ (piece_behind (kinds_behind front) token
    ++ pieces_behind (kind_of token.kind ∷ kinds_behind front) back)
