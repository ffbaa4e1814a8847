-- The pieces of small texts, computed.
use Rattle.std.proofs.Common.{◌≡◌, ℕ, zero, suc, List, [], ◌∷◌, ◌++◌, map, codes, refl}
use Rattle.hilti_base.specs.declared.names.Place.{Place}
use Rattle.hilti_lexer.specs.declared.token.Token.{Token}
use Rattle.hilti_lexer.specs.declared.token.TokenKind.{TokenKind}
use Rattle.hilti_lexer.specs.declared.token.TokenKind.TheVariants as tokens
use Rattle.hilti_kinds.specs.declared.kind.Kind.{Kind}
use Rattle.hilti_kinds.specs.declared.kind.Kind.TheVariants as kinds
use Rattle.hilti_kinds.specs.declared.piece.Piece.{Piece}
use Rattle.hilti_pieces.specs.Ends.{end_of}
use Rattle.hilti_pieces.specs.Pieces.{pieces_of}

abbrev spot : ℕ → ℕ → Place
spot line column = record { file = 0; line = line; column = column }

abbrev token : ℕ → ℕ → TokenKind → Token
token line column kind = record { place = spot line column; kind = kind }

abbrev word : ℕ → ℕ → List ℕ → Token
word line column bytes = token line column (tokens.Word bytes)

abbrev mark : ℕ → ℕ → ℕ → Token
mark line column byte = token line column (tokens.Mark byte)

abbrev line_end : ℕ → ℕ → Token
line_end line column = token line column tokens.LineEnd

abbrev kinds_of : List Token → Place → List Kind
kinds_of text end_place = map (λ (piece : Piece). piece.kind) (pieces_of text end_place)

abbrev places_of : List Token → Place → List (ℕ × ℕ)
places_of text end_place = map (λ (piece : Piece). (piece.token.place.line, piece.token.place.column)) (pieces_of text end_place)

-- a module that prints each packet
print_text : List Token
print_text =
    word 1 1 (codes "module") ∷ word 1 8 (codes "Main") ∷ line_end 1 12
    ∷ word 2 1 (codes "void") ∷ word 2 6 (codes "packet") ∷ mark 2 12 40 ∷ word 2 13 (codes "time") ∷ word 2 18 (codes "t") ∷ mark 2 19 44
    ∷ word 2 21 (codes "bytes") ∷ word 2 27 (codes "d") ∷ mark 2 28 41 ∷ mark 2 30 123 ∷ line_end 2 31
    ∷ word 3 3 (codes "print") ∷ word 3 9 (codes "t") ∷ word 3 11 (codes "d") ∷ line_end 3 12
    ∷ word 4 3 (codes "return") ∷ mark 4 9 46 ∷ word 4 10 (codes "void") ∷ line_end 4 14
    ∷ mark 5 1 125 ∷ line_end 5 2 ∷ []

print_kinds : kinds_of print_text (spot 6 1) ≡
    kinds.Module ∷ kinds.Word ∷ kinds.LineEnd
    ∷ kinds.Void ∷ kinds.Word ∷ kinds.OpenParen ∷ kinds.Time ∷ kinds.Word ∷ kinds.Comma ∷ kinds.Bytes ∷ kinds.Word ∷ kinds.CloseParen ∷ kinds.OpenBrace ∷ kinds.LineEnd
    ∷ kinds.Word ∷ kinds.Word ∷ kinds.Word ∷ kinds.LineEnd
    ∷ kinds.Word ∷ kinds.Dot ∷ kinds.Void ∷ kinds.LineEnd
    ∷ kinds.CloseBrace ∷ kinds.LineEnd ∷ []
unfolding print_text
print_kinds = refl

-- a struct over three lines, without a last line end
struct_text : List Token
struct_text =
    word 1 1 (codes "type") ∷ word 1 6 (codes "S") ∷ mark 1 8 61 ∷ word 1 10 (codes "struct") ∷ mark 1 17 123 ∷ line_end 1 18
    ∷ word 2 3 (codes "bool") ∷ word 2 8 (codes "a") ∷ line_end 2 9
    ∷ mark 3 1 125 ∷ []

struct_kinds : kinds_of struct_text (spot 3 2) ≡ kinds.Type ∷ kinds.Word ∷ kinds.Equals ∷ kinds.Struct ∷ kinds.OpenBrace ∷ kinds.Bool ∷ kinds.Word ∷ kinds.CloseBrace ∷ kinds.LineEnd ∷ []
unfolding struct_text
struct_kinds = refl

struct_places : places_of struct_text (spot 3 2) ≡ (1, 1) ∷ (1, 6) ∷ (1, 8) ∷ (1, 10) ∷ (1, 17) ∷ (2, 3) ∷ (2, 8) ∷ (3, 1) ∷ (3, 2) ∷ []
unfolding struct_text
struct_places = refl

-- parameters over two lines, where the line end behind the body's brace stands
params_text : List Token
params_text =
    word 1 1 (codes "f") ∷ mark 1 2 40 ∷ word 1 3 (codes "bool") ∷ word 1 8 (codes "a") ∷ mark 1 9 44 ∷ line_end 1 10
    ∷ word 2 3 (codes "bool") ∷ word 2 8 (codes "b") ∷ mark 2 9 41 ∷ mark 2 11 123 ∷ line_end 2 12 ∷ []

params_kinds : kinds_of params_text (spot 3 1) ≡ kinds.Word ∷ kinds.OpenParen ∷ kinds.Bool ∷ kinds.Word ∷ kinds.Comma ∷ kinds.Bool ∷ kinds.Word ∷ kinds.CloseParen ∷ kinds.OpenBrace ∷ kinds.LineEnd ∷ []
unfolding params_text
params_kinds = refl

-- blank lines before the first token and behind the second
blank_text : List Token
blank_text = line_end 1 1 ∷ line_end 2 1 ∷ word 3 1 (codes "module") ∷ word 3 8 (codes "M") ∷ line_end 3 9 ∷ line_end 4 1 ∷ line_end 5 1 ∷ word 6 1 (codes "type") ∷ []

blank_kinds : kinds_of blank_text (spot 6 5) ≡ kinds.Module ∷ kinds.Word ∷ kinds.LineEnd ∷ kinds.Type ∷ kinds.LineEnd ∷ []
unfolding blank_text
blank_kinds = refl

blank_places : places_of blank_text (spot 6 5) ≡ (3, 1) ∷ (3, 8) ∷ (3, 9) ∷ (6, 1) ∷ (6, 5) ∷ []
unfolding blank_text
blank_places = refl

-- a text of line ends alone has no piece, and a text that ends in parentheses no last line end
no_kinds : kinds_of (line_end 1 1 ∷ line_end 2 1 ∷ []) (spot 3 1) ≡ []
no_kinds = refl

open_kinds : kinds_of (mark 1 1 40 ∷ line_end 1 2 ∷ []) (spot 2 1) ≡ kinds.OpenParen ∷ []
open_kinds = refl

-- so many of one item
abbrev times : {X : Type 0} → ℕ → X → List X
times zero item = []
times (suc n) item = item ∷ times n item

-- of 65 nested `<` the last is too deep; behind a `>` there is room for one more
deep_kinds : kinds_of (times 65 (mark 1 1 60)) (spot 1 66) ≡ times 64 kinds.Less ++ kinds.DeepLess ∷ kinds.LineEnd ∷ []
deep_kinds = refl

room_kinds : kinds_of (times 64 (mark 1 1 60) ++ mark 1 2 62 ∷ mark 1 3 60 ∷ []) (spot 1 66) ≡ times 64 kinds.Less ++ kinds.Greater ∷ kinds.Less ∷ kinds.LineEnd ∷ []
room_kinds = refl

-- where texts end
empty_end : end_of 0 [] ≡ spot 1 1
empty_end = refl

line_end_last : end_of 3 (codes "ab" ++ 10 ∷ []) ≡ record { file = 3; line = 2; column = 1 }
line_end_last = refl

word_last : end_of 0 (10 ∷ 10 ∷ codes "abc") ≡ spot 3 4
word_last = refl
