-- What the readers of modules promise.
use Rattle.std.specs.Prelude.{Bool, true, false, not, ◌&&◌, List, [], ◌∷◌, Result, IsTrue, ◌⊎◌}
use Rattle.hilti_base.specs.declared.names.Place.{Place}
use Rattle.hilti_lexer.specs.declared.token.Token.{Token}
use Rattle.hilti_grammar.specs.Grammar.{Symbol, Tree, has, sees}
use Rattle.hilti_grammar.specs.Runs.{Faults}
use Rattle.hilti_grammar.specs.Reads.{Reads}
use Rattle.hilti_kinds.specs.declared.kind.Kind.{Kind}
use Rattle.hilti_kinds.specs.declared.kind.Kind.TheVariants as kinds
use Rattle.hilti_kinds.specs.declared.piece.Piece.{Piece}
use Rattle.hilti_reader.specs.declared.stop.Stop.{Stop}
use Rattle.hilti_reader.specs.declared.stop.Stop.TheVariants as stops
use Rattle.hilti_kinds.specs.Kinds.{kind_of}
use Rattle.hilti_reader.specs.Modules.{RuleName, grammar, told_rules}

-- a `<` was wanted and stands there too deep
abbrev pub is_too_deep : List Kind → List Piece → Bool
is_too_deep wanted pieces =
    has grammar wanted kinds.Less && sees grammar (kinds.DeepLess ∷ []) pieces

abbrev pub refuses : Stop → Bool
refuses stops.Unexpected = true
refuses stops.TooDeep = true
refuses stops.NoMemory = false

abbrev pub explains : Stop → List Kind → List Piece → Bool
explains stops.Unexpected wanted pieces = not (is_too_deep wanted pieces)
explains stops.TooDeep wanted pieces = is_too_deep wanted pieces
explains stops.NoMemory wanted pieces = true

-- which stops refuse the tokens, and where each comes
abbrev pub stops_of : Faults Stop Kind Piece
stops_of = record { refuses = refuses; explains = explains }

-- a reader of this symbol gave this result, for which the tree stands
abbrev pub ReadsTree : {V : Type 0} → Symbol Kind RuleName → (V → Tree Token Piece) → List Piece →
    Result V Stop → List Piece → Type 0
ReadsTree s tree before result after = Reads grammar told_rules stops_of s tree before result after

-- a token is of one of these kinds, unless a `<` that is too deep is
abbrev pub IsAmong : List Kind → Token → Type 0
IsAmong set token =
    IsTrue (has grammar set (kind_of token.kind)) ⊎ IsTrue (has grammar set kinds.DeepLess)

-- the place of the first of these pieces, or of the text's end where there is none
abbrev pub first_place : List Piece → Place → Place
first_place [] end_place = end_place
first_place (piece ∷ pieces) end_place = piece.token.place

-- whether no piece is left
abbrev pub is_nil : List Piece → Bool
is_nil [] = true
is_nil (piece ∷ pieces) = false
