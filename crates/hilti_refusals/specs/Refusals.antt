-- What the tokens of a text are by the grammar of modules: a module with its tree, or refused at a
-- first place.
use Rattle.std.specs.Prelude.{◌≡◌, List, [], ◌∷◌, ◌++◌, IsTrue}
use Rattle.hilti_base.specs.declared.names.Place.{Place}
use Rattle.hilti_lexer.specs.declared.token.Token.{Token}
use Rattle.hilti_grammar.specs.Grammar.{Symbol.Rule, Tree, sees}
use Rattle.hilti_grammar.specs.Derives.{Derives, CanBegin}
use Rattle.hilti_grammar.specs.Exact.{IsRefusedAt}
use Rattle.hilti_grammar.specs.Runs.{Outcome, Outcome.Done, Outcome.Failed, Runs}
use Rattle.hilti_kinds.specs.declared.kind.Kind.TheVariants as kinds
use Rattle.hilti_kinds.specs.declared.piece.Piece.{Piece}
use Rattle.hilti_reader.specs.declared.stop.Stop.{Stop}
use Rattle.hilti_reader.specs.declared.stop.Stop.TheVariants as stops
use Rattle.hilti_reader.specs.Modules.{RuleName.ModuleText, grammar, sample, told_rules}
use Rattle.hilti_reader.specs.Readers.{first_place, refuses, stops_of}
use Rattle.hilti_pieces.specs.Pieces.{pieces_of}

-- the tokens of a text that ends there are a module with this tree
abbrev pub DerivesModule : List Token → Place → Tree Token Piece → Type 0
DerivesModule tokens end_place tree =
    Derives grammar (Rule ModuleText) (pieces_of tokens end_place) tree

-- a `<` that would be the 65th open one comes next, where the grammar allows a `<`
abbrev pub NestsTooDeep : List Piece → List Piece → Type 0
NestsTooDeep used left =
    IsTrue (sees grammar (kinds.DeepLess ∷ []) left)
    × CanBegin grammar (Rule ModuleText) (used ++ sample kinds.Less ∷ [])

-- why the pieces that are left are refused behind those that were used
abbrev pub IsWhy : Stop → List Piece → List Piece → Type 0
IsWhy stops.Unexpected used left = NestsTooDeep used left → ⊥
IsWhy stops.TooDeep used left = NestsTooDeep used left
IsWhy stops.NoMemory used left = ⊥

-- The tokens of a text that ends there are refused at this place: some module begins with the
-- pieces before it, and none with them and the next, the end counted as a token.
pub record FirstRefused (tokens : List Token) (end_place : Place) (stop : Stop) (place : Place) :
    Type 0 where
  pub used : List Piece
  pub left : List Piece
  pub split : pieces_of tokens end_place ≡ used ++ left
  pub refused : IsRefusedAt grammar (Rule ModuleText) used left
  pub why : IsWhy stop used left
  pub place_is : place ≡ first_place left end_place

-- no tokens both are a module and are refused
abbrev pub NeverBoth : Type 0
NeverBoth =
    (tokens : List Token) (end_place : Place) (tree : Tree Token Piece) (stop : Stop)
    (place : Place) →
    DerivesModule tokens end_place tree → FirstRefused tokens end_place stop place → ⊥

-- tokens are refused for one reason, at one place
abbrev pub RefusedOnce : Type 0
RefusedOnce =
    (tokens : List Token) (end_place : Place) (stop other : Stop) (place elsewhere : Place) →
    FirstRefused tokens end_place stop place → FirstRefused tokens end_place other elsewhere →
    (stop ≡ other) × (place ≡ elsewhere)

-- what the outcome of reading the pieces of a text as a module says of its tokens
abbrev pub Means : List Token → Place → Outcome Stop Token Piece → Type 0
Means tokens end_place (Done tree []) =
    DerivesModule tokens end_place tree
    × ((other : Tree Token Piece) → DerivesModule tokens end_place other → other ≡ tree)
Means tokens end_place (Done tree (next ∷ left)) =
    FirstRefused tokens end_place stops.Unexpected next.token.place
Means tokens end_place (Failed stop left) =
    IsTrue (refuses stop) → FirstRefused tokens end_place stop (first_place left end_place)

-- for every text
abbrev pub ReadsText : Type 0
ReadsText = (tokens : List Token) (end_place : Place) (out : Outcome Stop Token Piece) →
    Runs grammar told_rules stops_of (Rule ModuleText) (pieces_of tokens end_place) out →
    Means tokens end_place out
