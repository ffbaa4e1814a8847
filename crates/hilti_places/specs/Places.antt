-- The places that the tree of a module keeps, and what it is for places to rise.
use Rattle.std.specs.Prelude.{◌≡◌, ◌⊎◌, ◌<◌, ℕ, List, [], ◌∷◌, ◌++◌, map, Option}
use Rattle.std.specs.List.{All, AllPairs}
use Rattle.hilti_base.specs.declared.names.Place.{Place}
use Rattle.hilti_lexer.specs.declared.token.Token.{Token}
use Rattle.hilti_grammar.specs.Grammar.{Tree.Nothing, Tree.Spot, Tree.Leaf, Tree.Pair, Tree.Left, Tree.Right}
use Rattle.hilti_module.specs.declared.types.Number.{Number}
use Rattle.hilti_module.specs.declared.types.Word.{Word}
use Rattle.hilti_module.specs.declared.module.Item.{Item}
use Rattle.hilti_module.specs.declared.module.Item.TheVariants as items
use Rattle.hilti_reader.specs.Spelled.{ModuleTree}
use Rattle.hilti_syntax.specs.Items.{item_tree, version_tree}

-- a place is before another: on an earlier line, or further left on the same line
abbrev pub IsBefore : Place → Place → Type 0
IsBefore a b = (a.line < b.line) ⊎ ((a.line ≡ b.line) × (a.column < b.column))

-- places of a file that rise: each is before all that come later
pub record Rise (file : ℕ) (places : List Place) : Type 0 where
  pub of_file : All (λ place. place.file ≡ file) places
  pub in_turn : AllPairs IsBefore places

-- the one list is the other with some elements left out
pub data IsPartOf {X : Type 0} : List X → List X → Type 0 where
  AtEnd : IsPartOf [] []
  Kept : {x : X} {xs ys : List X} → IsPartOf xs ys → IsPartOf (x ∷ xs) (x ∷ ys)
  LeftOut : {y : X} {xs ys : List X} → IsPartOf xs ys → IsPartOf xs (y ∷ ys)

-- the tokens that a tree keeps, from left to right
abbrev pub kept_tokens : ModuleTree → List Token
kept_tokens Nothing = []
kept_tokens (Spot token) = token ∷ []
kept_tokens (Leaf piece) = piece.token ∷ []
kept_tokens (Pair front back) = kept_tokens front ++ kept_tokens back
kept_tokens (Left tree) = kept_tokens tree
kept_tokens (Right tree) = kept_tokens tree

-- the places of tokens
abbrev pub places_of : List Token → List Place
places_of = map (λ token. token.place)

-- the places in a tree, from left to right
abbrev pub tree_places : ModuleTree → List Place
tree_places tree = places_of (kept_tokens tree)

-- the place of the version of a module, where it is written
abbrev pub version_places : Option Number → List Place
version_places version = tree_places (version_tree version)

-- the places in an item
abbrev pub item_places : Item → List Place
item_places item = tree_places (item_tree item)

-- the word that names an item: of a hook's body, the first word of the hook's name
abbrev pub name_word : Item → Word
name_word (items.Type name shape) = name
name_word (items.Global kind name value) = name
name_word (items.Hook name parameters) = name
name_word (items.HookBody name parameters priority body) = name.first
name_word (items.Function result name parameters body) = name

abbrev pub name_place : Item → Place
name_place item = (name_word item).place
