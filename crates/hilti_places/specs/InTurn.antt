-- The textual order of the parts of a module is the order of their places.
use Rattle.std.specs.Prelude.{◌≡◌, ℕ, List, ◌∷◌, ◌++◌, map}
use Rattle.std.specs.List.{Contains, flat_map}
use Rattle.hilti_base.specs.declared.names.Place.{Place}
use Rattle.hilti_lexer.specs.declared.token.Token.{Token}
use Rattle.hilti_lexer.specs.Readings.{Lexes}
use Rattle.hilti_module.specs.declared.module.Item.{Item}
use Rattle.hilti_module.specs.declared.module.Module.{Module}
use Rattle.hilti_pieces.specs.Pieces.{pieces_of}
use Rattle.hilti_places.specs.Places.{IsBefore, IsPartOf, Rise, item_places, kept_tokens, name_place, places_of, tree_places, version_places}
use Rattle.hilti_syntax.specs.Items.{IsModule, module_tree}
use Rattle.hilti_syntax.specs.Texts.{TextIsModule}

-- the places of the tokens of a text rise
abbrev pub TokensRise : Type 0
TokensRise = (file : ℕ) (text : List ℕ) (tokens : List Token) →
    Lexes file text tokens → Rise file (places_of tokens)

-- the tree of a module keeps tokens that it was read from, each at most once, in their order
abbrev pub KeepsTokens : Type 0
KeepsTokens = (tokens : List Token) (end_place : Place) (m : Module) →
    IsModule (pieces_of tokens end_place) m → IsPartOf (kept_tokens (module_tree m)) tokens

-- the places in the tree of a module rise
abbrev pub PlacesRise : Type 0
PlacesRise = (file : ℕ) (text : List ℕ) (m : Module) →
    TextIsModule file text m → Rise file (tree_places (module_tree m))

-- the places in the tree of a module are those of its name, then that of its version where it is
-- written, and then those of its items, one item behind another
abbrev pub ItemsInTurn : Type 0
ItemsInTurn = (m : Module) →
    tree_places (module_tree m)
    ≡ m.name.place ∷ version_places m.version ++ flat_map item_places m.items

-- every place of an item is before every place of a later one
abbrev pub ItemsApart : Type 0
ItemsApart =
    (file : ℕ) (text : List ℕ) (m : Module) (front back : List Item) (a b : Place) →
    TextIsModule file text m → m.items ≡ front ++ back →
    Contains (flat_map item_places front) a → Contains (flat_map item_places back) b →
    IsBefore a b

-- the place of an item's name is one of its places
abbrev pub NameKept : Type 0
NameKept = (item : Item) → Contains (item_places item) (name_place item)

-- the places of the name of a module, of its version and of the names of its items rise
abbrev pub NamesRise : Type 0
NamesRise = (file : ℕ) (text : List ℕ) (m : Module) →
    TextIsModule file text m →
    Rise file (m.name.place ∷ version_places m.version ++ map name_place m.items)
