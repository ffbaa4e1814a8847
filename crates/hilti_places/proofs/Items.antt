-- The places of items.
use Rattle.std.proofs.Common.{◌≡◌, List, [], ◌∷◌, ◌++◌, map, refl, sym, ◌∙◌, ap, subst, append_assoc}
use Rattle.std.specs.List.{flat_map}
use Rattle.std.proofs.lemmas.List.{map-append}
use Rattle.hilti_lexer.specs.declared.token.Token.{Token}
use Rattle.hilti_lexer.specs.declared.token.TokenKind.TheVariants as tokens
use Rattle.hilti_module.specs.declared.types.Word.{Word}
use Rattle.hilti_module.specs.declared.module.Item.{Item}
use Rattle.hilti_module.specs.declared.module.Item.TheVariants as items
use Rattle.hilti_read_types.specs.Trees.{type_tree}
use Rattle.hilti_read_shapes.specs.Shapes.{arguments_tree, shape_tree}
use Rattle.hilti_syntax.specs.Items.{body_tree, behind_hook, declared_hook, hook_tree, item_tree, items_tree, result_tree, value_tree, version_tree}
use Rattle.hilti_places.specs.InTurn.{ItemsInTurn, NameKept}
use Rattle.hilti_places.specs.Places.{IsPartOf, item_places, kept_tokens, name_place, name_word, tree_places, version_places}
use Rattle.hilti_places.proofs.Parts.{part_both, part_contains, part_map, part_one}

list_places : (xs : List Item) → tree_places (items_tree xs) ≡ flat_map item_places xs
list_places [] = refl
list_places (x ∷ xs) =
    map-append (λ (token : Token). token.place) (kept_tokens (item_tree x)) (kept_tokens (items_tree xs)) ∙ ap (λ l. item_places x ++ l) (list_places xs)

pub items_in_turn : ItemsInTurn
items_in_turn m =
    ap (λ l. m.name.place ∷ l)
    (map-append (λ (token : Token). token.place) (kept_tokens (version_tree m.version)) (kept_tokens (items_tree m.items)) ∙ ap (λ l. version_places m.version ++ l) (list_places m.items))

-- the token of a word
abbrev token_of : Word → Token
token_of word = record { place = word.place; kind = tokens.Word word.bytes }

name_token : (item : Item) → IsPartOf (token_of (name_word item) ∷ []) (kept_tokens (item_tree item))
name_token (items.Type name shape) = part_one (token_of name) [] (kept_tokens (shape_tree shape) ++ [])
name_token (items.Global kind name value) =
    subst (IsPartOf (token_of name ∷ [])) (sym (append_assoc (kept_tokens (type_tree kind)) (token_of name ∷ []) (kept_tokens (value_tree value) ++ [])))
    (part_one (token_of name) (kept_tokens (type_tree kind)) (kept_tokens (value_tree value) ++ []))
name_token (items.Hook name parameters) = part_one (token_of name) [] (kept_tokens (declared_hook parameters))
name_token (items.HookBody name parameters priority body) =
    part_one (token_of name.first) [] (kept_tokens (behind_hook name.second parameters (hook_tree priority body)))
name_token (items.Function result name parameters body) =
    part_one (token_of name) (kept_tokens (result_tree result)) (kept_tokens (arguments_tree parameters) ++ kept_tokens (body_tree body))

name_part : (item : Item) → IsPartOf (name_place item ∷ []) (item_places item)
name_part item = part_map (λ (token : Token). token.place) (token_of (name_word item) ∷ []) (kept_tokens (item_tree item)) (name_token item)

pub name_kept : NameKept
name_kept item = part_contains (name_place item) (item_places item) (name_part item)

pub names_part : (xs : List Item) → IsPartOf (map name_place xs) (flat_map item_places xs)
names_part [] = IsPartOf.AtEnd
names_part (x ∷ xs) = part_both (name_place x ∷ []) (item_places x) (map name_place xs) (flat_map item_places xs) (name_part x) (names_part xs)
