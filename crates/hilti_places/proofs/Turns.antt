-- The places of the parts of a module rise.
use Rattle.std.proofs.Common.{ℕ, List, [], ◌∷◌, ◌++◌, map, ◌∙◌, ap, subst}
use Rattle.std.specs.List.{flat_map}
use Rattle.std.proofs.lemmas.List.Concat.{flat_map-append}
use Rattle.hilti_lexer.specs.declared.token.Token.{Token}
use Rattle.hilti_module.specs.declared.module.Module.{Module}
use Rattle.hilti_pieces.specs.Ends.{end_of}
use Rattle.hilti_syntax.specs.Items.{module_tree}
use Rattle.hilti_syntax.specs.Texts.{TextIsModule}
use Rattle.hilti_places.specs.InTurn.{ItemsApart, NamesRise, PlacesRise}
use Rattle.hilti_places.specs.Places.{IsBefore, IsPartOf.Kept, IsPartOf.LeftOut, item_places, kept_tokens, name_place, places_of, tree_places, version_places}
use Rattle.hilti_places.proofs.Items.{items_in_turn, names_part}
use Rattle.hilti_places.proofs.Kept.{keeps_tokens}
use Rattle.hilti_places.proofs.Parts.{Climb, Pairs, part_both, part_climb, part_map, part_none, part_same, rise, two_parts}
use Rattle.hilti_places.proofs.Tokens.{tokens_climb}

module_climbs : (file : ℕ) (text : List ℕ) (m : Module) → TextIsModule file text m → Climb file (tree_places (module_tree m))
module_climbs file text m is =
    part_climb file (tree_places (module_tree m)) (places_of is.tokens)
    (part_map (λ (token : Token). token.place) (kept_tokens (module_tree m)) is.tokens (keeps_tokens is.tokens (end_of file text) m is.are.0))
    (tokens_climb file text is.tokens is.lexed)

pub places_rise : PlacesRise
places_rise file text m is = rise file (tree_places (module_tree m)) (module_climbs file text m is)

-- the places of a module by its items
items_climb : (file : ℕ) (text : List ℕ) (m : Module) → TextIsModule file text m → Climb file (m.name.place ∷ version_places m.version ++ flat_map item_places m.items)
items_climb file text m is = subst (Climb file) (items_in_turn m) (module_climbs file text m is)

-- the places of the items of a module alone
inside_climb : (file : ℕ) (text : List ℕ) (m : Module) → TextIsModule file text m → Climb file (flat_map item_places m.items)
inside_climb file text m is =
    let all = flat_map item_places m.items in
    part_climb file all (m.name.place ∷ version_places m.version ++ all) (LeftOut (part_both [] (version_places m.version) all all (part_none (version_places m.version)) (part_same all)))
    (items_climb file text m is)

pub items_apart : ItemsApart
items_apart file text m front back a b is e =
    let climb = inside_climb file text m is in
    two_parts IsBefore (flat_map item_places front) (flat_map item_places back) a b
    (subst (Pairs IsBefore) (ap (flat_map item_places) e ∙ flat_map-append item_places front back) climb.in_turn)

pub names_rise : NamesRise
names_rise file text m is =
    let version = version_places m.version in
    rise file (m.name.place ∷ version ++ map name_place m.items)
    (part_climb file (m.name.place ∷ version ++ map name_place m.items) (m.name.place ∷ version ++ flat_map item_places m.items)
    (Kept (part_both version version (map name_place m.items) (flat_map item_places m.items) (part_same version) (names_part m.items))) (items_climb file text m is))
