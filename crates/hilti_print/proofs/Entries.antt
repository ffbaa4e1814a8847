-- The values of maps at a place.
use Rattle.std.proofs.Common.{◌≡◌, refl, sym, ◌∙◌, ap, ℕ, ◌+◌, ◌<◌, ◌≤◌, List, [], ◌++◌, length, map, take, get_or, codes, Some, None, append-nil}
use Rattle.std.proofs.lemmas.List.{take_all}
use Rattle.std.specs.List.{slice_get}
use Rattle.std.specs.Option.{option_map, unwrap_or}
use Rattle.std.proofs.lemmas.Option.{slice_get-map, slice_get-get_or, slice_get_within, same_Some}
use Rattle.hilti_tree.specs.declared.tree.Tree.{Tree}
use Rattle.hilti_tree.proofs.tree.Tree.TheLaws.{the_size}
use Rattle.hilti_tree.proofs.Added.{none_deeper}
use Rattle.hilti_tree.specs.declared.tree.Tree.TheVariants as trees
use Rattle.hilti_print.specs.Trees.{Shape, Text, value_at, entry_text, listed, before, key_shape, value_shape}
use Rattle.hilti_print.proofs.Lists.{in_three, written_more}
use denote.Param.Weighed.{most}

-- a tree at a place is no deeper than the deepest
pub found_deeper : (trees : List Tree) (at : ℕ) (tree : Tree) → Some tree ≡ slice_get trees at
    → the_size tree ≤ most the_size trees
found_deeper trees at tree is =
    let within : at < length trees = slice_get_within trees at tree (sym is) in
    none_deeper trees trees at tree refl within (same_Some tree (get_or trees at tree) (is ∙ slice_get-get_or trees at tree within))

pub value_found : (shown : Tree → Text) (values : List Tree) (shape : Shape) (at : ℕ) (tree : Tree)
    → Some tree ≡ slice_get values at → shown tree shape ≡ value_at (map shown values) shape at
value_found shown values shape at tree is =
    ap (λ found. unwrap_or (option_map (λ (value : Text). value shape) found) [])
    (ap (option_map shown) is ∙ sym (slice_get-map shown values at))

pub value_missing : (shown : Tree → Text) (values : List Tree) (shape : Shape) (at : ℕ) (out : List ℕ)
    → None ≡ slice_get values at → out ≡ out ++ value_at (map shown values) shape at
value_missing shown values shape at out is =
    sym (append-nil out)
    ∙ ap (λ found. out ++ unwrap_or (option_map (λ (value : Text). value shape) found) [])
    (ap (option_map shown) is ∙ sym (slice_get-map shown values at))

-- what is written with one entry more
pub entry_more : (shown : Tree → Text) (keys values : List Tree) (shape : Shape) (at : ℕ)
    (start before_it comma key_end colon_end end : List ℕ) → at < length keys
    → before_it ≡ start ++ listed (entry_text shape (map shown values)) (map shown (take at keys))
    → comma ≡ before_it ++ before at
    → key_end ≡ comma ++ value_at (map shown keys) (key_shape shape) at
    → colon_end ≡ key_end ++ codes ": "
    → end ≡ colon_end ++ value_at (map shown values) (value_shape shape) at
    → end ≡ start ++ listed (entry_text shape (map shown values)) (map shown (take (at + 1) keys))
entry_more shown keys values shape at start before_it comma key_end colon_end end below written separated key_is colon_is value_is =
    let key = get_or keys at trees.Null in
    let found : slice_get keys at ≡ Some key = slice_get-get_or keys at trees.Null below in
    let is : key ≡ get_or keys at key = same_Some key (get_or keys at key) (sym found ∙ slice_get-get_or keys at key below) in
    written_more (entry_text shape (map shown values)) shown keys at key start before_it comma end below is
    written separated
    (in_three comma key_end colon_end end (shown key (key_shape shape)) (codes ": ")
    (value_at (map shown values) (value_shape shape) at) _
    (key_is ∙ ap (λ text. comma ++ text) (sym (value_found shown keys (key_shape shape) at key (sym found))))
    colon_is value_is refl)

-- all entries
pub all_entries : (shown : Tree → Text) (keys values : List Tree) (shape : Shape) (at : ℕ) (start end : List ℕ)
    → length keys ≤ at
    → end ≡ start ++ listed (entry_text shape (map shown values)) (map shown (take at keys))
    → end ≡ start ++ listed (entry_text shape (map shown values)) (map shown keys)
all_entries shown keys values shape at start end past written =
    written ∙ ap (λ keys. start ++ listed (entry_text shape (map shown values)) (map shown keys)) (take_all at keys past)
