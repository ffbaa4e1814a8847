-- How much trees of values measure together, and the texts of printed values.
use Rattle.std.proofs.Common.{◌≡◌, ℕ, ◌+◌, ◌<◌, ◌≤◌, List, [], ◌∷◌, ◌++◌, map, refl, sym, ap, ◌∙◌}
use Rattle.std.proofs.Common.{length, take, get_or, arith, sum_by, flat_map, true}
use Rattle.std.specs.Prelude.{nat_lt}
use Rattle.std.proofs.lemmas.Bool.{lt-ltb}
use Rattle.std.proofs.lemmas.List.{append_assoc, append-nil, take_more}
use Rattle.std.proofs.lemmas.List.Concat.{flat_map-append}
use Rattle.std.specs.List.{join_by}
use Rattle.std.proofs.lemmas.List.Sums.{sum-map, sum_by_more, sum_by-take-le, sum_by-cons}
use Rattle.hilti_rows.specs.declared.row.Printed.{Printed}
use Rattle.hilti_tree.specs.Sizes.{tree_size, forest_size}
use Rattle.hilti_tree.specs.declared.tree.Tree.{Tree}
use Rattle.hilti_types.specs.declared.declared.Declared.{Declared}
use Rattle.hilti_values.specs.declared.value.Value.{Value}
use Rattle.hilti_print.specs.Trees.{tree_text}
use Rattle.hilti_effects.specs.Operands.{value_at}
use Rattle.hilti_effects.specs.Printing.{Shown, shown, tree_of}
use Rattle.hilti_acting.specs.Printed.{shown_text, shown_size}

-- sums by what each is

module _ {A : Type 0} (f : A → Tree) where
  abbrev size : A → ℕ
  size x = tree_size (f x)

  all_sizes : (xs : List A) → forest_size (map f xs) ≡ sum_by size xs
  all_sizes [] = refl
  all_sizes (x ∷ xs) =
      let head = sum-map tree_size (map f (x ∷ xs)) in
      let tail = sum-map tree_size (map f xs) in
      let first = sum_by-cons tree_size (f x) (map f xs) in
      let other = sum_by-cons size x xs in
      let others = all_sizes xs in omega arith

  -- those before a place, and the one there
  pub sizes_more : (xs : List A) (at : ℕ) (x : A) → at < length xs → x ≡ get_or xs at x
      → forest_size (map f (take (at + 1) xs)) ≡ forest_size (map f (take at xs)) + tree_size (f x)
  sizes_more xs at x below is =
      omega (
        arith,
        all_sizes (take (at + 1) xs),
        all_sizes (take at xs),
        sum_by_more size xs at x below,
        ap size is,
      )

  -- some measure no more than all
  pub sizes_some : (xs : List A) (at : ℕ)
      → forest_size (map f (take at xs)) ≤ forest_size (map f xs)
  sizes_some xs at =
      omega (arith, all_sizes (take at xs), all_sizes xs, sum_by-take-le size xs at)

  pub sizes_up_to : (xs : List A) (at : ℕ) (x : A) → at < length xs → x ≡ get_or xs at x
      → forest_size (map f (take at xs)) + tree_size (f x) ≤ forest_size (map f xs)
  sizes_up_to xs at x below is =
      omega (arith, sizes_more xs at x below is, sizes_some xs (at + 1))

-- printed values

module _ (slots globals : List Value) where
  abbrev pub item_tree : Printed → Tree
  item_tree item = tree_of (value_at slots globals item.value)

  trees_are : (items : List Printed)
      → map (λ (one : Shown). one.tree) (shown slots globals items) ≡ map item_tree items
  trees_are [] = refl
  trees_are (item ∷ items) = ap (λ trees. item_tree item ∷ trees) (trees_are items)

  pub shown_are : (items : List Printed)
      → shown_size slots globals items ≡ forest_size (map item_tree items)
  shown_are items = ap forest_size (trees_are items)

  module _ (types : List Declared) where
    abbrev text : Shown → List ℕ
    text one = tree_text types one.kind one.tree

    abbrev pub texts : List ℕ → List Printed → List ℕ
    texts space items = join_by text space (shown slots globals items)

    others_are : (space : List ℕ) (items : List Printed)
        → flat_map (λ one. space ++ text one) (shown slots globals items)
        ≡ flat_map (λ item. space ++ shown_text types slots globals item) items
    others_are space [] = refl
    others_are space (item ∷ items) =
        ap (λ more. (space ++ shown_text types slots globals item) ++ more) (others_are space items)

    pub texts_are : (space : List ℕ) (items : List Printed)
        → texts space items ≡ join_by (shown_text types slots globals) space items
    texts_are space [] = refl
    texts_are space (item ∷ items) =
        ap (λ more. shown_text types slots globals item ++ more) (others_are space items)

  -- with a value that doesn't fit what is left, they measure too much
  pub over_most : (items : List Printed) (left at : ℕ) (item : Printed) (value : Value)
      → at < length items → item ≡ get_or items at item → value_at slots globals item.value ≡ value
      → left + forest_size (map item_tree (take at items)) ≡ 1000000
      → left < tree_size (tree_of value) → true ≡ nat_lt 1000000 (shown_size slots globals items)
  over_most items left at item value below is found so_far none =
      let upto = sizes_up_to item_tree items at item below is in
      let here = ap (λ v. tree_size (tree_of v)) found in
      let all = shown_are items in
      sym (lt-ltb 1000000 (shown_size slots globals items) (omega arith))

-- texts so far, and one more
pub texts_more : {A : Type 0} (f : A → List ℕ) (start out now : List ℕ) (xs : List A) (i : ℕ)
    (x : A) → i < length xs → x ≡ get_or xs i x → out ≡ start ++ flat_map f (take i xs)
    → now ≡ out ++ f x → now ≡ start ++ flat_map f (take (i + 1) xs)
texts_more f start out now xs i x below is so_far more =
    more
    ∙ ap (λ out. out ++ f x) so_far
    ∙ append_assoc start (flat_map f (take i xs)) (f x)
    ∙ ap (λ t. start ++ t)
    (sym (ap (flat_map f) (take_more xs i x below)
    ∙ flat_map-append f (take i xs) (get_or xs i x ∷ [])
    ∙ ap (λ t. flat_map f (take i xs) ++ t) (append-nil (f (get_or xs i x)) ∙ ap f (sym is))))
