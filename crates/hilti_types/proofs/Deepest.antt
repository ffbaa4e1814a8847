-- The greatest of the depths of some parts, found one after another.
use Rattle.std.proofs.Common.{◌≡◌, sym, ◌∙◌, ap, ℕ, zero, suc, ◌+◌, ◌<◌, ◌≤◌, max, List, [], ◌∷◌, length, map, take, get_or, arith}
use Rattle.std.specs.List.{fold}
use Rattle.std.proofs.lemmas.List.{take_all}
use Rattle.std.proofs.lemmas.List.Folds.{fold-map}
use Rattle.std.proofs.lemmas.List.Sums.{fold_more}
use Rattle.hilti_types.specs.Depths.{greatest}

module _ {X : Type 0} (depth : X → ℕ) where
  abbrev pub deepest_of : List X → ℕ
  deepest_of parts = greatest (map depth parts)

  -- the greatest so far, and that of a further part
  pub deepest_more : (parts : List X) (at : ℕ) (part : X) → at < length parts → part ≡ get_or parts at part
      → deepest_of (take (at + 1) parts) ≡ max (deepest_of (take at parts)) (depth part)
  deepest_more parts at part below is =
      let so_far = fold-map max depth 0 (take at parts) in
      fold-map max depth 0 (take (at + 1) parts)
      ∙ fold_more (λ deepest part. max deepest (depth part)) 0 parts at part below
      ∙ ap (λ part. max (fold (λ deepest part. max deepest (depth part)) 0 (take at parts)) (depth part)) (sym is)
      ∙ ap (λ deepest. max deepest (depth part)) (sym so_far)

  grows : (from : ℕ) (parts : List X) → from ≤ fold max from (map depth parts)
  grows from [] = omega arith
  grows from (part ∷ more) = omega (arith, grows (max from (depth part)) more)

  above_each : (from : ℕ) (parts : List X) (at : ℕ) (part : X) → at < length parts
      → depth (get_or parts at part) ≤ fold max from (map depth parts)
  above_each from [] at part below = absurd (omega arith)
  above_each from (first ∷ more) zero part below = omega (arith, grows (max from (depth first)) more)
  above_each from (first ∷ more) (suc at) part below = above_each (max from (depth first)) more at part (omega arith)

  -- no part is deeper than the deepest
  pub none_deeper : (all items : List X) (at : ℕ) (part : X) → items ≡ all → at < length items
      → part ≡ get_or items at part → depth part ≤ deepest_of all
  none_deeper all items at part same below is =
      omega (arith, above_each 0 items at part below, ap depth is, ap deepest_of same)

  -- past the last part
  pub deepest_at_end : (all items : List X) (at : ℕ) → items ≡ all → length items ≤ at
      → deepest_of (take at items) ≡ deepest_of all
  deepest_at_end all items at same past = ap deepest_of (take_all at items past ∙ same)
