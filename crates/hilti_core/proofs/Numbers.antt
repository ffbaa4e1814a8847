-- The number of a call on one whole number.
use Rattle.std.proofs.Common.{◌≡◌, ℕ, [], ◌∷◌, ap, sym, ◌∙◌}
use Rattle.hilti_tree.specs.declared.tree.Tree.TheVariants as variants
use Rattle.hilti_tree.specs.declared.tree.Tree.TheOpen.{Int}
use Rattle.hilti_tree.specs.declared.tree.Tree.TheFolds.{fold-Tree, fold-roll-Tree}
use Rattle.hilti_core.specs.Countdown.{number_in, number_of}

pub number_is : (n : ℕ) → number_of (variants.Int n ∷ []) ≡ n
number_is n = ap (fold-Tree ℕ number_in) (sym (variants.rolls-Int n)) ∙ fold-roll-Tree ℕ number_in (Int n)
