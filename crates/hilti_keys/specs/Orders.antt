-- The order of keys.
use Rattle.std.specs.Prelude.{List}
use Rattle.std.specs.declared.cmp.Ordering.{Ordering}
use Rattle.std.specs.declared.cmp.Ordering.TheVariants.{Equal}
use Rattle.std.specs.Ordering.{nat_cmp}
use Rattle.std.specs.Cmp.Lexicographic.{slice_cmp}
use Rattle.hilti_tree.specs.declared.tree.Tree.{Tree, out-Tree}
use Rattle.hilti_tree.specs.declared.tree.Tree.TheOpen.{Tree-F}
use Rattle.hilti_tree.specs.declared.tree.Tree.TheFolds.{fold-Tree}
use Rattle.hilti_keys.specs.Keys.{Key, Numbers, Parts, as_key}

-- how trees stand to others, each at its place: as the first two that differ do, a prefix first
abbrev pub in_turn : List (Tree → Ordering) → List Tree → Ordering
in_turn parts others = slice_cmp (λ compares tree. compares tree) parts others

-- scalars go by their numbers in turn, a prefix first, and tuples by their parts in turn
abbrev pub key_cmp : Key (Tree → Ordering) → Key Tree → Ordering
key_cmp (Numbers scalar numbers) (Numbers other others) = slice_cmp nat_cmp numbers others
key_cmp (Parts parts) (Parts others) = in_turn parts others
key_cmp _ _ = Equal

abbrev pub order_step : Tree-F (Tree → Ordering) → Tree → Ordering
order_step tree other = key_cmp (as_key tree) (as_key (out-Tree other))

-- how a key stands to another of its type
abbrev pub order_of : Tree → Tree → Ordering
order_of = fold-Tree (Tree → Ordering) order_step
