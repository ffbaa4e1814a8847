-- What a reader of a typed value promises, and the invariants of the loops in it.
use Rattle.std.specs.Prelude.{List, [], ◌∷◌, Result, Ok, Err}
use Rattle.hilti_grammar.specs.Grammar.{Grammar, Symbol, Symbol.◌▹◌, Symbol.Many, Tree}
use Rattle.hilti_grammar.specs.Grammar.{Tree.Nothing, Tree.Pair}
use Rattle.hilti_grammar.specs.Predictive.{Known}
use Rattle.hilti_grammar.specs.Runs.{Faults, Outcome, Outcome.Done, Outcome.Failed, changed, Runs}

-- how a reader's result ends reading: a value stands for its tree
abbrev pub outcome : {E P T V : Type 0} → (V → Tree P T) → Result V E → List T → Outcome E P T
outcome tree (Ok value) rest = Done (tree value) rest
outcome tree (Err e) rest = Failed e rest

-- the reader of this symbol went from the one list of tokens to the other with this result
abbrev pub Reads : {K R P T E V : Type 0} → Grammar K R P T → (R → Known K) → Faults E K T
    → Symbol K R → (V → Tree P T) → List T → Result V E → List T → Type 0
Reads g of_rule faults s tree before result after =
    Runs g of_rule faults s before (outcome tree result after)

-- the trees of a list, as any number of symbols gives them, before a last tree
abbrev pub in_front : {P T : Type 0} → List (Tree P T) → Tree P T → Tree P T
in_front [] tree = tree
in_front (x ∷ xs) tree = Pair x (in_front xs tree)

-- the tree of any number of symbols
abbrev pub list_tree : {P T : Type 0} → List (Tree P T) → Tree P T
list_tree xs = in_front xs Nothing

-- A loop over any number of a symbol, in the middle: it began at `before`, read these trees and
-- stands at `now`. What the rest gives, the whole gives.
abbrev pub Repeats : {K R P T E : Type 0} → Grammar K R P T → (R → Known K) → Faults E K T
    → Symbol K R → List T → List (Tree P T) → List T → Type 0
Repeats {P} {T} {E} g of_rule faults a before xs now = (out : Outcome E P T)
    → Runs g of_rule faults (Many a) now out
    → Runs g of_rule faults (Many a) before (changed (in_front xs) out)

-- one or more items with a separator between each two
abbrev pub separated : {K R : Type 0} → Symbol K R → Symbol K R → Symbol K R
separated item separator = item ▹ Many (separator ▹ item)

-- the trees of items behind their separators, of which nothing is kept
abbrev pub behind : {P T : Type 0} → List (Tree P T) → List (Tree P T)
behind [] = []
behind (x ∷ xs) = Pair Nothing x ∷ behind xs

-- the tree of separated items
abbrev pub separated_tree : {P T : Type 0} → List (Tree P T) → Tree P T
separated_tree [] = Nothing
separated_tree (x ∷ xs) = Pair x (list_tree (behind xs))

-- A loop over separated items, in the middle, behind the first item: what the rest gives, the whole
-- gives.
abbrev pub Gathers : {K R P T E : Type 0} → Grammar K R P T → (R → Known K) → Faults E K T
    → Symbol K R → Symbol K R → List T → Tree P T → List (Tree P T) → List T → Type 0
Gathers {P} {T} {E} g of_rule faults item separator before x xs now = (out : Outcome E P T) →
    Runs g of_rule faults (Many (separator ▹ item)) now out
    → Runs g of_rule faults (separated item separator) before
    (changed (λ rest. Pair x (in_front (behind xs) rest)) out)
