-- How many pieces the lists of a symbol have at least, by the trees that they derive.
use Rattle.std.proofs.Common.{ℕ, ◌+◌, ◌≤◌, List, [], ◌∷◌, length, map, sum_by, arith, length-append}
use Rattle.std.proofs.lemmas.List.Sums.{sum_by-cons}
use Rattle.hilti_grammar.specs.Grammar.{Symbol, Symbol.One, Symbol.◌▹◌, Symbol.◌⊕◌, Symbol.Many, Symbol.Rule, Keep, Tree.Nothing, Tree.Pair, Tree.Left, Tree.Right}
use Rattle.hilti_grammar.specs.Derives.{Derives, Derives.AToken, Derives.Both, Derives.TheLeft, Derives.TheRight, Derives.OneMore, Derives.ByRule}
use Rattle.hilti_grammar.specs.Reads.{list_tree, behind, separated, separated_tree}
use Rattle.hilti_kinds.specs.declared.kind.Kind.{Kind}
use Rattle.hilti_kinds.specs.declared.piece.Piece.{Piece}
use Rattle.hilti_reader.specs.Modules.{RuleName, grammar, rule}
use Rattle.hilti_reader.specs.Spelled.{ModuleTree}

-- what the symbol derives with this tree has at least so many pieces
pub record AtLeast (n : ℕ) (s : Symbol Kind RuleName) (x : ModuleTree) : Type 0 where
  pub least : (us : List Piece) → Derives grammar s us x → n ≤ length us

-- whatever the symbol derives has a piece
pub record Solid (s : Symbol Kind RuleName) : Type 0 where
  pub least : (us : List Piece) (x : ModuleTree) → Derives grammar s us x → 1 ≤ length us

pub fewer : {n : ℕ} {s : Symbol Kind RuleName} {x : ModuleTree} (m : ℕ) → m ≤ n → AtLeast n s x → AtLeast m s x
fewer m less p = record { least = λ us d. omega (arith, less, p.least us d) }

pub none : {s : Symbol Kind RuleName} {x : ModuleTree} → AtLeast 0 s x
none = record { least = λ us d. omega arith }

pub solid_one : {keep : Keep} {set : List Kind} → Solid (One keep set)
solid_one {keep} {set} = record { least = go }
  where
    go : (us : List Piece) (x : ModuleTree) → Derives grammar (One keep set) us x → 1 ≤ length us
    go _ _ (AToken h) = omega arith

pub solid_first : {a b : Symbol Kind RuleName} → Solid a → Solid (a ▹ b)
solid_first {a} {b} p = record { least = go }
  where
    go : (us : List Piece) (x : ModuleTree) → Derives grammar (a ▹ b) us x → 1 ≤ length us
    go _ _ (Both {us = us} {vs = vs} d f) = omega (arith, length-append us vs, p.least us _ d)

pub solid_either : {a b : Symbol Kind RuleName} → Solid a → Solid b → Solid (a ⊕ b)
solid_either {a} {b} p q = record { least = go }
  where
    go : (us : List Piece) (x : ModuleTree) → Derives grammar (a ⊕ b) us x → 1 ≤ length us
    go us _ (TheLeft d) = p.least us _ d
    go us _ (TheRight d) = q.least us _ d

pub solid_rule : (r : RuleName) → Solid (rule r) → Solid (Rule r)
solid_rule r p = record { least = go }
  where
    go : (us : List Piece) (x : ModuleTree) → Derives grammar (Rule r) us x → 1 ≤ length us
    go us x (ByRule d) = p.least us x d

pub some : {s : Symbol Kind RuleName} {x : ModuleTree} → Solid s → AtLeast 1 s x
some p = record { least = λ us d. p.least us _ d }

pub one : {keep : Keep} {set : List Kind} {x : ModuleTree} → AtLeast 1 (One keep set) x
one = some solid_one

pub both : {n m : ℕ} {a b : Symbol Kind RuleName} {x y : ModuleTree} → AtLeast n a x → AtLeast m b y → AtLeast (n + m) (a ▹ b) (Pair x y)
both {n} {m} {a} {b} {x} {y} p q = record { least = go }
  where
    go : (us : List Piece) → Derives grammar (a ▹ b) us (Pair x y) → n + m ≤ length us
    go _ (Both {us = us} {vs = vs} d f) = omega (arith, length-append us vs, p.least us d, q.least vs f)

pub first : {n : ℕ} {a b : Symbol Kind RuleName} {x y : ModuleTree} → AtLeast n a x → AtLeast n (a ▹ b) (Pair x y)
first {n} p = fewer n (omega arith) (both p none)

pub second : {n : ℕ} {a b : Symbol Kind RuleName} {x y : ModuleTree} → AtLeast n b y → AtLeast n (a ▹ b) (Pair x y)
second {n} q = fewer n (omega arith) (both none q)

pub left : {n : ℕ} {a b : Symbol Kind RuleName} {x : ModuleTree} → AtLeast n a x → AtLeast n (a ⊕ b) (Left x)
left {n} {a} {b} {x} p = record { least = go }
  where
    go : (us : List Piece) → Derives grammar (a ⊕ b) us (Left x) → n ≤ length us
    go us (TheLeft d) = p.least us d

pub right : {n : ℕ} {a b : Symbol Kind RuleName} {x : ModuleTree} → AtLeast n b x → AtLeast n (a ⊕ b) (Right x)
right {n} {a} {b} {x} p = record { least = go }
  where
    go : (us : List Piece) → Derives grammar (a ⊕ b) us (Right x) → n ≤ length us
    go us (TheRight d) = p.least us d

pub by_rule : {n : ℕ} {x : ModuleTree} (r : RuleName) → AtLeast n (rule r) x → AtLeast n (Rule r) x
by_rule {n} {x} r p = record { least = go }
  where
    go : (us : List Piece) → Derives grammar (Rule r) us x → n ≤ length us
    go us (ByRule d) = p.least us d

-- nothing is no tree of one of two symbols
pub no_choice : (n : ℕ) {a b : Symbol Kind RuleName} → AtLeast n (a ⊕ b) Nothing
no_choice n {a} {b} = record { least = go }
  where
    go : (us : List Piece) → Derives grammar (a ⊕ b) us Nothing → n ≤ length us
    go us d = elim d [ ]

-- any number of symbols
next : {n m : ℕ} {a : Symbol Kind RuleName} {x y : ModuleTree} → AtLeast n a x → AtLeast m (Many a) y → AtLeast (n + m) (Many a) (Pair x y)
next {n} {m} {a} {x} {y} p q = record { least = go }
  where
    go : (us : List Piece) → Derives grammar (Many a) us (Pair x y) → n + m ≤ length us
    go _ (OneMore {us = us} {vs = vs} d f) = omega (arith, length-append us vs, p.least us d, q.least vs f)

module _ {V : Type 0} (a : Symbol Kind RuleName) (tree : V → ModuleTree) (count : V → ℕ) (each : (v : V) → AtLeast (count v) a (tree v)) where
  pub many : (vs : List V) → AtLeast (sum_by count vs) (Many a) (list_tree (map tree vs))
  many [] = none
  many (v ∷ vs) = fewer (sum_by count (v ∷ vs)) (omega (arith, sum_by-cons count v vs)) (next (each v) (many vs))

  behind_marks : (mark : Symbol Kind RuleName) (vs : List V) → AtLeast (sum_by count vs) (Many (mark ▹ a)) (list_tree (behind (map tree vs)))
  behind_marks mark [] = none
  behind_marks mark (v ∷ vs) = fewer (sum_by count (v ∷ vs)) (omega (arith, sum_by-cons count v vs)) (next (second (each v)) (behind_marks mark vs))

  pub some_separated : (mark : Symbol Kind RuleName) (vs : List V) → AtLeast (sum_by count vs) (separated a mark) (separated_tree (map tree vs))
  some_separated mark [] = none
  some_separated mark (v ∷ vs) = fewer (sum_by count (v ∷ vs)) (omega (arith, sum_by-cons count v vs)) (both (each v) (behind_marks mark vs))

one_each : {V : Type 0} (vs : List V) → length vs ≤ sum_by (λ v. 1) vs
one_each [] = omega arith
one_each (v ∷ vs) = omega (arith, sum_by-cons (λ v. 1) v vs, one_each vs)

module _ {V : Type 0} (a : Symbol Kind RuleName) (tree : V → ModuleTree) (each : (v : V) → AtLeast 1 a (tree v)) where
  pub as_many : (vs : List V) → AtLeast (length vs) (Many a) (list_tree (map tree vs))
  as_many vs = fewer (length vs) (one_each vs) (many a tree (λ v. 1) each vs)

  pub as_many_separated : (mark : Symbol Kind RuleName) (vs : List V) → AtLeast (length vs) (separated a mark) (separated_tree (map tree vs))
  as_many_separated mark vs = fewer (length vs) (one_each vs) (some_separated a tree (λ v. 1) each mark vs)
