-- Grammars as data: symbols over kinds of tokens and names of rules, and the trees that they give.
use Rattle.std.specs.Prelude.{◌≡◌, ℕ, Bool, false, ◌||◌, eqb, List, [], ◌∷◌, slice_get, Some}

infixr 40 ◌▹◌
infixr 35 ◌⊕◌
-- what a tree keeps of a token: nothing, its place, or all of it
pub data Keep : Type 0 where
  Dropped : Keep
  Placed : Keep
  Whole : Keep

-- what may stand at a place: one token of these kinds, nothing, one symbol and then another, one of
-- two symbols, any number of one symbol, or what a rule says
pub data Symbol (K R : Type 0) : Type 0 where
  One : Keep → List K → Symbol K R
  Empty : Symbol K R
  ◌▹◌ : Symbol K R → Symbol K R → Symbol K R
  ◌⊕◌ : Symbol K R → Symbol K R → Symbol K R
  Many : Symbol K R → Symbol K R
  Rule : R → Symbol K R

-- what is read, by the shape of its symbol. Any number of symbols is pairs up to a nothing.
pub data Tree (P T : Type 0) : Type 0 where
  Nothing : Tree P T
  Spot : P → Tree P T
  Leaf : T → Tree P T
  Pair : Tree P T → Tree P T → Tree P T
  Left : Tree P T → Tree P T
  Right : Tree P T → Tree P T

-- A grammar over tokens T, whose kinds are K, places P and rules R. `number` tells kinds apart, and
-- `sample` gives a token of a kind. `rules` lists every rule, each at its `index`. After `rounds`
-- rounds over the rules, what is computed of them no longer changes.
pub record Grammar (K R P T : Type 0) : Type 0 where
  pub kind : T → K
  pub place : T → P
  pub number : K → ℕ
  pub sample : K → T
  pub body : R → Symbol K R
  pub rules : List R
  pub index : R → ℕ
  pub listed : (r : R) → slice_get rules (index r) ≡ Some r
  pub rounds : ℕ

-- whether a kind is in a set
abbrev pub has : {K R P T : Type 0} → Grammar K R P T → List K → K → Bool
has g [] k = false
has g (x ∷ xs) k = eqb (g.number x) (g.number k) || has g xs k

-- whether the next token is of a kind of the set. At the end there is none.
abbrev pub sees : {K R P T : Type 0} → Grammar K R P T → List K → List T → Bool
sees g set [] = false
sees g set (token ∷ tokens) = has g set (g.kind token)

-- what a tree keeps of a token
abbrev pub kept : {K R P T : Type 0} → Grammar K R P T → Keep → T → Tree P T
kept g Dropped token = Nothing
kept g Placed token = Spot (g.place token)
kept g Whole token = Leaf token
