-- What a predictive grammar knows of its symbols, told of derivations.
use Rattle.std.proofs.Common.{◌≡◌, Bool, true, List, [], ◌∷◌, ◌++◌, refl, sym, subst}
use Rattle.hilti_grammar.specs.Grammar.{Grammar, Symbol, Symbol.Rule, Tree, has}
use Rattle.hilti_grammar.specs.Derives.{Derives, Derives.AToken, Derives.NoToken, Derives.Both, Derives.TheLeft, Derives.TheRight, Derives.NoMore, Derives.OneMore, Derives.ByRule}
use Rattle.hilti_grammar.specs.Predictive.{Known, union, known, fits, where_so}
use Rattle.hilti_grammar.proofs.Sets.{and_both, or_left, or_right, has_left, has_right}
use Rattle.hilti_grammar.proofs.Cuts.{append_empty_left, append_empty_right}

-- a symbol derives something
abbrev pub Fruitful : {K R P T : Type 0} → Grammar K R P T → Symbol K R → Type 0
Fruitful {P} {T} g s = (ts : List T) × (tree : Tree P T) × Derives g s ts tree

-- what is known of the rules is so, and every rule fits
pub record IsSound {K R P T : Type 0} (g : Grammar K R P T) (of_rule : R → Known K) : Type 0 where
  pub empty : (r : R) → (known g of_rule (g.body r)).empty ≡ true → (of_rule r).empty ≡ true
  pub first : (r : R) (k : K) → has g (known g of_rule (g.body r)).first k ≡ true → has g (of_rule r).first k ≡ true
  pub more : (r : R) (k : K) → has g (known g of_rule (g.body r)).more k ≡ true → has g (of_rule r).more k ≡ true
  pub fits : (r : R) → fits g of_rule (g.body r) ≡ true
  pub fruit : (r : R) → Fruitful g (Rule r)

module _ {K R P T : Type 0} (g : Grammar K R P T) (of_rule : R → Known K) where
  -- the kinds that begin a symbol's lists, those that go on behind them, and whether it may be empty
  abbrev pub first : Symbol K R → List K
  first s = (known g of_rule s).first

  abbrev pub more : Symbol K R → List K
  more s = (known g of_rule s).more

  abbrev pub empty : Symbol K R → Bool
  empty s = (known g of_rule s).empty

module _ {K R P T : Type 0} (g : Grammar K R P T) (of_rule : R → Known K) (S : IsSound g of_rule) where
  -- what derives the list without tokens may be empty
  pub empty_of : (s : Symbol K R) (us : List T) (x : Tree P T) → Derives g s us x → us ≡ [] → empty g of_rule s ≡ true
  empty_of _ _ _ (AToken h) e = cc
  empty_of _ _ _ NoToken e = refl
  empty_of _ _ _ (Both {us = us} {vs = vs} d f) e = and_both _ _ (empty_of _ _ _ d (append_empty_left us vs e)) (empty_of _ _ _ f (append_empty_right us vs e))
  empty_of _ _ _ (TheLeft d) e = or_left _ _ (empty_of _ _ _ d e)
  empty_of _ _ _ (TheRight d) e = or_right _ _ (empty_of _ _ _ d e)
  empty_of _ _ _ NoMore e = refl
  empty_of _ _ _ (OneMore d f) e = refl
  empty_of _ _ _ (ByRule {r = r} d) e = S.empty r (empty_of _ _ _ d e)

  -- a list of two symbols begins with the first, or with the second where the first is empty
  first_of_two : (b : Bool) (xs ys : List K) (us vs : List T) (t : T) (w : List T) →
      (us ≡ [] → b ≡ true) → ((m : List T) → us ≡ t ∷ m → has g xs (g.kind t) ≡ true) → (vs ≡ t ∷ w → has g ys (g.kind t) ≡ true) →
      us ++ vs ≡ t ∷ w → has g (union g xs (where_so b ys)) (g.kind t) ≡ true
  first_of_two b xs ys [] vs t w nothing_of_a begins_a begins_b e =
      has_right g xs (where_so b ys) (g.kind t) (let is : b ≡ true = nothing_of_a refl in subst (λ c. has g (where_so c ys) (g.kind t) ≡ true) (sym is) (begins_b e))
  first_of_two b xs ys (u ∷ us) vs t w nothing_of_a begins_a begins_b e =
      has_left g xs (where_so b ys) (g.kind t) (begins_a us (cc))

  -- any number of a symbol begins with what begins the symbol
  first_of_list : (xs : List K) (us vs : List T) (t : T) (w : List T) →
      ((m : List T) → us ≡ t ∷ m → has g xs (g.kind t) ≡ true) → (vs ≡ t ∷ w → has g xs (g.kind t) ≡ true) → us ++ vs ≡ t ∷ w → has g xs (g.kind t) ≡ true
  first_of_list xs [] vs t w begins_a begins_b e = begins_b e
  first_of_list xs (u ∷ us) vs t w begins_a begins_b e = begins_a us (cc)

  -- what begins a list of a symbol is among the kinds that begin it
  pub first_of : (s : Symbol K R) (us : List T) (x : Tree P T) → Derives g s us x → (t : T) (w : List T) → us ≡ t ∷ w → has g (first g of_rule s) (g.kind t) ≡ true
  first_of _ _ _ (AToken {set = set} {token = token} h) t w e = let same : token ≡ t = cc in subst (λ c. has g set (g.kind c) ≡ true) same h
  first_of _ _ _ NoToken t w e = cc
  first_of _ _ _ (Both {a = a} {b = b} {us = us} {vs = vs} d f) t w e =
      first_of_two (empty g of_rule a) (first g of_rule a) (first g of_rule b) us vs t w (empty_of _ _ _ d) (first_of _ _ _ d t) (first_of _ _ _ f t w) e
  first_of _ _ _ (TheLeft d) t w e = has_left g _ _ (g.kind t) (first_of _ _ _ d t w e)
  first_of _ _ _ (TheRight {a = a} {b = b} d) t w e = has_right g (first g of_rule a) (first g of_rule b) (g.kind t) (first_of _ _ _ d t w e)
  first_of _ _ _ NoMore t w e = cc
  first_of _ _ _ (OneMore {a = a} {us = us} {vs = vs} d f) t w e = first_of_list (first g of_rule a) us vs t w (first_of _ _ _ d t) (first_of _ _ _ f t w) e
  first_of _ _ _ (ByRule {r = r} d) t w e = S.first r (g.kind t) (first_of _ _ _ d t w e)
