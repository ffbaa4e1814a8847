-- When one token of lookahead is enough to read a grammar. All of it is computed.
use Rattle.std.specs.Prelude.{ℕ, zero, suc, Bool, true, false, cond, not, ◌&&◌, ◌||◌, List, [], ◌∷◌}
use Rattle.std.specs.Prelude.{map, get_or}
use Rattle.std.specs.List.{list_all}
use Rattle.hilti_grammar.specs.Grammar.{Grammar, Symbol, Symbol.One, Symbol.Empty, Symbol.◌▹◌}
use Rattle.hilti_grammar.specs.Grammar.{Symbol.◌⊕◌, Symbol.Many, Symbol.Rule, has}

-- the kinds of both sets
abbrev pub union : {K R P T : Type 0} → Grammar K R P T → List K → List K → List K
union g xs [] = xs
union g xs (y ∷ ys) = cond (has g xs y) (union g xs ys) (y ∷ union g xs ys)

-- whether no kind is in both sets
abbrev pub apart : {K R P T : Type 0} → Grammar K R P T → List K → List K → Bool
apart g [] ys = true
apart g (x ∷ xs) ys = not (has g ys x) && apart g xs ys

-- whether each kind of the one set is in the other
abbrev pub within : {K R P T : Type 0} → Grammar K R P T → List K → List K → Bool
within g [] ys = true
within g (x ∷ xs) ys = has g ys x && within g xs ys

-- What is known of a symbol: whether it derives the list without tokens, whether it derives some
-- list, which kinds begin its lists, and which kinds can go on behind a whole list of it in a
-- longer one.
pub record Known (K : Type 0) : Type 0 where
  pub empty : Bool
  pub fruitful : Bool
  pub first : List K
  pub more : List K

-- whether the set has a kind with a token of its own
abbrev pub has_sample : {K R P T : Type 0} → Grammar K R P T → List K → Bool
has_sample g [] = false
has_sample g (k ∷ ks) = has g (k ∷ ks) (g.kind (g.sample k))

-- the second set where the condition holds
abbrev pub where_so : {K : Type 0} → Bool → List K → List K
where_so b set = cond b set []

-- what is known of a symbol, from what is known of each rule
abbrev pub known : {K R P T : Type 0} → Grammar K R P T → (R → Known K) → Symbol K R → Known K
known g of_rule (One keep set) =
    record { empty = false; fruitful = has_sample g set; first = set; more = [] }
known g of_rule Empty = record { empty = true; fruitful = true; first = []; more = [] }
known g of_rule (a ▹ b) =
    let x = known g of_rule a in
    let y = known g of_rule b in
    record {
      empty = x.empty && y.empty;
      fruitful = x.fruitful && y.fruitful;
      first = union g x.first (where_so x.empty y.first);
      more = union g y.more (where_so y.empty x.more);
    }
known g of_rule (a ⊕ b) =
    let x = known g of_rule a in
    let y = known g of_rule b in
    record {
      empty = x.empty || y.empty;
      fruitful = x.fruitful || y.fruitful;
      first = union g x.first y.first;
      more =
          union g (union g x.more y.more)
          (union g (where_so y.empty x.first) (where_so x.empty y.first));
    }
known g of_rule (Many a) =
    let x = known g of_rule a in
    record { empty = true; fruitful = true; first = x.first; more = union g x.first x.more }
known g of_rule (Rule r) = of_rule r

-- nothing is known yet
abbrev pub unknown : {K : Type 0} → Known K
unknown = record { empty = false; fruitful = false; first = []; more = [] }

-- what a table of the rules says of a rule
abbrev pub told : {K R P T : Type 0} → Grammar K R P T → List (Known K) → R → Known K
told g table r = get_or table (g.index r) unknown

-- what is known of the rules after so many rounds
abbrev pub table : {K R P T : Type 0} → Grammar K R P T → ℕ → List (Known K)
table g zero = []
table g (suc n) = let before = table g n in map (λ r. known g (told g before) (g.body r)) g.rules

-- Whether one token tells how to go on everywhere in a symbol: no kind begins the second of two
-- symbols and also goes on behind the first; no kind begins two alternatives, and the first of them
-- is never empty; no kind begins a repeated symbol and also goes on behind it, and it is never
-- empty. What comes after a symbol derives something.
abbrev pub fits : {K R P T : Type 0} → Grammar K R P T → (R → Known K) → Symbol K R → Bool
fits g of_rule (One keep set) = has_sample g set
fits g of_rule Empty = true
fits g of_rule (a ▹ b) =
    fits g of_rule a &&
    (fits g of_rule b &&
    ((known g of_rule b).fruitful && apart g (known g of_rule a).more
    (known g of_rule b).first))
fits g of_rule (a ⊕ b) =
    fits g of_rule a &&
    (fits g of_rule b &&
    (not (known g of_rule a).empty && apart g (known g of_rule a).first
    (known g of_rule b).first))
fits g of_rule (Many a) =
    fits g of_rule a &&
    (not (known g of_rule a).empty && apart g (known g of_rule a).more
    (known g of_rule a).first)
fits g of_rule (Rule r) = true

-- whether a first condition brings the second
abbrev pub brings : Bool → Bool → Bool
brings a b = not a || b

-- whether a rule's body tells no more of it than is known, derives something, and fits
abbrev pub rule_holds : {K R P T : Type 0} → Grammar K R P T → (R → Known K) → R → Bool
rule_holds g of_rule r =
    brings (known g of_rule (g.body r)).empty (of_rule r).empty
    && ((of_rule r).fruitful
    && (within g (known g of_rule (g.body r)).first (of_rule r).first
    && (within g (known g of_rule (g.body r)).more (of_rule r).more
    && fits g of_rule (g.body r))))

-- whether one token of lookahead is enough, in every rule
abbrev pub is_predictive : {K R P T : Type 0} → Grammar K R P T → Bool
is_predictive g = list_all (rule_holds g (told g (table g g.rounds))) g.rules
