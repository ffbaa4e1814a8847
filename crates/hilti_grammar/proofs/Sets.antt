-- Sets of kinds.
use Rattle.std.proofs.Common.{◌≡◌, Bool, true, false, cond, not, ◌&&◌, ◌||◌, List, [], ◌∷◌, refl, sym, ◌∙◌, subst, eqb}
use Rattle.std.specs.Prelude.{◌⊎◌}
use Rattle.std.proofs.Common.{inl, inr}
use Rattle.std.proofs.lemmas.Bool.{eqb-true}
use Rattle.hilti_grammar.specs.Grammar.{Grammar, has, sees}
use Rattle.hilti_grammar.specs.Predictive.{union, apart, within}

pub and_left : (a b : Bool) → (a && b) ≡ true → a ≡ true
and_left true b h = refl
and_left false b h = h

pub and_right : (a b : Bool) → (a && b) ≡ true → b ≡ true
and_right true b h = h
and_right false b h = cc

pub and_both : (a b : Bool) → a ≡ true → b ≡ true → (a && b) ≡ true
and_both true b h k = k
and_both false b h k = h

pub four_parts : (a b c d : Bool) → (a && (b && (c && d))) ≡ true → (a ≡ true) × (b ≡ true) × (c ≡ true) × (d ≡ true)
four_parts true true true true h = (refl, refl, refl, refl)
four_parts true true true false h = cc
four_parts true true false d h = cc
four_parts true false c d h = cc
four_parts false b c d h = cc

pub three_parts : (a b c : Bool) → (a && (b && c)) ≡ true → (a ≡ true) × (b ≡ true) × (c ≡ true)
three_parts true true true h = (refl, refl, refl)
three_parts true true false h = cc
three_parts true false c h = cc
three_parts false b c h = cc

pub or_left : (a b : Bool) → a ≡ true → (a || b) ≡ true
or_left true b h = refl
or_left false b h = cc

pub or_right : (a b : Bool) → b ≡ true → (a || b) ≡ true
or_right true b h = refl
or_right false b h = h

pub or_cases : (a b : Bool) → (a || b) ≡ true → (a ≡ true) ⊎ (b ≡ true)
or_cases true b h = inl refl
or_cases false b h = inr h

pub not_both : (b : Bool) → not b ≡ true → b ≡ true → ⊥
not_both true h k = cc
not_both false h k = cc

pub true_or_false : (b : Bool) → (b ≡ true) ⊎ (b ≡ false)
true_or_false true = inl refl
true_or_false false = inr refl

pub true_not_false : (b : Bool) → b ≡ true → b ≡ false → ⊥
true_not_false true h k = cc
true_not_false false h k = cc

-- kinds of one number are in the same sets
pub has_same : {K R P T : Type 0} (g : Grammar K R P T) (xs : List K) (j k : K) → g.number j ≡ g.number k → has g xs j ≡ has g xs k
has_same g [] j k e = refl
has_same g (x ∷ xs) j k e = let rest = has_same g xs j k e in cc

pub has_left : {K R P T : Type 0} (g : Grammar K R P T) (xs ys : List K) (k : K) → has g xs k ≡ true → has g (union g xs ys) k ≡ true
has_left g xs [] k h = h
has_left g xs (y ∷ ys) k h = go (has g xs y) (has_left g xs ys k h)
  where
    go : (b : Bool) → has g (union g xs ys) k ≡ true → has g (cond b (union g xs ys) (y ∷ union g xs ys)) k ≡ true
    go true r = r
    go false r = or_right _ _ r

pub has_right : {K R P T : Type 0} (g : Grammar K R P T) (xs ys : List K) (k : K) → has g ys k ≡ true → has g (union g xs ys) k ≡ true
has_right g xs [] k h = cc
has_right g xs (y ∷ ys) k h = go (has_right g xs ys k) (has g xs y) refl (or_cases _ _ h)
  where
    go : (has g ys k ≡ true → has g (union g xs ys) k ≡ true) → (b : Bool) → has g xs y ≡ b → (eqb (g.number y) (g.number k) ≡ true) ⊎ (has g ys k ≡ true) → has g (cond b (union g xs ys) (y ∷ union g xs ys)) k ≡ true
    go rest true e (inl same) = has_left g xs ys k (sym (has_same g xs y k (eqb-true _ _ same)) ∙ e)
    go rest true e (inr later) = rest later
    go rest false e (inl same) = or_left _ _ same
    go rest false e (inr later) = or_right _ _ (rest later)

pub apart_none : {K R P T : Type 0} (g : Grammar K R P T) (xs ys : List K) (k : K) → apart g xs ys ≡ true → has g xs k ≡ true → has g ys k ≡ true → ⊥
apart_none g [] ys k h x y = cc
apart_none g (x ∷ xs) ys k h in_xs in_ys = go (λ later. apart_none g xs ys k (and_right _ _ h) later in_ys) (or_cases _ _ in_xs)
  where
    go : (has g xs k ≡ true → ⊥) → (eqb (g.number x) (g.number k) ≡ true) ⊎ (has g xs k ≡ true) → ⊥
    go rest (inl same) = not_both (has g ys x) (and_left _ _ h) (has_same g ys x k (eqb-true _ _ same) ∙ in_ys)
    go rest (inr later) = rest later

pub within_has : {K R P T : Type 0} (g : Grammar K R P T) (xs ys : List K) (k : K) → within g xs ys ≡ true → has g xs k ≡ true → has g ys k ≡ true
within_has g [] ys k h x = cc
within_has g (x ∷ xs) ys k h in_xs = go (within_has g xs ys k (and_right _ _ h)) (or_cases _ _ in_xs)
  where
    go : (has g xs k ≡ true → has g ys k ≡ true) → (eqb (g.number x) (g.number k) ≡ true) ⊎ (has g xs k ≡ true) → has g ys k ≡ true
    go rest (inl same) = sym (has_same g ys x k (eqb-true _ _ same)) ∙ and_left _ _ h
    go rest (inr later) = rest later

-- what sees one set sees a larger one
pub sees_more : {K R P T : Type 0} (g : Grammar K R P T) (xs ys : List K) (ts : List T) → ((k : K) → has g xs k ≡ true → has g ys k ≡ true) → sees g xs ts ≡ true → sees g ys ts ≡ true
sees_more g xs ys [] larger h = h
sees_more g xs ys (t ∷ ts) larger h = larger (g.kind t) h

-- what is seen is the next token
pub sees_next : {K R P T : Type 0} (g : Grammar K R P T) (xs : List K) (ts : List T) (t : T) (rest : List T) → ts ≡ t ∷ rest → sees g xs ts ≡ true → has g xs (g.kind t) ≡ true
sees_next g xs ts t rest e h = subst (λ l. sees g xs l ≡ true) e h

pub next_sees : {K R P T : Type 0} (g : Grammar K R P T) (xs : List K) (ts : List T) (t : T) (rest : List T) → ts ≡ t ∷ rest → has g xs (g.kind t) ≡ true → sees g xs ts ≡ true
next_sees g xs ts t rest e h = subst (λ l. sees g xs l ≡ true) (sym e) h
