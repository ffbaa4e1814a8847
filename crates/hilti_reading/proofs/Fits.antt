-- What a symbol derives some tokens with, its parts do too.
use Rattle.std.proofs.Common.{◌≡◌, List, [], ◌∷◌, refl}
use Rattle.std.specs.Prelude.{map}
use Rattle.hilti_grammar.specs.Grammar.{Grammar, Symbol, Symbol.◌▹◌, Symbol.◌⊕◌, Symbol.Many, Symbol.Rule, Tree, Tree.Nothing, Tree.Pair, Tree.Left, Tree.Right}
use Rattle.hilti_grammar.specs.Derives.{Derives, Derives.Both, Derives.TheLeft, Derives.TheRight, Derives.OneMore, Derives.ByRule}
use Rattle.hilti_grammar.specs.Reads.{list_tree}
use Rattle.hilti_reading.proofs.Equal.{both}

-- the symbol derives some tokens with this tree
abbrev pub Fits : {K R P T : Type 0} → Grammar K R P T → Symbol K R → Tree P T → Type 0
Fits {T} g s tree = (tokens : List T) × Derives g s tokens tree

module _ {K R P T : Type 0} (g : Grammar K R P T) where
  pub fits_both : (a b : Symbol K R) (x y : Tree P T) → Fits g (a ▹ b) (Pair x y) → Fits g a x × Fits g b y
  fits_both a b x y (ts, Both {us = us} {vs = vs} d f) = ((us, d), (vs, f))

  pub fits_left : (a b : Symbol K R) (x : Tree P T) → Fits g (a ⊕ b) (Left x) → Fits g a x
  fits_left a b x (ts, TheLeft d) = (ts, d)

  pub fits_right : (a b : Symbol K R) (x : Tree P T) → Fits g (a ⊕ b) (Right x) → Fits g b x
  fits_right a b x (ts, TheRight d) = (ts, d)

  pub fits_more : (a : Symbol K R) (x y : Tree P T) → Fits g (Many a) (Pair x y) → Fits g a x × Fits g (Many a) y
  fits_more a x y (ts, OneMore {us = us} {vs = vs} d f) = ((us, d), (vs, f))

  pub fits_rule : (r : R) (x : Tree P T) → Fits g (Rule r) x → Fits g (g.body r) x
  fits_rule r x (ts, ByRule d) = (ts, d)

  pub fits_none : (a b : Symbol K R) → Fits g (a ⊕ b) Nothing → ⊥
  fits_none a b (ts, d) = nowhere ts d
    where
      nowhere : (ts : List T) → Derives g (a ⊕ b) ts Nothing → ⊥
      nowhere ts d = elim d [ ]

-- trees of a list that a symbol derives some tokens with tell what it is a list of, if those of its items do
module _ {K R P T V : Type 0} (g : Grammar K R P T) (s : Symbol K R) (f : V → Tree P T) (same : (x y : V) → Fits g s (f x) → f x ≡ f y → x ≡ y) where
  pub fitting_one : (xs ys : List V) → Fits g (Many s) (list_tree (map f xs)) → list_tree (map f xs) ≡ list_tree (map f ys) → xs ≡ ys
  fitting_one [] [] h e = refl
  fitting_one [] (y ∷ ys) h e = cc
  fitting_one (x ∷ xs) [] h e = cc
  fitting_one (x ∷ xs) (y ∷ ys) h e =
      let fits = fits_more g s (f x) (list_tree (map f xs)) h in
      let first = same x y fits.0 (let here : f x ≡ f y = cc in here) in
      let more = fitting_one xs ys fits.1 (let here : list_tree (map f xs) ≡ list_tree (map f ys) = cc in here) in both (λ x l. x ∷ l) first more
