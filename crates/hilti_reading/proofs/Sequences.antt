-- Trees of lists tell what they are lists of.
use Rattle.std.proofs.Common.{◌≡◌, List, [], ◌∷◌, refl, sym, ◌∙◌, ap}
use Rattle.std.specs.Prelude.{map}
use Rattle.hilti_grammar.specs.Reads.{list_tree, behind, separated_tree}
use Rattle.hilti_reader.specs.Spelled.{ModuleTree}

module _ {V W U : Type 0} (f : V → ModuleTree) (g : W → ModuleTree) (v : V → U) (w : W → U) (same : (x : V) (y : W) → f x ≡ g y → v x ≡ w y) where
  pub list_one : (xs : List V) (ys : List W) → list_tree (map f xs) ≡ list_tree (map g ys) → map v xs ≡ map w ys
  list_one [] [] e = refl
  list_one [] (y ∷ ys) e = cc
  list_one (x ∷ xs) [] e = cc
  list_one (x ∷ xs) (y ∷ ys) e =
      let first = same x y cc in
      let more = list_one xs ys cc in cc

  behind_one : (xs : List V) (ys : List W) → list_tree (behind (map f xs)) ≡ list_tree (behind (map g ys)) → map v xs ≡ map w ys
  behind_one [] [] e = refl
  behind_one [] (y ∷ ys) e = cc
  behind_one (x ∷ xs) [] e = cc
  behind_one (x ∷ xs) (y ∷ ys) e =
      let first = same x y cc in
      let more = behind_one xs ys cc in cc

  pub separated_one : (xs : List V) (ys : List W) → separated_tree (map f xs) ≡ separated_tree (map g ys) → map v xs ≡ map w ys
  separated_one [] [] e = refl
  separated_one [] (y ∷ ys) e = cc
  separated_one (x ∷ xs) [] e = cc
  separated_one (x ∷ xs) (y ∷ ys) e =
      let first = same x y cc in
      let more = behind_one xs ys cc in cc

pub map_same : {V : Type 0} (xs : List V) → map (λ x. x) xs ≡ xs
map_same [] = refl
map_same (x ∷ xs) = ap (λ l. x ∷ l) (map_same xs)

-- lists of values that their trees tell apart
module _ {V : Type 0} (f : V → ModuleTree) (same : (x y : V) → f x ≡ f y → x ≡ y) where
  pub listed : (xs ys : List V) → list_tree (map f xs) ≡ list_tree (map f ys) → xs ≡ ys
  listed xs ys e = sym (map_same xs) ∙ (list_one f f (λ x. x) (λ x. x) same xs ys e ∙ map_same ys)

  pub separated : (xs ys : List V) → separated_tree (map f xs) ≡ separated_tree (map f ys) → xs ≡ ys
  separated xs ys e = sym (map_same xs) ∙ (separated_one f f (λ x. x) (λ x. x) same xs ys e ∙ map_same ys)
