-- What holds of two lists, place by place.
use Rattle.std.proofs.Common.{◌≡◌, ℕ, ◌<◌, zero, suc, List, [], ◌∷◌, length, get_or, take, subst, sym, arith}
use Rattle.std.specs.List.{AllZip}

module _ {A B : Type 0} (R : A → B → Type 0) where
  pub pair_at : (xs : List A) (ys : List B) (i : ℕ) (x : A) (y : B) → i < length xs → i < length ys → x ≡ get_or xs i x → y ≡ get_or ys i y → AllZip R xs ys → R x y
  pair_at [] ys i x y in' in'' is is' all = absurd (omega (arith, in'))
  pair_at (a ∷ xs) [] i x y in' in'' is is' all = absurd (omega (arith, in''))
  pair_at (a ∷ xs) (b ∷ ys) zero x y in' in'' is is' all = subst (λ x. R x y) (sym is) (subst (R a) (sym is') all.0)
  pair_at (a ∷ xs) (b ∷ ys) (suc i) x y in' in'' is is' all = pair_at xs ys i x y (omega (arith, in')) (omega (arith, in'')) is is' all.1

  pub pairs_more : (xs : List A) (ys : List B) (i : ℕ) (x : A) (y : B) → i < length xs → i < length ys → x ≡ get_or xs i x → y ≡ get_or ys i y
      → AllZip R (take i xs) (take i ys) → R x y → AllZip R (take (suc i) xs) (take (suc i) ys)
  pairs_more [] ys i x y in' in'' is is' all here = absurd (omega (arith, in'))
  pairs_more (a ∷ xs) [] i x y in' in'' is is' all here = absurd (omega (arith, in''))
  pairs_more (a ∷ xs) (b ∷ ys) zero x y in' in'' is is' all here = (subst (λ x. R x b) is (subst (R x) is' here), tt)
  pairs_more (a ∷ xs) (b ∷ ys) (suc i) x y in' in'' is is' all here = (all.0, pairs_more xs ys i x y (omega (arith, in')) (omega (arith, in'')) is is' all.1 here)
