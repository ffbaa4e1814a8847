-- Lists and their fronts.
use Rattle.std.proofs.Common.{◌≡◌, ◌-◌, ◌≤◌, List, [], ◌∷◌, length, take, drop, get_or, ap, arith, ◌∙◌}
use Rattle.std.proofs.Math.Seq.{take-length}

-- a list of an item and more
pub behind_one : {A : Type 0} (xs : List A) (a : A) → 1 ≤ length xs → a ≡ get_or xs 0 a → xs ≡ a ∷ take (length xs - 1) (drop 1 xs)
behind_one [] a least first = absurd (omega arith)
behind_one (x ∷ rest) a least first =
    let count : length (x ∷ rest) - 1 ≡ length rest = omega arith in
    let whole : take (length (x ∷ rest) - 1) rest ≡ rest = ap (λ n. take n rest) count ∙ take-length rest in
    cc (first, whole)
