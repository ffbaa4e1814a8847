-- Numbers in nine digits.
use Rattle.std.proofs.Common.{◌≡◌, ℕ, ◌-◌, ◌<◌, ◌≤◌, [], ◌∷◌, length, drop, replicate, decimal, arith, lit<}
use Rattle.std.proofs.lemmas.Fmt.{length-decimal-le}
use Rattle.std.proofs.lemmas.List.{drop-replicate}

pub nine_fit : (n : ℕ) → n < 1000000000 → length (decimal n) ≤ 9
nine_fit n below = length-decimal-le 9 n (lit< tt) below (omega (arith, below))

pub zeros_left : (k : ℕ) → drop {A = ℕ} k (48 ∷ 48 ∷ 48 ∷ 48 ∷ 48 ∷ 48 ∷ 48 ∷ 48 ∷ 48 ∷ []) ≡ replicate (9 - k) 48
zeros_left k = drop-replicate k 9 48
