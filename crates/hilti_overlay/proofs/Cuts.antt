-- A shift and a mask leave the bits of a range.
use Rattle.std.proofs.Common.{◌≡◌, ℕ, ◌+◌, ◌-◌, ◌/◌, ◌%◌, ◌^◌, ◌<◌, ◌≤◌, bit_and, ap, ◌∙◌, arith}
use Rattle.std.proofs.lemmas.Nat.{and_mask}
use Rattle.std.proofs.lemmas.Nat.Bits.{ones_shr}

pub cut_is : (n low high : ℕ) → low ≤ high → high < 64
    → bit_and (n / 2 ^ low) ((2 ^ 64 - 1) / 2 ^ (63 - (high - low))) ≡ n / 2 ^ low % 2 ^ (high - low + 1)
cut_is n low high ordered within =
    let kept : 64 - (63 - (high - low)) ≡ high - low + 1 = omega arith in
    ap (bit_and (n / 2 ^ low)) (ones_shr 64 (63 - (high - low)) (omega arith) ∙ ap (λ k. 2 ^ k - 1) kept) ∙ and_mask (n / 2 ^ low) (high - low + 1)
