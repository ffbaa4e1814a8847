-- Numbers of bytes in either order.
use Rattle.std.proofs.Common.{◌≡◌, ℕ, zero, suc, ◌+◌, ◌-◌, ◌*◌, ◌^◌, ◌<◌, List, length, get_or, reverse, refl, ap, ◌∙◌, arith}
use Rattle.std.proofs.lemmas.List.{get_or-reverse}
use Rattle.std.proofs.Math.Nat.{pow-succ'}
use Rattle.byteorder.specs.Endian.{big_from, big_number, little_from, little_number}

-- the last byte of a number counts once, and what is before it 256 times
last_byte : (i n : ℕ) (xs : List ℕ) → big_from i (suc n) xs ≡ 256 * big_from i n xs + get_or xs (i + n) 0
last_byte i zero xs =
    let place : i + 0 ≡ i = omega arith in
    let same : get_or xs (i + 0) 0 ≡ get_or xs i 0 = ap (λ k. get_or xs k 0) place in
    omega (arith, same)
last_byte i (suc n) xs =
    let rest = last_byte (suc i) n xs in
    let same : get_or xs (suc i + n) 0 ≡ get_or xs (i + suc n) 0 = ap (λ k. get_or xs k 0) (omega arith) in
    let first : get_or xs i 0 * 256 ^ suc n ≡ get_or xs i 0 * (256 * 256 ^ n)
    = ap (λ p. get_or xs i 0 * p) (pow-succ' 256 n) in
    omega (arith, rest, same, first)

turned : (n i j : ℕ) (xs ys : List ℕ) → ((k : ℕ) → k < n → get_or ys (j + k) 0 ≡ get_or xs (i + (n - 1 - k)) 0)
    → little_from i n xs ≡ big_from j n ys
turned zero i j xs ys same = refl
turned (suc n) i j xs ys same =
    let rest : little_from (suc i) n xs ≡ big_from j n ys
    = turned n (suc i) j xs ys (λ k within.
    same k (omega (arith, within)) ∙ ap (λ m. get_or xs m 0) (omega (arith, within))) in
    let first : get_or ys (j + n) 0 ≡ get_or xs i 0 = same n (omega arith) ∙ ap (λ m. get_or xs m 0) (omega arith) in
    omega (arith, rest, first, last_byte j n ys)

pub reversed_number : (n : ℕ) (bytes : List ℕ) → length bytes ≡ n → little_number n bytes ≡ big_number n (reverse bytes)
reversed_number n bytes e = turned n 0 0 bytes (reverse bytes) (λ k within.
    let there : 0 + k ≡ k = omega arith in
    let here : length bytes - 1 - k ≡ 0 + (n - 1 - k) = omega (arith, e) in
    let last : get_or (reverse bytes) k 0 ≡ get_or bytes (length bytes - 1 - k) 0
    = get_or-reverse bytes k 0 (omega (arith, within, e)) in
    ap (λ m. get_or (reverse bytes) m 0) there ∙ last ∙ ap (λ m. get_or bytes m 0) here)
