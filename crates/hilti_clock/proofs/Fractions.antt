-- The digits behind a point.
use Rattle.std.proofs.Common.{◌≡◌, ℕ, ◌+◌, ◌-◌, ◌*◌, ◌^◌, ◌<◌, ◌≤◌, List, length, refl, sym, ap, ◌∙◌, arith}
use Rattle.std.specs.Str.Parse.{AllDigits, digits_value}
use Rattle.std.proofs.lemmas.Int.Digits.{digits_value-lt}
use Rattle.std.proofs.lemmas.Nat.{mul-le, pow-add}
use Rattle.std.proofs.Math.Nat.{one-le-pow}

-- up to nine digits behind a point are less than a second
pub below_second : (text : List ℕ) (value power : ℕ) → AllDigits 10 text → length text ≤ 9
    → value ≡ digits_value 10 text → power ≡ 10 ^ (9 - length text) → value * power < 10 ^ 9
below_second text value power digits short v p =
    let small : value + 1 ≤ 10 ^ length text = omega (arith, v, digits_value-lt 10 text digits) in
    let split : length text + (9 - length text) ≡ 9 = omega arith in
    let whole : 10 ^ length text * 10 ^ (9 - length text) ≡ 10 ^ 9
    = sym (pow-add 10 (length text) (9 - length text)) ∙ ap (λ n. 10 ^ n) split in
    let room : (value + 1) * power ≤ 10 ^ length text * power
    = mul-le (value + 1) power (10 ^ length text) power small (omega arith) in
    let some : 1 ≤ power = omega (arith, p, one-le-pow (9 - length text) 10 (omega arith)) in
    omega (arith, room, some, ap (λ n. 10 ^ length text * n) p, whole)

pub below_word : (text : List ℕ) → AllDigits 10 text → length text ≤ 9 → digits_value 10 text < 2 ^ 64
below_word text digits short =
    let room : digits_value 10 text * 10 ^ (9 - length text) < 10 ^ 9 = below_second text _ _ digits short refl refl in
    let some : 1 ≤ 10 ^ (9 - length text) = one-le-pow (9 - length text) 10 (omega arith) in
    let more : digits_value 10 text * 1 ≤ digits_value 10 text * 10 ^ (9 - length text)
    = mul-le (digits_value 10 text) 1 (digits_value 10 text) _ (omega arith) some in
    omega (arith, room, more)
