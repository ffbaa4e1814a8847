-- Digits and their values.
use Rattle.std.proofs.Common.{◌≡◌, refl, ℕ, ◌+◌, ◌-◌, ◌*◌, ◌^◌, ◌<◌, ◌≤◌, List, [], ◌∷◌, length, sym, ap, ◌∙◌, arith, Bool, true, false, ◌&&◌}
use Rattle.std.specs.Char.{digit_value, is_ascii_digit}
use Rattle.std.specs.List.{list_all}
use Rattle.std.specs.Str.Parse.{AllDigits, digits_value}
use Rattle.std.proofs.lemmas.Bool.Decides.{nat_tests}
use Rattle.std.proofs.lemmas.Int.Digits.{digits_value-lt}
use Rattle.std.proofs.lemmas.Nat.{mul-le, pow-add}
use Rattle.std.proofs.Math.Nat.{one-le-pow}

-- 16 hexadecimal digits fit 64 bits
pub hex_fits : (text : List ℕ) → AllDigits 16 text → length text ≤ 16 → digits_value 16 text < 2 ^ 64
hex_fits text digits short =
    let split : length text + (16 - length text) ≡ 16 = omega arith in
    let whole : 16 ^ length text * 16 ^ (16 - length text) ≡ 16 ^ 16 = sym (pow-add 16 (length text) (16 - length text)) ∙ ap (λ n. 16 ^ n) split in
    let some : 1 ≤ 16 ^ (16 - length text) = one-le-pow (16 - length text) 16 (omega arith) in
    let more : 16 ^ length text * 1 ≤ 16 ^ length text * 16 ^ (16 - length text) = mul-le (16 ^ length text) 1 (16 ^ length text) _ (omega arith) some in
    omega (arith, digits_value-lt 16 text digits, more, whole)

digit_is : (c : ℕ) → is_ascii_digit c ≡ true → digit_value c < 10
digit_is c passed = grind (arith, nat_tests)

is_digit : (c : ℕ) → digit_value c < 10 → is_ascii_digit c ≡ true
is_digit c digit = grind (arith, nat_tests)

both_true : (a b : Bool) → (a && b) ≡ true → (a ≡ true) × (b ≡ true)
both_true true b h = (refl, h)
both_true false b h = absurd (cc)

pub all_digits : (text : List ℕ) → list_all is_ascii_digit text ≡ true → AllDigits 10 text
all_digits [] passed = tt
all_digits (c ∷ cs) passed =
    let both = both_true (is_ascii_digit c) (list_all is_ascii_digit cs) passed in (digit_is c both.0, all_digits cs both.1)

pub digits_pass : (text : List ℕ) → AllDigits 10 text → list_all is_ascii_digit text ≡ true
digits_pass [] digits = refl
digits_pass (c ∷ cs) digits =
    let first : is_ascii_digit c ≡ true = is_digit c digits.0 in
    let others : list_all is_ascii_digit cs ≡ true = digits_pass cs digits.1 in
    ap (λ b. b && list_all is_ascii_digit cs) first ∙ others
