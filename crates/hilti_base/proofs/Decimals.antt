-- Numbers and their decimal digits.
use Rattle.std.proofs.Common.{◌≡◌, ℕ, ◌^◌, ◌<◌, ◌≤◌, List, length, get_or, sym, ap, ◌∙◌, subst, inl, inr, arith}
use Rattle.std.specs.Fmt.{decimal}
use Rattle.std.specs.Str.Parse.{AllDigits, digits_value}
use Rattle.std.proofs.lemmas.Bool.{cases_lt}
use Rattle.std.proofs.lemmas.Fmt.{decimal-digits_value, decimal_digit, decimal_nonempty, digits_decimal, digits_value-decimal, first_decimal}
use Rattle.std.proofs.lemmas.Str.Parse.{IsNumeralModel, numerals_by_value, tells_digits}
use Rattle.hilti_base.specs.Numerals.{IsNumber, greatest}

model : IsNumeralModel (AllDigits 10) (digits_value 10)
model = numerals_by_value (AllDigits 10) tells_digits

pub text_of_number : (most : ℕ) (text : List ℕ) (n : ℕ) → most ≤ greatest → IsNumber most text n
    → (text ≡ decimal n) × (n ≤ most)
text_of_number most text n below is =
    let value = is.value in
    let small = is.small in
    let plain : get_or text 0 0 ≡ 48 → length text ≡ 1
    = λ zero. elim is.plain [ inl one ↦ one | inr other ↦ absurd (other zero) ] in
    (sym (decimal-digits_value model text is.digits.1 is.digits.0 plain (omega (arith, value, small, below))) ∙ ap decimal (sym value), small)

decimal_is_number : (most n : ℕ) → most ≤ greatest → n ≤ most → IsNumber most (decimal n) n
decimal_is_number most n below small =
    let fits : n < 2 ^ 64 = omega (arith, below, small) in
    record {
      digits = (decimal_nonempty n fits, digits_decimal model n fits);
      plain = elim (cases_lt 0 n) [
        | inl some ↦ inr (λ zero. omega (arith, zero, first_decimal n some fits))
        | inr none ↦ let zero : n ≡ 0 = omega (arith, none) in inl (ap length (ap decimal zero ∙ decimal_digit 0 (omega arith)))
      ];
      value = sym (digits_value-decimal model n fits);
      small = small;
    }

pub number_of_text : (most : ℕ) (text : List ℕ) (n : ℕ) → most ≤ greatest → text ≡ decimal n → n ≤ most
    → IsNumber most text n
number_of_text most text n below e small =
    subst (λ t. IsNumber most t n) (sym e) (decimal_is_number most n below small)
