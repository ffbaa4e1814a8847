-- The parts of numerals.
use Rattle.std.proofs.Common.{◌≡◌, ◌≢◌, ℕ, ◌^◌, ◌<◌, List, [], ◌∷◌, length, get_or, refl, sym, ap, ◌∙◌, subst, inl, inr, arith, Bool, true, false, not, IsTrue, eqb, drop}
use Rattle.std.specs.Prelude.{Option, Some, None, IsNone, IfSome}
use Rattle.std.specs.Option.{is_some}
use Rattle.std.specs.Char.{is_ascii_digit}
use Rattle.std.specs.List.{list_all}
use Rattle.std.specs.Str.Parse.{AllDigits, digits_value, IsNumeral}
use Rattle.std.proofs.lemmas.Bool.{cases_lt}
use Rattle.hilti_base.specs.Numerals.{IsNumber, greatest}
use Rattle.hilti_lexer.proofs.Digits.{all_digits, digits_pass}
use Rattle.hilti_lexer.specs.Numerals.{IsHex, IsTooBig}

-- digits without a leading zero that write no Number are too big
pub too_big : (text : List ℕ) → 0 < length text → get_or text 0 0 ≢ 48 → AllDigits 10 text → ((n : ℕ) → ¬ (IsNumber greatest text n)) → IsTooBig text
too_big text some plain digits none = record {
  digits = (some, digits);
  plain = plain;
  big = elim (cases_lt (digits_value 10 text) (2 ^ 64)) [
    | inl h ↦ absurd (none (digits_value 10 text) (record { digits = (some, digits); plain = inr plain; value = refl; small = omega (arith, h) }))
    | inr h ↦ h
  ];
}

pub not_too_big : (text : List ℕ) (n : ℕ) → IsNumber greatest text n → ¬ (IsTooBig text)
not_too_big text n is big = let small = is.small in let value = is.value in let above = big.big in absurd (omega (arith, small, value, above))

-- whether such digits write no Number tells whether they are too big
pub big_exactly : (text : List ℕ) (answer : Option ℕ) (is_none : Bool) → is_some answer ≡ not is_none → IfSome answer (λ n. IsNumber greatest text n)
    → (IsNone answer → (n : ℕ) → ¬ (IsNumber greatest text n)) → 0 < length text → get_or text 0 0 ≢ 48 → list_all is_ascii_digit text ≡ true
    → (IsTrue is_none → IsTooBig text) × (IsTooBig text → IsTrue is_none)
big_exactly text None true told some none filled plain digits = (λ _. too_big text filled plain (all_digits text digits) (none refl), λ _. refl)
big_exactly text None false told some none filled plain digits = absurd (cc)
big_exactly text (Some n) true told some none filled plain digits = absurd (cc)
big_exactly text (Some n) false told some none filled plain digits = (λ no. absurd (cc), λ big. absurd (not_too_big text n some big))

pub never : {P : Type 0} → ¬ P → (IsTrue false → P) × (P → IsTrue false)
never refused = (λ no. absurd (cc), λ is. absurd (refused is))

pub not_all_digits : (text : List ℕ) → list_all is_ascii_digit text ≡ false → ¬ (IsTooBig text)
not_all_digits text failed big = let passed = digits_pass text big.digits.1 in cc

pub some_bytes : (text : List ℕ) (empty : Bool) → empty ≡ eqb (length text) 0 → empty ≡ false → 0 < length text
some_bytes [] empty told filled = absurd (cc)
some_bytes (c ∷ cs) empty told filled = omega arith

-- the digits of a Hex are those behind its `0x`
pub hex_digits : (text digits : List ℕ) (n : ℕ) → digits ≡ drop 2 text → IsHex text n → IsNumeral 16 digits
hex_digits text digits n e is = subst (IsNumeral 16) (sym (e ∙ ap (drop 2) is.parts)) is.written
