-- Whether bytes are an integer of a base, by the test of it.
use Rattle.std.proofs.Common.{◌≡◌, refl, ap, ℕ, ◌^◌, ◌&&◌, ◌||◌, Bool, true, false, List, [], ◌∷◌, length, Result, Ok, Err, if◌then◌else◌}
use Rattle.std.specs.Prelude.{IsOkUnless, ◌==◌, nat_lt}
use Rattle.std.specs.Bool.{Decides}
use Rattle.std.specs.Char.{digit_value, is_digit}
use Rattle.std.specs.Result.{OkIff}
use Rattle.std.specs.Str.Parse.{AllDigits, digits_value}
use Rattle.std.proofs.lemmas.Bool.{false≢true}
use Rattle.std.proofs.lemmas.Bool.Decides.{Decides-and, Decides-eqb, Decides-like, Decides-ltb, Decides-or}
use Rattle.hilti_base.specs.declared.refusal.Raise.{Raise}
use Rattle.hilti_base.specs.declared.refusal.Raise.TheVariants.{ValueError}
use Rattle.hilti_bytes.specs.Values.{IsInteger}
use Rattle.hilti_bytes_ops.specs.Numbers.{all_digits, integer_of, is_integer}

digits : (base : ℕ) (text : List ℕ) → Decides (all_digits base text) (AllDigits base text)
digits base [] = (λ _. tt, λ _. refl)
digits base (c ∷ text) =
    Decides-and (is_digit c base) (all_digits base text) (Decides-ltb (digit_value c) base)
    (digits base text)

decided : (base : ℕ) (text : List ℕ) → Decides (is_integer base text) (IsInteger base text)
decided base text =
    let known = Decides-or (base == 10) (base == 16) (Decides-eqb base 10) (Decides-eqb base 16) in
    let some = nat_lt 0 (length text) in
    let numeral = Decides-and some (all_digits base text) (Decides-ltb 0 (length text)) (digits base text) in
    let small = Decides-ltb (digits_value base text) (2 ^ 64) in
    Decides-like (is_integer base text)
    (λ is. record { known = is.0; numeral = record { digits = is.1.0; small = is.1.1 } })
    (λ is. (is.known, (is.numeral.digits, is.numeral.small)))
    (Decides-and (base == 10 || base == 16)
    ((some && all_digits base text) && nat_lt (digits_value base text) (2 ^ 64)) known
    (Decides-and (some && all_digits base text) (nat_lt (digits_value base text) (2 ^ 64)) numeral small))

by_test : {P : Type 0} (r : Result ℕ Raise) (n : ℕ) (test : Bool) → OkIff r P n
    → IsOkUnless r ValueError → Decides test P → r ≡ (if test then Ok n else Err ValueError)
by_test (Ok m) n true exact raise d = ap Ok exact.1
by_test (Ok m) n false exact raise d = absurd (false≢true (d.1 exact.0))
by_test (Err e) n true never raise d = absurd (never (d.0 refl))
by_test (Err e) n false exact raise d = ap Err raise

pub integer_is : (base : ℕ) (text : List ℕ) (r : Result ℕ Raise)
    → OkIff r (IsInteger base text) (digits_value base text) → IsOkUnless r ValueError
    → r ≡ integer_of base text
integer_is base text r exact raise =
    by_test r (digits_value base text) (is_integer base text) exact raise (decided base text)
