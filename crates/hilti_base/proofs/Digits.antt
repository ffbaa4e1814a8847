-- Digits of a base up to 36 are text.
use Rattle.std.proofs.Common.{ℕ, zero, suc, ◌<◌, ◌≤◌, List, [], ◌∷◌, get_or, arith}
use Rattle.std.specs.Char.{digit_value}
use Rattle.std.specs.Str.{IsUtf8}
use Rattle.std.specs.Str.Parse.{AllDigits}
use Rattle.std.proofs.lemmas.Bool.Decides.{nat_tests}
use Rattle.std.proofs.lemmas.Str.{IsUtf8-from_ascii}

digit_below : (c base : ℕ) → base ≤ 36 → digit_value c < base → c < 128
digit_below c base most digit = grind (arith, nat_tests)

below_at : (base : ℕ) (text : List ℕ) → base ≤ 36 → AllDigits base text → (i : ℕ) → get_or text i 0 < 128
below_at base [] most digits i = omega arith
below_at base (c ∷ cs) most digits zero = digit_below c base most digits.0
below_at base (c ∷ cs) most digits (suc i) = below_at base cs most digits.1 i

pub digits_are_text : (base : ℕ) (text : List ℕ) → base ≤ 36 → AllDigits base text → IsUtf8 text
digits_are_text base text most digits = IsUtf8-from_ascii text (below_at base text most digits)
