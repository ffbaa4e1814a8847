-- Bytes of strings as they are spelled.
use Rattle.std.proofs.Common.{◌≡◌, ℕ, ◌+◌, ◌*◌, ◌<◌, ◌≤◌, List, [], ◌∷◌, ◌++◌, length, refl, sym, ap, subst, arith}
use Rattle.std.specs.Prelude.{Some}
use Rattle.std.specs.Char.{digit_value}
use Rattle.hilti_lexer.specs.Strings.{AreSpelled, Spells, itself, by_letter, by_number, escaped}

pub spells_letter : (text behind : List ℕ) (letter byte : ℕ) → text ≡ letter ∷ behind → Some byte ≡ escaped letter → Spells (92 ∷ text) byte behind
spells_letter text behind letter byte e is = by_letter letter (sym is) (ap (λ l. 92 ∷ l) e)

pub spells_number : (text after_letter after_high behind : List ℕ) (letter high low byte : ℕ) → text ≡ letter ∷ after_letter → letter ≡ 120
    → after_letter ≡ high ∷ after_high → after_high ≡ low ∷ behind → digit_value high < 16 → digit_value low < 16
    → byte ≡ 16 * digit_value high + digit_value low → Spells (92 ∷ text) byte behind
spells_number text after_letter after_high behind letter high low byte e is f g h l value =
    let whole : 92 ∷ text ≡ 92 ∷ 120 ∷ high ∷ low ∷ behind = cc in
    by_number high low h l value whole

-- no escape, no byte
pub no_escape : (text behind : List ℕ) (first : ℕ) → text ≡ first ∷ behind → first ≡ 92 → ((byte : ℕ) (rest : List ℕ) → ¬ (Spells (92 ∷ behind) byte rest))
    → (byte : ℕ) (rest : List ℕ) → ¬ (Spells text byte rest)
no_escape text behind first e is none byte rest spells =
    let whole : text ≡ 92 ∷ behind = cc in
    none byte rest (subst (λ (l : List ℕ). Spells l byte rest) whole spells)

pub shorter : (text rest : List ℕ) (byte : ℕ) → Spells text byte rest → length rest < length text
shorter text rest byte spells = elim spells [
  | itself plain e ↦ omega (arith, ap length e)
  | by_letter letter is e ↦ omega (arith, ap length e)
  | by_number high low h l value e ↦ omega (arith, ap length e)
]

pub no_longer : (value text rest : List ℕ) → AreSpelled value text rest → length rest ≤ length text
no_longer [] text rest e = omega (arith, ap length e)
no_longer (byte ∷ value) text rest h = omega (arith, shorter text h.0 byte h.1, no_longer value h.0 rest h.2)

-- one more byte behind those that are spelled
pub one_more : (value text rest behind : List ℕ) (byte : ℕ) → AreSpelled value text rest → Spells rest byte behind → AreSpelled (value ++ byte ∷ []) text behind
one_more [] text rest behind byte e spells = (behind, subst (λ (l : List ℕ). Spells l byte behind) (sym e) spells, refl)
one_more (first ∷ value) text rest behind byte h spells = (h.0, h.1, one_more value h.0 rest behind byte h.2 spells)
