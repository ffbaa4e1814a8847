-- The test of types decides whether they are one.
use Rattle.std.proofs.Common.{◌≡◌, ◌↔◌, ◌∙◌, Bool, true, false, IsTrue, sym, refl, ap}
use Rattle.std.specs.Prelude.{◌&&◌}
use Rattle.std.proofs.lemmas.Bool.{false≢true, eqb-true, eq-eqb}
use base.Stored.{Gv, Gv.gnil, Gv.gnum, Gv.gcons}
use Rattle.hilti_types.specs.declared.value_type.ValueType.{ValueType}
use Rattle.hilti_types.specs.contracts.value_type.ValueType as kinds
use Rattle.hilti_row_types.specs.Same.{same_code, same_type}

both : (a b : Bool) → (a && b) ≡ true → (a ≡ true) × (b ≡ true)
both true true e = (refl, refl)
both true false e = absurd (false≢true e)
both false b e = absurd (false≢true e)

all : (a b : Bool) → a ≡ true → b ≡ true → (a && b) ≡ true
all true true e f = refl
all true false e f = f
all false b e f = absurd (false≢true e)

pub equal_codes : (x y : Gv) → same_code x y ≡ true → x ≡ y
unfolding same_code
equal_codes gnil gnil e = refl
equal_codes (gnum n) (gnum m) e = ap gnum (eqb-true n m e)
equal_codes (gcons a c) (gcons b d) e = let h = both (same_code a b) (same_code c d) e in λ i. gcons (equal_codes a b h.0 i) (equal_codes c d h.1 i)
equal_codes gnil (gnum m) e = absurd (false≢true e)
equal_codes gnil (gcons b d) e = absurd (false≢true e)
equal_codes (gnum n) gnil e = absurd (false≢true e)
equal_codes (gnum n) (gcons b d) e = absurd (false≢true e)
equal_codes (gcons a c) gnil e = absurd (false≢true e)
equal_codes (gcons a c) (gnum m) e = absurd (false≢true e)

pub code_of_itself : (x : Gv) → same_code x x ≡ true
unfolding same_code
code_of_itself gnil = refl
code_of_itself (gnum n) = eq-eqb n n refl
code_of_itself (gcons a c) = all (same_code a a) (same_code c c) (code_of_itself a) (code_of_itself c)

pub equal_types : (a b : ValueType) → same_type a b ≡ true → a ≡ b
unfolding same_type
equal_types a b e = kinds.the_row.coded.inj a b (equal_codes (kinds.the_row.coded.code a) (kinds.the_row.coded.code b) e)

pub type_of_itself : (a b : ValueType) → a ≡ b → same_type a b ≡ true
unfolding same_type
type_of_itself a b e = sym (ap (λ (x : ValueType). same_code (kinds.the_row.coded.code a) (kinds.the_row.coded.code x)) e) ∙ code_of_itself (kinds.the_row.coded.code a)

pub tests_sameness : (r : Bool) (a b : ValueType) → IsTrue r ↔ (a ≡ b) → r ≡ same_type a b
tests_sameness true a b d = sym (type_of_itself a b (d.0 refl))
tests_sameness false a b d = none (same_type a b) refl
  where
    none : (t : Bool) → same_type a b ≡ t → false ≡ same_type a b
    none true e = absurd (false≢true (d.1 (equal_types a b e)))
    none false e = sym e
