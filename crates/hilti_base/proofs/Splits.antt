-- A text is split in one way at the first of a byte.
use Rattle.std.proofs.Common.{◌≡◌, ◌≢◌, ℕ, suc, ◌<◌, List, [], ◌∷◌, ◌++◌, refl, sym, ap, ◌∙◌, arith}
use Rattle.std.specs.Str.Parse.{AllDigits}
use Rattle.std.proofs.lemmas.List.Elements.{All-append, All-cons, All-nil}
use Rattle.std.proofs.lemmas.Str.Parse.{digit_from_value}
use Rattle.hilti_base.specs.Numerals.{IsNumber, IsSplit, Lacks}

pub first_is_other : (byte c : ℕ) (cs : List ℕ) → Lacks byte (c ∷ cs) → c ≢ byte
first_is_other byte c cs h = h 0 c (omega arith)

pub others_lack : (byte c : ℕ) (cs : List ℕ) → Lacks byte (c ∷ cs) → Lacks byte cs
others_lack byte c cs h = λ k d within. h (suc k) d (omega (arith, within))

pub longer_lacks : (byte c : ℕ) (cs : List ℕ) → c ≢ byte → Lacks byte cs → Lacks byte (c ∷ cs)
longer_lacks byte c cs = All-cons (λ d. d ≢ byte) c cs

pub joined_lack : (byte : ℕ) (front back : List ℕ) → Lacks byte front → Lacks byte back → Lacks byte (front ++ back)
joined_lack byte = All-append (λ d. d ≢ byte)

pub digits_lack : (byte : ℕ) (text : List ℕ) → byte < 48 → AllDigits 10 text → Lacks byte text
digits_lack byte [] low digits = All-nil (λ c. c ≢ byte)
digits_lack byte (c ∷ cs) low digits =
    let range = digit_from_value c digits.0 in
    longer_lacks byte c cs (λ same. omega (arith, range.0, same)) (digits_lack byte cs low digits.1)

-- what lacks a byte has it nowhere
pub nowhere : (byte : ℕ) (text front back : List ℕ) → Lacks byte text → text ≡ front ++ byte ∷ back → ⊥
nowhere byte [] [] back h e = absurd (cc)
nowhere byte [] (d ∷ ds) back h e = absurd (cc)
nowhere byte (c ∷ cs) [] back h e = let same : c ≡ byte = cc in first_is_other byte c cs h same
nowhere byte (c ∷ cs) (d ∷ ds) back h e =
    let others : cs ≡ ds ++ byte ∷ back = cc in nowhere byte cs ds back (others_lack byte c cs h) others

same_parts : (byte : ℕ) (front front' back back' : List ℕ) → Lacks byte front → Lacks byte front'
    → front ++ byte ∷ back ≡ front' ++ byte ∷ back' → (front ≡ front') × (back ≡ back')
same_parts byte [] [] back back' h h' e = let same : back ≡ back' = cc in (refl, same)
same_parts byte [] (c ∷ cs) back back' h h' e =
    let same : c ≡ byte = cc in absurd (first_is_other byte c cs h' same)
same_parts byte (c ∷ cs) [] back back' h h' e =
    let same : c ≡ byte = cc in absurd (first_is_other byte c cs h same)
same_parts byte (c ∷ cs) (d ∷ ds) back back' h h' e =
    let same : c ≡ d = cc in
    let others : cs ++ byte ∷ back ≡ ds ++ byte ∷ back' = cc in
    let rest = same_parts byte cs ds back back' (others_lack byte c cs h) (others_lack byte d ds h') others in
    (ap (λ x. x ∷ cs) same ∙ ap (λ l. d ∷ l) rest.0, rest.1)

pub one_split : (byte : ℕ) (text front front' back back' : List ℕ) → IsSplit byte text front back
    → IsSplit byte text front' back' → (front ≡ front') × (back ≡ back')
one_split byte text front front' back back' h h' =
    same_parts byte front front' back back' h.first h'.first (sym h.parts ∙ h'.parts)

-- what has a byte behind a number is split there, where the byte is below the digits
pub behind_number : (byte most : ℕ) (text front back : List ℕ) (n : ℕ) → byte < 48 → text ≡ front ++ byte ∷ back
    → IsNumber most front n → IsSplit byte text front back
behind_number byte most text front back n low e is =
    record { parts = e; first = digits_lack byte front low is.digits.1 }

pub one_number : (most : ℕ) (text : List ℕ) (n n' : ℕ) → IsNumber most text n → IsNumber most text n' → n ≡ n'
one_number most text n n' is is' = is.value ∙ sym is'.value
