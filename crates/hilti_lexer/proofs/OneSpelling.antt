-- A string's bytes are spelled in one way.
use Rattle.std.proofs.Common.{◌≡◌, ℕ, ◌+◌, ◌-◌, ◌*◌, List, [], ◌∷◌, length, get_or, drop, refl, sym, ap, ◌∙◌, subst, arith, IsTrue, true}
use Rattle.std.specs.Prelude.{Some}
use Rattle.std.specs.Char.{digit_value}
use Rattle.hilti_lexer.specs.declared.fault.LexicalFault.{LexicalFault}
use Rattle.hilti_lexer.specs.Characters.{is_plain}
use Rattle.hilti_lexer.specs.Strings.{AreSpelled, FailsInside, IsClosed, Spells, by_letter, by_number, escaped, fault_at, fault_offset, itself}

head_is : (c d : ℕ) (cs ds : List ℕ) → c ∷ cs ≡ d ∷ ds → c ≡ d
head_is c d cs ds e = ap (λ l. get_or l 0 0) e

not_plain : (c d : ℕ) → IsTrue (is_plain c) → c ≡ d → is_plain d ≡ true
not_plain c d plain e = subst (λ b. is_plain b ≡ true) e plain

plain_or_escape : (text rest behind : List ℕ) (byte : ℕ) → IsTrue (is_plain byte) → text ≡ byte ∷ rest → text ≡ 92 ∷ behind → ⊥
plain_or_escape text rest behind byte plain e f =
    let no : is_plain 92 ≡ true = not_plain byte 92 plain (head_is byte 92 rest behind (sym e ∙ f)) in absurd (cc)

letter_or_number : (letter byte : ℕ) → letter ≡ 120 → escaped letter ≡ Some byte → ⊥
letter_or_number letter byte e is = let no : escaped 120 ≡ Some byte = sym (ap escaped e) ∙ is in absurd (cc)

one_letter : (letter letter' byte byte' : ℕ) → letter ≡ letter' → escaped letter ≡ Some byte → escaped letter' ≡ Some byte' → byte ≡ byte'
one_letter letter letter' byte byte' e is other = let same : Some byte ≡ Some byte' = sym is ∙ ap escaped e ∙ other in cc

pub one_spelling : (text rest rest' : List ℕ) (byte byte' : ℕ) → Spells text byte rest → Spells text byte' rest' → (byte ≡ byte') × (rest ≡ rest')
one_spelling text rest rest' byte byte' (itself plain e) (itself plain' e') =
    let both : byte ∷ rest ≡ byte' ∷ rest' = sym e ∙ e' in (head_is byte byte' rest rest' both, ap (drop 1) both)
one_spelling text rest rest' byte byte' (itself plain e) (by_letter letter is e') = absurd (plain_or_escape text rest (letter ∷ rest') byte plain e e')
one_spelling text rest rest' byte byte' (itself plain e) (by_number high low h l value e') = absurd (plain_or_escape text rest (120 ∷ high ∷ low ∷ rest') byte plain e e')
one_spelling text rest rest' byte byte' (by_letter letter is e) (itself plain e') = absurd (plain_or_escape text rest' (letter ∷ rest) byte' plain e' e)
one_spelling text rest rest' byte byte' (by_number high low h l value e) (itself plain e') = absurd (plain_or_escape text rest' (120 ∷ high ∷ low ∷ rest) byte' plain e' e)
one_spelling text rest rest' byte byte' (by_letter letter is e) (by_letter letter' is' e') =
    let both : 92 ∷ letter ∷ rest ≡ 92 ∷ letter' ∷ rest' = sym e ∙ e' in
    (one_letter letter letter' byte byte' (ap (λ l. get_or l 1 0) both) is is', ap (drop 2) both)
one_spelling text rest rest' byte byte' (by_letter letter is e) (by_number high low h l value e') =
    let both : 92 ∷ letter ∷ rest ≡ 92 ∷ 120 ∷ high ∷ low ∷ rest' = sym e ∙ e' in absurd (letter_or_number letter byte (ap (λ l. get_or l 1 0) both) is)
one_spelling text rest rest' byte byte' (by_number high low h l value e) (by_letter letter is e') =
    let both : 92 ∷ letter ∷ rest' ≡ 92 ∷ 120 ∷ high ∷ low ∷ rest = sym e' ∙ e in absurd (letter_or_number letter byte' (ap (λ l. get_or l 1 0) both) is)
one_spelling text rest rest' byte byte' (by_number high low h l value e) (by_number high' low' h' l' value' e') =
    let both : 92 ∷ 120 ∷ high ∷ low ∷ rest ≡ 92 ∷ 120 ∷ high' ∷ low' ∷ rest' = sym e ∙ e' in
    let first : high ≡ high' = ap (λ l. get_or l 2 0) both in
    let second : low ≡ low' = ap (λ l. get_or l 3 0) both in
    (value ∙ ap (λ n. 16 * digit_value n + digit_value low) first ∙ ap (λ n. 16 * digit_value high' + digit_value n) second ∙ sym value', ap (drop 4) both)

-- no byte is spelled at the front
abbrev pub IsStuck : List ℕ → Type 0
IsStuck text = (byte : ℕ) (behind : List ℕ) → ¬ (Spells text byte behind)

quote_or_escape : (rest behind : List ℕ) → 34 ∷ rest ≡ 92 ∷ behind → ⊥
quote_or_escape rest behind e = let no : 34 ≡ 92 = head_is 34 92 rest behind e in absurd (omega (arith, no))

at_quote : (rest : List ℕ) → IsStuck (34 ∷ rest)
at_quote rest byte behind (itself plain e) = let no : is_plain 34 ≡ true = not_plain byte 34 plain (sym (head_is 34 byte rest behind e)) in absurd (cc)
at_quote rest byte behind (by_letter letter is e) = quote_or_escape rest (letter ∷ behind) e
at_quote rest byte behind (by_number high low h l value e) = quote_or_escape rest (120 ∷ high ∷ low ∷ behind) e

all_one : (value value' text rest rest' : List ℕ) → AreSpelled value text rest → AreSpelled value' text rest' → IsStuck rest → IsStuck rest' → (value ≡ value') × (rest ≡ rest')
all_one [] [] text rest rest' h h' stuck stuck' = (refl, sym h ∙ h')
all_one [] (byte ∷ value') text rest rest' h h' stuck stuck' = absurd (stuck byte h'.0 (subst (λ (l : List ℕ). Spells l byte h'.0) h h'.1))
all_one (byte ∷ value) [] text rest rest' h h' stuck stuck' = absurd (stuck' byte h.0 (subst (λ (l : List ℕ). Spells l byte h.0) h' h.1))
all_one (byte ∷ value) (byte' ∷ value') text rest rest' h h' stuck stuck' =
    let same = one_spelling text h.0 h'.0 byte byte' h.1 h'.1 in
    let others = all_one value value' h.0 rest rest' h.2 (subst (λ (l : List ℕ). AreSpelled value' l rest') (sym same.1) h'.2) stuck stuck' in
    (ap (λ b. b ∷ value) same.0 ∙ ap (λ l. byte' ∷ l) others.0, others.1)

pub one_closed : (inside value value' rest rest' : List ℕ) → IsClosed inside value rest → IsClosed inside value' rest' → (value ≡ value') × (rest ≡ rest')
one_closed inside value value' rest rest' h h' =
    let same = all_one value value' inside (34 ∷ rest) (34 ∷ rest') h h' (at_quote rest) (at_quote rest') in (same.0, ap (drop 1) same.1)

pub closed_or_fails : (inside value rest : List ℕ) (fault : LexicalFault) (offset : ℕ) → IsClosed inside value rest → ¬ (FailsInside inside fault offset)
closed_or_fails inside value rest fault offset h fails =
    let same = all_one value fails.value inside (34 ∷ rest) fails.rest h fails.spelled (at_quote rest) fails.stuck in
    fails.no_quote (sym (ap (λ l. get_or l 0 0) same.1))

pub one_failure : (inside : List ℕ) (fault fault' : LexicalFault) (offset offset' : ℕ) → FailsInside inside fault offset → FailsInside inside fault' offset'
    → (fault ≡ fault') × (offset ≡ offset')
one_failure inside fault fault' offset offset' h h' =
    let same = all_one h.value h'.value inside h.rest h'.rest h.spelled h'.spelled h.stuck h'.stuck in
    let faults : fault ≡ fault' = h.fault_is ∙ ap fault_at same.1 ∙ sym h'.fault_is in
    (faults, h.offset_is ∙ ap (λ f. fault_offset f (length inside - length h.rest)) faults ∙ ap (λ l. fault_offset fault' (length inside - length l)) same.1 ∙ sym h'.offset_is)
