-- What the first bytes of a text are, from what they begin.
use Rattle.std.proofs.Common.{◌≡◌, ℕ, ◌<◌, List, [], ◌∷◌, length, get_or, refl, sym, ap, ◌∙◌, arith, Bool, true, false, ◌&&◌, eqb, cond}
use Rattle.std.proofs.lemmas.Bool.{eqb-true}
use Rattle.std.specs.Char.{is_ascii_digit}
use Rattle.hilti_lexer.specs.declared.beginning.Beginning.{Beginning}
use Rattle.hilti_lexer.specs.declared.beginning.Beginning.TheVariants.{LineEnd, Word, Numeral, Text, Bytes, Brackets, TwoColons, Mark, Nothing}
use Rattle.hilti_lexer.specs.Beginnings.{beginning_of}
use Rattle.hilti_lexer.specs.Characters.{begins_word}

-- the tests in their order
abbrev pub chosen : (bytes colons line word digit quote bracket mark : Bool) → Beginning
chosen bytes colons line word digit quote bracket mark =
    cond bytes Bytes (cond colons TwoColons (cond line LineEnd (cond word Word (cond digit Numeral (cond quote Text (cond bracket Brackets (cond mark Mark Nothing)))))))

bytes_only : (a b l w d q k m : Bool) → chosen a b l w d q k m ≡ Bytes → a ≡ true
bytes_only true b l w d q k m h = refl
bytes_only false true l w d q k m h = absurd (cc)
bytes_only false false true w d q k m h = absurd (cc)
bytes_only false false false true d q k m h = absurd (cc)
bytes_only false false false false true q k m h = absurd (cc)
bytes_only false false false false false true k m h = absurd (cc)
bytes_only false false false false false false true m h = absurd (cc)
bytes_only false false false false false false false true h = absurd (cc)
bytes_only false false false false false false false false h = absurd (cc)

text_only : (a b l w d q k m : Bool) → chosen a b l w d q k m ≡ Text → q ≡ true
text_only true b l w d q k m h = absurd (cc)
text_only false true l w d q k m h = absurd (cc)
text_only false false true w d q k m h = absurd (cc)
text_only false false false true d q k m h = absurd (cc)
text_only false false false false true q k m h = absurd (cc)
text_only false false false false false true k m h = refl
text_only false false false false false false true m h = absurd (cc)
text_only false false false false false false false true h = absurd (cc)
text_only false false false false false false false false h = absurd (cc)

word_only : (a b l w d q k m : Bool) → chosen a b l w d q k m ≡ Word → w ≡ true
word_only true b l w d q k m h = absurd (cc)
word_only false true l w d q k m h = absurd (cc)
word_only false false true w d q k m h = absurd (cc)
word_only false false false true d q k m h = refl
word_only false false false false true q k m h = absurd (cc)
word_only false false false false false true k m h = absurd (cc)
word_only false false false false false false true m h = absurd (cc)
word_only false false false false false false false true h = absurd (cc)
word_only false false false false false false false false h = absurd (cc)

digit_only : (a b l w d q k m : Bool) → chosen a b l w d q k m ≡ Numeral → d ≡ true
digit_only true b l w d q k m h = absurd (cc)
digit_only false true l w d q k m h = absurd (cc)
digit_only false false true w d q k m h = absurd (cc)
digit_only false false false true d q k m h = absurd (cc)
digit_only false false false false true q k m h = refl
digit_only false false false false false true k m h = absurd (cc)
digit_only false false false false false false true m h = absurd (cc)
digit_only false false false false false false false true h = absurd (cc)
digit_only false false false false false false false false h = absurd (cc)

both_true : (a b : Bool) → (a && b) ≡ true → (a ≡ true) × (b ≡ true)
both_true true b h = (refl, h)
both_true false b h = absurd (cc)

two_bytes : (text : List ℕ) → (eqb (get_or text 0 0) 98 && eqb (get_or text 1 0) 34) ≡ true → (inside : List ℕ) × (text ≡ 98 ∷ 34 ∷ inside)
two_bytes [] h = absurd (cc)
two_bytes (c ∷ []) h = let second = both_true (eqb c 98) false h in let no : false ≡ true = second.1 in absurd (cc)
two_bytes (c ∷ d ∷ cs) h =
    let both = both_true (eqb c 98) (eqb d 34) h in
    let first : c ≡ 98 = eqb-true c 98 both.0 in
    let second : d ≡ 34 = eqb-true d 34 both.1 in
    (cs, ap (λ x. x ∷ d ∷ cs) first ∙ ap (λ x. 98 ∷ x ∷ cs) second)

pub begins_bytes : (text : List ℕ) → Bytes ≡ beginning_of text → (inside : List ℕ) × (text ≡ 98 ∷ 34 ∷ inside)
begins_bytes text h = two_bytes text (bytes_only _ _ _ _ _ _ _ _ (sym h))

pub begins_text : (text : List ℕ) → 0 < length text → Text ≡ beginning_of text → (inside : List ℕ) × (text ≡ 34 ∷ inside)
begins_text [] some h = absurd (omega (arith, some))
begins_text (c ∷ cs) some h = let first : c ≡ 34 = eqb-true c 34 (text_only _ _ _ _ _ _ _ _ (sym h)) in (cs, ap (λ x. x ∷ cs) first)

pub begins_a_word : (text : List ℕ) → Word ≡ beginning_of text → begins_word (get_or text 0 0) ≡ true
begins_a_word text h = word_only _ _ _ _ _ _ _ _ (sym h)

pub begins_a_numeral : (text : List ℕ) → Numeral ≡ beginning_of text → is_ascii_digit (get_or text 0 0) ≡ true
begins_a_numeral text h = digit_only _ _ _ _ _ _ _ _ (sym h)
