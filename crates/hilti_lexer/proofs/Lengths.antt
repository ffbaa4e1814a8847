-- How long tokens are.
use Rattle.std.proofs.Common.{◌≡◌, ℕ, ◌+◌, ◌-◌, ◌<◌, ◌≤◌, List, [], ◌∷◌, length, get_or, refl, ap, arith, Bool, true, false, eqb, take, drop, cond}
use Rattle.std.proofs.lemmas.Grind.{common_steps}
use Rattle.std.proofs.lemmas.Bool.Decides.{nat_tests}
use Rattle.std.proofs.lemmas.List.{length-drop}
use Rattle.std.specs.Char.{is_ascii_digit}
use Rattle.std.specs.List.{prefix_len}
use Rattle.hilti_lexer.specs.declared.beginning.Beginning.{Beginning}
use Rattle.hilti_lexer.specs.declared.beginning.Beginning.TheVariants.{LineEnd, Word, Numeral, Text, Bytes, Brackets, TwoColons, Mark, Nothing}
use Rattle.hilti_lexer.specs.declared.fault.LexicalFault.{LexicalFault}
use Rattle.hilti_lexer.specs.declared.fault.LexicalFault.TheVariants.{BadByte, BadNumeral, NumberTooBig, OpenString, BadEscape, LongWord, BadAddress}
use Rattle.hilti_lexer.specs.declared.token.TokenKind.{TokenKind}
use Rattle.hilti_lexer.specs.Beginnings.{beginning_of}
use Rattle.hilti_lexer.specs.Characters.{begins_word, is_group_byte, is_numeral_byte, is_word_byte}
use Rattle.hilti_lexer.specs.Strings.{FailsInside, fault_offset}
use Rattle.hilti_lexer.specs.Tokens.{behind_length, behind_literal, behind_run, Fails, FailsAs, Stands, StandsAs}
use Rattle.hilti_lexer.proofs.Beginnings.{begins_a_numeral, begins_a_word}
use Rattle.hilti_lexer.proofs.Strings.{no_longer}

word_byte : (c : ℕ) → begins_word c ≡ true → is_word_byte c ≡ true
word_byte c h = grind (arith, nat_tests)

numeral_byte : (c : ℕ) → is_ascii_digit c ≡ true → is_numeral_byte c ≡ true
numeral_byte c h = grind (arith, nat_tests)

-- a run whose first byte passes has a byte at least
run_shorter : (passes : ℕ → Bool) (text : List ℕ) → 0 < length text → passes (get_or text 0 0) ≡ true → length (behind_run passes text) < length text
run_shorter passes [] some h = absurd (omega (arith, some))
run_shorter passes (c ∷ cs) some h =
    let first : prefix_len passes (c ∷ cs) ≡ 1 + prefix_len passes cs = ap (λ b. cond b (1 + prefix_len passes cs) 0) h in
    omega (arith, first, length-drop (prefix_len passes (c ∷ cs)) (c ∷ cs))

-- a bracket literal has a byte at least
length_within : (text : List ℕ) → length (behind_length text) ≤ length text
length_within text = elim (eqb (get_or text 0 0) 47) as (λ b. length (cond b (behind_run is_ascii_digit (drop 1 text)) text) ≤ length text) [
  | true ↦ omega (arith, length-drop 1 text, length-drop (prefix_len is_ascii_digit (drop 1 text)) (drop 1 text))
  | false ↦ omega arith
]

pub literal_within : (text : List ℕ) → length (behind_literal text) ≤ length text - 1
literal_within text =
    let inside : List ℕ = drop 1 text in
    let behind : List ℕ = behind_run is_group_byte inside in
    omega (arith, length-drop 1 text, length-drop (prefix_len is_group_byte inside) inside, length-drop 1 behind, length_within (drop 1 behind))

stands_shorter_as : (begun : Beginning) (text rest : List ℕ) (kind : TokenKind) → begun ≡ beginning_of text → 0 < length text → StandsAs begun text kind rest
    → length rest < length text
stands_shorter_as Word text rest kind e some h =
    omega (arith, ap length h.rest_is, run_shorter is_word_byte text some (word_byte (get_or text 0 0) (begins_a_word text e)))
stands_shorter_as Numeral text rest kind e some h =
    omega (arith, ap length h.rest_is, run_shorter is_numeral_byte text some (numeral_byte (get_or text 0 0) (begins_a_numeral text e)))
stands_shorter_as Text text rest kind e some h = omega (arith, ap length h.opened, no_longer h.value h.inside (34 ∷ rest) h.closed)
stands_shorter_as Bytes text rest kind e some h = omega (arith, ap length h.opened, no_longer h.value h.inside (34 ∷ rest) h.closed)
stands_shorter_as Brackets text rest kind e some h = omega (arith, some, ap length h.rest_is, literal_within text)
stands_shorter_as TwoColons text rest kind e some h = omega (arith, some, ap length h.rest_is, length-drop 2 text)
stands_shorter_as Mark text rest kind e some h = omega (arith, some, ap length h.rest_is, length-drop 1 text)
stands_shorter_as LineEnd text rest kind e some h = omega (arith, some, ap length h.rest_is, length-drop 1 text)
stands_shorter_as Nothing text rest kind e some h = absurd h

pub stands_shorter : (text rest : List ℕ) (kind : TokenKind) → 0 < length text → Stands text kind rest → length rest < length text
stands_shorter text rest kind some h = stands_shorter_as (beginning_of text) text rest kind refl some h

offset_within : (fault : LexicalFault) (read : ℕ) → fault_offset fault read ≤ 1 + read
offset_within OpenString read = omega arith
offset_within BadByte read = omega arith
offset_within BadNumeral read = omega arith
offset_within NumberTooBig read = omega arith
offset_within BadEscape read = omega arith
offset_within LongWord read = omega arith
offset_within BadAddress read = omega arith

pub inside_within : (inside : List ℕ) (fault : LexicalFault) (offset : ℕ) → FailsInside inside fault offset → offset ≤ 1 + length inside
inside_within inside fault offset h = let at = h.offset_is in omega (arith, at, offset_within fault (length inside - length h.rest))

fails_within_as : (begun : Beginning) (text : List ℕ) (fault : LexicalFault) (offset : ℕ) → FailsAs begun text fault offset → offset ≤ length text
fails_within_as Word text fault offset h = let at = h.offset_is in omega (arith, at)
fails_within_as Numeral text fault offset h = let at = h.offset_is in omega (arith, at)
fails_within_as Text text fault offset h = omega (arith, ap length h.opened, inside_within h.inside fault offset h.fails)
fails_within_as Bytes text fault offset h = let at = h.offset_is in omega (arith, at, ap length h.opened, inside_within h.inside fault h.behind_quote h.fails)
fails_within_as Brackets text fault offset h = let at = h.offset_is in omega (arith, at)
fails_within_as TwoColons text fault offset h = absurd h
fails_within_as Mark text fault offset h = absurd h
fails_within_as LineEnd text fault offset h = absurd h
fails_within_as Nothing text fault offset h = let at = h.offset_is in omega (arith, at)

pub fails_within : (text : List ℕ) (fault : LexicalFault) (offset : ℕ) → Fails text fault offset → offset ≤ length text
fails_within text fault offset h = fails_within_as (beginning_of text) text fault offset h

-- the rest of a text as a slice to its end
pub whole_rest : (n : ℕ) (text : List ℕ) → take (length text - n) (drop n text) ≡ drop n text
whole_rest n text = grind (arith, common_steps)
