-- A text is read in one way.
use Rattle.std.proofs.Common.{◌≡◌, ℕ, ◌+◌, List, [], ◌∷◌, drop, refl, sym, ap, ◌∙◌, subst, inl, inr, arith}
use Rattle.hilti_base.specs.declared.names.Place.{Place}
use Rattle.hilti_lexer.specs.declared.beginning.Beginning.{Beginning}
use Rattle.hilti_lexer.specs.declared.beginning.Beginning.TheVariants.{LineEnd, Word, Numeral, Text, Bytes, Brackets, TwoColons, Mark, Nothing}
use Rattle.hilti_lexer.specs.declared.fault.LexicalFault.{LexicalFault}
use Rattle.hilti_lexer.specs.declared.token.Token.{Token}
use Rattle.hilti_lexer.specs.declared.token.TokenKind.{TokenKind}
use Rattle.hilti_lexer.specs.declared.token.TokenKind.TheVariants as kinds
use Rattle.hilti_lexer.specs.Beginnings.{beginning_of}
use Rattle.hilti_lexer.specs.Characters.{is_numeral_byte}
use Rattle.hilti_lexer.specs.Faults.{code_of}
use Rattle.hilti_lexer.specs.Readings.{AreRead, IsNext, IsRefusedAt, Lexes, Refuses, behind_gap, distance, further, place_behind, start}
use Rattle.hilti_lexer.specs.Strings.{FailsInside, IsClosed}
use Rattle.hilti_lexer.specs.Tokens.{Fails, FailsAs, Stands, StandsAs, literal, run}
use Rattle.hilti_lexer.proofs.Forms.{one_literal, one_numeral}
use Rattle.hilti_lexer.proofs.OneSpelling.{closed_or_fails, one_closed, one_failure}

one_token_as : (begun : Beginning) (text rest rest' : List ℕ) (kind kind' : TokenKind) → StandsAs begun text kind rest → StandsAs begun text kind' rest'
    → (kind ≡ kind') × (rest ≡ rest')
one_token_as Word text rest rest' kind kind' h h' = (h.kind_is ∙ sym h'.kind_is, h.rest_is ∙ sym h'.rest_is)
one_token_as Numeral text rest rest' kind kind' h h' = (one_numeral (run is_numeral_byte text) kind kind' h.form h'.form, h.rest_is ∙ sym h'.rest_is)
one_token_as Text text rest rest' kind kind' h h' =
    let inside : h.inside ≡ h'.inside = ap (drop 1) (sym h.opened ∙ h'.opened) in
    let same = one_closed h'.inside h.value h'.value rest rest' (subst (λ (l : List ℕ). IsClosed l h.value rest) inside h.closed) h'.closed in
    (h.kind_is ∙ ap (λ v. kinds.Text v) same.0 ∙ sym h'.kind_is, same.1)
one_token_as Bytes text rest rest' kind kind' h h' =
    let inside : h.inside ≡ h'.inside = ap (drop 2) (sym h.opened ∙ h'.opened) in
    let same = one_closed h'.inside h.value h'.value rest rest' (subst (λ (l : List ℕ). IsClosed l h.value rest) inside h.closed) h'.closed in
    (h.kind_is ∙ ap (λ v. kinds.Bytes v) same.0 ∙ sym h'.kind_is, same.1)
one_token_as Brackets text rest rest' kind kind' h h' = (one_literal (literal text) kind kind' h.form h'.form, h.rest_is ∙ sym h'.rest_is)
one_token_as TwoColons text rest rest' kind kind' h h' = (h.kind_is ∙ sym h'.kind_is, h.rest_is ∙ sym h'.rest_is)
one_token_as Mark text rest rest' kind kind' h h' = (h.kind_is ∙ sym h'.kind_is, h.rest_is ∙ sym h'.rest_is)
one_token_as LineEnd text rest rest' kind kind' h h' = (h.kind_is ∙ sym h'.kind_is, h.rest_is ∙ sym h'.rest_is)
one_token_as Nothing text rest rest' kind kind' h h' = absurd h

token_or_fault_as : (begun : Beginning) (text rest : List ℕ) (kind : TokenKind) (fault : LexicalFault) (offset : ℕ) → StandsAs begun text kind rest
    → FailsAs begun text fault offset → ⊥
token_or_fault_as Word text rest kind fault offset h fails = let short = h.short in let long = fails.long in absurd (omega (arith, short, long))
token_or_fault_as Numeral text rest kind fault offset h fails = fails.formless kind h.form
token_or_fault_as Text text rest kind fault offset h fails =
    let inside : fails.inside ≡ h.inside = ap (drop 1) (sym fails.opened ∙ h.opened) in
    closed_or_fails h.inside h.value rest fault offset h.closed (subst (λ (l : List ℕ). FailsInside l fault offset) inside fails.fails)
token_or_fault_as Bytes text rest kind fault offset h fails =
    let inside : fails.inside ≡ h.inside = ap (drop 2) (sym fails.opened ∙ h.opened) in
    closed_or_fails h.inside h.value rest fault fails.behind_quote h.closed (subst (λ (l : List ℕ). FailsInside l fault fails.behind_quote) inside fails.fails)
token_or_fault_as Brackets text rest kind fault offset h fails = fails.formless kind h.form
token_or_fault_as TwoColons text rest kind fault offset h fails = absurd fails
token_or_fault_as Mark text rest kind fault offset h fails = absurd fails
token_or_fault_as LineEnd text rest kind fault offset h fails = absurd fails
token_or_fault_as Nothing text rest kind fault offset h fails = absurd h

one_fault_as : (begun : Beginning) (text : List ℕ) (fault fault' : LexicalFault) (offset offset' : ℕ) → FailsAs begun text fault offset → FailsAs begun text fault' offset'
    → (fault ≡ fault') × (offset ≡ offset')
one_fault_as Word text fault fault' offset offset' h h' = (h.fault_is ∙ sym h'.fault_is, h.offset_is ∙ sym h'.offset_is)
one_fault_as Numeral text fault fault' offset offset' h h' = (
  elim h.fault_is [
    | inl big ↦ elim h'.fault_is [ inl big' ↦ big.1 ∙ sym big'.1 | inr small' ↦ absurd (small'.0 big.0) ]
    | inr small ↦ elim h'.fault_is [ inl big' ↦ absurd (small.0 big'.0) | inr small' ↦ small.1 ∙ sym small'.1 ]
  ],
  h.offset_is ∙ sym h'.offset_is,
)
one_fault_as Text text fault fault' offset offset' h h' =
    let inside : h'.inside ≡ h.inside = ap (drop 1) (sym h'.opened ∙ h.opened) in
    one_failure h.inside fault fault' offset offset' h.fails (subst (λ (l : List ℕ). FailsInside l fault' offset') inside h'.fails)
one_fault_as Bytes text fault fault' offset offset' h h' =
    let inside : h'.inside ≡ h.inside = ap (drop 2) (sym h'.opened ∙ h.opened) in
    let same = one_failure h.inside fault fault' h.behind_quote h'.behind_quote h.fails (subst (λ (l : List ℕ). FailsInside l fault' h'.behind_quote) inside h'.fails) in
    (same.0, h.offset_is ∙ ap (λ n. 1 + n) same.1 ∙ sym h'.offset_is)
one_fault_as Brackets text fault fault' offset offset' h h' = (h.fault_is ∙ sym h'.fault_is, h.offset_is ∙ sym h'.offset_is)
one_fault_as TwoColons text fault fault' offset offset' h h' = absurd h
one_fault_as Mark text fault fault' offset offset' h h' = absurd h
one_fault_as LineEnd text fault fault' offset offset' h h' = absurd h
one_fault_as Nothing text fault fault' offset offset' h h' = (h.fault_is ∙ sym h'.fault_is, h.offset_is ∙ sym h'.offset_is)

-- the next token, and what is behind it, is one
one_next : (at : Place) (text : List ℕ) (token token' : Token) (behind behind' : Place) (rest rest' : List ℕ) → IsNext at text token behind rest
    → IsNext at text token' behind' rest' → (token ≡ token') × (behind ≡ behind') × (rest ≡ rest')
one_next at text token token' behind behind' rest rest' h h' =
    let front : List ℕ = behind_gap text in
    let same = one_token_as (beginning_of front) front rest rest' token.kind token'.kind h.stands h'.stands in
    let place : token.place ≡ token'.place = h.place_is ∙ sym h'.place_is in
    let kind : token.kind ≡ token'.kind = same.0 in (
      λ i. record { place = place i; kind = kind i },
      h.behind_is ∙ ap (λ p. place_behind p token.kind (distance front rest)) place ∙ ap (λ k. place_behind token'.place k (distance front rest)) kind
          ∙ ap (λ l. place_behind token'.place token'.kind (distance front l)) same.1 ∙ sym h'.behind_is,
      same.1,
    )

-- no token comes next
abbrev IsLast : Place → List ℕ → Type 0
IsLast at text = (token : Token) (behind : Place) (rest : List ℕ) → ¬ (IsNext at text token behind rest)

last_at_end : (at : Place) (text : List ℕ) → behind_gap text ≡ [] → IsLast at text
last_at_end at text e token behind rest h = absurd (subst (λ (l : List ℕ). Stands l token.kind rest) e h.stands)

last_at_fault : (at : Place) (text : List ℕ) (code : ℕ) (place : Place) → IsRefusedAt at text code place → IsLast at text
last_at_fault at text code place refused token behind rest h =
    let front : List ℕ = behind_gap text in token_or_fault_as (beginning_of front) front rest token.kind refused.fault refused.offset h.stands refused.fails

no_fault_at_end : (at : Place) (text : List ℕ) (code : ℕ) (place : Place) → behind_gap text ≡ [] → ¬ (IsRefusedAt at text code place)
no_fault_at_end at text code place e refused =
    let bad = subst (λ (l : List ℕ). Fails l refused.fault refused.offset) e refused.fails in let some = bad.some in absurd (omega (arith, some))

one_refused : (at : Place) (text : List ℕ) (code code' : ℕ) (place place' : Place) → IsRefusedAt at text code place → IsRefusedAt at text code' place'
    → (code ≡ code') × (place ≡ place')
one_refused at text code code' place place' h h' =
    let front : List ℕ = behind_gap text in
    let same = one_fault_as (beginning_of front) front h.fault h'.fault h.offset h'.offset h.fails h'.fails in (
      h.code_is ∙ ap code_of same.0 ∙ sym h'.code_is,
      h.place_is ∙ ap (λ n. further at (distance text front + n)) same.1 ∙ sym h'.place_is,
    )

one_reading_of : (tokens tokens' : List Token) (at : Place) (text : List ℕ) (behind behind' : Place) (rest rest' : List ℕ) → AreRead at text tokens behind rest
    → AreRead at text tokens' behind' rest' → IsLast behind rest → IsLast behind' rest' → (tokens ≡ tokens') × (behind ≡ behind') × (rest ≡ rest')
one_reading_of [] [] at text behind behind' rest rest' h h' last last' = (refl, h.0 ∙ sym h'.0, h.1 ∙ sym h'.1)
one_reading_of [] (token ∷ tokens') at text behind behind' rest rest' h h' last last' =
    absurd (last token h'.0 h'.1 (subst (λ (p : Place). IsNext p rest token h'.0 h'.1) (sym h.0) (subst (λ (l : List ℕ). IsNext at l token h'.0 h'.1) (sym h.1) h'.2)))
one_reading_of (token ∷ tokens) [] at text behind behind' rest rest' h h' last last' =
    absurd (last' token h.0 h.1 (subst (λ (p : Place). IsNext p rest' token h.0 h.1) (sym h'.0) (subst (λ (l : List ℕ). IsNext at l token h.0 h.1) (sym h'.1) h.2)))
one_reading_of (token ∷ tokens) (token' ∷ tokens') at text behind behind' rest rest' h h' last last' =
    let same = one_next at text token token' h.0 h'.0 h.1 h'.1 h.2 h'.2 in
    let moved : AreRead h.0 h.1 tokens' behind' rest'
    = subst (λ (p : Place). AreRead p h.1 tokens' behind' rest') (sym same.1) (subst (λ (l : List ℕ). AreRead h'.0 l tokens' behind' rest') (sym same.2) h'.3) in
    let others = one_reading_of tokens tokens' h.0 h.1 behind behind' rest rest' h.3 moved last last' in
    (ap (λ t. t ∷ tokens) same.0 ∙ ap (λ l. token' ∷ l) others.0, others.1, others.2)

pub one_reading : (file : ℕ) (text : List ℕ) (tokens others : List Token) → Lexes file text tokens → Lexes file text others → tokens ≡ others
one_reading file text tokens others h h' =
    let same = one_reading_of tokens others (start file) text h.behind h'.behind h.rest h'.rest h.read h'.read (last_at_end h.behind h.rest h.finished)
    (last_at_end h'.behind h'.rest h'.finished) in same.0

pub read_or_refused : (file : ℕ) (text : List ℕ) (tokens : List Token) (code : ℕ) (place : Place) → Lexes file text tokens → ¬ (Refuses file text code place)
read_or_refused file text tokens code place h h' =
    let same = one_reading_of tokens h'.tokens (start file) text h.behind h'.behind h.rest h'.rest h.read h'.read (last_at_end h.behind h.rest h.finished)
    (last_at_fault h'.behind h'.rest code place h'.missing) in
    no_fault_at_end h'.behind h'.rest code place (ap behind_gap (sym same.2) ∙ h.finished) h'.missing

pub one_refusal : (file : ℕ) (text : List ℕ) (code code' : ℕ) (place place' : Place) → Refuses file text code place → Refuses file text code' place'
    → (code ≡ code') × (place ≡ place')
one_refusal file text code code' place place' h h' =
    let same = one_reading_of h.tokens h'.tokens (start file) text h.behind h'.behind h.rest h'.rest h.read h'.read (last_at_fault h.behind h.rest code place h.missing)
    (last_at_fault h'.behind h'.rest code' place' h'.missing) in
    one_refused h.behind h.rest code code' place place' h.missing
    (subst (λ (p : Place). IsRefusedAt p h.rest code' place') (sym same.1) (subst (λ (l : List ℕ). IsRefusedAt h'.behind l code' place') (sym same.2) h'.missing))
