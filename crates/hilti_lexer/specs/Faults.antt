-- Why a text is refused.
use Rattle.std.specs.Prelude.{◌≡◌, ℕ, Result, Err}
use Rattle.hilti_base.specs.declared.names.Place.{Place}
use Rattle.hilti_base.specs.declared.refusal.Refusal.{Refusal}
use Rattle.hilti_base.specs.declared.refusal.Refusal.TheVariants as refusals
use Rattle.hilti_lexer.specs.declared.fault.LexicalFault.{LexicalFault}
use Rattle.hilti_lexer.specs.declared.missing.Missing.{Missing}
use Rattle.hilti_lexer.specs.declared.missing.Missing.TheVariants as missing
use Rattle.hilti_lexer.specs.declared.fault.LexicalFault.TheVariants.{BadByte, BadNumeral, NumberTooBig, OpenString, BadEscape, LongWord, BadAddress}

-- the code of a refusal
abbrev pub code_of : LexicalFault → ℕ
code_of BadByte = 1
code_of BadNumeral = 2
code_of NumberTooBig = 3
code_of OpenString = 4
code_of BadEscape = 5
code_of LongWord = 6
code_of BadAddress = 7

-- where a token is missing, its fault and how many bytes its place is from the front are such
abbrev pub IfMissing : {X : Type 0} → Result X Missing → (LexicalFault → ℕ → Type 0) → Type 0
IfMissing result holds =
    (fault : LexicalFault) (offset : ℕ) → result ≡ Err (missing.At fault offset) → holds fault offset

-- where a text is refused, the code and the place are such
abbrev pub IfRefused : {X : Type 0} → Result X Refusal → (ℕ → Place → Type 0) → Type 0
IfRefused result holds =
    (place : Place) (code : ℕ) → result ≡ Err (refusals.At place code) → holds code place
