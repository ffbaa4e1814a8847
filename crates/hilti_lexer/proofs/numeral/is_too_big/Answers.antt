use Rattle.std.proofs.Common.{sym, ◌∙◌}
use Rattle.hilti_lexer.proofs.Numerals.{big_exactly, never, not_all_digits, some_bytes}
use Rattle.hilti_lexer.proofs.numeral.is_too_big.Goals as goal
use Rattle.hilti_lexer.proofs.numeral.is_too_big.Goals.{then-text-eq48-via-then-text-eq48, then-text-eq48-via-else-text-eq48+then-not-is_digits}

pub returns-then-text-eq48 : goal.returns-then-text-eq48
returns-then-text-eq48 c = never (elim c.then-text-eq48.branch [
  | then-text-eq48-via-then-text-eq48 w ↦ λ big. big.plain w.if-text-eq48.true
  | then-text-eq48-via-else-text-eq48+then-not-is_digits w ↦ not_all_digits c.args.text.now (sym w.is_digits.ensures ∙ w.if-not-is_digits.true)
])

pub returns : goal.returns
returns c =
    big_exactly c.args.text.now c.read_number.result c.is_none.result c.is_none.ensures c.read_number.ensures.some c.read_number.ensures.none
    (some_bytes c.args.text.now c.is_empty.result c.is_empty.ensures c.if-is_empty.false) c.if-text-eq48.false (sym c.is_digits.ensures ∙ c.if-not-is_digits.false)
