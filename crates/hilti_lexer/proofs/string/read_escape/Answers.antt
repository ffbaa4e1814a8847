use Rattle.hilti_lexer.proofs.Strings.{spells_letter, spells_number}
use Rattle.hilti_lexer.proofs.string.read_escape.Goals as goal

pub returns-then-letter-ne120-clause-some : goal.returns-then-letter-ne120-clause-some
returns-then-letter-ne120-clause-some c =
    spells_letter c.args.text.now c.in_ok-letter.behind.now c.in_ok-letter.letter.now c.in_ok-byte.byte c.in_ok-letter.ensures.cases.0 c.in_ok-byte.ensures

pub returns-clause-some : goal.returns-clause-some
returns-clause-some c =
    spells_number c.args.text.now c.in_ok-letter.behind.now c.in_ok-high.behind.now c.in_ok-low.behind.now c.in_ok-letter.letter.now c.in_ok-high.high.now
    c.in_ok-low.low.now c.in_ok-byte-2.byte c.in_ok-letter.ensures.cases.0 c.if-letter-ne120.false c.in_ok-high.ensures.cases.0 c.in_ok-low.ensures.cases.0
    c.in_ok-byte-2.ensures.0.0 c.in_ok-byte-2.ensures.0.1 c.in_ok-byte-2.ensures.1
