use Rattle.hilti_lexer.proofs.Strings.{no_escape}
use Rattle.hilti_lexer.proofs.string.read_byte.Goals as goal

pub returns-then-first-eq92-clause-none : goal.returns-then-first-eq92-clause-none
returns-then-first-eq92-clause-none c = λ none.
    no_escape c.args.text.now c.in_ok-first.behind.now c.in_ok-first.first.now c.in_ok-first.ensures.cases.0 c.if-first-eq92.true (c.read_escape.ensures.none none)
