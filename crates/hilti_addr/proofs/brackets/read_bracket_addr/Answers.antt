use Rattle.hilti_addr.proofs.Spelled.{between, bracket_some}
use Rattle.hilti_addr.proofs.brackets.read_bracket_addr.Goals as goal

pub returns-then-last-eq93-clause-some : goal.returns-then-last-eq93-clause-some
returns-then-last-eq93-clause-some c =
    bracket_some c.args.text.now c.in_ok-first.behind.now c.in_ok-last.inside.now c.in_ok-first.first.now c.in_ok-last.last.now
    c.read_spelled.result c.in_ok-first.ensures.cases.0 c.in_ok-last.ensures.cases.0 c.if-first-eq91.true c.if-last-eq93.true
    c.read_spelled.ensures.some

pub returns-then-last-eq93-clause-none : goal.returns-then-last-eq93-clause-none
returns-then-last-eq93-clause-none c = λ none address is.
    let it = between c.args.text.now c.in_ok-first.behind.now c.in_ok-last.inside.now c.in_ok-first.first.now c.in_ok-last.last.now
    c.in_ok-first.ensures.cases.0 c.in_ok-last.ensures.cases.0 address is in
    c.read_spelled.ensures.none none address it.spelled
