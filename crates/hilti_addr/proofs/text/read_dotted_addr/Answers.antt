use Rattle.std.proofs.Common.{arith, refl}
use Rattle.hilti_addr.proofs.Forms.{an_address, no_first, no_fourth, no_second, no_third}
use Rattle.hilti_addr.proofs.text.read_dotted_addr.Goals as goal

pub returns-in_err-first-clause-none : goal.returns-in_err-first-clause-none
returns-in_err-first-clause-none c = λ _. no_first c.args.text.now (c.in_err-first.ensures.none refl)

pub returns-in_err-second-clause-none : goal.returns-in_err-second-clause-none
returns-in_err-second-clause-none c = λ _. no_second c.args.text.now c.in_ok-first.rest.now c.in_ok-first.first c.in_ok-first.ensures.some (c.in_err-second.ensures.none refl)

pub returns-in_err-third-clause-none : goal.returns-in_err-third-clause-none
returns-in_err-third-clause-none c = λ _.
    no_third c.args.text.now c.in_ok-first.rest.now c.in_ok-second.rest.now c.in_ok-first.first c.in_ok-second.second
    c.in_ok-first.ensures.some c.in_ok-second.ensures.some (c.in_err-third.ensures.none refl)

pub returns-in_err-fourth-clause-none : goal.returns-in_err-fourth-clause-none
returns-in_err-fourth-clause-none c = λ _.
    no_fourth c.args.text.now c.in_ok-first.rest.now c.in_ok-second.rest.now c.in_ok-third.rest.now c.in_ok-first.first c.in_ok-second.second c.in_ok-third.third
    c.in_ok-first.ensures.some c.in_ok-second.ensures.some c.in_ok-third.ensures.some (c.in_err-fourth.ensures.none refl)

pub returns-clause-some : goal.returns-clause-some
returns-clause-some c =
    an_address c.args.text.now c.in_ok-first.rest.now c.in_ok-second.rest.now c.in_ok-third.rest.now
    c.in_ok-first.first c.in_ok-second.second c.in_ok-third.third c.in_ok-fourth.fourth c.v4.result
    c.in_ok-first.ensures.some c.in_ok-second.ensures.some c.in_ok-third.ensures.some c.in_ok-fourth.ensures.some (omega (arith, c.v4.ensures))
