use Rattle.std.proofs.Common.{refl}
use Rattle.hilti_addr.proofs.Spelled.{no_back_groups, no_front_groups, spelled_none, spelled_some}
use Rattle.hilti_addr.proofs.brackets.read_spelled.Goals as goal

pub returns-in_err-before-clause-none : goal.returns-in_err-before-clause-none
returns-in_err-before-clause-none c = λ _.
    no_front_groups c.args.text.now c.in-Some.front.now c.in-Some.back.now c.in-Some.ensures.some (c.in_err-before.ensures.none refl)

pub returns-in_err-after-clause-none : goal.returns-in_err-after-clause-none
returns-in_err-after-clause-none c = λ _.
    no_back_groups c.args.text.now c.in-Some.front.now c.in-Some.back.now c.in-Some.ensures.some (c.in_err-after.ensures.none refl)

pub returns-clause-some : goal.returns-clause-some
returns-clause-some c =
    spelled_some c.args.text.now c.in-Some.front.now c.in-Some.back.now c.in_ok-before.before c.in_ok-after.after c.fill.result
    c.in-Some.ensures.some c.in_ok-before.ensures.some c.in_ok-after.ensures.some c.fill.ensures

pub returns-clause-none : goal.returns-clause-none
returns-clause-none c =
    spelled_none c.args.text.now c.in-Some.front.now c.in-Some.back.now c.in_ok-before.before c.in_ok-after.after c.fill.result
    c.in-Some.ensures.some c.in_ok-before.ensures.some c.in_ok-after.ensures.some c.fill.ensures
