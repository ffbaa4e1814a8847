use Rattle.std.proofs.Common.{refl, subst, sym}
use Rattle.hilti_addr.proofs.Groups.{Follows, ended, goes_on, no_front, no_last, room_for_one}
use Rattle.hilti_addr.proofs.brackets.read_groups.Goals as goal

pub returns-in_err-group-clause-none : goal.returns-in_err-group-clause-none
returns-in_err-group-clause-none c = λ _.
    no_front c.args.text.now c.loop-front.rest.now c.in-Some.front.now c.in-Some.back.now c.loop-front.groups c.loop-front.invariant
    c.in-Some.ensures.some (c.in_err-group.ensures.none refl)

pub with-requires : goal.with-requires
with-requires c = λ room. room_for_one c.loop-front.groups c.loop-front.invariant.counted.small room

pub loop-front-preserved : goal.loop-front-preserved
loop-front-preserved c =
    subst (Follows c.args.text.now c.in-Some.back.now) (sym c.in_ok-groups.ensures.1)
    (goes_on c.args.text.now c.loop-front.rest.now c.in-Some.front.now c.in-Some.back.now c.loop-front.groups c.in_ok-group.group
    c.loop-front.invariant c.in-Some.ensures.some c.in_ok-group.ensures.some c.in_ok-groups.ensures.0)

pub returns-in_err-group-2-clause-none : goal.returns-in_err-group-2-clause-none
returns-in_err-group-2-clause-none c = λ _.
    no_last c.args.text.now c.loop-front.rest.now c.loop-front.groups c.loop-front.invariant (c.in_default.ensures.none refl)
    (c.in_err-group-2.ensures.none refl)

pub with-requires-2 : goal.with-requires-2
with-requires-2 c = λ room. room_for_one c.loop-front.groups c.loop-front.invariant.counted.small room

pub returns-clause-some : goal.returns-clause-some
returns-clause-some c =
    ended c.args.text.now c.loop-front.rest.now c.loop-front.groups c.in_ok-group-2.group c.with-2.result c.loop-front.invariant
    c.in_ok-group-2.ensures.some c.with-2.ensures
