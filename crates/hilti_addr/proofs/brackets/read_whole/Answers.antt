use Rattle.std.proofs.Common.{refl}
use Rattle.hilti_addr.proofs.Spelled.{a_whole, no_whole_few, no_whole_many}
use Rattle.hilti_addr.proofs.brackets.read_whole.Goals as goal

pub returns-in_err-groups-clause-none : goal.returns-in_err-groups-clause-none
returns-in_err-groups-clause-none c = λ _. no_whole_many c.args.text.now c.requires (c.in_err-groups.ensures.none refl)

pub returns-then-groups-eq-MOST_GROUPS-clause-some : goal.returns-then-groups-eq-MOST_GROUPS-clause-some
returns-then-groups-eq-MOST_GROUPS-clause-some c =
    a_whole c.args.text.now c.in_ok-groups.groups c.in_ok-groups.ensures.some c.if-groups-eq-MOST_GROUPS.true

pub returns-else-groups-eq-MOST_GROUPS-clause-none : goal.returns-else-groups-eq-MOST_GROUPS-clause-none
returns-else-groups-eq-MOST_GROUPS-clause-none c = λ _.
    no_whole_few c.args.text.now c.in_ok-groups.groups c.requires c.in_ok-groups.ensures.some c.if-groups-eq-MOST_GROUPS.false
