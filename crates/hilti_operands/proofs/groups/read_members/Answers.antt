use Rattle.hilti_operands.specs.Groups.{read_member}
use Rattle.hilti_operands.specs.Seen.{line_seen}
use Rattle.hilti_operands.proofs.Telling.{behind_none, member_next, member_stops, all_members}
use Rattle.hilti_operands.proofs.groups.read_members.Goals as goal

pub loop-at-init : goal.loop-at-init
loop-at-init c = rw c.new-members.ensures (behind_none _)

pub returns-in-Err : goal.returns-in-Err
returns-in-Err c =
    member_stops (read_member (line_seen c.args.line.now) c.args.group) _ c.args.kinds.now c.args.items.now c.loop-at.at _ _ c.loop-at.members _ c.loop-at-test.true c.index-items-at.is c.type_at.ensures c.in-Err.ensures c.loop-at.invariant

pub loop-at-preserved : goal.loop-at-preserved
loop-at-preserved c =
    rw c.in_ok-push-in-Ok.ensures.ok
    (member_next (read_member (line_seen c.args.line.now) c.args.group) _ c.args.kinds.now c.args.items.now c.loop-at.at _ _ c.loop-at.members _ c.loop-at-test.true c.index-items-at.is c.type_at.ensures c.in-Ok.ensures c.loop-at.invariant)

pub returns : goal.returns
returns c = all_members (read_member (line_seen c.args.line.now) c.args.group) _ c.args.kinds.now c.args.items.now c.loop-at.at c.loop-at.members c.loop-at-test.false c.loop-at.invariant
