use Rattle.std.proofs.Common.{sym, length}
use Rattle.hilti_table.specs.Rows.{kinds}
use Rattle.hilti_operands.specs.Seen.{line_seen}
use Rattle.hilti_operands.proofs.Lining.{count_next, count_wrong, count_ends, count_done}
use Rattle.hilti_operands.proofs.counts.are_counted.Goals as goal

pub returns-in_default : goal.returns-in_default
returns-in_default c = sym (count_ends (line_seen c.args.line.now) _ (kinds c.args.takes (length c.args.items.now)) c.args.items.now c.loop-at.at _ c.in_default.ensures c.loop-at.invariant)

pub returns-then-not-is_group_counted : goal.returns-then-not-is_group_counted
returns-then-not-is_group_counted c =
    sym (count_wrong (line_seen c.args.line.now) _ (kinds c.args.takes (length c.args.items.now)) c.args.items.now c.loop-at.at _ _ _ c.in-Some.ensures c.loop-at-test.true c.index-items-at.is c.if-not-is_group_counted.ensures c.loop-at.invariant)

pub loop-at-preserved : goal.loop-at-preserved
loop-at-preserved c =
    count_next (line_seen c.args.line.now) _ (kinds c.args.takes (length c.args.items.now)) c.args.items.now c.loop-at.at _ _ _ _ _ c.in-Some.ensures c.loop-at-test.true c.index-items-at.is c.index-items-at-in-loop-at.is c.if-not-is_group_counted.ensures c.in-Ok.ensures c.loop-at.invariant

pub returns : goal.returns
returns c = sym (count_done (line_seen c.args.line.now) _ (kinds c.args.takes (length c.args.items.now)) c.args.items.now c.loop-at.at _ c.loop-at-test.false c.loop-at.invariant)
