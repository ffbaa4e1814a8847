use Rattle.std.proofs.Common.{◌≡◌, ◌≤◌, ◌+◌, length, arith}
use Rattle.hilti_table.specs.Rows.{kinds}
use Rattle.hilti_operands.specs.Lines.{so_far, read_of}
use Rattle.hilti_operands.specs.Seen.{body_seen, line_seen}
use Rattle.hilti_operands.proofs.Lining.{line_next, line_stops, line_too_long, line_too_short, line_ends}
use Rattle.hilti_operands.proofs.lines.read_all.Goals as goal

pub returns-in_default : goal.returns-in_default
returns-in_default c =
    line_too_long (line_seen c.args.line.now) _ (kinds c.args.takes (length c.args.items.now)) c.args.items.now c.loop-at.at _ c.in_default.ensures c.loop-at-test.true c.loop-at.invariant.1

pub returns-in-Err : goal.returns-in-Err
returns-in-Err c =
    line_stops (line_seen c.args.line.now) _ (kinds c.args.takes (length c.args.items.now)) c.args.items.now c.loop-at.at _ _ _ (so_far (body_seen c.args.line.now.body) c.read_next.new.operands) (read_of (body_seen c.args.line.now.body)) _ c.in-Some.ensures c.loop-at-test.true c.index-items-at.is c.in-Err.ensures c.loop-at.invariant.1

pub loop-at-preserved : goal.loop-at-preserved
loop-at-preserved c =
    let more : c.loop-at.at + 1 ≤ length c.args.items.now = omega (arith, c.loop-at-test.true) in
    (more, line_next (line_seen c.args.line.now) _ (kinds c.args.takes (length c.args.items.now)) c.args.items.now c.loop-at.at _ _ _ _ c.in-Some.ensures c.loop-at-test.true c.index-items-at.is c.in-Ok.ensures c.loop-at.invariant.1)

pub returns-in-Some-kind_at : goal.returns-in-Some-kind_at
returns-in-Some-kind_at c =
    let all : c.loop-at.at ≡ length c.args.items.now = omega (arith, c.loop-at.invariant.0, c.loop-at-test.false) in
    line_too_short (line_seen c.args.line.now) _ (kinds c.args.takes (length c.args.items.now)) c.args.items.now c.loop-at.at (length c.args.items.now) _ _ all c.in-Some-kind_at.ensures c.loop-at-test.false c.loop-at.invariant.1

pub returns-in-None : goal.returns-in-None
returns-in-None c =
    let all : c.loop-at.at ≡ length c.args.items.now = omega (arith, c.loop-at.invariant.0, c.loop-at-test.false) in
    line_ends (line_seen c.args.line.now) _ (kinds c.args.takes (length c.args.items.now)) c.args.items.now c.loop-at.at (length c.args.items.now) _ all c.in-None.ensures c.loop-at-test.false c.loop-at.invariant.1
