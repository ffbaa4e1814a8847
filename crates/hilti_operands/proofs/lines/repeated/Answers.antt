use Rattle.hilti_operands.proofs.Lining.{within_replicate, past_replicate}
use Rattle.hilti_operands.proofs.lines.repeated.Goals as goal

pub returns-then-at-written : goal.returns-then-at-written
returns-then-at-written c = within_replicate c.args.written c.args.at c.args.kind c.if-at-written.true

pub returns-else-at-written : goal.returns-else-at-written
returns-else-at-written c = past_replicate c.args.written c.args.at c.args.kind c.if-at-written.false
