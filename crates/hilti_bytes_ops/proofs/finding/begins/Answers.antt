use Rattle.hilti_bytes_ops.proofs.Places.{begins_is}
use Rattle.hilti_bytes_ops.proofs.finding.begins.Goals as goal

pub returns : goal.returns
returns c = begins_is c.args.bytes.now c.args.front.now c.starts.result c.starts.ensures
