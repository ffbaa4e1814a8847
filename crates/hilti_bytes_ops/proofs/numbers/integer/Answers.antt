use Rattle.hilti_bytes_ops.proofs.Decided.{integer_is}
use Rattle.hilti_bytes_ops.proofs.numbers.integer.Goals as goal

pub returns : goal.returns
returns c =
    integer_is c.args.base c.args.bytes.now c.to_int.result c.to_int.ensures.exact
    c.to_int.ensures.raise
