use Rattle.std.proofs.Common.{sym, ◌∙◌}
use Rattle.std.proofs.lemmas.Bool.{le-leb}
use Rattle.hilti_resolve.proofs.Widths.{many_bits, nothing_left}
use Rattle.hilti_resolve.proofs.literal.fits_in.Goals as goal

pub returns-then-bits-ge64 : goal.returns-then-bits-ge64
returns-then-bits-ge64 c = le-leb 64 c.args.bits c.if-bits-ge64.true ∙ sym (many_bits c.args.value c.args.bits c.ranges.value.fits c.if-bits-ge64.true)

pub returns-else-bits-ge64 : goal.returns-else-bits-ge64
returns-else-bits-ge64 c = nothing_left c.args.value c.args.bits
