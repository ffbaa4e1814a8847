use Rattle.std.proofs.Common.{sym, arith}
use Rattle.hilti_int.proofs.Shifts.{shifted_right}
use Rattle.hilti_int.proofs.twos_complement.shift_right.Goals as goal

pub returns-else-by-lt64 : goal.returns-else-by-lt64
returns-else-by-lt64 c = sym (shifted_right 64 c.args.a c.args.by (omega arith) (omega arith))
