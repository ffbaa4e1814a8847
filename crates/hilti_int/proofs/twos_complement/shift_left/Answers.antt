use Rattle.std.proofs.Common.{sym, arith}
use Rattle.hilti_int.specs.Integers.{bits_of}
use Rattle.hilti_int.proofs.Shifts.{bits_le, shifted_left}
use Rattle.hilti_int.proofs.twos_complement.shift_left.Goals as goal

pub returns-else-by-lt64 : goal.returns-else-by-lt64
returns-else-by-lt64 c = sym (shifted_left (bits_of c.args.width) c.args.a c.args.by (omega (arith, bits_le c.args.width)))
