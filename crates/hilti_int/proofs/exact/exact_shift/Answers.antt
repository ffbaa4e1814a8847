use Rattle.std.proofs.Common.{◌≤◌, arith}
use Rattle.std.proofs.lemmas.Bool.Decides.{nat_tests}
use Rattle.hilti_int.specs.Integers.{bits_of}
use Rattle.hilti_int.proofs.Shifts.{bits_le, outgrown}
use Rattle.hilti_int.proofs.exact.exact_shift.Goals as goal

pub returns-else-by-lt64 : goal.returns-else-by-lt64
returns-else-by-lt64 c =
    let far : bits_of c.args.width ≤ c.args.by =
    omega (arith, bits_le c.args.width, c.if-by-lt64.false) in
    let some : 1 ≤ c.args.a = omega (arith, c.if-a-eq0.false) in
    grind (arith, nat_tests, outgrown (bits_of c.args.width) c.args.a c.args.by far some)
