use Rattle.std.proofs.lemmas.Nat.{or_lt, xor_lt}
use Rattle.hilti_int.specs.Integers.{bits_of}
use Rattle.hilti_int.proofs.operations.apply.Goals as goal

pub returns-in-Or-clause-fits : goal.returns-in-Or-clause-fits
returns-in-Or-clause-fits c = or_lt (bits_of c.args.width) c.args.a c.args.b c.requires.a_fits c.requires.b_fits

pub returns-in-Xor-clause-fits : goal.returns-in-Xor-clause-fits
returns-in-Xor-clause-fits c = xor_lt (bits_of c.args.width) c.args.a c.args.b c.requires.a_fits c.requires.b_fits
