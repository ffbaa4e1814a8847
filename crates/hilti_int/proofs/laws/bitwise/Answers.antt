use Rattle.std.proofs.lemmas.Nat.Bits.{bit_at_and, bit_at_or, bit_at_xor}
use Rattle.hilti_int.proofs.laws.bitwise.Goals as goal

pub returns : goal.returns
returns c = record { both = λ _. bit_at_and; either = λ _. bit_at_or; one = λ _. bit_at_xor }
