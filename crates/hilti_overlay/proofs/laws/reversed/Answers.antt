use Rattle.std.proofs.Common.{ap}
use Rattle.hilti_overlay.specs.declared.field.Scalar.TheVariants as scalars
use Rattle.hilti_overlay.specs.Fields.{bits_in}
use Rattle.hilti_overlay.proofs.Orders.{reversed_number}
use Rattle.hilti_overlay.proofs.laws.reversed.Goals as goal

pub returns-clause-two : goal.returns-clause-two
returns-clause-two c = λ bits at bytes e. ap (λ n. scalars.Int (bits_in bits n)) (reversed_number 2 bytes e)

pub returns-clause-four : goal.returns-clause-four
returns-clause-four c = λ bits at bytes e. ap (λ n. scalars.Int (bits_in bits n)) (reversed_number 4 bytes e)

pub returns-clause-eight : goal.returns-clause-eight
returns-clause-eight c = λ bits at bytes e. ap (λ n. scalars.Int (bits_in bits n)) (reversed_number 8 bytes e)
