use Rattle.std.proofs.Common.{arith}
use Rattle.hilti_bytes.proofs.pieces.find.Goals as goal

pub returns-in-Some-clause-least : goal.returns-in-Some-clause-least
returns-in-Some-clause-least c = λ k below is. c.in-Some.ensures.0.before k (omega arith) below (record { fits = is.fits; reads = is.reads })

pub returns-in-None-clause-none : goal.returns-in-None-clause-none
returns-in-None-clause-none c = λ _ k is. c.in-None.ensures k (omega arith) (omega (arith, is.fits)) (record { fits = is.fits; reads = is.reads })
