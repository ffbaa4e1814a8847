use Rattle.hilti_shapes.proofs.Examples.{typed_beginning, untyped_beginnings, typed_values}
use Rattle.hilti_shapes.proofs.laws.examples.Goals as goal

pub returns : goal.returns
returns c = record { typed = typed_beginning; untyped = untyped_beginnings; values = typed_values }
