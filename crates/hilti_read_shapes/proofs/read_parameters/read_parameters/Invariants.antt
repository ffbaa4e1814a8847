use Rattle.std.proofs.Common.{◌<◌, length}
use Rattle.hilti_read_shapes.specs.Shapes.{parameter_tree}
use Rattle.hilti_reader.specs.Loops.{GathersAll}
use Rattle.hilti_reader.specs.Modules.{typed_word}
use Rattle.hilti_read_shapes.proofs.read_parameters.read_parameters.Given as goal

abbrev pub invariant-parameters : goal.invariant-parameters
invariant-parameters l = GathersAll typed_word parameter_tree l.fn.cursor l.parameters l.cursor × (length l.cursor < length l.fn.cursor)

abbrev pub decreases-parameters : goal.decreases-parameters
decreases-parameters l = length l.cursor
