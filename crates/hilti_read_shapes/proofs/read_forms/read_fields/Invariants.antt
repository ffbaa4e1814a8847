use Rattle.std.proofs.Common.{◌<◌, length}
use Rattle.hilti_read_shapes.specs.Shapes.{field_tree}
use Rattle.hilti_reader.specs.Loops.{GathersAll}
use Rattle.hilti_grammar.specs.Grammar.{Symbol.Rule}
use Rattle.hilti_reader.specs.Modules.{RuleName.FieldText as a_field}
use Rattle.hilti_read_shapes.proofs.read_forms.read_fields.Given as goal

abbrev pub invariant-fields : goal.invariant-fields
invariant-fields l = GathersAll (Rule a_field) field_tree l.fn.cursor l.fields l.cursor × (length l.cursor < length l.fn.cursor)

abbrev pub decreases-fields : goal.decreases-fields
decreases-fields l = length l.cursor
