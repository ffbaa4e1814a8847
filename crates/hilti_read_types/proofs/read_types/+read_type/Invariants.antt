use Rattle.std.proofs.Common.{◌<◌, length, ◌+◌, ◌*◌}
use Rattle.hilti_grammar.specs.Grammar.{Symbol.Rule}
use Rattle.hilti_reader.specs.Loops.{GathersAll}
use Rattle.hilti_reader.specs.Modules.{RuleName.TypeText as a_type}
use Rattle.hilti_read_types.specs.Trees.{type_tree}
use Rattle.hilti_read_types.proofs.read_types.+read_type.Given as goal

abbrev pub decreases-read_container : goal.decreases-read_container
decreases-read_container l = 4 * length l.cursor.now + 1

abbrev pub decreases-read_inner : goal.decreases-read_inner
decreases-read_inner l = 4 * length l.cursor.now + 2

abbrev pub decreases-read_parametric : goal.decreases-read_parametric
decreases-read_parametric l = 4 * length l.cursor.now + 1

abbrev pub decreases-read_type : goal.decreases-read_type
decreases-read_type l = 4 * length l.cursor.now + 2

abbrev pub decreases-read_types : goal.decreases-read_types
decreases-read_types l = 4 * length l.cursor.now + 3

abbrev pub invariant-read_types-parts : goal.invariant-read_types-parts
invariant-read_types-parts l = GathersAll (Rule a_type) type_tree l.fn.cursor l.parts l.cursor × (length l.cursor < length l.fn.cursor)

abbrev pub decreases-read_types-parts : goal.decreases-read_types-parts
decreases-read_types-parts l = length l.cursor
