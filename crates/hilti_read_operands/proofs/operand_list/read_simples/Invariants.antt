use Rattle.std.proofs.Common.{◌<◌, length}
use Rattle.hilti_grammar.specs.Grammar.{Symbol.Rule}
use Rattle.hilti_read_operands.specs.Operands.{simple_tree}
use Rattle.hilti_reader.specs.Loops.{GathersAll}
use Rattle.hilti_reader.specs.Modules.{RuleName.SimpleText as a_simple}
use Rattle.hilti_read_operands.proofs.operand_list.read_simples.Given as goal

abbrev pub invariant-items : goal.invariant-items
invariant-items l = GathersAll (Rule a_simple) simple_tree l.fn.cursor l.items l.cursor × (length l.cursor < length l.fn.cursor)

abbrev pub decreases-items : goal.decreases-items
decreases-items l = length l.cursor
