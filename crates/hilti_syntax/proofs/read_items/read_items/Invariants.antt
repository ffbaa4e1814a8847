use Rattle.std.proofs.Common.{◌≤◌, length}
use Rattle.hilti_grammar.specs.Grammar.{Symbol.Rule}
use Rattle.hilti_reader.specs.Modules.{RuleName.ItemText as an_item}
use Rattle.hilti_syntax.specs.Items.{item_tree}
use Rattle.hilti_reader.specs.Loops.{RepeatsAll}
use Rattle.hilti_syntax.proofs.read_items.read_items.Given as goal

abbrev pub invariant-items : goal.invariant-items
invariant-items l = RepeatsAll (Rule an_item) item_tree l.fn.cursor l.items l.cursor × (length l.cursor ≤ length l.fn.cursor)

abbrev pub decreases-items : goal.decreases-items
decreases-items l = length l.cursor
