use Rattle.std.proofs.Common.{◌≤◌, length}
use Rattle.hilti_syntax.specs.Items.{handler_tree}
use Rattle.hilti_reader.specs.Loops.{RepeatsAll}
use Rattle.hilti_syntax.proofs.read_lines.read_handlers.Given as goal
use Rattle.hilti_reader.specs.Modules.{handler}

abbrev pub invariant-handlers : goal.invariant-handlers
invariant-handlers l = RepeatsAll handler handler_tree l.fn.cursor l.handlers l.cursor × (length l.cursor ≤ length l.fn.cursor)

abbrev pub decreases-handlers : goal.decreases-handlers
decreases-handlers l = length l.cursor
