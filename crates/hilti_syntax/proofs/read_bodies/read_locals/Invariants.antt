use Rattle.std.proofs.Common.{◌≤◌, length}
use Rattle.hilti_syntax.specs.Items.{local_tree}
use Rattle.hilti_reader.specs.Loops.{RepeatsAll}
use Rattle.hilti_syntax.proofs.read_bodies.read_locals.Given as goal
use Rattle.hilti_reader.specs.Modules.{local_line}

abbrev pub invariant-locals : goal.invariant-locals
invariant-locals l = RepeatsAll local_line local_tree l.fn.cursor l.locals l.cursor × (length l.cursor ≤ length l.fn.cursor)

abbrev pub decreases-locals : goal.decreases-locals
decreases-locals l = length l.cursor
