use Rattle.std.proofs.Common.{◌≤◌, length}
use Rattle.hilti_grammar.specs.Grammar.{Symbol.Rule}
use Rattle.hilti_reader.specs.Modules.{RuleName.LineText as a_line}
use Rattle.hilti_syntax.specs.Items.{line_tree}
use Rattle.hilti_reader.specs.Loops.{RepeatsAll}
use Rattle.hilti_syntax.proofs.read_bodies.read_lines.Given as goal

abbrev pub invariant-lines : goal.invariant-lines
invariant-lines l = RepeatsAll (Rule a_line) line_tree l.fn.cursor l.lines l.cursor × (length l.cursor ≤ length l.fn.cursor)

abbrev pub decreases-lines : goal.decreases-lines
decreases-lines l = length l.cursor
