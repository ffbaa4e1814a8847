use Rattle.std.proofs.Common.{◌∙◌, sym}
use Rattle.hilti_grammar.specs.Grammar.{Symbol.Rule}
use Rattle.hilti_reader.specs.Modules.{RuleName.LineText as a_line}
use Rattle.hilti_syntax.specs.Items.{line_tree}
use Rattle.hilti_syntax.proofs.Firsts.{sees_line}
use Rattle.hilti_reader.proofs.Exits.{exits, gives_up}
use Rattle.hilti_reader.proofs.Repeating.{many_begin, many_next, many_fail, many_end, shrinks_or_stays, stays}
use Rattle.hilti_syntax.proofs.read_bodies.read_lines.Goals as goal

pub lines-init : goal.lines-init
lines-init c = (
  many_begin (Rule a_line) line_tree _ _ c.new-lines.ensures,
  stays _,
)

pub returns-in_err-next-clause-reads : goal.returns-in_err-next-clause-reads
returns-in_err-next-clause-reads c =
    exits _ _ _ _ c.from_residual.result c.in_err-next.field-0.0 c.from_residual.ensures.1
    (many_fail (Rule a_line) line_tree _ _ _ c.lines.lines _ c.lines.invariant.0 (sees_line _ _ (sym c.sees.ensures ∙ c.lines-test.true)) c.in_err-next.ensures.reads)

pub returns-in_err-push-clause-reads : goal.returns-in_err-push-clause-reads
returns-in_err-push-clause-reads c = gives_up _ _ _ _ c.from_residual-in_err-push.result c.from_residual-in_err-push.ensures.1

pub lines-preserved : goal.lines-preserved
lines-preserved c = (
  many_next (Rule a_line) line_tree _ _ _ c.lines.lines _ c.in_ok-next.next c.in_ok-push.ensures.ok c.lines.invariant.0 (sees_line _ _ (sym c.sees.ensures ∙ c.lines-test.true)) c.in_ok-next.ensures.reads,
  shrinks_or_stays _ _ _ c.lines.invariant.1 c.in_ok-next.ensures.shorter,
)

pub returns-clause-reads : goal.returns-clause-reads
returns-clause-reads c = many_end (Rule a_line) line_tree _ _ c.lines.lines c.lines.invariant.0 (sees_line _ _ (sym c.sees.ensures ∙ c.lines-test.false))
