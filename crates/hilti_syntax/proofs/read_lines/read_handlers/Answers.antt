use Rattle.std.proofs.Common.{◌∙◌, sym}
use Rattle.hilti_syntax.specs.Items.{handler_tree}
use Rattle.hilti_reader.proofs.Exits.{exits, gives_up}
use Rattle.hilti_reader.proofs.Repeating.{many_begin, many_next, many_fail, many_end, shrinks_or_stays, stays}
use Rattle.hilti_syntax.proofs.read_lines.read_handlers.Goals as goal
use Rattle.hilti_reader.specs.Modules.{handler}

pub handlers-init : goal.handlers-init
handlers-init c = (
  many_begin handler handler_tree _ _ c.new-handlers.ensures,
  stays _,
)

pub returns-in_err-next-clause-reads : goal.returns-in_err-next-clause-reads
returns-in_err-next-clause-reads c =
    exits _ _ _ _ c.from_residual.result c.in_err-next.field-0.0 c.from_residual.ensures.1
    (many_fail handler handler_tree _ _ _ c.handlers.handlers _ c.handlers.invariant.0 (sym c.sees.ensures ∙ c.handlers-test.true) c.in_err-next.ensures.reads)

pub returns-in_err-push-clause-reads : goal.returns-in_err-push-clause-reads
returns-in_err-push-clause-reads c = gives_up _ _ _ _ c.from_residual-in_err-push.result c.from_residual-in_err-push.ensures.1

pub handlers-preserved : goal.handlers-preserved
handlers-preserved c = (
  many_next handler handler_tree _ _ _ c.handlers.handlers _ c.in_ok-next.next c.in_ok-push.ensures.ok c.handlers.invariant.0 (sym c.sees.ensures ∙ c.handlers-test.true) c.in_ok-next.ensures.reads,
  shrinks_or_stays _ _ _ c.handlers.invariant.1 c.in_ok-next.ensures.shorter,
)

pub returns-clause-reads : goal.returns-clause-reads
returns-clause-reads c = many_end handler handler_tree _ _ c.handlers.handlers c.handlers.invariant.0 (sym c.sees.ensures ∙ c.handlers-test.false)
