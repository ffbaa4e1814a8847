use Rattle.std.proofs.Common.{◌∙◌, sym}
use Rattle.hilti_syntax.specs.Items.{local_tree}
use Rattle.hilti_reader.proofs.Exits.{exits, gives_up}
use Rattle.hilti_reader.proofs.Repeating.{many_begin, many_next, many_fail, many_end, shrinks_or_stays, stays}
use Rattle.hilti_syntax.proofs.read_bodies.read_locals.Goals as goal
use Rattle.hilti_reader.specs.Modules.{local_line}

pub locals-init : goal.locals-init
locals-init c = (
  many_begin local_line local_tree _ _ c.new-locals.ensures,
  stays _,
)

pub returns-in_err-next-clause-reads : goal.returns-in_err-next-clause-reads
returns-in_err-next-clause-reads c =
    exits _ _ _ _ c.from_residual.result c.in_err-next.field-0.0 c.from_residual.ensures.1
    (many_fail local_line local_tree _ _ _ c.locals.locals _ c.locals.invariant.0 (sym c.sees.ensures ∙ c.locals-test.true) c.in_err-next.ensures.reads)

pub returns-in_err-push-clause-reads : goal.returns-in_err-push-clause-reads
returns-in_err-push-clause-reads c = gives_up _ _ _ _ c.from_residual-in_err-push.result c.from_residual-in_err-push.ensures.1

pub locals-preserved : goal.locals-preserved
locals-preserved c = (
  many_next local_line local_tree _ _ _ c.locals.locals _ c.in_ok-next.next c.in_ok-push.ensures.ok c.locals.invariant.0 (sym c.sees.ensures ∙ c.locals-test.true) c.in_ok-next.ensures.reads,
  shrinks_or_stays _ _ _ c.locals.invariant.1 c.in_ok-next.ensures.shorter,
)

pub returns-clause-reads : goal.returns-clause-reads
returns-clause-reads c = many_end local_line local_tree _ _ c.locals.locals c.locals.invariant.0 (sym c.sees.ensures ∙ c.locals-test.false)
