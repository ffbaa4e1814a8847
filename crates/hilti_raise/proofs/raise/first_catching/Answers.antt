use Rattle.std.proofs.Common.{sym, ◌∙◌, arith}
use Rattle.std.proofs.lemmas.Bool.{false≢true}
use Rattle.hilti_parts.specs.declared.parts.Handler.{Handler}
use Rattle.hilti_raise.specs.Handlers.{Catches}
use Rattle.hilti_raise.proofs.Catching.{one_more, first_is}
use Rattle.hilti_raise.proofs.raise.first_catching.Goals as goal

pub returns-then-is_below : goal.returns-then-is_below
returns-then-is_below c =
    first_is c.args.program.now.exceptions c.args.exception c.args.handlers.now c.loop-handler.handler-index _ c.loop-handler-test.true
    (c.is_below.ensures.0 c.if-is_below.true) c.loop-handler.invariant

pub loop-handler-preserved : goal.loop-handler-preserved
loop-handler-preserved c =
    one_more (λ (h : Handler). Catches c.args.program.now.exceptions c.args.exception h → ⊥) c.args.handlers.now c.loop-handler.handler-index _
    c.loop-handler-test.true (λ below. false≢true (sym c.if-is_below.false ∙ c.is_below.ensures.1 below)) c.loop-handler.invariant

pub returns : goal.returns
returns c k d less = c.loop-handler.invariant k d (omega (arith, less, c.loop-handler-test.false))
