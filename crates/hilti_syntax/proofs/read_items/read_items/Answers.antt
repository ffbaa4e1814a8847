use Rattle.std.proofs.Common.{◌∙◌, sym}
use Rattle.hilti_grammar.specs.Grammar.{Symbol.Rule}
use Rattle.hilti_reader.specs.Modules.{RuleName.ItemText as an_item}
use Rattle.hilti_syntax.specs.Items.{item_tree}
use Rattle.hilti_syntax.proofs.Firsts.{sees_item}
use Rattle.hilti_reader.proofs.Exits.{exits, gives_up}
use Rattle.hilti_reader.proofs.Repeating.{many_begin, many_next, many_fail, many_end, shrinks_or_stays, stays}
use Rattle.hilti_syntax.proofs.read_items.read_items.Goals as goal

pub items-init : goal.items-init
items-init c = (
  many_begin (Rule an_item) item_tree _ _ c.new-items.ensures,
  stays _,
)

pub returns-in_err-next-clause-reads : goal.returns-in_err-next-clause-reads
returns-in_err-next-clause-reads c =
    exits _ _ _ _ c.from_residual.result c.in_err-next.field-0.0 c.from_residual.ensures.1
    (many_fail (Rule an_item) item_tree _ _ _ c.items.items _ c.items.invariant.0 (sees_item _ _ (sym c.sees.ensures ∙ c.items-test.true)) c.in_err-next.ensures.reads)

pub returns-in_err-push-clause-reads : goal.returns-in_err-push-clause-reads
returns-in_err-push-clause-reads c = gives_up _ _ _ _ c.from_residual-in_err-push.result c.from_residual-in_err-push.ensures.1

pub items-preserved : goal.items-preserved
items-preserved c = (
  many_next (Rule an_item) item_tree _ _ _ c.items.items _ c.in_ok-next.next c.in_ok-push.ensures.ok c.items.invariant.0 (sees_item _ _ (sym c.sees.ensures ∙ c.items-test.true)) c.in_ok-next.ensures.reads,
  shrinks_or_stays _ _ _ c.items.invariant.1 c.in_ok-next.ensures.shorter,
)

pub returns-clause-reads : goal.returns-clause-reads
returns-clause-reads c = many_end (Rule an_item) item_tree _ _ c.items.items c.items.invariant.0 (sees_item _ _ (sym c.sees.ensures ∙ c.items-test.false))
