use Rattle.std.proofs.Common.{◌∙◌, sym, ap, List, [], ◌∷◌, ◌++◌}
use Rattle.hilti_grammar.specs.Runs.{Runs.FirstFails, Runs.Follows}
use Rattle.hilti_module.specs.declared.module.Parameter.{Parameter}
use Rattle.hilti_read_shapes.specs.Shapes.{parameter_tree}
use Rattle.hilti_reader.specs.Modules.{typed_word}
use Rattle.hilti_reader.proofs.Exits.{exits, gives_up}
use Rattle.hilti_reader.proofs.Gathering.{all_begin, all_next, all_fail, all_stop, all_end, all_some}
use Rattle.hilti_read_types.proofs.ReadingTypes.{shrinks}
use Rattle.hilti_read_shapes.proofs.read_parameters.read_parameters.Goals as goal

pub returns-in_err-first-clause-reads : goal.returns-in_err-first-clause-reads
returns-in_err-first-clause-reads c = exits _ _ _ _ c.from_residual.result c.in_err-first.field-0.0 c.from_residual.ensures.1 (Follows (FirstFails c.in_err-first.ensures.reads))

pub returns-in_err-push-clause-reads : goal.returns-in_err-push-clause-reads
returns-in_err-push-clause-reads c = gives_up _ _ _ _ c.from_residual-in_err-push.result c.from_residual-in_err-push.ensures.1

pub parameters-init : goal.parameters-init
parameters-init c = (
  all_begin typed_word parameter_tree _ _ _ c.in_ok-first.first (c.in_ok-push.ensures.ok ∙ ap (λ (l : List Parameter). l ++ c.in_ok-first.first ∷ []) c.new-parameters.ensures) c.in_ok-first.ensures.reads,
  c.in_ok-first.ensures.shorter,
)

pub returns-in_err-skip-clause-reads : goal.returns-in_err-skip-clause-reads
returns-in_err-skip-clause-reads c =
    exits _ _ _ _ c.from_residual-in_err-skip.result c.in_err-skip.field-0.0 c.from_residual-in_err-skip.ensures.1
    (Follows (all_stop typed_word parameter_tree _ _ _ c.parameters.parameters _ c.parameters.invariant.0 (sym c.sees.ensures ∙ c.parameters-test.true) c.in_err-skip.ensures.reads))

pub returns-in_err-next-clause-reads : goal.returns-in_err-next-clause-reads
returns-in_err-next-clause-reads c =
    exits _ _ _ _ c.from_residual-in_err-next.result c.in_err-next.field-0.0 c.from_residual-in_err-next.ensures.1
    (Follows (all_fail typed_word parameter_tree _ _ _ _ c.parameters.parameters _ c.parameters.invariant.0 (sym c.sees.ensures ∙ c.parameters-test.true) c.in_ok-skip.ensures.reads c.in_err-next.ensures.reads))

pub returns-in_err-push-2-clause-reads : goal.returns-in_err-push-2-clause-reads
returns-in_err-push-2-clause-reads c = gives_up _ _ _ _ c.from_residual-in_err-push-2.result c.from_residual-in_err-push-2.ensures.1

pub parameters-preserved : goal.parameters-preserved
parameters-preserved c = (
  all_next typed_word parameter_tree _ _ _ _ c.parameters.parameters _ c.in_ok-next.next c.in_ok-push-2.ensures.ok c.parameters.invariant.0 (sym c.sees.ensures ∙ c.parameters-test.true) c.in_ok-skip.ensures.reads c.in_ok-next.ensures.reads,
  shrinks _ _ _ _ c.parameters.invariant.1 c.in_ok-skip.ensures.shorter c.in_ok-next.ensures.shorter,
)

pub returns-clause-reads : goal.returns-clause-reads
returns-clause-reads c = Follows (all_end typed_word parameter_tree _ _ c.parameters.parameters c.parameters.invariant.0 (sym c.sees.ensures ∙ c.parameters-test.false))

pub returns-clause-some : goal.returns-clause-some
returns-clause-some c = all_some typed_word parameter_tree _ _ c.parameters.parameters c.parameters.invariant.0
