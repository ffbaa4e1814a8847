use Rattle.std.proofs.Common.{◌∙◌, sym, ap, List, [], ◌∷◌, ◌++◌}
use Rattle.hilti_grammar.specs.Runs.{Runs.FirstFails}
use Rattle.hilti_module.specs.declared.module.Field.{Field}
use Rattle.hilti_read_shapes.specs.Shapes.{field_tree}
use Rattle.hilti_grammar.specs.Grammar.{Symbol.Rule}
use Rattle.hilti_reader.specs.Modules.{RuleName.FieldText as a_field}
use Rattle.hilti_reader.proofs.Exits.{exits, gives_up}
use Rattle.hilti_reader.proofs.Gathering.{all_begin, all_next, all_fail, all_stop, all_end}
use Rattle.hilti_read_types.proofs.ReadingTypes.{shrinks}
use Rattle.hilti_read_shapes.proofs.read_forms.read_fields.Goals as goal

pub returns-in_err-first-clause-reads : goal.returns-in_err-first-clause-reads
returns-in_err-first-clause-reads c = exits _ _ _ _ c.from_residual.result c.in_err-first.field-0.0 c.from_residual.ensures.1 (FirstFails c.in_err-first.ensures.reads)

pub returns-in_err-push-clause-reads : goal.returns-in_err-push-clause-reads
returns-in_err-push-clause-reads c = gives_up _ _ _ _ c.from_residual-in_err-push.result c.from_residual-in_err-push.ensures.1

pub fields-init : goal.fields-init
fields-init c = (
  all_begin (Rule a_field) field_tree _ _ _ c.in_ok-first.first (c.in_ok-push.ensures.ok ∙ ap (λ (l : List Field). l ++ c.in_ok-first.first ∷ []) c.new-fields.ensures) c.in_ok-first.ensures.reads,
  c.in_ok-first.ensures.shorter,
)

pub returns-in_err-skip-clause-reads : goal.returns-in_err-skip-clause-reads
returns-in_err-skip-clause-reads c =
    exits _ _ _ _ c.from_residual-in_err-skip.result c.in_err-skip.field-0.0 c.from_residual-in_err-skip.ensures.1
    (all_stop (Rule a_field) field_tree _ _ _ c.fields.fields _ c.fields.invariant.0 (sym c.sees.ensures ∙ c.fields-test.true) c.in_err-skip.ensures.reads)

pub returns-in_err-next-clause-reads : goal.returns-in_err-next-clause-reads
returns-in_err-next-clause-reads c =
    exits _ _ _ _ c.from_residual-in_err-next.result c.in_err-next.field-0.0 c.from_residual-in_err-next.ensures.1
    (all_fail (Rule a_field) field_tree _ _ _ _ c.fields.fields _ c.fields.invariant.0 (sym c.sees.ensures ∙ c.fields-test.true) c.in_ok-skip.ensures.reads c.in_err-next.ensures.reads)

pub returns-in_err-push-2-clause-reads : goal.returns-in_err-push-2-clause-reads
returns-in_err-push-2-clause-reads c = gives_up _ _ _ _ c.from_residual-in_err-push-2.result c.from_residual-in_err-push-2.ensures.1

pub fields-preserved : goal.fields-preserved
fields-preserved c = (
  all_next (Rule a_field) field_tree _ _ _ _ c.fields.fields _ c.in_ok-next.next c.in_ok-push-2.ensures.ok c.fields.invariant.0 (sym c.sees.ensures ∙ c.fields-test.true) c.in_ok-skip.ensures.reads c.in_ok-next.ensures.reads,
  shrinks _ _ _ _ c.fields.invariant.1 c.in_ok-skip.ensures.shorter c.in_ok-next.ensures.shorter,
)

pub returns-clause-reads : goal.returns-clause-reads
returns-clause-reads c = all_end (Rule a_field) field_tree _ _ c.fields.fields c.fields.invariant.0 (sym c.sees.ensures ∙ c.fields-test.false)
