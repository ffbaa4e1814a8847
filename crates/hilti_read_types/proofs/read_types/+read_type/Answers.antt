use Rattle.std.proofs.Common.{◌∙◌, sym, ap, List, [], ◌∷◌, ◌++◌}
use Rattle.hilti_module.specs.declared.types.TypeText.{TypeText}
use Rattle.hilti_grammar.specs.Runs.{Runs.FirstFails, Runs.Then, Runs.Follows, Runs.ToLeft, Runs.ToRight}
use Rattle.hilti_reader.proofs.Exits.{exits, gives_up, gives}
use Rattle.hilti_read_types.proofs.ReadingTypes.{sees_parametric, sees_container, plain_is, parametric_is, named_is, int_is, tuple_is, iterator_is, ref_is, word_is, container_is, declared_is, single_boxed, double_boxed, shrinks}
use Rattle.hilti_grammar.specs.Grammar.{Symbol.Rule}
use Rattle.hilti_reader.specs.Modules.{RuleName.TypeText as a_type}
use Rattle.hilti_reader.proofs.Gathering.{all_begin, all_next, all_fail, all_stop, all_end}
use Rattle.hilti_read_types.specs.Trees.{type_tree}
use Rattle.hilti_read_types.proofs.read_types.+read_type.Goals as goal

pub read_type-returns-in_err-place-clause-reads : goal.read_type-returns-in_err-place-clause-reads
read_type-returns-in_err-place-clause-reads t c =
    exits _ _ _ _ c.from_residual.result c.in_err-place.field-0.0 c.from_residual.ensures.1 (Follows (ToLeft (sym c.sees.ensures ∙ c.if-sees.true) c.in_err-place.ensures.reads))

pub read_type-returns-then-sees-clause-reads : goal.read_type-returns-then-sees-clause-reads
read_type-returns-then-sees-clause-reads t c =
    gives _ _ _ _ _ (plain_is _ _) (Follows (ToLeft (sym c.sees.ensures ∙ c.if-sees.true) c.in_ok-place.ensures.reads))

pub read_type-returns-in_err-parametric-clause-reads : goal.read_type-returns-in_err-parametric-clause-reads
read_type-returns-in_err-parametric-clause-reads t c =
    exits _ _ _ _ c.from_residual-in_err-parametric.result c.in_err-parametric.field-0.0 c.from_residual-in_err-parametric.ensures.1 (Follows (ToRight (sym c.sees.ensures ∙ c.if-sees.false) (ToLeft (sees_parametric _ _ (sym c.sees-2.ensures ∙ c.if-sees-2.true)) c.in_err-parametric.ensures.reads)))

pub read_type-returns-then-sees-2-clause-reads : goal.read_type-returns-then-sees-2-clause-reads
read_type-returns-then-sees-2-clause-reads t c =
    gives _ _ _ _ _ (parametric_is _) (Follows (ToRight (sym c.sees.ensures ∙ c.if-sees.false) (ToLeft (sees_parametric _ _ (sym c.sees-2.ensures ∙ c.if-sees-2.true)) c.in_ok-parametric.ensures.reads)))

pub read_type-returns-in_err-name-clause-reads : goal.read_type-returns-in_err-name-clause-reads
read_type-returns-in_err-name-clause-reads t c =
    exits _ _ _ _ c.from_residual-in_err-name.result c.in_err-name.field-0.0 c.from_residual-in_err-name.ensures.1 (Follows (ToRight (sym c.sees.ensures ∙ c.if-sees.false) (ToRight (sees_parametric _ _ (sym c.sees-2.ensures ∙ c.if-sees-2.false)) c.in_err-name.ensures.reads)))

pub read_type-returns-clause-reads : goal.read_type-returns-clause-reads
read_type-returns-clause-reads t c =
    gives _ _ _ _ _ (named_is _) (Follows (ToRight (sym c.sees.ensures ∙ c.if-sees.false) (ToRight (sees_parametric _ _ (sym c.sees-2.ensures ∙ c.if-sees-2.false)) c.in_ok-name.ensures.reads)))

pub read_inner-returns-in_err-place-clause-reads : goal.read_inner-returns-in_err-place-clause-reads
read_inner-returns-in_err-place-clause-reads t c =
    exits _ _ _ _ c.from_residual.result c.in_err-place.field-0.0 c.from_residual.ensures.1 (Follows (ToLeft (sym c.sees.ensures ∙ c.if-sees.true) c.in_err-place.ensures.reads))

pub read_inner-returns-then-sees-clause-reads : goal.read_inner-returns-then-sees-clause-reads
read_inner-returns-then-sees-clause-reads t c =
    gives _ _ _ _ _ (word_is _ _) (Follows (ToLeft (sym c.sees.ensures ∙ c.if-sees.true) c.in_ok-place.ensures.reads))

pub read_inner-returns-in_err-container-clause-reads : goal.read_inner-returns-in_err-container-clause-reads
read_inner-returns-in_err-container-clause-reads t c =
    exits _ _ _ _ c.from_residual-in_err-container.result c.in_err-container.field-0.0 c.from_residual-in_err-container.ensures.1 (Follows (ToRight (sym c.sees.ensures ∙ c.if-sees.false) (ToLeft (sees_container _ _ (sym c.sees-2.ensures ∙ c.if-sees-2.true)) c.in_err-container.ensures.reads)))

pub read_inner-returns-then-sees-2-clause-reads : goal.read_inner-returns-then-sees-2-clause-reads
read_inner-returns-then-sees-2-clause-reads t c =
    gives _ _ _ _ _ (container_is _) (Follows (ToRight (sym c.sees.ensures ∙ c.if-sees.false) (ToLeft (sees_container _ _ (sym c.sees-2.ensures ∙ c.if-sees-2.true)) c.in_ok-container.ensures.reads)))

pub read_inner-returns-in_err-name-clause-reads : goal.read_inner-returns-in_err-name-clause-reads
read_inner-returns-in_err-name-clause-reads t c =
    exits _ _ _ _ c.from_residual-in_err-name.result c.in_err-name.field-0.0 c.from_residual-in_err-name.ensures.1 (Follows (ToRight (sym c.sees.ensures ∙ c.if-sees.false) (ToRight (sees_container _ _ (sym c.sees-2.ensures ∙ c.if-sees-2.false)) c.in_err-name.ensures.reads)))

pub read_inner-returns-clause-reads : goal.read_inner-returns-clause-reads
read_inner-returns-clause-reads t c =
    gives _ _ _ _ _ (declared_is _) (Follows (ToRight (sym c.sees.ensures ∙ c.if-sees.false) (ToRight (sees_container _ _ (sym c.sees-2.ensures ∙ c.if-sees-2.false)) c.in_ok-name.ensures.reads)))

pub read_parametric-returns-in_err-int-clause-reads : goal.read_parametric-returns-in_err-int-clause-reads
read_parametric-returns-in_err-int-clause-reads t c =
    exits _ _ _ _ c.from_residual.result c.in_err-int.field-0.0 c.from_residual.ensures.1 (Follows (ToLeft (sym c.sees.ensures ∙ c.if-sees.true) (FirstFails c.in_err-int.ensures.reads)))

pub read_parametric-returns-in_err-skip-clause-reads : goal.read_parametric-returns-in_err-skip-clause-reads
read_parametric-returns-in_err-skip-clause-reads t c =
    exits _ _ _ _ c.from_residual-in_err-skip.result c.in_err-skip.field-0.0 c.from_residual-in_err-skip.ensures.1 (Follows (ToLeft (sym c.sees.ensures ∙ c.if-sees.true) (Then c.in_ok-int.ensures.reads (FirstFails c.in_err-skip.ensures.reads))))

pub read_parametric-returns-in_err-bits-clause-reads : goal.read_parametric-returns-in_err-bits-clause-reads
read_parametric-returns-in_err-bits-clause-reads t c =
    exits _ _ _ _ c.from_residual-in_err-bits.result c.in_err-bits.field-0.0 c.from_residual-in_err-bits.ensures.1 (Follows (ToLeft (sym c.sees.ensures ∙ c.if-sees.true) (Then c.in_ok-int.ensures.reads (Then c.in_ok-skip.ensures.reads (FirstFails c.in_err-bits.ensures.reads)))))

pub read_parametric-returns-in_err-skip-2-clause-reads : goal.read_parametric-returns-in_err-skip-2-clause-reads
read_parametric-returns-in_err-skip-2-clause-reads t c =
    exits _ _ _ _ c.from_residual-in_err-skip-2.result c.in_err-skip-2.field-0.0 c.from_residual-in_err-skip-2.ensures.1 (Follows (ToLeft (sym c.sees.ensures ∙ c.if-sees.true) (Then c.in_ok-int.ensures.reads (Then c.in_ok-skip.ensures.reads (Then c.in_ok-bits.ensures.reads c.in_err-skip-2.ensures.reads)))))

pub read_parametric-returns-then-sees-clause-reads : goal.read_parametric-returns-then-sees-clause-reads
read_parametric-returns-then-sees-clause-reads t c =
    gives _ _ _ _ _ (int_is _ _) (Follows (ToLeft (sym c.sees.ensures ∙ c.if-sees.true) (Then c.in_ok-int.ensures.reads (Then c.in_ok-skip.ensures.reads (Then c.in_ok-bits.ensures.reads c.in_ok-skip-2.ensures.reads)))))

pub read_parametric-returns-in_err-tuple-clause-reads : goal.read_parametric-returns-in_err-tuple-clause-reads
read_parametric-returns-in_err-tuple-clause-reads t c =
    exits _ _ _ _ c.from_residual-in_err-tuple.result c.in_err-tuple.field-0.0 c.from_residual-in_err-tuple.ensures.1 (Follows (ToRight (sym c.sees.ensures ∙ c.if-sees.false) (ToLeft (sym c.sees-2.ensures ∙ c.if-sees-2.true) (FirstFails c.in_err-tuple.ensures.reads))))

pub read_parametric-returns-in_err-skip-3-clause-reads : goal.read_parametric-returns-in_err-skip-3-clause-reads
read_parametric-returns-in_err-skip-3-clause-reads t c =
    exits _ _ _ _ c.from_residual-in_err-skip-3.result c.in_err-skip-3.field-0.0 c.from_residual-in_err-skip-3.ensures.1 (Follows (ToRight (sym c.sees.ensures ∙ c.if-sees.false) (ToLeft (sym c.sees-2.ensures ∙ c.if-sees-2.true) (Then c.in_ok-tuple.ensures.reads (FirstFails c.in_err-skip-3.ensures.reads)))))

pub read_parametric-returns-in_err-parts-clause-reads : goal.read_parametric-returns-in_err-parts-clause-reads
read_parametric-returns-in_err-parts-clause-reads t c =
    exits _ _ _ _ c.from_residual-in_err-parts.result c.in_err-parts.field-0.0 c.from_residual-in_err-parts.ensures.1 (Follows (ToRight (sym c.sees.ensures ∙ c.if-sees.false) (ToLeft (sym c.sees-2.ensures ∙ c.if-sees-2.true) (Then c.in_ok-tuple.ensures.reads (Then c.in_ok-skip-3.ensures.reads (FirstFails c.in_err-parts.ensures.reads))))))

pub read_parametric-returns-in_err-skip-4-clause-reads : goal.read_parametric-returns-in_err-skip-4-clause-reads
read_parametric-returns-in_err-skip-4-clause-reads t c =
    exits _ _ _ _ c.from_residual-in_err-skip-4.result c.in_err-skip-4.field-0.0 c.from_residual-in_err-skip-4.ensures.1 (Follows (ToRight (sym c.sees.ensures ∙ c.if-sees.false) (ToLeft (sym c.sees-2.ensures ∙ c.if-sees-2.true) (Then c.in_ok-tuple.ensures.reads (Then c.in_ok-skip-3.ensures.reads (Then c.in_ok-parts.ensures.reads c.in_err-skip-4.ensures.reads))))))

pub read_parametric-returns-then-sees-2-clause-reads : goal.read_parametric-returns-then-sees-2-clause-reads
read_parametric-returns-then-sees-2-clause-reads t c =
    gives _ _ _ _ _ (tuple_is _ _) (Follows (ToRight (sym c.sees.ensures ∙ c.if-sees.false) (ToLeft (sym c.sees-2.ensures ∙ c.if-sees-2.true) (Then c.in_ok-tuple.ensures.reads (Then c.in_ok-skip-3.ensures.reads (Then c.in_ok-parts.ensures.reads c.in_ok-skip-4.ensures.reads))))))

pub read_parametric-returns-in_err-iterator-clause-reads : goal.read_parametric-returns-in_err-iterator-clause-reads
read_parametric-returns-in_err-iterator-clause-reads t c =
    exits _ _ _ _ c.from_residual-in_err-iterator.result c.in_err-iterator.field-0.0 c.from_residual-in_err-iterator.ensures.1 (Follows (ToRight (sym c.sees.ensures ∙ c.if-sees.false) (ToRight (sym c.sees-2.ensures ∙ c.if-sees-2.false) (ToLeft (sym c.sees-3.ensures ∙ c.if-sees-3.true) (FirstFails c.in_err-iterator.ensures.reads)))))

pub read_parametric-returns-in_err-skip-5-clause-reads : goal.read_parametric-returns-in_err-skip-5-clause-reads
read_parametric-returns-in_err-skip-5-clause-reads t c =
    exits _ _ _ _ c.from_residual-in_err-skip-5.result c.in_err-skip-5.field-0.0 c.from_residual-in_err-skip-5.ensures.1 (Follows (ToRight (sym c.sees.ensures ∙ c.if-sees.false) (ToRight (sym c.sees-2.ensures ∙ c.if-sees-2.false) (ToLeft (sym c.sees-3.ensures ∙ c.if-sees-3.true) (Then c.in_ok-iterator.ensures.reads (FirstFails c.in_err-skip-5.ensures.reads))))))

pub read_parametric-returns-in_err-over-clause-reads : goal.read_parametric-returns-in_err-over-clause-reads
read_parametric-returns-in_err-over-clause-reads t c =
    exits _ _ _ _ c.from_residual-in_err-over.result c.in_err-over.field-0.0 c.from_residual-in_err-over.ensures.1 (Follows (ToRight (sym c.sees.ensures ∙ c.if-sees.false) (ToRight (sym c.sees-2.ensures ∙ c.if-sees-2.false) (ToLeft (sym c.sees-3.ensures ∙ c.if-sees-3.true) (Then c.in_ok-iterator.ensures.reads (Then c.in_ok-skip-5.ensures.reads (FirstFails c.in_err-over.ensures.reads)))))))

pub read_parametric-returns-in_err-skip-6-clause-reads : goal.read_parametric-returns-in_err-skip-6-clause-reads
read_parametric-returns-in_err-skip-6-clause-reads t c =
    exits _ _ _ _ c.from_residual-in_err-skip-6.result c.in_err-skip-6.field-0.0 c.from_residual-in_err-skip-6.ensures.1 (Follows (ToRight (sym c.sees.ensures ∙ c.if-sees.false) (ToRight (sym c.sees-2.ensures ∙ c.if-sees-2.false) (ToLeft (sym c.sees-3.ensures ∙ c.if-sees-3.true) (Then c.in_ok-iterator.ensures.reads (Then c.in_ok-skip-5.ensures.reads (Then c.in_ok-over.ensures.reads c.in_err-skip-6.ensures.reads)))))))

pub read_parametric-returns-then-sees-3-clause-reads : goal.read_parametric-returns-then-sees-3-clause-reads
read_parametric-returns-then-sees-3-clause-reads t c =
    gives _ _ _ _ _ (iterator_is _ _) (Follows (ToRight (sym c.sees.ensures ∙ c.if-sees.false) (ToRight (sym c.sees-2.ensures ∙ c.if-sees-2.false) (ToLeft (sym c.sees-3.ensures ∙ c.if-sees-3.true) (Then c.in_ok-iterator.ensures.reads (Then c.in_ok-skip-5.ensures.reads (Then c.in_ok-over.ensures.reads c.in_ok-skip-6.ensures.reads)))))))

pub read_parametric-returns-in_err-reference-clause-reads : goal.read_parametric-returns-in_err-reference-clause-reads
read_parametric-returns-in_err-reference-clause-reads t c =
    exits _ _ _ _ c.from_residual-in_err-reference.result c.in_err-reference.field-0.0 c.from_residual-in_err-reference.ensures.1 (Follows (ToRight (sym c.sees.ensures ∙ c.if-sees.false) (ToRight (sym c.sees-2.ensures ∙ c.if-sees-2.false) (ToRight (sym c.sees-3.ensures ∙ c.if-sees-3.false) (FirstFails c.in_err-reference.ensures.reads)))))

pub read_parametric-returns-in_err-skip-7-clause-reads : goal.read_parametric-returns-in_err-skip-7-clause-reads
read_parametric-returns-in_err-skip-7-clause-reads t c =
    exits _ _ _ _ c.from_residual-in_err-skip-7.result c.in_err-skip-7.field-0.0 c.from_residual-in_err-skip-7.ensures.1 (Follows (ToRight (sym c.sees.ensures ∙ c.if-sees.false) (ToRight (sym c.sees-2.ensures ∙ c.if-sees-2.false) (ToRight (sym c.sees-3.ensures ∙ c.if-sees-3.false) (Then c.in_ok-reference.ensures.reads (FirstFails c.in_err-skip-7.ensures.reads))))))

pub read_parametric-returns-in_err-to-clause-reads : goal.read_parametric-returns-in_err-to-clause-reads
read_parametric-returns-in_err-to-clause-reads t c =
    exits _ _ _ _ c.from_residual-in_err-to.result c.in_err-to.field-0.0 c.from_residual-in_err-to.ensures.1 (Follows (ToRight (sym c.sees.ensures ∙ c.if-sees.false) (ToRight (sym c.sees-2.ensures ∙ c.if-sees-2.false) (ToRight (sym c.sees-3.ensures ∙ c.if-sees-3.false) (Then c.in_ok-reference.ensures.reads (Then c.in_ok-skip-7.ensures.reads (FirstFails c.in_err-to.ensures.reads)))))))

pub read_parametric-returns-in_err-skip-8-clause-reads : goal.read_parametric-returns-in_err-skip-8-clause-reads
read_parametric-returns-in_err-skip-8-clause-reads t c =
    exits _ _ _ _ c.from_residual-in_err-skip-8.result c.in_err-skip-8.field-0.0 c.from_residual-in_err-skip-8.ensures.1 (Follows (ToRight (sym c.sees.ensures ∙ c.if-sees.false) (ToRight (sym c.sees-2.ensures ∙ c.if-sees-2.false) (ToRight (sym c.sees-3.ensures ∙ c.if-sees-3.false) (Then c.in_ok-reference.ensures.reads (Then c.in_ok-skip-7.ensures.reads (Then c.in_ok-to.ensures.reads c.in_err-skip-8.ensures.reads)))))))

pub read_parametric-returns-clause-reads : goal.read_parametric-returns-clause-reads
read_parametric-returns-clause-reads t c =
    gives _ _ _ _ _ (ref_is _ _) (Follows (ToRight (sym c.sees.ensures ∙ c.if-sees.false) (ToRight (sym c.sees-2.ensures ∙ c.if-sees-2.false) (ToRight (sym c.sees-3.ensures ∙ c.if-sees-3.false) (Then c.in_ok-reference.ensures.reads (Then c.in_ok-skip-7.ensures.reads (Then c.in_ok-to.ensures.reads c.in_ok-skip-8.ensures.reads)))))))

pub read_container-returns-in_err-place-clause-reads : goal.read_container-returns-in_err-place-clause-reads
read_container-returns-in_err-place-clause-reads t c =
    exits _ _ _ _ c.from_residual.result c.in_err-place.field-0.0 c.from_residual.ensures.1 (Follows (ToLeft (sym c.sees.ensures ∙ c.if-sees.true) (FirstFails c.in_err-place.ensures.reads)))

pub read_container-returns-in_err-skip-clause-reads : goal.read_container-returns-in_err-skip-clause-reads
read_container-returns-in_err-skip-clause-reads t c =
    exits _ _ _ _ c.from_residual-in_err-skip.result c.in_err-skip.field-0.0 c.from_residual-in_err-skip.ensures.1 (Follows (ToLeft (sym c.sees.ensures ∙ c.if-sees.true) (Then c.in_ok-place.ensures.reads (FirstFails c.in_err-skip.ensures.reads))))

pub read_container-returns-in_err-only-clause-reads : goal.read_container-returns-in_err-only-clause-reads
read_container-returns-in_err-only-clause-reads t c =
    exits _ _ _ _ c.from_residual-in_err-only.result c.in_err-only.field-0.0 c.from_residual-in_err-only.ensures.1 (Follows (ToLeft (sym c.sees.ensures ∙ c.if-sees.true) (Then c.in_ok-place.ensures.reads (Then c.in_ok-skip.ensures.reads (FirstFails c.in_err-only.ensures.reads)))))

pub read_container-returns-in_err-skip-2-clause-reads : goal.read_container-returns-in_err-skip-2-clause-reads
read_container-returns-in_err-skip-2-clause-reads t c =
    exits _ _ _ _ c.from_residual-in_err-skip-2.result c.in_err-skip-2.field-0.0 c.from_residual-in_err-skip-2.ensures.1 (Follows (ToLeft (sym c.sees.ensures ∙ c.if-sees.true) (Then c.in_ok-place.ensures.reads (Then c.in_ok-skip.ensures.reads (Then c.in_ok-only.ensures.reads c.in_err-skip-2.ensures.reads)))))

pub read_container-returns-in_err-item-clause-reads : goal.read_container-returns-in_err-item-clause-reads
read_container-returns-in_err-item-clause-reads t c =
    gives_up _ _ _ _ c.from_residual-in_err-item.result c.from_residual-in_err-item.ensures.1

pub read_container-returns-then-sees-clause-reads : goal.read_container-returns-then-sees-clause-reads
read_container-returns-then-sees-clause-reads t c =
    gives _ _ _ _ _ (single_boxed _ _ _ _ c.in_ok-item.ensures) (Follows (ToLeft (sym c.sees.ensures ∙ c.if-sees.true) (Then c.in_ok-place.ensures.reads (Then c.in_ok-skip.ensures.reads (Then c.in_ok-only.ensures.reads c.in_ok-skip-2.ensures.reads)))))

pub read_container-returns-in_err-place-2-clause-reads : goal.read_container-returns-in_err-place-2-clause-reads
read_container-returns-in_err-place-2-clause-reads t c =
    exits _ _ _ _ c.from_residual-in_err-place-2.result c.in_err-place-2.field-0.0 c.from_residual-in_err-place-2.ensures.1 (Follows (ToRight (sym c.sees.ensures ∙ c.if-sees.false) (FirstFails c.in_err-place-2.ensures.reads)))

pub read_container-returns-in_err-skip-3-clause-reads : goal.read_container-returns-in_err-skip-3-clause-reads
read_container-returns-in_err-skip-3-clause-reads t c =
    exits _ _ _ _ c.from_residual-in_err-skip-3.result c.in_err-skip-3.field-0.0 c.from_residual-in_err-skip-3.ensures.1 (Follows (ToRight (sym c.sees.ensures ∙ c.if-sees.false) (Then c.in_ok-place-2.ensures.reads (FirstFails c.in_err-skip-3.ensures.reads))))

pub read_container-returns-in_err-key-clause-reads : goal.read_container-returns-in_err-key-clause-reads
read_container-returns-in_err-key-clause-reads t c =
    exits _ _ _ _ c.from_residual-in_err-key.result c.in_err-key.field-0.0 c.from_residual-in_err-key.ensures.1 (Follows (ToRight (sym c.sees.ensures ∙ c.if-sees.false) (Then c.in_ok-place-2.ensures.reads (Then c.in_ok-skip-3.ensures.reads (FirstFails (FirstFails c.in_err-key.ensures.reads))))))

pub read_container-returns-in_err-skip-4-clause-reads : goal.read_container-returns-in_err-skip-4-clause-reads
read_container-returns-in_err-skip-4-clause-reads t c =
    exits _ _ _ _ c.from_residual-in_err-skip-4.result c.in_err-skip-4.field-0.0 c.from_residual-in_err-skip-4.ensures.1 (Follows (ToRight (sym c.sees.ensures ∙ c.if-sees.false) (Then c.in_ok-place-2.ensures.reads (Then c.in_ok-skip-3.ensures.reads (FirstFails (Then c.in_ok-key.ensures.reads (FirstFails c.in_err-skip-4.ensures.reads)))))))

pub read_container-returns-in_err-value-clause-reads : goal.read_container-returns-in_err-value-clause-reads
read_container-returns-in_err-value-clause-reads t c =
    exits _ _ _ _ c.from_residual-in_err-value.result c.in_err-value.field-0.0 c.from_residual-in_err-value.ensures.1 (Follows (ToRight (sym c.sees.ensures ∙ c.if-sees.false) (Then c.in_ok-place-2.ensures.reads (Then c.in_ok-skip-3.ensures.reads (FirstFails (Then c.in_ok-key.ensures.reads (Then c.in_ok-skip-4.ensures.reads c.in_err-value.ensures.reads)))))))

pub read_container-returns-in_err-skip-5-clause-reads : goal.read_container-returns-in_err-skip-5-clause-reads
read_container-returns-in_err-skip-5-clause-reads t c =
    exits _ _ _ _ c.from_residual-in_err-skip-5.result c.in_err-skip-5.field-0.0 c.from_residual-in_err-skip-5.ensures.1 (Follows (ToRight (sym c.sees.ensures ∙ c.if-sees.false) (Then c.in_ok-place-2.ensures.reads (Then c.in_ok-skip-3.ensures.reads (Then (Then c.in_ok-key.ensures.reads (Then c.in_ok-skip-4.ensures.reads c.in_ok-value.ensures.reads)) c.in_err-skip-5.ensures.reads)))))

pub read_container-returns-in_err-first-clause-reads : goal.read_container-returns-in_err-first-clause-reads
read_container-returns-in_err-first-clause-reads t c =
    gives_up _ _ _ _ c.from_residual-in_err-first.result c.from_residual-in_err-first.ensures.1

pub read_container-returns-in_err-second-clause-reads : goal.read_container-returns-in_err-second-clause-reads
read_container-returns-in_err-second-clause-reads t c =
    gives_up _ _ _ _ c.from_residual-in_err-second.result c.from_residual-in_err-second.ensures.1

pub read_container-returns-clause-reads : goal.read_container-returns-clause-reads
read_container-returns-clause-reads t c =
    gives _ _ _ _ _ (double_boxed _ _ _ _ _ _ c.in_ok-first.ensures c.in_ok-second.ensures) (Follows (ToRight (sym c.sees.ensures ∙ c.if-sees.false) (Then c.in_ok-place-2.ensures.reads (Then c.in_ok-skip-3.ensures.reads (Then (Then c.in_ok-key.ensures.reads (Then c.in_ok-skip-4.ensures.reads c.in_ok-value.ensures.reads)) c.in_ok-skip-5.ensures.reads)))))

pub read_types-returns-in_err-first-clause-reads : goal.read_types-returns-in_err-first-clause-reads
read_types-returns-in_err-first-clause-reads t c =
    exits _ _ _ _ c.from_residual.result c.in_err-first.field-0.0 c.from_residual.ensures.1 (FirstFails c.in_err-first.ensures.reads)

pub read_types-returns-in_err-push-clause-reads : goal.read_types-returns-in_err-push-clause-reads
read_types-returns-in_err-push-clause-reads t c =
    gives_up _ _ _ _ c.from_residual-in_err-push.result c.from_residual-in_err-push.ensures.1

pub read_types-parts-init : goal.read_types-parts-init
read_types-parts-init t c = (
  all_begin (Rule a_type) type_tree _ _ _ c.in_ok-first.first (c.in_ok-push.ensures.ok ∙ ap (λ (l : List TypeText). l ++ c.in_ok-first.first ∷ []) c.new-parts.ensures) c.in_ok-first.ensures.reads,
  c.in_ok-first.ensures.shorter,
)

pub read_types-returns-in_err-skip-clause-reads : goal.read_types-returns-in_err-skip-clause-reads
read_types-returns-in_err-skip-clause-reads t c =
    exits _ _ _ _ c.from_residual-in_err-skip.result c.in_err-skip.field-0.0 c.from_residual-in_err-skip.ensures.1
    (all_stop (Rule a_type) type_tree _ _ _ c.parts.parts _ c.parts.invariant.0 (sym c.sees.ensures ∙ c.parts-test.true) c.in_err-skip.ensures.reads)

pub read_types-returns-in_err-next-clause-reads : goal.read_types-returns-in_err-next-clause-reads
read_types-returns-in_err-next-clause-reads t c =
    exits _ _ _ _ c.from_residual-in_err-next.result c.in_err-next.field-0.0 c.from_residual-in_err-next.ensures.1
    (all_fail (Rule a_type) type_tree _ _ _ _ c.parts.parts _ c.parts.invariant.0 (sym c.sees.ensures ∙ c.parts-test.true) c.in_ok-skip.ensures.reads c.in_err-next.ensures.reads)

pub read_types-returns-in_err-push-2-clause-reads : goal.read_types-returns-in_err-push-2-clause-reads
read_types-returns-in_err-push-2-clause-reads t c =
    gives_up _ _ _ _ c.from_residual-in_err-push-2.result c.from_residual-in_err-push-2.ensures.1

pub read_types-parts-preserved : goal.read_types-parts-preserved
read_types-parts-preserved t c = (
  all_next (Rule a_type) type_tree _ _ _ _ c.parts.parts _ c.in_ok-next.next c.in_ok-push-2.ensures.ok c.parts.invariant.0 (sym c.sees.ensures ∙ c.parts-test.true) c.in_ok-skip.ensures.reads c.in_ok-next.ensures.reads,
  shrinks _ _ _ _ c.parts.invariant.1 c.in_ok-skip.ensures.shorter c.in_ok-next.ensures.shorter,
)

pub read_types-returns-clause-reads : goal.read_types-returns-clause-reads
read_types-returns-clause-reads t c = all_end (Rule a_type) type_tree _ _ c.parts.parts c.parts.invariant.0 (sym c.sees.ensures ∙ c.parts-test.false)
