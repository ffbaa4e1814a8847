use Rattle.std.proofs.Common.{◌∙◌, sym, refl}
use Rattle.hilti_reader.proofs.Exits.{exits, gives}
use Rattle.hilti_reader.proofs.Picking.{part_seen, part_left}
use Rattle.hilti_read_literals.specs.Literals.{values, truths}
use Rattle.hilti_reader.specs.Modules.{plain_literals}
use Rattle.hilti_read_literals.proofs.read_literals.read_plain_literal.Goals as goal

pub returns-in_err-word-clause-reads : goal.returns-in_err-word-clause-reads
returns-in_err-word-clause-reads c = exits _ _ _ _ c.from_residual.result c.in_err-word.field-0.0 c.from_residual.ensures.1 (part_seen truths plain_literals _ _ refl (sym c.sees.ensures ∙ c.if-sees.true) c.in_err-word.ensures.reads)

pub returns-then-sees-clause-reads : goal.returns-then-sees-clause-reads
returns-then-sees-clause-reads c = gives _ _ _ _ _ c.truth.ensures.tree (part_seen truths plain_literals _ _ refl (sym c.sees.ensures ∙ c.if-sees.true) c.in_ok-word.ensures.reads)

pub returns-in_err-value-clause-reads : goal.returns-in_err-value-clause-reads
returns-in_err-value-clause-reads c = exits _ _ _ _ c.from_residual-in_err-value.result c.in_err-value.field-0.0 c.from_residual-in_err-value.ensures.1 (part_left truths values plain_literals _ _ refl refl refl (sym c.sees.ensures ∙ c.if-sees.false) c.in_err-value.ensures.reads)

pub returns-clause-reads : goal.returns-clause-reads
returns-clause-reads c = part_left truths values plain_literals _ _ refl refl refl (sym c.sees.ensures ∙ c.if-sees.false) c.in_ok-value.ensures.reads
