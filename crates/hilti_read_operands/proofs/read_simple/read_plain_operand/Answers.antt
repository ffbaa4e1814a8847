use Rattle.std.proofs.Common.{◌∙◌, sym, refl}
use Rattle.hilti_reader.proofs.Exits.{exits, gives}
use Rattle.hilti_reader.proofs.Picking.{part_seen, part_left, neither_seen}
use Rattle.hilti_read_literals.specs.Literals.{values}
use Rattle.hilti_read_operands.specs.Operands.{word_operands}
use Rattle.hilti_reader.specs.Modules.{plain_operands}
use Rattle.hilti_kinds.specs.declared.kind.Kind.TheVariants as kinds
use Rattle.std.proofs.Common.{[], ◌∷◌, ◌++◌}
use Rattle.hilti_read_operands.proofs.Literals.{one_token}
use Rattle.hilti_read_operands.proofs.read_simple.read_plain_operand.Goals as goal

pub returns-in_err-value-clause-reads : goal.returns-in_err-value-clause-reads
returns-in_err-value-clause-reads c = exits _ _ _ _ c.from_residual.result c.in_err-value.field-0.0 c.from_residual.ensures.1 (part_seen values plain_operands _ _ refl (sym c.sees.ensures ∙ c.if-sees.true) c.in_err-value.ensures.reads)

pub returns-then-sees-clause-reads : goal.returns-then-sees-clause-reads
returns-then-sees-clause-reads c = part_seen values plain_operands _ _ refl (sym c.sees.ensures ∙ c.if-sees.true) c.in_ok-value.ensures.reads

pub returns-then-sees-clause-one : goal.returns-then-sees-clause-one
returns-then-sees-clause-one c = one_token _ c.in_ok-value.ensures.one

pub returns-in_err-place-clause-reads : goal.returns-in_err-place-clause-reads
returns-in_err-place-clause-reads c = exits _ _ _ _ c.from_residual-in_err-place.result c.in_err-place.field-0.0 c.from_residual-in_err-place.ensures.1 (part_seen (kinds.Star ∷ []) plain_operands _ _ refl (sym c.sees-2.ensures ∙ c.if-sees-2.true) c.in_err-place.ensures.reads)

pub returns-then-sees-2-clause-reads : goal.returns-then-sees-2-clause-reads
returns-then-sees-2-clause-reads c = part_seen (kinds.Star ∷ []) plain_operands _ _ refl (sym c.sees-2.ensures ∙ c.if-sees-2.true) c.in_ok-place.ensures.reads

pub returns-then-sees-2-clause-one : goal.returns-then-sees-2-clause-one
returns-then-sees-2-clause-one c = (refl, refl)

pub returns-in_err-word-clause-reads : goal.returns-in_err-word-clause-reads
returns-in_err-word-clause-reads c = exits _ _ _ _ c.from_residual-in_err-word.result c.in_err-word.field-0.0 c.from_residual-in_err-word.ensures.1 (part_left (values ++ kinds.Star ∷ []) word_operands plain_operands _ _ refl refl refl (neither_seen values (kinds.Star ∷ []) (values ++ kinds.Star ∷ []) c.args.cursor.now refl (sym c.sees.ensures ∙ c.if-sees.false) (sym c.sees-2.ensures ∙ c.if-sees-2.false)) c.in_err-word.ensures.reads)

pub returns-clause-reads : goal.returns-clause-reads
returns-clause-reads c = gives _ _ _ _ _ c.word_operand.ensures.tree (part_left (values ++ kinds.Star ∷ []) word_operands plain_operands _ _ refl refl refl (neither_seen values (kinds.Star ∷ []) (values ++ kinds.Star ∷ []) c.args.cursor.now refl (sym c.sees.ensures ∙ c.if-sees.false) (sym c.sees-2.ensures ∙ c.if-sees-2.false)) c.in_ok-word.ensures.reads)
