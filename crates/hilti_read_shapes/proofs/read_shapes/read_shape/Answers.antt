use Rattle.std.proofs.Common.{◌∙◌, sym}
use Rattle.hilti_grammar.specs.Runs.{Runs.Follows, Runs.ToLeft, Runs.ToRight}
use Rattle.hilti_reader.proofs.Exits.{exits}
use Rattle.hilti_read_shapes.proofs.read_shapes.read_shape.Goals as goal

pub returns-in_err-place-clause-reads : goal.returns-in_err-place-clause-reads
returns-in_err-place-clause-reads c =
    exits _ _ _ _ c.from_residual.result c.in_err-place.field-0.0 c.from_residual.ensures.1
    (Follows (ToLeft (sym c.sees.ensures ∙ c.if-sees.true) c.in_err-place.ensures.reads))

pub returns-then-sees-clause-reads : goal.returns-then-sees-clause-reads
returns-then-sees-clause-reads c = Follows (ToLeft (sym c.sees.ensures ∙ c.if-sees.true) c.in_ok-place.ensures.reads)

pub returns-in_err-place-2-clause-reads : goal.returns-in_err-place-2-clause-reads
returns-in_err-place-2-clause-reads c =
    exits _ _ _ _ c.from_residual-in_err-place-2.result c.in_err-place-2.field-0.0 c.from_residual-in_err-place-2.ensures.1
    (Follows (ToRight (sym c.sees.ensures ∙ c.if-sees.false) (ToLeft (sym c.sees-2.ensures ∙ c.if-sees-2.true) c.in_err-place-2.ensures.reads)))

pub returns-then-sees-2-clause-reads : goal.returns-then-sees-2-clause-reads
returns-then-sees-2-clause-reads c = Follows (ToRight (sym c.sees.ensures ∙ c.if-sees.false) (ToLeft (sym c.sees-2.ensures ∙ c.if-sees-2.true) c.in_ok-place-2.ensures.reads))

pub returns-in_err-place-3-clause-reads : goal.returns-in_err-place-3-clause-reads
returns-in_err-place-3-clause-reads c =
    exits _ _ _ _ c.from_residual-in_err-place-3.result c.in_err-place-3.field-0.0 c.from_residual-in_err-place-3.ensures.1
    (Follows (ToRight (sym c.sees.ensures ∙ c.if-sees.false) (ToRight (sym c.sees-2.ensures ∙ c.if-sees-2.false) (ToLeft (sym c.sees-3.ensures ∙ c.if-sees-3.true) c.in_err-place-3.ensures.reads))))

pub returns-then-sees-3-clause-reads : goal.returns-then-sees-3-clause-reads
returns-then-sees-3-clause-reads c = Follows (ToRight (sym c.sees.ensures ∙ c.if-sees.false) (ToRight (sym c.sees-2.ensures ∙ c.if-sees-2.false) (ToLeft (sym c.sees-3.ensures ∙ c.if-sees-3.true) c.in_ok-place-3.ensures.reads)))

pub returns-in_err-place-4-clause-reads : goal.returns-in_err-place-4-clause-reads
returns-in_err-place-4-clause-reads c =
    exits _ _ _ _ c.from_residual-in_err-place-4.result c.in_err-place-4.field-0.0 c.from_residual-in_err-place-4.ensures.1
    (Follows (ToRight (sym c.sees.ensures ∙ c.if-sees.false) (ToRight (sym c.sees-2.ensures ∙ c.if-sees-2.false) (ToRight (sym c.sees-3.ensures ∙ c.if-sees-3.false) c.in_err-place-4.ensures.reads))))

pub returns-clause-reads : goal.returns-clause-reads
returns-clause-reads c = Follows (ToRight (sym c.sees.ensures ∙ c.if-sees.false) (ToRight (sym c.sees-2.ensures ∙ c.if-sees-2.false) (ToRight (sym c.sees-3.ensures ∙ c.if-sees-3.false) c.in_ok-place-4.ensures.reads)))
