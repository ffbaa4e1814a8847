use Rattle.std.proofs.Common.{◌∙◌, sym}
use Rattle.hilti_reader.proofs.Among.{found, not_yet}
use Rattle.hilti_reader.proofs.cursor.is_among.Goals as goal

pub returns-then-is : goal.returns-then-is
returns-then-is c =
    found c.args.kinds.now c.loop-other.other-index c.args.kind _ c.loop-other-test.true
    (sym c.is.ensures ∙ c.if-is.true)

pub loop-other-preserved : goal.loop-other-preserved
loop-other-preserved c =
    not_yet c.args.kinds.now c.loop-other.other-index c.args.kind _ c.loop-other-test.true
    c.loop-other.invariant (sym c.is.ensures ∙ c.if-is.false)
