use Rattle.hilti_read_literals.proofs.Literals.{is_seconds}
use Rattle.hilti_read_literals.proofs.read_literals.read_seconds_alone.Goals as goal

pub unreachable-requires : goal.unreachable-requires
unreachable-requires c = is_seconds c.in_ok-place.field-0.place c.in_ok-place.field-0.kind c.in_ok-place.ensures.kind c.in_default.not-Number c.in_default.not-Decimal
