use Rattle.hilti_read_literals.proofs.Literals.{is_value}
use Rattle.hilti_read_literals.proofs.read_literals.read_value.Goals as goal

pub unreachable-requires : goal.unreachable-requires
unreachable-requires c = is_value c.in_ok-place.field-0.place c.in_ok-place.field-0.kind c.in_ok-place.ensures.kind c.in_default.not-Number c.in_default.not-Address c.in_default.not-Net c.in_default.not-Port c.in_default.not-Text c.in_default.not-Bytes
