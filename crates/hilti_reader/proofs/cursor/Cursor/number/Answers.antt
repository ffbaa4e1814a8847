use Rattle.hilti_reader.proofs.Payloads.{is_number}
use Rattle.hilti_reader.proofs.cursor.Cursor.number.Goals as goal

pub unreachable-requires : goal.unreachable-requires
unreachable-requires c = is_number c.in_ok-place.field-0.place c.in_ok-place.field-0.kind c.in_ok-place.ensures.kind c.in_default.not-Number
