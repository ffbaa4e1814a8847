use Rattle.hilti_reader.proofs.Chosen.{any_word}
use Rattle.hilti_syntax.proofs.read_instructions.read_any_word.Goals as goal

pub unreachable-requires : goal.unreachable-requires
unreachable-requires c = any_word c.in_ok-place.field-0.place c.in_ok-place.field-0.kind c.in_ok-place.ensures.kind c.in_default.not-Word
