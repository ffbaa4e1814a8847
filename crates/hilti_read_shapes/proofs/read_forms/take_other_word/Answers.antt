use Rattle.hilti_read_shapes.proofs.ReadingForms.{is_other}
use Rattle.hilti_read_shapes.proofs.read_forms.take_other_word.Goals as goal

pub returns-clause-other : goal.returns-clause-other
returns-clause-other c = is_other c.in_ok-place.field-0.place c.in_ok-place.field-0.kind c.in-Word.bytes c.in-Word.is c.in_ok-place.ensures.kind
