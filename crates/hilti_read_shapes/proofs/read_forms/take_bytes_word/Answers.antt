use Rattle.std.proofs.Common.{sym, ap}
use Rattle.hilti_reader.specs.Spelled.{at_place}
use Rattle.hilti_reader.proofs.Exits.{gives}
use Rattle.hilti_read_shapes.proofs.ReadingForms.{is_spelled}
use Rattle.hilti_read_shapes.proofs.read_forms.take_bytes_word.Goals as goal

pub returns-clause-reads : goal.returns-clause-reads
returns-clause-reads c = gives _ _ _ _ _ (ap (λ kind. at_place c.in_ok-place.field-0.place kind) (sym c.in-Word.is)) c.in_ok-place.ensures.reads

pub returns-clause-spelled : goal.returns-clause-spelled
returns-clause-spelled c = is_spelled c.in_ok-place.field-0.place c.in_ok-place.field-0.kind c.in-Word.bytes c.in-Word.is c.in_ok-place.ensures.kind
