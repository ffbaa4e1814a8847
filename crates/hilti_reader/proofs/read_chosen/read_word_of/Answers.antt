use Rattle.hilti_reader.proofs.Exits.{exits}
use Rattle.hilti_reader.proofs.Chosen.{is_some_word, word_among}
use Rattle.hilti_reader.proofs.read_chosen.read_word_of.Goals as goal

pub returns-in_err-place-clause-reads : goal.returns-in_err-place-clause-reads
returns-in_err-place-clause-reads c = exits _ _ _ _ c.from_residual.result c.in_err-place.field-0.0 c.from_residual.ensures.1 c.in_err-place.ensures.reads

pub returns-clause-kind : goal.returns-clause-kind
returns-clause-kind c = word_among c.args.kinds.now c.in_ok-place.field-0 c.in-Word.bytes c.in-Word.is c.requires c.in_ok-place.ensures.kind

pub unreachable-requires : goal.unreachable-requires
unreachable-requires c = is_some_word c.args.kinds.now c.in_ok-place.field-0.place c.in_ok-place.field-0.kind c.requires c.in_ok-place.ensures.kind c.in_default.not-Word
