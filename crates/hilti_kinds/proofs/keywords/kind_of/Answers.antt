use Rattle.hilti_kinds.proofs.WordTable.{word_is}
use Rattle.hilti_kinds.proofs.keywords.kind_of.Goals as goal

pub returns-in-Word : goal.returns-in-Word
returns-in-Word c = word_is _ _ _ _ c.in-Word.is c.bytes.ensures c.word_kind.ensures
