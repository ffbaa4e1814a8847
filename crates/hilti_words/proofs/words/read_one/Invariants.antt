use Rattle.std.proofs.Common.{take}
use Rattle.hilti_words.specs.Reading.{HasRead}
use Rattle.hilti_words.proofs.words.read_one.Given as goal

abbrev pub invariant-loop-word : goal.invariant-loop-word
invariant-loop-word l = HasRead (take l.word-index l.words) l.reader
