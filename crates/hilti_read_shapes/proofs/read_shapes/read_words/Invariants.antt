use Rattle.std.proofs.Common.{◌<◌, length}
use Rattle.hilti_reader.specs.Spelled.{word_tree}
use Rattle.hilti_reader.specs.Loops.{GathersAll}
use Rattle.hilti_reader.specs.Modules.{word}
use Rattle.hilti_read_shapes.proofs.read_shapes.read_words.Given as goal

abbrev pub invariant-words : goal.invariant-words
invariant-words l = GathersAll word word_tree l.fn.cursor l.words l.cursor × (length l.cursor < length l.fn.cursor)

abbrev pub decreases-words : goal.decreases-words
decreases-words l = length l.cursor
