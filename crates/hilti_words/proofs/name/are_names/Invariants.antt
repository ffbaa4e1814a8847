use Rattle.std.proofs.Common.{take}
use Rattle.std.specs.List.{AllByRecursion}
use Rattle.hilti_words.specs.Names.{IsName}
use Rattle.hilti_words.proofs.name.are_names.Given as goal

abbrev pub invariant-loop-word : goal.invariant-loop-word
invariant-loop-word l = AllByRecursion IsName (take l.word-index l.words)
