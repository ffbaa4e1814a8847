use Rattle.std.proofs.Common.{◌≡◌, ◌++◌, take, drop}
use Rattle.hilti_link.specs.TypedWords.{kinds_of, word_refusal}
use Rattle.hilti_link.specs.Views.{view_in}
use Rattle.hilti_link.proofs.Taking.{Taking}
use Rattle.hilti_link.proofs.typed_words.read_more_words.Given as goal

-- the types of the words so far stand behind those at first, and the words that are left are judged over those in front of them
abbrev pub invariant-loop-word : goal.invariant-loop-word
invariant-loop-word l =
    (l.kinds ≡ l.initial.kinds ++ kinds_of (view_in l.tables l.scope) (take l.word-index l.words))
    × Taking (word_refusal (view_in l.tables l.scope) l.role) (λ word. word.name.bytes) l.initial.taken l.taken l.words (drop l.word-index l.words)
