use Rattle.std.proofs.Common.{◌≡◌, map, take, drop}
use Rattle.hilti_link.specs.Shapes.{constant_refusal}
use Rattle.hilti_link.proofs.Taking.{Taking}
use Rattle.hilti_link.proofs.shapes.read_constants.Given as goal

-- the words so far, and those that are left are judged over those in front of them
abbrev pub invariant-loop-word : goal.invariant-loop-word
invariant-loop-word l =
    (l.names ≡ map (λ word. word.bytes) (take l.word-index l.words))
    × Taking constant_refusal (λ word. word.bytes) l.initial.taken l.taken l.words (drop l.word-index l.words)
