use Rattle.std.proofs.Common.{◌≡◌, length, drop}
use Rattle.hilti_operands.specs.Seen.{body_seen}
use Rattle.hilti_bodies.specs.Sections.{sections, labelled}
use Rattle.hilti_bodies.specs.Blocks.{read_blocks}
use Rattle.hilti_bodies.proofs.Following.{behind}
use Rattle.hilti_bodies.proofs.blocks.read_all.Given as goal

-- the blocks so far, and what is left, are all
abbrev pub invariant-loop-at : goal.invariant-loop-at
invariant-loop-at l =
    read_blocks (body_seen l.body) 0 (sections l.lines l.close)
    ≡ behind l.blocks (read_blocks (body_seen l.body) (length l.blocks) (labelled (drop l.at l.lines) l.close))
