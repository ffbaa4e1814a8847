use Rattle.std.proofs.Common.{◌≡◌, drop}
use Rattle.hilti_operands.specs.Seen.{body_seen}
use Rattle.hilti_bodies.specs.Sections.{leading, first_label}
use Rattle.hilti_bodies.specs.Blocks.{read_instructions}
use Rattle.hilti_bodies.proofs.Following.{behind, instructions_left}
use Rattle.hilti_bodies.proofs.instructions.read_instructions.Given as goal

-- the instructions so far, and what is left, are all
abbrev pub invariant-loop-line : goal.invariant-loop-line
invariant-loop-line l =
    read_instructions (body_seen l.body) (leading l.lines) (first_label l.lines l.close)
    ≡ behind l.instructions (instructions_left (body_seen l.body) l.ended (drop l.line-index l.lines) l.close)
