use Rattle.std.proofs.Common.{◌≡◌, ◌≤◌, drop, length}
use Rattle.hilti_table.specs.Rows.{kinds}
use Rattle.hilti_typing.specs.Context.{Known}
use Rattle.hilti_operands.specs.Lines.{read_all, so_far}
use Rattle.hilti_operands.specs.Seen.{body_seen, line_seen}
use Rattle.hilti_operands.proofs.Lining.{goes_on}
use Rattle.hilti_operands.proofs.lines.read_all.Given as goal

-- the operands so far, and what is left, are all
abbrev pub invariant-loop-at : goal.invariant-loop-at
invariant-loop-at l =
    let line = line_seen l.line in
    let asked = kinds l.takes (length l.items) in
    (l.at ≤ length l.items)
    × (read_all line asked Known.Nothing l.items
    ≡ goes_on line (drop l.at asked) (drop l.at l.items) (so_far (body_seen l.line.body) l.operands l.known))
