use Rattle.std.proofs.Common.{◌≡◌, drop}
use Rattle.hilti_operands.specs.Groups.{read_member, read_members}
use Rattle.hilti_operands.specs.Seen.{line_seen}
use Rattle.hilti_operands.proofs.Telling.{behind}
use Rattle.hilti_operands.proofs.groups.read_members.Given as goal

-- the operands so far, and what is left, are all
abbrev pub invariant-loop-at : goal.invariant-loop-at
invariant-loop-at l =
    let read = read_member (line_seen l.line) l.group in
    read_members read l.kinds l.items ≡ behind l.members (read_members read (drop l.at l.kinds) (drop l.at l.items))
