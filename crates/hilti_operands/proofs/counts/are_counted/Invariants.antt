use Rattle.std.proofs.Common.{◌≡◌, drop, length}
use Rattle.hilti_table.specs.Rows.{kinds}
use Rattle.hilti_typing.specs.Context.{Known}
use Rattle.hilti_operands.specs.Counts.{are_counted}
use Rattle.hilti_operands.specs.Seen.{body_seen, line_seen, known_of}
use Rattle.hilti_operands.proofs.counts.are_counted.Given as goal

-- what is left decides
abbrev pub invariant-loop-at : goal.invariant-loop-at
invariant-loop-at l =
    let line = line_seen l.line in
    let asked = kinds l.takes (length l.items) in
    are_counted line asked Known.Nothing l.items
    ≡ are_counted line (drop l.at asked) (known_of (body_seen l.line.body) l.known) (drop l.at l.items)
