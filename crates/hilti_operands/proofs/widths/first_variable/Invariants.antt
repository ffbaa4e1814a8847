use Rattle.std.proofs.Common.{◌≡◌, drop, length}
use Rattle.hilti_table.specs.Rows.{kinds}
use Rattle.hilti_operands.specs.Lines.{first_variable}
use Rattle.hilti_operands.specs.Seen.{body_seen}
use Rattle.hilti_operands.proofs.widths.first_variable.Given as goal

-- none is found so far
abbrev pub invariant-loop-at : goal.invariant-loop-at
invariant-loop-at l =
    let asked = kinds l.takes (length l.items) in
    first_variable (body_seen l.body) l.test asked l.items
    ≡ first_variable (body_seen l.body) l.test (drop l.at asked) (drop l.at l.items)
