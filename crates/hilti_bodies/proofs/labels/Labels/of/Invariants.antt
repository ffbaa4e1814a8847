use Rattle.std.proofs.Common.{◌+◌, ◌≤◌, drop}
use Rattle.hilti_base.specs.declared.names.Place.{Place}
use Rattle.hilti_bodies.specs.Sections.{labelled, sections}
use Rattle.hilti_bodies.proofs.Numbering.{Numbers}
use Rattle.hilti_bodies.proofs.labels.Labels.of.Given as goal

-- the labels so far are noted, and the blocks so far counted
abbrev pub invariant-loop-line : goal.invariant-loop-line
invariant-loop-line l =
    ((close : Place) → Numbers l.numbers l.blocks (labelled (drop l.line-index l.lines) close) (sections l.lines close)) × (l.blocks ≤ 1 + l.line-index)
