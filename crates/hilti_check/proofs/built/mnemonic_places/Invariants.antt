use Rattle.std.proofs.Common.{◌≡◌, take}
use Rattle.std.specs.List.{flat_map}
use Rattle.hilti_check.specs.Built.{mnemonic_place}
use Rattle.hilti_check.proofs.built.mnemonic_places.Given as goal

-- the places of the lines so far
abbrev pub invariant-loop-line : goal.invariant-loop-line
invariant-loop-line l = l.places ≡ flat_map mnemonic_place (take l.line-index l.lines)
