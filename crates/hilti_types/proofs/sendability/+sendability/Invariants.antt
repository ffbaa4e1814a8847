use Rattle.std.proofs.Common.{◌≡◌, take, true}
use Rattle.std.specs.List.{list_all}
use Rattle.hilti_types.specs.Sendable.{is_sendable_in}
use Rattle.hilti_types.proofs.sendability.+sendability.Given as goal

-- the parts so far are sendable
abbrev pub invariant-parts_are_sendable-loop-part : goal.invariant-parts_are_sendable-loop-part
invariant-parts_are_sendable-loop-part l =
    list_all (is_sendable_in l.types) (take l.part-index l.part-items) ≡ true
