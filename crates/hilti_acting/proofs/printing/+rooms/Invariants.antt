use Rattle.std.proofs.Common.{◌≡◌, ◌+◌, map, take}
use Rattle.hilti_tree.specs.Sizes.{forest_size}
use Rattle.hilti_effects.specs.Printing.{tree_of}
use Rattle.hilti_acting.proofs.printing.+rooms.Given as goal

-- what is left behind the trees so far
abbrev pub invariant-room_behind_all-loop-value : goal.invariant-room_behind_all-loop-value
invariant-room_behind_all-loop-value l =
    l.left + forest_size (map tree_of (take l.value-index l.value-items)) ≡ l.room
