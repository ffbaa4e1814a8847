use Rattle.std.proofs.Common.{◌≡◌, take}
use Rattle.hilti_types.proofs.Deepest.{deepest_of}
use Rattle.hilti_types.specs.Depths.{as_u32, depth_of}
use Rattle.hilti_types.proofs.depths.+depths.Given as goal

-- the depth of the deepest part so far
abbrev pub invariant-parts_depth-loop-part : goal.invariant-parts_depth-loop-part
invariant-parts_depth-loop-part l =
    l.deepest ≡ as_u32 (deepest_of (depth_of l.types) (take l.part-index l.part-items))
