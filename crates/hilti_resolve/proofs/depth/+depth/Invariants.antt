use Rattle.std.proofs.Common.{◌≡◌, min, take}
use Rattle.hilti_types.proofs.Deepest.{deepest_of}
use Rattle.hilti_types.specs.Depths.{depths}
use Rattle.hilti_scope.specs.Scopes.{means}
use Rattle.hilti_resolve.specs.Depth.{written_depth}
use Rattle.hilti_resolve.proofs.depth.+depth.Given as goal

-- the depth of the deepest part so far
abbrev pub invariant-parts_depth-loop-part : goal.invariant-parts_depth-loop-part
invariant-parts_depth-loop-part l =
    l.deepest ≡ min 17 (deepest_of (written_depth (depths l.table) (means l.scope)) (take l.part-index l.part-items))
