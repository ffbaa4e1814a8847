use Rattle.std.proofs.Common.{◌≡◌, map, take, length}
use Rattle.hilti_scope.specs.Scopes.{means}
use Rattle.hilti_resolve.specs.Written.{says}
use Rattle.hilti_resolve.proofs.same.+same.Given as goal

-- the parts so far say the same
abbrev pub invariant-same_parts-loop-at : goal.invariant-same_parts-loop-at
invariant-same_parts-loop-at l =
    (length l.left ≡ length l.right) × (map (says (means l.scope)) (take l.at l.left) ≡ map (says (means l.other_scope)) (take l.at l.right))
