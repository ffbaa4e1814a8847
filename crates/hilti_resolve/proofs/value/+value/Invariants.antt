use Rattle.std.proofs.Common.{◌≡◌, map, drop}
use Rattle.hilti_scope.specs.Scopes.{means}
use Rattle.hilti_resolve.specs.Values.{all_of, read_of}
use Rattle.hilti_resolve.proofs.Together.{ahead}
use Rattle.hilti_resolve.proofs.value.+value.Given as goal

-- the types so far, and those of the parts that are left, are those of all parts
abbrev pub invariant-part_values-loop-part : goal.invariant-part_values-loop-part
invariant-part_values-loop-part l =
    ahead l.values (all_of (map (read_of l.table (means l.scope)) (drop l.part-index l.part-items))) ≡ all_of (map (read_of l.table (means l.scope)) l.parts)
