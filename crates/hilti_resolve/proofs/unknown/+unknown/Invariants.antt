use Rattle.std.proofs.Common.{◌≡◌, map, drop}
use Rattle.hilti_scope.specs.Scopes.{means}
use Rattle.hilti_resolve.specs.Names.{first_of, first_unknown}
use Rattle.hilti_resolve.proofs.unknown.+unknown.Given as goal

-- what is left tells the first of all
abbrev pub invariant-unknown_in_parts-loop-part : goal.invariant-unknown_in_parts-loop-part
invariant-unknown_in_parts-loop-part l =
    first_of (map (first_unknown (means l.scope)) (drop l.part-index l.part-items)) ≡ first_of (map (first_unknown (means l.scope)) l.parts)
