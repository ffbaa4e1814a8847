use Rattle.std.proofs.Common.{◌≡◌, take}
use Rattle.hilti_types.proofs.Deepest.{deepest_of}
use Rattle.hilti_types.specs.Depths.{as_u32, depth_of}
use Rattle.hilti_types.proofs.depths.fields_depth.Given as goal

-- the depth of the deepest field so far
abbrev pub invariant-loop-field : goal.invariant-loop-field
invariant-loop-field l =
    l.deepest
    ≡ as_u32 (deepest_of (λ field. depth_of l.types field.kind) (take l.field-index l.field-items))
