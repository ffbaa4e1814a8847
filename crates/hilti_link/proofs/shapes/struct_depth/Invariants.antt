use Rattle.std.proofs.Common.{◌≡◌, min, take}
use Rattle.hilti_types.proofs.Deepest.{deepest_of}
use Rattle.hilti_link.specs.Seeing.{depth_at}
use Rattle.hilti_link.specs.Views.{view_in}
use Rattle.hilti_link.proofs.shapes.struct_depth.Given as goal

-- the depth of the deepest field so far
abbrev pub invariant-loop-field : goal.invariant-loop-field
invariant-loop-field l = l.deepest ≡ min 17 (deepest_of (λ field. depth_at (view_in l.tables l.scope) field.kind) (take l.field-index l.fields))
