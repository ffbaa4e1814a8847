use Rattle.std.proofs.Common.{◌≡◌, map, take, drop}
use Rattle.hilti_link.specs.Shapes.{field_refusal, overlay_field_of}
use Rattle.hilti_link.specs.Views.{view_in}
use Rattle.hilti_link.proofs.Taking.{Taking}
use Rattle.hilti_link.proofs.shapes.read_fields.Given as goal

-- the fields so far, and those that are left are judged over those in front of them
abbrev pub invariant-loop-field : goal.invariant-loop-field
invariant-loop-field l =
    (l.made ≡ map (overlay_field_of (view_in l.tables l.scope)) (take l.field-index l.fields))
    × Taking (field_refusal (view_in l.tables l.scope)) (λ field. field.name.bytes) l.initial.taken l.taken l.fields (drop l.field-index l.fields)
