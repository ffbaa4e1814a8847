use Rattle.std.proofs.Common.{◌≡◌, map, take, drop}
use Rattle.hilti_link.specs.declared.typed_words.Role.TheVariants as roles
use Rattle.hilti_link.specs.Shapes.{member_of}
use Rattle.hilti_link.specs.TypedWords.{word_refusal}
use Rattle.hilti_link.specs.Views.{view_in}
use Rattle.hilti_link.proofs.Taking.{Taking}
use Rattle.hilti_link.proofs.shapes.read_members.Given as goal

-- the members so far, and the fields that are left are judged over those in front of them
abbrev pub invariant-loop-field : goal.invariant-loop-field
invariant-loop-field l =
    (l.members ≡ map (member_of (view_in l.tables l.scope)) (take l.field-index l.fields))
    × Taking (word_refusal (view_in l.tables l.scope) roles.Member) (λ field. field.name.bytes) l.initial.taken l.taken l.fields (drop l.field-index l.fields)
