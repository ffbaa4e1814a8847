use Rattle.std.proofs.Common.{◌≡◌, take, true}
use Rattle.std.specs.List.{list_all}
use Rattle.hilti_types.specs.Sendable.{is_sendable_in}
use Rattle.hilti_types.proofs.sendability.fields_are_sendable.Given as goal

-- the fields so far are sendable
abbrev pub invariant-loop-field : goal.invariant-loop-field
invariant-loop-field l =
    list_all (λ field. is_sendable_in l.types field.kind) (take l.field-index l.field-items) ≡ true
