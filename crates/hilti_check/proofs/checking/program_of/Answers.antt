use Rattle.std.proofs.Common.{sym, ◌∙◌, ap, subst, Ok, Err}
use Rattle.hilti_link.specs.Linking.{tables_of}
use Rattle.hilti_code.specs.Runnable.{IsTypedProgram}
use Rattle.hilti_bodies.proofs.Following.{told_of}
use Rattle.hilti_check.specs.Built.{first_unbuilt}
use Rattle.hilti_check.proofs.Checked.{unbuilt_refused, program_is}
use Rattle.hilti_check.proofs.checking.program_of.Goals as goal

pub returns-in-Some-clause-is : goal.returns-in-Some-clause-is
returns-in-Some-clause-is c =
    let first = first_unbuilt c.args.linked.modules (tables_of c.args.linked.modules) in
    told_of (Err c.refusal.result) _
    (unbuilt_refused c.args.linked.modules c.args.blocks c.requires c.in-Some.place (sym c.in-Some.is ∙ c.in_ok-place.ensures ∙ ap first c.as_slice.ensures) ∙ ap Err (sym c.refusal.ensures))

pub new-requires : goal.new-requires
new-requires c =
    let it = program_is c.checked_are_typed.ensures c.args.linked c.args.blocks c.requires _ _ c.as_slice.ensures c.in_ok-place.ensures c.in-None.is c.in_ok-parts-in-None.parts _ c.into_vec.ensures c.in_ok-parts-in-None.ensures in
    let typed = it.1 in
    typed.typed

pub returns-in_ok-parts-in-None-clause-is : goal.returns-in_ok-parts-in-None-clause-is
returns-in_ok-parts-in-None-clause-is c =
    let it = program_is c.checked_are_typed.ensures c.args.linked c.args.blocks c.requires _ _ c.as_slice.ensures c.in_ok-place.ensures c.in-None.is c.in_ok-parts-in-None.parts _ c.into_vec.ensures c.in_ok-parts-in-None.ensures in
    it.0 ∙ ap Ok (sym c.new.ensures)

pub returns-in_ok-parts-in-None-clause-typed : goal.returns-in_ok-parts-in-None-clause-typed
returns-in_ok-parts-in-None-clause-typed c =
    let it = program_is c.checked_are_typed.ensures c.args.linked c.args.blocks c.requires _ _ c.as_slice.ensures c.in_ok-place.ensures c.in-None.is c.in_ok-parts-in-None.parts _ c.into_vec.ensures c.in_ok-parts-in-None.ensures in
    subst IsTypedProgram (sym c.new.ensures) it.1
