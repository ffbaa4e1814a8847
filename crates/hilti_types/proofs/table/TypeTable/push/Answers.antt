use Rattle.std.proofs.Common.{◌≡◌, ◌∷◌, [], ◌++◌, ◌∙◌, sym, ap, arith}
use Rattle.std.proofs.lemmas.Grind.{common_steps}
use Rattle.hilti_types.specs.Depths.{as_u32, declared_depth, depths}
use Rattle.hilti_types.specs.Sendable.{declared_sendable, sendables}
use Rattle.hilti_types.specs.declared.table.Told.{Told}
use Rattle.hilti_types.proofs.Keeping.{kept_of_one_more}
use Rattle.hilti_types.proofs.table.TypeTable.push.Goals as goal

pub invariant_of-self-else-is_err : goal.invariant_of-self-else-is_err
invariant_of-self-else-is_err c =
    let types = c.self.inside.types in
    let longer : c.push-2.new.self ≡ types ++ c.args.item ∷ [] =
    grind (arith, common_steps, c.push-2.ensures, c.is_err.ensures, c.if-is_err.false) in
    let sent = c.declared_is_sendable.ensures
    ∙ ap (λ types. declared_sendable (sendables types) c.args.item) (sym c.self.view_is) in
    let deep = c.declared_depth.ensures
    ∙ ap (λ types. as_u32 (declared_depth (depths types) c.args.item)) (sym c.self.view_is) in
    let one : Told = record {
      is_sendable = c.declared_is_sendable.result;
      depth = c.declared_depth.result;
    } in
    kept_of_one_more types c.push-2.new.self c.self.inside.told.items c.push.new.self.items
    c.args.item one
    c.self.invariant longer c.in_ok-push.ensures.items sent deep
