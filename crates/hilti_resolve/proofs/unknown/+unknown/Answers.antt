use Rattle.std.proofs.Common.{◌∙◌, sym, arith}
use Rattle.hilti_scope.specs.Scopes.{means}
use Rattle.hilti_resolve.specs.Names.{first_unknown}
use Rattle.hilti_resolve.proofs.Firsts.{first_told, first_here, first_more, first_at_end}
use Rattle.hilti_resolve.proofs.unknown.+unknown.Goals as goal

pub unknown_in_parts-returns-in-Some : goal.unknown_in_parts-returns-in-Some
unknown_in_parts-returns-in-Some t c =
    let told = first_unknown (means c.args.scope.now) in
    let items = c.as_slice-part-items.result.now in
    sym (first_here told (first_told told c.args.parts.now) items c.loop-part.part-index c.part-item.result c.in-Some.place c.loop-part-test.true c.part-item.is c.loop-part.invariant (sym c.first_unknown.ensures ∙ c.in-Some.is))

pub unknown_in_parts-loop-part-preserved : goal.unknown_in_parts-loop-part-preserved
unknown_in_parts-loop-part-preserved t c =
    let told = first_unknown (means c.args.scope.now) in
    let items = c.as_slice-part-items.result.now in
    first_more told (first_told told c.args.parts.now) items c.loop-part.part-index c.part-item.result c.loop-part-test.true c.part-item.is c.loop-part.invariant (sym c.first_unknown.ensures ∙ c.in_default.is)

pub unknown_in_parts-returns : goal.unknown_in_parts-returns
unknown_in_parts-returns t c =
    let told = first_unknown (means c.args.scope.now) in
    sym (first_at_end told (first_told told c.args.parts.now) c.as_slice-part-items.result.now c.loop-part.part-index (omega arith) c.loop-part.invariant)
