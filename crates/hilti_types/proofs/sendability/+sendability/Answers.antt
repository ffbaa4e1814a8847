use Rattle.std.proofs.Common.{◌≡◌, false, arith}
use Rattle.std.proofs.lemmas.Grind.{common_steps}
use Rattle.hilti_types.specs.Sendable.{is_sendable_in}
use Rattle.hilti_types.proofs.Parts.{fails_at, all_pass}
use Rattle.hilti_types.proofs.sendability.+sendability.Goals as goal

pub parts_are_sendable-returns-then-not-is_sendable :
    goal.parts_are_sendable-returns-then-not-is_sendable
parts_are_sendable-returns-then-not-is_sendable t c =
    let told = is_sendable_in c.args.types.now in
    let fails : told c.part-item.result ≡ false =
    grind (arith, common_steps, c.is_sendable.ensures, c.if-not-is_sendable.true) in
    fails_at told c.args.parts.now c.as_slice-part-items.result.now c.loop-part.part-index
    c.part-item.result c.as_slice-part-items.ensures c.loop-part-test.true c.part-item.is fails

pub parts_are_sendable-returns : goal.parts_are_sendable-returns
parts_are_sendable-returns t c =
    all_pass (is_sendable_in c.args.types.now) c.args.parts.now c.as_slice-part-items.result.now
    c.loop-part.part-index c.as_slice-part-items.ensures (omega arith) c.loop-part.invariant
