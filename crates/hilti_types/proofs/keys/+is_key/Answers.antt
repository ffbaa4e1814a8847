use Rattle.std.proofs.Common.{◌≡◌, false, arith}
use Rattle.std.proofs.lemmas.Grind.{common_steps}
use Rattle.hilti_types.specs.Keys.{key_over}
use Rattle.hilti_types.proofs.Parts.{fails_at, all_pass}
use Rattle.hilti_types.proofs.keys.+is_key.Goals as goal

pub are_keys-returns-then-not-is_key : goal.are_keys-returns-then-not-is_key
are_keys-returns-then-not-is_key t c =
    let told = key_over c.args.types.now in
    let fails : told c.part-item.result ≡ false =
    grind (arith, common_steps, c.is_key.ensures, c.if-not-is_key.true) in
    fails_at told c.args.parts.now c.as_slice-part-items.result.now c.loop-part.part-index
    c.part-item.result c.as_slice-part-items.ensures c.loop-part-test.true c.part-item.is fails

pub are_keys-returns : goal.are_keys-returns
are_keys-returns t c =
    all_pass (key_over c.args.types.now) c.args.parts.now c.as_slice-part-items.result.now
    c.loop-part.part-index c.as_slice-part-items.ensures (omega arith) c.loop-part.invariant
