use Rattle.std.proofs.Common.{Some, refl}
use Rattle.hilti_heap.specs.Held.{held}
use Rattle.hilti_heap_ops.proofs.Fields.{shared_kept, exchange_covers, exchange_goes, set_goes}
use Rattle.hilti_heap_ops.proofs.structs.set.Goals as goal

pub hold_value-requires : goal.hold_value-requires
hold_value-requires c =
    shared_kept c.args.heap.now c.args.item.now c.in_ok-shared.shared c.in_ok-shared.ensures
    c.requires.held

pub release_field-requires : goal.release_field-requires
release_field-requires c =
    exchange_covers c.args.to.now c.args.at (Some c.in_ok-shared.shared) c.exchange-before.result
    (λ q. held q c.in_ok-shared.shared) c.args.heap.now c.hold_value.new.self
    c.exchange-before.new.heap c.requires.kind c.in_ok-hold_value.ensures.ok (λ q. refl)
    c.exchange-before.ensures.before c.exchange-before.ensures.after
    (λ s. held s c.args.item.now) c.requires.held

pub returns : goal.returns
returns c =
    set_goes c.args.to.now c.args.at c.args.item.now c.in_ok-shared.shared c.args.heap.now
    c.release_field.new.heap c.in_ok-shared.ensures
    (exchange_goes c.args.to.now c.args.at (Some c.in_ok-shared.shared) c.exchange-before.result
    (λ q. held q c.in_ok-shared.shared) c.args.heap.now c.hold_value.new.self
    c.exchange-before.new.heap c.requires.kind c.in_ok-hold_value.ensures.ok (λ q. refl)
    c.exchange-before.ensures.before c.exchange-before.ensures.after
    c.release_field.new.heap c.release_field.ensures)
