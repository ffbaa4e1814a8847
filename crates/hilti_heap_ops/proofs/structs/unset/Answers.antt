use Rattle.std.proofs.Common.{None, refl}
use Rattle.hilti_values.specs.declared.value.Value.TheVariants.{Ref}
use Rattle.hilti_heap.specs.Held.{held}
use Rattle.hilti_heap.proofs.Standing.{holds_none}
use Rattle.hilti_heap_ops.proofs.Fields.{exchange_covers, exchange_goes}
use Rattle.hilti_heap_ops.proofs.structs.unset.Goals as goal

pub release_field-requires : goal.release_field-requires
release_field-requires c =
    exchange_covers c.args.to.now c.args.at None c.exchange-before.result (λ q. 0)
    c.args.heap.now c.args.heap.now c.exchange-before.new.heap c.requires.kind
    (holds_none c.args.heap.now) (λ q. refl) c.exchange-before.ensures.before
    c.exchange-before.ensures.after (λ s. held s (Ref c.args.to.now)) c.requires.held

pub returns : goal.returns
returns c =
    exchange_goes c.args.to.now c.args.at None c.exchange-before.result (λ q. 0)
    c.args.heap.now c.args.heap.now c.exchange-before.new.heap c.requires.kind
    (holds_none c.args.heap.now) (λ q. refl) c.exchange-before.ensures.before
    c.exchange-before.ensures.after c.release_field.new.heap c.release_field.ensures
