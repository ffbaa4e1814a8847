use Rattle.hilti_heap.specs.Held.{held}
use Rattle.hilti_heap.proofs.Heaping.{ready, drain_ready}
use Rattle.hilti_heap.proofs.heap.Heap.release_value.Goals as goal

pub lower_value-requires : goal.lower_value-requires
lower_value-requires c = ready c.self.inside c.args.self.now c.self.view_is c.self.invariant
    (λ s. held s c.args.value.now) c.requires

pub drain-requires : goal.drain-requires
drain-requires c = drain_ready c.self.inside c.args.self.now c.self.view_is c.self.invariant
    (λ s. held s c.args.value.now) c.requires c.lower_value.new.self c.lower_value.ensures
