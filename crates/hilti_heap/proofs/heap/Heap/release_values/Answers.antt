use Rattle.hilti_heap.specs.Held.{all_held}
use Rattle.hilti_heap.proofs.Heaping.{ready, drain_ready}
use Rattle.hilti_heap.proofs.heap.Heap.release_values.Goals as goal

pub lower_values-requires : goal.lower_values-requires
lower_values-requires c = ready c.self.inside c.args.self.now c.self.view_is c.self.invariant
    (λ s. all_held s c.args.values.now) c.requires

pub drain-requires : goal.drain-requires
drain-requires c = drain_ready c.self.inside c.args.self.now c.self.view_is c.self.invariant
    (λ s. all_held s c.args.values.now) c.requires c.lower_values.new.self c.lower_values.ensures
