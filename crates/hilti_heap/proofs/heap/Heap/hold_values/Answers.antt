use Rattle.hilti_heap.specs.Held.{all_held}
use Rattle.hilti_heap.proofs.Heaping.{known_in}
use Rattle.hilti_heap.proofs.heap.Heap.hold_values.Goals as goal

pub raise_values-requires : goal.raise_values-requires
raise_values-requires c = known_in c.self.inside c.args.self.now (λ s. all_held s c.args.values.now)
    c.self.view_is c.requires
