use Rattle.hilti_heap.specs.Held.{held}
use Rattle.hilti_heap.proofs.Heaping.{known_in}
use Rattle.hilti_heap.proofs.heap.Heap.hold_value.Goals as goal

pub raise_value-requires : goal.raise_value-requires
raise_value-requires c = known_in c.self.inside c.args.self.now (λ s. held s c.args.value.now)
    c.self.view_is c.requires
