use Rattle.std.proofs.Common.{arith}
use Rattle.hilti_heap.proofs.Shedding.{fields_ready, fields_then}
use Rattle.hilti_heap.proofs.shelf.Shelf.lower_fields.Goals as goal

pub lower_field-requires : goal.lower_field-requires
lower_field-requires c = fields_ready c.args.self.now c.loop-at.self c.loop-at.self c.loop-at.at _
    c.args.fields.now c.requires c.loop-at.invariant (omega arith) c.get.ensures

pub loop-at-preserved : goal.loop-at-preserved
loop-at-preserved c = fields_then c.args.self.now c.loop-at.self c.lower_field.new.self c.loop-at.at
    _ c.args.fields.now c.loop-at.invariant c.lower_field.ensures (omega arith) c.get.ensures
