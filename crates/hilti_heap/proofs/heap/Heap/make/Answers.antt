use Rattle.hilti_heap.proofs.Heaping.{made, made_sound}
use Rattle.hilti_heap.proofs.heap.Heap.make.Goals as goal

pub invariant_of-self : goal.invariant_of-self
invariant_of-self c =
    let put = c.put.ensures in let opens = (c.in-Ok.ensures).ok in let rest =
    (c.in-Ok.ensures).rest in
    made_sound c.self.inside c.args.self.now c.self.view_is c.self.invariant c.place_for.new.self
    c.put.new.self c.in-Ok.place c.args.object opens rest put.cells put.kept put.dying

pub returns-in-Ok-clause-ok : goal.returns-in-Ok-clause-ok
returns-in-Ok-clause-ok c =
    let put = c.put.ensures in let opens = (c.in-Ok.ensures).ok in let rest =
    (c.in-Ok.ensures).rest in
    rw c.new.ensures
    (made c.self.inside c.args.self.now c.self.view_is c.self.invariant c.place_for.new.self
    c.put.new.self c.in-Ok.place c.args.object opens rest put.cells put.kept put.dying)
