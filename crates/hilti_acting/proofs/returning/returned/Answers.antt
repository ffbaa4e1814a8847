use Rattle.hilti_heap.specs.Held.{all_held}
use Rattle.hilti_acting.proofs.Counts.{fewer_released}
use Rattle.hilti_acting.proofs.Taking.{takes_result}
use Rattle.hilti_acting.proofs.returning.returned.Goals as goal

pub returns-in-Some-Function-clause-on : goal.returns-in-Some-Function-clause-on
returns-in-Some-Function-clause-on c parts =
    takes_result parts c.args.target c.args.value c.in-Some-Function.field-0
    c.in-Some-Function.p c.args.stack.now c.leave.new.self c.receive.new.stack c.args.memory.now
    c.receive.new.memory c.let_go.new.heap c.in-Some-Function.field-0-is c.in-Some-Function.ensures.some
    c.receive.ensures.stack c.receive.ensures.globals
    (fewer_released c.args.memory.now.heap c.let_go.new.heap
    (λ s. all_held s c.args.stack.now.slots) c.let_go.ensures)
    c.receive.ensures.fewer c.receive.ensures.fits
