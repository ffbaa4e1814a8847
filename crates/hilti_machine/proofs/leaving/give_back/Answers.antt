use Rattle.std.proofs.Common.{refl}
use Rattle.hilti_machine.proofs.Asking.{caller_takes}
use Rattle.hilti_machine.proofs.Ending.{returned_on, returned_done}
use Rattle.hilti_machine.proofs.leaving.give_back.Goals as goal

pub returned-requires-clause-takes : goal.returned-requires-clause-takes
returned-requires-clause-takes c =
    let left = c.requires.returned.left.left in
    caller_takes c.requires.returned.parts left.kinds c.args.calling.now.top c.args.target
    c.args.value _ c.args.calling.now.stack left.ends

pub returns-in-Ok-clause-leads : goal.returns-in-Ok-clause-leads
returns-in-Ok-clause-leads c parts items all number ran left =
    returned_on parts all items c.args.target c.args.value c.args.calling.now _ c.args.memory.now _
    number ran (record { function = refl; fuel = refl }) refl left (c.in-Ok.ensures.on parts)

pub returns-in-Err-clause-leads : goal.returns-in-Err-clause-leads
returns-in-Err-clause-leads c parts items all number ran left =
    returned_done parts all items c.args.target c.args.value c.args.calling.now _ c.args.memory.now
    c.returned.new.memory _ number ran
    (record {
      function = c.go_behind.ensures.same.function;
      fuel = c.go_behind.ensures.same.fuel;
    })
    left c.in-Err.ensures.over.1 c.let_result_go.ensures c.go_behind.result c.go_behind.ensures.leads
