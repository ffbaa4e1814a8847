use Rattle.hilti_acting.proofs.Fetching.{struct_acts}
use Rattle.hilti_acting.proofs.acting.perform_struct.Goals as goal

pub returns-in-Get : goal.returns-in-Get
returns-in-Get c =
    struct_acts c.args.program.now c.args.p.now c.args.stack.now c.args.memory.now
    c.args.row.now _ c.in-Get.is c.get_row.result c.get_row.new.p c.get_row.new.stack
    c.get_row.new.memory c.get_row.ensures

pub returns-in-Set : goal.returns-in-Set
returns-in-Set c =
    struct_acts c.args.program.now c.args.p.now c.args.stack.now c.args.memory.now
    c.args.row.now _ c.in-Set.is c.set_row.result c.set_row.new.p c.set_row.new.stack
    c.set_row.new.memory c.set_row.ensures

pub returns-in-Unset : goal.returns-in-Unset
returns-in-Unset c =
    struct_acts c.args.program.now c.args.p.now c.args.stack.now c.args.memory.now
    c.args.row.now _ c.in-Unset.is c.unset_row.result c.unset_row.new.p c.unset_row.new.stack
    c.unset_row.new.memory c.unset_row.ensures
