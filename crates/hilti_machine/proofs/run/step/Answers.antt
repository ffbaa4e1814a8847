use Rattle.std.proofs.Common.{refl, ◌+◌, ◌-◌}
use Rattle.hilti_shapes.proofs.Asking.{find_what_rows_ask}
use Rattle.hilti_acting.specs.Owned.{owned}
use Rattle.hilti_acting.specs.declared.did.Did.TheVariants as did
use Rattle.hilti_machine.proofs.Counting.{top_held}
use Rattle.hilti_machine.proofs.Going.{one_less, acts_so, went, called, said_push, went_on}
use Rattle.hilti_machine.proofs.Going.{left_by}
use Rattle.hilti_machine.proofs.run.step.Goals as goal

pub act-requires-clause-ready : goal.act-requires-clause-ready
act-requires-clause-ready c =
    let u = c.requires.under_way.amid in
    find_what_rows_ask c.args.program.now c.requires.machine.typed c.args.calling.now.top
    c.args.calling.now.stack c.args.memory.now.globals.items u.typed.kinds u.store u.typed.config
    c.args.memory.now.heap
    (λ s. owned c.args.calling.now.stack c.args.memory.now.globals.items s + 0) u.stands u.fits.is
    (top_held c.args.calling.now.stack c.args.memory.now.globals.items)

pub leave-requires : goal.leave-requires
leave-requires c =
    let u = c.requires.under_way in
    record {
      left = record {
        all = u.all;
        number = u.number;
        ran = u.ran;
        left = left_by c.args.program.now c.requires.machine.typed u.all c.args.items.now
            c.args.calling.now _ c.args.memory.now c.act.new.memory (c.args.calling.now.fuel - 1)
            u.number u.ran (one_less c.args.calling.now _ c.requires.fuel refl refl refl) u.amid
            c.in-Left.ending
            (acts_so _ _ _ _ _ _ _ _ (did.Left c.in-Left.ending) c.in-Left.is c.in_ok-did.ensures);
      };
    }

pub returns-in-Went-clause-leads : goal.returns-in-Went-clause-leads
returns-in-Went-clause-leads c all number ran amid =
    went c.args.program.now c.requires.machine.typed all c.args.items.now c.args.calling.now _
    c.args.memory.now c.act.new.memory (c.args.calling.now.fuel - 1) number ran
    (one_less c.args.calling.now _ c.requires.fuel refl refl refl) amid
    (acts_so _ _ _ _ _ _ _ _ did.Went c.in-Went.is c.in_ok-did.ensures)

pub returns-in-Called-clause-leads : goal.returns-in-Called-clause-leads
returns-in-Called-clause-leads c all number ran amid =
    called c.args.program.now c.requires.machine.typed all c.args.items.now c.args.calling.now _
    c.args.memory.now c.act.new.memory (c.args.calling.now.fuel - 1) number ran
    (one_less c.args.calling.now _ c.requires.fuel refl refl refl) amid
    (acts_so _ _ _ _ _ _ _ _ did.Called c.in-Called.is c.in_ok-did.ensures)

pub returns-in_ok-push-in-Said-clause-leads : goal.returns-in_ok-push-in-Said-clause-leads
returns-in_ok-push-in-Said-clause-leads c all number ran amid =
    said_push c.args.program.now c.requires.machine.typed all c.args.items.now c.args.calling.now _
    c.args.memory.now c.act.new.memory (c.args.calling.now.fuel - 1) number ran
    (one_less c.args.calling.now _ c.requires.fuel refl refl refl) amid c.in-Said.text
    c.push.new.self c.in_ok-push-in-Said.ensures.ok
    (acts_so _ _ _ _ _ _ _ _ (did.Said c.in-Said.text) c.in-Said.is c.in_ok-did.ensures)

pub returns-in-Yielded-clause-leads : goal.returns-in-Yielded-clause-leads
returns-in-Yielded-clause-leads c all number ran amid =
    went_on c.args.program.now c.requires.machine.typed all c.args.items.now c.args.calling.now _
    c.args.memory.now c.act.new.memory (c.args.calling.now.fuel - 1) number ran
    (one_less c.args.calling.now _ c.requires.fuel refl refl refl) amid did.Yielded
    (acts_so _ _ _ _ _ _ _ _ did.Yielded c.in-Yielded.is c.in_ok-did.ensures)

pub returns-in_ok-step-in-Left-clause-leads : goal.returns-in_ok-step-in-Left-clause-leads
returns-in_ok-step-in-Left-clause-leads c all number ran amid =
    c.in_ok-step-in-Left.ensures.leads all number ran
    (left_by c.args.program.now c.requires.machine.typed all c.args.items.now
    c.args.calling.now _ c.args.memory.now c.act.new.memory (c.args.calling.now.fuel - 1) number ran
    (one_less c.args.calling.now _ c.requires.fuel refl refl refl) amid c.in-Left.ending
    (acts_so _ _ _ _ _ _ _ _ (did.Left c.in-Left.ending) c.in-Left.is c.in_ok-did.ensures))
