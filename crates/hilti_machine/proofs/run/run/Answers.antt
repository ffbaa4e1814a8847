use Rattle.std.proofs.Common.{◌∙◌, arith}
use Rattle.hilti_machine.proofs.Asking.{are_functions}
use Rattle.hilti_machine.proofs.Ending.{done_by, spent_by}
use Rattle.hilti_machine.proofs.run.run.Goals as goal

pub returns-in-Ends : goal.returns-in-Ends
returns-in-Ends c all number ran amid =
    done_by c.args.program.now all c.in_ok-step.field-0 c.step.new.items c.step.new.calling
    c.step.new.memory number ran c.args.calling.function c.in-Ends.end c.in-Ends.is
    (c.in_ok-step.ensures.function ∙ c.instructions.invariant.0)
    (c.in_ok-step.ensures.leads all number ran (c.instructions.invariant.1 all number ran amid))

pub let_frames_go-requires-clause-none_made : goal.let_frames_go-requires-clause-none_made
let_frames_go-requires-clause-none_made c =
    let u = c.requires.under_way in
    (c.instructions.invariant.1 u.all u.number u.ran u.amid).typed.config.none_made

pub let_frames_go-requires-clause-fits : goal.let_frames_go-requires-clause-fits
let_frames_go-requires-clause-fits c =
    let u = c.requires.under_way in (c.instructions.invariant.1 u.all u.number u.ran u.amid).fits

pub let_frames_go-requires-clause-functions : goal.let_frames_go-requires-clause-functions
let_frames_go-requires-clause-functions c =
    let u = c.requires.under_way in
    let typed = (c.instructions.invariant.1 u.all u.number u.ran u.amid).typed in
    are_functions c.args.program.now typed.kinds c.instructions.calling.stack.below
    typed.config.below

pub returns : goal.returns
returns c all number ran amid =
    spent_by c.args.program.now all c.instructions.items c.push.new.self c.instructions.calling
    c.instructions.memory c.let_frames_go.new.memory number ran c.args.calling.function
    c.in_ok-text.text (let t = c.instructions-test.false in omega arith)
    c.instructions.invariant.0 (c.instructions.invariant.1 all number ran amid)
    c.let_frames_go.ensures c.in_ok-text.ensures c.in_ok-push.ensures.ok
