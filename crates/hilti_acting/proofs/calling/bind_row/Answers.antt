use Rattle.hilti_acting.proofs.Callees.{arguments_kept}
use Rattle.hilti_acting.proofs.calling.bind_row.Goals as goal

pub callable_bind-answer-requires : goal.callable_bind-answer-requires
callable_bind-answer-requires c =
    arguments_kept c.args.memory.now.heap c.args.stack.now c.args.memory.now.globals.items
    c.requires.stands.fits c.args.sources.now c.as_slice.result.now _ c.requires.free
    c.as_slice.ensures.value c.in_ok-values.ensures
