use Rattle.std.proofs.Common.{refl, sym, subst}
use Rattle.hilti_heap.specs.Stands.{Meets}
use Rattle.hilti_heap_ops.specs.Meaning.{struct_is_set}
use Rattle.hilti_heap_ops.specs.Shapes.{HasField}
use Rattle.hilti_effects.specs.Operands.{value_at}
use Rattle.hilti_acting.proofs.Answering.{meets_fitted, reads}
use Rattle.hilti_acting.proofs.structs.is_set_row.Goals as goal

pub struct_is_set-answer-requires : goal.struct_is_set-answer-requires
struct_is_set-answer-requires c =
    subst (HasField c.args.memory.now.heap c.args.field)
    (reads c.args.stack.now.slots c.args.memory.now.globals.items c.as_slice.result.now
    c.args.object.now c.value_at-value.result.now c.as_slice.ensures.value
    c.value_at-value.ensures)
    c.requires.asks.is_so

pub complete-requires-clause-fits : goal.complete-requires-clause-fits
complete-requires-clause-fits c =
    meets_fitted (struct_is_set c.value_at-value.result.now c.args.field)
    c.struct_is_set-answer.result c.args.memory.now.heap c.args.memory.now.heap c.args.stack.now
    c.args.memory.now.globals.items c.struct_is_set-answer.ensures c.requires.stands.fits

pub returns : goal.returns
returns c =
    c.in_ok-did.ensures
    (struct_is_set (value_at c.args.stack.now.slots c.args.memory.now.globals.items c.args.object.now)
    c.args.field)
    c.args.memory.now refl
    (subst (λ x. Meets (struct_is_set x c.args.field) c.struct_is_set-answer.result c.args.memory.now.heap
    c.args.memory.now.heap)
    (sym (reads c.args.stack.now.slots c.args.memory.now.globals.items c.as_slice.result.now
    c.args.object.now c.value_at-value.result.now c.as_slice.ensures.value
    c.value_at-value.ensures))
    c.struct_is_set-answer.ensures)
