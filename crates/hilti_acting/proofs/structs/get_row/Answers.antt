use Rattle.std.proofs.Common.{refl, sym, subst}
use Rattle.hilti_heap.specs.Stands.{Meets}
use Rattle.hilti_heap_ops.specs.Meaning.{struct_get}
use Rattle.hilti_heap_ops.specs.Shapes.{HasField}
use Rattle.hilti_effects.specs.Operands.{value_at}
use Rattle.hilti_acting.proofs.Answering.{meets_fitted, reads, operand_covers}
use Rattle.hilti_acting.proofs.structs.get_row.Goals as goal

pub struct_get-answer-requires-clause-kind : goal.struct_get-answer-requires-clause-kind
struct_get-answer-requires-clause-kind c =
    subst (HasField c.args.memory.now.heap c.args.field)
    (reads c.args.stack.now.slots c.args.memory.now.globals.items c.as_slice.result.now
    c.args.object.now c.value_at-value.result.now c.as_slice.ensures.value
    c.value_at-value.ensures)
    c.requires.asks.is_so

pub struct_get-answer-requires-clause-held : goal.struct_get-answer-requires-clause-held
struct_get-answer-requires-clause-held c =
    operand_covers c.args.memory.now.heap c.args.stack.now c.args.memory.now.globals.items
    c.args.object.now c.value_at-value.result.now c.requires.free c.requires.stands.fits
    (reads c.args.stack.now.slots c.args.memory.now.globals.items c.as_slice.result.now
    c.args.object.now c.value_at-value.result.now c.as_slice.ensures.value
    c.value_at-value.ensures)

pub complete-requires-clause-fits : goal.complete-requires-clause-fits
complete-requires-clause-fits c =
    meets_fitted (struct_get c.value_at-value.result.now c.args.field)
    c.struct_get-answer.result c.args.memory.now.heap c.struct_get-answer.new.heap c.args.stack.now
    c.args.memory.now.globals.items c.struct_get-answer.ensures c.requires.stands.fits

pub returns : goal.returns
returns c =
    c.in_ok-did.ensures
    (struct_get (value_at c.args.stack.now.slots c.args.memory.now.globals.items c.args.object.now)
    c.args.field)
    c.args.memory.now refl
    (subst (λ x. Meets (struct_get x c.args.field) c.struct_get-answer.result c.args.memory.now.heap
    c.struct_get-answer.new.heap)
    (sym (reads c.args.stack.now.slots c.args.memory.now.globals.items c.as_slice.result.now
    c.args.object.now c.value_at-value.result.now c.as_slice.ensures.value
    c.value_at-value.ensures))
    c.struct_get-answer.ensures)
