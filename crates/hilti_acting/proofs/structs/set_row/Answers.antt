use Rattle.std.proofs.Common.{refl, sym, subst}
use Rattle.hilti_heap.specs.Stands.{Meets}
use Rattle.hilti_heap_ops.specs.Meaning.{struct_set}
use Rattle.hilti_heap_ops.specs.Shapes.{HasField}
use Rattle.hilti_effects.specs.Operands.{value_at}
use Rattle.hilti_acting.proofs.Answering.{meets_fitted, reads, operand_covers}
use Rattle.hilti_acting.proofs.structs.set_row.Goals as goal

pub struct_set-answer-requires-clause-kind : goal.struct_set-answer-requires-clause-kind
struct_set-answer-requires-clause-kind c =
    subst (HasField c.args.memory.now.heap c.args.field)
    (reads c.args.stack.now.slots c.args.memory.now.globals.items c.as_slice.result.now
    c.args.object.now c.value_at-value.result.now c.as_slice.ensures.value
    c.value_at-value.ensures)
    c.requires.asks.is_so

pub struct_set-answer-requires-clause-held : goal.struct_set-answer-requires-clause-held
struct_set-answer-requires-clause-held c =
    operand_covers c.args.memory.now.heap c.args.stack.now c.args.memory.now.globals.items
    c.args.item.now c.value_at-put.result.now c.requires.free c.requires.stands.fits
    (reads c.args.stack.now.slots c.args.memory.now.globals.items c.as_slice-2.result.now
    c.args.item.now c.value_at-put.result.now c.as_slice-2.ensures.value
    c.value_at-put.ensures)

pub complete-requires-clause-fits : goal.complete-requires-clause-fits
complete-requires-clause-fits c =
    meets_fitted (struct_set c.value_at-value.result.now c.args.field c.value_at-put.result.now)
    c.struct_set-answer.result c.args.memory.now.heap c.struct_set-answer.new.heap c.args.stack.now
    c.args.memory.now.globals.items c.struct_set-answer.ensures c.requires.stands.fits

pub returns : goal.returns
returns c =
    c.in_ok-did.ensures
    (struct_set (value_at c.args.stack.now.slots c.args.memory.now.globals.items c.args.object.now)
    c.args.field (value_at c.args.stack.now.slots c.args.memory.now.globals.items c.args.item.now))
    c.args.memory.now refl
    (subst (λ x. Meets (struct_set x c.args.field
    (value_at c.args.stack.now.slots c.args.memory.now.globals.items c.args.item.now))
    c.struct_set-answer.result c.args.memory.now.heap c.struct_set-answer.new.heap)
    (sym (reads c.args.stack.now.slots c.args.memory.now.globals.items c.as_slice.result.now
    c.args.object.now c.value_at-value.result.now c.as_slice.ensures.value
    c.value_at-value.ensures))
    (subst (λ y. Meets (struct_set c.value_at-value.result.now c.args.field y)
    c.struct_set-answer.result c.args.memory.now.heap c.struct_set-answer.new.heap)
    (sym (reads c.args.stack.now.slots c.args.memory.now.globals.items c.as_slice-2.result.now
    c.args.item.now c.value_at-put.result.now c.as_slice-2.ensures.value
    c.value_at-put.ensures))
    c.struct_set-answer.ensures))
