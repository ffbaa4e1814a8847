use Rattle.std.proofs.Common.{refl, subst}
use Rattle.hilti_heap.specs.Stands.{Meets}
use Rattle.hilti_heap_ops.specs.Meaning.{struct_new}
use Rattle.hilti_effects.specs.Acting.{fields_of}
use Rattle.hilti_acting.proofs.Answering.{meets_fitted}
use Rattle.hilti_acting.proofs.structs.new_row.Goals as goal

pub complete-requires-clause-fits : goal.complete-requires-clause-fits
complete-requires-clause-fits c =
    meets_fitted (struct_new c.fields_of-fields.result) c.new_struct-answer.result
    c.args.memory.now.heap c.new_struct-answer.new.heap c.args.stack.now
    c.args.memory.now.globals.items c.new_struct-answer.ensures c.requires.stands.fits

pub returns : goal.returns
returns c =
    c.in_ok-did.ensures (struct_new (fields_of c.args.program.now c.args.declared))
    c.args.memory.now refl
    (subst (λ n. Meets (struct_new n) c.new_struct-answer.result c.args.memory.now.heap
    c.new_struct-answer.new.heap) c.fields_of-fields.ensures c.new_struct-answer.ensures)
