use Rattle.hilti_typing.proofs.ProgramExamples as examples
use Rattle.hilti_typing.proofs.laws.program_examples.Goals as goal

pub returns-clause-typed : goal.returns-clause-typed
returns-clause-typed c = examples.whole_is_typed

pub returns-clause-untyped : goal.returns-clause-untyped
returns-clause-untyped c = examples.untyped_parts
