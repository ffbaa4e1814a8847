use Rattle.hilti_machine_tests.proofs.ExampleTyped.{example_typed, calls_are_sound}
use Rattle.hilti_machine_tests.proofs.machine.example_is_sound.Goals as goal

pub returns-clause-typed : goal.returns-clause-typed
returns-clause-typed c = example_typed

pub returns-clause-calls : goal.returns-clause-calls
returns-clause-calls c = calls_are_sound
