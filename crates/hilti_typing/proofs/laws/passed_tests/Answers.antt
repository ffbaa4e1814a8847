use Rattle.hilti_typing.proofs.Records as records
use Rattle.hilti_typing.proofs.laws.passed_tests.Goals as goal

pub returns : goal.returns
returns c = records.passed_tests
