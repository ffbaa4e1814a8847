use Rattle.hilti_typing.proofs.Records as records
use Rattle.hilti_typing.proofs.laws.tuple_rows.Goals as goal

pub returns : goal.returns
returns c = records.tuple_rows
