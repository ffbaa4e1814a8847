use Rattle.hilti_typing.proofs.Calls as calls
use Rattle.hilti_typing.proofs.laws.call_rows.Goals as goal

pub returns : goal.returns
returns c = calls.call_rows
