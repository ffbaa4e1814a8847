use Rattle.hilti_typing.proofs.Meeting as meeting
use Rattle.hilti_typing.proofs.laws.flow_rows.Goals as goal

pub returns : goal.returns
returns c = meeting.flow_rows
