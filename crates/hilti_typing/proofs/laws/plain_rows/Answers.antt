use Rattle.hilti_typing.proofs.Meeting as meeting
use Rattle.hilti_typing.proofs.laws.plain_rows.Goals as goal

pub returns : goal.returns
returns c = meeting.plain_rows
