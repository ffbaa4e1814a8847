use Rattle.hilti_words.proofs.Single.{one_command}
use Rattle.hilti_words.proofs.laws.one_command.Goals as goal

pub returns : goal.returns
returns c = one_command
