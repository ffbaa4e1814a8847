use Rattle.hilti_print.proofs.Runs as runs
use Rattle.hilti_print.proofs.laws.first_longest.Goals as goal

pub returns : goal.returns
returns c = record { stands = runs.stands; one = runs.one; shown = runs.shown }
