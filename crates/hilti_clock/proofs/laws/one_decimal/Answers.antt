use Rattle.hilti_clock.proofs.Decimals as decimals
use Rattle.hilti_clock.proofs.laws.one_decimal.Goals as goal

pub returns : goal.returns
returns c = decimals.one_decimal
