use Rattle.hilti_reader.proofs.Kept.{reading_is_exact, reading_all_is_exact}
use Rattle.hilti_reader.proofs.laws.exact.Goals as goal

pub returns : goal.returns
returns c = record { rules = reading_is_exact; whole = reading_all_is_exact }
