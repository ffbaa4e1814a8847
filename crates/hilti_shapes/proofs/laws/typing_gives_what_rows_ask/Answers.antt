use Rattle.hilti_shapes.proofs.Asking.{find_what_rows_ask as proved}
use Rattle.hilti_shapes.proofs.laws.typing_gives_what_rows_ask.Goals as goal

pub returns : goal.returns
returns c = proved
