use Rattle.hilti_bodies.proofs.Refusing.{first_refused, first_stop}
use Rattle.hilti_bodies.proofs.laws.refuses_first_fault.Goals as goal

pub returns : goal.returns
returns c = record { blocks = first_refused; instructions = first_stop }
