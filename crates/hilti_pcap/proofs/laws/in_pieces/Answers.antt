use Rattle.hilti_pcap.proofs.Pieces.{in_pieces}
use Rattle.hilti_pcap.proofs.laws.in_pieces.Goals as goal

pub returns : goal.returns
returns c = in_pieces
