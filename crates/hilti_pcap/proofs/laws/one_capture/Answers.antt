use Rattle.hilti_pcap.proofs.Plain.{one_reading}
use Rattle.hilti_pcap.proofs.laws.one_capture.Goals as goal

pub returns : goal.returns
returns c = one_reading
