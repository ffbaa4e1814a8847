use Rattle.hilti_pcap.proofs.Records.{one_list}
use Rattle.hilti_pcap.proofs.laws.one_list.Goals as goal

pub returns : goal.returns
returns c = one_list
