use Rattle.hilti_pcap.proofs.Plain.{behind_split}
use Rattle.hilti_pcap.proofs.read.read_le.Goals as goal

pub returns-clause-not_yet : goal.returns-clause-not_yet
returns-clause-not_yet c = λ e packets has.
    let found = c.in-Some.ensures.some in
    c.read_records.ensures.not_yet e packets (behind_split _ _ _ _ packets found.1 found.2 has) has.few
