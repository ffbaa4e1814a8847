use Rattle.hilti_pcap.proofs.Readings.{reading_of_records}
use Rattle.hilti_pcap.proofs.laws.reading.Goals as goal

pub returns : goal.returns
returns c = reading_of_records
