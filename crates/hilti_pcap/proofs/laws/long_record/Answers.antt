use Rattle.hilti_pcap.proofs.Readings.{long_found, not_long_found}
use Rattle.hilti_pcap.proofs.laws.long_record.Goals as goal

pub returns : goal.returns
returns c = record { long = long_found; partial = not_long_found }
