use Rattle.std.proofs.Common.{◌≤◌, length}
use Rattle.hilti_pcap.specs.Records.{HasRecords}
use Rattle.hilti_pcap.proofs.read.read_records.Given as goal

abbrev pub invariant-loop-rest : goal.invariant-loop-rest
invariant-loop-rest l = HasRecords l.header l.packets l.records l.rest × (length l.packets ≤ 1000000)

abbrev pub decreases-loop-rest : goal.decreases-loop-rest
decreases-loop-rest l = length l.rest
