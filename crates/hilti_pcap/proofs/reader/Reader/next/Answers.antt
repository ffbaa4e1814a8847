use Rattle.std.proofs.Common.{ap, arith, length}
use Rattle.hilti_pcap.proofs.Records.{taken}
use Rattle.hilti_pcap.proofs.reader.Reader.next.Goals as goal

pub returns-in_ok-bytes-in-Record-clause-answer : goal.returns-in_ok-bytes-in-Record-clause-answer
returns-in_ok-bytes-in-Record-clause-answer c = (
  taken _ _ _ _ _ _ _ _ _ _ (ap (λ held. held.header) c.self.view_is) c.held.ensures (ap (λ held. held.bytes) c.self.view_is)
      c.in_ok-bytes-in-Record.ensures c.in-Record.ensures,
  ap (λ held. held.header) c.self.view_is,
  omega (arith, ap (λ held. held.at) c.self.view_is, ap length c.in_ok-bytes-in-Record.ensures),
)
