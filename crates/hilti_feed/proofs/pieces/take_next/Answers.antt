use Rattle.std.proofs.Common.{refl, subst}
use Rattle.hilti_pcap.specs.declared.reader.Next.{Next}
use Rattle.hilti_pcap.specs.Reader.{Answers}
use Rattle.hilti_feed.proofs.Nexts.{record_gives, long_gives}
use Rattle.hilti_feed.proofs.pieces.take_next.Goals as goal

pub returns-in-Packet-clause-gives : goal.returns-in-Packet-clause-gives
returns-in-Packet-clause-gives c = λ rest.
    record_gives c.args.tail.now _ c.in-Packet.packet rest refl refl
    (subst (λ (next : Next). Answers c.args.tail.now.reader next c.next.new.self) c.in-Packet.is c.in_ok-packet.ensures.answer)

pub returns-in-TooLong-clause-gives : goal.returns-in-TooLong-clause-gives
returns-in-TooLong-clause-gives c = λ rest.
    long_gives c.args.tail.now _ c.in-TooLong.at c.in-TooLong.length rest refl refl
    (subst (λ (next : Next). Answers c.args.tail.now.reader next c.next.new.self) c.in-TooLong.is c.in_ok-packet.ensures.answer)
