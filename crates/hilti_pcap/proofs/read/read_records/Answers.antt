use Rattle.std.proofs.Common.{◌≡◌, ◌≢◌, ◌+◌, List, ℕ, refl, sym, ap, ◌∙◌, subst, ◌++◌, ◌∷◌, [], length, arith}
use Rattle.std.proofs.lemmas.List.{length-append}
use Rattle.hilti_pcap.specs.declared.packet.Packet.{Packet}
use Rattle.hilti_pcap.specs.Records.{HasRecords}
use Rattle.hilti_pcap.proofs.Records.{one_more}
use Rattle.hilti_pcap.proofs.Plain.{some_left, too_many, no_record}
use Rattle.hilti_pcap.proofs.read.read_records.Goals as goal

pub returns-then-len-eq-MOST_PACKETS-clause-not_yet :
    goal.returns-then-len-eq-MOST_PACKETS-clause-not_yet
returns-then-len-eq-MOST_PACKETS-clause-not_yet c = λ _ packets has.
    too_many _ _ packets _ _ _ (some_left _ _ c.is_empty.ensures c.loop-rest-test.true) c.loop-rest.invariant.0
    c.len.ensures c.if-len-eq-MOST_PACKETS.true has

pub returns-in_default-clause-not_yet : goal.returns-in_default-clause-not_yet
returns-in_default-clause-not_yet c = λ _ packets has _.
    no_record _ _ packets _ _ (some_left _ _ c.is_empty.ensures c.loop-rest-test.true) c.loop-rest.invariant.0
    (c.in_default.ensures.none refl) has

pub loop-rest-preserved : goal.loop-rest-preserved
loop-rest-preserved c =
    let kept : List ℕ → Packet = λ bytes. record { time = c.in-Some.record.time; bytes = bytes } in
    let pushed : c.push.new.self ≡ c.loop-rest.packets ++ kept c.in-Some.record.bytes.now ∷ []
    = c.in_ok-push.ensures.ok ∙ ap (λ bytes. c.loop-rest.packets ++ kept bytes ∷ []) c.in_ok-bytes.ensures in
    let few = c.loop-rest.invariant.1 in
    let more : length c.push.new.self ≡ length c.loop-rest.packets + 1
    = ap length pushed ∙ length-append c.loop-rest.packets (kept c.in-Some.record.bytes.now ∷ []) in
    let room : length c.loop-rest.packets ≢ 1000000 = λ full. c.if-len-eq-MOST_PACKETS.false (c.len.ensures ∙ full) in (
      subst (λ (packets : List Packet). HasRecords c.args.header.now packets c.args.records.now c.in-Some.record.rest.now) (sym pushed)
          (one_more _ c.loop-rest.packets _ _ _ _ c.loop-rest.invariant.0 c.in-Some.ensures.some),
      omega (arith, few, more, room),
    )
