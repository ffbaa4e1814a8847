-- Captures that are read whole.
use Rattle.std.proofs.Common.{◌≡◌, ◌≢◌, ℕ, ◌≤◌, Bool, false, List, [], ◌++◌, length, sym, ◌∙◌, ap, subst, inl, arith, eqb}
use Rattle.std.proofs.lemmas.Bool.{eq-eqb}
use Rattle.hilti_pcap.specs.declared.header.Header.{Header}
use Rattle.hilti_pcap.specs.declared.packet.Packet.{Packet}
use Rattle.hilti_pcap.specs.Headers.{number}
use Rattle.hilti_pcap.specs.Records.{HasRecords, EndsRecords}
use Rattle.hilti_pcap.specs.Capture.{HasPackets, IsPlainHeader}
use Rattle.hilti_pcap.proofs.Records.{same_front, same_number, more_of, not_ended, one_list}

-- whether anything is left, from the test
pub some_left : (rest : List ℕ) (test : Bool) → test ≡ eqb (length rest) 0 → test ≡ false → rest ≢ []
some_left rest test e filled h = let tested = eq-eqb (length rest) 0 (ap length h) in cc

-- as many packets as may be were read, and more are left
pub too_many : (h : Header) (ps all : List Packet) (bytes left : List ℕ) (n : ℕ) → left ≢ [] → HasRecords h ps bytes left
    → n ≡ length ps → n ≡ 1000000 → HasRecords h all bytes [] → ¬ (length all ≤ 1000000)
too_many h ps all bytes left n some r e full s few =
    let longer = (more_of h ps all bytes left some r s).longer in
    absurd (omega (arith, longer, e, full, few))

-- no record stands where records are left
pub no_record : (h : Header) (ps all : List Packet) (bytes left : List ℕ) → left ≢ [] → HasRecords h ps bytes left
    → EndsRecords h left → HasRecords h all bytes [] → ⊥
no_record h ps all bytes left some r ends s =
    let m = more_of h ps all bytes left some r s in
    not_ended h m.packet left m.behind m.there ends

-- two plain headers of the same bytes say the same
one_plain : (h h' : Header) (bytes : List ℕ) → IsPlainHeader h bytes → IsPlainHeader h' bytes → h ≡ h'
one_plain h h' bytes p q =
    let big : h.big ≡ h'.big = p.little ∙ sym q.little in
    let nanos : h.nanos ≡ h'.nanos = p.micros ∙ sym q.micros in
    let network : h.network ≡ h'.network = same_number h.big h.network h'.network p.begun.fits q.begun.fits
    (sym p.begun.network ∙ q.begun.network ∙ ap (λ b. number b h'.network) (sym big)) in
    (λ i. record { big = big i; nanos = nanos i; network = network i })

-- the header and the bytes behind it are determined
pub record IsSame (h h' : Header) (records records' : List ℕ) : Type 0 where
  pub headers : h ≡ h'
  pub behind : records ≡ records'

pub one_split : (capture front front' records records' : List ℕ) (h h' : Header) → capture ≡ front ++ records → IsPlainHeader h front
    → capture ≡ front' ++ records' → IsPlainHeader h' front' → IsSame h h' records records'
one_split capture front front' records records' h h' e p e' p' =
    let parts = same_front 24 front front' records records' p.begun.whole p'.begun.whole (sym e ∙ e') in
    record {
      headers = one_plain h h' front p (subst (λ (l : List ℕ). IsPlainHeader h' l) (sym parts.0) p');
      behind = parts.1;
    }

-- the packets are read behind the header that was split off
pub behind_split : (capture front records : List ℕ) (h : Header) (packets : List Packet) → capture ≡ front ++ records → IsPlainHeader h front
    → HasPackets capture packets → HasRecords h packets records []
behind_split capture front records h packets e p has =
    let same = one_split capture front has.front records has.records h has.header e p has.parts has.begun in
    subst (λ (l : List ℕ). HasRecords h packets l []) (sym same.behind)
    (subst (λ (x : Header). HasRecords x packets has.records []) (sym same.headers) has.read)

pub one_reading : (capture : List ℕ) (packets others : List Packet) → HasPackets capture packets → HasPackets capture others → packets ≡ others
one_reading capture packets others has has' =
    let there = behind_split capture has.front has.records has.header others has.parts has.begun has' in
    (one_list has.header packets others has.records [] [] has.read (inl (inl (omega arith))) there (inl (inl (omega arith)))).0
