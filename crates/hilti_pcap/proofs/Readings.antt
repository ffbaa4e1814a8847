-- What is read of bytes, as a function of them, is what stands there.
use Rattle.std.proofs.Common.{◌≡◌, ℕ, ◌+◌, ◌-◌, ◌*◌, ◌^◌, ◌<◌, ◌≤◌, zero, suc, Bool, true, false, List, [], ◌∷◌, ◌++◌, length, take, drop, refl, sym, ◌∙◌, ap, inl, inr, arith, length-drop}
use Rattle.std.proofs.lemmas.Bool.{and_from, and_left, and_right, le-leb, lt-leb, leb-true, lt-ltb, le-ltb, and_parts, cases_Bool, cond-true, cond-false}
use Rattle.std.proofs.lemmas.List.{take_at, drop_at, drop-drop}
use Rattle.std.proofs.lemmas.Nat.{from_le_bytes-to_le_bytes_4, from_be_bytes-to_be_bytes_4}
use Rattle.hilti_pcap.specs.declared.header.Header.{Header}
use Rattle.hilti_pcap.specs.declared.packet.Packet.{Packet}
use Rattle.hilti_pcap.specs.declared.record.Fields.{Fields}
use Rattle.hilti_pcap.specs.Headers.{number}
use Rattle.hilti_pcap.specs.Records.{Begins, HasRecord, HasRecords, IsPartial, IsTooLong, EndsRecords, nanoseconds}
use Rattle.hilti_pcap.specs.Readings.{number_in, fields_in, size_in, is_whole, is_too_long, packet_in, preceded, split_up_to, split, Reading, ending_with, reading_from}
use Rattle.hilti_pcap.proofs.Records.{number_length, beginning_length, record_length, behind_record}

number_known : (big : Bool) (n : ℕ) → n < 2 ^ 32 → number_in big (number big n) ≡ n
number_known true n h = from_be_bytes-to_be_bytes_4 n h
number_known false n h = from_le_bytes-to_le_bytes_4 n h

-- a number at the front, and what is behind it
at_front : (big : Bool) (n : ℕ) (l rest : List ℕ) → n < 2 ^ 32 → l ≡ number big n ++ rest → number_in big (take 4 l) ≡ n
at_front big n l rest h e = ap (λ x. number_in big (take 4 x)) e ∙ ap (number_in big) (take_at (number big n) rest 4 (number_length big n)) ∙ number_known big n h

past_front : (big : Bool) (n : ℕ) (l rest : List ℕ) → l ≡ number big n ++ rest → drop 4 l ≡ rest
past_front big n l rest e = ap (drop 4) e ∙ drop_at (number big n) rest 4 (number_length big n)

-- the fields that are read are those that stand there
pub record IsKnown (big : Bool) (f : Fields) (bytes behind : List ℕ) : Type 0 where
  pub fields : fields_in big bytes ≡ f
  pub left : drop 16 bytes ≡ behind

pub known : (big : Bool) (f : Fields) (bytes behind : List ℕ) → Begins big f bytes behind → IsKnown big f bytes behind
known big f bytes behind b =
    let d4 = past_front big f.seconds bytes _ b.spelled in
    let d8 = sym (drop-drop 4 4 bytes) ∙ past_front big f.fraction (drop 4 bytes) _ d4 in
    let d12 = sym (drop-drop 4 8 bytes) ∙ past_front big f.captured (drop 8 bytes) _ d8 in
    let d16 = sym (drop-drop 4 12 bytes) ∙ past_front big f.original (drop 12 bytes) behind d12 in
    let s = at_front big f.seconds bytes _ b.seconds_fit b.spelled in
    let t = at_front big f.fraction (drop 4 bytes) _ b.fraction_fits d4 in
    let c = at_front big f.captured (drop 8 bytes) _ b.captured_fits d8 in
    let o = at_front big f.original (drop 12 bytes) behind b.original_fits d12 in
    record {
      fields = λ i. record { seconds = s i; fraction = t i; captured = c i; original = o i };
      left = d16;
    }

-- the record at the front is found
pub record IsFound (h : Header) (p : Packet) (bytes behind : List ℕ) : Type 0 where
  pub whole : is_whole h bytes ≡ true
  pub packet : packet_in h bytes ≡ p
  pub left : drop (size_in h bytes) bytes ≡ behind

pub found : (h : Header) (p : Packet) (bytes behind : List ℕ) → HasRecord h p bytes behind → IsFound h p bytes behind
found h p bytes behind r =
    let k = known h.big r.fields bytes (p.bytes ++ behind) r.begins in
    let c : (fields_in h.big bytes).captured ≡ length p.bytes = ap (λ f. f.captured) k.fields ∙ r.captured in
    let short = r.short in
    let time : (packet_in h bytes).time ≡ p.time
    = ap (λ f. f.seconds * 1000000000 + nanoseconds h.nanos f.fraction) k.fields ∙ sym r.time in
    let captured : (packet_in h bytes).bytes ≡ p.bytes
    = ap (λ n. take n (drop 16 bytes)) c ∙ ap (take (length p.bytes)) k.left ∙ take_at p.bytes behind (length p.bytes) refl in
    record {
      whole = and_from _ _ (le-leb (size_in h bytes) (length bytes) (omega (arith, c, record_length h p bytes behind r)))
          (le-leb (size_in h bytes) 262160 (omega (arith, c, short)));
      packet = λ i. record { time = time i; bytes = captured i };
      left = ap (λ n. drop (16 + n) bytes) c ∙ sym (behind_record h p bytes behind r);
    }

-- where no record follows, none is found
pub none_found : (h : Header) (bytes : List ℕ) → EndsRecords h bytes → is_whole h bytes ≡ false
none_found h bytes (inl (inl short)) = and_left _ _ (lt-leb (size_in h bytes) (length bytes) (omega (arith, short)))
none_found h bytes (inl (inr cut)) =
    let k = known h.big cut.fields bytes cut.behind cut.begins in
    let lacks = cut.lacks in
    and_left _ _ (lt-leb (size_in h bytes) (length bytes)
    (omega (arith, ap (λ f. f.captured) k.fields, beginning_length h.big cut.fields bytes cut.behind cut.begins, lacks)))
none_found h bytes (inr (captured, long)) =
    let k = known h.big long.fields bytes long.behind long.begins in
    let is = long.captured_is in
    let above = long.long in
    and_right _ _ (lt-leb (size_in h bytes) 262160 (omega (arith, ap (λ f. f.captured) k.fields, is, above)))

pub long_found : (h : Header) (captured : ℕ) (bytes : List ℕ) → IsTooLong h captured bytes → is_too_long h bytes ≡ true
long_found h captured bytes long =
    let k = known h.big long.fields bytes long.behind long.begins in
    let is = long.captured_is in
    let above = long.long in
    and_from _ _ (le-leb 16 (length bytes) (omega (arith, beginning_length h.big long.fields bytes long.behind long.begins)))
    (lt-ltb 262144 (fields_in h.big bytes).captured (omega (arith, ap (λ f. f.captured) k.fields, is, above)))

pub not_long_found : (h : Header) (bytes : List ℕ) → IsPartial h bytes → is_too_long h bytes ≡ false
not_long_found h bytes (inl short) = and_left _ _ (lt-leb 16 (length bytes) short)
not_long_found h bytes (inr cut) =
    let k = known h.big cut.fields bytes cut.behind cut.begins in
    let short = cut.short in
    and_right _ _ (le-ltb 262144 (fields_in h.big bytes).captured (omega (arith, ap (λ f. f.captured) k.fields, short)))

-- more turns than bytes don't matter
whole_size : (h : Header) (bytes : List ℕ) → is_whole h bytes ≡ true → size_in h bytes ≤ length bytes
whole_size h bytes e = leb-true (size_in h bytes) (length bytes) (and_parts _ _ e).0

rest_shorter : (h : Header) (bytes : List ℕ) (n : ℕ) → length bytes ≤ suc n → is_whole h bytes ≡ true → length (drop (size_in h bytes) bytes) ≤ n
rest_shorter h bytes n l e = omega (arith, l, whole_size h bytes e, length-drop (size_in h bytes) bytes)

empty_ends : (h : Header) (bytes : List ℕ) → length bytes ≤ 0 → is_whole h bytes ≡ false
empty_ends h bytes l = and_left _ _ (lt-leb (size_in h bytes) (length bytes) (omega (arith, l)))

pub turns : (n m : ℕ) (h : Header) (bytes : List ℕ) → length bytes ≤ n → length bytes ≤ m → split_up_to n h bytes ≡ split_up_to m h bytes
unfolding split_up_to
turns zero zero h bytes l k = refl
turns zero (suc m) h bytes l k = sym (cond-false (is_whole h bytes) _ _ (empty_ends h bytes l))
turns (suc n) zero h bytes l k = cond-false (is_whole h bytes) _ _ (empty_ends h bytes k)
turns (suc n) (suc m) h bytes l k = elim (cases_Bool (is_whole h bytes)) [
  | inl e ↦ cond-true (is_whole h bytes) _ _ e
      ∙ ap (preceded (packet_in h bytes)) (turns n m h (drop (size_in h bytes) bytes) (rest_shorter h bytes n l e) (rest_shorter h bytes m k e))
      ∙ sym (cond-true (is_whole h bytes) _ _ e)
  | inr e ↦ cond-false (is_whole h bytes) _ _ e ∙ sym (cond-false (is_whole h bytes) _ _ e)
]

pub split_ended : (h : Header) (bytes : List ℕ) → EndsRecords h bytes → split h bytes ≡ record { packets = []; behind = bytes }
unfolding split_up_to
split_ended h bytes ends =
    turns (length bytes) (suc (length bytes)) h bytes (omega arith) (omega arith)
    ∙ cond-false (is_whole h bytes) _ _ (none_found h bytes ends)

pub split_first : (h : Header) (p : Packet) (bytes behind : List ℕ) → HasRecord h p bytes behind → split h bytes ≡ preceded p (split h behind)
unfolding split_up_to
split_first h p bytes behind r =
    let f = found h p bytes behind r in
    let shorter : length behind ≤ length bytes = omega (arith, record_length h p bytes behind r) in
    turns (length bytes) (suc (length bytes)) h bytes (omega arith) (omega arith)
    ∙ cond-true (is_whole h bytes) _ _ f.whole
    ∙ ap (λ q. preceded q (split_up_to (length bytes) h (drop (size_in h bytes) bytes))) f.packet
    ∙ ap (λ l. preceded p (split_up_to (length bytes) h l)) f.left
    ∙ ap (preceded p) (turns (length bytes) (length behind) h behind shorter (omega arith))

split_shorter : (n : ℕ) (h : Header) (bytes : List ℕ) → length (split_up_to n h bytes).behind ≤ length bytes
unfolding split_up_to
split_shorter zero h bytes = omega arith
split_shorter (suc n) h bytes = elim (cases_Bool (is_whole h bytes)) [
  | inl e ↦
      let same = ap (λ s. length s.behind) (cond-true (is_whole h bytes) (preceded (packet_in h bytes) (split_up_to n h (drop (size_in h bytes) bytes))) (record { packets = []; behind = bytes }) e) in
      omega (arith, same, split_shorter n h (drop (size_in h bytes) bytes), length-drop (size_in h bytes) bytes)
  | inr e ↦
      let same = ap (λ s. length s.behind) (cond-false (is_whole h bytes) (preceded (packet_in h bytes) (split_up_to n h (drop (size_in h bytes) bytes))) (record { packets = []; behind = bytes }) e) in
      omega (arith, same)
]

-- a packet before what is read
abbrev pub read_after : Packet → Reading → Reading
read_after packet reading = record { packets = packet ∷ reading.packets; ending = reading.ending }

pub reading_ended : (h : Header) (at : ℕ) (bytes : List ℕ) (larger : Bool) → EndsRecords h bytes
    → reading_from h at bytes larger ≡ record { packets = []; ending = ending_with h at bytes larger }
reading_ended h at bytes larger ends =
    let place : at + (length bytes - length bytes) ≡ at = omega arith in
    ap (λ s. record { packets = s.packets; ending = ending_with h (at + (length bytes - length s.behind)) s.behind larger }) (split_ended h bytes ends)
    ∙ ap (λ n. record { packets = []; ending = ending_with h n bytes larger }) place

pub reading_first : (h : Header) (at : ℕ) (p : Packet) (bytes behind : List ℕ) (larger : Bool) → HasRecord h p bytes behind
    → reading_from h at bytes larger ≡ read_after p (reading_from h (at + (16 + length p.bytes)) behind larger)
reading_first h at p bytes behind larger r =
    let place : at + (length bytes - length (split h behind).behind) ≡ at + (16 + length p.bytes) + (length behind - length (split h behind).behind)
    = omega (arith, record_length h p bytes behind r, split_shorter (length behind) h behind) in
    ap (λ s. record { packets = s.packets; ending = ending_with h (at + (length bytes - length s.behind)) s.behind larger }) (split_first h p bytes behind r)
    ∙ ap (λ n. record { packets = p ∷ (split h behind).packets; ending = ending_with h n (split h behind).behind larger }) place

records_shorter : (h : Header) (ps : List Packet) (bytes behind : List ℕ) → HasRecords h ps bytes behind → length behind ≤ length bytes
records_shorter h [] bytes behind r = omega (arith, ap length r)
records_shorter h (p ∷ ps) bytes behind r = omega (arith, record_length h p bytes r.0 r.1, records_shorter h ps r.0 behind r.2)

pub reading_of_records : (h : Header) (at : ℕ) (ps : List Packet) (bytes behind : List ℕ) (larger : Bool) → HasRecords h ps bytes behind
    → EndsRecords h behind → reading_from h at bytes larger
    ≡ record { packets = ps; ending = ending_with h (at + (length bytes - length behind)) behind larger }
reading_of_records h at [] bytes behind larger r ends =
    let place : at ≡ at + (length bytes - length behind) = omega (arith, ap length r) in
    ap (λ l. reading_from h at l larger) r ∙ reading_ended h at behind larger ends
    ∙ ap (λ n. record { packets = []; ending = ending_with h n behind larger }) place
reading_of_records h at (p ∷ ps) bytes behind larger r ends =
    let place : at + (16 + length p.bytes) + (length r.0 - length behind) ≡ at + (length bytes - length behind)
    = omega (arith, record_length h p bytes r.0 r.1, records_shorter h ps r.0 behind r.2) in
    reading_first h at p bytes r.0 larger r.1
    ∙ ap (read_after p) (reading_of_records h (at + (16 + length p.bytes)) ps r.0 behind larger r.2 ends)
    ∙ ap (λ n. record { packets = p ∷ ps; ending = ending_with h n behind larger }) place
