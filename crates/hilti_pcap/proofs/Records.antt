-- What stands at the front of some bytes is determined by them.
use Rattle.std.proofs.Common.{◌≡◌, ◌≢◌, ℕ, ◌+◌, ◌*◌, ◌^◌, ◌<◌, ◌≤◌, Bool, true, false, List, [], ◌∷◌, ◌++◌, length, take, drop, refl, sym, ◌∙◌, ap, subst, inl, inr, arith, append_assoc}
use Rattle.std.proofs.lemmas.List.{take_at, drop_at, drop-drop, length-append}
use Rattle.std.proofs.lemmas.Nat.{from_le_bytes-to_le_bytes_4, from_be_bytes-to_be_bytes_4}
use Rattle.std.specs.Int.{from_le_bytes, from_be_bytes, w32}
use Rattle.hilti_pcap.specs.declared.header.Header.{Header}
use Rattle.hilti_pcap.specs.declared.packet.Packet.{Packet}
use Rattle.hilti_pcap.specs.declared.record.Fields.{Fields}
use Rattle.hilti_pcap.specs.Headers.{number}
use Rattle.hilti_pcap.specs.Records.{Begins, HasRecord, HasRecords, IsTooLong, IsPartial, EndsRecords, nanoseconds}

-- fronts of one length
pub same_front : (n : ℕ) (front front' rest rest' : List ℕ) → length front ≡ n → length front' ≡ n
    → front ++ rest ≡ front' ++ rest' → (front ≡ front') × (rest ≡ rest')
same_front n front front' rest rest' l l' e = (
  sym (take_at front rest n l) ∙ ap (take n) e ∙ take_at front' rest' n l',
  sym (drop_at front rest n l) ∙ ap (drop n) e ∙ drop_at front' rest' n l',
)

pub number_length : (big : Bool) (n : ℕ) → length (number big n) ≡ 4
number_length true n = refl
number_length false n = refl

-- a number of four bytes is determined by them
pub same_number : (big : Bool) (n m : ℕ) → n < 2 ^ 32 → m < 2 ^ 32 → number big n ≡ number big m → n ≡ m
same_number true n m h k e = sym (from_be_bytes-to_be_bytes_4 n h) ∙ ap (from_be_bytes w32) e ∙ from_be_bytes-to_be_bytes_4 m k
same_number false n m h k e = sym (from_le_bytes-to_le_bytes_4 n h) ∙ ap (from_le_bytes w32) e ∙ from_le_bytes-to_le_bytes_4 m k

peel : (big : Bool) (n m : ℕ) (rest rest' : List ℕ) → n < 2 ^ 32 → m < 2 ^ 32
    → number big n ++ rest ≡ number big m ++ rest' → (n ≡ m) × (rest ≡ rest')
peel big n m rest rest' h k e =
    let same = same_front 4 (number big n) (number big m) rest rest' (number_length big n) (number_length big m) e in
    (same_number big n m h k same.0, same.1)

pub one_beginning : (big : Bool) (f f' : Fields) (bytes behind behind' : List ℕ)
    → Begins big f bytes behind → Begins big f' bytes behind' → (f ≡ f') × (behind ≡ behind')
one_beginning big f f' bytes behind behind' b b' =
    let s = peel big f.seconds f'.seconds _ _ b.seconds_fit b'.seconds_fit (sym b.spelled ∙ b'.spelled) in
    let t = peel big f.fraction f'.fraction _ _ b.fraction_fits b'.fraction_fits s.1 in
    let c = peel big f.captured f'.captured _ _ b.captured_fits b'.captured_fits t.1 in
    let o = peel big f.original f'.original _ _ b.original_fits b'.original_fits c.1 in
    let s0 = s.0 in
    let t0 = t.0 in
    let c0 = c.0 in
    let o0 = o.0 in
    ((λ i. record { seconds = s0 i; fraction = t0 i; captured = c0 i; original = o0 i }), o.1)

pub beginning_length : (big : Bool) (f : Fields) (bytes behind : List ℕ) → Begins big f bytes behind → length bytes ≡ 16 + length behind
beginning_length big f bytes behind b = omega (
  arith,
  ap length b.spelled,
  number_length big f.seconds,
  number_length big f.fraction,
  number_length big f.captured,
  number_length big f.original,
  length-append (number big f.seconds) (number big f.fraction ++ (number big f.captured ++ (number big f.original ++ behind))),
  length-append (number big f.fraction) (number big f.captured ++ (number big f.original ++ behind)),
  length-append (number big f.captured) (number big f.original ++ behind),
  length-append (number big f.original) behind,
)

-- a record has 16 bytes before those that it captured
pub record_length : (h : Header) (p : Packet) (bytes behind : List ℕ) → HasRecord h p bytes behind
    → length bytes ≡ 16 + length p.bytes + length behind
record_length h p bytes behind r = omega (arith, beginning_length h.big r.fields bytes (p.bytes ++ behind) r.begins, length-append p.bytes behind)

pub one_record : (h : Header) (p p' : Packet) (bytes behind behind' : List ℕ)
    → HasRecord h p bytes behind → HasRecord h p' bytes behind' → (p ≡ p') × (behind ≡ behind')
one_record h p p' bytes behind behind' r r' =
    let same = one_beginning h.big r.fields r'.fields bytes _ _ r.begins r'.begins in
    let longs : length p.bytes ≡ length p'.bytes = sym r.captured ∙ ap (λ f. f.captured) same.0 ∙ r'.captured in
    let parts = same_front (length p.bytes) p.bytes p'.bytes behind behind' refl (sym longs) same.1 in
    let times : p.time ≡ p'.time = r.time
    ∙ ap (λ f. f.seconds * 1000000000 + nanoseconds h.nanos f.fraction) same.0 ∙ sym r'.time in
    let parts0 = parts.0 in
    ((λ i. record { time = times i; bytes = parts0 i }), parts.1)

pub not_partial : (h : Header) (p : Packet) (bytes behind : List ℕ) → HasRecord h p bytes behind → IsPartial h bytes → ⊥
not_partial h p bytes behind r (inl short) = absurd (omega (arith, short, record_length h p bytes behind r))
not_partial h p bytes behind r (inr cut) =
    let same = one_beginning h.big r.fields cut.fields bytes _ _ r.begins cut.begins in
    absurd (omega (arith, r.captured, ap (λ f. f.captured) same.0, ap length same.1, length-append p.bytes behind, cut.lacks))

pub not_long : (h : Header) (p : Packet) (captured : ℕ) (bytes behind : List ℕ) → HasRecord h p bytes behind → IsTooLong h captured bytes → ⊥
not_long h p captured bytes behind r l =
    let same = one_beginning h.big r.fields l.fields bytes _ _ r.begins l.begins in
    absurd (omega (arith, r.captured, ap (λ f. f.captured) same.0, l.captured_is, l.long, r.short))

pub partial_not_long : (h : Header) (captured : ℕ) (bytes : List ℕ) → IsPartial h bytes → IsTooLong h captured bytes → ⊥
partial_not_long h captured bytes (inl short) l = absurd (omega (arith, short, beginning_length h.big l.fields bytes l.behind l.begins))
partial_not_long h captured bytes (inr cut) l =
    let same = one_beginning h.big cut.fields l.fields bytes _ _ cut.begins l.begins in
    absurd (omega (arith, cut.short, ap (λ f. f.captured) same.0, l.captured_is, l.long))

pub not_ended : (h : Header) (p : Packet) (bytes behind : List ℕ) → HasRecord h p bytes behind → EndsRecords h bytes → ⊥
not_ended h p bytes behind r (inl partial) = not_partial h p bytes behind r partial
not_ended h p bytes behind r (inr long) = not_long h p long.0 bytes behind r long.1

-- records that follow records
pub joined : (h : Header) (ps qs : List Packet) (bytes between behind : List ℕ)
    → HasRecords h ps bytes between → HasRecords h qs between behind → HasRecords h (ps ++ qs) bytes behind
joined h [] qs bytes between behind r s = subst (λ (l : List ℕ). HasRecords h qs l behind) (sym r) s
joined h (p ∷ ps) qs bytes between behind r s = (r.0, r.1, joined h ps qs r.0 between behind r.2 s)

pub one_more : (h : Header) (ps : List Packet) (p : Packet) (bytes between behind : List ℕ)
    → HasRecords h ps bytes between → HasRecord h p between behind → HasRecords h (ps ++ p ∷ []) bytes behind
one_more h ps p bytes between behind r s = joined h ps (p ∷ []) bytes between behind r (behind, s, refl)

-- records are at the front of more bytes too
append_behind : (a b c d r m : List ℕ) → (a ++ (b ++ (c ++ (d ++ r)))) ++ m ≡ a ++ (b ++ (c ++ (d ++ (r ++ m))))
append_behind a b c d r m = append_assoc a _ m ∙ ap (λ l. a ++ l) (append_assoc b _ m ∙ ap (λ l. b ++ l) (append_assoc c _ m ∙ ap (λ l. c ++ l) (append_assoc d r m)))

pub beginning_before : (big : Bool) (f : Fields) (bytes behind more : List ℕ) → Begins big f bytes behind → Begins big f (bytes ++ more) (behind ++ more)
beginning_before big f bytes behind more b = record {
  seconds_fit = b.seconds_fit;
  fraction_fits = b.fraction_fits;
  captured_fits = b.captured_fits;
  original_fits = b.original_fits;
  spelled = ap (λ l. l ++ more) b.spelled ∙ append_behind (number big f.seconds) (number big f.fraction) (number big f.captured) (number big f.original) behind more;
}

pub record_before : (h : Header) (p : Packet) (bytes behind more : List ℕ) → HasRecord h p bytes behind → HasRecord h p (bytes ++ more) (behind ++ more)
record_before h p bytes behind more r = record {
  fields = r.fields;
  begins = subst (λ (l : List ℕ). Begins h.big r.fields (bytes ++ more) l) (append_assoc p.bytes behind more)
      (beginning_before h.big r.fields bytes (p.bytes ++ behind) more r.begins);
  captured = r.captured;
  time = r.time;
  short = r.short;
}

-- more records than these, where something is left behind them
pub record IsMore (h : Header) (ps all : List Packet) (left : List ℕ) : Type 0 where
  pub packet : Packet
  pub behind : List ℕ
  pub there : HasRecord h packet left behind
  pub longer : length ps + 1 ≤ length all

not_empty : (h : Header) (p : Packet) (bytes behind : List ℕ) → bytes ≡ [] → HasRecord h p bytes behind → ⊥
not_empty h p bytes behind e r = absurd (omega (arith, ap length e, record_length h p bytes behind r))

pub more_of : (h : Header) (ps all : List Packet) (bytes left : List ℕ) → left ≢ [] → HasRecords h ps bytes left
    → HasRecords h all bytes [] → IsMore h ps all left
more_of h [] [] bytes left some r s = absurd (some (sym r ∙ s))
more_of h [] (q ∷ qs) bytes left some r s = record {
  packet = q;
  behind = s.0;
  there = subst (λ (l : List ℕ). HasRecord h q l s.0) r s.1;
  longer = omega arith;
}
more_of h (p ∷ ps) [] bytes left some r s = absurd (not_empty h p bytes r.0 s r.1)
more_of h (p ∷ ps) (q ∷ qs) bytes left some r s =
    let same = one_record h p q bytes r.0 s.0 r.1 s.1 in
    let m = more_of h ps qs r.0 left some r.2 (subst (λ (l : List ℕ). HasRecords h qs l []) (sym same.1) s.2) in
    let longer = m.longer in
    record { packet = m.packet; behind = m.behind; there = m.there; longer = omega (arith, longer) }

-- the records up to where none follows are determined
pub one_list : (h : Header) (ps qs : List Packet) (bytes behind behind' : List ℕ) → HasRecords h ps bytes behind → EndsRecords h behind
    → HasRecords h qs bytes behind' → EndsRecords h behind' → (ps ≡ qs) × (behind ≡ behind')
one_list h [] [] bytes behind behind' r e s f = (refl, sym r ∙ s)
one_list h [] (q ∷ qs) bytes behind behind' r e s f = absurd (not_ended h q behind s.0 (subst (λ (l : List ℕ). HasRecord h q l s.0) r s.1) e)
one_list h (p ∷ ps) [] bytes behind behind' r e s f = absurd (not_ended h p behind' r.0 (subst (λ (l : List ℕ). HasRecord h p l r.0) s r.1) f)
one_list h (p ∷ ps) (q ∷ qs) bytes behind behind' r e s f =
    let same = one_record h p q bytes r.0 s.0 r.1 s.1 in
    let rest = one_list h ps qs r.0 behind behind' r.2 e (subst (λ (l : List ℕ). HasRecords h qs l behind') (sym same.1) s.2) f in
    ((ap (λ x. x ∷ ps) same.0 ∙ ap (λ l. q ∷ l) rest.0), rest.1)

-- what stands behind the record at the front
pub behind_record : (h : Header) (p : Packet) (bytes behind : List ℕ) → HasRecord h p bytes behind → behind ≡ drop (16 + length p.bytes) bytes
behind_record h p bytes behind r =
    let f = r.fields in
    let b = r.begins in
    let front = number h.big f.seconds ++ (number h.big f.fraction ++ (number h.big f.captured ++ (number h.big f.original ++ p.bytes))) in
    let whole : bytes ≡ front ++ behind
    = b.spelled ∙ sym (append_behind (number h.big f.seconds) (number h.big f.fraction) (number h.big f.captured) (number h.big f.original) p.bytes behind) in
    let long : length front ≡ 16 + length p.bytes = omega (
      arith,
      number_length h.big f.seconds,
      number_length h.big f.fraction,
      number_length h.big f.captured,
      number_length h.big f.original,
      length-append (number h.big f.seconds) (number h.big f.fraction ++ (number h.big f.captured ++ (number h.big f.original ++ p.bytes))),
      length-append (number h.big f.fraction) (number h.big f.captured ++ (number h.big f.original ++ p.bytes)),
      length-append (number h.big f.captured) (number h.big f.original ++ p.bytes),
      length-append (number h.big f.original) p.bytes,
    ) in
    sym (drop_at front behind (16 + length p.bytes) long) ∙ ap (drop (16 + length p.bytes)) (sym whole)

-- a record that is taken from the bytes that are held behind those that were given
pub taken : (h h' : Header) (time given : ℕ) (items held slice bytes kept rest : List ℕ) → h ≡ h' → slice ≡ held
    → drop given items ≡ held → kept ≡ bytes → HasRecord h (record { time = time; bytes = bytes }) slice rest
    → HasRecord h' (record { time = time; bytes = kept }) held (drop (given + (16 + length bytes)) items)
taken h h' time given items held slice bytes kept rest same s d k r =
    let there : HasRecord h' (record { time = time; bytes = bytes }) held rest
    = subst (λ (x : Header). HasRecord x (record { time = time; bytes = bytes }) held rest) same
    (subst (λ (l : List ℕ). HasRecord h (record { time = time; bytes = bytes }) l rest) s r) in
    let behind : rest ≡ drop (given + (16 + length bytes)) items
    = behind_record h' (record { time = time; bytes = bytes }) held rest there
    ∙ ap (drop (16 + length bytes)) (sym d) ∙ drop-drop (16 + length bytes) given items in
    subst (λ (l : List ℕ). HasRecord h' (record { time = time; bytes = l }) held (drop (given + (16 + length bytes)) items)) (sym k)
    (subst (λ (l : List ℕ). HasRecord h' (record { time = time; bytes = bytes }) held l) behind there)
