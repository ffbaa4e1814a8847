-- Captures that are made of a seed, by their records.
use Rattle.std.proofs.Common.{◌≡◌, ℕ, suc, ◌+◌, ◌*◌, ◌/◌, ◌%◌, ◌^◌, ◌<◌, List, ◌++◌, length, take, drop, refl, sym, ap, ◌∙◌, append_assoc, length-append, add-one, arith}
use Rattle.std.specs.List.{flat_map, range_with_len}
use Rattle.hilti_gen.specs.Generator.{capture_of, flow, frame, header, record_header, record_of, state, step}
use Rattle.hilti_gen.proofs.Joins.{two_pieces}
use Rattle.hilti_gen.proofs.Records.{behind_front, length_of_records, record_stands, records_more}

length_of_header : length header ≡ 24
unfolding header
length_of_header = refl

length_of_record : (seed flows i : ℕ) → length (record_of seed flows i) ≡ 66
unfolding record_header frame
length_of_record seed flows i = refl

pub length_of_capture : (seed packets flows : ℕ) → length (capture_of seed packets flows) ≡ 24 + 66 * packets
unfolding capture_of
length_of_capture seed packets flows =
    let records : List ℕ = flat_map (record_of seed flows) (range_with_len 0 packets) in
    let front = length_of_header in
    let others = length_of_records (record_of seed flows) (length_of_record seed flows) 0 packets in
    omega (arith, front, others, length-append header records)

pub record_at_place : (seed packets flows i : ℕ) → i < packets
    → take 66 (drop (24 + 66 * i) (capture_of seed packets flows)) ≡ record_of seed flows i
unfolding capture_of
record_at_place seed packets flows i within =
    let records : List ℕ = flat_map (record_of seed flows) (range_with_len 0 packets) in
    let place : 0 + i ≡ i = omega arith in
    ap (take 66) (behind_front 24 (66 * i) header records length_of_header)
    ∙ record_stands (record_of seed flows) (length_of_record seed flows) 0 packets i within
    ∙ ap (record_of seed flows) place

-- the state of the packet behind another
pub state_more : (seed i x : ℕ) → state seed i ≡ step x → (y : ℕ) → y ≡ step x → state seed (i + 1) ≡ step y
state_more seed i x now y next = ap (state seed) (add-one i) ∙ ap step (now ∙ sym next)

-- the header and the records of so many packets
abbrev pub written : ℕ → ℕ → ℕ → List ℕ
written seed flows count = header ++ flat_map (record_of seed flows) (range_with_len 0 count)

pub written_more : (seed flows i x f : ℕ) (before between after : List ℕ) → before ≡ written seed flows i
    → x ≡ state seed i → f ≡ x / 2 ^ 33 % flows → between ≡ before ++ record_header i → after ≡ between ++ frame f i
    → after ≡ written seed flows (i + 1)
written_more seed flows i x f before between after so_far now value first second =
    let records : List ℕ = flat_map (record_of seed flows) (range_with_len 0 i) in
    let is_flow : f ≡ flow seed flows i = value ∙ ap (λ n. n / 2 ^ 33 % flows) now in
    let place : 0 + i ≡ i = omega arith in
    let more : flat_map (record_of seed flows) (range_with_len 0 (suc i)) ≡ records ++ record_of seed flows i
    = records_more (record_of seed flows) 0 i ∙ ap (λ n. records ++ record_of seed flows n) place in
    two_pieces before between after (record_header i) (frame f i) first second
    ∙ ap (λ l. l ++ (record_header i ++ frame f i)) so_far
    ∙ ap (λ n. written seed flows i ++ (record_header i ++ frame n i)) is_flow
    ∙ append_assoc header records (record_of seed flows i)
    ∙ ap (λ l. header ++ l) (sym more)
    ∙ ap (written seed flows) (sym (add-one i))
