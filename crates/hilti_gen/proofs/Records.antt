-- Records of 66 bytes, one after another.
use Rattle.std.proofs.Common.{◌≡◌, ℕ, zero, suc, ◌+◌, ◌*◌, ◌<◌, List, ◌++◌, length, take, drop, sym, ap, ◌∙◌, append_assoc, append-nil, add-zero, length-append, arith}
use Rattle.std.specs.List.{flat_map, range_with_len}
use Rattle.std.proofs.lemmas.List.{drop_at, drop-drop, take_at}

-- one record more
pub records_more : (record_at : ℕ → List ℕ) (from count : ℕ)
    → flat_map record_at (range_with_len from (suc count))
    ≡ flat_map record_at (range_with_len from count) ++ record_at (from + count)
records_more record_at from zero = append-nil (record_at from) ∙ ap record_at (sym (add-zero from))
records_more record_at from (suc count) =
    let place : from + 1 + count ≡ from + suc count = omega arith in
    ap (λ l. record_at from ++ l) (records_more record_at (from + 1) count)
    ∙ ap (λ n. record_at from ++ (flat_map record_at (range_with_len (from + 1) count) ++ record_at n)) place
    ∙ sym (append_assoc (record_at from) (flat_map record_at (range_with_len (from + 1) count)) (record_at (from + suc count)))

pub length_of_records : (record_at : ℕ → List ℕ) → ((i : ℕ) → length (record_at i) ≡ 66) → (from count : ℕ)
    → length (flat_map record_at (range_with_len from count)) ≡ 66 * count
length_of_records record_at size from zero = omega arith
length_of_records record_at size from (suc count) =
    let front = size from in
    let others = length_of_records record_at size (from + 1) count in
    omega (arith, front, others, length-append (record_at from) (flat_map record_at (range_with_len (from + 1) count)))

-- what is behind a front of so many bytes
pub behind_front : (count more : ℕ) (front back : List ℕ) → length front ≡ count
    → drop (count + more) (front ++ back) ≡ drop more back
behind_front count more front back size =
    sym (drop-drop more count (front ++ back)) ∙ ap (drop more) (drop_at front back count size)

pub record_stands : (record_at : ℕ → List ℕ) → ((i : ℕ) → length (record_at i) ≡ 66) → (from count i : ℕ)
    → i < count → take 66 (drop (66 * i) (flat_map record_at (range_with_len from count))) ≡ record_at (from + i)
record_stands record_at size from zero i within = absurd (omega (arith, within))
record_stands record_at size from (suc count) zero within =
    take_at (record_at from) (flat_map record_at (range_with_len (from + 1) count)) 66 (size from)
    ∙ ap record_at (sym (add-zero from))
record_stands record_at size from (suc count) (suc i) within =
    let others : List ℕ = flat_map record_at (range_with_len (from + 1) count) in
    let bytes : 66 * suc i ≡ 66 + 66 * i = omega arith in
    let place : from + 1 + i ≡ from + suc i = omega arith in
    let later : i < count = omega (arith, within) in
    ap (λ n. take 66 (drop n (record_at from ++ others))) bytes
    ∙ ap (take 66) (behind_front 66 (66 * i) (record_at from) others (size from))
    ∙ record_stands record_at size (from + 1) count i later
    ∙ ap record_at place
