-- Groups of hexadecimal digits, one after another.
use Rattle.std.proofs.Common.{◌≡◌, ◌≢◌, ℕ, zero, suc, ◌+◌, ◌-◌, ◌*◌, ◌^◌, ◌<◌, ◌≤◌, List, [], ◌∷◌, ◌++◌, length, refl, sym, ap, ◌∙◌, subst, arith, append_assoc, inl, inr}
use Rattle.std.specs.Prelude.{replicate, Option, Some, None, IfSome, SomeIff}
use Rattle.std.specs.Char.{digit_value}
use Rattle.std.specs.Str.Parse.{AllDigits, digits_value}
use Rattle.std.proofs.Math.Nat.{mul-le-mul_right, one-le-pow, pow-le-pow_right}
use Rattle.std.proofs.lemmas.Bool.{cases_lt}
use Rattle.std.proofs.lemmas.Int.Digits.{digits_value-lt}
use Rattle.std.proofs.lemmas.List.{length-append, length-replicate}
use Rattle.std.proofs.lemmas.List.Elements.{All-nil}
use Rattle.std.proofs.lemmas.Nat.{pow-add}
use Rattle.hilti_base.specs.Numerals.{IsSplit, Lacks}
use Rattle.hilti_base.proofs.Splits.{longer_lacks, nowhere, one_split}
use Rattle.hilti_addr.specs.declared.brackets.Groups.{Groups}
use Rattle.hilti_addr.specs.Brackets.{AreGroups, AreJoined, IsGroup, filled, number_of}
use Rattle.hilti_addr.specs.Groups.{AreCounted, HasGroups, one_more}

-- a byte that is no hexadecimal digit stands in no group
hex_is_other : (byte c : ℕ) → 16 ≤ digit_value byte → digit_value c < 16 → c ≢ byte
hex_is_other byte c high digit same =
    let P : ℕ → Type 0 = λ d. digit_value d < 16 in
    let low : digit_value byte < 16 = subst P same digit in
    omega (arith, low, high)

hex_lack : (byte : ℕ) (text : List ℕ) → 16 ≤ digit_value byte → AllDigits 16 text → Lacks byte text
hex_lack byte [] high digits = All-nil (λ c. c ≢ byte)
hex_lack byte (c ∷ cs) high digits =
    longer_lacks byte c cs (hex_is_other byte c high digits.0) (hex_lack byte cs high digits.1)

pub group_lacks : (text : List ℕ) (n : ℕ) → IsGroup text n → Lacks 58 text
group_lacks text n is = let high : 16 ≤ digit_value 58 = omega arith in hex_lack 58 text high is.digits.1

pub group_has_no_slash : (text : List ℕ) (n : ℕ) → IsGroup text n → Lacks 47 text
group_has_no_slash text n is = let high : 16 ≤ digit_value 47 = omega arith in hex_lack 47 text high is.digits.1

one_group : (text : List ℕ) (n m : ℕ) → IsGroup text n → IsGroup text m → n ≡ m
one_group text n m is other = is.value ∙ sym other.value

-- four digits write a number of 16 bits
pub digits_small : (text : List ℕ) → AllDigits 16 text → length text ≤ 4 → digits_value 16 text < 65536
digits_small text digits short =
    let some : 0 < 16 = omega arith in
    let below = digits_value-lt 16 text digits in
    let most : 16 ^ length text ≤ 16 ^ 4 = pow-le-pow_right {n = 16} some {i = length text} {j = 4} short in
    let whole : 16 ^ 4 ≡ 65536 = refl in
    omega (arith, below, most, whole)

pub group_small : (text : List ℕ) (n : ℕ) → IsGroup text n → n < 65536
group_small text n is = let value = is.value in omega (arith, value, digits_small text is.digits.1 is.short)

-- the number of groups behind others
pub number_append : (xs ys : List ℕ) → number_of (xs ++ ys) ≡ number_of xs * 65536 ^ length ys + number_of ys
number_append [] ys = omega arith
number_append (x ∷ xs) ys =
    let power : 65536 ^ length (xs ++ ys) ≡ 65536 ^ length xs * 65536 ^ length ys
    = ap (λ n. 65536 ^ n) (length-append xs ys) ∙ pow-add 65536 (length xs) (length ys) in
    let scaled : x * 65536 ^ length (xs ++ ys) ≡ x * (65536 ^ length xs * 65536 ^ length ys) = ap (λ p. x * p) power in
    omega (arith, scaled, number_append xs ys)

number_snoc : (xs : List ℕ) (n : ℕ) → number_of (xs ++ n ∷ []) ≡ number_of xs * 65536 + n
number_snoc xs n = omega (arith, number_append xs (n ∷ []))

zeros_number : (z : ℕ) → number_of (replicate z 0) ≡ 0
zeros_number zero = refl
zeros_number (suc z) = omega (arith, zeros_number z)

filled_by : (before after : List ℕ) (b a : Groups) (z : ℕ) → AreCounted before b → AreCounted after a → b.count + a.count ≤ 7
    → z ≡ 8 - (length before + length after)
    → number_of (before ++ (replicate z 0 ++ after)) ≡ b.number * 65536 ^ (8 - b.count) + a.number
filled_by before after b a z at_before at_after few zeros =
    let first = number_append before (replicate z 0 ++ after) in
    let second = number_append (replicate z 0) after in
    let none : number_of (replicate z 0) * 65536 ^ length after ≡ 0 * 65536 ^ length after
    = ap (λ n. n * 65536 ^ length after) (zeros_number z) in
    let count = at_before.count_is in
    let other_count = at_after.count_is in
    let zeros_long : length (replicate z 0) ≡ z = let nought : ℕ = 0 in length-replicate z nought in
    let long : length (replicate z 0 ++ after) ≡ 8 - b.count
    = omega (arith, length-append (replicate z 0) after, zeros_long, count, other_count, few, zeros) in
    let power : number_of before * 65536 ^ length (replicate z 0 ++ after) ≡ b.number * 65536 ^ (8 - b.count)
    = ap (λ k. number_of before * 65536 ^ k) long ∙ ap (λ n. n * 65536 ^ (8 - b.count)) (sym at_before.number_is) in
    let behind = at_after.number_is in
    omega (arith, first, second, none, power, behind)

-- the number of the groups before a `::` and after it
pub filled_number : (before after : List ℕ) (b a : Groups) → AreCounted before b → AreCounted after a → b.count + a.count ≤ 7
    → number_of (filled before after) ≡ b.number * 65536 ^ (8 - b.count) + a.number
filled_number before after b a at_before at_after few =
    filled_by before after b a (8 - (length before + length after)) at_before at_after few refl

-- what fits an address
pub room_for_one : (groups : Groups) → groups.number < 65536 ^ groups.count → groups.count < 8 → groups.number < 2 ^ 112
room_for_one groups small few =
    let some : 0 < 65536 = omega arith in
    let seven : groups.count ≤ 7 = omega arith in
    let most : 65536 ^ groups.count ≤ 65536 ^ 7 = pow-le-pow_right {n = 65536} some {i = groups.count} {j = 7} seven in
    let whole : 65536 ^ 7 ≡ 2 ^ 112 = refl in
    omega (arith, small, most, whole)

pub first_fits : (number count : ℕ) → number < 65536 ^ count → count ≤ 8
    → number * 65536 ^ (8 - count) + 65536 ^ (8 - count) ≤ 2 ^ 128
first_fits number count small few =
    let whole : 65536 ^ count * 65536 ^ (8 - count) ≡ 65536 ^ (count + (8 - count)) = sym (pow-add 65536 count (8 - count)) in
    let eight : count + (8 - count) ≡ 8 = omega (arith, few) in
    let all : 65536 ^ (count + (8 - count)) ≡ 65536 ^ 8 = ap (λ k. 65536 ^ k) eight in
    let power : 65536 ^ 8 ≡ 2 ^ 128 = refl in
    let next : number + 1 ≤ 65536 ^ count = omega (arith, small) in
    let more : (number + 1) * 65536 ^ (8 - count) ≤ 65536 ^ count * 65536 ^ (8 - count)
    = mul-le-mul_right {m = number + 1} {n = 65536 ^ count} (65536 ^ (8 - count)) next in
    omega (arith, whole, all, power, more)

pub power_fits : (count : ℕ) → count ≢ 0 → 65536 ^ (8 - count) < 2 ^ 128
power_fits count some =
    let base : 0 < 65536 = omega arith in
    let seven : 8 - count ≤ 7 = omega (arith, some) in
    let most : 65536 ^ (8 - count) ≤ 65536 ^ 7 = pow-le-pow_right {n = 65536} base {i = 8 - count} {j = 7} seven in
    let whole : 65536 ^ 7 ≡ 2 ^ 112 = refl in
    omega (arith, most, whole)

pub product_fits : (number count power : ℕ) → number < 65536 ^ count → count ≤ 8 → power ≡ 65536 ^ (8 - count)
    → number * power < 2 ^ 128
product_fits number count power small few e =
    let some : 1 ≤ 65536 ^ (8 - count) = one-le-pow (8 - count) 65536 (omega arith) in
    let same : number * power ≡ number * 65536 ^ (8 - count) = ap (λ p. number * p) e in
    omega (arith, some, same, first_fits number count small few)

pub both_fit : (before after : Groups) → before.number < 65536 ^ before.count → after.number < 65536 ^ after.count
    → before.count + after.count ≤ 7 → before.number * 65536 ^ (8 - before.count) + after.number < 2 ^ 128
both_fit before after small behind few =
    let some : 0 < 65536 = omega arith in
    let room : after.count ≤ 8 - before.count = omega (arith, few) in
    let most : 65536 ^ after.count ≤ 65536 ^ (8 - before.count)
    = pow-le-pow_right {n = 65536} some {i = after.count} {j = 8 - before.count} room in
    let within : before.count ≤ 8 = omega (arith, few) in
    omega (arith, behind, most, first_fits before.number before.count small within)

-- with one more group
counted_more : (list : List ℕ) (groups : Groups) (n : ℕ) → AreCounted list groups → groups.count < 8 → n < 65536
    → AreCounted (list ++ n ∷ []) (one_more groups n)
counted_more list groups n counted room low =
    let number = counted.number_is in
    let count = counted.count_is in
    let small = counted.small in
    let power : 65536 ^ (groups.count + 1) ≡ 65536 ^ groups.count * 65536 = pow-add 65536 groups.count 1 in
    record {
      number_is = omega (arith, number, number_snoc list n);
      count_is = omega (arith, count, length-append list (n ∷ []));
      small = omega (arith, small, power, low);
      few = omega (arith, room);
    }

-- the groups that stand before the rest of a text, whatever groups the rest has
pub record Follows (text rest : List ℕ) (groups : Groups) : Type 0 where
  pub read : List ℕ
  pub counted : AreCounted read groups
  pub whole : (first : ℕ) (others : List ℕ) → AreJoined rest first others → AreGroups text (read ++ first ∷ others)
  pub only : (list : List ℕ) → AreGroups text list
      → (first : ℕ) × (others : List ℕ) × AreJoined rest first others × (list ≡ read ++ first ∷ others)

none_counted : AreCounted [] (record { number = 0; count = 0 })
none_counted = record { number_is = refl; count_is = refl; small = omega arith; few = omega arith }

pub nothing_read : (text : List ℕ) → text ≡ [] → HasGroups text (record { number = 0; count = 0 })
nothing_read text e = record { list = []; are = e; counted = none_counted }

only_first : (text list : List ℕ) → 0 < length text → AreGroups text list
    → (first : ℕ) × (others : List ℕ) × AreJoined text first others × (list ≡ first ∷ others)
only_first text [] some e = absurd (omega (arith, some, ap length e))
only_first text (first ∷ others) some joined = (first, others, joined, refl)

pub begins : (text : List ℕ) → 0 < length text → Follows text text (record { number = 0; count = 0 })
begins text some = record {
  read = [];
  counted = none_counted;
  whole = λ first others joined. joined;
  only = λ list are. only_first text list some are;
}

-- the group before the first `:`
front_split : (rest : List ℕ) (first next : ℕ) (others : List ℕ) → (joined : AreJoined rest first (next ∷ others))
    → IsSplit 58 rest joined.0 joined.1
front_split rest first next others joined = record { parts = joined.2; first = group_lacks joined.0 first joined.3 }

behind_front : (rest front back : List ℕ) (n first : ℕ) (others : List ℕ) → IsSplit 58 rest front back → IsGroup front n
    → AreJoined rest first others
    → (next : ℕ) × (later : List ℕ) × AreJoined back next later × (first ∷ others ≡ n ∷ next ∷ later)
behind_front rest front back n first [] split is joined =
    absurd (nowhere 58 rest front back (group_lacks rest first joined) split.parts)
behind_front rest front back n first (next ∷ later) split is joined =
    let both = one_split 58 rest front joined.0 back joined.1 split (front_split rest first next later joined) in
    let same : first ≡ n = one_group joined.0 first n joined.3 (subst (λ (t : List ℕ). IsGroup t n) both.0 is) in
    (next, later, subst (λ (t : List ℕ). AreJoined t next later) (sym both.1) joined.4, ap (λ m. m ∷ next ∷ later) same)

pub goes_on : (text rest front back : List ℕ) (groups : Groups) (n : ℕ) → Follows text rest groups → IsSplit 58 rest front back
    → IsGroup front n → groups.count < 8 → Follows text back (one_more groups n)
goes_on text rest front back groups n follows split is room = record {
  read = follows.read ++ n ∷ [];
  counted = counted_more follows.read groups n follows.counted room (group_small front n is);
  whole = λ first others joined.
      subst (AreGroups text) (sym (append_assoc follows.read (n ∷ []) (first ∷ others)))
      (follows.whole n (first ∷ others) (front, back, split.parts, is, joined));
  only = λ list are.
      let it = follows.only list are in
      let more = behind_front rest front back n it.0 it.1 split is it.2 in (
        more.0,
        more.1,
        more.2,
        it.3 ∙ ap (λ (l : List ℕ). follows.read ++ l) more.3 ∙ sym (append_assoc follows.read (n ∷ []) (more.0 ∷ more.1)),
      );
}

pub ends : (text rest : List ℕ) (groups : Groups) (n : ℕ) → Follows text rest groups → IsGroup rest n → groups.count < 8
    → HasGroups text (one_more groups n)
ends text rest groups n follows is room = record {
  list = follows.read ++ n ∷ [];
  are = follows.whole n [] is;
  counted = counted_more follows.read groups n follows.counted room (group_small rest n is);
}

pub ended : (text rest : List ℕ) (groups : Groups) (n : ℕ) (answer : Option Groups) → Follows text rest groups → IsGroup rest n
    → SomeIff answer (groups.count < 8) (one_more groups n) → IfSome answer (λ (found : Groups). HasGroups text found)
ended text rest groups n None follows is told = tt
ended text rest groups n (Some found) follows is told =
    subst (HasGroups text) (sym told.1) (ends text rest groups n follows is told.0)

-- where no group stands next, or one too many, the text has no groups, or too many
front_is : (rest front back : List ℕ) (first : ℕ) (others : List ℕ) → IsSplit 58 rest front back → AreJoined rest first others
    → IsGroup front first
front_is rest front back first [] split joined =
    absurd (nowhere 58 rest front back (group_lacks rest first joined) split.parts)
front_is rest front back first (next ∷ later) split joined =
    let both = one_split 58 rest front joined.0 back joined.1 split (front_split rest first next later joined) in
    subst (λ (t : List ℕ). IsGroup t first) (sym both.0) joined.3

last_is : (rest : List ℕ) (first : ℕ) (others : List ℕ) → Lacks 58 rest → AreJoined rest first others → IsGroup rest first
last_is rest first [] lacks joined = joined
last_is rest first (next ∷ later) lacks joined = absurd (nowhere 58 rest joined.0 joined.1 lacks joined.2)

pub no_front : (text rest front back : List ℕ) (groups : Groups) → Follows text rest groups → IsSplit 58 rest front back
    → ((n : ℕ) → ¬ (IsGroup front n)) → (list : List ℕ) → AreGroups text list → 8 < length list
no_front text rest front back groups follows split none list are =
    let it = follows.only list are in absurd (none it.0 (front_is rest front back it.0 it.1 split it.2))

pub no_last : (text rest : List ℕ) (groups : Groups) → Follows text rest groups → Lacks 58 rest → ((n : ℕ) → ¬ (IsGroup rest n))
    → (list : List ℕ) → AreGroups text list → 8 < length list
no_last text rest groups follows lacks none list are =
    let it = follows.only list are in absurd (none it.0 (last_is rest it.0 it.1 lacks it.2))

pub too_many : (text rest : List ℕ) (groups : Groups) → Follows text rest groups → ¬ (groups.count < 8)
    → (list : List ℕ) → AreGroups text list → 8 < length list
too_many text rest groups follows full list are =
    let it = follows.only list are in
    let counted = follows.counted in
    let count = counted.count_is in
    let long : length list ≡ length follows.read + length (it.0 ∷ it.1)
    = ap length it.3 ∙ length-append follows.read (it.0 ∷ it.1) in
    elim (cases_lt groups.count 8) [
      | inl room ↦ absurd (full room)
      | inr most ↦ omega (arith, count, long, most)
    ]

pub joined_some : (text : List ℕ) (first : ℕ) (others : List ℕ) → AreJoined text first others → 0 < length text
joined_some text first [] joined = joined.digits.0
joined_some text first (next ∷ later) joined =
    omega (arith, ap length joined.2, length-append joined.0 (58 ∷ joined.1))

one_joined : (text : List ℕ) (others others' : List ℕ) (first first' : ℕ) → AreJoined text first others
    → AreJoined text first' others' → first ∷ others ≡ first' ∷ others'
one_joined text [] [] first first' is is' = ap (λ n. n ∷ []) (one_group text first first' is is')
one_joined text [] (next ∷ later) first first' is is' =
    absurd (nowhere 58 text is'.0 is'.1 (group_lacks text first is) is'.2)
one_joined text (next ∷ later) [] first first' is is' =
    absurd (nowhere 58 text is.0 is.1 (group_lacks text first' is') is.2)
one_joined text (next ∷ later) (next' ∷ later') first first' is is' =
    let both = one_split 58 text is.0 is'.0 is.1 is'.1 (front_split text first next later is)
    (front_split text first' next' later' is') in
    let same : first ≡ first'
    = one_group is'.0 first first' (subst (λ (t : List ℕ). IsGroup t first) both.0 is.3) is'.3 in
    let others = one_joined is'.1 later later' next next' (subst (λ (t : List ℕ). AreJoined t next later) both.1 is.4) is'.4 in
    ap (λ n. n ∷ next ∷ later) same ∙ ap (λ l. first' ∷ l) others

-- a text has one list of groups
pub one_groups : (text list list' : List ℕ) → AreGroups text list → AreGroups text list' → list ≡ list'
one_groups text [] [] is is' = refl
one_groups text [] (first ∷ others) is is' = absurd (omega (arith, ap length is, joined_some text first others is'))
one_groups text (first ∷ others) [] is is' = absurd (omega (arith, ap length is', joined_some text first others is))
one_groups text (first ∷ others) (first' ∷ others') is is' = one_joined text others others' first first' is is'
