-- Addresses between brackets have one value.
use Rattle.std.proofs.Common.{◌≡◌, ◌≢◌, ℕ, suc, ◌+◌, ◌*◌, ◌-◌, ◌^◌, ◌<◌, ◌≤◌, List, [], ◌∷◌, ◌++◌, length, refl, sym, ap, ◌∙◌, subst, arith}
use Rattle.std.specs.Prelude.{Option, Some, None, IfSome, IsNone, SomeIff}
use Rattle.std.proofs.lemmas.List.{length-append}
use Rattle.std.proofs.lemmas.List.Elements.{All-nil}
use Rattle.hilti_base.specs.Numerals.{IsNumber, IsSplit, Lacks}
use Rattle.hilti_base.proofs.Splits.{joined_lack, longer_lacks, nowhere, one_number, one_split}
use Rattle.hilti_addr.specs.declared.brackets.Groups.{Groups}
use Rattle.hilti_addr.specs.declared.net.Net.{Net}
use Rattle.hilti_addr.specs.Brackets.{AreGroups, AreJoined, IsBracketAddress, IsBracketNet, IsSpelled, filled, number_of, shortened, whole}
use Rattle.hilti_addr.specs.Groups.{HasColons, HasGroups, IsFirstColons}
use Rattle.hilti_addr.specs.Masks.{masked}
use Rattle.hilti_addr.proofs.Colons.{colons_at, groups_apart, groups_split, one_first, same_parts}
use Rattle.hilti_addr.proofs.Groups.{filled_number, group_has_no_slash, one_groups}

-- an address without `::` is its 8 groups
pub record IsWhole (text : List ℕ) (address : ℕ) : Type 0 where
  pub list : List ℕ
  pub are : AreGroups text list
  pub all : length list ≡ 8
  pub value : address ≡ number_of list

pub spelled_whole : (text : List ℕ) (address : ℕ) → ((place : ℕ) → ¬ (HasColons text place)) → IsSpelled text address → IsWhole text address
spelled_whole text address none is = elim is [
  | whole list are all value ↦ record { list = list; are = are; all = all; value = value }
  | shortened front back before after e at_front at_back few value ↦
      absurd (none (length front) (colons_at text front back e))
]

-- an address with `::` is the groups on both sides of the first
pub record IsShortened (front back : List ℕ) (address : ℕ) : Type 0 where
  pub before : List ℕ
  pub after : List ℕ
  pub at_front : AreGroups front before
  pub at_back : AreGroups back after
  pub few : length before + length after ≤ 7
  pub value : address ≡ number_of (filled before after)

pub spelled_around : (text front back : List ℕ) (address : ℕ) → IsFirstColons text front back → IsSpelled text address
    → IsShortened front back address
spelled_around text front back address split is = elim is [
  | whole list are all value ↦ absurd (groups_apart text list (length front) are (colons_at text front back split.parts))
  | shortened front' back' before after e at_front at_back few value ↦
      let both = one_first text front' front back' back (groups_split text front' back' before e at_front) split in
      record {
        before = before;
        after = after;
        at_front = subst (λ (t : List ℕ). AreGroups t before) both.0 at_front;
        at_back = subst (λ (t : List ℕ). AreGroups t after) both.1 at_back;
        few = few;
        value = value;
      }
]

one_shortened : (front back : List ℕ) (address address' : ℕ) → IsShortened front back address → IsShortened front back address'
    → address ≡ address'
one_shortened front back address address' is is' =
    let before = one_groups front is.before is'.before is.at_front is'.at_front in
    let after = one_groups back is.after is'.after is.at_back is'.at_back in
    is.value ∙ ap (λ (l : List ℕ). number_of (filled l is.after)) before
    ∙ ap (λ (l : List ℕ). number_of (filled is'.before l)) after ∙ sym is'.value

pub one_spelled : (text : List ℕ) (address address' : ℕ) → IsSpelled text address → IsSpelled text address' → address ≡ address'
one_spelled text address address' is is' = elim is [
  | whole list are all value ↦
      let other = spelled_whole text address' (λ place. groups_apart text list place are) is' in
      value ∙ ap number_of (one_groups text list other.list are other.are) ∙ sym other.value
  | shortened front back before after e at_front at_back few value ↦
      let split = groups_split text front back before e at_front in
      one_shortened front back address address' (spelled_around text front back address split (shortened front back before after e at_front at_back few value))
      (spelled_around text front back address' split is')
]

-- what was read where there is no `::`
pub a_whole : (text : List ℕ) (groups : Groups) → HasGroups text groups → groups.count ≡ 8 → IsSpelled text groups.number
a_whole text groups has all =
    let counted = has.counted in
    let count = counted.count_is in
    let eight : length has.list ≡ 8 = omega (arith, count, all) in
    whole has.list has.are eight counted.number_is

pub no_whole_many : (text : List ℕ) → ((place : ℕ) → ¬ (HasColons text place)) → ((list : List ℕ) → AreGroups text list → 8 < length list)
    → (address : ℕ) → ¬ (IsSpelled text address)
no_whole_many text apart many address is =
    let it = spelled_whole text address apart is in
    let all = it.all in
    omega (arith, all, many it.list it.are)

pub no_whole_few : (text : List ℕ) (groups : Groups) → ((place : ℕ) → ¬ (HasColons text place)) → HasGroups text groups
    → groups.count ≢ 8 → (address : ℕ) → ¬ (IsSpelled text address)
no_whole_few text groups apart has other address is =
    let it = spelled_whole text address apart is in
    let counted = has.counted in
    let count = counted.count_is in
    let all = it.all in
    let same : length has.list ≡ length it.list = ap length (one_groups text has.list it.list has.are it.are) in
    other (omega (arith, count, all, same))

-- what was read around a `::`
pub a_shortened : (text front back : List ℕ) (before after : Groups) (address : ℕ) → IsFirstColons text front back → HasGroups front before
    → HasGroups back after → before.count + after.count ≤ 7
    → address ≡ before.number * 65536 ^ (8 - before.count) + after.number → IsSpelled text address
a_shortened text front back before after address split has has' few value =
    let counted = has.counted in
    let counted' = has'.counted in
    let count = counted.count_is in
    let count' = counted'.count_is in
    let short : length has.list + length has'.list ≤ 7 = omega (arith, count, count', few) in
    shortened front back has.list has'.list split.parts has.are has'.are short
    (value ∙ sym (filled_number has.list has'.list before after counted counted' few))

pub no_front_groups : (text front back : List ℕ) → IsFirstColons text front back → ((list : List ℕ) → AreGroups front list → 8 < length list)
    → (address : ℕ) → ¬ (IsSpelled text address)
no_front_groups text front back split many address is =
    let it = spelled_around text front back address split is in
    let few = it.few in
    omega (arith, few, many it.before it.at_front)

pub no_back_groups : (text front back : List ℕ) → IsFirstColons text front back → ((list : List ℕ) → AreGroups back list → 8 < length list)
    → (address : ℕ) → ¬ (IsSpelled text address)
no_back_groups text front back split many address is =
    let it = spelled_around text front back address split is in
    let few = it.few in
    omega (arith, few, many it.after it.at_back)

pub no_room : (text front back : List ℕ) (before after : Groups) → IsFirstColons text front back → HasGroups front before
    → HasGroups back after → ¬ (before.count + after.count ≤ 7) → (address : ℕ) → ¬ (IsSpelled text address)
no_room text front back before after split has has' full address is =
    let it = spelled_around text front back address split is in
    let few = it.few in
    let count = has.counted.count_is in
    let count' = has'.counted.count_is in
    let same : length has.list ≡ length it.before = ap length (one_groups front has.list it.before has.are it.at_front) in
    let same' : length has'.list ≡ length it.after = ap length (one_groups back has'.list it.after has'.are it.at_back) in
    full (omega (arith, few, count, count', same, same'))

pub spelled_some : (text front back : List ℕ) (before after : Groups) (answer : Option ℕ) → IsFirstColons text front back
    → HasGroups front before → HasGroups back after
    → SomeIff answer (before.count + after.count ≤ 7) (before.number * 65536 ^ (8 - before.count) + after.number)
    → IfSome answer (λ address. IsSpelled text address)
spelled_some text front back before after None split has has' told = tt
spelled_some text front back before after (Some address) split has has' told =
    a_shortened text front back before after address split has has' told.0 told.1

pub spelled_none : (text front back : List ℕ) (before after : Groups) (answer : Option ℕ) → IsFirstColons text front back
    → HasGroups front before → HasGroups back after
    → SomeIff answer (before.count + after.count ≤ 7) (before.number * 65536 ^ (8 - before.count) + after.number)
    → IsNone answer → (address : ℕ) → ¬ (IsSpelled text address)
spelled_none text front back before after None split has has' told none = no_room text front back before after split has has' told
spelled_none text front back before after (Some found) split has has' told none = absurd (cc)

-- what stands between the brackets
inside_is : (behind inside : List ℕ) (last : ℕ) → behind ≡ inside ++ last ∷ [] → (other : List ℕ) → behind ≡ other ++ 93 ∷ []
    → (last ≡ 93) × (inside ≡ other)
inside_is behind inside last e other e' =
    let long : length behind ≡ length inside + 1 = ap length e ∙ length-append inside (last ∷ []) in
    let long' : length behind ≡ length other + 1 = ap length e' ∙ length-append other (93 ∷ []) in
    let same : length inside ≡ length other = omega (arith, long, long') in
    let both = same_parts inside other (last ∷ []) (93 ∷ []) (sym e ∙ e') same in
    let ends = both.1 in
    (cc, both.0)

pub record IsBetween (first last : ℕ) (inside : List ℕ) (address : ℕ) : Type 0 where
  pub opened : first ≡ 91
  pub closed : last ≡ 93
  pub spelled : IsSpelled inside address

pub between : (text behind inside : List ℕ) (first last : ℕ) → text ≡ first ∷ behind → behind ≡ inside ++ last ∷ [] → (address : ℕ)
    → IsBracketAddress text address → IsBetween first last inside address
between text behind inside first last e f address is =
    let opens : first ∷ behind ≡ 91 ∷ (is.inside ++ 93 ∷ []) = sym e ∙ is.parts in
    let first_is : first ≡ 91 = cc in
    let rest_is : behind ≡ is.inside ++ 93 ∷ [] = cc in
    let both = inside_is behind inside last f is.inside rest_is in
    record { opened = first_is; closed = both.0; spelled = subst (λ (t : List ℕ). IsSpelled t address) (sym both.1) is.spelled }

pub a_bracket : (text behind inside : List ℕ) (first last : ℕ) (address : ℕ) → text ≡ first ∷ behind → behind ≡ inside ++ last ∷ []
    → first ≡ 91 → last ≡ 93 → IsSpelled inside address → IsBracketAddress text address
a_bracket text behind inside first last address e f opened closed is = record {
  inside = inside;
  parts = e ∙ ap (λ c. c ∷ behind) opened ∙ ap (λ (l : List ℕ). 91 ∷ l) f ∙ ap (λ c. 91 ∷ (inside ++ c ∷ [])) closed;
  spelled = is;
}

pub bracket_some : (text behind inside : List ℕ) (first last : ℕ) (answer : Option ℕ) → text ≡ first ∷ behind → behind ≡ inside ++ last ∷ []
    → first ≡ 91 → last ≡ 93 → IfSome answer (λ address. IsSpelled inside address) → IfSome answer (λ address. IsBracketAddress text address)
bracket_some text behind inside first last None e f opened closed is = tt
bracket_some text behind inside first last (Some address) e f opened closed is = a_bracket text behind inside first last address e f opened closed is

pub no_bytes : (text : List ℕ) → text ≡ [] → (address : ℕ) → ¬ (IsBracketAddress text address)
no_bytes text e address is = let opens : [] ≡ 91 ∷ (is.inside ++ 93 ∷ []) = sym e ∙ is.parts in absurd (cc)

pub no_end : (text behind : List ℕ) (first : ℕ) → text ≡ first ∷ behind → behind ≡ [] → (address : ℕ) → ¬ (IsBracketAddress text address)
no_end text behind first e f address is =
    let opens : first ∷ behind ≡ 91 ∷ (is.inside ++ 93 ∷ []) = sym e ∙ is.parts in
    let rest : behind ≡ is.inside ++ 93 ∷ [] = cc in
    absurd (omega (arith, ap length f, ap length rest, length-append is.inside (93 ∷ [])))

pub one_bracket : (text : List ℕ) (address address' : ℕ) → IsBracketAddress text address → IsBracketAddress text address' → address ≡ address'
one_bracket text address address' is is' =
    let it = between text (is'.inside ++ 93 ∷ []) is'.inside 91 93 is'.parts refl address is in
    one_spelled is'.inside address address' it.spelled is'.spelled

-- no address between brackets has a slash
joined_has_no_slash : (text : List ℕ) (others : List ℕ) (first : ℕ) → AreJoined text first others → Lacks 47 text
joined_has_no_slash text [] first joined = group_has_no_slash text first joined
joined_has_no_slash text (next ∷ later) first joined =
    let colon : 58 ≢ 47 = λ (same : 58 ≡ 47). omega (arith, same) in
    subst (Lacks 47) (sym joined.2)
    (joined_lack 47 joined.0 (58 ∷ joined.1) (group_has_no_slash joined.0 first joined.3)
    (longer_lacks 47 58 joined.1 colon (joined_has_no_slash joined.1 later next joined.4)))

groups_have_no_slash : (text list : List ℕ) → AreGroups text list → Lacks 47 text
groups_have_no_slash text [] are = subst (Lacks 47) (sym are) (All-nil (λ c. c ≢ 47))
groups_have_no_slash text (first ∷ others) are = joined_has_no_slash text others first are

spelled_has_no_slash : (text : List ℕ) (address : ℕ) → IsSpelled text address → Lacks 47 text
spelled_has_no_slash text address is =
    let colon : 58 ≢ 47 = λ (same : 58 ≡ 47). omega (arith, same) in
    elim is [
      | whole list are all value ↦ groups_have_no_slash text list are
      | shortened front back before after e at_front at_back few value ↦
          subst (Lacks 47) (sym e)
          (joined_lack 47 front (58 ∷ 58 ∷ back) (groups_have_no_slash front before at_front)
          (longer_lacks 47 58 (58 ∷ back) colon (longer_lacks 47 58 back colon (groups_have_no_slash back after at_back))))
    ]

pub bracket_has_no_slash : (text : List ℕ) (address : ℕ) → IsBracketAddress text address → Lacks 47 text
bracket_has_no_slash text address is =
    let opens : 91 ≢ 47 = λ (same : 91 ≡ 47). omega (arith, same) in
    let closes : 93 ≢ 47 = λ (same : 93 ≡ 47). omega (arith, same) in
    subst (Lacks 47) (sym is.parts)
    (longer_lacks 47 91 (is.inside ++ 93 ∷ []) opens
    (joined_lack 47 is.inside (93 ∷ []) (spelled_has_no_slash is.inside address is.spelled)
    (longer_lacks 47 93 [] closes (All-nil (λ c. c ≢ 47)))))

-- a net's text, from what stands around the first slash
net_splits : (text : List ℕ) (net : Net) → (is : IsBracketNet text net) → IsSplit 47 text is.front is.back
net_splits text net is = record { parts = is.parts; first = bracket_has_no_slash is.front is.address is.at_front }

pub bracket_net_parts : (text front back : List ℕ) (net : Net) → IsSplit 47 text front back → (is : IsBracketNet text net)
    → IsBracketAddress front is.address × IsNumber 128 back is.len
bracket_net_parts text front back net split is =
    let both = one_split 47 text front is.front back is.back split (net_splits text net is) in (
      subst (λ f. IsBracketAddress f is.address) (sym both.0) is.at_front,
      subst (λ f. IsNumber 128 f is.len) (sym both.1) is.at_back,
    )

pub no_slash_bracket : (text : List ℕ) → Lacks 47 text → (net : Net) → ¬ (IsBracketNet text net)
no_slash_bracket text lacks net is = nowhere 47 text is.front is.back lacks is.parts

masked_net : ℕ → ℕ → Net
masked_net address len = record { addr = masked address len; len = len }

pub one_bracket_net : (text : List ℕ) (net net' : Net) → IsBracketNet text net → IsBracketNet text net' → net ≡ net'
unfolding masked_net
one_bracket_net text net net' is is' =
    let parts = bracket_net_parts text is'.front is'.back net (net_splits text net' is') is in
    let address : is.address ≡ is'.address = one_bracket is'.front is.address is'.address parts.0 is'.at_front in
    let len : is.len ≡ is'.len = one_number 128 is'.back is.len is'.len parts.1 is'.at_back in
    is.value ∙ ap (λ n. masked_net n is.len) address ∙ ap (λ n. masked_net is'.address n) len ∙ sym is'.value
