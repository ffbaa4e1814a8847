-- The first `::` of a text.
use Rattle.std.proofs.Common.{◌≡◌, ◌≢◌, ℕ, zero, suc, ◌+◌, ◌-◌, ◌<◌, ◌≤◌, List, [], ◌∷◌, ◌++◌, length, get_or, take, drop, refl, sym, ap, ◌∙◌, subst, arith, inl, inr}
use Rattle.std.proofs.Math.ListN.{get_or-append}
use Rattle.std.proofs.Math.Seq.{drop-append_seam, get_or-append_seam, take-append_seam}
use Rattle.std.proofs.lemmas.Bool.{cases_lt, cases_order}
use Rattle.std.proofs.lemmas.List.{get_or-append-add, length-append}
use Rattle.hilti_base.specs.Numerals.{Lacks}
use Rattle.hilti_base.proofs.Splits.{first_is_other, others_lack}
use Rattle.hilti_addr.specs.Brackets.{AreGroups, AreJoined, IsGroup}
use Rattle.hilti_addr.specs.Groups.{HasColons, IsFirstColons}
use Rattle.hilti_addr.proofs.Groups.{group_lacks, joined_some}

lacks_at : (text : List ℕ) (k : ℕ) → Lacks 58 text → get_or text k 0 ≡ 58 → ⊥
lacks_at [] k lacks e = absurd (omega (arith, e))
lacks_at (c ∷ cs) zero lacks e = first_is_other 58 c cs lacks e
lacks_at (c ∷ cs) (suc k) lacks e = lacks_at cs k (others_lack 58 c cs lacks) e

-- the byte at a place of what stands behind a byte
behind_at : (text front back : List ℕ) (byte k i : ℕ) → text ≡ front ++ byte ∷ back → i ≡ length front + suc k
    → get_or text i 0 ≡ get_or back k 0
behind_at text front back byte k i e at =
    ap (λ n. get_or text n 0) at ∙ ap (λ (t : List ℕ). get_or t (length front + suc k) 0) e
    ∙ get_or-append-add front (byte ∷ back) (suc k) 0

front_at : (text front back : List ℕ) (k : ℕ) → text ≡ front ++ back → k < length front → get_or text k 0 ≡ get_or front k 0
front_at text front back k e within = ap (λ (t : List ℕ). get_or t k 0) e ∙ get_or-append front back 0 k within

not_first : (text : List ℕ) (first : ℕ) (others : List ℕ) → AreJoined text first others → get_or text 0 0 ≡ 58 → ⊥
not_first text first [] joined e = lacks_at text 0 (group_lacks text first joined) e
not_first text first (next ∷ later) joined e =
    let some : 0 < length joined.0 = joined.3.digits.0 in
    lacks_at joined.0 0 (group_lacks joined.0 first joined.3)
    (sym (front_at text joined.0 (58 ∷ joined.1) 0 joined.2 some) ∙ e)

not_last : (text : List ℕ) (others : List ℕ) (first k : ℕ) → AreJoined text first others → k + 1 ≡ length text
    → get_or text k 0 ≡ 58 → ⊥
not_last text [] first k joined at e = lacks_at text k (group_lacks text first joined) e
not_last text (next ∷ later) first k joined at e =
    let whole : length text ≡ length joined.0 + suc (length joined.1)
    = ap length joined.2 ∙ length-append joined.0 (58 ∷ joined.1) in
    let some : 0 < length joined.1 = joined_some joined.1 next later joined.4 in
    let place : k ≡ length joined.0 + suc (length joined.1 - 1) = omega arith in
    not_last joined.1 later next (length joined.1 - 1) joined.4 (omega (arith, some))
    (sym (behind_at text joined.0 joined.1 58 (length joined.1 - 1) k joined.2 place) ∙ e)

joined_apart : (text : List ℕ) (others : List ℕ) (first k : ℕ) → AreJoined text first others → HasColons text k → ⊥
joined_apart text [] first k joined colons = lacks_at text k (group_lacks text first joined) colons.0
joined_apart text (next ∷ later) first k joined colons = elim (cases_order k (length joined.0)) [
  | inl same ↦
      let place : k + 1 ≡ length joined.0 + suc 0 = omega arith in
      not_first joined.1 next later joined.4 (sym (behind_at text joined.0 joined.1 58 0 (k + 1) joined.2 place) ∙ colons.1)
  | inr apart ↦ elim apart [
    | inl within ↦
        lacks_at joined.0 k (group_lacks joined.0 first joined.3)
        (sym (front_at text joined.0 (58 ∷ joined.1) k joined.2 within) ∙ colons.0)
    | inr past ↦
        let place : k ≡ length joined.0 + suc (k - length joined.0 - 1) = omega arith in
        let after : k + 1 ≡ length joined.0 + suc (k - length joined.0 - 1 + 1) = omega arith in
        joined_apart joined.1 later next (k - length joined.0 - 1) joined.4 (
          sym (behind_at text joined.0 joined.1 58 (k - length joined.0 - 1) k joined.2 place) ∙ colons.0,
          sym (behind_at text joined.0 joined.1 58 (k - length joined.0 - 1 + 1) (k + 1) joined.2 after) ∙ colons.1,
        )
  ]
]

-- groups have no `::`
pub groups_apart : (text list : List ℕ) (k : ℕ) → AreGroups text list → ¬ (HasColons text k)
groups_apart text [] k are colons =
    let none : get_or text k 0 ≡ 0 = ap (λ (t : List ℕ). get_or t k 0) are in
    let some = colons.0 in
    omega (arith, none, some)
groups_apart text (first ∷ others) k are colons = joined_apart text others first k are colons

front_apart : (front list back : List ℕ) (k : ℕ) → AreGroups front list → k < length front
    → ¬ (HasColons (front ++ 58 ∷ 58 ∷ back) k)
front_apart front [] back k are within colons = absurd (omega (arith, within, ap length are))
front_apart front (first ∷ others) back k are within colons =
    let here : get_or front k 0 ≡ 58 = sym (front_at (front ++ 58 ∷ 58 ∷ back) front (58 ∷ 58 ∷ back) k refl within) ∙ colons.0 in
    elim (cases_lt (k + 1) (length front)) [
      | inl more ↦
          let next : get_or front (k + 1) 0 ≡ 58
          = sym (front_at (front ++ 58 ∷ 58 ∷ back) front (58 ∷ 58 ∷ back) (k + 1) refl more) ∙ colons.1 in
          joined_apart front others first k are (here, next)
      | inr most ↦ not_last front others first k are (omega (arith, within, most)) here
    ]

pub colons_at : (text front back : List ℕ) → text ≡ front ++ 58 ∷ 58 ∷ back → HasColons text (length front)
colons_at text front back e = (
  ap (λ (t : List ℕ). get_or t (length front) 0) e ∙ get_or-append_seam front 58 (58 ∷ back) 0,
  behind_at text front (58 ∷ back) 58 0 (length front + 1) e (omega arith),
)

-- groups around `::` are split at the first
pub groups_split : (text front back list : List ℕ) → text ≡ front ++ 58 ∷ 58 ∷ back → AreGroups front list → IsFirstColons text front back
groups_split text front back list e are = record {
  parts = e;
  first = λ place within colons.
      front_apart front list back place are within (subst (λ (t : List ℕ). HasColons t place) e colons);
}

pub same_parts : (xs xs' ys ys' : List ℕ) → xs ++ ys ≡ xs' ++ ys' → length xs ≡ length xs' → (xs ≡ xs') × (ys ≡ ys')
same_parts xs xs' ys ys' e same = (
  sym (take-append_seam xs ys) ∙ ap (take (length xs)) e ∙ ap (λ n. take n (xs' ++ ys')) same ∙ take-append_seam xs' ys',
  sym (drop-append_seam xs ys) ∙ ap (drop (length xs)) e ∙ ap (λ n. drop n (xs' ++ ys')) same ∙ drop-append_seam xs' ys',
)

pub one_first : (text front front' back back' : List ℕ) → IsFirstColons text front back → IsFirstColons text front' back'
    → (front ≡ front') × (back ≡ back')
one_first text front front' back back' h h' = elim (cases_order (length front) (length front')) [
  | inl same ↦
      let both = same_parts front front' (58 ∷ 58 ∷ back) (58 ∷ 58 ∷ back') (sym h.parts ∙ h'.parts) same in
      (both.0, ap (drop 2) both.1)
  | inr apart ↦ elim apart [
    | inl before ↦ absurd (h'.first (length front) before (colons_at text front back h.parts))
    | inr after ↦ absurd (h.first (length front') after (colons_at text front' back' h'.parts))
  ]
]
