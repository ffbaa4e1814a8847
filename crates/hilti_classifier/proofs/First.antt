-- The first match among more rules, and that there is no more than one.
use Rattle.std.proofs.Common.{◌≡◌, ◌⊎◌, inl, inr, ℕ, ◌+◌, ◌<◌, ◌≤◌, zero, suc, Bool, List, [], ◌∷◌, ◌++◌, length, get_or, take, slice_get, Option, Some, None, refl, sym, ap, subst, ◌∙◌, add-one, arith}
use Rattle.std.specs.Option.{MatchOption}
use Rattle.std.proofs.Math.Seq.{take-suc}
use Rattle.std.proofs.lemmas.Bool.{cases_lt}
use Rattle.std.proofs.lemmas.List.{length-take-le}
use Rattle.std.proofs.lemmas.List.Elements.{All-push}
use Rattle.std.proofs.lemmas.Option.{get_or_from_slice_get, slice_get_within}
use Rattle.hilti_classifier.specs.declared.want.Field.{Field}
use Rattle.hilti_classifier.specs.declared.classifier.Match.{Match}
use Rattle.hilti_classifier.specs.declared.classifier.Rule.{Rule}
use Rattle.hilti_classifier.specs.Kept.{IsBest, IsBetter}
use Rattle.hilti_classifier.specs.Matches.{IsFirstMatch, Matches, NothingMatches}

-- an item of a longer list
place_cases : {X : Type 0} (xs : List X) (x y : X) (i : ℕ) → slice_get (xs ++ x ∷ []) i ≡ Some y → (slice_get xs i ≡ Some y) ⊎ ((i ≡ length xs) × (y ≡ x))
place_cases [] x y zero is = inr (refl, cc)
place_cases [] x y (suc i) is = absurd (cc)
place_cases (z ∷ xs) x y zero is = inl is
place_cases (z ∷ xs) x y (suc i) is = elim (place_cases xs x y i is) [ inl h ↦ inl h | inr h ↦ inr (ap suc h.0, h.1) ]

place_kept : {X : Type 0} (xs : List X) (x y : X) (i : ℕ) → slice_get xs i ≡ Some y → slice_get (xs ++ x ∷ []) i ≡ Some y
place_kept [] x y i is = absurd (cc)
place_kept (z ∷ xs) x y zero is = is
place_kept (z ∷ xs) x y (suc i) is = place_kept xs x y i is

place_last : {X : Type 0} (xs : List X) (x : X) → slice_get (xs ++ x ∷ []) (length xs) ≡ Some x
place_last [] x = refl
place_last (z ∷ xs) x = place_last xs x

module _ {K V : Type 0} (eq : K → K → Bool) (query : List (Field K)) where
  -- a rule that doesn't match, behind the others
  passed : (seen : List (Rule K V)) (rule : Rule K V) (best : Option Match) → ¬ (Matches eq rule query) → IsBest eq seen query best → IsBest eq (seen ++ rule ∷ []) query best
  passed seen rule None unlike none = All-push (λ other. ¬ (Matches eq other query)) seen rule none unlike
  passed seen rule (Some best) unlike is =
      let m = is.0 in (
        record {
          rule = m.rule;
          stands = place_kept seen rule m.rule best.at m.stands;
          matches = m.matches;
          first = λ other place there fits. elim (place_cases seen rule other place there) [
            | inl q ↦ m.first other place q fits
            | inr q ↦ absurd (unlike (subst (λ o. Matches eq o query) q.1 fits))
          ];
        },
        is.1,
      )

  -- a rule that matches, of no greater priority
  beaten : (seen : List (Rule K V)) (rule : Rule K V) (best : Match) → rule.priority ≤ best.priority → IsBest eq seen query (Some best) → IsBest eq (seen ++ rule ∷ []) query (Some best)
  beaten seen rule best low is =
      let m = is.0 in
      let before : best.at < length seen = slice_get_within seen best.at m.rule m.stands in (
        record {
          rule = m.rule;
          stands = place_kept seen rule m.rule best.at m.stands;
          matches = m.matches;
          first = λ other place there fits. elim (place_cases seen rule other place there) [
            | inl q ↦ m.first other place q fits
            | inr q ↦
                let same : other.priority ≡ rule.priority = ap (λ o. o.priority) q.1 in
                elim (cases_lt rule.priority best.priority) [
                  | inl h ↦ inl (omega (arith, same, is.1, h))
                  | inr h ↦ inr (omega (arith, same, is.1, h, low), omega (arith, q.0, before))
                ]
          ];
        },
        is.1,
      )

  -- no rule that matches has a greater priority than the best
  no_better : (seen : List (Rule K V)) (best : Option Match) (n : ℕ) → MatchOption best (Unit {0}) (λ b. b.priority < n) → IsBest eq seen query best
      → (other : Rule K V) (place : ℕ) → slice_get seen place ≡ Some other → Matches eq other query → other.priority < n
  no_better seen None n _ none other place there fits =
      absurd (none place other (slice_get_within seen place other there) (subst (λ o. Matches eq o query) (sym (get_or_from_slice_get seen place other other there)) fits))
  no_better seen (Some best) n low is other place there fits =
      elim (is.0.first other place there fits) [
        | inl h ↦ omega (arith, low, is.1, h)
        | inr h ↦ omega (arith, low, is.1, h.0)
      ]

  -- a rule that matches, of a greater priority
  better : (seen : List (Rule K V)) (rule : Rule K V) (best : Option Match) (at : ℕ) → at ≡ length seen → Matches eq rule query → MatchOption best (Unit {0}) (λ b. b.priority < rule.priority)
      → IsBest eq seen query best → IsBest eq (seen ++ rule ∷ []) query (Some record { at = at; priority = rule.priority })
  better seen rule best at end matches low is = (
    record {
      rule = rule;
      stands = subst (λ i. slice_get (seen ++ rule ∷ []) i ≡ Some rule) (sym end) (place_last seen rule);
      matches = matches;
      first = λ other place there fits. elim (place_cases seen rule other place there) [
        | inl q ↦ inl (no_better seen best rule.priority low is other place q fits)
        | inr q ↦ inr (ap (λ o. o.priority) q.1, omega (arith, end, q.0))
      ];
    },
    refl,
  )

  -- the better of the best and a rule that matches
  grown : (seen : List (Rule K V)) (rule : Rule K V) (best : Option Match) (later taken : Match) (at : ℕ) → at ≡ length seen → later ≡ record { at = at; priority = rule.priority }
      → IsBetter best later taken → Matches eq rule query → IsBest eq seen query best → IsBest eq (seen ++ rule ∷ []) query (Some taken)
  grown seen rule None later taken at end here is matches so_far =
      subst (λ m. IsBest eq (seen ++ rule ∷ []) query (Some m)) (sym (is ∙ here)) (better seen rule None at end matches tt so_far)
  grown seen rule (Some best) later taken at end here is matches so_far =
      let same : later.priority ≡ rule.priority = ap (λ m. m.priority) here in
      elim (cases_lt best.priority rule.priority) [
        | inl h ↦ subst (λ m. IsBest eq (seen ++ rule ∷ []) query (Some m)) (sym (is.1 (omega (arith, same, h)) ∙ here)) (better seen rule (Some best) at end matches h so_far)
        | inr h ↦ subst (λ m. IsBest eq (seen ++ rule ∷ []) query (Some m)) (sym (is.0 (omega (arith, same, h)))) (beaten seen rule best h so_far)
      ]

  module _ (rules : List (Rule K V)) (i : ℕ) (rule : Rule K V) (in' : i < length rules) (is : rule ≡ get_or rules i rule) where
    one_more : take (i + 1) rules ≡ take i rules ++ rule ∷ []
    one_more = ap (λ n. take n rules) (add-one i) ∙ take-suc rules i rule in' ∙ ap (λ r. take i rules ++ r ∷ []) (sym is)

    pub past_other : (best : Option Match) → ¬ (Matches eq rule query) → IsBest eq (take i rules) query best → IsBest eq (take (i + 1) rules) query best
    past_other best unlike so_far = subst (λ l. IsBest eq l query best) (sym one_more) (passed (take i rules) rule best unlike so_far)

    pub past_match : (best : Option Match) (later taken : Match) → later ≡ record { at = i; priority = rule.priority } → IsBetter best later taken → Matches eq rule query
        → IsBest eq (take i rules) query best → IsBest eq (take (i + 1) rules) query (Some taken)
    past_match best later taken here is matches so_far = subst (λ l. IsBest eq l query (Some taken)) (sym one_more) (grown (take i rules) rule best later taken i (sym (length-take-le i rules (omega (arith, in')))) here is matches so_far)

  -- there is one first match at most
  pub first_is_one : (rules : List (Rule K V)) (a b : ℕ) → IsFirstMatch eq rules query a → IsFirstMatch eq rules query b → a ≡ b
  first_is_one rules a b one other =
      elim (one.first other.rule b other.stands other.matches) [
        | inl h ↦ elim (other.first one.rule a one.stands one.matches) [ inl k ↦ absurd (omega (arith, h, k)) | inr k ↦ absurd (omega (arith, h, k.0)) ]
        | inr h ↦ elim (other.first one.rule a one.stands one.matches) [ inl k ↦ absurd (omega (arith, h.0, k)) | inr k ↦ omega (arith, h.1, k.1) ]
      ]

  -- and none where nothing matches
  pub first_matches : (rules : List (Rule K V)) (a : ℕ) → NothingMatches eq rules query → IsFirstMatch eq rules query a → ⊥
  first_matches rules a none one =
      none a one.rule (slice_get_within rules a one.rule one.stands) (subst (λ o. Matches eq o query) (sym (get_or_from_slice_get rules a one.rule one.rule one.stands)) one.matches)
