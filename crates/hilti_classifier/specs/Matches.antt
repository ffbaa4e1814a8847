-- Which rules match a query, and which of them is the answer.
use Rattle.std.specs.Prelude.{◌≡◌, ◌⊎◌, ℕ, ◌<◌, ◌≤◌, Bool, IsTrue, List, Some, slice_get}
use Rattle.std.specs.List.{All, AllZip}
use Rattle.hilti_addr.specs.Masks.{masked}
use Rattle.hilti_classifier.specs.declared.want.Want.{Want}
use Rattle.hilti_classifier.specs.declared.want.Want.TheVariants.{Any, Prefix, Exact}
use Rattle.hilti_classifier.specs.declared.want.Field.{Field}
use Rattle.hilti_classifier.specs.declared.want.Field.TheVariants.{Addr, Other}
use Rattle.hilti_classifier.specs.declared.classifier.Rule.{Rule}

-- a field is what a part of a rule asks for
abbrev pub Fits : {K : Type 0} → (K → K → Bool) → Want K → Field K → Type 0
Fits eq Any field = Unit {0}
Fits eq (Prefix net) (Addr a) = masked a net.len ≡ masked net.addr net.len
Fits eq (Prefix net) (Other key) = ⊥
Fits eq (Exact key) (Addr a) = ⊥
Fits eq (Exact key) (Other other) = IsTrue (eq key other)

-- each field of a query fits the part of a rule at its place
abbrev pub Matches : {K V : Type 0} → (K → K → Bool) → Rule K V → List (Field K) → Type 0
Matches eq rule query = AllZip (Fits eq) rule.wants query

-- the rule at a place matches, and each rule that matches has a lower priority, or the same and no
-- earlier place
pub record IsFirstMatch {K V : Type 0} (eq : K → K → Bool) (rules : List (Rule K V))
    (query : List (Field K)) (at : ℕ) : Type 0 where
  pub rule : Rule K V
  pub stands : slice_get rules at ≡ Some rule
  pub matches : Matches eq rule query
  pub first : (other : Rule K V) (place : ℕ) → slice_get rules place ≡ Some other
      → Matches eq other query
      → (other.priority < rule.priority) ⊎ ((other.priority ≡ rule.priority) × (at ≤ place))

-- no rule matches
abbrev pub NothingMatches : {K V : Type 0} → (K → K → Bool) → List (Rule K V) → List (Field K)
    → Type 0
NothingMatches eq rules query = All (λ rule. ¬ (Matches eq rule query)) rules
