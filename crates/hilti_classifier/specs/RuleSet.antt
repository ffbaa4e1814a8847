-- What a classifier is.
use Rattle.std.specs.Prelude.{◌≡◌, ℕ, ◌≤◌, Bool, List, length}
use Rattle.std.specs.List.{All}
use Rattle.hilti_classifier.specs.declared.want.Want.{Want}
use Rattle.hilti_classifier.specs.declared.want.Want.TheVariants.{Any, Prefix, Exact}
use Rattle.hilti_classifier.specs.declared.classifier.Rule.{Rule}

-- the rules in order of adding, and whether they are compiled
pub record RuleSet (K V : Type 0) : Type 0 where
  pub rules : List (Rule K V)
  pub compiled : Bool

-- a net that is asked for has no more bits than an address
abbrev pub HasShortNet : {K : Type 0} → Want K → Type 0
HasShortNet Any = Unit {0}
HasShortNet (Prefix net) = net.len ≤ 128
HasShortNet (Exact key) = Unit {0}

-- each net of a rule has no more bits than an address
abbrev pub HasShortNets : {K V : Type 0} → Rule K V → Type 0
HasShortNets rule = All HasShortNet rule.wants

-- all rules ask something of as many fields, 1 to 8, and no net in them is longer than an address
pub record AreRules {K V : Type 0} (rules : List (Rule K V)) : Type 0 where
  pub fields : ℕ
  pub some : 1 ≤ fields
  pub few : fields ≤ 8
  pub alike : All (λ rule. length rule.wants ≡ fields) rules
  pub short : All HasShortNets rules
