-- The rules of a classifier stay alike.
use Rattle.std.proofs.Common.{◌≡◌, Bool, ◌≤◌, List, [], ◌∷◌, ◌++◌, length, refl, sym, subst, arith}
use Rattle.std.specs.List.{All}
use Rattle.std.proofs.lemmas.List.Elements.{All-nil, All-push}
use Rattle.hilti_classifier.specs.declared.classifier.Rule.{Rule}
use Rattle.hilti_classifier.specs.RuleSet.{AreRules, HasShortNets, RuleSet}

pub no_rules : {K V : Type 0} (rules : List (Rule K V)) → rules ≡ [] → AreRules rules
no_rules rules none = subst AreRules (sym none) record {
  fields = 1;
  some = omega arith;
  few = omega arith;
  alike = All-nil _;
  short = All-nil _;
}

pub one_more : {K V : Type 0} (rules more : List (Rule K V)) (compiled : Bool) (set : RuleSet K V) (rule : Rule K V) → record { rules = rules; compiled = compiled } ≡ set → more ≡ rules ++ rule ∷ []
    → 1 ≤ length rule.wants → length rule.wants ≤ 8 → All (λ other. length other.wants ≡ length rule.wants) set.rules → HasShortNets rule → AreRules rules → AreRules more
one_more rules more compiled set rule view is some few alike short kept = subst AreRules (sym is) record {
  fields = length rule.wants;
  some = some;
  few = few;
  alike = All-push (λ other. length other.wants ≡ length rule.wants) rules rule (subst (λ set. All (λ other. length other.wants ≡ length rule.wants) set.rules) (sym view) alike) refl;
  short = All-push HasShortNets rules rule kept.short short;
}
