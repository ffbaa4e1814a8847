-- How far a look through the rules has come.
use Rattle.std.specs.Prelude.{◌≡◌, ◌<◌, ◌≤◌, Bool, List, Option, Some, None}
use Rattle.hilti_classifier.specs.declared.want.Field.{Field}
use Rattle.hilti_classifier.specs.declared.classifier.Match.{Match}
use Rattle.hilti_classifier.specs.declared.classifier.Rule.{Rule}
use Rattle.hilti_classifier.specs.Matches.{IsFirstMatch, NothingMatches}

-- the first match with its priority, if there is one
abbrev pub IsBest : {K V : Type 0} → (K → K → Bool) → List (Rule K V) → List (Field K)
    → Option Match → Type 0
IsBest eq rules query None = NothingMatches eq rules query
IsBest eq rules query (Some best) =
    (match : IsFirstMatch eq rules query best.at) × (match.rule.priority ≡ best.priority)

-- a later match is taken in the place of the best one where its priority is greater
abbrev pub IsBetter : Option Match → Match → Match → Type 0
IsBetter None later taken = taken ≡ later
IsBetter (Some best) later taken =
    (later.priority ≤ best.priority → taken ≡ best)
    × (best.priority < later.priority → taken ≡ later)
