-- Words that no built-in exception has for its name.
use Rattle.std.proofs.Common.{◌≡◌, ℕ, false, List, [], ◌∷◌, bytes_eq, position, None, refl}
use Rattle.hilti_scope.proofs.Positions.{position_none}

abbrev pub IsOther : List ℕ → List (List ℕ) → Type 0
IsOther word [] = Unit {0}
IsOther word (name ∷ names) = (bytes_eq name word ≡ false) × IsOther word names

pub none_of : (word : List ℕ) (names : List (List ℕ)) → IsOther word names → position (λ name. bytes_eq name word) names ≡ None
none_of word [] other = refl
none_of word (name ∷ names) other = position_none (λ name. bytes_eq name word) name names other.0 (none_of word names other.1)
