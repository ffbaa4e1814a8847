-- What a scope and the tables in front of it show.
use Rattle.std.specs.Prelude.{◌≡◌, ℕ, List, is_some}
use Rattle.hilti_scope.specs.declared.scope.Scope.{Scope}
use Rattle.hilti_scope.specs.FirstPlaces.{place_of}
use Rattle.hilti_scope.specs.Meanings.{is_among}
use Rattle.hilti_scope.specs.Scopes.{means}
use Rattle.hilti_link.specs.declared.tables.Tables.{Tables}
use Rattle.hilti_link.specs.Seeing.{View}

abbrev pub view_in : Tables → Scope → View
view_in tables scope = record { tables = tables; mean = means scope }

-- the words that are noted are these
abbrev pub Holds : List (List ℕ) → List (List ℕ × ℕ) → Type 0
Holds words noted = (bytes : List ℕ) → is_some (place_of noted bytes) ≡ is_among words bytes

-- what holds of all words that are noted
abbrev pub ForWords : List (List ℕ × ℕ) → (List (List ℕ) → Type 0) → Type 0
ForWords noted holds = (words : List (List ℕ)) → Holds words noted → holds words
