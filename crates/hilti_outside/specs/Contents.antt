-- What files hold, and what was opened or written.
use Rattle.std.specs.Prelude.{◌≡◌, ◌≢◌, ℕ, List, [], ◌++◌, Option, Some, None, unwrap_or}
use Rattle.std.specs.Ordering.{nat_cmp}
use Rattle.std.specs.Cmp.Lexicographic.{slice_cmp}
use Rattle.std.specs.FinMap.{FinMap, get}

-- from names to the bytes of the files
abbrev pub FileMap : Type 0
FileMap = FinMap (slice_cmp nat_cmp) (List ℕ)

-- the bytes of a named file; a name that is absent is an empty file
abbrev pub content : FileMap → List ℕ → List ℕ
content all name = unwrap_or (get all name) []

-- the files, where they are told, are such
abbrev pub WhereTold : Option FileMap → (FileMap → Type 0) → Type 0
WhereTold files holds = (all : FileMap) → files ≡ Some all → holds all

-- these bytes, where they are told
abbrev pub Holds : Option (List ℕ) → List ℕ → Type 0
Holds None bytes = Unit {0}
Holds (Some known) bytes = known ≡ bytes

-- told after a call only where it was told before, and then these were added
abbrev pub Grows : {A : Type 0} → Option (List A) → Option (List A) → List A → Type 0
Grows before None more = Unit {0}
Grows None (Some new) more = ⊥
Grows (Some old) (Some new) more = new ≡ old ++ more

-- a front was added that isn't the whole
abbrev pub GrowsByFront : Option (List ℕ) → Option (List ℕ) → List ℕ → Type 0
GrowsByFront before after text =
    (front back : List ℕ) × (front ++ back ≡ text) × (back ≢ []) × Grows before after front
