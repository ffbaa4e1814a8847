-- What holds of the bytes that are still unread, before and after a call, where they are told.
use Rattle.std.specs.Prelude.{ℕ, List, Option, Some, None}

-- a relation holds between them; what was told stays told
abbrev pub Related : (List ℕ → List ℕ → Type 0) → Option (List ℕ) → Option (List ℕ) → Type 0
Related holds None after = Unit {0}
Related holds (Some before) None = ⊥
Related holds (Some before) (Some after) = holds before after

-- a fact holds of them
abbrev pub WhereKnown : Option (List ℕ) → (List ℕ → Type 0) → Type 0
WhereKnown None holds = Unit {0}
WhereKnown (Some rest) holds = holds rest
