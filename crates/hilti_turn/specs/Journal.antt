-- The entries of a journal by who made them.
use Rattle.std.specs.Prelude.{◌≡◌, ◌==◌, ℕ, List, ◌++◌, filter, All}

-- the entries that the pass of this number made
abbrev pub made_by : {E : Type 0} → (E → ℕ) → ℕ → List E → List E
made_by maker number log = filter (λ e. maker e == number) log

-- the journal goes on behind what was seen, by entries of this pass alone
abbrev pub GoesOnBy : {E : Type 0} → (E → ℕ) → ℕ → List E → List E → Type 0
GoesOnBy {E} maker number seen log =
    (more : List E) × (log ≡ seen ++ more) × All (λ e. maker e ≡ number) more
