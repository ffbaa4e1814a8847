-- How many calls a thread started.
use Rattle.std.specs.Prelude.{ℕ, ◌==◌, cond, suc, List, [], ◌∷◌}
use Rattle.hilti_core.specs.Machine.{Start}

-- how many of these calls a thread started
abbrev pub calls_of : ℕ → List Start → ℕ
calls_of r [] = 0
calls_of r (start ∷ more) = cond (r == start.receiver) (suc (calls_of r more)) (calls_of r more)
