-- Lists that are handed out in turn.
use Rattle.std.specs.Prelude.{List, [], ◌∷◌}

-- the first of some lists, and the empty one where none is left
abbrev pub first_or_none : {X : Type 0} → List (List X) → List X
first_or_none [] = []
first_or_none (first ∷ more) = first
