-- What a loop over a list gives, one item after another.
use Rattle.std.proofs.Common.{List, ◌++◌, Option}
use Rattle.std.specs.Option.{option_map}

-- a list in front of another, if that is there
abbrev pub behind : {A : Type 0} → List A → Option (List A) → Option (List A)
behind front rest = option_map (λ ys. front ++ ys) rest
