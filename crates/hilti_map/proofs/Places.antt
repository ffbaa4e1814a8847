-- What an iterator over a map gives behind some entries.
use Rattle.std.proofs.Common.{◌≡◌, refl, ℕ, List, slice_get, Option, None, Some, sym, subst, arith}
use Rattle.std.proofs.lemmas.Map.Iter.{iter_turn, iter_end}
use Rattle.std.proofs.lemmas.Option.{slice_get_past}
use Rattle.std.specs.Iterator.{SkipsThenYields}
use Rattle.std.specs.Map.Iter.{TakesFirst}
use Rattle.std.specs.Option.{option_map}

-- the entry behind the first n, if there is one
pub nth_shown : {A X : Type 0} (shows : A → X) (all s u : List X) (n : ℕ) (r : Option A)
    → s ≡ all → SkipsThenYields (TakesFirst shows) s n r u → option_map shows r ≡ slice_get all n
nth_shown shows all s u n None start d =
    let end = iter_end shows all d.0 s d.1.0 u None start d.1.1 refl d.1.2 in
    sym (slice_get_past all n (omega (arith, end.1, d.2)))
nth_shown shows all s u n (Some x) start d =
    let turn = iter_turn shows all d.0 s d.1.0 u (Some x) start d.1.1 x refl d.1.2 in
    sym (subst (λ i. slice_get all i ≡ Some (shows x)) d.2 turn.1)
