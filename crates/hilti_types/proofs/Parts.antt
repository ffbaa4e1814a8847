-- What is told of all the parts of a type, told of one after another.
use Rattle.std.proofs.Common.{◌≡◌, sym, ◌∙◌, ap, ℕ, ◌<◌, ◌≤◌, Bool, true, false, List, length, map, take, get_or}
use Rattle.std.specs.List.{list_all}
use Rattle.std.proofs.lemmas.List.{take_all}
use Rattle.std.proofs.lemmas.List.Folds.{list_all-map, list_all_at}

-- one of the parts fails
pub fails_at : {X : Type 0} (told : X → Bool) (all items : List X) (at : ℕ) (part : X) → items ≡ all → at < length items
    → part ≡ get_or items at part → told part ≡ false → false ≡ list_all (λ yes. yes) (map told all)
fails_at told all items at part same below is fails =
    let failed = list_all_at told items at part below (ap told (sym is) ∙ fails) in
    sym (list_all-map (λ yes. yes) told all ∙ ap (list_all told) (sym same) ∙ failed)

-- all of the parts pass
pub all_pass : {X : Type 0} (told : X → Bool) (all items : List X) (at : ℕ) → items ≡ all → length items ≤ at
    → list_all told (take at items) ≡ true → true ≡ list_all (λ yes. yes) (map told all)
all_pass told all items at same past passed =
    sym (list_all-map (λ yes. yes) told all ∙ ap (list_all told) (sym same ∙ sym (take_all at items past)) ∙ passed)
