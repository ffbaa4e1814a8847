-- Pieces that are read or written one after another.
use Rattle.std.proofs.Common.{◌≡◌, ℕ, ◌-◌, List, ◌++◌, length, take, drop, Option, Some, None, ◌∙◌, ap, arith, append_assoc, length-drop}
use Rattle.std.proofs.lemmas.List.{take_all, take-append-drop}
use Rattle.hilti_outside.specs.Contents.{Grows}

-- what was read, and then what is left, is all
abbrev pub Leaves : List ℕ → Option (List ℕ) → List ℕ → Type 0
Leaves read None all = ⊥
Leaves read (Some rest) all = read ++ rest ≡ all

-- what is written by two writes
pub grows_more : {A : Type 0} (before between after : Option (List A)) (front piece : List A)
    → Grows before between front → Grows between after piece → Grows before after (front ++ piece)
grows_more before between None front piece g h = tt
grows_more before None (Some c) front piece g h = absurd h
grows_more None (Some b) (Some c) front piece g h = absurd g
grows_more (Some a) (Some b) (Some c) front piece g h = h ∙ ap (λ s. s ++ piece) g ∙ append_assoc a front piece

-- one more write, of a front of what is left
pub wrote_more : (text rest : List ℕ) (n : ℕ) (first old new : Option (List ℕ)) → ((front : List ℕ) × (front ++ rest ≡ text) × Grows first old front) → Grows old new (take n rest)
    → (front : List ℕ) × (front ++ take (length rest - n) (drop n rest) ≡ text) × Grows first new front
wrote_more text rest n first old new (front, whole, grown) more =
    let all_of : take (length rest - n) (drop n rest) ≡ drop n rest = take_all _ _ (omega (arith, length-drop n rest)) in (
      front ++ take n rest,
      ap (λ s. (front ++ take n rest) ++ s) all_of ∙ append_assoc front (take n rest) (drop n rest) ∙ ap (λ s. front ++ s) (take-append-drop n rest) ∙ whole,
      grows_more first old new front (take n rest) grown more,
    )
