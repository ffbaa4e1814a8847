-- A name that is shown with `::` has one owner and one word, where neither of these has a colon.
use Rattle.std.proofs.Common.{◌≡◌, refl, sym, ◌∙◌, ap, ℕ, nat_eq, Bool, true, false, List, [], ◌∷◌, ◌++◌, append_assoc, codes}
use Rattle.std.specs.Prelude.{◌||◌}
use Rattle.std.specs.List.{list_any}
use Rattle.std.proofs.lemmas.Bool.{false≢true}
use Rattle.std.proofs.lemmas.List.Folds.{list_any-append}
use Rattle.hilti_link.specs.Seeing.{qualified}

abbrev pub has_colon : List ℕ → Bool
has_colon bytes = list_any (λ (c : ℕ). nat_eq c 58) bytes

or_true : (b c : Bool) → c ≡ true → (b || c) ≡ true
or_true true c is = refl
or_true false c is = is

or_false : (b c : Bool) → (b || c) ≡ false → c ≡ false
or_false true c is = absurd (false≢true (sym is))
or_false false c is = is

none_inside : (bytes front rest : List ℕ) → has_colon bytes ≡ false → bytes ≡ front ++ 58 ∷ rest → ⊥
none_inside bytes front rest none is =
    false≢true (sym none ∙ ap has_colon is ∙ list_any-append (λ (c : ℕ). nat_eq c 58) front (58 ∷ rest) ∙ or_true (has_colon front) (has_colon (58 ∷ rest)) refl)

split : (owner word front rest : List ℕ) → has_colon front ≡ false → has_colon rest ≡ false → owner ++ 58 ∷ 58 ∷ word ≡ front ++ 58 ∷ 58 ∷ rest
    → (owner ≡ front) × (word ≡ rest)
split [] word [] rest no_front no_rest is = (refl, cc)
split [] word (c ∷ front) rest no_front no_rest is =
    let same : c ≡ 58 = cc in
    absurd (none_inside (c ∷ front) [] front no_front (ap (λ n. n ∷ front) same))
split (c ∷ []) word [] rest no_front no_rest is =
    let same : rest ≡ 58 ∷ word = cc in
    absurd (none_inside rest [] word no_rest same)
split (c ∷ d ∷ owner) word [] rest no_front no_rest is =
    let same : rest ≡ owner ++ 58 ∷ 58 ∷ word = cc in
    absurd (none_inside rest owner (58 ∷ word) no_rest same)
split (c ∷ owner) word (d ∷ front) rest no_front no_rest is =
    let first : c ≡ d = cc in
    let more : owner ++ 58 ∷ 58 ∷ word ≡ front ++ 58 ∷ 58 ∷ rest = cc in
    let both = split owner word front rest (or_false (nat_eq d 58) (has_colon front) no_front) no_rest more in
    let owners = both.0 in
    (cc, both.1)

pub one_owner : (owner word front rest : List ℕ) → has_colon front ≡ false → has_colon rest ≡ false → qualified owner word ≡ qualified front rest
    → (owner ≡ front) × (word ≡ rest)
one_owner owner word front rest no_front no_rest is =
    split owner word front rest no_front no_rest (sym (append_assoc owner (codes "::") word) ∙ is ∙ append_assoc front (codes "::") rest)
