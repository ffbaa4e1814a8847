-- A vector that is handed out, one item after another, and what is made of each.
use Rattle.std.proofs.Common.{◌≡◌, refl, sym, ◌∙◌, ap, ℕ, ◌+◌, List, [], ◌∷◌, ◌++◌, length, map, append_assoc, append-nil, arith}
use Rattle.std.proofs.lemmas.List.{map_push}

pub none_left : {X : Type 0} (left : List X) → length left ≡ 0 → left ≡ []
none_left [] h = refl
none_left (x ∷ xs) h = absurd (omega arith)

module _ {X Y : Type 0} (f : X → Y) where
  -- what was handed out and what is left are all, and these were made of them
  pub record Handed (first made : List Y) (yielded left all : List X) (count : ℕ) : Type 0 where
    pub parts : yielded ++ left ≡ all
    pub counted : count ≡ length left
    pub made_are : made ≡ first ++ map f yielded

  pub handed_none : (first : List Y) (all : List X) (count : ℕ) → count ≡ length all → Handed first first [] all all count
  handed_none first all count counted = record { parts = refl; counted = counted; made_are = sym (append-nil first) }

  pub handed_more : (first made new : List Y) (yielded left rest all : List X) (x : X) (count fewer : ℕ)
      → Handed first made yielded left all count → left ≡ x ∷ rest → count ≡ fewer + 1 → new ≡ made ++ f x ∷ []
      → Handed first new (yielded ++ x ∷ []) rest all fewer
  handed_more first made new yielded left rest all x count fewer so is fewer_is new_is = record {
    parts = append_assoc yielded (x ∷ []) rest ∙ ap (λ l. yielded ++ l) (sym is) ∙ so.parts;
    counted = (let counted = so.counted in let same = ap length is in omega arith);
    made_are = new_is ∙ ap (λ l. l ++ f x ∷ []) so.made_are ∙ append_assoc first (map f yielded) (f x ∷ [])
        ∙ ap (λ l. first ++ l) (sym (map_push f yielded x));
  }

  pub handed_all : (first made : List Y) (yielded left all : List X) (count : ℕ) → Handed first made yielded left all count → count ≡ 0
      → made ≡ first ++ map f all
  handed_all first made yielded left all count so zero =
      let counted = so.counted in
      let empty = none_left left (omega arith) in
      so.made_are ∙ ap (λ l. first ++ map f l) (sym (append-nil yielded) ∙ ap (λ l. yielded ++ l) (sym empty) ∙ so.parts)
