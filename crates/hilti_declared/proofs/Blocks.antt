-- Functions that get their blocks, one after another.
use Rattle.std.proofs.Common.{◌≡◌, refl, sym, ◌∙◌, ap, ap₂, ℕ, ◌+◌, List, [], ◌∷◌, ◌++◌, length, drop, append_assoc, append-nil, arith}
use Rattle.hilti_link.specs.declared.tables.LinkedFunction.{LinkedFunction}
use Rattle.hilti_parts.specs.declared.parts.Block.{Block}
use Rattle.hilti_parts.specs.declared.parts.Function.{Function}
use Rattle.hilti_declared.specs.Declaring.{function_of, functions_with}
use Rattle.hilti_declared.specs.Turns.{first_or_none}
use Rattle.hilti_declared.proofs.Handing.{none_left}

-- functions made of those that were handed out, with what is left of them and of the blocks
pub record Given (made : List Function) (left all : List LinkedFunction) (blocks whole : List (List Block)) (count : ℕ) : Type 0 where
  pub so_far : made ++ functions_with left blocks ≡ functions_with all whole
  pub counted : count ≡ length left

pub given_none : (all : List LinkedFunction) (whole : List (List Block)) (count : ℕ) → count ≡ length all → Given [] all all whole whole count
given_none all whole count counted = record { so_far = refl; counted = counted }

pub given_more : (made new : List Function) (left rest all : List LinkedFunction) (f : LinkedFunction) (blocks others whole : List (List Block)) (own : List Block) (count fewer : ℕ)
    → Given made left all blocks whole count → left ≡ f ∷ rest → count ≡ fewer + 1 → own ≡ first_or_none blocks → others ≡ drop 1 blocks
    → new ≡ made ++ function_of f own ∷ [] → Given new rest all others whole fewer
unfolding functions_with
given_more made new left rest all f blocks others whole own count fewer so is fewer_is own_is others_are new_is = record {
  so_far = ap₂ (λ l o. l ++ functions_with rest o) new_is others_are
      ∙ append_assoc made (function_of f own ∷ []) (functions_with rest (drop 1 blocks))
      ∙ ap (λ b. made ++ function_of f b ∷ functions_with rest (drop 1 blocks)) own_is
      ∙ ap (λ l. made ++ functions_with l blocks) (sym is) ∙ so.so_far;
  counted = (let counted = so.counted in let same = ap length is in omega arith);
}

pub given_all : (made : List Function) (left all : List LinkedFunction) (blocks whole : List (List Block)) (count : ℕ)
    → Given made left all blocks whole count → count ≡ 0 → made ≡ functions_with all whole
unfolding functions_with
given_all made left all blocks whole count so zero_ =
    let counted = so.counted in
    let empty = none_left left (omega arith) in
    sym (append-nil made) ∙ ap (λ l. made ++ functions_with l blocks) (sym empty) ∙ so.so_far
