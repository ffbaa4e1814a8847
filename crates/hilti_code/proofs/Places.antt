-- What stands at a place of a list that was made of another, item by item.
use Rattle.std.proofs.Common.{◌≡◌, ℕ, zero, suc, List, [], ◌∷◌, Option, Some, None}
use Rattle.std.proofs.Common.{refl, sym, ap, subst, ◌∙◌}
use Rattle.std.specs.Prelude.{slice_get}
use Rattle.std.specs.Option.{option_map, option_and_then}
use Rattle.std.proofs.lemmas.Option.{same_Some}
use Rattle.hilti_parts.specs.declared.parts.Block.{Block}
use Rattle.hilti_parts.specs.declared.parts.Function.{Function}
use Rattle.hilti_parts.specs.declared.parts.Parts.{Parts}
use Rattle.hilti_rows.specs.Resolving.{row_of}
use Rattle.hilti_rows.specs.Sources.{each_of}
use Rattle.hilti_rows.specs.declared.row.Row.{Row}
use Rattle.hilti_stack.specs.declared.head.Position.{Position}
use Rattle.hilti_code.specs.Rows.{Rows, block_rows, function_rows, rows_of, row_in, instruction_at}

-- the first of them, and the others
record Parted {B : Type 0} (first : Option B) (rest : Option (List B)) (ys : List B) : Type 0 where
  pub y : B
  pub more : List B
  pub is_first : first ≡ Some y
  pub are_rest : rest ≡ Some more
  pub both : y ∷ more ≡ ys

parted : {B : Type 0} (first : Option B) (rest : Option (List B)) (ys : List B)
    → option_and_then (λ y. option_map (λ ys. y ∷ ys) rest) first ≡ Some ys
    → Parted first rest ys
parted None rest ys e = absurd cc
parted (Some y) None ys e = absurd cc
parted (Some y) (Some more) ys e = record {
  y = y;
  more = more;
  is_first = refl;
  are_rest = refl;
  both = same_Some (y ∷ more) ys e;
}

record MadeOf {A B : Type 0} (of : A → Option B) (x : A) (ys : List B) (n : ℕ) : Type 0 where
  pub y : B
  pub stands : slice_get ys n ≡ Some y
  pub made : of x ≡ Some y

module _ {A B : Type 0} (of : A → Option B) where
  made_at : (xs : List A) (ys : List B) (n : ℕ) (x : A) → each_of of xs ≡ Some ys
      → slice_get xs n ≡ Some x → MadeOf of x ys n
  made_at [] ys n x e s = absurd cc
  made_at (a ∷ xs) ys zero x e s =
      let p = parted (of a) (each_of of xs) ys e in
      record {
        y = p.y;
        stands = ap (λ zs. slice_get zs zero) (sym p.both);
        made = subst (λ w. of w ≡ Some p.y) (same_Some a x s) p.is_first;
      }
  made_at (a ∷ xs) ys (suc n) x e s =
      let p = parted (of a) (each_of of xs) ys e in
      let m = made_at xs p.more n x p.are_rest s in
      record {
        y = m.y;
        stands = ap (λ zs. slice_get zs (suc n)) (sym p.both) ∙ m.stands;
        made = m.made;
      }

  none_at : (xs : List A) (ys : List B) (n : ℕ) → each_of of xs ≡ Some ys
      → slice_get xs n ≡ None → slice_get ys n ≡ None
  none_at [] ys n e s = ap (λ zs. slice_get zs n) (sym (same_Some [] ys e))
  none_at (a ∷ xs) ys zero e s = absurd cc
  none_at (a ∷ xs) ys (suc n) e s =
      let p = parted (of a) (each_of of xs) ys e in
      ap (λ zs. slice_get zs (suc n)) (sym p.both) ∙ none_at xs p.more n p.are_rest s

-- what is made of what stands at a place is what stands there
same_at : {A B : Type 0} (of : A → Option B) (xs : List A) (ys : List B) (n : ℕ)
    → each_of of xs ≡ Some ys
    → (found : Option A) → slice_get xs n ≡ found
    → slice_get ys n ≡ option_and_then of found
same_at of xs ys n e None s = none_at of xs ys n e s
same_at of xs ys n e (Some x) s = let m = made_at of xs ys n x e s in m.stands ∙ sym m.made

-- within a block, and within a function
in_block : (p : Position) (o : Option Block) (rows : Option (List Row))
    → rows ≡ option_and_then block_rows o
    → ((block : Block) → o ≡ Some block → (made : List Row) × (block_rows block ≡ Some made))
    → option_and_then (λ (block : List Row). slice_get block p.at) rows
    ≡ option_and_then row_of (option_and_then (λ (block : Block). slice_get block.instructions p.at) o)
in_block p None rows e all = ap (option_and_then (λ (block : List Row). slice_get block p.at)) e
in_block p (Some block) rows e all =
    let m = all block refl in
    ap (option_and_then (λ (block : List Row). slice_get block p.at)) (e ∙ m.1)
    ∙ same_at row_of block.instructions m.0 p.at m.1 (slice_get block.instructions p.at) refl

in_function : (p : Position) (o : Option Function) (rows : Option (List (List Row)))
    → ((function : Function) → o ≡ Some function
    → (made : List (List Row)) × (rows ≡ Some made) × (function_rows function ≡ Some made))
    → (o ≡ None → rows ≡ None)
    → option_and_then (λ (block : List Row). slice_get block p.at)
    (option_and_then (λ (blocks : List (List Row)). slice_get blocks p.block) rows)
    ≡ option_and_then row_of
    (option_and_then (λ (block : Block). slice_get block.instructions p.at)
    (option_and_then (λ (function : Function). slice_get function.blocks p.block) o))
in_function p None rows all none =
    ap (λ rows. option_and_then (λ (block : List Row). slice_get block p.at)
    (option_and_then (λ (blocks : List (List Row)). slice_get blocks p.block) rows)) (none refl)
in_function p (Some function) rows all none =
    let m = all function refl in
    ap (λ rows. option_and_then (λ (block : List Row). slice_get block p.at)
    (option_and_then (λ (blocks : List (List Row)). slice_get blocks p.block) rows)) m.1
    ∙ in_block p (slice_get function.blocks p.block) (slice_get m.0 p.block)
    (same_at block_rows function.blocks m.0 p.block m.2 (slice_get function.blocks p.block) refl)
    (λ block s. let g = made_at block_rows function.blocks m.0 p.block block m.2 s in (g.y, g.made))

pub stands_at_each_place : (parts : Parts) (rows : Rows) → rows_of parts ≡ Some rows
    → (p : Position) → row_in rows p ≡ option_and_then row_of (instruction_at parts p)
stands_at_each_place parts rows e p =
    in_function p (slice_get parts.functions p.function.n) (slice_get rows p.function.n)
    (λ function s.
    let g = made_at function_rows parts.functions rows p.function.n function e s in
    (g.y, g.stands, g.made))
    (λ s. none_at function_rows parts.functions rows p.function.n e s)
