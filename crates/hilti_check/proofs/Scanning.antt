-- Looking for the first instruction that isn't built.
use Rattle.std.proofs.Common.{◌≡◌, refl, sym, ◌∙◌, ap, ap₂, ℕ, zero, suc, ◌+◌, ◌<◌, ◌≤◌, min, Bool, true, false, not, ◌&&◌, cond, List, [], ◌∷◌, ◌++◌, length, take, drop, get_or, Option, Some, None, arith}
use Rattle.std.specs.Prelude.{find}
use Rattle.std.specs.List.{zip, flat_map, list_all}
use Rattle.std.specs.Option.{option_map, option_or, is_some}
use Rattle.std.proofs.lemmas.Bool.{false≢true}
use Rattle.std.proofs.lemmas.List.{drop-drop, drop_all, take_all, take_more, flat_map_more}
use Rattle.std.proofs.lemmas.List.Folds.{find-append, list_all_at, list_all_more}
use Rattle.hilti_base.specs.declared.names.Place.{Place}
use Rattle.hilti_module.specs.declared.module.Module.{Module}
use Rattle.hilti_link.specs.declared.tables.LinkedFunction.{LinkedFunction}
use Rattle.hilti_parts.specs.declared.parts.Block.{Block}
use Rattle.hilti_parts.specs.declared.parts.Instruction.{Instruction}
use Rattle.hilti_declared.specs.Turns.{first_or_none}
use Rattle.hilti_operands.proofs.Telling.{front}
use Rattle.hilti_check.specs.Built.{is_built, is_unbuilt, unbuilt_place, instructions_of, placed_in, all_placed}

abbrev place_of : Option (Place × Instruction) → Option Place
place_of found = option_map (λ (x : Place × Instruction). x.0) found

-- one that is built is passed, and one that isn't is found
pub passes : (k : Place) (v : Instruction) (rest : List (Place × Instruction)) → is_built v ≡ true → unbuilt_place ((k, v) ∷ rest) ≡ unbuilt_place rest
passes k v rest built = ap (λ b. place_of (cond (not b) (Some (k, v)) (find is_unbuilt rest))) built

pub finds : (k : Place) (v : Instruction) (rest : List (Place × Instruction)) → is_built v ≡ false → unbuilt_place ((k, v) ∷ rest) ≡ Some k
finds k v rest unbuilt = ap (λ b. place_of (cond (not b) (Some (k, v)) (find is_unbuilt rest))) unbuilt

-- some, and then others
place_or : (a b : Option (Place × Instruction)) → place_of (option_or a b) ≡ option_or (place_of a) (place_of b)
place_or None b = refl
place_or (Some x) b = refl

unbuilt-append : (xs ys : List (Place × Instruction)) → unbuilt_place (xs ++ ys) ≡ option_or (unbuilt_place xs) (unbuilt_place ys)
unbuilt-append xs ys = ap place_of (find-append is_unbuilt xs ys) ∙ place_or (find is_unbuilt xs) (find is_unbuilt ys)

pub passes_all : (xs ys : List (Place × Instruction)) → unbuilt_place xs ≡ None → unbuilt_place (xs ++ ys) ≡ unbuilt_place ys
passes_all xs ys none = unbuilt-append xs ys ∙ ap (λ o. option_or o (unbuilt_place ys)) none

pub finds_among : (xs ys : List (Place × Instruction)) (k : Place) → unbuilt_place xs ≡ Some k → unbuilt_place (xs ++ ys) ≡ Some k
finds_among xs ys k some = unbuilt-append xs ys ∙ ap (λ o. option_or o (unbuilt_place ys)) some

-- instructions beside their places, from one on
module _ (ks : List Place) (vs : List Instruction) where
  abbrev pub Left : ℕ → Type 0
  Left n = unbuilt_place (zip (drop n ks) (drop n vs)) ≡ unbuilt_place (zip ks vs)

  pub left_all : Left 0
  left_all = refl

  next : (n : ℕ) (k : Place) (v : Instruction) → n < length ks → n < length vs → k ≡ get_or ks n k → v ≡ get_or vs n v
      → zip (drop n ks) (drop n vs) ≡ (k, v) ∷ zip (drop (n + 1) ks) (drop (n + 1) vs)
  next n k v hk hv ik iv = ap₂ (λ xs ys. zip xs ys) (front ks n k hk ik) (front vs n v hv iv)

  pub left_more : (n : ℕ) (k : Place) (v : Instruction) → n < length ks → n < length vs → k ≡ get_or ks n k → v ≡ get_or vs n v
      → is_built v ≡ true → Left n → Left (n + 1)
  left_more n k v hk hv ik iv built left =
      sym (passes k v (zip (drop (n + 1) ks) (drop (n + 1) vs)) built) ∙ sym (ap unbuilt_place (next n k v hk hv ik iv)) ∙ left

  pub left_found : (n : ℕ) (k : Place) (v : Instruction) → n < length ks → n < length vs → k ≡ get_or ks n k → v ≡ get_or vs n v
      → is_built v ≡ false → Left n → Some k ≡ unbuilt_place (zip ks vs)
  left_found n k v hk hv ik iv unbuilt left =
      sym (finds k v (zip (drop (n + 1) ks) (drop (n + 1) vs)) unbuilt) ∙ sym (ap unbuilt_place (next n k v hk hv ik iv)) ∙ left

none_beside : (ks : List Place) → unbuilt_place (zip ks []) ≡ None
none_beside [] = refl
none_beside (k ∷ ks) = refl

ends : (n : ℕ) (ks : List Place) (vs : List Instruction) → n ≡ min (length ks) (length vs) → unbuilt_place (zip (drop n ks) (drop n vs)) ≡ None
ends n [] vs is = ap (λ xs. unbuilt_place (zip xs (drop n vs))) (drop_all n [] (omega arith))
ends n (k ∷ ks) [] is = ap (λ ys. unbuilt_place (zip (drop n (k ∷ ks)) ys)) (drop_all n [] (omega arith)) ∙ none_beside (drop n (k ∷ ks))
ends zero (k ∷ ks) (v ∷ vs) is = absurd (omega arith)
ends (suc n) (k ∷ ks) (v ∷ vs) is = ends n ks vs (omega arith)

pub left_end : (ks : List Place) (vs : List Instruction) (n : ℕ) → n ≡ min (length ks) (length vs) → Left ks vs n → None ≡ unbuilt_place (zip ks vs)
left_end ks vs n is left = sym (ends n ks vs is) ∙ left

-- the instructions of some blocks beside their places
zip-append : (ks : List Place) (xs ys : List Instruction) → zip ks (xs ++ ys) ≡ zip ks xs ++ zip (drop (length xs) ks) ys
zip-append [] [] ys = refl
zip-append [] (x ∷ xs) ys = refl
zip-append (k ∷ ks) [] ys = refl
zip-append (k ∷ ks) (x ∷ xs) ys = ap (λ l. (k, x) ∷ l) (zip-append ks xs ys)

module _ (ks : List Place) (bs : List Block) where
  -- what is found behind some blocks, where these places are left
  abbrev pub Behind : List Place → ℕ → Type 0
  Behind left n = unbuilt_place (zip left (instructions_of (drop n bs))) ≡ unbuilt_place (zip ks (instructions_of bs))

  block : (left : List Place) (n : ℕ) (b : Block) → n < length bs → b ≡ get_or bs n b
      → zip left (instructions_of (drop n bs)) ≡ zip left b.instructions ++ zip (drop (length b.instructions) left) (instructions_of (drop (n + 1) bs))
  block left n b h is = ap (λ rest. zip left (instructions_of rest)) (front bs n b h is) ∙ zip-append left b.instructions (instructions_of (drop (n + 1) bs))

  pub block_passed : (left new : List Place) (n : ℕ) (b : Block) (xs : List Instruction) (count : ℕ) → n < length bs → b ≡ get_or bs n b → xs ≡ b.instructions
      → None ≡ unbuilt_place (zip left xs) → count ≡ length xs → new ≡ drop count left → Behind left n → Behind new (n + 1)
  block_passed left new n b xs count h is own none counted new_is so =
      ap (λ l. unbuilt_place (zip l (instructions_of (drop (n + 1) bs)))) (new_is ∙ ap (λ k. drop k left) (counted ∙ ap length own))
      ∙ sym (passes_all (zip left b.instructions) (zip (drop (length b.instructions) left) (instructions_of (drop (n + 1) bs))) (sym (none ∙ ap (λ l. unbuilt_place (zip left l)) own)))
      ∙ sym (ap unbuilt_place (block left n b h is)) ∙ so

  pub block_found : (left : List Place) (n : ℕ) (b : Block) (xs : List Instruction) (k : Place) → n < length bs → b ≡ get_or bs n b → xs ≡ b.instructions
      → Some k ≡ unbuilt_place (zip left xs) → Behind left n → Some k ≡ unbuilt_place (zip ks (instructions_of bs))
  block_found left n b xs k h is own some so =
      sym (finds_among (zip left b.instructions) (zip (drop (length b.instructions) left) (instructions_of (drop (n + 1) bs))) k (sym (some ∙ ap (λ l. unbuilt_place (zip left l)) own)))
      ∙ sym (ap unbuilt_place (block left n b h is)) ∙ so

  pub blocks_end : (left : List Place) (n : ℕ) → length bs ≤ n → Behind left n → None ≡ unbuilt_place (zip ks (instructions_of bs))
  blocks_end left n past so = sym (ap (λ rest. unbuilt_place (zip left (instructions_of rest))) (drop_all n bs past) ∙ none_beside left) ∙ so

-- functions with the blocks of each in turn, from one on
module _ (modules : List Module) (fs : List LinkedFunction) (all : List (List Block)) (whole : Option Place) where
  abbrev pub From : ℕ → Type 0
  From n = unbuilt_place (all_placed modules (drop n fs) (drop n all)) ≡ whole

  of_one : (f : LinkedFunction) (more : List LinkedFunction) (blocks : List (List Block))
      → all_placed modules (f ∷ more) blocks ≡ placed_in modules f (first_or_none blocks) ++ all_placed modules more (drop 1 blocks)
  unfolding all_placed
  of_one f more blocks = refl

  of_none : (blocks : List (List Block)) → all_placed modules [] blocks ≡ []
  unfolding all_placed
  of_none blocks = refl

  function : (n : ℕ) (f : LinkedFunction) (own : List Block) → n < length fs → f ≡ get_or fs n f → own ≡ first_or_none (drop n all)
      → all_placed modules (drop n fs) (drop n all) ≡ placed_in modules f own ++ all_placed modules (drop (n + 1) fs) (drop (n + 1) all)
  function n f own h is own_is =
      ap (λ l. all_placed modules l (drop n all)) (front fs n f h is) ∙ of_one f (drop (n + 1) fs) (drop n all)
      ∙ ap₂ (λ b l. placed_in modules f b ++ all_placed modules (drop (n + 1) fs) l) (sym own_is) (drop-drop 1 n all)

  pub function_passed : (n : ℕ) (f : LinkedFunction) (own : List Block) (o : Option Place) → n < length fs → f ≡ get_or fs n f → own ≡ first_or_none (drop n all)
      → o ≡ unbuilt_place (placed_in modules f own) → is_some o ≡ false → From n → From (n + 1)
  function_passed n f own None h is own_is none unfound so =
      sym (passes_all (placed_in modules f own) (all_placed modules (drop (n + 1) fs) (drop (n + 1) all)) (sym none))
      ∙ sym (ap unbuilt_place (function n f own h is own_is)) ∙ so
  function_passed n f own (Some k) h is own_is none unfound so = absurd (false≢true (sym unfound))

  pub function_found : (n : ℕ) (f : LinkedFunction) (own : List Block) (o : Option Place) → n < length fs → f ≡ get_or fs n f → own ≡ first_or_none (drop n all)
      → o ≡ unbuilt_place (placed_in modules f own) → is_some o ≡ true → From n → o ≡ whole
  function_found n f own None h is own_is some found so = absurd (false≢true found)
  function_found n f own (Some k) h is own_is some found so =
      sym (finds_among (placed_in modules f own) (all_placed modules (drop (n + 1) fs) (drop (n + 1) all)) k (sym some))
      ∙ sym (ap unbuilt_place (function n f own h is own_is)) ∙ so

  pub functions_end : (n : ℕ) → length fs ≤ n → From n → None ≡ whole
  functions_end n past so =
      sym (ap (λ l. unbuilt_place (all_placed modules l (drop n all))) (drop_all n fs past) ∙ ap unbuilt_place (of_none (drop n all))) ∙ so

-- tests of all of some things, and what is noted of each
module _ {X : Type 0} (p : X → Bool) (xs : List X) where
  pub fails_at : (n : ℕ) (x : X) → n < length xs → x ≡ get_or xs n x → p x ≡ false → false ≡ list_all p xs
  fails_at n x h is fails = sym (list_all_at p xs n x h (ap p (sym is) ∙ fails))

  pub passes_more : (n : ℕ) (x : X) → n < length xs → x ≡ get_or xs n x → p x ≡ true → list_all p (take n xs) ≡ true → list_all p (take (n + 1) xs) ≡ true
  passes_more n x h is pass so = list_all_more p xs n x h ∙ ap₂ (λ a b. a && b) so (ap p (sym is) ∙ pass)

  pub passes_end : (n : ℕ) → length xs ≤ n → list_all p (take n xs) ≡ true → true ≡ list_all p xs
  passes_end n past so = sym so ∙ ap (λ l. list_all p l) (take_all n xs past)

module _ {X Y : Type 0} (f : X → List Y) (xs : List X) where
  pub noted : (n : ℕ) (x : X) (ys : List Y) → n < length xs → x ≡ get_or xs n x → ys ≡ flat_map f (take n xs) → ys ++ f x ≡ flat_map f (take (n + 1) xs)
  noted n x ys h is so =
      ap (λ l. l ++ f x) so ∙ flat_map_more f [] (take n xs) x
      ∙ ap (λ l. flat_map f l) (ap (λ y. take n xs ++ y ∷ []) is ∙ sym (take_more xs n x h))
