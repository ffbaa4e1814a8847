-- The first handler that catches a raise, and that it is typed.
use Rattle.std.proofs.Common.{◌≡◌, ℕ, zero, suc, true, [], ◌∷◌, ◌+◌, ◌<◌, ◌≤◌, List, sym, ap, ◌∙◌, length, get_or, slice_get, arith, ◌⊎◌, inl, inr}
use Rattle.std.proofs.Common.{Option, Some, None, IfSome, IsSome, IsSomeAnd, is_some}
use Rattle.std.proofs.Math.Path.{subst}
use Rattle.std.proofs.lemmas.Bool.{cases_lt, false≢true}
use Rattle.std.proofs.lemmas.List.Elements.{All-get_or}
use Rattle.std.proofs.lemmas.Option.{slice_get-get_or, slice_get_within, get_or_from_slice_get}
use Rattle.std.specs.Option.{option_and_then}
use Rattle.hilti_base.specs.declared.names.FnId.{FnId}
use Rattle.hilti_parts.specs.declared.parts.Parts.{Parts}
use Rattle.hilti_parts.specs.declared.parts.Exception.{Exception}
use Rattle.hilti_parts.specs.declared.parts.Function.{Function}
use Rattle.hilti_parts.specs.declared.parts.Block.{Block}
use Rattle.hilti_parts.specs.declared.parts.Handler.{Handler}
use Rattle.hilti_typing.specs.Programs.{context, IsTypedBlock, IsTypedHandler}
use Rattle.hilti_program.specs.Programs.{IsFunctionOf}
use Rattle.hilti_raise.specs.Handlers.{Catches, IsFirst, IsCatching, IsHandlerOf, block_at}

-- what is so of an item that is there, whatever stands for a missing one
item_at : {X : Type 0} (P : X → Type 0) (xs : List X) (i : ℕ) (d e : X) → i < length xs → P (get_or xs i d) → P (get_or xs i e)
item_at P xs i d e h is = subst P (sym (get_or_from_slice_get xs i (get_or xs i d) e (slice_get-get_or xs i d h))) is

-- what is so of the items before a place and of the item there
pub one_more : {X : Type 0} (P : X → Type 0) (xs : List X) (at : ℕ) (x : X) → at < length xs → P (get_or xs at x) →
    ((k : ℕ) (d : X) → k < at → P (get_or xs k d)) → (k : ℕ) (d : X) → k < at + 1 → P (get_or xs k d)
one_more {X} P xs at x h here before k d less = by_place (cases_lt k at)
  where
    by_place : (k < at) ⊎ (at ≤ k) → P (get_or xs k d)
    by_place (inl lt) = before k d lt
    by_place (inr le) = subst (λ n. P (get_or xs n d)) same (item_at P xs at x d h here)
      where
        same : at ≡ k
        same = omega arith

pub first_is : (exceptions : List Exception) (raised : ℕ) (handlers : List Handler) (at : ℕ) (h : Handler) → at < length handlers →
    Catches exceptions raised (get_or handlers at h) → ((k : ℕ) (d : Handler) → k < at → Catches exceptions raised (get_or handlers k d) → ⊥) →
    IsFirst exceptions raised handlers (get_or handlers at h)
first_is exceptions raised handlers at h within catches before = record {
  at = at;
  stands = slice_get-get_or handlers at h within;
  catches = catches;
  none_before = λ k g lt there caught.
      before k g lt (subst (Catches exceptions raised) (sym (get_or_from_slice_get handlers k g g there)) caught);
}

there_within : {X : Type 0} (xs : List X) (i : ℕ) → is_some (slice_get xs i) ≡ true → i < length xs
there_within [] i some = absurd (false≢true some)
there_within (x ∷ xs) zero some = omega arith
there_within (x ∷ xs) (suc i) some = let it = there_within xs i some in omega (arith, it)

-- the block that stands at a place of a function, and its handlers
pub record Stands (parts : Parts) (f : FnId) (function : Function) (at : ℕ) (block : Block) : Type 0 where
  pub is : IsFunctionOf parts f function
  pub within : at < length function.blocks
  pub stands : block ≡ get_or function.blocks at block

pub stands_at : (parts : Parts) (f : FnId) (function : Function) (at : ℕ) (block : Block) (blocks : List Block) → IsFunctionOf parts f function →
    IsSome (block_at parts f.n at) → blocks ≡ function.blocks → block ≡ get_or blocks at block → Stands parts f function at block
stands_at parts f function at block blocks is some same stands = record {
  is = is;
  within = there_within function.blocks at (ap (λ found. is_some (option_and_then (λ (g : Function). slice_get g.blocks at) found)) (sym is.stands) ∙ some);
  stands = stands ∙ ap (λ (bs : List Block). get_or bs at block) same;
}

module _ (parts : Parts) (f : FnId) (function : Function) (at : ℕ) (block : Block) (known : Stands parts f function at block) where
  block_is : block_at parts f.n at ≡ Some block
  block_is =
      ap (λ found. option_and_then (λ (g : Function). slice_get g.blocks at) found) known.is.stands
      ∙ (slice_get-get_or function.blocks at block known.within ∙ ap (λ b. Some b) (sym known.stands))

  typed_block : IsTypedBlock (context parts f.n function) function.params block
  typed_block = subst (IsTypedBlock (context parts f.n function) function.params) (sym known.stands)
      (All-get_or (IsTypedBlock (context parts f.n function) function.params) function.blocks at block known.within known.is.typed.blocks)

  typed_handler : (n : ℕ) (h : Handler) → slice_get block.handlers n ≡ Some h → IsTypedHandler (context parts f.n function) function.params h
  typed_handler n h there = subst (IsTypedHandler (context parts f.n function) function.params) (get_or_from_slice_get block.handlers n h h there)
      (All-get_or (IsTypedHandler (context parts f.n function) function.params) block.handlers n h (slice_get_within block.handlers n h there) typed_block.handlers)

  same_function : (g : Function) → Some function ≡ Some g → function ≡ g
  same_function g e = cc

  pub caught : (raised : ℕ) (handlers : List Handler) (found : Option Handler) → handlers ≡ block.handlers → IsCatching parts.exceptions raised handlers found →
      IsSomeAnd (block_at parts f.n at) (λ b. IsCatching parts.exceptions raised b.handlers found)
  caught raised handlers found same catching =
      subst (λ b. IsSomeAnd b (λ b. IsCatching parts.exceptions raised b.handlers found)) (sym block_is)
      (subst (λ hs. IsCatching parts.exceptions raised hs found) same catching)

  typed_by : (raised : ℕ) (found : Option Handler) → IsCatching parts.exceptions raised block.handlers found → IfSome found (IsHandlerOf parts f.n)
  typed_by raised None catching = tt
  typed_by raised (Some h) catching = λ g there.
      subst (λ (k : Function). IsTypedHandler (context parts f.n k) k.params h) (same_function g (sym known.is.stands ∙ there)) (typed_handler catching.at h catching.stands)

  pub caught_is_typed : (raised : ℕ) (handlers : List Handler) (found : Option Handler) → handlers ≡ block.handlers → IsCatching parts.exceptions raised handlers found →
      IfSome found (IsHandlerOf parts f.n)
  caught_is_typed raised handlers found same catching = typed_by raised found (subst (λ hs. IsCatching parts.exceptions raised hs found) same catching)
