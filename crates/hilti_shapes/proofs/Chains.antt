-- The frames that wait below the top.
use Rattle.std.proofs.Common.{◌≡◌, List, [], ◌∷◌, ◌++◌, sym, IfSome, slice_get}
use Rattle.std.proofs.Math.Path.{subst}
use Rattle.std.specs.List.{AllByRecursion}
use Rattle.std.specs.Option.{option_and_then}
use Rattle.hilti_parts.specs.declared.parts.Function.{Function}
use Rattle.hilti_parts.specs.declared.parts.Parts.{Parts}
use Rattle.hilti_typing.specs.Programs.{context}
use Rattle.hilti_values.specs.declared.value.Value.{Value}
use Rattle.hilti_stack.specs.declared.head.Head.{Head}
use Rattle.hilti_stack.specs.declared.head.Head.TheVariants as heads
use Rattle.hilti_stack.specs.declared.head.Position.{Position}
use Rattle.hilti_stack.specs.Frames.{Frame, frame}
use Rattle.hilti_shapes.specs.Needs.{Kinds, Grows}
use Rattle.hilti_shapes.specs.TypedRows.{Receives}
use Rattle.hilti_shapes.specs.Places.{IsAt, IsHeadAt, IsFrame, result_type, TakesFrom, Chain}
use Rattle.hilti_shapes.proofs.Growing.{all_meet, have_grow}

pub all_push : {A : Type 0} (P : A → Type 0) (xs : List A) (x : A) → AllByRecursion P xs → P x
    → AllByRecursion P (xs ++ x ∷ [])
all_push P [] x h p = (p, tt)
all_push P (y ∷ xs) x h p = (h.0, all_push P xs x h.1 p)

pub all_front : {A : Type 0} (P : A → Type 0) (xs : List A) (x : A) → AllByRecursion P (xs ++ x ∷ [])
    → AllByRecursion P xs
all_front P [] x h = tt
all_front P (y ∷ xs) x h = (h.0, all_front P xs x h.1)

pub all_last : {A : Type 0} (P : A → Type 0) (xs : List A) (x : A) → AllByRecursion P (xs ++ x ∷ []) → P x
all_last P [] x h = h.0
all_last P (y ∷ xs) x h = all_last P xs x h.1

-- places of one function, with one target
pub record Same (t u : Position) : Type 0 where
  pub function : u.function ≡ t.function
  pub target : u.target ≡ t.target

module _ (parts : Parts) where
  takes_same : (caller : Head) (t u : Position) → Same t u → TakesFrom parts caller t → TakesFrom parts caller u
  takes_same (heads.Function c) t u s h =
      subst (λ x. IfSome (slice_get parts.functions c.function.n) (λ f. Receives (context parts c.function.n f) x
      (result_type parts u))) (sym s.target)
      (subst (λ g. IfSome (slice_get parts.functions c.function.n) (λ f. Receives (context parts c.function.n f)
      t.target (option_and_then (λ (f : Function). f.result) (slice_get parts.functions g.n)))) (sym s.function)
      h)
  takes_same (heads.Hook hook next) t u s h = absurd h
  takes_same heads.Advance t u s h = absurd h

  pub chain_same : (ws : List Frame) (t u : Position) → Same t u → Chain parts ws t → Chain parts ws u
  chain_same [] t u s h = tt
  chain_same (w ∷ []) t u s h = (takes_same w.head t u s h.0, tt)
  chain_same (w ∷ v ∷ ws) t u s h = (h.0, chain_same (v ∷ ws) t u s h.1)

  pub chain_push : (ws : List Frame) (slots : List Value) (t q u : Position) → Same t q → Chain parts ws t
      → TakesFrom parts (heads.Function q) u → Chain parts (ws ++ frame (heads.Function q) slots ∷ []) u
  chain_push [] slots t q u s h g = (g, tt)
  chain_push (v ∷ []) slots t q u s h g = (takes_same v.head t q s h.0, (g, tt))
  chain_push (v ∷ x ∷ ws) slots t q u s h g = (h.0, chain_push (x ∷ ws) slots t q u s h.1 g)

  pub chain_pop : (ws : List Frame) (slots : List Value) (q u : Position)
      → Chain parts (ws ++ frame (heads.Function q) slots ∷ []) u → Chain parts ws q
  chain_pop [] slots q u h = tt
  chain_pop (v ∷ []) slots q u h = (h.0, tt)
  chain_pop (v ∷ x ∷ ws) slots q u h = (h.0, chain_pop (x ∷ ws) slots q u h.1)

  pub chain_last : (ws : List Frame) (slots : List Value) (q u : Position)
      → Chain parts (ws ++ frame (heads.Function q) slots ∷ []) u → TakesFrom parts (heads.Function q) u
  chain_last [] slots q u h = h.0
  chain_last (v ∷ []) slots q u h = h.1.0
  chain_last (v ∷ x ∷ ws) slots q u h = chain_last (x ∷ ws) slots q u h.1

  module _ (k l : Kinds) (g : Grows k l) where
    pub at_grow : (p : Position) (slots : List Value) → IsAt parts p slots k → IsAt parts p slots l
    at_grow p slots a = record {
      function = a.function;
      in_parts = a.in_parts;
      block = a.block;
      in_function = a.in_function;
      within = a.within;
      slots_are = have_grow parts.types k l g slots a.function.slots a.slots_are;
    }

    head_grow : (h : Head) (slots : List Value) → IsHeadAt parts h slots k → IsHeadAt parts h slots l
    head_grow (heads.Function p) slots a = at_grow p slots a
    head_grow (heads.Hook hook next) slots a = absurd a
    head_grow heads.Advance slots a = absurd a

    pub below_grow : (ws : List Frame) → AllByRecursion (IsFrame parts k) ws → AllByRecursion (IsFrame parts l) ws
    below_grow ws h = all_meet (IsFrame parts k) (IsFrame parts l) (λ (w : Frame). head_grow w.head w.slots) ws h
