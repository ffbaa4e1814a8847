-- The bodies of hooks, and the places where they stand.
use Rattle.std.proofs.Common.{◌≡◌, ℕ, suc, Bool, true, false, ◌||◌, List, [], ◌∷◌, refl, ap, ◌∙◌, slice_get, Option, Some, None}
use Rattle.std.proofs.lemmas.Bool.{false≢true, eqb-true, eq-eqb}
use Rattle.std.proofs.lemmas.Map.Keys.{any_passes_from_place}
use Rattle.std.specs.List.{list_any}
use Rattle.std.specs.Option.{option_and_then}
use Rattle.std.specs.Prelude.{nat_eq}
use Rattle.hilti_base.specs.declared.names.FnId.{FnId}
use Rattle.hilti_parts.specs.declared.parts.Parts.{Parts}
use Rattle.hilti_parts.specs.declared.parts.Hook.{Hook}
use Rattle.hilti_typing.specs.Programs.{is_hook_body, body_at}
use Rattle.hilti_typing.specs.ProgramLaws.{BodiesOfHooks}

-- an item that passes, with its place
abbrev Passing : {X : Type 0} → (X → Bool) → List X → Type 0
Passing {X} p xs = (i : ℕ) × (x : X) × (slice_get xs i ≡ Some x) × (p x ≡ true)

passing : {X : Type 0} (p : X → Bool) (xs : List X) → list_any p xs ≡ true → Passing p xs
passing p [] e = absurd (false≢true e)
passing p (x ∷ xs) e = by_first (p x) refl e (λ more. passing p xs more)
  where
    by_first : (b : Bool) → p x ≡ b → b || list_any p xs ≡ true → (list_any p xs ≡ true → Passing p xs) → Passing p (x ∷ xs)
    by_first true is e further = (0, x, refl, is)
    by_first false is e further = let it = further e in (suc it.0, it.1, it.2, it.3)

module _ (parts : Parts) where
  abbrev of_hook : Option Hook → ℕ → Option FnId
  of_hook found k = option_and_then (λ (h : Hook). slice_get h.bodies k) found

  abbrev is_body : FnId → Hook → Bool
  is_body f h = list_any (λ (g : FnId). nat_eq g.n f.n) h.bodies

  forward : (f : FnId) → is_hook_body parts f.n ≡ true → (h : ℕ) × (k : ℕ) × (body_at parts h k ≡ Some f)
  forward f is =
      let hook = passing (is_body f) parts.hooks is in
      let body = passing (λ (g : FnId). nat_eq g.n f.n) hook.1.bodies hook.3 in
      (hook.0, body.0, ap (λ found. of_hook found body.0) hook.2 ∙ (body.2 ∙ ap (λ n. Some (record { n = n })) (eqb-true body.1.n f.n body.3)))

  found_in : (f : FnId) (h k : ℕ) (found : Option Hook) → slice_get parts.hooks h ≡ found → of_hook found k ≡ Some f → is_hook_body parts f.n ≡ true
  found_in f h k None at is = absurd (none is)
    where
      none : None ≡ Some f → ⊥
      none e = cc
  found_in f h k (Some hook) at is =
      any_passes_from_place (is_body f) parts.hooks h hook at
      (any_passes_from_place (λ (g : FnId). nat_eq g.n f.n) hook.bodies k f is (eq-eqb f.n f.n refl))

  pub bodies_of_hooks : BodiesOfHooks parts
  bodies_of_hooks = record {
    stands = λ f. (forward f, λ it. found_in f it.0 it.1 (slice_get parts.hooks it.0) refl it.2);
  }
