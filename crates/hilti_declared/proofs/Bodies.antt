-- The bodies of hooks are the functions that are linked as bodies.
use Rattle.std.proofs.Common.{◌≡◌, refl, sym, ◌∙◌, ap, subst, ℕ, zero, suc, ◌+◌, ◌<◌, nat_eq, Bool, true, false, ◌||◌, cond, List, [], ◌∷◌, length, map, Option, Some, None, IsSomeAnd, arith, eqb-true, eq-eqb}
use Rattle.std.specs.Prelude.{slice_get, filter}
use Rattle.std.specs.List.{All, list_any}
use Rattle.std.proofs.lemmas.Bool.{eqb-false}
use Rattle.std.proofs.lemmas.List.Elements.{All-nil, All-cons, All-head, All-tail, All-append, All-filter}
use Rattle.std.proofs.lemmas.List.Folds.{list_any-append}
use Rattle.hilti_base.specs.declared.names.FnId.{FnId}
use Rattle.hilti_module.specs.declared.module.Module.{Module}
use Rattle.hilti_link.specs.declared.tables.LinkedFunction.{LinkedFunction}
use Rattle.hilti_link.specs.declared.tables.LinkedHook.{LinkedHook}
use Rattle.hilti_parts.specs.declared.parts.Hook.{Hook}
use Rattle.hilti_declared.specs.declared.hooks.HookBody.{HookBody}
use Rattle.hilti_declared.specs.Hooks.{body_by, body_of, bodies_from, hook_bodies, by_priority, above, in_order, functions_of, hook_of, hooks_from}
use Rattle.hilti_declared.proofs.Accepted.{later}
use Rattle.hilti_declared.proofs.Numbers.{past_front}

-- the function of a number is linked as a body of this hook
abbrev pub IsLinkedTo : List LinkedFunction → ℕ → FnId → Type 0
IsLinkedTo functions hook id = IsSomeAnd (slice_get functions id.n) (λ f. f.hook ≡ Some hook)

abbrev IsLinked : List LinkedFunction → HookBody → Type 0
IsLinked functions b = IsLinkedTo functions b.hook b.function

module _ (modules : List Module) (all : List LinkedFunction) where
  linked_one : (n : ℕ) (f : LinkedFunction) (hook : Option ℕ) → f.hook ≡ hook → slice_get all n ≡ Some f → All (IsLinked all) (body_by modules n f hook)
  linked_one n f None is at = All-nil (IsLinked all)
  linked_one n f (Some hook) is at =
      All-cons (IsLinked all) _ [] (subst (λ (o : Option LinkedFunction). IsSomeAnd o (λ f. f.hook ≡ Some hook)) (sym at) is) (All-nil (IsLinked all))

  linked_from : (n : ℕ) (functions : List LinkedFunction) → ((k : ℕ) → slice_get all (n + k) ≡ slice_get functions k) → All (IsLinked all) (bodies_from modules n functions)
  unfolding bodies_from
  linked_from n [] same = All-nil (IsLinked all)
  linked_from n (f ∷ more) same =
      All-append (IsLinked all) (body_of modules n f) (bodies_from modules (suc n) more)
      (linked_one n f f.hook refl (ap (slice_get all) (omega arith) ∙ same 0))
      (linked_from (suc n) more (λ k. ap (slice_get all) (omega arith) ∙ same (suc k)))

all_by_priority : (P : HookBody → Type 0) (p : ℕ) (bodies : List HookBody) → All P bodies → All P (by_priority p bodies)
unfolding by_priority
all_by_priority P zero bodies each = All-nil P
all_by_priority P (suc p) bodies each =
    All-append P (filter (λ (b : HookBody). nat_eq b.priority p) bodies) (by_priority p bodies)
    (All-filter (λ (b : HookBody). nat_eq b.priority p) P bodies each) (all_by_priority P p bodies each)

its_bodies : (functions : List LinkedFunction) (hook : ℕ) (bodies : List HookBody) → All (IsLinked functions) bodies → All (IsLinkedTo functions hook) (functions_of hook bodies)
its_bodies functions hook [] each = All-nil (IsLinkedTo functions hook)
its_bodies functions hook (b ∷ more) each =
    by (nat_eq b.hook hook) refl (its_bodies functions hook more (All-tail (IsLinked functions) b more each))
  where
    by : (own : Bool) → nat_eq b.hook hook ≡ own → All (IsLinkedTo functions hook) (functions_of hook more)
        → All (IsLinkedTo functions hook) (map (λ (b : HookBody). b.function) (cond own (b ∷ filter (λ (b : HookBody). nat_eq b.hook hook) more) (filter (λ (b : HookBody). nat_eq b.hook hook) more)))
    by true own rest =
        All-cons (IsLinkedTo functions hook) b.function (functions_of hook more)
        (subst (λ h. IsLinkedTo functions h b.function) (eqb-true b.hook hook own) (All-head (IsLinked functions) b more each)) rest
    by false own rest = rest

-- each body of a hook is linked to it
pub bodies_are_linked : (modules : List Module) (functions : List LinkedFunction) (hook : ℕ)
    → All (IsLinkedTo functions hook) (functions_of hook (in_order (hook_bodies modules functions)))
bodies_are_linked modules functions hook =
    let bodies = hook_bodies modules functions in
    its_bodies functions hook (in_order bodies)
    (all_by_priority (IsLinked functions) (above bodies) bodies (linked_from modules functions 0 functions (λ k. ap (slice_get functions) (omega arith))))

-- what holds of each hook with its bodies
pub each_hook : (P : Hook → Type 0) (bodies : List HookBody) (n : ℕ) (hooks : List LinkedHook)
    → ((k : ℕ) (h : LinkedHook) → slice_get hooks k ≡ Some h → P (hook_of bodies (n + k) h)) → All P (hooks_from bodies n hooks)
unfolding hooks_from
each_hook P bodies n [] each = All-nil P
each_hook P bodies n (h ∷ more) each =
    All-cons P (hook_of bodies n h) (hooks_from bodies (suc n) more)
    (subst (λ k. P (hook_of bodies k h)) (omega arith) (each 0 h refl))
    (each_hook P bodies (suc n) more (λ k h at. subst (λ k. P (hook_of bodies k h)) (omega arith) (each (suc k) h at)))

-- a function that is linked as a body is one
module _ (modules : List Module) (hook : ℕ) where
  -- a body of the hook at some place of some bodies, whose function has this number
  record Found (n : ℕ) (bodies : List HookBody) : Type 0 where
    place : ℕ
    body : HookBody
    there : slice_get bodies place ≡ Some body
    its : body.hook ≡ hook
    number : body.function.n ≡ n

  found_one : (n : ℕ) (f : LinkedFunction) (own : Option ℕ) → own ≡ Some hook → Found n (body_by modules n f own)
  found_one n f (Some other) is = record { place = 0; body = _; there = refl; its = (let same : other ≡ hook = cc in same); number = refl }
  found_one n f None is = cc

  found_from : (n : ℕ) (functions : List LinkedFunction) (i : ℕ) (f : LinkedFunction) → slice_get functions i ≡ Some f → f.hook ≡ Some hook
      → Found (n + i) (bodies_from modules n functions)
  unfolding bodies_from
  found_from n [] i f at is = cc
  found_from n (first ∷ more) zero f at is =
      let same : first ≡ f = cc in
      let it = found_one n first first.hook (ap (λ (f : LinkedFunction). f.hook) same ∙ is) in
      record {
        place = it.place;
        body = it.body;
        there = later (body_of modules n first) (bodies_from modules (suc n) more) it.place it.body it.there;
        its = it.its;
        number = (let number = it.number in omega (arith, number));
      }
  found_from n (first ∷ more) (suc i) f at is =
      let it = found_from (suc n) more i f at is in
      record {
        place = length (body_of modules n first) + it.place;
        body = it.body;
        there = past_front (body_of modules n first) (bodies_from modules (suc n) more) it.place ∙ it.there;
        its = it.its;
        number = (let number = it.number in omega (arith, number));
      }

module _ (at hook : ℕ) where
  abbrev is_it : HookBody → Bool
  is_it b = cond (nat_eq b.hook hook) (nat_eq b.function.n at) false

  at_once : (first rest : Bool) → first ≡ true → (first || rest) ≡ true
  at_once true rest e = refl
  at_once false rest e = cc

  in_rest : (first rest : Bool) → rest ≡ true → (first || rest) ≡ true
  in_rest true rest e = refl
  in_rest false rest e = e

  kept : (test : HookBody → Bool) (bodies : List HookBody) (k : ℕ) (b : HookBody) → slice_get bodies k ≡ Some b → test b ≡ true → is_it b ≡ true
      → list_any is_it (filter test bodies) ≡ true
  kept test [] k b there passes it = cc
  kept test (first ∷ more) zero b there passes it =
      let same : first ≡ b = cc in
      ap (λ t. list_any is_it (cond t (first ∷ filter test more) (filter test more))) (ap test same ∙ passes)
      ∙ at_once (is_it first) (list_any is_it (filter test more)) (ap is_it same ∙ it)
  kept test (first ∷ more) (suc k) b there passes it = by (test first) (kept test more k b there passes it)
    where
      by : (t : Bool) → list_any is_it (filter test more) ≡ true → list_any is_it (cond t (first ∷ filter test more) (filter test more)) ≡ true
      by true rest = in_rest (is_it first) (list_any is_it (filter test more)) rest
      by false rest = rest

  kept_in_order : (p : ℕ) (bodies : List HookBody) (k : ℕ) (b : HookBody) → slice_get bodies k ≡ Some b → b.priority < p → is_it b ≡ true
      → list_any is_it (by_priority p bodies) ≡ true
  unfolding by_priority
  kept_in_order zero bodies k b there less it = absurd (omega arith)
  kept_in_order (suc p) bodies k b there less it =
      list_any-append is_it (filter (λ (b : HookBody). nat_eq b.priority p) bodies) (by_priority p bodies)
      ∙ by (nat_eq b.priority p) refl (λ less. kept_in_order p bodies k b there less it)
    where
      by : (own : Bool) → nat_eq b.priority p ≡ own → (b.priority < p → list_any is_it (by_priority p bodies) ≡ true)
          → (list_any is_it (filter (λ (b : HookBody). nat_eq b.priority p) bodies) || list_any is_it (by_priority p bodies)) ≡ true
      by true own rest =
          at_once (list_any is_it (filter (λ (b : HookBody). nat_eq b.priority p) bodies)) (list_any is_it (by_priority p bodies))
          (kept (λ (b : HookBody). nat_eq b.priority p) bodies k b there own it)
      by false own rest =
          in_rest (list_any is_it (filter (λ (b : HookBody). nat_eq b.priority p) bodies)) (list_any is_it (by_priority p bodies))
          (rest (omega (arith, eqb-false b.priority p own)))

  below_above : (bodies : List HookBody) (k : ℕ) (b : HookBody) → slice_get bodies k ≡ Some b → b.priority < above bodies
  unfolding above
  below_above [] k b there = cc
  below_above (first ∷ more) zero b there = (let same : first.priority ≡ b.priority = ap (λ (b : HookBody). b.priority) (let same : first ≡ b = cc in same) in omega (arith, same))
  below_above (first ∷ more) (suc k) b there = (let rest = below_above more k b there in omega (arith, rest))

  among_its : (bodies : List HookBody) → list_any is_it bodies ≡ list_any (λ (f : FnId). nat_eq f.n at) (functions_of hook bodies)
  among_its [] = refl
  among_its (b ∷ more) = by (nat_eq b.hook hook) (among_its more)
    where
      by : (own : Bool) → list_any is_it more ≡ list_any (λ (f : FnId). nat_eq f.n at) (functions_of hook more)
          → (cond own (nat_eq b.function.n at) false || list_any is_it more)
          ≡ list_any (λ (f : FnId). nat_eq f.n at) (map (λ (b : HookBody). b.function) (cond own (b ∷ filter (λ (b : HookBody). nat_eq b.hook hook) more) (filter (λ (b : HookBody). nat_eq b.hook hook) more)))
      by true rest = ap (λ r. nat_eq b.function.n at || r) rest
      by false rest = rest

  -- a function that is linked to a hook is among its bodies
  pub is_its_body : (modules : List Module) (functions : List LinkedFunction) (f : LinkedFunction) → slice_get functions at ≡ Some f → f.hook ≡ Some hook
      → list_any (λ (f : FnId). nat_eq f.n at) (functions_of hook (in_order (hook_bodies modules functions))) ≡ true
  is_its_body modules functions f there is =
      let bodies = hook_bodies modules functions in
      let found = found_from modules hook 0 functions at f there is in
      let b = found.body in
      let number = found.number in
      let its : nat_eq b.hook hook ≡ true = eq-eqb b.hook hook found.its in
      let same : nat_eq b.function.n at ≡ true = eq-eqb b.function.n at (omega (arith, number)) in
      let it : is_it b ≡ true = ap (λ t. cond t (nat_eq b.function.n at) false) its ∙ same in
      sym (among_its (in_order bodies)) ∙ kept_in_order (above bodies) bodies found.place b found.there (below_above bodies found.place b found.there) it
