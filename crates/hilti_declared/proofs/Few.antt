-- A hook has no more bodies than there are functions.
use Rattle.std.proofs.Common.{◌≡◌, refl, ℕ, zero, suc, ◌+◌, ◌<◌, ◌≤◌, ◌^◌, nat_eq, Bool, true, false, cond, List, [], ◌∷◌, length, Option, Some, None, arith, eqb-true}
use Rattle.std.specs.Prelude.{filter, nat_lt}
use Rattle.std.specs.List.{count_by}
use Rattle.std.proofs.lemmas.Bool.{eqb-false, ltb-true, ltb-false, lt-ltb, le-ltb}
use Rattle.std.proofs.lemmas.List.{length-append, length-map}
use Rattle.std.proofs.lemmas.List.Sums.{length-filter, count_by-le-length, sum_by-cons}
use Rattle.hilti_module.specs.declared.module.Module.{Module}
use Rattle.hilti_link.specs.declared.tables.LinkedFunction.{LinkedFunction}
use Rattle.hilti_link.specs.Linking.{tables_of}
use Rattle.hilti_parts.specs.declared.parts.Hook.{Hook}
use Rattle.hilti_declared.specs.declared.hooks.HookBody.{HookBody}
use Rattle.hilti_declared.specs.Hooks.{body_by, body_of, bodies_from, hook_bodies, by_priority, above, in_order, functions_of}
use Rattle.hilti_declared.specs.Laws.{BodiesAreShort}
use Rattle.hilti_declared.proofs.Bodies.{each_hook}

-- no list of bodies is longer than that of all functions
abbrev of_priority : ℕ → HookBody → Bool
of_priority p b = nat_eq b.priority p

abbrev below : ℕ → HookBody → Bool
below p b = nat_lt b.priority p

module _ (p : ℕ) where
  with_one : (b : HookBody) → cond {A = ℕ} (of_priority p b) 1 0 + cond (below p b) 1 0 ≡ cond (below (suc p) b) 1 0
  with_one b = by (nat_eq b.priority p) refl
    where
      by : (same : Bool) → nat_eq b.priority p ≡ same → cond {A = ℕ} same 1 0 + cond (below p b) 1 0 ≡ cond (below (suc p) b) 1 0
      by true is =
          let it : b.priority ≡ p = eqb-true b.priority p is in
          let less : nat_lt b.priority p ≡ false = le-ltb b.priority p (omega arith) in
          let within : nat_lt b.priority (suc p) ≡ true = lt-ltb b.priority (suc p) (omega arith) in
          rw (less, within) refl
      by false is = apart (nat_lt b.priority p) refl
        where
          apart : (less : Bool) → nat_lt b.priority p ≡ less → 0 + cond {A = ℕ} less 1 0 ≡ cond (below (suc p) b) 1 0
          apart true less = (let within : nat_lt b.priority (suc p) ≡ true = lt-ltb b.priority (suc p) (omega (arith, ltb-true b.priority p less)) in rw within refl)
          apart false less =
              let past : nat_lt b.priority (suc p) ≡ false = le-ltb b.priority (suc p) (omega (arith, ltb-false b.priority p less, eqb-false b.priority p is)) in
              rw past refl

  with_all : (bodies : List HookBody) → count_by (of_priority p) bodies + count_by (below p) bodies ≡ count_by (below (suc p)) bodies
  with_all [] = refl
  with_all (b ∷ more) =
      let one = with_one b in
      let rest = with_all more in
      omega (
        arith,
        one,
        rest,
        sum_by-cons (λ (b : HookBody). cond {A = ℕ} (of_priority p b) 1 0) b more,
        sum_by-cons (λ (b : HookBody). cond {A = ℕ} (below p b) 1 0) b more,
        sum_by-cons (λ (b : HookBody). cond {A = ℕ} (below (suc p) b) 1 0) b more,
      )

few_in_order : (p : ℕ) (bodies : List HookBody) → length (by_priority p bodies) ≤ count_by (below p) bodies
unfolding by_priority
few_in_order zero bodies = omega arith
few_in_order (suc p) bodies =
    let rest = few_in_order p bodies in
    let all = with_all p bodies in
    omega (arith, rest, all, length-append (filter (of_priority p) bodies) (by_priority p bodies), length-filter (of_priority p) bodies)

few_from : (modules : List Module) (n : ℕ) (functions : List LinkedFunction) → length (bodies_from modules n functions) ≤ length functions
unfolding bodies_from
few_from modules n [] = omega arith
few_from modules n (f ∷ more) =
    let rest = few_from modules (suc n) more in
    let own = at_most f.hook in
    omega (arith, rest, own, length-append (body_of modules n f) (bodies_from modules (suc n) more))
  where
    at_most : (hook : Option ℕ) → length (body_by modules n f hook) ≤ 1
    at_most None = omega arith
    at_most (Some hook) = omega arith

few_of : (modules : List Module) (functions : List LinkedFunction) (hook : ℕ) → length (functions_of hook (in_order (hook_bodies modules functions))) ≤ length functions
few_of modules functions hook =
    let bodies = hook_bodies modules functions in
    let its = filter (λ (b : HookBody). nat_eq b.hook hook) (in_order bodies) in
    omega (
      arith,
      length-map its (λ (b : HookBody). b.function),
      length-filter (λ (b : HookBody). nat_eq b.hook hook) (in_order bodies),
      count_by-le-length (λ (b : HookBody). nat_eq b.hook hook) (in_order bodies),
      few_in_order (above bodies) bodies,
      count_by-le-length (below (above bodies)) bodies,
      few_from modules 0 functions,
    )

pub bodies_are_short : BodiesAreShort
bodies_are_short modules blocks short =
    let tables = tables_of modules in
    let bodies = hook_bodies modules tables.functions in
    each_hook (λ (h : Hook). length h.bodies < 2 ^ 32) bodies 0 tables.hooks (λ k h at. let few = few_of modules tables.functions (0 + k) in omega (arith, few, short))
