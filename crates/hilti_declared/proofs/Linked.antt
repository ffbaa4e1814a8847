-- A function is a body of a hook just where it is linked as one.
use Rattle.std.proofs.Common.{◌≡◌, refl, ◌∙◌, ap, subst, ℕ, zero, suc, ◌+◌, ◌<◌, nat_eq, Bool, true, false, ◌||◌, List, [], ◌∷◌, length, Option, Some, None, IsSomeAnd, arith, eqb-true}
use Rattle.std.specs.Prelude.{slice_get}
use Rattle.std.specs.List.{list_any}
use Rattle.std.specs.Option.{is_some, option_map}
use Rattle.std.proofs.lemmas.List.Elements.{All-weaker}
use Rattle.std.proofs.lemmas.List.Folds.{list_any_none}
use Rattle.std.proofs.lemmas.Option.{slice_get_within}
use Rattle.hilti_base.specs.declared.names.FnId.{FnId}
use Rattle.hilti_module.specs.declared.module.Module.{Module}
use Rattle.hilti_link.specs.declared.tables.LinkedFunction.{LinkedFunction}
use Rattle.hilti_link.specs.declared.tables.LinkedHook.{LinkedHook}
use Rattle.hilti_link.specs.Hooks.{Announced, announced}
use Rattle.hilti_link.specs.Linking.{tables_of}
use Rattle.hilti_link.specs.Refusals.{first_refusal}
use Rattle.hilti_parts.specs.declared.parts.Block.{Block}
use Rattle.hilti_parts.specs.declared.parts.Hook.{Hook}
use Rattle.hilti_declared.specs.Declaring.{declared_parts}
use Rattle.hilti_declared.specs.Hooks.{hook_bodies, in_order, functions_of, hook_of, hooks_from}
use Rattle.hilti_declared.specs.Laws.{HookBodiesAreLinked}
use Rattle.hilti_declared.proofs.Announcing.{IsBody, announced_many}
use Rattle.hilti_declared.proofs.Bodies.{IsLinkedTo, bodies_are_linked, each_hook, is_its_body}
use Rattle.hilti_declared.proofs.Once.{hook_at}
use Rattle.hilti_declared.proofs.Hooked.{belongs}

-- a place within a list has something
none_past : {X : Type 0} (xs : List X) (k : ℕ) → k < length xs → slice_get xs k ≡ None → ⊥
none_past [] k below is = omega arith
none_past (x ∷ xs) zero below is = cc
none_past (x ∷ xs) (suc k) below is = none_past xs k (omega arith) is

-- one that passes
any_at : {X : Type 0} (test : X → Bool) (xs : List X) (k : ℕ) (x : X) → slice_get xs k ≡ Some x → test x ≡ true → list_any test xs ≡ true
any_at test [] k x at passes = cc
any_at test (first ∷ more) zero x at passes =
    let same : first ≡ x = cc in
    ap (λ b. b || list_any test more) (ap test same ∙ passes)
any_at test (first ∷ more) (suc k) x at passes = or_rest (test first) (list_any test more) (any_at test more k x at passes)
  where
    or_rest : (b c : Bool) → c ≡ true → (b || c) ≡ true
    or_rest true c e = refl
    or_rest false c e = e

module _ (modules : List Module) (blocks : List (List Block)) (none : first_refusal modules ≡ None)
    (at : ℕ) (f : LinkedFunction) (there : slice_get (tables_of modules).functions at ≡ Some f) where
  abbrev is_it : FnId → Bool
  is_it id = nat_eq id.n at

  abbrev has_it : Hook → Bool
  has_it h = list_any is_it h.bodies

  -- one that isn't linked to a hook
  not_it : f.hook ≡ None → (k : ℕ) (id : FnId) → IsLinkedTo (tables_of modules).functions k id → is_it id ≡ false
  not_it alone k id linked = by (nat_eq id.n at) refl
    where
      by : (b : Bool) → nat_eq id.n at ≡ b → is_it id ≡ false
      by false is = is
      by true is =
          let same = ap (slice_get (tables_of modules).functions) (eqb-true id.n at is) ∙ there in
          let own : f.hook ≡ Some k = subst (λ (o : Option LinkedFunction). IsSomeAnd o (λ f. f.hook ≡ Some k)) same linked in
          cc

  no_body : f.hook ≡ None → list_any has_it (declared_parts modules blocks).hooks ≡ false
  no_body alone =
      let tables = tables_of modules in
      let bodies = hook_bodies modules tables.functions in
      list_any_none has_it (hooks_from bodies 0 tables.hooks)
      (each_hook (λ (h : Hook). has_it h ≡ false) bodies 0 tables.hooks
      (λ k h is. list_any_none is_it (functions_of (0 + k) (in_order bodies))
      (All-weaker (IsLinkedTo tables.functions (0 + k)) (λ (id : FnId). is_it id ≡ false) (λ id linked. not_it alone (0 + k) id linked)
      (functions_of (0 + k) (in_order bodies)) (bodies_are_linked modules tables.functions (0 + k)))))

  -- one that is linked to a hook
  its_hook : (k : ℕ) → f.hook ≡ Some k → list_any has_it (declared_parts modules blocks).hooks ≡ true
  its_hook k linked = by (slice_get (tables_of modules).hooks k) refl
    where
      by : (found : Option LinkedHook) → slice_get (tables_of modules).hooks k ≡ found → list_any has_it (declared_parts modules blocks).hooks ≡ true
      by None missing = absurd (past (slice_get (announced modules) k) refl (belongs modules blocks none at f k there linked))
        where
          past : (a : Option Announced) → slice_get (announced modules) k ≡ a → IsSomeAnd a (IsBody modules f) → ⊥
          past None is own = own
          past (Some a) is own =
              let below = slice_get_within (announced modules) k a is in
              let many = announced_many modules (tables_of modules) refl none in
              none_past (tables_of modules).hooks k (omega (arith, below, many)) missing
      by (Some h) is =
          let tables = tables_of modules in
          let bodies = hook_bodies modules tables.functions in
          any_at has_it (hooks_from bodies 0 tables.hooks) k (hook_of bodies (0 + k) h) (hook_at bodies 0 tables.hooks k ∙ ap (option_map (hook_of bodies (0 + k))) is)
          (ap (λ n. list_any is_it (functions_of n (in_order bodies))) (omega arith) ∙ is_its_body at k modules tables.functions f there linked)

  linked_just_where : list_any has_it (declared_parts modules blocks).hooks ≡ is_some f.hook
  linked_just_where = by f.hook refl
    where
      by : (hook : Option ℕ) → f.hook ≡ hook → list_any has_it (declared_parts modules blocks).hooks ≡ is_some hook
      by None is = no_body is
      by (Some k) is = its_hook k is

pub hook_bodies_are_linked : HookBodiesAreLinked
hook_bodies_are_linked modules blocks none at f there = linked_just_where modules blocks none at f there
