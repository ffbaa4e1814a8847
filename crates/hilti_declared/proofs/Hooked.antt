-- Each body of a hook is of the hook's signature.
use Rattle.std.proofs.Common.{◌≡◌, refl, sym, ◌∙◌, ap, ap₂, subst, ℕ, zero, suc, ◌+◌, List, [], ◌∷◌, take, drop, Option, Some, None, IsSomeAnd, arith}
use Rattle.std.specs.Prelude.{slice_get}
use Rattle.std.specs.List.{All}
use Rattle.std.proofs.lemmas.List.Elements.{All-weaker}
use Rattle.std.proofs.lemmas.Option.{slice_get_within, get_or_from_slice_get}
use Rattle.hilti_base.specs.declared.names.FnId.{FnId}
use Rattle.hilti_module.specs.declared.module.Module.{Module}
use Rattle.hilti_types.specs.declared.value_type.ValueType.{ValueType}
use Rattle.hilti_link.specs.declared.tables.LinkedFunction.{LinkedFunction}
use Rattle.hilti_link.specs.declared.tables.LinkedHook.{LinkedHook}
use Rattle.hilti_link.specs.Hooks.{Announced, announced}
use Rattle.hilti_link.specs.Linking.{tables_of}
use Rattle.hilti_link.specs.Refusals.{first_refusal}
use Rattle.hilti_parts.specs.declared.parts.Block.{Block}
use Rattle.hilti_parts.specs.declared.parts.Function.{Function}
use Rattle.hilti_parts.specs.declared.parts.Hook.{Hook}
use Rattle.hilti_typing.specs.Programs.{IsBodyOf, signature, hook_signature}
use Rattle.hilti_typing.specs.Context.{Signature}
use Rattle.hilti_declared.specs.Declaring.{declared_parts, functions_with}
use Rattle.hilti_declared.specs.Hooks.{hook_bodies, in_order, functions_of, hook_of}
use Rattle.hilti_declared.specs.Laws.{HooksAreTyped}
use Rattle.hilti_declared.proofs.Announcing.{IsHook, IsBody, IsBodyBy, BelongsSo, announced_hook, bodies_belong}
use Rattle.hilti_declared.proofs.Bodies.{IsLinkedTo, bodies_are_linked, each_hook}

-- a function with its blocks takes and gives what is linked
signature_there : (functions : List LinkedFunction) (blocks : List (List Block)) (n : ℕ) (f : LinkedFunction) → slice_get functions n ≡ Some f
    → IsSomeAnd (slice_get (functions_with functions blocks) n) (λ g. signature g ≡ record { parameters = take f.parameters f.slots; result = f.result })
unfolding functions_with
signature_there [] blocks n f at = cc
signature_there (first ∷ more) blocks zero f at = (let same : first ≡ f = cc in ap (λ (f : LinkedFunction). record { parameters = take f.parameters f.slots; result = f.result }) same)
signature_there (first ∷ more) blocks (suc n) f at = signature_there more (drop 1 blocks) n f at

module _ (modules : List Module) (blocks : List (List Block)) (none : first_refusal modules ≡ None) where
  -- a function that is linked as a body belongs to a hook that is announced
  pub belongs : (n : ℕ) (f : LinkedFunction) (k : ℕ) → slice_get (tables_of modules).functions n ≡ Some f → f.hook ≡ Some k
      → IsSomeAnd (slice_get (announced modules) k) (IsBody modules f)
  belongs n f k at is =
      let tables = tables_of modules in
      let each = bodies_belong modules tables refl none n f (slice_get_within tables.functions n f at) in
      by f.hook is (subst (BelongsSo modules) (get_or_from_slice_get tables.functions n f f at) each)
    where
      by : (hook : Option ℕ) → hook ≡ Some k → IsBodyBy modules f hook → IsSomeAnd (slice_get (announced modules) k) (IsBody modules f)
      by None is so = cc
      by (Some other) is so = (let same : other ≡ k = cc in subst (λ k. IsSomeAnd (slice_get (announced modules) k) (IsBody modules f)) same so)

  same_signature : (f : LinkedFunction) (h : LinkedHook) (a : Option Announced) → IsSomeAnd a (λ a. IsHook modules a h) → IsSomeAnd a (IsBody modules f)
      → (take f.parameters f.slots ≡ h.parameters) × (f.result ≡ None)
  same_signature f h None is own = absurd is
  same_signature f h (Some a) is own = (own.takes is.known ∙ sym is.takes, own.result)

  typed_body : (k : ℕ) (h : LinkedHook) (hook : Hook) → hook.params ≡ h.parameters → slice_get (tables_of modules).hooks k ≡ Some h → (id : FnId)
      → IsLinkedTo (tables_of modules).functions k id → IsBodyOf (declared_parts modules blocks) hook id
  typed_body k h hook params at id linked = by (slice_get (tables_of modules).functions id.n) refl linked
    where
      so : (f : LinkedFunction) (found : Option Function) → IsSomeAnd found (λ g. signature g ≡ record { parameters = take f.parameters f.slots; result = f.result })
          → (take f.parameters f.slots ≡ h.parameters) × (f.result ≡ None) → IsSomeAnd found (λ g. signature g ≡ hook_signature hook)
      so f None there same = absurd there
      so f (Some g) there same = there ∙ ap₂ {B = Option ValueType} {C = Signature} (λ parameters result. record { parameters = parameters; result = result }) (same.0 ∙ sym params) same.1

      by : (found : Option LinkedFunction) → slice_get (tables_of modules).functions id.n ≡ found → IsSomeAnd found (λ f. f.hook ≡ Some k)
          → IsBodyOf (declared_parts modules blocks) hook id
      by None there is = absurd is
      by (Some f) there is =
          let tables = tables_of modules in
          so f (slice_get (functions_with tables.functions blocks) id.n) (signature_there tables.functions blocks id.n f there)
          (same_signature f h (slice_get (announced modules) k) (announced_hook modules tables refl none k h at) (belongs id.n f k there is))

  typed_hooks : All (λ (h : Hook). All (IsBodyOf (declared_parts modules blocks) h) h.bodies) (declared_parts modules blocks).hooks
  typed_hooks =
      let tables = tables_of modules in
      let bodies = hook_bodies modules tables.functions in
      each_hook (λ (h : Hook). All (IsBodyOf (declared_parts modules blocks) h) h.bodies) bodies 0 tables.hooks
      (λ k h at. All-weaker (IsLinkedTo tables.functions (0 + k)) (IsBodyOf (declared_parts modules blocks) (hook_of bodies (0 + k) h))
      (λ id linked. typed_body (0 + k) h (hook_of bodies (0 + k) h) refl (ap (slice_get tables.hooks) (omega arith) ∙ at) id linked)
      (functions_of (0 + k) (in_order bodies)) (bodies_are_linked modules tables.functions (0 + k)))

pub hooks_are_typed : HooksAreTyped
hooks_are_typed modules blocks none = typed_hooks modules blocks none
