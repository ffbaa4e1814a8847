-- Refusals of written types, and what is seen where items stand.
use Rattle.std.proofs.Common.{◌≡◌, refl, sym, ◌∙◌, ap, subst, ℕ, List, Option, Some, None, Result, Ok, Err}
use Rattle.hilti_base.specs.declared.names.Place.{Place}
use Rattle.hilti_base.specs.declared.refusal.Refusal.{Refusal}
use Rattle.hilti_base.specs.declared.refusal.Refusal.TheVariants.{At, NoMemory}
use Rattle.hilti_module.specs.declared.types.TypeText.{TypeText}
use Rattle.hilti_types.specs.declared.value_type.ValueType.{ValueType}
use Rattle.hilti_scope.specs.declared.scope.Scope.{Scope}
use Rattle.hilti_scope.specs.Scopes.{means}
use Rattle.hilti_resolve.specs.Refused.{type_refusal}
use Rattle.hilti_resolve.specs.Values.{value_of}
use Rattle.hilti_link.specs.declared.tables.Tables.{Tables}
use Rattle.hilti_link.specs.Items.{Seen, view_behind}
use Rattle.hilti_link.specs.Seeing.{refusal_of_type, type_at, or_bool}
use Rattle.hilti_link.specs.Standings.{SeesBehind}
use Rattle.hilti_link.specs.Views.{view_in}
use Rattle.hilti_link.proofs.Answering.{Refused, err, refused_as}

-- a refusal that is told by its place and code
told_refuses : (A : Type 0) (e : Refusal) (refusal : Option Refusal)
    → ((place : Place) (code : ℕ) → err A e ≡ Err (At place code) → refusal ≡ Some (At place code)) → Refused e refusal
told_refuses A (At place code) refusal told = told place code refl
told_refuses A NoMemory refusal told = tt

-- a written type is refused
pub type_refuses : (tables : Tables) (scope : Scope) (text : TypeText) (e : Refusal)
    → ((place : Place) (code : ℕ) → err ValueType e ≡ Err (At place code) → type_refusal tables.types (means scope) text ≡ Some (At place code))
    → Refused e (refusal_of_type (view_in tables scope) text)
type_refuses tables scope text e told = told_refuses ValueType e (type_refusal tables.types (means scope) text) told

-- what it stands for
pub type_is : (tables : Tables) (scope : Scope) (text : TypeText) (kind : ValueType) → value_of tables.types (means scope) text ≡ Ok kind → kind ≡ type_at (view_in tables scope) text
type_is tables scope text kind is = sym (ap or_bool is)

-- what is seen behind these parameters and locals
pub view_is : (seen : Seen) (locals : List (List ℕ)) (tables : Tables) (scope : Scope) → SeesBehind seen locals scope → seen.tables ≡ tables
    → view_in tables scope ≡ view_behind seen locals
view_is seen locals tables scope sees same = λ i. record { tables = sym same i; mean = sees.means_are i }
