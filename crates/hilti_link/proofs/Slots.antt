-- What is seen in a body, behind its parameters and locals, and what it declares.
use Rattle.std.proofs.Common.{◌≡◌, sym, ◌∙◌, ap, ℕ, List, [], ◌∷◌, ◌++◌, length, Option}
use Rattle.hilti_module.specs.declared.types.Word.{Word}
use Rattle.hilti_module.specs.declared.module.Body.{Body}
use Rattle.hilti_module.specs.declared.module.Parameter.{Parameter}
use Rattle.hilti_types.specs.declared.value_type.ValueType.{ValueType}
use Rattle.hilti_scope.specs.declared.scope.Scope.{Scope}
use Rattle.hilti_link.specs.declared.tables.LinkedFunction.{LinkedFunction}
use Rattle.hilti_link.specs.declared.tables.Site.{Site}
use Rattle.hilti_link.specs.declared.tables.Tables.{Tables}
use Rattle.hilti_link.specs.declared.typed_words.Role.TheVariants as roles
use Rattle.hilti_link.specs.declared.versions.Version.{Version}
use Rattle.hilti_link.specs.Items.{Seen, slots_of, slots_view, slots_refusal, site_of, with_function, function_of}
use Rattle.hilti_link.specs.Standings.{SeesBehind}
use Rattle.hilti_link.specs.TypedWords.{names_of, words_refusal, kinds_of}
use Rattle.hilti_link.specs.Views.{view_in}
use Rattle.hilti_link.proofs.AnsweringItems.{view_is}

-- these are the parameters and locals of a body
pub record AreSlots (parameters : List Parameter) (body : Body) (front others : List Parameter) : Type 0 where
  pub front_are : front ≡ parameters
  pub others_are : others ≡ body.locals

pub slots_are : (parameters : List Parameter) (body : Body) (front others : List Parameter) → AreSlots parameters body front others → front ++ others ≡ slots_of parameters body
slots_are parameters body front others are = λ i. are.front_are i ++ are.others_are i

-- what is seen behind them
pub slots_seen : (seen : Seen) (tables : Tables) (scope : Scope) (parameters : List Parameter) (body : Body) (front others : List Parameter) → AreSlots parameters body front others
    → SeesBehind seen (names_of (front ++ others)) scope → seen.tables ≡ tables → view_in tables scope ≡ slots_view seen (slots_of parameters body)
slots_seen seen tables scope parameters body front others are sees same =
    view_is seen (names_of (front ++ others)) tables scope sees same ∙ ap (λ (slots : List Parameter). slots_view seen slots) (slots_are parameters body front others are)

-- their first refusal and their types
module _ (seen : Seen) (tables : Tables) (scope : Scope) (parameters : List Parameter) (body : Body) (front others : List Parameter) (are : AreSlots parameters body front others)
    (view : view_in tables scope ≡ slots_view seen (slots_of parameters body)) where
  pub slots_refusal_is : words_refusal (view_in tables scope) roles.Slot (front ++ others) ≡ slots_refusal seen (slots_of parameters body)
  slots_refusal_is = λ i. words_refusal (view i) roles.Slot (slots_are parameters body front others are i)

  kinds_are : kinds_of (view_in tables scope) (front ++ others) ≡ kinds_of (slots_view seen (slots_of parameters body)) (slots_of parameters body)
  kinds_are = λ i. kinds_of (view i) (slots_are parameters body front others are i)

  -- what is declared behind the body
  pub behind_body : (word : Word) (name : List ℕ) (result : Option ValueType) (hook : Option ℕ) (functions : List LinkedFunction) (site : Site) (shown : List ℕ) (count : ℕ)
      (version : Version) (kinds : List ValueType) (returns : Option ValueType) (number : Option ℕ)
      → seen.tables ≡ tables
      → functions ≡ tables.functions ++ record { site = site; name = shown; version = version; parameters = count; slots = kinds; result = returns; hook = number } ∷ []
      → site ≡ site_of seen word → shown ≡ name → version ≡ seen.version → count ≡ length parameters → kinds ≡ kinds_of (view_in tables scope) (front ++ others) → returns ≡ result → number ≡ hook
      → record tables { functions = functions } ≡ with_function seen.tables (function_of seen word name parameters body result hook)
  behind_body word name result hook functions site shown count version kinds returns number same is site_is shown_is version_is count_is kinds_is returns_is number_is =
      ap (λ (functions : List LinkedFunction). record tables { functions = functions }) is
      ∙ (λ i. with_function (sym same i) (record { site = site_is i; name = shown_is i; version = version_is i; parameters = count_is i; slots = (kinds_is ∙ kinds_are) i; result = returns_is i; hook = number_is i }))
