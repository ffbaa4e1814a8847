use Rattle.std.proofs.Common.{◌≡◌, refl, sym, ◌∙◌, ap, ℕ, List, [], ◌∷◌, ◌++◌, None}
use Rattle.std.specs.Option.{option_or}
use Rattle.hilti_base.specs.declared.refusal.Refusal.{Refusal}
use Rattle.hilti_module.specs.declared.types.Word.{Word}
use Rattle.hilti_module.specs.declared.module.Item.TheVariants.{Hook}
use Rattle.hilti_module.specs.declared.module.Parameter.{Parameter}
use Rattle.hilti_types.specs.declared.value_type.ValueType.{ValueType}
use Rattle.hilti_scope.specs.declared.scope.Scope.{Scope}
use Rattle.hilti_link.specs.declared.tables.LinkedHook.{LinkedHook}
use Rattle.hilti_link.specs.declared.tables.Site.{Site}
use Rattle.hilti_link.specs.declared.tables.Tables.{Tables}
use Rattle.hilti_link.specs.declared.typed_words.Role.TheVariants as roles
use Rattle.hilti_link.specs.Items.{Seen, item_refusal, tables_behind, declared_again, view_of, site_of, with_hook}
use Rattle.hilti_link.specs.Seeing.{qualified}
use Rattle.hilti_link.specs.Standings.{SeesPlain}
use Rattle.hilti_link.specs.TypedWords.{words_refusal, kinds_of}
use Rattle.hilti_link.specs.Views.{view_in}
use Rattle.hilti_link.proofs.Answering.{Refused, refuses, refused_as, answers_or, answers_behind, behind_none, handed_on}
use Rattle.hilti_link.proofs.AnsweringItems.{view_is}
use Rattle.hilti_link.proofs.items.link_hook.Goals as goal

module _ (seen : Seen) (tables : Tables) (scope : Scope) (name : Word) (parameters words : List Parameter) (words_are : words ≡ parameters) (sees : SeesPlain seen scope) (same : seen.tables ≡ tables) where
  parts : item_refusal seen (Hook name parameters) ≡ option_or (declared_again seen name) (words_refusal (view_of seen) roles.Slot parameters)
  unfolding item_refusal
  parts = refl

  view : view_in tables scope ≡ view_of seen
  view = view_is seen [] tables scope sees same

  words_refusal_is : words_refusal (view_in tables scope) roles.Slot words ≡ words_refusal (view_of seen) roles.Slot parameters
  words_refusal_is = λ i. words_refusal (view i) roles.Slot (words_are i)

  bad_name : (e : Refusal) → Refused e (declared_again seen name) → Refused e (item_refusal seen (Hook name parameters))
  bad_name e is = refused_as e _ _ (sym parts) (answers_or e _ _ is)

  bad_parameter : (e : Refusal) → declared_again seen name ≡ None → Refused e (words_refusal (view_in tables scope) roles.Slot words) → Refused e (item_refusal seen (Hook name parameters))
  bad_parameter e new is = refused_as e _ _ (sym parts) (answers_behind e _ _ new (refused_as e _ _ words_refusal_is is))

  good : declared_again seen name ≡ None → words_refusal (view_in tables scope) roles.Slot words ≡ None → item_refusal seen (Hook name parameters) ≡ None
  good new none = parts ∙ behind_none _ _ new ∙ sym words_refusal_is ∙ none

  behind : (hooks : List LinkedHook) (site : Site) (shown : List ℕ) (kinds : List ValueType) → hooks ≡ tables.hooks ++ record { site = site; name = shown; parameters = kinds } ∷ []
      → site ≡ site_of seen name → shown ≡ qualified seen.owner name.bytes → kinds ≡ kinds_of (view_in tables scope) words
      → record tables { hooks = hooks } ≡ tables_behind seen (Hook name parameters)
  unfolding tables_behind
  behind hooks site shown kinds is site_is shown_is kinds_are =
      ap (λ (hooks : List LinkedHook). record tables { hooks = hooks }) is
      ∙ (λ i. with_hook (sym same i) (record { site = site_is i; name = shown_is i; parameters = (kinds_are ∙ (λ j. kinds_of (view j) (words_are j))) i }))

pub returns-in_err-refuse_declared-clause-refusal : goal.returns-in_err-refuse_declared-clause-refusal
returns-in_err-refuse_declared-clause-refusal c = λ seen context stands same.
    let sees = c.scope-scope.ensures seen stands context.declarations_are in
    handed_on c.from_residual.result c.in_err-refuse_declared.field-0.0 _ c.from_residual.ensures.1
    (bad_name seen c.args.tables.now c.scope-scope.result c.args.name.now c.args.parameters.now c.args.parameters.now refl sees same c.in_err-refuse_declared.field-0.0
    (c.in_err-refuse_declared.ensures seen sees))

pub returns-in_err-parameters-clause-refusal : goal.returns-in_err-parameters-clause-refusal
returns-in_err-parameters-clause-refusal c = λ seen context stands same.
    let sees = c.scope-scope.ensures seen stands context.declarations_are in
    handed_on c.from_residual-in_err-parameters.result c.in_err-parameters.field-0.0 _ c.from_residual-in_err-parameters.ensures.1
    (bad_parameter seen c.args.tables.now c.scope-scope.result c.args.name.now c.args.parameters.now c.as_slice.result.now c.as_slice.ensures sees same c.in_err-parameters.field-0.0
    (c.in_ok-refuse_declared.ensures seen sees)
    (refuses (List ValueType) c.in_err-parameters.field-0.0 _ c.in_err-parameters.ensures.refusal))

pub returns-clause-tables : goal.returns-clause-tables
returns-clause-tables c = λ seen context stands same.
    let sees = c.scope-scope.ensures seen stands context.declarations_are in
    behind seen c.args.tables.now c.scope-scope.result c.args.name.now c.args.parameters.now c.as_slice.result.now c.as_slice.ensures sees same
    c.push.new.self c.site.result c.in_ok-shown.field-0 c.in_ok-parameters.parameters c.in_ok-push.ensures.ok (c.site.ensures seen stands) (c.in_ok-shown.ensures seen stands)
    c.in_ok-parameters.ensures.kinds

pub returns-clause-refusal : goal.returns-clause-refusal
returns-clause-refusal c = λ seen context stands same.
    let sees = c.scope-scope.ensures seen stands context.declarations_are in
    good seen c.args.tables.now c.scope-scope.result c.args.name.now c.args.parameters.now c.as_slice.result.now c.as_slice.ensures sees same
    (c.in_ok-refuse_declared.ensures seen sees) c.in_ok-parameters.ensures.refusal
