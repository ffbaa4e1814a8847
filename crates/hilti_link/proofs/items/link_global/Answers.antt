use Rattle.std.proofs.Common.{◌≡◌, refl, sym, ◌∙◌, ap, ℕ, List, [], ◌∷◌, ◌++◌, Option, None}
use Rattle.std.specs.Option.{option_or}
use Rattle.hilti_base.specs.declared.refusal.Refusal.{Refusal}
use Rattle.hilti_module.specs.declared.types.TypeText.{TypeText}
use Rattle.hilti_module.specs.declared.types.Word.{Word}
use Rattle.hilti_module.specs.declared.module.Item.TheVariants.{Global}
use Rattle.hilti_module.specs.declared.module.Literal.{Literal}
use Rattle.hilti_types.specs.declared.value_type.ValueType.{ValueType}
use Rattle.hilti_scope.specs.declared.scope.Scope.{Scope}
use Rattle.hilti_link.specs.declared.tables.LinkedGlobal.{LinkedGlobal}
use Rattle.hilti_link.specs.declared.tables.Site.{Site}
use Rattle.hilti_link.specs.declared.tables.Tables.{Tables}
use Rattle.hilti_link.specs.Items.{Seen, item_refusal, tables_behind, declared_again, value_refusal, value_refusal_by, view_of, site_of, with_global}
use Rattle.hilti_link.specs.Seeing.{View, refusal_of_type, type_at, qualified}
use Rattle.hilti_link.specs.Standings.{SeesPlain}
use Rattle.hilti_link.specs.Views.{view_in}
use Rattle.hilti_link.proofs.Answering.{Refused, refused_as, answers_or, answers_behind, behind_none, handed_on}
use Rattle.hilti_link.proofs.AnsweringItems.{type_refuses, type_is, view_is}
use Rattle.hilti_link.proofs.items.link_global.Goals as goal

module _ (seen : Seen) (tables : Tables) (scope : Scope) (text : TypeText) (name : Word) (value : Option Literal) (sees : SeesPlain seen scope) (same : seen.tables ≡ tables) where
  parts : item_refusal seen (Global text name value) ≡ option_or (refusal_of_type (view_of seen) text) (option_or (declared_again seen name) (value_refusal (view_of seen) text value))
  unfolding item_refusal
  parts = refl

  view : view_in tables scope ≡ view_of seen
  view = view_is seen [] tables scope sees same

  type_refusal_is : refusal_of_type (view_in tables scope) text ≡ refusal_of_type (view_of seen) text
  type_refusal_is = ap (λ (v : View). refusal_of_type v text) view

  value_refusal_is : (kind : ValueType) → kind ≡ type_at (view_in tables scope) text → value_refusal_by (view_in tables scope) kind value ≡ value_refusal (view_of seen) text value
  value_refusal_is kind is = ap (λ (kind : ValueType). value_refusal_by (view_in tables scope) kind value) is ∙ ap (λ (v : View). value_refusal v text value) view

  bad_type : (e : Refusal) → Refused e (refusal_of_type (view_in tables scope) text) → Refused e (item_refusal seen (Global text name value))
  bad_type e is =
      refused_as e _ _ (sym parts)
      (answers_or e _ _ (refused_as e _ _ type_refusal_is is))

  bad_name : (e : Refusal) → refusal_of_type (view_in tables scope) text ≡ None → Refused e (declared_again seen name)
      → Refused e (item_refusal seen (Global text name value))
  bad_name e none is =
      refused_as e _ _ (sym parts)
      (answers_behind e _ _ (sym type_refusal_is ∙ none) (answers_or e _ _ is))

  bad_value : (e : Refusal) (kind : ValueType) → refusal_of_type (view_in tables scope) text ≡ None → declared_again seen name ≡ None → kind ≡ type_at (view_in tables scope) text
      → Refused e (value_refusal_by (view_in tables scope) kind value) → Refused e (item_refusal seen (Global text name value))
  bad_value e kind none new kind_is is =
      refused_as e _ _ (sym parts)
      (answers_behind e _ _ (sym type_refusal_is ∙ none)
      (answers_behind e _ _ new (refused_as e _ _ (value_refusal_is kind kind_is) is)))

  good : (kind : ValueType) → refusal_of_type (view_in tables scope) text ≡ None → declared_again seen name ≡ None → kind ≡ type_at (view_in tables scope) text
      → value_refusal_by (view_in tables scope) kind value ≡ None → item_refusal seen (Global text name value) ≡ None
  good kind none new kind_is fits =
      parts ∙ behind_none _ _ (sym type_refusal_is ∙ none) ∙ behind_none _ _ new ∙ sym (value_refusal_is kind kind_is) ∙ fits

  behind : (globals : List LinkedGlobal) (site : Site) (shown : List ℕ) (kind : ValueType) → globals ≡ tables.globals ++ record { site = site; name = shown; kind = kind } ∷ []
      → site ≡ site_of seen name → shown ≡ qualified seen.owner name.bytes → kind ≡ type_at (view_in tables scope) text
      → record tables { globals = globals } ≡ tables_behind seen (Global text name value)
  unfolding tables_behind
  behind globals site shown kind is site_is shown_is kind_is =
      ap (λ (globals : List LinkedGlobal). record tables { globals = globals }) is
      ∙ (λ i. with_global (sym same i) (record { site = site_is i; name = shown_is i; kind = (kind_is ∙ ap (λ (v : View). type_at v text) view) i }))

pub returns-in_err-kind-clause-refusal : goal.returns-in_err-kind-clause-refusal
returns-in_err-kind-clause-refusal c = λ seen context stands same.
    let sees = c.scope-scope.ensures seen stands context.declarations_are in
    handed_on c.from_residual.result c.in_err-kind.field-0.0 _ c.from_residual.ensures.1
    (bad_type seen c.args.tables.now c.scope-scope.result c.args.kind.now c.args.name.now c.args.value.now sees same c.in_err-kind.field-0.0
    (type_refuses c.args.tables.now c.scope-scope.result c.args.kind.now c.in_err-kind.field-0.0 c.in_err-kind.ensures.refusal))

pub returns-in_err-refuse_declared-clause-refusal : goal.returns-in_err-refuse_declared-clause-refusal
returns-in_err-refuse_declared-clause-refusal c = λ seen context stands same.
    let sees = c.scope-scope.ensures seen stands context.declarations_are in
    handed_on c.from_residual-in_err-refuse_declared.result c.in_err-refuse_declared.field-0.0 _ c.from_residual-in_err-refuse_declared.ensures.1
    (bad_name seen c.args.tables.now c.scope-scope.result c.args.kind.now c.args.name.now c.args.value.now sees same c.in_err-refuse_declared.field-0.0
    c.in_ok-kind.ensures.accepted
    (c.in_err-refuse_declared.ensures seen sees))

pub returns-in_err-refuse_value-clause-refusal : goal.returns-in_err-refuse_value-clause-refusal
returns-in_err-refuse_value-clause-refusal c = λ seen context stands same.
    let sees = c.scope-scope.ensures seen stands context.declarations_are in
    handed_on c.from_residual-in_err-refuse_value.result c.in_err-refuse_value.field-0.0 _ c.from_residual-in_err-refuse_value.ensures.1
    (bad_value seen c.args.tables.now c.scope-scope.result c.args.kind.now c.args.name.now c.args.value.now sees same c.in_err-refuse_value.field-0.0 c.in_ok-kind.kind
    c.in_ok-kind.ensures.accepted
    (c.in_ok-refuse_declared.ensures seen sees)
    (type_is c.args.tables.now c.scope-scope.result c.args.kind.now c.in_ok-kind.kind c.in_ok-kind.ensures.kind)
    c.in_err-refuse_value.ensures)

pub returns-clause-tables : goal.returns-clause-tables
returns-clause-tables c = λ seen context stands same.
    let sees = c.scope-scope.ensures seen stands context.declarations_are in
    behind seen c.args.tables.now c.scope-scope.result c.args.kind.now c.args.name.now c.args.value.now sees same
    c.push.new.self c.site.result c.in_ok-shown.field-0 c.in_ok-kind.kind c.in_ok-push.ensures.ok (c.site.ensures seen stands) (c.in_ok-shown.ensures seen stands)
    (type_is c.args.tables.now c.scope-scope.result c.args.kind.now c.in_ok-kind.kind c.in_ok-kind.ensures.kind)

pub returns-clause-refusal : goal.returns-clause-refusal
returns-clause-refusal c = λ seen context stands same.
    let sees = c.scope-scope.ensures seen stands context.declarations_are in
    good seen c.args.tables.now c.scope-scope.result c.args.kind.now c.args.name.now c.args.value.now sees same c.in_ok-kind.kind
    c.in_ok-kind.ensures.accepted
    (c.in_ok-refuse_declared.ensures seen sees)
    (type_is c.args.tables.now c.scope-scope.result c.args.kind.now c.in_ok-kind.kind c.in_ok-kind.ensures.kind)
    c.in_ok-refuse_value.ensures
