use Rattle.std.proofs.Common.{◌≡◌, refl, sym, ◌∙◌, ap, List, [], Option, None}
use Rattle.std.specs.Option.{option_map, option_or}
use Rattle.hilti_base.specs.declared.refusal.Refusal.{Refusal}
use Rattle.hilti_module.specs.declared.types.TypeText.{TypeText}
use Rattle.hilti_module.specs.declared.types.Word.{Word}
use Rattle.hilti_module.specs.declared.module.Body.{Body}
use Rattle.hilti_module.specs.declared.module.Item.TheVariants.{Function}
use Rattle.hilti_module.specs.declared.module.Parameter.{Parameter}
use Rattle.hilti_types.specs.declared.value_type.ValueType.{ValueType}
use Rattle.hilti_scope.specs.declared.scope.Scope.{Scope}
use Rattle.hilti_link.specs.declared.tables.Tables.{Tables}
use Rattle.hilti_link.specs.Items.{Seen, item_refusal, tables_behind, declared_again, result_refusal, slots_of, slots_refusal, view_of, with_function, function_of}
use Rattle.hilti_link.specs.Seeing.{View, type_at, qualified}
use Rattle.hilti_link.specs.Standings.{SeesPlain}
use Rattle.hilti_link.specs.Views.{view_in}
use Rattle.hilti_link.proofs.Answering.{Refused, refuses, refused_as, answers_or, answers_behind, behind_none, handed_on}
use Rattle.hilti_link.proofs.AnsweringItems.{view_is}
use Rattle.hilti_link.proofs.Slots.{slots_seen, slots_refusal_is, behind_body}
use Rattle.hilti_link.proofs.items.link_function.Goals as goal

module _ (seen : Seen) (tables : Tables) (scope : Scope) (returns : Option TypeText) (name : Word) (parameters : List Parameter) (body : Body) (sees : SeesPlain seen scope) (same : seen.tables ≡ tables) where
  parts : item_refusal seen (Function returns name parameters body)
      ≡ option_or (result_refusal (view_of seen) returns) (option_or (declared_again seen name) (slots_refusal seen (slots_of parameters body)))
  unfolding item_refusal
  parts = refl

  view : view_in tables scope ≡ view_of seen
  view = view_is seen [] tables scope sees same

  result_refusal_is : result_refusal (view_in tables scope) returns ≡ result_refusal (view_of seen) returns
  result_refusal_is = ap (λ (v : View). result_refusal v returns) view

  bad_result : (e : Refusal) → Refused e (result_refusal (view_in tables scope) returns) → Refused e (item_refusal seen (Function returns name parameters body))
  bad_result e is = refused_as e _ _ (sym parts) (answers_or e _ _ (refused_as e _ _ result_refusal_is is))

  bad_name : (e : Refusal) → result_refusal (view_in tables scope) returns ≡ None → Refused e (declared_again seen name) → Refused e (item_refusal seen (Function returns name parameters body))
  bad_name e none is = refused_as e _ _ (sym parts) (answers_behind e _ _ (sym result_refusal_is ∙ none) (answers_or e _ _ is))

  bad_slot : (e : Refusal) → result_refusal (view_in tables scope) returns ≡ None → declared_again seen name ≡ None → Refused e (slots_refusal seen (slots_of parameters body))
      → Refused e (item_refusal seen (Function returns name parameters body))
  bad_slot e none new is = refused_as e _ _ (sym parts) (answers_behind e _ _ (sym result_refusal_is ∙ none) (answers_behind e _ _ new is))

  good : result_refusal (view_in tables scope) returns ≡ None → declared_again seen name ≡ None → slots_refusal seen (slots_of parameters body) ≡ None
      → item_refusal seen (Function returns name parameters body) ≡ None
  good none new fine = parts ∙ behind_none _ _ (sym result_refusal_is ∙ none) ∙ behind_none _ _ new ∙ fine

  result_is : (kind : Option ValueType) → kind ≡ option_map (type_at (view_in tables scope)) returns → kind ≡ option_map (type_at (view_of seen)) returns
  result_is kind is = is ∙ ap (λ (v : View). option_map (type_at v) returns) view

behind : (seen : Seen) (returns : Option TypeText) (name : Word) (parameters : List Parameter) (body : Body)
    → with_function seen.tables (function_of seen name (qualified seen.owner name.bytes) parameters body (option_map (type_at (view_of seen)) returns) None)
    ≡ tables_behind seen (Function returns name parameters body)
unfolding tables_behind
behind seen returns name parameters body = refl

pub returns-in_err-result-clause-refusal : goal.returns-in_err-result-clause-refusal
returns-in_err-result-clause-refusal c = λ seen context stands same.
    let sees = c.scope-scope.ensures seen stands context.declarations_are in
    handed_on c.from_residual.result c.in_err-result.field-0.0 _ c.from_residual.ensures.1
    (bad_result seen c.args.tables.now c.scope-scope.result c.args.returns.now c.args.name.now c.args.parameters.now c.args.body.now sees same c.in_err-result.field-0.0
    (refuses (Option ValueType) c.in_err-result.field-0.0 _ c.in_err-result.ensures.refusal))

pub returns-in_err-refuse_declared-clause-refusal : goal.returns-in_err-refuse_declared-clause-refusal
returns-in_err-refuse_declared-clause-refusal c = λ seen context stands same.
    let sees = c.scope-scope.ensures seen stands context.declarations_are in
    handed_on c.from_residual-in_err-refuse_declared.result c.in_err-refuse_declared.field-0.0 _ c.from_residual-in_err-refuse_declared.ensures.1
    (bad_name seen c.args.tables.now c.scope-scope.result c.args.returns.now c.args.name.now c.args.parameters.now c.args.body.now sees same c.in_err-refuse_declared.field-0.0
    c.in_ok-result.ensures.refusal (c.in_err-refuse_declared.ensures seen sees))

pub returns-in_err-slots-clause-refusal : goal.returns-in_err-slots-clause-refusal
returns-in_err-slots-clause-refusal c = λ seen context stands same.
    let sees = c.scope-scope.ensures seen stands context.declarations_are in
    let inside = slots_seen seen c.args.tables.now c.in_ok-inside.inside c.args.parameters.now c.args.body.now c.as_slice.result.now c.as_slice-2.result.now
    (record { front_are = c.as_slice.ensures; others_are = c.as_slice-2.ensures }) (c.in_ok-inside.ensures seen stands context.declarations_are) same in
    handed_on c.from_residual-in_err-slots.result c.in_err-slots.field-0.0 _ c.from_residual-in_err-slots.ensures.1
    (bad_slot seen c.args.tables.now c.scope-scope.result c.args.returns.now c.args.name.now c.args.parameters.now c.args.body.now sees same c.in_err-slots.field-0.0
    c.in_ok-result.ensures.refusal (c.in_ok-refuse_declared.ensures seen sees)
    (refused_as c.in_err-slots.field-0.0 _ _
    (slots_refusal_is seen c.args.tables.now c.in_ok-inside.inside c.args.parameters.now c.args.body.now c.as_slice-3.result.now c.as_slice-4.result.now
    (record { front_are = c.as_slice-3.ensures; others_are = c.as_slice-4.ensures }) inside)
    (refuses (List ValueType) c.in_err-slots.field-0.0 _ c.in_err-slots.ensures.refusal)))

pub returns-clause-tables : goal.returns-clause-tables
returns-clause-tables c = λ seen context stands same.
    let sees = c.scope-scope.ensures seen stands context.declarations_are in
    let inside = slots_seen seen c.args.tables.now c.in_ok-inside.inside c.args.parameters.now c.args.body.now c.as_slice.result.now c.as_slice-2.result.now
    (record { front_are = c.as_slice.ensures; others_are = c.as_slice-2.ensures }) (c.in_ok-inside.ensures seen stands context.declarations_are) same in
    behind_body seen c.args.tables.now c.in_ok-inside.inside c.args.parameters.now c.args.body.now c.as_slice-3.result.now c.as_slice-4.result.now
    (record { front_are = c.as_slice-3.ensures; others_are = c.as_slice-4.ensures }) inside
    c.args.name.now _ _ None c.push.new.self c.site.result c.in_ok-shown.field-0 c.len.result c.args.standing.now.version c.in_ok-slots.slots c.in_ok-result.result None same c.in_ok-push.ensures.ok
    (c.site.ensures seen stands) (c.in_ok-shown.ensures seen stands) stands.version_is c.len.ensures c.in_ok-slots.ensures.kinds
    (result_is seen c.args.tables.now c.scope-scope.result c.args.returns.now c.args.name.now c.args.parameters.now c.args.body.now sees same c.in_ok-result.result c.in_ok-result.ensures.kind)
    refl
    ∙ behind seen c.args.returns.now c.args.name.now c.args.parameters.now c.args.body.now

pub returns-clause-refusal : goal.returns-clause-refusal
returns-clause-refusal c = λ seen context stands same.
    let sees = c.scope-scope.ensures seen stands context.declarations_are in
    let inside = slots_seen seen c.args.tables.now c.in_ok-inside.inside c.args.parameters.now c.args.body.now c.as_slice.result.now c.as_slice-2.result.now
    (record { front_are = c.as_slice.ensures; others_are = c.as_slice-2.ensures }) (c.in_ok-inside.ensures seen stands context.declarations_are) same in
    good seen c.args.tables.now c.scope-scope.result c.args.returns.now c.args.name.now c.args.parameters.now c.args.body.now sees same
    c.in_ok-result.ensures.refusal (c.in_ok-refuse_declared.ensures seen sees)
    (sym (slots_refusal_is seen c.args.tables.now c.in_ok-inside.inside c.args.parameters.now c.args.body.now c.as_slice-3.result.now c.as_slice-4.result.now
    (record { front_are = c.as_slice-3.ensures; others_are = c.as_slice-4.ensures }) inside)
    ∙ c.in_ok-slots.ensures.refusal)
