use Rattle.std.proofs.Common.{◌≡◌, refl, sym, ◌∙◌, ap, ℕ, List, [], Option, None}
use Rattle.std.specs.Option.{option_or}
use Rattle.hilti_base.specs.declared.refusal.Refusal.{Refusal}
use Rattle.hilti_module.specs.declared.types.Name.{Name}
use Rattle.hilti_module.specs.declared.types.Number.{Number}
use Rattle.hilti_module.specs.declared.module.Body.{Body}
use Rattle.hilti_module.specs.declared.module.Item.TheVariants.{HookBody}
use Rattle.hilti_module.specs.declared.module.Parameter.{Parameter}
use Rattle.hilti_types.specs.declared.value_type.ValueType.{ValueType}
use Rattle.hilti_scope.specs.declared.meaning.Meaning.{Meaning}
use Rattle.hilti_scope.specs.declared.scope.Scope.{Scope}
use Rattle.hilti_scope.specs.Meanings.{meaning_in}
use Rattle.hilti_scope.specs.Scopes.{means}
use Rattle.hilti_link.specs.declared.tables.Tables.{Tables}
use Rattle.hilti_link.specs.Hooks.{hook_meant, hook_number}
use Rattle.hilti_link.specs.Items.{Seen, item_refusal, tables_behind, slots_of, slots_view, slots_refusal, shown, with_function, function_of}
use Rattle.hilti_link.specs.Seeing.{View}
use Rattle.hilti_link.specs.Standings.{SeesPlain}
use Rattle.hilti_link.specs.TypedWords.{names_of}
use Rattle.hilti_link.specs.Views.{view_in}
use Rattle.hilti_link.proofs.Answering.{Refused, refuses, refused_as, answers_or, answers_behind, behind_none, handed_on}
use Rattle.hilti_link.proofs.Slots.{slots_seen, slots_refusal_is, behind_body}
use Rattle.hilti_link.proofs.items.link_hook_body.Goals as goal

-- what the body's name means
meant : (seen : Seen) (plain : Scope) (name : Name) (meaning : Meaning) → SeesPlain seen plain → meaning ≡ means plain name → meaning ≡ meaning_in seen.modules seen.file seen.here [] name
meant seen plain name meaning sees is = is ∙ ap (λ (mean : Name → Meaning). mean name) sees.means_are

module _ (seen : Seen) (tables : Tables) (scope : Scope) (name : Name) (parameters : List Parameter) (priority : Option Number) (body : Body) (words : List Parameter) (meaning : Meaning)
    (view : view_in tables scope ≡ slots_view seen (slots_of parameters body)) (words_are : words ≡ parameters) (is_meant : meaning ≡ meaning_in seen.modules seen.file seen.here [] name) where
  abbrev hook_refusal : Option Refusal
  hook_refusal =
      hook_meant seen.modules (meaning_in seen.modules seen.file seen.here (names_of (slots_of parameters body))) parameters name.first.place (meaning_in seen.modules seen.file seen.here [] name)

  parts : item_refusal seen (HookBody name parameters priority body) ≡ option_or hook_refusal (slots_refusal seen (slots_of parameters body))
  unfolding item_refusal
  parts = refl

  hook_refusal_is : hook_meant seen.modules (means scope) words name.first.place meaning ≡ hook_refusal
  hook_refusal_is = λ i. hook_meant seen.modules (ap (λ (v : View). v.mean) view i) (words_are i) name.first.place (is_meant i)

  bad_hook : (e : Refusal) → Refused e (hook_meant seen.modules (means scope) words name.first.place meaning) → Refused e (item_refusal seen (HookBody name parameters priority body))
  bad_hook e is = refused_as e _ _ (sym parts) (answers_or e _ _ (refused_as e _ _ hook_refusal_is is))

  bad_slot : (e : Refusal) → hook_meant seen.modules (means scope) words name.first.place meaning ≡ None → Refused e (slots_refusal seen (slots_of parameters body))
      → Refused e (item_refusal seen (HookBody name parameters priority body))
  bad_slot e none is = refused_as e _ _ (sym parts) (answers_behind e _ _ (sym hook_refusal_is ∙ none) is)

  good : hook_meant seen.modules (means scope) words name.first.place meaning ≡ None → slots_refusal seen (slots_of parameters body) ≡ None
      → item_refusal seen (HookBody name parameters priority body) ≡ None
  good none fine = parts ∙ behind_none _ _ (sym hook_refusal_is ∙ none) ∙ fine

behind : (seen : Seen) (name : Name) (parameters : List Parameter) (priority : Option Number) (body : Body)
    → with_function seen.tables (function_of seen name.first (shown seen.owner name) parameters body None (hook_number (meaning_in seen.modules seen.file seen.here [] name)))
    ≡ tables_behind seen (HookBody name parameters priority body)
unfolding tables_behind
behind seen name parameters priority body = refl

pub returns-in_err-hook-clause-refusal : goal.returns-in_err-hook-clause-refusal
returns-in_err-hook-clause-refusal c = λ priority seen context stands same.
    let plain = c.scope.ensures seen stands context.declarations_are in
    let inside = slots_seen seen c.args.tables.now c.in_ok-inside.inside c.args.parameters.now c.args.body.now c.as_slice.result.now c.as_slice-2.result.now
    (record { front_are = c.as_slice.ensures; others_are = c.as_slice-2.ensures }) (c.in_ok-inside.ensures seen stands context.declarations_are) same in
    handed_on c.from_residual-in_err-hook.result c.in_err-hook.field-0.0 _ c.from_residual-in_err-hook.ensures.1
    (bad_hook seen c.args.tables.now c.in_ok-inside.inside c.args.name.now c.args.parameters.now priority c.args.body.now c.as_slice-3.result.now c.meaning-meaning.result
    inside c.as_slice-3.ensures (meant seen c.scope.result c.args.name.now c.meaning-meaning.result plain c.meaning-meaning.ensures) c.in_err-hook.field-0.0
    (refuses (Option ℕ) c.in_err-hook.field-0.0 _ (c.in_err-hook.ensures.refusal seen.modules context)))

pub returns-in_err-slots-clause-refusal : goal.returns-in_err-slots-clause-refusal
returns-in_err-slots-clause-refusal c = λ priority seen context stands same.
    let plain = c.scope.ensures seen stands context.declarations_are in
    let inside = slots_seen seen c.args.tables.now c.in_ok-inside.inside c.args.parameters.now c.args.body.now c.as_slice.result.now c.as_slice-2.result.now
    (record { front_are = c.as_slice.ensures; others_are = c.as_slice-2.ensures }) (c.in_ok-inside.ensures seen stands context.declarations_are) same in
    handed_on c.from_residual-in_err-slots.result c.in_err-slots.field-0.0 _ c.from_residual-in_err-slots.ensures.1
    (bad_slot seen c.args.tables.now c.in_ok-inside.inside c.args.name.now c.args.parameters.now priority c.args.body.now c.as_slice-3.result.now c.meaning-meaning.result
    inside c.as_slice-3.ensures (meant seen c.scope.result c.args.name.now c.meaning-meaning.result plain c.meaning-meaning.ensures) c.in_err-slots.field-0.0
    (c.in_ok-hook.ensures.refusal seen.modules context)
    (refused_as c.in_err-slots.field-0.0 _ _
    (slots_refusal_is seen c.args.tables.now c.in_ok-inside.inside c.args.parameters.now c.args.body.now c.as_slice-4.result.now c.as_slice-5.result.now
    (record { front_are = c.as_slice-4.ensures; others_are = c.as_slice-5.ensures }) inside)
    (refuses (List ValueType) c.in_err-slots.field-0.0 _ c.in_err-slots.ensures.refusal)))

pub returns-clause-tables : goal.returns-clause-tables
returns-clause-tables c = λ priority seen context stands same.
    let plain = c.scope.ensures seen stands context.declarations_are in
    let inside = slots_seen seen c.args.tables.now c.in_ok-inside.inside c.args.parameters.now c.args.body.now c.as_slice.result.now c.as_slice-2.result.now
    (record { front_are = c.as_slice.ensures; others_are = c.as_slice-2.ensures }) (c.in_ok-inside.ensures seen stands context.declarations_are) same in
    behind_body seen c.args.tables.now c.in_ok-inside.inside c.args.parameters.now c.args.body.now c.as_slice-4.result.now c.as_slice-5.result.now
    (record { front_are = c.as_slice-4.ensures; others_are = c.as_slice-5.ensures }) inside
    c.args.name.now.first _ None _ c.push.new.self c.site.result c.in_ok-shown_name.field-0 c.len.result c.args.standing.now.version c.in_ok-slots.slots None c.in_ok-hook.hook same c.in_ok-push.ensures.ok
    (c.site.ensures seen stands) (c.in_ok-shown_name.ensures seen stands) stands.version_is c.len.ensures c.in_ok-slots.ensures.kinds refl
    (c.in_ok-hook.ensures.hook ∙ ap hook_number (meant seen c.scope.result c.args.name.now c.meaning-meaning.result plain c.meaning-meaning.ensures))
    ∙ behind seen c.args.name.now c.args.parameters.now priority c.args.body.now

pub returns-clause-refusal : goal.returns-clause-refusal
returns-clause-refusal c = λ priority seen context stands same.
    let plain = c.scope.ensures seen stands context.declarations_are in
    let inside = slots_seen seen c.args.tables.now c.in_ok-inside.inside c.args.parameters.now c.args.body.now c.as_slice.result.now c.as_slice-2.result.now
    (record { front_are = c.as_slice.ensures; others_are = c.as_slice-2.ensures }) (c.in_ok-inside.ensures seen stands context.declarations_are) same in
    good seen c.args.tables.now c.in_ok-inside.inside c.args.name.now c.args.parameters.now priority c.args.body.now c.as_slice-3.result.now c.meaning-meaning.result
    inside c.as_slice-3.ensures (meant seen c.scope.result c.args.name.now c.meaning-meaning.result plain c.meaning-meaning.ensures)
    (c.in_ok-hook.ensures.refusal seen.modules context)
    (sym (slots_refusal_is seen c.args.tables.now c.in_ok-inside.inside c.args.parameters.now c.args.body.now c.as_slice-4.result.now c.as_slice-5.result.now
    (record { front_are = c.as_slice-4.ensures; others_are = c.as_slice-5.ensures }) inside)
    ∙ c.in_ok-slots.ensures.refusal)
