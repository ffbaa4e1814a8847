use Rattle.std.proofs.Common.{◌≡◌, refl, sym, ◌∙◌, ap, ℕ, List, [], None}
use Rattle.std.specs.Option.{option_or}
use Rattle.std.proofs.lemmas.Result.{on_ok_weaker}
use Rattle.hilti_base.specs.declared.refusal.Refusal.{Refusal}
use Rattle.hilti_module.specs.declared.types.Word.{Word}
use Rattle.hilti_module.specs.declared.module.Item.TheVariants as items
use Rattle.hilti_module.specs.declared.module.Shape.{Shape}
use Rattle.hilti_scope.specs.declared.scope.Scope.{Scope}
use Rattle.hilti_link.specs.declared.tables.Site.{Site}
use Rattle.hilti_link.specs.declared.tables.Tables.{Tables}
use Rattle.hilti_link.specs.Items.{Seen, item_refusal, tables_behind, declared_again, view_of, site_of, with_shape}
use Rattle.hilti_link.specs.Seeing.{View, qualified}
use Rattle.hilti_link.specs.Shapes.{shape_refusal}
use Rattle.hilti_link.specs.Standings.{SeesPlain}
use Rattle.hilti_link.specs.Views.{view_in}
use Rattle.hilti_link.proofs.Answering.{Refused, refused_as, answers_or, behind_none, answers_as, handed_on}
use Rattle.hilti_link.proofs.AnsweringItems.{view_is}
use Rattle.hilti_link.proofs.items.link_type.Goals as goal

module _ (seen : Seen) (tables : Tables) (scope : Scope) (name : Word) (shape : Shape) (sees : SeesPlain seen scope) (same : seen.tables ≡ tables) where
  parts : item_refusal seen (items.Type name shape) ≡ option_or (declared_again seen name) (shape_refusal (view_of seen) shape)
  unfolding item_refusal
  parts = refl

  view : view_in tables scope ≡ view_of seen
  view = view_is seen [] tables scope sees same

  bad_name : (e : Refusal) → Refused e (declared_again seen name) → Refused e (item_refusal seen (items.Type name shape))
  bad_name e is = refused_as e _ _ (sym parts) (answers_or e _ _ is)

  by_shape : declared_again seen name ≡ None → shape_refusal (view_in tables scope) shape ≡ item_refusal seen (items.Type name shape)
  by_shape new = ap (λ (v : View). shape_refusal v shape) view ∙ sym (behind_none _ _ new) ∙ sym parts

  behind : (now : Tables) (site : Site) (shown : List ℕ) → site ≡ site_of seen name → shown ≡ qualified seen.owner name.bytes
      → now ≡ with_shape (view_in tables scope) site shown shape → now ≡ tables_behind seen (items.Type name shape)
  unfolding tables_behind
  behind now site shown site_is shown_is is = is ∙ (λ i. with_shape (view i) (site_is i) (shown_is i) shape)

pub returns-in_err-refuse_declared-clause-refusal : goal.returns-in_err-refuse_declared-clause-refusal
returns-in_err-refuse_declared-clause-refusal c = λ seen context stands same.
    let sees = c.scope-scope.ensures seen stands context.declarations_are in
    handed_on c.from_residual.result c.in_err-refuse_declared.field-0.0 _ c.from_residual.ensures.1
    (bad_name seen c.args.tables.now c.scope-scope.result c.args.name.now c.args.shape.now sees same c.in_err-refuse_declared.field-0.0 (c.in_err-refuse_declared.ensures seen sees))

pub returns-clause-tables : goal.returns-clause-tables
returns-clause-tables c =
    on_ok_weaker c.link_shape.result
    (λ is seen context stands same.
    behind seen c.args.tables.now c.scope-scope.result c.args.name.now c.args.shape.now (c.scope-scope.ensures seen stands context.declarations_are) same
    c.link_shape.new.tables c.site.result c.in_ok-shown.shown (c.site.ensures seen stands) (c.in_ok-shown.ensures seen stands) is)
    c.link_shape.ensures.tables

pub returns-clause-refusal : goal.returns-clause-refusal
returns-clause-refusal c = λ seen context stands same.
    let sees = c.scope-scope.ensures seen stands context.declarations_are in
    answers_as c.link_shape.result _ _ (by_shape seen c.args.tables.now c.scope-scope.result c.args.name.now c.args.shape.now sees same (c.in_ok-refuse_declared.ensures seen sees))
    c.link_shape.ensures.refusal
