use Rattle.std.proofs.Common.{◌≡◌, ◌∙◌, sym, ap, ℕ, List, Bool, ◌||◌, None}
use Rattle.std.specs.Prelude.{is_some}
use Rattle.hilti_base.specs.declared.refusal.Refusal.{Refusal}
use Rattle.hilti_module.specs.declared.module.Parameter.{Parameter}
use Rattle.hilti_scope.specs.FirstPlaces.{place_of}
use Rattle.hilti_resolve.specs.Refused.{type_refusal}
use Rattle.hilti_link.specs.declared.typed_words.Role.{Role}
use Rattle.hilti_link.specs.Seeing.{View, again}
use Rattle.hilti_link.specs.TypedWords.{is_reserved, word_refusal}
use Rattle.hilti_link.specs.Views.{view_in, Holds}
use Rattle.hilti_link.proofs.Answering.{Refused, refused_same, answers_behind, answers_given}
use Rattle.hilti_link.proofs.typed_words.read_word.Goals as goal

-- the type is accepted, and the word refused
word_refused : (view : View) (role : Role) (words : List (List ℕ)) (noted : List (List ℕ × ℕ)) (word : Parameter) (bytes : List ℕ) (is_taken : Bool) (e : Refusal)
    → bytes ≡ word.name.bytes → Holds words noted → type_refusal view.tables.types view.mean word.kind ≡ None
    → is_taken ≡ (is_some (place_of noted bytes) || is_reserved role bytes) → Refused e (again is_taken word.name) → Refused e (word_refusal view role words word)
word_refused view role words noted word bytes is_taken e bytes_are holds accepted taken refused =
    answers_behind e _ _ accepted
    (refused_same e _ _ (ap (λ taken. again taken word.name) (sym (taken ∙ ap (λ bytes. is_some (place_of noted bytes) || is_reserved role bytes) bytes_are ∙ ap (λ found. found || is_reserved role word.name.bytes) (holds word.name.bytes)))) refused)

pub returns-in_err-refuse_again-clause-refusal : goal.returns-in_err-refuse_again-clause-refusal
returns-in_err-refuse_again-clause-refusal c = λ words holds.
    let e = c.in_err-refuse_again.field-0.0 in
    answers_given c.from_residual-in_err-refuse_again.result e _ c.from_residual-in_err-refuse_again.ensures.0 c.from_residual-in_err-refuse_again.ensures.1
    (word_refused (view_in c.args.tables.now c.args.scope.now) c.args.role words c.args.taken.now c.args.word.now c.bytes.result.now c.has_taken-is_taken.result e
    c.bytes.ensures holds c.in_ok-kind.ensures.accepted c.has_taken-is_taken.ensures c.in_err-refuse_again.ensures)
