-- Types with words that aren't refused: what they stand for is told by what they say.
use Rattle.std.proofs.Common.{◌≡◌, refl, sym, ◌∙◌, ap, ap₂, ℕ, Bool, true, false, ◌||◌, cond, List, [], ◌∷◌, ◌++◌, length, map, take, Option, Some, None, Result, Ok, Err}
use Rattle.std.specs.Prelude.{nat_lt}
use Rattle.std.specs.Option.{is_some}
use Rattle.std.proofs.lemmas.List.Folds.{list_any-append}
use Rattle.hilti_base.specs.declared.names.Place.{Place}
use Rattle.hilti_base.specs.declared.refusal.Refusal.{Refusal}
use Rattle.hilti_module.specs.declared.types.Name.{Name}
use Rattle.hilti_module.specs.declared.types.TypeText.{TypeText}
use Rattle.hilti_module.specs.declared.module.Parameter.{Parameter}
use Rattle.hilti_types.specs.declared.declared.Declared.{Declared}
use Rattle.hilti_types.specs.declared.value_type.ValueType.{ValueType}
use Rattle.hilti_types.specs.Depths.{depths}
use Rattle.hilti_scope.specs.declared.meaning.Meaning.{Meaning}
use Rattle.hilti_resolve.specs.Depth.{written_depth}
use Rattle.hilti_resolve.specs.Names.{first_unknown}
use Rattle.hilti_resolve.specs.Refused.{type_refusal, known_refusal, unknown_or_broken, deep_at, start_of}
use Rattle.hilti_resolve.specs.Values.{value_of}
use Rattle.hilti_resolve.specs.Written.{Written, says}
use Rattle.hilti_link.specs.declared.typed_words.Role.{Role}
use Rattle.hilti_link.specs.Hooks.{all_say, has_unknown}
use Rattle.hilti_link.specs.InTurn.{first_in_turn}
use Rattle.hilti_link.specs.Seeing.{View, refusal_of_type, or_bool}
use Rattle.hilti_link.specs.TypedWords.{word_refusal, taking_word, kinds_of}
use Rattle.hilti_declared.proofs.Saying.{type_told, stands_as_told}
use Rattle.hilti_declared.proofs.Walks.{neither}

-- the types that are told by what is said
abbrev pub types_told : List Written → List ValueType
types_told said = map type_told said

-- a written type that isn't refused has no name that means nothing, and stands for what is told by what it says
module _ (table : List Declared) (mean : Name → Meaning) (text : TypeText) where
  shallow : (deep : Bool) (refusal : Refusal) (other : Option Refusal) → cond deep (Some refusal) other ≡ None → other ≡ None
  shallow true refusal other e = cc
  shallow false refusal other e = e

  known_so : (unknown : Option Place) (value : Result ValueType Place) → unknown_or_broken unknown value ≡ None
      → (unknown ≡ None) × ((v : ValueType) × (value ≡ Ok v))
  known_so None (Ok v) e = (refl, (v, refl))
  known_so None (Err place) e = cc
  known_so (Some place) value e = cc

  accepted : type_refusal table mean text ≡ None → (first_unknown mean text ≡ None) × ((v : ValueType) × (value_of table mean text ≡ Ok v))
  accepted none =
      known_so (first_unknown mean text) (value_of table mean text)
      (shallow (nat_lt 16 (written_depth (depths table) mean text)) (deep_at (start_of text) (known_refusal table mean text)) (known_refusal table mean text) none)

  type_so : type_refusal table mean text ≡ None → or_bool (value_of table mean text) ≡ type_told (says mean text)
  type_so none =
      let it = accepted none in
      let value = it.1 in
      ap or_bool value.1 ∙ sym (stands_as_told table mean text value.0 value.1)

-- the same of types with words
module _ (view : View) (role : Role) where
  pub words_known : (taken : List (List ℕ)) (words : List Parameter) → first_in_turn (word_refusal view role) taking_word taken words ≡ None
      → has_unknown view.mean words ≡ false
  unfolding first_in_turn
  words_known taken [] none = refl
  words_known taken (next ∷ more) none =
      let parts = neither (word_refusal view role taken next) (first_in_turn (word_refusal view role) taking_word (taking_word taken next) more) none in
      let own = neither (refusal_of_type view next.kind) _ parts.0 in
      let it = accepted view.tables.types view.mean next.kind own.0 in
      ap₂ (λ (o : Option Place) b. is_some o || b) it.0 (words_known (taking_word taken next) more parts.1)

  pub words_told : (taken : List (List ℕ)) (words : List Parameter) → first_in_turn (word_refusal view role) taking_word taken words ≡ None
      → kinds_of view words ≡ types_told (all_say view.mean words)
  unfolding first_in_turn
  words_told taken [] none = refl
  words_told taken (next ∷ more) none =
      let parts = neither (word_refusal view role taken next) (first_in_turn (word_refusal view role) taking_word (taking_word taken next) more) none in
      let own = neither (refusal_of_type view next.kind) _ parts.0 in
      ap₂ (λ k l. k ∷ l) (type_so view.tables.types view.mean next.kind own.0) (words_told (taking_word taken next) more parts.1)

-- what is said of the first of some parameters and locals
pub front_told : (mean : Name → Meaning) (front others : List Parameter)
    → take (length front) (types_told (all_say mean (front ++ others))) ≡ types_told (all_say mean front)
front_told mean [] others = refl
front_told mean (next ∷ front) others = ap (λ l. type_told (says mean next.kind) ∷ l) (front_told mean front others)

first_false : (a b : Bool) → (a || b) ≡ false → a ≡ false
first_false false b e = refl
first_false true b e = cc

pub front_known : (mean : Name → Meaning) (front others : List Parameter) → has_unknown mean (front ++ others) ≡ false → has_unknown mean front ≡ false
front_known mean front others none =
    first_false (has_unknown mean front) (has_unknown mean others)
    (sym (list_any-append (λ (parameter : Parameter). is_some (first_unknown mean parameter.kind)) front others) ∙ none)
