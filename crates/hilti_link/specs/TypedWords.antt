-- Types with words: parameters, locals and the fields of structs.
use Rattle.std.specs.Prelude.{ℕ, List, [], Bool, false, ◌||◌, map, Option}
use Rattle.std.specs.Option.{option_or}
use Rattle.hilti_base.specs.declared.refusal.Refusal.{Refusal}
use Rattle.hilti_module.specs.declared.module.Parameter.{Parameter}
use Rattle.hilti_types.specs.declared.value_type.ValueType.{ValueType}
use Rattle.hilti_scope.specs.Meanings.{is_among, is_built_in}
use Rattle.hilti_link.specs.declared.typed_words.Role.{Role}
use Rattle.hilti_link.specs.declared.typed_words.Role.TheVariants as roles
use Rattle.hilti_link.specs.InTurn.{first_in_turn}
use Rattle.hilti_link.specs.Seeing.{View, refusal_of_type, type_at, again, taking}

abbrev pub names_of : List Parameter → List (List ℕ)
names_of words = map (λ parameter. parameter.name.bytes) words

-- parameters and locals aren't named as a built-in exception; the fields of structs may be
abbrev pub is_reserved : Role → List ℕ → Bool
is_reserved roles.Slot bytes = is_built_in bytes
is_reserved roles.Member bytes = false

-- the type is looked at, and then the word
abbrev pub word_refusal : View → Role → List (List ℕ) → Parameter → Option Refusal
word_refusal view role taken next =
    option_or (refusal_of_type view next.kind)
    (again (is_among taken next.name.bytes || is_reserved role next.name.bytes) next.name)

abbrev pub taking_word : List (List ℕ) → Parameter → List (List ℕ)
taking_word taken next = taking taken next.name

-- no two of them have one word
abbrev pub words_refusal : View → Role → List Parameter → Option Refusal
words_refusal view role words = first_in_turn (word_refusal view role) taking_word [] words

abbrev pub kinds_of : View → List Parameter → List ValueType
kinds_of view words = map (λ parameter. type_at view parameter.kind) words
