-- What a scope sees, at first and with one more parameter or local.
use Rattle.std.proofs.Common.{◌≡◌, ℕ, cond, List, [], ◌∷◌, ◌++◌, length, bytes_eq, Option, Some, None, unwrap_or, refl, sym, ap, ap₂, ◌∙◌}
use Rattle.std.specs.Option.{option_map, option_or}
use Rattle.hilti_module.specs.declared.types.Name.{Name}
use Rattle.hilti_module.specs.declared.types.Word.{Word}
use Rattle.hilti_module.specs.declared.module.Module.{Module}
use Rattle.hilti_scope.specs.declared.meaning.Meaning.{Meaning}
use Rattle.hilti_scope.specs.declared.meaning.Meaning.TheVariants.{Nothing}
use Rattle.hilti_scope.specs.declared.declarations.Declarations.{Declarations}
use Rattle.hilti_scope.specs.declared.scope.Scope.{Scope}
use Rattle.hilti_scope.specs.FirstPlaces.{place_of}
use Rattle.hilti_scope.specs.Items.{declaration, module_named}
use Rattle.hilti_scope.specs.Meanings.{declared_in, declared_there, seen_from, built_in, meaning_in, meaning_by, meaning_in_module, local_or, slot_of, is_first}
use Rattle.hilti_scope.proofs.Positions.{position-push}
use Rattle.hilti_scope.specs.Scopes.{seen, seen_at, place_in, slot_in, comes_first_in, is_place, means, means_by, means_there, plain_means, AreOf, Sees}

module _ (modules : List Module) (declarations : Declarations) (are : AreOf modules declarations) where
  seen_there : (here : ℕ) (place : Option ℕ) → seen_at declarations here place ≡ declared_there modules here place
  seen_there here None = refl
  seen_there here (Some at) = ap (option_map (seen_from here at)) (are.meanings_are at)

  seen_is : (here file : ℕ) (bytes : List ℕ) → seen declarations here file bytes ≡ declared_in modules here file bytes
  seen_is here file bytes = ap (seen_at declarations here) (are.places_are file bytes) ∙ seen_there here (declaration modules file bytes)

module _ (modules : List Module) (scope : Scope) (are : AreOf modules scope.declarations.now) (none : scope.locals ≡ []) where
  there : (file : Option ℕ) (bytes : List ℕ) → means_there scope file bytes ≡ meaning_in_module modules scope.here file bytes
  there None bytes = refl
  there (Some file) bytes = ap (λ r. unwrap_or r Nothing) (seen_is modules scope.declarations.now are scope.here file bytes)

  no_local : (bytes : List ℕ) → slot_in scope bytes ≡ slot_of [] bytes
  unfolding place_of
  no_local bytes = ap (λ locals. place_of locals bytes) none

  by_words : (first : Word) (second : Option Word) → means_by scope first second ≡ meaning_by modules scope.file scope.here [] first second
  by_words first None = ap₂ (λ slot r. local_or slot (unwrap_or r (built_in first.bytes))) (no_local first.bytes) (seen_is modules scope.declarations.now are scope.here scope.file first.bytes)
  by_words first (Some second) = ap (λ file. means_there scope file second.bytes) (are.modules_are first.bytes) ∙ there (module_named modules first.bytes) second.bytes

  means_name : (name : Name) → means scope name ≡ meaning_in modules scope.file scope.here [] name
  unfolding means meaning_in
  means_name name = by_words name.first name.second

  first_is : (bytes : List ℕ) → comes_first_in scope bytes ≡ is_first modules scope.file scope.here bytes
  first_is bytes = ap (is_place scope.here) (are.places_are scope.file bytes)

  -- at first there are no parameters and locals
  pub Sees-new : Sees modules scope.file scope.here [] scope
  Sees-new = record { means_are = λ i name. means_name name i; slots_are = no_local; first_is = first_is }

hides : (r s : Meaning) (slot next : Option ℕ) → local_or slot r ≡ local_or slot s → local_or (option_or slot next) r ≡ local_or (option_or slot next) s
hides r s None next h = ap (local_or next) h
hides r s (Some slot) next h = refl

module _ (modules : List Module) (file here : ℕ) (locals : List (List ℕ)) (old new : Scope) (word : List ℕ) (slot : ℕ) (sees : Sees modules file here locals old)
    (next : slot ≡ length locals)
    (declarations : new.declarations ≡ old.declarations) (same_file : new.file ≡ old.file) (same_here : new.here ≡ old.here)
    (noted : (bytes : List ℕ) → place_of new.locals bytes ≡ option_or (place_of old.locals bytes) (cond (bytes_eq word bytes) (Some slot) None)) where
  -- the slot of a name among the parameters and locals, one more included
  one_more : (bytes : List ℕ) → slot_of (locals ++ word ∷ []) bytes ≡ option_or (slot_of locals bytes) (cond (bytes_eq word bytes) (Some (length locals)) None)
  one_more bytes = position-push (λ other. bytes_eq other bytes) locals word

  slot_more : (bytes : List ℕ) → slot_in new bytes ≡ option_or (slot_of locals bytes) (cond (bytes_eq word bytes) (Some (length locals)) None)
  slot_more bytes = noted bytes ∙ (λ i. option_or (sees.slots_are bytes i) (cond (bytes_eq word bytes) (Some (next i)) None))

  there_same : (there : Option ℕ) (bytes : List ℕ) → means_there new there bytes ≡ means_there old there bytes
  there_same None bytes = refl
  there_same (Some there) bytes = λ i. unwrap_or (seen (declarations i).now (same_here i) there bytes) Nothing

  words_more : (first : Word) (second : Option Word) → means_by old first second ≡ meaning_by modules file here locals first second
      → means_by new first second ≡ meaning_by modules file here (locals ++ word ∷ []) first second
  words_more first None was =
      (λ i. local_or (slot_more first.bytes i) (unwrap_or (seen (declarations i).now (same_here i) (same_file i) first.bytes) (built_in first.bytes)))
      ∙ hides _ _ (slot_of locals first.bytes) (cond (bytes_eq word first.bytes) (Some (length locals)) None) (sym (ap (λ s. local_or s (unwrap_or (seen old.declarations.now old.here old.file first.bytes) (built_in first.bytes))) (sees.slots_are first.bytes)) ∙ was)
      ∙ ap (λ s. local_or s (unwrap_or (declared_in modules here file first.bytes) (built_in first.bytes))) (sym (one_more first.bytes))
  words_more first (Some second) was = same ∙ was
    where
      same : means_by new first (Some second) ≡ means_by old first (Some second)
      same = (λ i. means_there new (place_of (declarations i).now.modules first.bytes) second.bytes) ∙ there_same (place_of old.declarations.now.modules first.bytes) second.bytes

  means_more : (name : Name) → means old name ≡ meaning_in modules file here locals name → means new name ≡ meaning_in modules file here (locals ++ word ∷ []) name
  unfolding means meaning_in
  means_more name was = words_more name.first name.second was

  -- a parameter or a local more
  pub Sees-hide : Sees modules file here (locals ++ word ∷ []) new
  Sees-hide = record {
    means_are = λ i name. means_more name (λ j. sees.means_are j name) i;
    slots_are = λ bytes. slot_more bytes ∙ sym (one_more bytes);
    first_is = λ bytes. (λ i. is_place (same_here i) (place_in (declarations i).now (same_file i) bytes)) ∙ sees.first_is bytes;
  }

-- a name with `::`
pub means-second : (scope : Scope) (name : Name) (second : Word) (file : Option ℕ) (r : Meaning) → name.second ≡ Some second → file ≡ place_of scope.declarations.now.modules name.first.bytes
    → r ≡ means_there scope file second.bytes → r ≡ means scope name
unfolding means
means-second scope name second file r is named means = means ∙ ap (λ f. means_there scope f second.bytes) named ∙ ap (means_by scope name.first) (sym is)

-- a name without
pub means-plain : (scope : Scope) (name : Name) (r : Meaning) → name.second ≡ None → r ≡ plain_means scope name.first.bytes → r ≡ means scope name
unfolding means
means-plain scope name r is means = means ∙ ap (means_by scope name.first) (sym is)
