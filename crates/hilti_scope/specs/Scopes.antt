-- What a scope says of names.
use Rattle.std.specs.Prelude.{◌≡◌, ℕ, nat_eq, Bool, false, List, [], ◌∷◌, ◌++◌, length, Option}
use Rattle.std.specs.Prelude.{Some, None, unwrap_or}
use Rattle.std.specs.List.{slice_get}
use Rattle.std.specs.Option.{option_and_then, option_map}
use Rattle.hilti_module.specs.declared.types.Name.{Name}
use Rattle.hilti_module.specs.declared.types.Word.{Word}
use Rattle.hilti_module.specs.declared.module.Module.{Module}
use Rattle.hilti_scope.specs.declared.meaning.Meaning.{Meaning}
use Rattle.hilti_scope.specs.declared.meaning.Meaning.TheVariants.{Nothing}
use Rattle.hilti_scope.specs.declared.declarations.Declarations.{Declarations}
use Rattle.hilti_scope.specs.declared.scope.Scope.{Scope}
use Rattle.hilti_scope.specs.FirstPlaces.{place_of}
use Rattle.hilti_scope.specs.Items.{declaration, module_named}
use Rattle.hilti_scope.specs.Meanings.{declared_at, seen_from, built_in, local_or, slot_of}
use Rattle.hilti_scope.specs.Meanings.{meaning_in, is_first}

-- the place of the first item of a module that declares a word
abbrev pub place_in : Declarations → ℕ → List ℕ → Option ℕ
place_in declarations file bytes =
    option_and_then (λ names. place_of names bytes) (slice_get declarations.declared file)

-- what a declaration means, seen from the item at `here`
abbrev pub seen_at : Declarations → ℕ → Option ℕ → Option Meaning
seen_at declarations here None = None
seen_at declarations here (Some at) =
    option_map (seen_from here at) (slice_get declarations.meanings at)

abbrev pub seen : Declarations → ℕ → ℕ → List ℕ → Option Meaning
seen declarations here file bytes = seen_at declarations here (place_in declarations file bytes)

-- the number of the parameter or local of a name
abbrev pub slot_in : Scope → List ℕ → Option ℕ
slot_in scope bytes = place_of scope.locals bytes

abbrev pub is_place : ℕ → Option ℕ → Bool
is_place here None = false
is_place here (Some at) = nat_eq at here

-- whether the item there is the first of its module that declares a name
abbrev pub comes_first_in : Scope → List ℕ → Bool
comes_first_in scope bytes = is_place scope.here (place_in scope.declarations.now scope.file bytes)

-- what a word means: a local, or a declaration of the module, or a built-in exception
abbrev pub plain_means : Scope → List ℕ → Meaning
plain_means scope bytes =
    local_or (slot_in scope bytes)
    (unwrap_or (seen scope.declarations.now scope.here scope.file bytes) (built_in bytes))

-- what a word means in a module
abbrev pub means_there : Scope → Option ℕ → List ℕ → Meaning
means_there scope None bytes = Nothing
means_there scope (Some file) bytes =
    unwrap_or (seen scope.declarations.now scope.here file bytes) Nothing

abbrev pub means_by : Scope → Word → Option Word → Meaning
means_by scope first None = plain_means scope first.bytes
means_by scope first (Some second) =
    means_there scope (place_of scope.declarations.now.modules first.bytes) second.bytes

-- what a name means in a scope
unfoldable pub means : Scope → Name → Meaning
means scope name = means_by scope name.first name.second

-- the declarations are those of these modules
pub record AreOf (modules : List Module) (declarations : Declarations) : Type 0 where
  pub modules_are :
      (bytes : List ℕ) → place_of declarations.modules bytes ≡ module_named modules bytes
  pub places_are :
      (file : ℕ) (bytes : List ℕ)
      → place_in declarations file bytes ≡ declaration modules file bytes
  pub meanings_are : (at : ℕ) → slice_get declarations.meanings at ≡ declared_at modules at

-- a scope is that of the item at `here` of the module `file`, with these parameters and locals
pub record Sees (modules : List Module) (file here : ℕ) (locals : List (List ℕ)) (scope : Scope)
    : Type 0 where
  pub means_are : means scope ≡ meaning_in modules file here locals
  pub slots_are : (bytes : List ℕ) → slot_in scope bytes ≡ slot_of locals bytes
  pub first_is : (bytes : List ℕ) → comes_first_in scope bytes ≡ is_first modules file here bytes

-- a scope with one more parameter or local, the next one where its number is that of those in front
-- of it
abbrev pub Hides : List ℕ → ℕ → Scope → Scope → Type 0
Hides word slot old new =
    (modules : List Module) (file here : ℕ) (locals : List (List ℕ))
    → Sees modules file here locals old
    → slot ≡ length locals → Sees modules file here (locals ++ word ∷ []) new
