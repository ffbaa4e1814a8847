-- What is gathered of the items in front.
use Rattle.std.specs.Prelude.{◌≡◌, ℕ, ◌+◌, ◌≤◌, ◌^◌, List, length, take, Option}
use Rattle.std.specs.List.{position, slice_get}
use Rattle.std.specs.Option.{option_map}
use Rattle.hilti_module.specs.declared.module.Module.{Module}
use Rattle.hilti_scope.specs.declared.meaning.Meaning.{Meaning}
use Rattle.hilti_scope.specs.declared.declarations.Gathering.{Gathering}
use Rattle.hilti_scope.specs.FirstPlaces.{place_of}
use Rattle.hilti_scope.specs.Items.{Placed, placed, declares}
use Rattle.hilti_scope.specs.Meanings.{declared_behind}
use Rattle.hilti_scope.specs.Numbers.{numbers_behind}
use Rattle.hilti_scope.specs.Scopes.{AreOf}

-- what the item at a place declares
abbrev pub declared_among : List Placed → ℕ → Option Meaning
declared_among all at =
    option_map (λ found. declared_behind (take at all) found.item) (slice_get all at)

-- the meanings and the next numbers are those of these items
pub record IsBehind (before : List Placed) (gathering : Gathering) : Type 0 where
  pub numbers_are : gathering.numbers ≡ numbers_behind before
  pub meanings_are :
      (at : ℕ) → slice_get gathering.declarations.meanings at ≡ declared_among before at
  pub counted : length gathering.declarations.meanings ≡ length before

-- so many items more are no more than can be numbered
abbrev pub HasRoom : ℕ → Gathering → Type 0
HasRoom more gathering =
    (before : List Placed) × IsBehind before gathering × (length before + more ≤ 2 ^ 31)

-- the names of a module with the first of some items that declares each
abbrev pub AreNames : ℕ → List Placed → List (List ℕ × ℕ) → Type 0
AreNames file before names =
    (bytes : List ℕ) → place_of names bytes ≡ position (declares file bytes) before

-- the names of the modules in front stay
pub record KeepsNames (old new : Gathering) : Type 0 where
  pub modules : new.declarations.modules ≡ old.declarations.modules
  pub declared : new.declarations.declared ≡ old.declarations.declared

-- all is that of these modules
pub record IsGathered (before : List Module) (gathering : Gathering) : Type 0 where
  pub are_of : AreOf before gathering.declarations
  pub is_behind : IsBehind (placed before) gathering
  pub modules_counted : length gathering.declarations.declared ≡ length before
