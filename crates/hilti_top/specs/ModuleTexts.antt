-- What the texts of modules are, in word order: accepted, or refused with a place and a code.
use Rattle.std.specs.Prelude.{◌≡◌, ℕ, suc, ◌<◌, ◌≤◌, List, [], ◌∷◌, ◌++◌, length, Some, None}
use Rattle.std.specs.Prelude.{Ok, Err}
use Rattle.std.specs.List.{AllByRecursion}
use Rattle.hilti_base.specs.declared.names.Place.{Place}
use Rattle.hilti_base.specs.declared.refusal.Refusal.TheVariants.{At}
use Rattle.hilti_module.specs.declared.module.Module.{Module}
use Rattle.hilti_syntax.specs.Texts.{TextIsModule, TextRefused}
use Rattle.hilti_link.specs.Refusals.{first_refusal}
use Rattle.hilti_parts.specs.declared.parts.Parts.{Parts}
use Rattle.hilti_check.specs.Checking.{checked}

-- a text isn't too long
abbrev pub IsShort : List ℕ → Type 0
IsShort text = length text ≤ 1048576

-- line 1 and column 1 of a file
abbrev pub start_of : ℕ → Place
start_of file = record { file = file; line = 1; column = 1 }

-- the texts of the files from this one on are these modules
unfoldable pub AreFrom : ℕ → List (List ℕ) → List Module → Type 0
AreFrom file [] [] = Unit {0}
AreFrom file [] (m ∷ modules) = ⊥
AreFrom file (text ∷ texts) [] = ⊥
AreFrom file (text ∷ texts) (m ∷ modules) =
    TextIsModule file text m × AreFrom (suc file) texts modules

-- each text is the module of its place
abbrev pub AreModules : List (List ℕ) → List Module → Type 0
AreModules texts modules = AreFrom 0 texts modules

-- no text is too long, each is a module, the modules link, and the program that they are has these
-- parts
pub record IsAccepted (texts : List (List ℕ)) (parts : Parts) : Type 0 where
  pub modules : List Module
  pub short : AllByRecursion IsShort texts
  pub are : AreModules texts modules
  pub link : first_refusal modules ≡ None
  pub checked : checked modules ≡ Ok parts

-- a text is too long, and none before it is: the answer is its start, with code 50
pub record IsTooLong (texts : List (List ℕ)) (place : Place) (code : ℕ) : Type 0 where
  pub before : List (List ℕ)
  pub text : List ℕ
  pub after : List (List ℕ)
  pub split : texts ≡ before ++ text ∷ after
  pub short : AllByRecursion IsShort before
  pub long : 1048576 < length text
  pub place_is : place ≡ start_of (length before)
  pub code_is : code ≡ 50

-- a text is refused by the lexer or the grammar, and all before it are modules
pub record IsUnread (texts : List (List ℕ)) (place : Place) (code : ℕ) : Type 0 where
  pub before : List (List ℕ)
  pub text : List ℕ
  pub after : List (List ℕ)
  pub modules : List Module
  pub split : texts ≡ before ++ text ∷ after
  pub are : AreModules before modules
  pub refused : TextRefused (length before) text code place

-- all texts are modules, which the linker refuses
pub record IsUnlinked (texts : List (List ℕ)) (place : Place) (code : ℕ) : Type 0 where
  pub modules : List Module
  pub are : AreModules texts modules
  pub refused : first_refusal modules ≡ Some (At place code)

-- all texts are modules that link, which the checker refuses
pub record IsUnchecked (texts : List (List ℕ)) (place : Place) (code : ℕ) : Type 0 where
  pub modules : List Module
  pub are : AreModules texts modules
  pub link : first_refusal modules ≡ None
  pub refused : checked modules ≡ Err (At place code)

-- texts are refused, for the first cause that there is
pub data IsRefused (texts : List (List ℕ)) (place : Place) (code : ℕ) : Type 0 where
  Length : IsTooLong texts place code → IsRefused texts place code
  Reading : AllByRecursion IsShort texts → IsUnread texts place code → IsRefused texts place code
  Linking : AllByRecursion IsShort texts → IsUnlinked texts place code → IsRefused texts place code
  Checking :
      AllByRecursion IsShort texts → IsUnchecked texts place code → IsRefused texts place code
