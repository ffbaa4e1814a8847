-- The words of the command line, and what they ask for.
use Rattle.std.specs.Prelude.{◌≡◌, ℕ, List, [], ◌∷◌, ◌++◌, codes}
use Rattle.std.specs.List.{AllByRecursion}
use Rattle.hilti_base.specs.declared.limits.Limits.{Limits}
use Rattle.hilti_words.specs.declared.command.Command.{Command}
use Rattle.hilti_words.specs.declared.command.Command.TheVariants as commands
use Rattle.hilti_words.specs.declared.setting.Setting.TheVariants as settings
use Rattle.hilti_words.specs.Names.{AreModuleNames}
use Rattle.hilti_words.specs.Options.{Piece, IsPiece, IsGiven, words_of, positions_in, values_in}

-- what a command asks for, by the names of files
pub data Asked : Type 0 where
  Check : (modules : List (List ℕ)) → Asked
  One : (limits : Limits) (capture : List ℕ) (modules : List (List ℕ)) → Asked

-- the modules
abbrev pub modules_in : Asked → List (List ℕ)
modules_in (Check modules) = modules
modules_in (One limits capture modules) = modules

-- the capture, where there's one
abbrev pub captures_in : Asked → List (List ℕ)
captures_in (Check modules) = []
captures_in (One limits capture modules) = capture ∷ []

-- all files in the order in which they are opened: the modules, and then the capture
abbrev pub files_in : Asked → List (List ℕ)
files_in asked = modules_in asked ++ captures_in asked

-- the command `check` on modules
pub record IsCheck (words : List (List ℕ)) (modules : List (List ℕ)) : Type 0 where
  pub words_are : words ≡ codes "check" ∷ modules
  pub modules_named : AreModuleNames modules

-- pieces give a run by one worker these limits: 1,000,000 where they say nothing
pub record GiveLimits (pieces : List Piece) (limits : Limits) : Type 0 where
  pub fuel : IsGiven (values_in settings.Fuel pieces) 1000000 limits.fuel
  pub calls : IsGiven (values_in settings.Calls pieces) 1000000 limits.calls
  pub workers : limits.workers ≡ 1

-- the command `one` on a capture and modules, with options in any place behind it
pub record IsOne (words : List (List ℕ)) (limits : Limits) (capture : List ℕ)
    (modules : List (List ℕ)) : Type 0 where
  pub pieces : List Piece
  pub words_are : words ≡ codes "one" ∷ words_of pieces
  pub good : AllByRecursion IsPiece pieces
  pub positions : positions_in pieces ≡ capture ∷ modules
  pub modules_named : AreModuleNames modules
  pub given : GiveLimits pieces limits

-- the words ask for this
abbrev pub IsAsked : List (List ℕ) → Asked → Type 0
IsAsked words (Check modules) = IsCheck words modules
IsAsked words (One limits capture modules) = IsOne words limits capture modules

-- the words are a command, and what it asks for is such
pub record Asks (words : List (List ℕ)) (such : Asked → Type 0) : Type 0 where
  pub asked : Asked
  pub is : IsAsked words asked
  pub holds : such asked

-- a command
abbrev pub IsCommand : List (List ℕ) → Type 0
IsCommand words = (asked : Asked) × IsAsked words asked

-- what a command that was read asks for
abbrev pub asked_by : Command → Asked
asked_by (commands.Check modules) = Check modules
asked_by (commands.One limits capture modules) = One limits capture modules
