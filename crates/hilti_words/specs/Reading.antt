-- What is known of words that were read one by one.
use Rattle.std.specs.Prelude.{◌≡◌, ◌≤◌, ℕ, List, [], ◌∷◌, ◌++◌, Option, None, Some, length}
use Rattle.std.specs.List.{AllByRecursion}
use Rattle.std.specs.Str.Parse.{digits_value}
use Rattle.hilti_words.specs.declared.options.Options.{Options}
use Rattle.hilti_words.specs.declared.reader.Reader.{Reader}
use Rattle.hilti_words.specs.declared.setting.Setting.{Setting}
use Rattle.hilti_words.specs.declared.setting.Setting.TheVariants as settings
use Rattle.hilti_words.specs.Options.{Piece, IsPiece, IsValue, option_of}
use Rattle.hilti_words.specs.Options.{words_of, positions_in, values_in}

-- the number that options have for a setting
abbrev pub number_of : Setting → Options → Option ℕ
number_of settings.Fuel options = options.fuel
number_of settings.Calls options = options.calls

-- options with this number for a setting
abbrev pub with_number : Setting → ℕ → Options → Options
with_number settings.Fuel n options = record options { fuel = Some n }
with_number settings.Calls n options = record options { calls = Some n }

-- a text is a value for a setting that has none yet
pub record CanSet (setting : Setting) (text : List ℕ) (options : Options) : Type 0 where
  pub value : IsValue setting text
  pub unset : number_of setting options ≡ None

-- values are one value, and this is its number
pub record IsOneValue (setting : Setting) (values : List (List ℕ)) (n : ℕ) : Type 0 where
  pub text : List ℕ
  pub only : values ≡ text ∷ []
  pub value : IsValue setting text
  pub number : n ≡ digits_value 10 text

-- no value is given to a setting that has no number, and one to a setting that has one
abbrev pub IsSetBy : Setting → List (List ℕ) → Option ℕ → Type 0
IsSetBy setting values None = values ≡ []
IsSetBy setting values (Some n) = IsOneValue setting values n

-- the first position is the capture, and the others are the modules
abbrev pub AreFiles : List (List ℕ) → Option (List ℕ) → List (List ℕ) → Type 0
AreFiles positions None modules = (positions ≡ []) × (modules ≡ [])
AreFiles positions (Some capture) modules = positions ≡ capture ∷ modules

-- the option whose value comes next, where one is awaited
abbrev pub awaited_word : Option Setting → List (List ℕ)
awaited_word None = []
awaited_word (Some setting) = option_of setting ∷ []

-- words are pieces, up to an option whose value is awaited, and a reader has what they say
pub record HasRead (words : List (List ℕ)) (reader : Reader) : Type 0 where
  pub pieces : List Piece
  pub words_are : words ≡ words_of pieces ++ awaited_word reader.awaited
  pub good : AllByRecursion IsPiece pieces
  pub files : AreFiles (positions_in pieces) reader.capture reader.modules
  pub set : (setting : Setting) →
      IsSetBy setting (values_in setting pieces) (number_of setting reader.options)

-- words are pieces that give each setting at most one value
pub record ArePieces (words : List (List ℕ)) : Type 0 where
  pub pieces : List Piece
  pub words_are : words ≡ words_of pieces
  pub good : AllByRecursion IsPiece pieces
  pub once : (setting : Setting) → length (values_in setting pieces) ≤ 1
