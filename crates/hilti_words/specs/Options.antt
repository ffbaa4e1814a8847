-- The words behind a command: positions, and options with a value.
use Rattle.std.specs.Prelude.{◌≡◌, ℕ, ◌≤◌, List, [], ◌∷◌, ◌++◌, length, codes}
use Rattle.std.specs.List.{flat_map}
use Rattle.std.specs.Str.Parse.{digits_value, IsNumeral}
use Rattle.hilti_words.specs.declared.setting.Setting.{Setting}
use Rattle.hilti_words.specs.declared.setting.Setting.TheVariants as settings
use Rattle.hilti_words.specs.Names.{IsName}

-- a word that stands for itself, or an option and its value in two words, or in one
pub data Piece : Type 0 where
  Position : (word : List ℕ) → Piece
  Apart : (setting : Setting) (value : List ℕ) → Piece
  Joined : (setting : Setting) (value : List ℕ) → Piece

abbrev pub option_of : Setting → List ℕ
option_of settings.Fuel = codes "--fuel"
option_of settings.Calls = codes "--calls"

-- an option and its value in one word
abbrev pub joined : Setting → List ℕ → List ℕ
joined setting value = option_of setting ++ codes "=" ++ value

-- the words of a piece
abbrev pub spelled : Piece → List (List ℕ)
spelled (Position word) = word ∷ []
spelled (Apart setting value) = option_of setting ∷ value ∷ []
spelled (Joined setting value) = joined setting value ∷ []

-- the words of pieces, one after another
abbrev pub words_of : List Piece → List (List ℕ)
words_of pieces = flat_map spelled pieces

-- the greatest number of a setting; the least is 1
abbrev pub greatest : Setting → ℕ
greatest settings.Fuel = 1000000000
greatest settings.Calls = 100000000

-- 1 to 20 decimal digits, leading zeros allowed, of a number in the range of the setting
pub record IsValue (setting : Setting) (text : List ℕ) : Type 0 where
  pub digits : IsNumeral 10 text
  pub short : length text ≤ 20
  pub low : 1 ≤ digits_value 10 text
  pub high : digits_value 10 text ≤ greatest setting

-- a name, or a setting with its value
abbrev pub IsPiece : Piece → Type 0
IsPiece (Position word) = IsName word
IsPiece (Apart setting value) = IsValue setting value
IsPiece (Joined setting value) = IsValue setting value

-- the names among pieces, in their order
abbrev pub position_in : Piece → List (List ℕ)
position_in (Position word) = word ∷ []
position_in (Apart setting value) = []
position_in (Joined setting value) = []

abbrev pub positions_in : List Piece → List (List ℕ)
positions_in pieces = flat_map position_in pieces

-- the value that an option gives the setting that is asked for, where it is that setting's option
abbrev pub given_by : (asked : Setting) → Setting → List ℕ → List (List ℕ)
given_by settings.Fuel settings.Fuel value = value ∷ []
given_by settings.Fuel settings.Calls value = []
given_by settings.Calls settings.Fuel value = []
given_by settings.Calls settings.Calls value = value ∷ []

abbrev pub value_in : Setting → Piece → List (List ℕ)
value_in asked (Position word) = []
value_in asked (Apart setting value) = given_by asked setting value
value_in asked (Joined setting value) = given_by asked setting value

-- the values that pieces give a setting
abbrev pub values_in : Setting → List Piece → List (List ℕ)
values_in asked pieces = flat_map (value_in asked) pieces

-- no value is given and the number is this one, or one value is, and the number is its
abbrev pub IsGiven : List (List ℕ) → (default : ℕ) → ℕ → Type 0
IsGiven [] default n = n ≡ default
IsGiven (value ∷ []) default n = n ≡ digits_value 10 value
IsGiven (value ∷ other ∷ more) default n = ⊥
