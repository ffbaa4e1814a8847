-- What a text is by the lexer and the grammar of modules: a module, or refused at a place with a
-- code.
use Rattle.std.specs.Prelude.{◌≡◌, ◌⊎◌, ℕ, List, Result, Err, IfOk, IsTrue}
use Rattle.hilti_base.specs.declared.names.Place.{Place}
use Rattle.hilti_lexer.specs.declared.token.Token.{Token}
use Rattle.hilti_lexer.specs.Readings.{Lexes, Refuses}
use Rattle.hilti_module.specs.declared.module.Module.{Module}
use Rattle.hilti_kinds.specs.declared.piece.Piece.{Piece}
use Rattle.hilti_reader.specs.declared.stop.Stop.{Stop}
use Rattle.hilti_reader.specs.declared.stop.Stop.TheVariants as stops
use Rattle.hilti_pieces.specs.Ends.{end_of}
use Rattle.hilti_syntax.specs.Items.{IsModule, module_tree}
use Rattle.hilti_pieces.specs.Pieces.{pieces_of}
use Rattle.hilti_refusals.specs.Refusals.{DerivesModule, FirstRefused}
use Rattle.hilti_reader.specs.Spelled.{ModuleTree}
use Rattle.hilti_base.specs.declared.refusal.Refusal.{Refusal}
use Rattle.hilti_base.specs.declared.refusal.Refusal.TheVariants as refusals
use Rattle.hilti_reader.specs.Readers.{first_place, refuses}

-- the code of each stop that refuses tokens
abbrev pub code_of_stop : Stop → ℕ
code_of_stop stops.Unexpected = 10
code_of_stop stops.TooDeep = 11
code_of_stop stops.NoMemory = 0

-- tokens that end there are this module, and have no other tree
abbrev pub AreModule : List Token → Place → Module → Type 0
AreModule tokens end_place m =
    IsModule (pieces_of tokens end_place) m
    × ((other : ModuleTree) → DerivesModule tokens end_place other → other ≡ module_tree m)

-- a text is this module
pub record TextIsModule (file : ℕ) (text : List ℕ) (m : Module) : Type 0 where
  pub tokens : List Token
  pub lexed : Lexes file text tokens
  pub are : AreModule tokens (end_of file text) m

-- the tokens of a text are refused at this place
pub record TokensRefused (file : ℕ) (text : List ℕ) (code : ℕ) (place : Place) : Type 0 where
  pub tokens : List Token
  pub stop : Stop
  pub lexed : Lexes file text tokens
  pub refused : FirstRefused tokens (end_of file text) stop place
  pub code_is : code ≡ code_of_stop stop

-- a text is refused at this place, by the lexer or by the grammar
abbrev pub TextRefused : ℕ → List ℕ → ℕ → Place → Type 0
TextRefused file text code place = Refuses file text code place ⊎ TokensRefused file text code place

-- what reading a text as a module came to, where it is refused
abbrev pub RefusedText : ℕ → List ℕ → Result Module Refusal → Type 0
RefusedText file text result =
    (place : Place) (code : ℕ) → result ≡ Err (refusals.At place code) →
    TextRefused file text code place

-- what reading the pieces of tokens came to: they are this module, or stop at this place
abbrev pub ReadsModule : List Piece → Result Module Stop → Type 0
ReadsModule before result =
    (tokens : List Token) (end : Place) → before ≡ pieces_of tokens end →
    IfOk result (λ m. AreModule tokens end m)

abbrev pub RefusesPieces : List Piece → Result Module Stop → List Piece → Type 0
RefusesPieces before result after =
    (tokens : List Token) (end : Place) (stop : Stop) → before ≡ pieces_of tokens end →
    result ≡ Err stop → IsTrue (refuses stop) →
    FirstRefused tokens end stop (first_place after end)

-- the refusal for which a stop stands at a place
abbrev pub IsRefusalOf : Stop → Place → Refusal → Type 0
IsRefusalOf stop place refusal =
    (there : Place) (code : ℕ) → refusal ≡ refusals.At there code →
    IsTrue (refuses stop) × (there ≡ place) × (code ≡ code_of_stop stop)
