-- How words of one meaning are spelled, and trees of single tokens.
use Rattle.std.specs.Prelude.{ℕ, List, Option, Some, None}
use Rattle.hilti_base.specs.declared.names.Place.{Place}
use Rattle.hilti_lexer.specs.declared.token.Token.{Token}
use Rattle.hilti_lexer.specs.declared.token.TokenKind.{TokenKind}
use Rattle.hilti_lexer.specs.declared.token.TokenKind.TheVariants as tokens
use Rattle.hilti_grammar.specs.Grammar.{Tree, Tree.Nothing, Tree.Spot, Tree.Pair, Tree.Left, Tree.Right}
use Rattle.hilti_kinds.specs.declared.kind.Kind.{Kind}
use Rattle.hilti_kinds.specs.declared.kind.Kind.TheVariants as kinds
use Rattle.hilti_reader.specs.declared.keyword.Keyword.{Keyword}
use Rattle.hilti_kinds.specs.declared.piece.Piece.{Piece}
use Rattle.hilti_kinds.specs.Kinds.{spelled, look_up, keyword_kinds}
use Rattle.hilti_module.specs.declared.types.Word.{Word}
use Rattle.hilti_module.specs.declared.types.Name.{Name}
use Rattle.hilti_module.specs.declared.types.Number.{Number}
use Rattle.hilti_module.specs.declared.types.PlainType.{PlainType}
use Rattle.hilti_module.specs.declared.types.PlainType.TheVariants as plain
use Rattle.hilti_module.specs.declared.types.PlainInner.{PlainInner}
use Rattle.hilti_module.specs.declared.types.PlainInner.TheVariants as inner
use Rattle.hilti_module.specs.declared.types.Single.{Single}
use Rattle.hilti_module.specs.declared.types.Single.TheVariants as single
use Rattle.hilti_module.specs.declared.types.Double.{Double}
use Rattle.hilti_module.specs.declared.types.Double.TheVariants as double

-- the trees of modules
abbrev pub ModuleTree : Type 0
ModuleTree = Tree Token Piece

abbrev pub plain_kind : PlainType → Kind
plain_kind plain.Bool = kinds.Bool
plain_kind plain.Text = kinds.String
plain_kind plain.Bytes = kinds.Bytes
plain_kind plain.Addr = kinds.Addr
plain_kind plain.Net = kinds.Net
plain_kind plain.Port = kinds.Port
plain_kind plain.Time = kinds.Time
plain_kind plain.Interval = kinds.Interval
plain_kind plain.Callable = kinds.Callable

abbrev pub inner_kind : PlainInner → Kind
inner_kind inner.Bytes = kinds.Bytes
inner_kind inner.Timer = kinds.Timer
inner_kind inner.Manager = kinds.TimerMgr

abbrev pub single_kind : Single → Kind
single_kind single.List = kinds.List
single_kind single.Vector = kinds.Vector
single_kind single.Set = kinds.Set

abbrev pub double_kind : Double → Kind
double_kind double.Map = kinds.Map
double_kind double.Classifier = kinds.Classifier

-- a token that is kept
abbrev pub at_place : Place → TokenKind → ModuleTree
at_place place kind = Spot (record { place = place; kind = kind })

-- a word that is kept, by its bytes
abbrev pub spelled_at : Place → List ℕ → ModuleTree
spelled_at place bytes = at_place place (tokens.Word bytes)

-- a word that means something, by its kind
abbrev pub keyword_at : Place → Kind → ModuleTree
keyword_at place kind = spelled_at place (spelled kind)

abbrev pub keyword_tree : Keyword → ModuleTree
keyword_tree keyword = keyword_at keyword.place keyword.kind

-- a mark that is kept, by its byte
abbrev pub marked_at : Place → ℕ → ModuleTree
marked_at place byte = at_place place (tokens.Mark byte)

abbrev pub word_tree : Word → ModuleTree
word_tree word = spelled_at word.place word.bytes

-- the kind of a word
abbrev pub word_kind : Word → Kind
word_kind word = look_up keyword_kinds word.bytes

abbrev pub number_tree : Number → ModuleTree
number_tree number = at_place number.place (tokens.Number number.value)

-- something behind a token that is dropped
abbrev pub behind_mark : ModuleTree → ModuleTree
behind_mark tree = Pair Nothing tree

-- something between two tokens that are dropped
abbrev pub between_marks : ModuleTree → ModuleTree
between_marks tree = Pair Nothing (Pair tree Nothing)

-- a number behind a token that is dropped
abbrev pub behind_number : Number → ModuleTree
behind_number number = behind_mark (number_tree number)

-- something that may be left out
abbrev pub maybe_tree : {V : Type 0} → (V → ModuleTree) → Option V → ModuleTree
maybe_tree tree None = Right Nothing
maybe_tree tree (Some value) = Left (tree value)

abbrev pub maybe_number : Option Number → ModuleTree
maybe_number = maybe_tree behind_number

-- a word behind a mark that is dropped
abbrev pub behind_word : Word → ModuleTree
behind_word word = behind_mark (word_tree word)

-- the same where it may be left out
abbrev pub maybe_word : Option Word → ModuleTree
maybe_word = maybe_tree behind_word

abbrev pub name_tree : Name → ModuleTree
name_tree name = Pair (word_tree name.first) (maybe_word name.second)
