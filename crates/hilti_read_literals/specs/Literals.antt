-- The trees of literals, sets of kinds that begin them, and what is `time` or `interval`.
use Rattle.std.specs.Prelude.{Bool, true, false, List, [], ◌∷◌, Option, Some, None}
use Rattle.hilti_base.specs.declared.names.Place.{Place}
use Rattle.hilti_lexer.specs.declared.token.TokenKind.TheVariants as tokens
use Rattle.hilti_grammar.specs.Grammar.{Tree.Nothing, Tree.Pair, Tree.Left, Tree.Right}
use Rattle.hilti_kinds.specs.declared.kind.Kind.{Kind}
use Rattle.hilti_kinds.specs.declared.kind.Kind.TheVariants as kinds
use Rattle.hilti_module.specs.declared.types.PlainType.TheVariants as plain
use Rattle.hilti_module.specs.declared.module.Simple.{Simple}
use Rattle.hilti_module.specs.declared.module.Simple.TheVariants as simples
use Rattle.hilti_module.specs.declared.module.Literal.{Literal}
use Rattle.hilti_module.specs.declared.module.Literal.TheVariants as literals
use Rattle.hilti_module.specs.declared.module.Seconds.{Seconds}
use Rattle.hilti_module.specs.declared.module.Seconds.TheVariants as seconds
use Rattle.hilti_reader.specs.Spelled.{ModuleTree, at_place, keyword_at, number_tree, between_marks, behind_word, name_tree, maybe_tree}
use Rattle.hilti_reader.specs.declared.keyword.Keyword.{Keyword}

-- the number of a time or an interval
abbrev pub seconds_tree : Seconds → ModuleTree
seconds_tree (seconds.Whole place whole) = at_place place (tokens.Number whole)
seconds_tree (seconds.Parts place whole parts) = at_place place (tokens.Decimal whole parts)

-- the same in its parentheses
abbrev pub in_parens_tree : Seconds → ModuleTree
in_parens_tree number = between_marks (seconds_tree number)

abbrev pub maybe_seconds : Option Seconds → ModuleTree
maybe_seconds = maybe_tree in_parens_tree

-- a time or an interval, by the kind of its word
abbrev pub time_tree : Place → Kind → Seconds → ModuleTree
time_tree place kind number = Right (Left (Pair (keyword_at place kind) (in_parens_tree number)))

-- a literal of one token
abbrev pub literal_spot : Literal → ModuleTree
literal_spot (literals.Number number) = number_tree number
literal_spot (literals.Address place bits) = at_place place (tokens.Address bits)
literal_spot (literals.Net place bits length) = at_place place (tokens.Net bits length)
literal_spot (literals.Port place number udp) = at_place place (tokens.Port number udp)
literal_spot (literals.Text place bytes) = at_place place (tokens.Text bytes)
literal_spot (literals.Bytes place bytes) = at_place place (tokens.Bytes bytes)
literal_spot (literals.True place) = keyword_at place kinds.True
literal_spot (literals.False place) = keyword_at place kinds.False
literal_spot (literals.Null place) = keyword_at place kinds.Null
literal_spot _ = Nothing

-- the literal of a global
abbrev pub literal_tree : Literal → ModuleTree
literal_tree (literals.Time place number) = time_tree place kinds.Time number
literal_tree (literals.Interval place number) = time_tree place kinds.Interval number
literal_tree (literals.Constant name constant) =
    Right (Right (Pair (name_tree name) (behind_word constant)))
literal_tree literal = Left (literal_spot literal)

-- an operand that begins with `time` or `interval`: its place, its word, and its number where it is
-- a literal
pub record TimePart : Type 0 where
  pub place : Place
  pub kind : Kind
  pub number : Option Seconds

abbrev pub part_of : Place → Kind → Option Seconds → TimePart
part_of place kind number = record { place = place; kind = kind; number = number }

abbrev pub word_part : Keyword → Option Seconds → TimePart
word_part word number = part_of word.place word.kind number

abbrev pub time_part : Simple → Option TimePart
time_part (simples.Literal (literals.Time place number)) =
    Some (part_of place kinds.Time (Some number))
time_part (simples.Literal (literals.Interval place number)) =
    Some (part_of place kinds.Interval (Some number))
time_part (simples.Plain place plain.Time) =
    Some (part_of place kinds.Time None)
time_part (simples.Plain place plain.Interval) =
    Some (part_of place kinds.Interval None)
time_part _ = None

-- literals of one token that is no word
abbrev pub values : List Kind
values =
    kinds.Number ∷ kinds.Address ∷ kinds.NetNumber ∷ kinds.PortNumber ∷ kinds.Text ∷
    kinds.BytesText ∷ []

-- literals of one word
abbrev pub truths : List Kind
truths = kinds.True ∷ kinds.False ∷ kinds.Null ∷ []

-- whether a literal is one token
abbrev pub is_one_token : Literal → Bool
is_one_token (literals.Constant name constant) = false
is_one_token (literals.Time place number) = false
is_one_token (literals.Interval place number) = false
is_one_token _ = true
