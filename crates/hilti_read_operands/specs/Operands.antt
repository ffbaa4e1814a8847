-- The trees of operands, sets of kinds that begin them, and what the loop over operands has read so
-- far.
use Rattle.std.specs.Prelude.{Bool, true, false, List, [], ◌∷◌, map, Option, Some, None, ◌≡◌, ◌++◌, Result, Ok, Err}
use Rattle.hilti_base.specs.declared.names.Place.{Place}
use Rattle.hilti_grammar.specs.Grammar.{Symbol.Rule, Tree.Nothing, Tree.Pair, Tree.Left, Tree.Right, sees}
use Rattle.hilti_grammar.specs.Reads.{separated_tree}
use Rattle.hilti_kinds.specs.declared.kind.Kind.{Kind}
use Rattle.hilti_kinds.specs.declared.kind.Kind.TheVariants as kinds
use Rattle.hilti_kinds.specs.declared.piece.Piece.{Piece}
use Rattle.hilti_module.specs.declared.module.Operand.{Operand}
use Rattle.hilti_module.specs.declared.module.Operand.TheVariants as operands
use Rattle.hilti_module.specs.declared.module.Simple.{Simple}
use Rattle.hilti_module.specs.declared.module.Simple.TheVariants as simples
use Rattle.hilti_module.specs.declared.module.Literal.TheVariants as literals
use Rattle.hilti_module.specs.declared.module.Seconds.{Seconds}
use Rattle.hilti_reader.specs.Modules.{grammar, RuleName.Operands as the_operands, told_rules, plain_operands, words, RuleName.SimpleText as a_simple, listed}
use Rattle.hilti_reader.specs.Spelled.{ModuleTree, plain_kind, keyword_at, marked_at, word_tree, behind_word, name_tree, maybe_word}
use Rattle.hilti_read_types.specs.Trees.{parametric_tree, container_tree}
use Rattle.hilti_grammar.specs.Runs.{Outcome, Outcome.Failed, changed, Runs}
use Rattle.hilti_lexer.specs.declared.token.Token.{Token}
use Rattle.hilti_reader.specs.declared.stop.Stop.{Stop}
use Rattle.hilti_reader.specs.Readers.{stops_of}
use Rattle.hilti_read_literals.specs.Literals.{TimePart, time_part, literal_spot, in_parens_tree, maybe_seconds}
use Rattle.hilti_grammar.specs.Predictive.{known}
use Rattle.hilti_module.specs.declared.types.Name.{Name}
use Rattle.hilti_module.specs.declared.types.Word.{Word}

-- an operand that doesn't begin with `time` or `interval`
abbrev pub other_tree : Simple → ModuleTree
other_tree (simples.Literal (literals.Constant name constant)) =
    Right (Right (Right (Right (Pair (name_tree name) (Left (behind_word constant))))))
other_tree (simples.Literal literal) = Left (literal_spot literal)
other_tree (simples.Name name) =
    Right (Right (Right (Right (Pair (name_tree name) (Right Nothing)))))
other_tree (simples.Label place name) = Right (Left (Pair (marked_at place 64) (word_tree name)))
other_tree (simples.Any place) = Left (marked_at place 42)
other_tree (simples.Plain place word) = Left (keyword_at place (plain_kind word))
other_tree (simples.Parametric parametric) = Right (Right (Left (parametric_tree parametric)))
other_tree (simples.Timer place) = Left (keyword_at place kinds.Timer)
other_tree (simples.Manager place) = Left (keyword_at place kinds.TimerMgr)
other_tree (simples.Container container) = Right (Right (Right (Left (container_tree container))))

-- a name, or a constant of the type of that name
abbrev pub named_tree : Name → Option Word → ModuleTree
named_tree name constant =
    Right (Right (Right (Right (Pair (name_tree name) (maybe_word constant)))))

-- an operand in parentheses
abbrev pub simple_of : Option TimePart → ModuleTree → ModuleTree
simple_of None other = Right other
simple_of (Some part) other =
    Left (Pair (keyword_at part.place part.kind) (maybe_seconds part.number))

abbrev pub simple_tree : Simple → ModuleTree
simple_tree simple = simple_of (time_part simple) (other_tree simple)

-- operands in parentheses with commas between them
abbrev pub simples_tree : List Simple → ModuleTree
simples_tree items = separated_tree (map simple_tree items)

-- operands in parentheses, from the `(` on
abbrev pub group_tree : Place → List Simple → ModuleTree
group_tree place [] = Pair (marked_at place 40) (Pair (Right Nothing) Nothing)
group_tree place (first ∷ more) =
    Pair (marked_at place 40) (Pair (Left (simples_tree (first ∷ more))) Nothing)

-- a group that was read
abbrev pub found_group : Place × List Simple → ModuleTree
found_group group = group_tree group.0 group.1

-- an operand without parentheses, and the operands behind it: after what is no `time` without a
-- number, and after one
abbrev pub operand_of : Option TimePart → ModuleTree → ModuleTree → ModuleTree → ModuleTree
operand_of None other plainly behind = Right (Right (Left (Pair other plainly)))
operand_of (Some part) other plainly behind =
    Right (Left (Pair (keyword_at part.place part.kind) (behind_time part.number)))
  where
    behind_time : Option Seconds → ModuleTree
    behind_time None = behind
    behind_time (Some number) = Left (Pair (in_parens_tree number) plainly)

-- Operands in order. Behind `time` or `interval` alone a `(` would begin its number, so no group
-- stands there.
abbrev pub operands_tree : Bool → List Operand → ModuleTree
operands_tree behind [] = Right (Right (Right Nothing))
operands_tree behind (operands.Simple simple ∷ more) =
    operand_of (time_part simple) (other_tree simple) (operands_tree false more)
    (operands_tree true more)
operands_tree false (operands.Group place inside ∷ more) =
    Left (Pair (group_tree place inside) (operands_tree false more))
operands_tree true (operands.Group place inside ∷ more) = Nothing

-- operands of one word
abbrev pub word_operands : List Kind
word_operands =
    kinds.True ∷ kinds.False ∷ kinds.Null ∷ kinds.Bool ∷ kinds.String ∷ kinds.Bytes ∷ kinds.Addr ∷
    kinds.Net ∷ kinds.Port ∷ kinds.Callable ∷ kinds.Timer ∷ kinds.TimerMgr ∷ []

-- what begins other operands than those that begin with `time` or `interval`
abbrev pub others : List Kind
others =
    plain_operands
    ++ (kinds.AtSign ∷ kinds.Int ∷ kinds.Tuple ∷ kinds.Iterator ∷ kinds.Ref ∷ kinds.List ∷
    kinds.Vector ∷ kinds.Set ∷ kinds.Map ∷ kinds.Classifier ∷ words)

-- an operand of one token
abbrev pub plain_spot : Simple → ModuleTree
plain_spot (simples.Literal literal) = literal_spot literal
plain_spot (simples.Any place) = marked_at place 42
plain_spot (simples.Plain place word) = keyword_at place (plain_kind word)
plain_spot (simples.Timer place) = keyword_at place kinds.Timer
plain_spot (simples.Manager place) = keyword_at place kinds.TimerMgr
plain_spot _ = Nothing

-- an operand is one token, and neither `time` nor `interval`
abbrev pub IsOneToken : Simple → Type 0
IsOneToken simple = (other_tree simple ≡ Left (plain_spot simple)) × (time_part simple ≡ None)

-- what begins operands, and operands in parentheses, as the grammar computes it
abbrev pub first_operands : List Kind
first_operands = (told_rules the_operands).first

abbrev pub first_simples : List Kind
first_simples = (known grammar told_rules (listed (Rule a_simple))).first

-- an operand before the tree of the operands behind it
abbrev pub operand_front : Operand → ModuleTree → ModuleTree
operand_front (operands.Simple simple) rest =
    operand_of (time_part simple) (other_tree simple) rest rest
operand_front (operands.Group place items) rest = Left (Pair (group_tree place items) rest)

-- whether what begins with `time` or `interval` is that word alone
abbrev pub is_alone : Option TimePart → Bool
is_alone None = false
is_alone (Some part) = has_none part.number
  where
    has_none : {V : Type 0} → Option V → Bool
    has_none None = true
    has_none (Some number) = false

abbrev pub is_time_alone : Operand → Bool
is_time_alone (operands.Simple simple) = is_alone (time_part simple)
is_time_alone (operands.Group place items) = false

-- reading operands goes so
abbrev pub OperandsGo : List Piece → Outcome Stop Token Piece → Type 0
OperandsGo before out = Runs grammar told_rules stops_of (Rule the_operands) before out

abbrev pub is_group : Operand → Bool
is_group (operands.Simple simple) = false
is_group (operands.Group place items) = true

-- An operand was read. What the operands behind it give, all give; behind `time` or `interval`
-- alone no `(` stands.
abbrev pub Steps : List Piece → Result Operand Stop → List Piece → Type 0
Steps before (Ok operand) after =
    ((out : Outcome Stop Token Piece) → OperandsGo after out →
    OperandsGo before (changed (operand_front operand) out))
    × (is_time_alone operand ≡ true → sees grammar (kinds.OpenParen ∷ []) after ≡ false)
    × (is_group operand ≡ true → sees grammar (kinds.OpenParen ∷ []) before ≡ true)
Steps before (Err stop) after = OperandsGo before (Failed stop after)

-- whether `time` or `interval` alone comes last
abbrev pub ends_alone : Bool → List Operand → Bool
ends_alone alone [] = alone
ends_alone alone (operand ∷ more) = ends_alone (is_time_alone operand) more

-- some operands before the tree of those behind them
abbrev pub operands_front : Bool → List Operand → ModuleTree → ModuleTree
operands_front behind [] rest = rest
operands_front behind (operands.Simple simple ∷ more) rest =
    operand_of (time_part simple) (other_tree simple) (operands_front false more rest)
    (operands_front true more rest)
operands_front false (operands.Group place items ∷ more) rest =
    Left (Pair (group_tree place items) (operands_front false more rest))
operands_front true (operands.Group place items ∷ more) rest = Nothing

-- some operands were read: what the rest gives, all give
abbrev pub Collects : List Piece → List Operand → List Piece → Type 0
Collects before found now =
    ((out : Outcome Stop Token Piece) → OperandsGo now out →
    OperandsGo before (changed (operands_front false found) out))
    × (ends_alone false found ≡ true → sees grammar (kinds.OpenParen ∷ []) now ≡ false)
