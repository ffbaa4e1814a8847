-- What it means that a rule of modules was read.
use Rattle.std.specs.Prelude.{List}
use Rattle.hilti_lexer.specs.declared.token.Token.{Token}
use Rattle.hilti_grammar.specs.Grammar.{Symbol.Rule}
use Rattle.hilti_grammar.specs.Runs.{Outcome, Runs}
use Rattle.hilti_grammar.specs.Exact.{EndsExactly, EndsWhole}
use Rattle.hilti_kinds.specs.declared.piece.Piece.{Piece}
use Rattle.hilti_reader.specs.declared.stop.Stop.{Stop}
use Rattle.hilti_reader.specs.Modules.{RuleName, grammar, told_rules}
use Rattle.hilti_reader.specs.Readers.{stops_of}

-- however reading a rule ends, it ends as the derivations of the grammar say
abbrev pub ReadingIsExact : Type 0
ReadingIsExact =
    (rule : RuleName) (pieces : List Piece) (out : Outcome Stop Token Piece) →
    Runs grammar told_rules stops_of (Rule rule) pieces out →
    EndsExactly grammar stops_of (Rule rule) pieces out

-- and so does reading all pieces by a rule
abbrev pub ReadingAllIsExact : Type 0
ReadingAllIsExact =
    (rule : RuleName) (pieces : List Piece) (out : Outcome Stop Token Piece) →
    Runs grammar told_rules stops_of (Rule rule) pieces out →
    EndsWhole grammar stops_of (Rule rule) pieces out
