-- The tokens of a text are no more than its bytes, its pieces are at most one more, and a module is no longer.
use Rattle.std.proofs.Common.{◌≡◌, ℕ, ◌+◌, ◌<◌, ◌≤◌, List, [], ◌∷◌, ◌++◌, length, ap, arith, length-append}
use Rattle.std.specs.Prelude.{Option, Some, None, option_map}
use Rattle.std.specs.Option.{option_to_list}
use Rattle.hilti_base.specs.declared.names.Place.{Place}
use Rattle.hilti_grammar.specs.Grammar.{Symbol.Rule, Tree.Pair}
use Rattle.hilti_grammar.specs.Runs.{Outcome.Done}
use Rattle.hilti_lexer.specs.declared.token.Token.{Token}
use Rattle.hilti_lexer.specs.declared.token.TokenKind.{TokenKind}
use Rattle.hilti_lexer.specs.Readings.{AreRead, Lexes, behind_gap, start}
use Rattle.hilti_lexer.specs.Tokens.{Stands}
use Rattle.hilti_lexer.proofs.Lengths.{stands_shorter}
use Rattle.hilti_lexer.proofs.Places.{gap_within}
use Rattle.hilti_kinds.specs.declared.kind.Kind.{Kind}
use Rattle.hilti_kinds.specs.declared.piece.Piece.{Piece}
use Rattle.hilti_module.specs.declared.module.Item.{Item}
use Rattle.hilti_module.specs.declared.types.Number.{Number}
use Rattle.hilti_module.specs.declared.types.Word.{Word}
use Rattle.hilti_module.specs.Counts.{module_count}
use Rattle.hilti_kinds.specs.Kinds.{kind_of}
use Rattle.hilti_reader.specs.Modules.{RuleName.ModuleText}
use Rattle.hilti_pieces.specs.Pieces.{kind_behind, piece_behind, pieces_behind, pieces_of, end_token}
use Rattle.hilti_reader.specs.Spelled.{word_tree, behind_mark}
use Rattle.hilti_syntax.proofs.Counting.{whole_module}
use Rattle.hilti_reader.proofs.Exits.{Goes}
use Rattle.hilti_reader.proofs.Kept.{reading_is_exact}
use Rattle.hilti_syntax.specs.Items.{items_tree, version_tree}

-- a token takes a byte at least
token_takes : (text rest : List ℕ) (kind : TokenKind) → Stands text kind rest → length rest < length text
token_takes [] rest kind stands = absurd stands
token_takes (byte ∷ text) rest kind stands = stands_shorter (byte ∷ text) rest kind (omega arith) stands

no_more_tokens : (at : Place) (text : List ℕ) (tokens : List Token) (behind : Place) (rest : List ℕ) → AreRead at text tokens behind rest → length tokens ≤ length text
no_more_tokens at text [] behind rest read = omega arith
no_more_tokens at text (token ∷ tokens) behind rest (then_at, left, next, more) =
    omega (arith, gap_within text, token_takes (behind_gap text) left token.kind next.stands, no_more_tokens then_at left tokens behind rest more)

one_at_most : {V : Type 0} (found : Option V) → length (option_to_list found) ≤ 1
one_at_most None = omega arith
one_at_most (Some value) = omega arith

no_more_pieces : (before : List Kind) (tokens : List Token) → length (pieces_behind before tokens) ≤ length tokens
no_more_pieces before [] = omega arith
no_more_pieces before (token ∷ tokens) =
    let kind = kind_of token.kind in
    omega (
      arith,
      length-append (piece_behind before token) (pieces_behind (kind ∷ before) tokens),
      no_more_pieces (kind ∷ before) tokens,
      one_at_most (option_map (λ k. let piece : Piece = record { token = token; kind = k } in piece) (kind_behind before kind)),
    )

-- a text has at most one piece more than it has bytes: that of its end
pub pieces_within : (file : ℕ) (text : List ℕ) (tokens : List Token) (end_place : Place) (most : ℕ) (pieces : List Piece) → Lexes file text tokens → length text ≤ most → pieces ≡ pieces_of tokens end_place →
    length pieces ≤ most + 1
pieces_within file text tokens end_place most pieces lexed short e =
    omega (
      arith,
      short,
      ap length e,
      no_more_pieces [] (tokens ++ end_token end_place ∷ []),
      length-append tokens (end_token end_place ∷ []),
      no_more_tokens (start file) text tokens lexed.behind lexed.rest lexed.read,
    )

-- a module that was read from so many pieces
pub module_within : (name : Word) (version : Option Number) (inside : List Item) (before after : List Piece) (most : ℕ) → length before ≤ most + 1 →
    Goes (Rule ModuleText) before (Done (behind_mark (Pair (word_tree name) (Pair (version_tree version) (behind_mark (items_tree inside))))) after) → module_count inside ≤ most
module_within name version inside before after most short goes =
    let exact = reading_is_exact ModuleText before (Done (behind_mark (Pair (word_tree name) (Pair (version_tree version) (behind_mark (items_tree inside))))) after) goes in
    omega (arith, short, ap length exact.split, length-append exact.used after, (whole_module name version inside).least exact.used exact.derives)
