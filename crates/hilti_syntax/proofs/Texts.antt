-- Lemmas for reading whole texts.
use Rattle.std.proofs.Common.{◌≡◌, ℕ, true, false, List, [], ◌∷◌, sym, subst, inl, inr}
use Rattle.hilti_base.specs.declared.names.Place.{Place}
use Rattle.hilti_base.specs.declared.refusal.Refusal.{Refusal}
use Rattle.hilti_lexer.specs.declared.token.Token.{Token}
use Rattle.hilti_grammar.specs.Grammar.{Symbol.Rule}
use Rattle.hilti_grammar.specs.Runs.{Outcome.Done, Outcome.Failed}
use Rattle.hilti_module.specs.declared.module.Module.{Module}
use Rattle.hilti_kinds.specs.declared.piece.Piece.{Piece}
use Rattle.hilti_reader.specs.declared.stop.Stop.{Stop}
use Rattle.hilti_reader.specs.declared.stop.Stop.TheVariants as stops
use Rattle.hilti_syntax.specs.Items.{module_tree}
use Rattle.hilti_reader.specs.Modules.{RuleName.ModuleText as a_module}
use Rattle.hilti_pieces.specs.Pieces.{pieces_of}
use Rattle.hilti_reader.specs.Readers.{refuses}
use Rattle.hilti_refusals.specs.Refusals.{FirstRefused}
use Rattle.hilti_reader.specs.Readers.{first_place}
use Rattle.std.specs.Prelude.{Result, Err}
use Rattle.hilti_lexer.specs.Readings.{Lexes, Refuses}
use Rattle.hilti_pieces.specs.Ends.{end_of}
use Rattle.hilti_reader.specs.Readers.{is_nil}
use Rattle.hilti_syntax.specs.Texts.{AreModule, TextRefused, code_of_stop}
use Rattle.hilti_reader.proofs.Exits.{Goes}
use Rattle.hilti_refusals.proofs.ShallowDerives.{reads_text}

-- all tokens were read
pub all_read : (tokens : List Token) (end_place : Place) (before after : List Piece) (m : Module) → before ≡ pieces_of tokens end_place → is_nil after ≡ true →
    Goes (Rule a_module) before (Done (module_tree m) after) → AreModule tokens end_place m
all_read tokens end_place before [] m e h d = reads_text tokens end_place (Done (module_tree m) []) (subst (λ l. Goes (Rule a_module) l (Done (module_tree m) [])) e d)
all_read tokens end_place before (piece ∷ after) m e h d = cc

-- some are left behind a module
pub some_left : (tokens : List Token) (end_place : Place) (before after : List Piece) (m : Module) → before ≡ pieces_of tokens end_place → is_nil after ≡ false →
    Goes (Rule a_module) before (Done (module_tree m) after) → FirstRefused tokens end_place stops.Unexpected (first_place after end_place)
some_left tokens end_place before [] m e h d = cc
some_left tokens end_place before (piece ∷ after) m e h d = reads_text tokens end_place (Done (module_tree m) (piece ∷ after)) (subst (λ l. Goes (Rule a_module) l (Done (module_tree m) (piece ∷ after))) e d)

-- reading stopped
pub stopped : (tokens : List Token) (end_place : Place) (before after : List Piece) (stop : Stop) → before ≡ pieces_of tokens end_place → refuses stop ≡ true →
    Goes (Rule a_module) before (Failed stop after) → FirstRefused tokens end_place stop (first_place after end_place)
stopped tokens end_place before after stop e h d = reads_text tokens end_place (Failed stop after) (subst (λ l. Goes (Rule a_module) l (Failed stop after)) e d) h

-- the stop that a `?` hands on
pub handed : {V : Type 0} (r : Result V Stop) (last first stop : Stop) → r ≡ Err last → last ≡ first → r ≡ Err stop → first ≡ stop
handed r last first stop e f g = cc

-- the same where it is handed on
pub stopped_there : (tokens : List Token) (end_place : Place) (before after : List Piece) (first stop : Stop) → first ≡ stop → before ≡ pieces_of tokens end_place → refuses stop ≡ true →
    Goes (Rule a_module) before (Failed first after) → FirstRefused tokens end_place stop (first_place after end_place)
stopped_there tokens end_place before after first stop s e h d = stopped tokens end_place before after stop e h (subst (λ y. Goes (Rule a_module) before (Failed y after)) s d)

pub some_left_there : (tokens : List Token) (end_place : Place) (before after : List Piece) (m : Module) (stop : Stop) → stops.Unexpected ≡ stop → before ≡ pieces_of tokens end_place → is_nil after ≡ false →
    Goes (Rule a_module) before (Done (module_tree m) after) → FirstRefused tokens end_place stop (first_place after end_place)
some_left_there tokens end_place before after m stop s e h d = subst (λ y. FirstRefused tokens end_place y (first_place after end_place)) s (some_left tokens end_place before after m e h d)

pub err_same : (first stop : Stop) → (let r : Result Module Stop = Err first in r ≡ Err stop) → first ≡ stop
err_same first stop e = cc

-- a refusal of the lexer, and of the grammar
pub by_lexer : (file : ℕ) (text : List ℕ) (code : ℕ) (place : Place) → Refuses file text code place → TextRefused file text code place
by_lexer file text code place h = inl h

pub by_grammar : (file : ℕ) (text : List ℕ) (code : ℕ) (place there : Place) (tokens : List Token) (stop : Stop) → Lexes file text tokens → FirstRefused tokens (end_of file text) stop there →
    place ≡ there → code ≡ code_of_stop stop → TextRefused file text code place
by_grammar file text code place there tokens stop lexed refused p c =
    inr (record { tokens = tokens; stop = stop; lexed = lexed; refused = subst (λ q. FirstRefused tokens (end_of file text) stop q) (sym p) refused; code_is = c })

pub err_refusal : (r other : Refusal) → (let answer : Result Module Refusal = Err r in answer ≡ Err other) → r ≡ other
err_refusal r other e = cc
