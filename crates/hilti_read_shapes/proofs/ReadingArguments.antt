-- Lemmas for the readers of arguments and shapes.
use Rattle.std.proofs.Common.{◌≡◌, ◌<◌, length, arith, Bool, true, List, [], ◌∷◌, refl, sym, subst}
use Rattle.std.specs.Prelude.{Result, Ok, Err, IfOk}
use Rattle.hilti_grammar.specs.Grammar.{Symbol.Rule, sees}
use Rattle.hilti_grammar.specs.Predictive.{known}
use Rattle.hilti_grammar.specs.Reads.{separated}
use Rattle.hilti_grammar.specs.Runs.{Outcome, Runs.GivesUp, Runs.Follows, Runs.ToLeft}
use Rattle.hilti_lexer.specs.declared.token.Token.{Token}
use Rattle.hilti_kinds.specs.declared.kind.Kind.{Kind}
use Rattle.hilti_kinds.specs.declared.kind.Kind.TheVariants as kinds
use Rattle.hilti_module.specs.declared.module.Parameter.{Parameter}
use Rattle.hilti_kinds.specs.declared.piece.Piece.{Piece}
use Rattle.hilti_reader.specs.declared.stop.Stop.{Stop}
use Rattle.hilti_read_shapes.specs.Shapes.{parameters_tree, inside_tree}
use Rattle.hilti_reader.specs.Modules.{RuleName.Params as parameters, grammar, told_rules, typed_word, comma, maybe}
use Rattle.hilti_reader.specs.Readers.{ReadsTree}
use Rattle.hilti_reader.proofs.Exits.{Goes}

-- the words that begin types
abbrev pub type_words : List Kind
type_words = kinds.Word ∷ kinds.At ∷ kinds.Unpack ∷ kinds.Priority ∷ kinds.Version ∷ kinds.BytesForm ∷ kinds.Ref ∷ kinds.Iterator ∷ kinds.Tuple ∷ kinds.Int ∷ kinds.Bool ∷ kinds.String ∷ kinds.Bytes ∷ kinds.Addr ∷ kinds.Net ∷ kinds.Port ∷ kinds.Time ∷ kinds.Interval ∷ kinds.Callable ∷ []

first_types : (told_rules parameters).first ≡ type_words
unfolding told_rules
first_types = refl

pub sees_types : (pieces : List Piece) (b : Bool) → sees grammar type_words pieces ≡ b → sees grammar (known grammar told_rules (Rule parameters)).first pieces ≡ b
sees_types pieces b h = subst (λ set. sees grammar set pieces ≡ b) (sym first_types) h

-- what is read by a rule is read by its body
pub unfollowed : (before : List Piece) (out : Outcome Stop Token Piece) → Goes (Rule parameters) before out → Goes (separated typed_word comma) before out
unfollowed before _ (GivesUp h) = GivesUp h
unfollowed before _ (Follows d) = d

-- parameters that are there
pub inside_some : (before after : List Piece) (r : Result (List Parameter) Stop) → IfOk r (λ found. 0 < length found) →
    sees grammar (known grammar told_rules (Rule parameters)).first before ≡ true → ReadsTree (Rule parameters) parameters_tree before r after → ReadsTree (maybe (Rule parameters)) inside_tree before r after
inside_some before after (Ok []) some seen d = let none : 0 < 0 = some in absurd (omega arith)
inside_some before after (Ok (first ∷ more)) some seen d = ToLeft seen d
inside_some before after (Err e) some seen d = ToLeft seen d
