-- What a reader hands on from the readers that it calls.
use Rattle.std.proofs.Common.{◌≡◌, List, refl, sym, subst}
use Rattle.std.specs.Prelude.{Result, IsErrAnd}
use Rattle.std.proofs.lemmas.Result.{err_from_is_err_and}
use Rattle.hilti_grammar.specs.Grammar.{Symbol, Symbol.One, Keep.Placed, Keep.Dropped, Tree.Nothing}
use Rattle.hilti_grammar.specs.Runs.{Outcome, Outcome.Done, Outcome.Failed, changed, Runs, Runs.GivesUp, Runs.Takes, Runs.Refuses}
use Rattle.hilti_base.specs.declared.names.Place.{Place}
use Rattle.hilti_lexer.specs.declared.token.Token.{Token}
use Rattle.hilti_kinds.specs.declared.kind.Kind.{Kind}
use Rattle.hilti_kinds.specs.declared.piece.Piece.{Piece}
use Rattle.hilti_reader.specs.declared.stop.Stop.{Stop}
use Rattle.hilti_reader.specs.declared.stop.Stop.TheVariants as stops
use Rattle.hilti_reader.specs.Modules.{RuleName, grammar, told_rules}
use Rattle.hilti_reader.specs.Readers.{ReadsTree, stops_of}
use Rattle.hilti_reader.specs.Spelled.{ModuleTree, keyword_at}

-- reading of modules
abbrev pub Goes : Symbol Kind RuleName → List Piece → Outcome Stop Token Piece → Type 0
Goes s before out = Runs grammar told_rules stops_of s before out

-- what a `?` hands on
pub exits : {V : Type 0} (s : Symbol Kind RuleName) (tree : V → ModuleTree) (before after : List Piece) (r : Result V Stop) (e : Stop) → IsErrAnd r (λ y. y ≡ e) →
    Goes s before (Failed e after) → ReadsTree s tree before r after
exits s tree before after r e is d =
    let p = err_from_is_err_and r is in
    subst (λ q. ReadsTree s tree before q after) (sym p.1) (subst (λ y. Goes s before (Failed y after)) (sym p.2) d)

-- want of memory may come anywhere
pub gives_up : {V : Type 0} (s : Symbol Kind RuleName) (tree : V → ModuleTree) (before after : List Piece) (r : Result V Stop) → IsErrAnd r (λ y. y ≡ stops.NoMemory) → ReadsTree s tree before r after
gives_up s tree before after r is = exits s tree before after r stops.NoMemory is (GivesUp refl)

-- what is read of a token that is kept can be dropped
pub dropped : (set : List Kind) (before : List Piece) (out : Outcome Stop Token Piece) → Goes (One Placed set) before out → Goes (One Dropped set) before (changed (λ _. Nothing) out)
dropped _ _ _ (GivesUp h) = GivesUp h
dropped _ _ _ (Takes h) = Takes h
dropped _ _ _ (Refuses unseen explained) = Refuses unseen explained

-- what is read with a tree is read with an equal one
pub gives : (s : Symbol Kind RuleName) (before after : List Piece) (x y : ModuleTree) → x ≡ y → Goes s before (Done y after) → Goes s before (Done x after)
gives s before after x y e d = subst (λ tree. Goes s before (Done tree after)) (sym e) d

-- what is read as a word of one kind is read as what it means
pub means : (set : List Kind) (before after : List Piece) (place : Place) (kind other : Kind) → kind ≡ other → Goes (One Placed set) before (Done (keyword_at place kind) after) →
    Goes (One Placed set) before (Done (keyword_at place other) after)
means set before after place kind other e d = subst (λ k. Goes (One Placed set) before (Done (keyword_at place k) after)) e d
