-- Taking one token.
use Rattle.std.proofs.Common.{◌≡◌, ◌<◌, suc, length, true, false, List, ◌∷◌, sym, subst, arith}
use Rattle.std.specs.List.{All}
use Rattle.std.specs.Prelude.{Err, Ok}
use Rattle.hilti_lexer.specs.declared.token.Token.{Token}
use Rattle.hilti_grammar.specs.Grammar.{Symbol.One, Keep.Placed, Tree.Spot, sees}
use Rattle.hilti_grammar.specs.Runs.{Runs.Takes, Runs.Refuses}
use Rattle.hilti_kinds.specs.declared.kind.Kind.{Kind}
use Rattle.hilti_kinds.specs.declared.piece.Piece.{Piece}
use Rattle.hilti_reader.specs.declared.stop.Stop.{Stop}
use Rattle.hilti_reader.specs.Modules.{grammar}
use Rattle.hilti_reader.specs.Readers.{ReadsTree, explains}

pub refused : (set : List Kind) (pieces : List Piece) (stop : Stop) → sees grammar set pieces ≡ false → explains stop set pieces ≡ true →
    ReadsTree {V = Token} (One Placed set) (λ token. Spot token) pieces (Err stop) pieces
refused set pieces stop unseen explained = Refuses unseen explained

pub taken : (set : List Kind) (pieces rest : List Piece) (piece : Piece) → pieces ≡ piece ∷ rest → sees grammar set pieces ≡ true →
    ReadsTree {V = Token} (One Placed set) (λ token. Spot token) pieces (Ok piece.token) rest
taken set pieces rest piece e seen =
    subst (λ l. ReadsTree {V = Token} (One Placed set) (λ token. Spot token) l (Ok piece.token) rest) (sym e)
    (Takes (subst (λ l. sees grammar set l ≡ true) e seen))

-- what holds of each piece holds of each behind the first
pub behind_first : (P : Piece → Type 0) (pieces rest : List Piece) (piece : Piece) → pieces ≡ piece ∷ rest → All P pieces → All P rest
behind_first P pieces rest piece e all k d h =
    let more : All P (piece ∷ rest) = subst (All P) e all in
    let further : suc k < length (piece ∷ rest) = omega arith in
    more (suc k) d further
