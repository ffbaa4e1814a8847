-- Sets of kinds, and tokens that are taken of a part of a set.
use Rattle.std.proofs.Common.{◌≡◌, Bool, true, false, List, [], ◌∷◌, ◌++◌, refl, sym, ◌∙◌, subst}
use Rattle.std.specs.Prelude.{not, ◌&&◌}
use Rattle.hilti_grammar.proofs.Sets.{true_not_false, within_has}
use Rattle.std.proofs.Common.{◌||◌, eqb}
use Rattle.hilti_grammar.specs.Grammar.{Symbol.One, Keep.Placed, has, sees}
use Rattle.hilti_grammar.specs.Predictive.{within}
use Rattle.hilti_grammar.specs.Runs.{Outcome, Runs.GivesUp, Runs.Takes, Runs.Refuses}
use Rattle.hilti_lexer.specs.declared.token.Token.{Token}
use Rattle.hilti_kinds.specs.declared.kind.Kind.{Kind}
use Rattle.hilti_kinds.specs.declared.kind.Kind.TheVariants as kinds
use Rattle.hilti_kinds.specs.declared.piece.Piece.{Piece}
use Rattle.hilti_reader.specs.declared.stop.Stop.{Stop}
use Rattle.hilti_reader.specs.declared.stop.Stop.TheVariants as stops
use Rattle.hilti_reader.specs.Modules.{grammar}
use Rattle.hilti_reader.specs.Readers.{explains}
use Rattle.hilti_reader.proofs.Exits.{Goes}

has_alike : (a b : List Kind) (kind : Kind) → within grammar a b ≡ true → within grammar b a ≡ true → has grammar a kind ≡ has grammar b kind
has_alike a b kind ab ba = go (has grammar a kind) (has grammar b kind) refl refl
  where
    go : (x y : Bool) → has grammar a kind ≡ x → has grammar b kind ≡ y → has grammar a kind ≡ has grammar b kind
    go true true e f = e ∙ sym f
    go false false e f = e ∙ sym f
    go true false e f = absurd (true_not_false (has grammar b kind) (within_has grammar a b kind ab e) f)
    go false true e f = absurd (true_not_false (has grammar a kind) (within_has grammar b a kind ba f) e)

-- sets of the same kinds are seen alike
pub same_sees : (a b : List Kind) (pieces : List Piece) (seen : Bool) → within grammar a b ≡ true → within grammar b a ≡ true → sees grammar a pieces ≡ seen → sees grammar b pieces ≡ seen
same_sees a b [] seen ab ba h = h
same_sees a b (piece ∷ pieces) seen ab ba h = sym (has_alike a b piece.kind ab ba) ∙ h

-- what is seen of a part is seen of the whole
pub part_is_seen : (a b : List Kind) (pieces : List Piece) → within grammar a b ≡ true → sees grammar a pieces ≡ true → sees grammar b pieces ≡ true
part_is_seen a b [] ab h = h
part_is_seen a b (piece ∷ pieces) ab h = within_has grammar a b piece.kind ab h

none_either : (a b : List Kind) (kind : Kind) → has grammar a kind ≡ false → has grammar b kind ≡ false → has grammar (a ++ b) kind ≡ true → ⊥
none_either [] b kind e k f = true_not_false (has grammar b kind) f k
none_either (x ∷ xs) b kind e k f = first (eqb (grammar.number x) (grammar.number kind)) e f (λ d g. none_either xs b kind d k g)
  where
    first : (t : Bool) → (t || has grammar xs kind) ≡ false → (t || has grammar (xs ++ b) kind) ≡ true → (has grammar xs kind ≡ false → has grammar (xs ++ b) kind ≡ true → ⊥) → ⊥
    first true e f more = cc
    first false e f more = more e f

-- where neither part is seen, the whole isn't
pub neither_seen : (a b all : List Kind) (pieces : List Piece) → within grammar all (a ++ b) ≡ true → sees grammar a pieces ≡ false → sees grammar b pieces ≡ false → sees grammar all pieces ≡ false
neither_seen a b all [] w h k = refl
neither_seen a b all (piece ∷ pieces) w h k = go (has grammar all piece.kind) refl
  where
    go : (t : Bool) → has grammar all piece.kind ≡ t → has grammar all piece.kind ≡ false
    go false e = e
    go true e = absurd (none_either a b piece.kind h k (within_has grammar all (a ++ b) piece.kind w e))

-- a token of a part that is seen
pub part_seen : (a b : List Kind) (before : List Piece) (out : Outcome Stop Token Piece) → within grammar a b ≡ true → sees grammar a before ≡ true → Goes (One Placed a) before out → Goes (One Placed b) before out
part_seen a b _ _ ab seen (GivesUp h) = GivesUp h
part_seen a b _ _ ab seen (Takes h) = Takes (within_has grammar a b _ ab h)
part_seen a b _ _ ab seen (Refuses unseen why) = absurd (true_not_false _ seen unseen)

explained : (stop : Stop) (a b : List Kind) (pieces : List Piece) → has grammar a kinds.Less ≡ has grammar b kinds.Less → explains stop a pieces ≡ true → explains stop b pieces ≡ true
explained stops.Unexpected a b pieces e h = subst (λ less. not (less && sees grammar (kinds.DeepLess ∷ []) pieces) ≡ true) e h
explained stops.TooDeep a b pieces e h = subst (λ less. (less && sees grammar (kinds.DeepLess ∷ []) pieces) ≡ true) e h
explained stops.NoMemory a b pieces e h = h

-- a token of the part that is left where the other part isn't seen
pub part_left : (others a b : List Kind) (before : List Piece) (out : Outcome Stop Token Piece) → within grammar a b ≡ true → within grammar b (others ++ a) ≡ true →
    has grammar a kinds.Less ≡ has grammar b kinds.Less → sees grammar others before ≡ false → Goes (One Placed a) before out → Goes (One Placed b) before out
part_left others a b _ _ ab ba less seen (GivesUp h) = GivesUp h
part_left others a b _ _ ab ba less seen (Takes h) = Takes (within_has grammar a b _ ab h)
part_left others a b before _ ab ba less seen (Refuses {e = stop} unseen why) = Refuses (neither_seen others a b before ba seen unseen) (explained stop a b before less why)
