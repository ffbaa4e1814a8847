-- What derives with a `<` derives, where each `<` that is too deep counts as any, with such a one in its place.
use Rattle.std.proofs.Common.{◌≡◌, inl, inr, cond, true, false, ◌&&◌, List, [], ◌∷◌, ◌++◌, refl, sym, ◌∙◌, ap, subst}
use Rattle.std.proofs.lemmas.List.{append_cancel_right}
use Rattle.hilti_lexer.specs.declared.token.Token.{Token}
use Rattle.hilti_grammar.specs.Grammar.{Symbol, Symbol.◌▹◌, Symbol.Many, Symbol.Rule, Tree, Tree.Nothing, Tree.Pair, Tree.Left, Tree.Right, has, sees, kept}
use Rattle.hilti_grammar.specs.Derives.{Derives, Derives.AToken, Derives.NoToken, Derives.Both, Derives.TheLeft, Derives.TheRight, Derives.NoMore, Derives.OneMore, Derives.ByRule}
use Rattle.hilti_grammar.specs.Exact.{GoesNoFurther, EndsWhole}
use Rattle.hilti_grammar.specs.Runs.{Outcome, Outcome.Done, Outcome.Failed, Runs}
use Rattle.hilti_grammar.proofs.Sets.{and_left, and_right, or_cases}
use Rattle.hilti_grammar.proofs.Theorem.{ends_whole}
use Rattle.hilti_kinds.specs.declared.kind.Kind.{Kind}
use Rattle.hilti_kinds.specs.declared.kind.Kind.TheVariants as kinds
use Rattle.hilti_kinds.specs.declared.piece.Piece.{Piece}
use Rattle.hilti_reader.specs.declared.stop.Stop.{Stop}
use Rattle.hilti_reader.specs.declared.stop.Stop.TheVariants as stops
use Rattle.hilti_reader.specs.Modules.{RuleName, RuleName.ModuleText, grammar, sample, told_rules}
use Rattle.hilti_reader.specs.Readers.{stops_of}
use Rattle.hilti_pieces.specs.Pieces.{pieces_of}
use Rattle.hilti_refusals.specs.Refusals.{NestsTooDeep, ReadsText}
use Rattle.hilti_refusals.proofs.Shallow.{shallow, shallow_kind, shallow_predictive, same_rules, unchosen, all_unchosen, not_true, has_shallow, Ordinary, read_alike}

-- the one list of pieces, with a piece that counts as a `<` in some places of a `<`
pub data Near : List Piece → List Piece → Type 0 where
  NoPiece : Near [] []
  Same : {piece : Piece} {us vs : List Piece} → Near us vs → Near (piece ∷ us) (piece ∷ vs)
  Deeper : {piece other : Piece} {us vs : List Piece} → piece.kind ≡ kinds.Less → shallow_kind other.kind ≡ kinds.Less → Near us vs → Near (piece ∷ us) (other ∷ vs)

near_same : (us : List Piece) → Near us us
near_same [] = NoPiece
near_same (u ∷ us) = Same (near_same us)

near_at : (us vs : List Piece) (piece other : Piece) → piece.kind ≡ kinds.Less → shallow_kind other.kind ≡ kinds.Less → Near ((us ++ piece ∷ []) ++ vs) ((us ++ other ∷ []) ++ vs)
near_at [] vs piece other e f = Deeper e f (near_same vs)
near_at (u ∷ us) vs piece other e f = Same (near_at us vs piece other e f)

pub record Halves (us vs ws : List Piece) : Type 0 where
  pub front : List Piece
  pub back : List Piece
  pub split : ws ≡ front ++ back
  pub near_front : Near us front
  pub near_back : Near vs back

halves : (us vs ws : List Piece) → Near (us ++ vs) ws → Halves us vs ws
halves [] vs ws n = record { front = []; back = ws; split = refl; near_front = NoPiece; near_back = n }
halves (u ∷ us) vs _ (Same n) =
    let h = halves us vs _ n in
    record { front = u ∷ h.front; back = h.back; split = ap (λ l. u ∷ l) h.split; near_front = Same h.near_front; near_back = h.near_back }
halves (u ∷ us) vs _ (Deeper {other = other} e f n) =
    let h = halves us vs _ n in
    record { front = other ∷ h.front; back = h.back; split = ap (λ l. other ∷ l) h.split; near_front = Deeper e f h.near_front; near_back = h.near_back }

derive_alike : (s : Symbol Kind RuleName) (us : List Piece) (x : Tree Token Piece) → Derives grammar s us x → unchosen s ≡ true → (vs : List Piece) → Near us vs →
    (y : Tree Token Piece) × Derives shallow s vs y
derive_alike _ _ _ (AToken {keep = keep} {set = set} {token = token} h) free _ (Same NoPiece) = (kept shallow keep token, AToken (has_shallow set token.kind (not_true _ free) h))
derive_alike _ _ _ (AToken {keep = keep} {set = set} {token = token} h) free _ (Deeper {other = other} e f NoPiece) =
    (kept shallow keep other, AToken (ap (λ k. has grammar set k) (f ∙ sym e) ∙ h))
derive_alike _ _ _ NoToken free _ NoPiece = (Nothing, NoToken)
derive_alike _ _ _ (Both {a = a} {b = b} {us = us} {vs = vs} d f) free ws n =
    let h = halves us vs ws n in
    let (x, p) = derive_alike _ _ _ d (and_left (unchosen a) (unchosen b) free) h.front h.near_front in
    let (y, q) = derive_alike _ _ _ f (and_right (unchosen a) (unchosen b) free) h.back h.near_back in
    (Pair x y, subst (λ l. Derives shallow (a ▹ b) l (Pair x y)) (sym h.split) (Both p q))
derive_alike _ _ _ (TheLeft {a = a} {b = b} d) free ws n =
    let (x, p) = derive_alike _ _ _ d (and_left (unchosen a) (unchosen b) (and_right _ (unchosen a && unchosen b) free)) ws n in (Left x, TheLeft p)
derive_alike _ _ _ (TheRight {a = a} {b = b} d) free ws n =
    let (x, p) = derive_alike _ _ _ d (and_right (unchosen a) (unchosen b) (and_right _ (unchosen a && unchosen b) free)) ws n in (Right x, TheRight p)
derive_alike _ _ _ NoMore free _ NoPiece = (Nothing, NoMore)
derive_alike _ _ _ (OneMore {a = a} {us = us} {vs = vs} d f) free ws n =
    let h = halves us vs ws n in
    let (x, p) = derive_alike _ _ _ d (and_right _ (unchosen a) free) h.front h.near_front in
    let (y, q) = derive_alike _ _ _ f free h.back h.near_back in
    (Pair x y, subst (λ l. Derives shallow (Many a) l (Pair x y)) (sym h.split) (OneMore p q))
derive_alike _ _ _ (ByRule {r = r} d) free ws n = let (x, p) = derive_alike _ _ _ d (all_unchosen r) ws n in (x, ByRule p)

-- a piece that is too deep counts as a `<`
counts : (piece : Piece) (rest : List Piece) → sees grammar (kinds.DeepLess ∷ []) (piece ∷ rest) ≡ true → shallow_kind piece.kind ≡ kinds.Less
counts piece rest seen = elim (or_cases _ false seen) [ inl h ↦ ap (λ b. cond b kinds.Less piece.kind) h | inr h ↦ absurd (let no : ⊥ = cc in no) ]

-- what goes no further where each `<` that is too deep counts as any isn't nested too deep
not_deep : (used left : List Piece) → GoesNoFurther shallow (Rule ModuleText) used left → NestsTooDeep used left → ⊥
not_deep used [] ends (seen, viable) = absurd (let no : ⊥ = cc in no)
not_deep used (piece ∷ rest) ends (seen, (more, tree, d)) =
    let (other, p) = derive_alike (Rule ModuleText) _ tree d refl _ (near_at used more (sample kinds.Less) piece refl (counts piece rest seen)) in
    ends (more, other, p)

reads_shallow : (ts : List Piece) (out : Outcome Stop Token Piece) → Runs grammar told_rules stops_of (Rule ModuleText) ts out → Ordinary out → EndsWhole shallow stops_of (Rule ModuleText) ts out
reads_shallow ts out d ordinary =
    ends_whole shallow stops_of shallow_predictive ModuleText ts out (subst (λ f. Runs shallow f stops_of (Rule ModuleText) ts out) (sym same_rules) (read_alike _ ts out d refl ordinary))

reads : (ts : List Piece) (out : Outcome Stop Token Piece) → Runs grammar told_rules stops_of (Rule ModuleText) ts out → EndsWhole grammar stops_of (Rule ModuleText) ts out
unfolding told_rules
reads ts out d = ends_whole grammar stops_of refl ModuleText ts out d

-- the same place, whichever way a `<` counts
ends_there : (ts used other left : List Piece) → ts ≡ used ++ left → ts ≡ other ++ left → GoesNoFurther shallow (Rule ModuleText) other left → NestsTooDeep used left → ⊥
ends_there ts used other left e f ends deep =
    let same : other ≡ used = append_cancel_right other used left (sym f ∙ e) in
    not_deep used left (subst (λ u. GoesNoFurther shallow (Rule ModuleText) u left) same ends) deep

-- what reading comes to
pub reads_text : ReadsText
reads_text tokens end_place (Done tree []) d = reads (pieces_of tokens end_place) (Done tree []) d
reads_text tokens end_place (Done tree (next ∷ left)) d =
    let (used, split, refused) = reads (pieces_of tokens end_place) (Done tree (next ∷ left)) d in
    let (other, apart, ends) = reads_shallow (pieces_of tokens end_place) (Done tree (next ∷ left)) d tt in
    record { used = used; left = next ∷ left; split = split; refused = refused; why = ends_there _ used other (next ∷ left) split apart ends.ends; place_is = refl }
reads_text tokens end_place (Failed stops.Unexpected left) d = λ refusing.
    let r = reads (pieces_of tokens end_place) (Failed stops.Unexpected left) d refusing in
    let q = reads_shallow (pieces_of tokens end_place) (Failed stops.Unexpected left) d tt refusing in
    record { used = r.used; left = left; split = r.split; refused = r.refused; why = ends_there _ r.used q.used left r.split q.split q.refused.ends; place_is = refl }
reads_text tokens end_place (Failed stops.TooDeep left) d = λ refusing.
    let r = reads (pieces_of tokens end_place) (Failed stops.TooDeep left) d refusing in
    record {
      used = r.used;
      left = left;
      split = r.split;
      refused = r.refused;
      why = (and_right (has grammar r.wanted kinds.Less) _ r.explained, r.allowed (sample kinds.Less) (and_left (has grammar r.wanted kinds.Less) _ r.explained));
      place_is = refl;
    }
reads_text tokens end_place (Failed stops.NoMemory left) d = λ refusing. absurd (let no : ⊥ = cc in no)
