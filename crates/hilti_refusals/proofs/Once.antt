-- What is refused is refused at one place, and is no module.
use Rattle.std.proofs.Common.{◌≡◌, List, [], ◌∷◌, ◌++◌, refl, sym, ◌∙◌, ap, subst, append_assoc}
use Rattle.hilti_grammar.specs.Grammar.{Grammar, Symbol, Symbol.Rule}
use Rattle.hilti_grammar.specs.Derives.{Derives, CanBegin}
use Rattle.hilti_grammar.specs.Exact.{IsRefusedAt, GoesNoFurther}
use Rattle.hilti_grammar.proofs.Cuts.{Cuts, Cuts.Same, Cuts.Shorter, Cuts.Longer, cuts}
use Rattle.hilti_grammar.proofs.Theorem.{first_refusal}
use Rattle.hilti_kinds.specs.declared.piece.Piece.{Piece}
use Rattle.hilti_reader.specs.declared.stop.Stop.{Stop}
use Rattle.hilti_reader.specs.declared.stop.Stop.TheVariants as stops
use Rattle.hilti_reader.specs.Modules.{RuleName.ModuleText, grammar}
use Rattle.hilti_refusals.specs.Refusals.{IsWhy, NeverBoth, RefusedOnce}
use Rattle.hilti_reader.specs.Readers.{first_place}

module _ {K R P T : Type 0} (g : Grammar K R P T) (s : Symbol K R) where
  -- what begins with more tokens begins with fewer
  begins_front : (us m : List T) (k : T) → CanBegin g s (us ++ k ∷ m) → CanBegin g s (us ++ k ∷ [])
  begins_front us m k (more, tree, d) = (m ++ more, tree, subst (λ l. Derives g s l tree) regrouped d)
    where
      regrouped : (us ++ k ∷ m) ++ more ≡ (us ++ k ∷ []) ++ (m ++ more)
      regrouped = simp append_assoc

  -- a list isn't refused before a place where it still begins a list of the symbol
  not_before : (used left further m rest : List T) (k : T) → further ≡ used ++ k ∷ m → left ≡ k ∷ rest → GoesNoFurther g s used left → CanBegin g s further → ⊥
  not_before used left further m rest k e i ends viable =
      (subst (λ l. GoesNoFurther g s used l) i ends) (begins_front used m k (subst (λ l. CanBegin g s l) e viable))

  -- a list is refused at one place
  pub one_place : (used left others rest : List T) → used ++ left ≡ others ++ rest → IsRefusedAt g s used left → IsRefusedAt g s others rest → (used ≡ others) × (left ≡ rest)
  one_place used left others rest e r q = go (cuts used others left rest e)
    where
      go : Cuts used others left rest → (used ≡ others) × (left ≡ rest)
      go (Same a b) = (a, b)
      go (Shorter k m a b) = absurd (not_before used left others m (m ++ rest) k a b r.ends q.viable)
      go (Longer k m a b) = absurd (not_before others rest used m (m ++ left) k a b q.ends r.viable)

one_reason : (stop other : Stop) (used left : List Piece) → IsWhy stop used left → IsWhy other used left → stop ≡ other
one_reason stops.Unexpected stops.Unexpected used left h k = refl
one_reason stops.Unexpected stops.TooDeep used left h k = absurd (h k)
one_reason stops.TooDeep stops.Unexpected used left h k = absurd (k h)
one_reason stops.TooDeep stops.TooDeep used left h k = refl
one_reason stops.NoMemory other used left h k = absurd h
one_reason stops.Unexpected stops.NoMemory used left h k = absurd k
one_reason stops.TooDeep stops.NoMemory used left h k = absurd k

pub never_both : NeverBoth
never_both tokens end_place tree stop place derives refused =
    (first_refusal grammar (Rule ModuleText) refused.used refused.left refused.refused).whole tree
    (subst (λ pieces. Derives grammar (Rule ModuleText) pieces tree) refused.split derives)

pub refused_once : RefusedOnce
refused_once tokens end_place stop other place elsewhere r q =
    let same = one_place grammar (Rule ModuleText) r.used r.left q.used q.left (sym r.split ∙ q.split) r.refused q.refused in (
      one_reason stop other q.used q.left (subst (λ l. IsWhy stop q.used l) same.1 (subst (λ u. IsWhy stop u r.left) same.0 r.why)) q.why,
      r.place_is ∙ (ap (λ l. first_place l end_place) same.1 ∙ sym q.place_is),
    )
