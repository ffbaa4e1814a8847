-- Lemmas for readers of typed values.
use Rattle.std.proofs.Common.{◌≡◌, true, false, List, [], ◌∷◌, ◌++◌, refl, sym, ◌∙◌, ap, subst}
use Rattle.hilti_grammar.specs.Grammar.{Grammar, Symbol, Symbol.Empty, Symbol.◌▹◌, Symbol.◌⊕◌, Symbol.Many, Tree, Tree.Nothing, Tree.Pair, Tree.Left, Tree.Right, sees}
use Rattle.hilti_grammar.specs.Predictive.{Known, known}
use Rattle.hilti_grammar.specs.Runs.{Faults, Outcome, Outcome.Done, Outcome.Failed, changed, Runs, Runs.Leaves, Runs.Then, Runs.ToLeft, Runs.ToRight, Runs.Ends, Runs.NextFails, Runs.GoesOn}
use Rattle.hilti_grammar.specs.Reads.{in_front, list_tree, Repeats, separated, behind, separated_tree, Gathers}

pub in_front-append : {P T : Type 0} (xs ys : List (Tree P T)) (tree : Tree P T) → in_front (xs ++ ys) tree ≡ in_front xs (in_front ys tree)
in_front-append [] ys tree = refl
in_front-append (x ∷ xs) ys tree = ap (Pair x) (in_front-append xs ys tree)

pub behind-append : {P T : Type 0} (xs ys : List (Tree P T)) → behind (xs ++ ys) ≡ behind xs ++ behind ys
behind-append [] ys = refl
behind-append (x ∷ xs) ys = ap (λ l. Pair Nothing x ∷ l) (behind-append xs ys)

module _ {K R P T E : Type 0} (g : Grammar K R P T) (of_rule : R → Known K) (faults : Faults E K T) where
  changed_same : (f h : Tree P T → Tree P T) → ((x : Tree P T) → f x ≡ h x) → (out : Outcome E P T) → changed f out ≡ changed h out
  changed_same f h e (Done x rest) = ap (λ t. Done t rest) (e x)
  changed_same f h e (Failed error rest) = refl

  changed_twice : (f h : Tree P T → Tree P T) (out : Outcome E P T) → changed f (changed h out) ≡ changed (λ x. f (h x)) out
  changed_twice f h (Done x rest) = refl
  changed_twice f h (Failed error rest) = refl

  changed_none : (out : Outcome E P T) → changed (λ x. x) out ≡ out
  changed_none (Done x rest) = refl
  changed_none (Failed error rest) = refl

  -- an optional symbol: what its first kinds don't begin is left out
  pub maybe_none : (a : Symbol K R) (ts : List T) → sees g (known g of_rule a).first ts ≡ false → Runs g of_rule faults (a ⊕ Empty) ts (Done (Right Nothing) ts)
  maybe_none a ts unseen = ToRight unseen Leaves

  pub maybe_some : (a : Symbol K R) (ts rest : List T) (x : Tree P T) → sees g (known g of_rule a).first ts ≡ true → Runs g of_rule faults a ts (Done x rest) → Runs g of_rule faults (a ⊕ Empty) ts (Done (Left x) rest)
  maybe_some a ts rest x seen d = ToLeft seen d

  -- where reading fails, it fails in whatever it is the last alternative, the first of two symbols, or the second of
  pub fails_left : (a b : Symbol K R) (ts rest : List T) (e : E) → sees g (known g of_rule a).first ts ≡ true → Runs g of_rule faults a ts (Failed e rest) → Runs g of_rule faults (a ⊕ b) ts (Failed e rest)
  fails_left a b ts rest e seen d = ToLeft seen d

  pub fails_right : (a b : Symbol K R) (ts rest : List T) (e : E) → sees g (known g of_rule a).first ts ≡ false → Runs g of_rule faults b ts (Failed e rest) → Runs g of_rule faults (a ⊕ b) ts (Failed e rest)
  fails_right a b ts rest e unseen d = ToRight unseen d

  pub fails_second : (a b : Symbol K R) (ts mid rest : List T) (x : Tree P T) (e : E) → Runs g of_rule faults a ts (Done x mid) → Runs g of_rule faults b mid (Failed e rest) → Runs g of_rule faults (a ▹ b) ts (Failed e rest)
  fails_second a b ts mid rest x e d f = Then d f

  -- a loop over any number of a symbol
  pub repeats_begin : (a : Symbol K R) (before : List T) → Repeats g of_rule faults a before [] before
  repeats_begin a before out d = subst (Runs g of_rule faults (Many a) before) (sym (changed_none out)) d

  pub repeats_next : (a : Symbol K R) (before now after : List T) (xs : List (Tree P T)) (x : Tree P T) → Repeats g of_rule faults a before xs now →
      sees g (known g of_rule a).first now ≡ true → Runs g of_rule faults a now (Done x after) → Repeats g of_rule faults a before (xs ++ x ∷ []) after
  repeats_next a before now after xs x so_far seen d out f =
      subst (Runs g of_rule faults (Many a) before)
      (changed_twice (in_front xs) (Pair x) out ∙ changed_same (λ t. in_front xs (Pair x t)) (in_front (xs ++ x ∷ [])) (λ t. sym (in_front-append xs (x ∷ []) t)) out)
      (so_far (changed (Pair x) out) (GoesOn seen d f))

  pub repeats_fails : (a : Symbol K R) (before now rest : List T) (xs : List (Tree P T)) (e : E) → Repeats g of_rule faults a before xs now →
      sees g (known g of_rule a).first now ≡ true → Runs g of_rule faults a now (Failed e rest) → Runs g of_rule faults (Many a) before (Failed e rest)
  repeats_fails a before now rest xs e so_far seen d = so_far (Failed e rest) (NextFails seen d)

  pub repeats_ends : (a : Symbol K R) (before now : List T) (xs : List (Tree P T)) → Repeats g of_rule faults a before xs now →
      sees g (known g of_rule a).first now ≡ false → Runs g of_rule faults (Many a) before (Done (list_tree xs) now)
  repeats_ends a before now xs so_far unseen = so_far (Done Nothing now) (Ends unseen)

  -- a loop over separated items
  pub gathers_begin : (item separator : Symbol K R) (before now : List T) (x : Tree P T) → Runs g of_rule faults item before (Done x now) → Gathers g of_rule faults item separator before x [] now
  gathers_begin item separator before now x d out f = Then d f

  pub gathers_next : (item separator : Symbol K R) (before now middle after : List T) (x : Tree P T) (xs : List (Tree P T)) (y : Tree P T) → Gathers g of_rule faults item separator before x xs now →
      sees g (known g of_rule (separator ▹ item)).first now ≡ true → Runs g of_rule faults separator now (Done Nothing middle) → Runs g of_rule faults item middle (Done y after) →
      Gathers g of_rule faults item separator before x (xs ++ y ∷ []) after
  gathers_next item separator before now middle after x xs y so_far seen comma d out f =
      subst (Runs g of_rule faults (separated item separator) before)
      (changed_twice (λ rest. Pair x (in_front (behind xs) rest)) (Pair (Pair Nothing y)) out
      ∙ changed_same (λ t. Pair x (in_front (behind xs) (Pair (Pair Nothing y) t))) (λ t. Pair x (in_front (behind (xs ++ y ∷ [])) t)) (λ t. ap (Pair x) (more t)) out)
      (so_far (changed (Pair (Pair Nothing y)) out) (GoesOn seen (Then comma d) f))
    where
      more : (t : Tree P T) → in_front (behind xs) (Pair (Pair Nothing y) t) ≡ in_front (behind (xs ++ y ∷ [])) t
      more t = sym (in_front-append (behind xs) (Pair Nothing y ∷ []) t) ∙ ap (λ l. in_front l t) (sym (behind-append xs (y ∷ [])))

  pub gathers_fails : (item separator : Symbol K R) (before now middle rest : List T) (x : Tree P T) (xs : List (Tree P T)) (e : E) → Gathers g of_rule faults item separator before x xs now →
      sees g (known g of_rule (separator ▹ item)).first now ≡ true → Runs g of_rule faults separator now (Done Nothing middle) → Runs g of_rule faults item middle (Failed e rest) →
      Runs g of_rule faults (separated item separator) before (Failed e rest)
  gathers_fails item separator before now middle rest x xs e so_far seen comma d = so_far (Failed e rest) (NextFails seen (Then comma d))

  pub gathers_ends : (item separator : Symbol K R) (before now : List T) (x : Tree P T) (xs : List (Tree P T)) → Gathers g of_rule faults item separator before x xs now →
      sees g (known g of_rule (separator ▹ item)).first now ≡ false → Runs g of_rule faults (separated item separator) before (Done (separated_tree (x ∷ xs)) now)
  gathers_ends item separator before now x xs so_far unseen = so_far (Done Nothing now) (Ends unseen)
