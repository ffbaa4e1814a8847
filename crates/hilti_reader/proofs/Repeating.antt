-- Loops over any number of values.
use Rattle.std.proofs.Common.{arith, ℕ, ◌<◌, ◌≤◌, ◌≡◌, true, false, List, [], ◌∷◌, ◌++◌, refl, sym, ap, subst}
use Rattle.std.specs.Prelude.{map}
use Rattle.hilti_grammar.specs.Grammar.{Symbol, Symbol.Many, sees}
use Rattle.hilti_grammar.specs.Predictive.{known}
use Rattle.hilti_grammar.specs.Reads.{list_tree, Repeats}
use Rattle.hilti_grammar.specs.Runs.{Outcome.Done, Outcome.Failed}
use Rattle.hilti_grammar.proofs.Loops.{repeats_begin, repeats_next, repeats_fails, repeats_ends}
use Rattle.hilti_kinds.specs.declared.kind.Kind.{Kind}
use Rattle.hilti_kinds.specs.declared.piece.Piece.{Piece}
use Rattle.hilti_reader.specs.declared.stop.Stop.{Stop}
use Rattle.hilti_reader.specs.Modules.{RuleName, grammar, told_rules}
use Rattle.hilti_reader.specs.Readers.{stops_of}
use Rattle.hilti_reader.specs.Spelled.{ModuleTree}
use Rattle.hilti_reader.specs.Loops.{RepeatsAll}
use Rattle.hilti_reader.proofs.Exits.{Goes}

map_last : {V : Type 0} (tree : V → ModuleTree) (xs : List V) (y : V) → map tree (xs ++ y ∷ []) ≡ map tree xs ++ tree y ∷ []
map_last tree [] y = refl
map_last tree (x ∷ xs) y = ap (λ l. tree x ∷ l) (map_last tree xs y)

module _ {V : Type 0} (item : Symbol Kind RuleName) (tree : V → ModuleTree) where
  pub many_begin : (before : List Piece) (values : List V) → values ≡ [] → RepeatsAll item tree before values before
  many_begin before values e = subst (λ l. RepeatsAll item tree before l before) (sym e) (repeats_begin grammar told_rules stops_of item before)

  pub many_next : (before now after : List Piece) (values more : List V) (next : V) → more ≡ values ++ next ∷ [] → RepeatsAll item tree before values now →
      sees grammar (known grammar told_rules item).first now ≡ true → Goes item now (Done (tree next) after) → RepeatsAll item tree before more after
  many_next before now after values more next e so_far seen d =
      subst (λ l. RepeatsAll item tree before l after) (sym e)
      (subst (λ l. Repeats grammar told_rules stops_of item before l after) (sym (map_last tree values next))
      (repeats_next grammar told_rules stops_of item before now after (map tree values) (tree next) so_far seen d))

  pub many_fail : (before now rest : List Piece) (values : List V) (e : Stop) → RepeatsAll item tree before values now →
      sees grammar (known grammar told_rules item).first now ≡ true → Goes item now (Failed e rest) → Goes (Many item) before (Failed e rest)
  many_fail before now rest values e so_far seen d = repeats_fails grammar told_rules stops_of item before now rest (map tree values) e so_far seen d

  pub many_end : (before now : List Piece) (values : List V) → RepeatsAll item tree before values now → sees grammar (known grammar told_rules item).first now ≡ false →
      Goes (Many item) before (Done (list_tree (map tree values)) now)
  many_end before now values so_far unseen = repeats_ends grammar told_rules stops_of item before now (map tree values) so_far unseen

pub stays : (n : ℕ) → n ≤ n
stays n = omega arith

pub shrinks_or_stays : (a b c : ℕ) → b ≤ a → c < b → c ≤ a
shrinks_or_stays a b c h i = omega arith
