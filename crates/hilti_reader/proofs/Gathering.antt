-- Loops over values with commas between them.
use Rattle.std.proofs.Common.{◌<◌, length, arith, ◌≡◌, true, false, List, [], ◌∷◌, ◌++◌, refl, sym, ap, subst}
use Rattle.std.specs.Prelude.{map}
use Rattle.hilti_grammar.specs.Grammar.{Symbol, Tree.Nothing, sees}
use Rattle.hilti_grammar.specs.Reads.{separated, separated_tree, Gathers}
use Rattle.hilti_grammar.specs.Runs.{Outcome.Done, Outcome.Failed, Runs.NextFails, Runs.FirstFails}
use Rattle.hilti_grammar.proofs.Loops.{gathers_begin, gathers_next, gathers_fails, gathers_ends}
use Rattle.hilti_kinds.specs.declared.kind.Kind.{Kind}
use Rattle.hilti_kinds.specs.declared.kind.Kind.TheVariants as kinds
use Rattle.hilti_kinds.specs.declared.piece.Piece.{Piece}
use Rattle.hilti_reader.specs.declared.stop.Stop.{Stop}
use Rattle.hilti_reader.specs.Modules.{RuleName, grammar, told_rules, comma}
use Rattle.hilti_reader.specs.Readers.{stops_of}
use Rattle.hilti_reader.specs.Spelled.{ModuleTree}
use Rattle.hilti_reader.specs.Loops.{GathersAll}
use Rattle.hilti_reader.proofs.Exits.{Goes}

map_last : {V : Type 0} (tree : V → ModuleTree) (xs : List V) (y : V) → map tree (xs ++ y ∷ []) ≡ map tree xs ++ tree y ∷ []
map_last tree [] y = refl
map_last tree (x ∷ xs) y = ap (λ l. tree x ∷ l) (map_last tree xs y)

module _ {V : Type 0} (item : Symbol Kind RuleName) (tree : V → ModuleTree) where
  pub all_begin : (before now : List Piece) (parts : List V) (first : V) → parts ≡ [] ++ first ∷ [] → Goes item before (Done (tree first) now) → GathersAll item tree before parts now
  all_begin before now parts first e d = subst (λ l. GathersAll item tree before l now) (sym e) (gathers_begin grammar told_rules stops_of item comma before now (tree first) d)

  pub all_next : (before now middle after : List Piece) (parts more : List V) (next : V) → more ≡ parts ++ next ∷ [] → GathersAll item tree before parts now →
      sees grammar (kinds.Comma ∷ []) now ≡ true → Goes comma now (Done Nothing middle) → Goes item middle (Done (tree next) after) → GathersAll item tree before more after
  all_next before now middle after [] more next e so_far seen d f = absurd so_far
  all_next before now middle after (first ∷ others) more next e so_far seen d f =
      subst (λ l. GathersAll item tree before l after) (sym e)
      (subst (λ l. Gathers grammar told_rules stops_of item comma before (tree first) l after) (sym (map_last tree others next))
      (gathers_next grammar told_rules stops_of item comma before now middle after (tree first) (map tree others) (tree next) so_far seen d f))

  pub all_fail : (before now middle rest : List Piece) (parts : List V) (e : Stop) → GathersAll item tree before parts now →
      sees grammar (kinds.Comma ∷ []) now ≡ true → Goes comma now (Done Nothing middle) → Goes item middle (Failed e rest) → Goes (separated item comma) before (Failed e rest)
  all_fail before now middle rest [] e so_far seen d f = absurd so_far
  all_fail before now middle rest (first ∷ others) e so_far seen d f =
      gathers_fails grammar told_rules stops_of item comma before now middle rest (tree first) (map tree others) e so_far seen d f

  pub all_stop : (before now rest : List Piece) (parts : List V) (e : Stop) → GathersAll item tree before parts now →
      sees grammar (kinds.Comma ∷ []) now ≡ true → Goes comma now (Failed e rest) → Goes (separated item comma) before (Failed e rest)
  all_stop before now rest [] e so_far seen d = absurd so_far
  all_stop before now rest (first ∷ others) e so_far seen d = so_far (Failed e rest) (NextFails seen (FirstFails d))

  pub all_end : (before now : List Piece) (parts : List V) → GathersAll item tree before parts now → sees grammar (kinds.Comma ∷ []) now ≡ false →
      Goes (separated item comma) before (Done (separated_tree (map tree parts)) now)
  all_end before now [] so_far unseen = absurd so_far
  all_end before now (first ∷ others) so_far unseen = gathers_ends grammar told_rules stops_of item comma before now (tree first) (map tree others) so_far unseen

  -- it has read one at least
  pub all_some : (before now : List Piece) (parts : List V) → GathersAll item tree before parts now → 0 < length parts
  all_some before now [] so_far = absurd so_far
  all_some before now (first ∷ others) so_far = omega arith
