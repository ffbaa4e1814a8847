-- The small grammars, computed.
use Rattle.std.proofs.Common.{◌≡◌, true, false, [], ◌∷◌, refl}
use Rattle.hilti_grammar.specs.Grammar.{Symbol.Rule, Tree.Right, Tree.Pair, Tree.Nothing}
use Rattle.hilti_grammar.specs.Derives.{Derives, Derives.AToken, Derives.NoToken, Derives.Both, Derives.TheLeft, Derives.TheRight, Derives.NoMore, Derives.OneMore, Derives.ByRule}
use Rattle.hilti_grammar.specs.Predictive.{is_predictive}
use Rattle.hilti_grammar.specs.Nested.{Mark.Word, Mark.Open, Mark.Comma, Mark.Close, Name.Value, nested, clashing, nested_tree}

pub nested_is : is_predictive nested ≡ true
nested_is = refl

pub clashing_is : is_predictive clashing ≡ false
clashing_is = refl

pub nested_derives : Derives nested (Rule Value) (Open ∷ Word ∷ Comma ∷ Open ∷ Close ∷ Close ∷ []) nested_tree
nested_derives = ByRule (TheRight (Both (AToken refl) (Both (ByRule (TheLeft (Both (ByRule (TheLeft (AToken refl))) (OneMore (Both (AToken refl) inner) NoMore)))) (AToken refl))))
  where
    inner : Derives nested (Rule Value) (Open ∷ Close ∷ []) (Right (Pair Nothing (Pair (Right Nothing) Nothing)))
    inner = ByRule (TheRight (Both (AToken refl) (Both (ByRule (TheRight NoToken)) (AToken refl))))
