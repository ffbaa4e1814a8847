-- Readers of modules are exact, since their grammar is predictive.
use Rattle.std.proofs.Common.{◌≡◌, refl, subst}
use Rattle.std.specs.Prelude.{true}
use Rattle.hilti_grammar.specs.Grammar.{Symbol.Rule}
use Rattle.hilti_grammar.specs.Predictive.{is_predictive}
use Rattle.hilti_grammar.specs.Runs.{Runs}
use Rattle.hilti_grammar.specs.Exact.{known_rules}
use Rattle.hilti_grammar.proofs.Theorem.{exactly, ends_whole}
use Rattle.hilti_reader.specs.Modules.{grammar, told_rules}
use Rattle.hilti_reader.specs.Readers.{stops_of}
use Rattle.hilti_reader.specs.Promises.{ReadingIsExact, ReadingAllIsExact}

predictive : is_predictive grammar ≡ true
predictive = refl

same_rules : told_rules ≡ known_rules grammar
unfolding told_rules
same_rules = refl

pub reading_is_exact : ReadingIsExact
reading_is_exact rule pieces out d =
    exactly grammar stops_of predictive rule pieces out (subst (λ of_rule. Runs grammar of_rule stops_of (Rule rule) pieces out) same_rules d)

pub reading_all_is_exact : ReadingAllIsExact
reading_all_is_exact rule pieces out d =
    ends_whole grammar stops_of predictive rule pieces out (subst (λ of_rule. Runs grammar of_rule stops_of (Rule rule) pieces out) same_rules d)
