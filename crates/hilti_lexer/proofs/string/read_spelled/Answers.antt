use Rattle.std.proofs.Common.{ℕ, List, refl, subst, sym}
use Rattle.hilti_lexer.specs.Strings.{AreSpelled}
use Rattle.hilti_lexer.proofs.Strings.{one_more}
use Rattle.hilti_lexer.proofs.string.read_spelled.Goals as goal

pub loop-byte-preserved : goal.loop-byte-preserved
loop-byte-preserved c =
    subst (λ (value : List ℕ). AreSpelled value c.args.inside.now c.in-Some.behind.now) (sym c.in_ok-push.ensures.ok)
    (one_more c.loop-byte.value c.args.inside.now c.loop-byte.rest.now c.in-Some.behind.now c.in-Some.byte c.loop-byte.invariant c.in-Some.ensures.some)

pub returns-clause-all : goal.returns-clause-all
returns-clause-all c = c.in_default.ensures.none refl
