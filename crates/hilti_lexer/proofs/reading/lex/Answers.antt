use Rattle.std.proofs.Common.{List, subst, sym}
use Rattle.std.proofs.lemmas.Result.{err_from_is_err_and}
use Rattle.hilti_lexer.specs.declared.token.Token.{Token}
use Rattle.hilti_lexer.specs.Readings.{AreRead, start}
use Rattle.hilti_lexer.proofs.Readings.{at_some, handed_on, one_more}
use Rattle.hilti_lexer.proofs.reading.lex.Goals as goal

pub returns-in_err-next-clause-refusal : goal.returns-in_err-next-clause-refusal
returns-in_err-next-clause-refusal c = λ place code e.
    let failed = err_from_is_err_and c.from_residual.result c.from_residual.ensures.1 in
    record {
      tokens = c.loop-tokens.tokens;
      behind = c.loop-tokens.at;
      rest = c.loop-tokens.rest.now;
      read = c.loop-tokens.invariant.0;
      missing = c.in_err-next.ensures.missing place code (handed_on c.from_residual.result failed.0 c.in_err-next.field-0.0 _ failed.1 failed.2 e);
    }

pub loop-tokens-preserved : goal.loop-tokens-preserved
loop-tokens-preserved c = (
  subst (λ (tokens : List Token). AreRead (start c.args.file) c.args.text.now tokens c.in-Some.next.behind c.in-Some.next.rest.now) (sym c.in_ok-push.ensures.ok)
      (one_more (start c.args.file) c.args.text.now c.loop-tokens.tokens c.loop-tokens.at c.loop-tokens.rest.now c.in-Some.next.token c.in-Some.next.behind c.in-Some.next.rest.now
      c.loop-tokens.invariant.0 (at_some c.in_ok-next.field-0 c.in-Some.next _ c.in-Some.is c.in_ok-next.ensures.next)),
  at_some c.in_ok-next.field-0 c.in-Some.next _ c.in-Some.is c.in_ok-next.ensures.room,
)
