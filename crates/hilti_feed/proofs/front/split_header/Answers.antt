use Rattle.std.proofs.Common.{◌++◌, sym, ap, ◌∙◌, drop}
use Rattle.std.proofs.lemmas.List.{take-append-drop}
use Rattle.hilti_feed.proofs.front.split_header.Goals as goal

pub returns-in-Ok-clause-header : goal.returns-in-Ok-clause-header
returns-in-Ok-clause-header c =
    let cases = c.in-Some.ensures.cases in (
      c.in-Some.front.now,
      sym (take-append-drop 24 c.args.bytes.now) ∙ ap (λ l. l ++ drop 24 c.args.bytes.now) (sym cases.0) ∙ ap (λ l. c.in-Some.front.now ++ l) (sym cases.1),
      c.in-Ok.ensures.header,
    )
