use Rattle.std.proofs.Common.{subst}
use Rattle.std.specs.List.{All}
use Rattle.std.proofs.lemmas.List.Elements.{All-tail}
use Rattle.hilti_effects.specs.Asks.{AsksPrinted}
use Rattle.hilti_acting.proofs.printing.append_items.Goals as goal

pub append_others-requires : goal.append_others-requires
append_others-requires c =
    All-tail (AsksPrinted c.args.stack.now.slots c.args.globals.now) c.in-Some.first.now
    c.in-Some.others.now
    (subst (All (AsksPrinted c.args.stack.now.slots c.args.globals.now)) c.in-Some.ensures.cases.0
    c.requires)
