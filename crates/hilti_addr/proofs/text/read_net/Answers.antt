use Rattle.std.proofs.Common.{refl}
use Rattle.hilti_addr.proofs.Texts.{no_net}
use Rattle.hilti_addr.proofs.text.read_net.Goals as goal

pub returns-clause-none : goal.returns-clause-none
returns-clause-none c = λ none. no_net c.args.text.now (c.in_default.ensures.none refl) (c.read_bracket_net.ensures.none none)
