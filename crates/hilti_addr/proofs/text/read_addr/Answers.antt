use Rattle.std.proofs.Common.{refl}
use Rattle.hilti_addr.proofs.Texts.{no_address}
use Rattle.hilti_addr.proofs.text.read_addr.Goals as goal

pub returns-clause-none : goal.returns-clause-none
returns-clause-none c = λ none. no_address c.args.text.now (c.in_default.ensures.none refl) (c.read_bracket_addr.ensures.none none)
