use Rattle.std.proofs.Common.{refl}
use Rattle.hilti_addr.proofs.Forms.{no_part, no_point}
use Rattle.hilti_addr.proofs.text.read_part.Goals as goal

pub returns-in_err-front-clause-none : goal.returns-in_err-front-clause-none
returns-in_err-front-clause-none c = λ _. no_point c.args.text.now (c.in_err-front.ensures.none refl)

pub returns-in_err-number-clause-none : goal.returns-in_err-number-clause-none
returns-in_err-number-clause-none c = λ _.
    no_part c.args.text.now c.in_ok-front.front.now c.in_ok-front.back.now c.in_ok-front.ensures.some (c.in_err-number.ensures.none refl)
