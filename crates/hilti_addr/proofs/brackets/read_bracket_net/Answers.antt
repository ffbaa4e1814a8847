use Rattle.std.proofs.Common.{refl}
use Rattle.hilti_addr.proofs.Spelled.{bracket_net_parts, no_slash_bracket}
use Rattle.hilti_addr.proofs.brackets.read_bracket_net.Goals as goal

pub returns-in_err-front-clause-none : goal.returns-in_err-front-clause-none
returns-in_err-front-clause-none c = λ _. no_slash_bracket c.args.text.now (c.in_err-front.ensures.none refl)

pub returns-in_err-address-clause-none : goal.returns-in_err-address-clause-none
returns-in_err-address-clause-none c = λ _ net is.
    let parts = bracket_net_parts c.args.text.now c.in_ok-front.front.now c.in_ok-front.back.now net c.in_ok-front.ensures.some is in
    c.in_err-address.ensures.none refl is.address parts.0

pub returns-in_err-len-clause-none : goal.returns-in_err-len-clause-none
returns-in_err-len-clause-none c = λ _ net is.
    let parts = bracket_net_parts c.args.text.now c.in_ok-front.front.now c.in_ok-front.back.now net c.in_ok-front.ensures.some is in
    c.in_err-len.ensures.none refl is.len parts.1
