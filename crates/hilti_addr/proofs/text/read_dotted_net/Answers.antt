use Rattle.std.proofs.Common.{refl}
use Rattle.hilti_addr.proofs.Forms.{net_parts, no_slash_net}
use Rattle.hilti_addr.proofs.text.read_dotted_net.Goals as goal

pub returns-in_err-front-clause-none : goal.returns-in_err-front-clause-none
returns-in_err-front-clause-none c = λ _. no_slash_net c.args.text.now (c.in_err-front.ensures.none refl)

pub returns-in_err-address-clause-none : goal.returns-in_err-address-clause-none
returns-in_err-address-clause-none c = λ _ net is.
    let parts = net_parts c.args.text.now c.in_ok-front.front.now c.in_ok-front.back.now net c.in_ok-front.ensures.some is in
    c.in_err-address.ensures.none refl is.address parts.0

pub returns-in_err-len-clause-none : goal.returns-in_err-len-clause-none
returns-in_err-len-clause-none c = λ _ net is.
    let parts = net_parts c.args.text.now c.in_ok-front.front.now c.in_ok-front.back.now net c.in_ok-front.ensures.some is in
    c.in_err-len.ensures.none refl is.len parts.1
