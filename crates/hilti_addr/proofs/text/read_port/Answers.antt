use Rattle.std.proofs.Common.{refl}
use Rattle.hilti_addr.proofs.Forms.{no_slash_port, port_parts}
use Rattle.hilti_addr.proofs.text.read_port.Goals as goal

pub returns-in_err-front-clause-none : goal.returns-in_err-front-clause-none
returns-in_err-front-clause-none c = λ _. no_slash_port c.args.text.now (c.in_err-front.ensures.none refl)

pub returns-in_err-number-clause-none : goal.returns-in_err-number-clause-none
returns-in_err-number-clause-none c = λ _ port is.
    let parts = port_parts c.args.text.now c.in_ok-front.front.now c.in_ok-front.back.now port c.in_ok-front.ensures.some is in
    c.in_err-number.ensures.none refl port.number parts.0

pub returns-in_err-udp-clause-none : goal.returns-in_err-udp-clause-none
returns-in_err-udp-clause-none c = λ _ port is.
    let parts = port_parts c.args.text.now c.in_ok-front.front.now c.in_ok-front.back.now port c.in_ok-front.ensures.some is in
    c.in_err-udp.ensures.none refl port.udp parts.1
