use Rattle.hilti_declared.proofs.Accepted.{accepted_globals}
use Rattle.hilti_declared.proofs.declaring.declare.Goals as goal

pub make_globals-requires-clause-accepted : goal.make_globals-requires-clause-accepted
make_globals-requires-clause-accepted c =
    let all = c.into_parts-modules in
    accepted_globals all.result.0 all.result.2 all.ensures.tables all.ensures.accepted
