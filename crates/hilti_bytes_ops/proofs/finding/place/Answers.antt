use Rattle.std.proofs.Common.{refl}
use Rattle.hilti_bytes_ops.proofs.Places.{no_place, some_place}
use Rattle.hilti_bytes_ops.proofs.finding.place.Goals as goal

pub returns-in-Some : goal.returns-in-Some
returns-in-Some c =
    some_place c.args.bytes.now c.args.needle.now c.in-Some.at c.in-Some.ensures.found
    c.in-Some.ensures.least

pub returns-in-None : goal.returns-in-None
returns-in-None c =
    no_place c.args.bytes.now c.args.needle.now (c.in-None.ensures.none refl)
