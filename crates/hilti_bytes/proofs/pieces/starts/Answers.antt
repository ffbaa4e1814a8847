use Rattle.std.proofs.Common.{length, drop}
use Rattle.std.proofs.lemmas.Bool.Decides.{Decides-eqb}
use Rattle.std.proofs.lemmas.Slice.Eq.{starts_is}
use Rattle.hilti_bytes.proofs.pieces.starts.Goals as goal

pub returns : goal.returns
returns c =
    let both = starts_is Decides-eqb c.args.b.now c.args.front.now c.starts_with.result c.starts_with.ensures.value in
    (λ yes. (drop (length c.args.front.now) c.args.b.now, both.0 yes), λ is. both.1 is.0 is.1)
