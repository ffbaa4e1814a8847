use Rattle.std.proofs.Common.{rules}
use Rattle.hilti_turn.proofs.Frames.{joins}
use Rattle.hilti_turn.proofs.turn.Turn.absorb.Goals as goal

pub join_seat-requires : goal.join_seat-requires
join_seat-requires g c =
    let own = c.requires.own in let outside = c.requires.outside in
    (own.0.0, own.1.0, outside.1.1, search rules, joins _ _ _ _ _ _ _ _ _ outside.0.0 outside.1.0)
