use Rattle.std.proofs.Common.{◌<◌, rules, arith, sym, ◌∙◌}
use Rattle.hilti_turn.proofs.Frames.{splits}
use Rattle.hilti_turn.proofs.turn.Turn.another.Goals as goal

pub split_seat-seat-requires : goal.split_seat-seat-requires
split_seat-seat-requires g c =
    let own = c.requires.own in
    let room : c.args.first.now.seat.me.0.made < c.args.self.now.table.shared.key.seats = let place = c.requires.place in omega arith in
    (own.0.0, search rules, splits _ _ _ _ _ _ _ (sym own.0.1 ∙ own.1) c.requires.outside.0 room)
