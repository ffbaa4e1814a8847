use Rattle.std.proofs.Common.{rules}
use Rattle.hilti_turn.proofs.Steps.{looks}
use Rattle.hilti_turn.proofs.turn.Turn.look.Goals as goal

pub load-requires : goal.load-requires
load-requires g c = (c.requires.own.0, search rules, looks _ _ _ _ _ _ _ _ c.requires.waits.0)
