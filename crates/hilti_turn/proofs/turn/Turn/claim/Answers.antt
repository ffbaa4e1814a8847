use Rattle.std.proofs.Common.{rules}
use Rattle.hilti_turn.proofs.Steps.{claims}
use Rattle.hilti_turn.proofs.turn.Turn.claim.Goals as goal

pub fetch_add-requires : goal.fetch_add-requires
fetch_add-requires g c = (c.requires.own.0, search rules, claims _ _ _ _ _ _ _ _ c.requires.outside.0)
