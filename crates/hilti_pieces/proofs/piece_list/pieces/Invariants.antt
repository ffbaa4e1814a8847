use Rattle.std.proofs.Common.{length}
use Rattle.hilti_pieces.proofs.PieceLoop.{Gathered}
use Rattle.hilti_pieces.proofs.piece_list.pieces.Given as goal

abbrev pub invariant-loop-token : goal.invariant-loop-token
invariant-loop-token l = Gathered l.fn.tokens l.fn.end l.surroundings l.pieces.items l.left.items

abbrev pub decreases-loop-token : goal.decreases-loop-token
decreases-loop-token l = length l.left.items
