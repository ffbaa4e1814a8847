use Rattle.std.proofs.Common.{◌∙◌, ap}
use Rattle.hilti_pieces.proofs.PieceLoop.{passed_over, added}
use Rattle.hilti_pieces.proofs.piece_list.pieces.Goals as goal
use Rattle.hilti_pieces.proofs.piece_list.pieces.Goals.{in-Some-piece_kind+in_ok-push_back, in_default-piece_kind}

pub loop-token-preserved : goal.loop-token-preserved
loop-token-preserved c =
    elim c.match-piece_kind.branch [
      | in-Some-piece_kind+in_ok-push_back w ↦
          added _ _ _ _ _ _ _ _ c.in-Some.token _ w.in-Some-piece_kind.kind _ c.loop-token.invariant c.in-Some.ensures.items c.kind_of-kind.ensures c.piece_kind.ensures c.behind-surroundings.ensures
          w.in-Some-piece_kind.is (ap (λ queue. queue.items) w.pieces-is ∙ w.in_ok-push_back.ensures.items)
      | in_default-piece_kind w ↦
          passed_over _ _ _ _ _ _ _ _ c.in-Some.token _ _ c.loop-token.invariant c.in-Some.ensures.items c.kind_of-kind.ensures c.piece_kind.ensures c.behind-surroundings.ensures
          w.in_default-piece_kind.is (ap (λ queue. queue.items) w.pieces-is)
    ]
