use Rattle.std.proofs.Common.{refl, arith}
use Rattle.hilti_feed.proofs.Windows.{read_past}
use Rattle.hilti_feed.proofs.pieces.read_piece.Goals as goal

pub returns-in_ok-feed-2-clause-same : goal.returns-in_ok-feed-2-clause-same
returns-in_ok-feed-2-clause-same g c =
    let above = c.if-count-tail.false in
    read_past c.args.tail.now _ (g.F.Files.rest c.args.files.now) (g.F.Files.rest c.read.new.self) c.in_ok-count.count c.read.new.into _
    c.requires refl c.in_ok-feed-2.ensures.ok refl (omega (arith, above)) c.in_ok-count.ensures.count.0 c.in_ok-count.ensures.moved.0
