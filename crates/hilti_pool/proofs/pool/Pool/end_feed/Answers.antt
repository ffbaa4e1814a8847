use Rattle.std.proofs.Common.{arith}
use Rattle.hilti_pool.proofs.Taking.{none_if}
use Rattle.hilti_pool.proofs.Adding.{end_tells}
use Rattle.hilti_pool.proofs.pool.Pool.end_feed.Goals as goal

pub returns-then-is_none-clause-entries : goal.returns-then-is_none-clause-entries
returns-then-is_none-clause-entries g c =
    let old = c.self.inside in
    end_tells _ c.args.self.now c.len.result c.self.view_is c.self.invariant.2 (none_if old.ended c.if-is_none.ensures) (omega (arith, c.len.ensures, old.journal.ok.0))
