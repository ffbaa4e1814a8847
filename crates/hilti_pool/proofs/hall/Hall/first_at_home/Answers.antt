use Rattle.std.proofs.Common.{arith}
use Rattle.hilti_pool.specs.Hall.{face, IsAtHome}
use Rattle.hilti_pool.proofs.Items.{all_more}
use Rattle.hilti_pool.proofs.hall.Hall.first_at_home.Goals as goal

pub loop-place-preserved : goal.loop-place-preserved
loop-place-preserved g c =
    let hall = c.args.self.now in
    all_more (λ posted. ¬ IsAtHome (face hall posted.to.n).place) hall.mail.items c.loop-place.place c.index.result.now (omega (arith, hall.mail.ok.0)) c.index.ensures c.loop-place.invariant
    (λ home. let t = c.is_home.ensures.1 home in let f = c.if-is_home.false in absurd cc)
