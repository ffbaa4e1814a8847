use Rattle.hilti_pool.proofs.Items.{takes_at}
use Rattle.hilti_pool.proofs.hall.Hall.collect.Goals as goal

pub returns-in-Some-clause-some : goal.returns-in-Some-clause-some
returns-in-Some-clause-some g c =
    takes_at c.args.thread.n c.in-Some.posted c.args.self.now.mail.items c.remove.new.self.items c.in_ok-place.place c.in_ok-place.ensures.some c.in-Some.ensures.value c.in-Some.ensures.items
