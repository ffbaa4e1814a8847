use Rattle.hilti_one.proofs.Going.{goes_on, same_on, still_sound}
use Rattle.hilti_one.proofs.alone.take_turns.Goals as goal

pub loop-thread-smaller : goal.loop-thread-smaller
loop-thread-smaller g c =
    let before = c.loop-thread.invariant in
    let all = still_sound g.B.Body.effect g.B.Body.sound c.args.pool.now c.loop-thread.pool before.same c.requires.sound in
    let on = goes_on g.B.Body.effect g.B.Body.sound g.met.B.Body.segments c.loop-thread.pool c.advance.new.self c.in-Some.thread all before.between c.in-Some.ensures c.in_ok-advance.ensures.ok in
    on.fewer

pub loop-thread-preserved : goal.loop-thread-preserved
loop-thread-preserved g c =
    let before = c.loop-thread.invariant in
    let all = still_sound g.B.Body.effect g.B.Body.sound c.args.pool.now c.loop-thread.pool before.same c.requires.sound in
    let on = goes_on g.B.Body.effect g.B.Body.sound g.met.B.Body.segments c.loop-thread.pool c.advance.new.self c.in-Some.thread all before.between c.in-Some.ensures c.in_ok-advance.ensures.ok in
    record { between = on.between; same = same_on g.B.Body.effect c.args.pool.now c.loop-thread.pool c.advance.new.self before.same on.same }
