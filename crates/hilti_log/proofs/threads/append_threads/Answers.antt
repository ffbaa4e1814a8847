use Rattle.hilti_pool.specs.Roll.{IsLogAt, EndsBy}
use Rattle.hilti_log.proofs.Whole.{thread_more, nothing_past, told, all_threads}
use Rattle.hilti_log.proofs.threads.append_threads.Goals as goal

pub unreachable-requires : goal.unreachable-requires
unreachable-requires g c =
    nothing_past g.B.Body.effect c.args.pool.now c.threads-threads.result c.loop-place.place c.log.result
    (λ k x. IsLogAt c.loop-place.place x.0.n x.1 x.2.now k)
    c.in_default.is c.threads-threads.ensures c.log.ensures c.loop-place-test.true

pub loop-place-preserved : goal.loop-place-preserved
loop-place-preserved g c = λ k threads legal ran.
    thread_more k c.args.out.now c.loop-place.out c.append_thread.new.out c.loop-place.place threads
    c.in-Some.thread.n c.in-Some.calls c.in-Some.lines.now ran
    (told g.B.Body.effect c.args.pool.now k c.log.result (c.in-Some.thread, c.in-Some.calls, c.in-Some.lines)
    (EndsBy c.loop-place.place) (λ k x. IsLogAt c.loop-place.place x.0.n x.1 x.2.now k)
    c.in-Some.is legal c.log.ensures)
    (c.loop-place.invariant k threads legal ran) c.in_ok-append_thread.ensures

pub returns : goal.returns
returns g c =
    let has = c.threads-threads.ensures in
    record {
      core = has.core;
      is = has.is;
      holds = all_threads has.core c.args.out.now c.loop-place.out c.threads-threads.result c.loop-place.place has.holds
          c.loop-place-test.false (c.loop-place.invariant has.core has.holds.roll has.is has.holds.is);
    }
