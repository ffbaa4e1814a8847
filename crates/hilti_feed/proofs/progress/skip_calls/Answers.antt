use Rattle.std.proofs.Common.{rules, refl}
use Rattle.hilti_feed.proofs.Givings.{ended_now}
use Rattle.hilti_feed.proofs.progress.skip_calls.Goals as goal

pub returns-clause-skipped : goal.returns-clause-skipped
returns-clause-skipped g c =
    ended_now c.args.progress.now _ c.end_at-left.new.progress c.in_ok-outcome.outcome c.in_ok-outcome.more c.end_at-left.result
    (g.F.Files.rest c.args.files.now) (g.F.Files.rest c.skip_packets.new.files) (search rules)
    (record { outcome_same = refl; packet_same = refl; done_same = refl; given_same = refl })
    c.in_ok-outcome.ensures.over c.in_ok-outcome.ensures.skipped c.end_at-left.ensures
