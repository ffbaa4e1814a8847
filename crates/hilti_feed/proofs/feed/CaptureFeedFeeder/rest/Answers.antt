use Rattle.hilti_feed.proofs.Lifts.{whether_more}
use Rattle.hilti_feed.proofs.feed.CaptureFeedFeeder.rest.Goals as goal

pub returns-clause-more : goal.returns-clause-more
returns-clause-more g c =
    whether_more (g.F.Files.files c.args.self.now.files.now) (g.F.Files.rest c.args.self.now.files.now) (g.F.Files.rest c.skip_calls.new.files)
    c.args.self.now.progress c.skip_calls.new.progress c.in_ok-more.more
    (λ all e. g.met.F.Files.told c.args.self.now.files.now all e) c.in_ok-more.ensures.skipped
