use Rattle.std.proofs.Common.{◌≡◌, List, Option, Result, Err, IsErrAnd, sym, ◌∙◌, subst}
use Rattle.std.specs.List.{All}
use Rattle.hilti_base.specs.declared.names.FnId.{FnId}
use Rattle.hilti_outside.specs.Contents.{content}
use Rattle.hilti_tree.specs.declared.call.Call.{Call}
use Rattle.hilti_feed.specs.declared.feed.FeedFault.{FeedFault}
use Rattle.hilti_feed.specs.declared.feed.FeedFault.TheVariants as faults
use Rattle.hilti_feed.specs.Calls.{IsCallOf}
use Rattle.hilti_feed.specs.Wholes.{ending_of}
use Rattle.hilti_feed.proofs.Wholes.{whole, bad_behind}
use Rattle.hilti_feed.proofs.whole.capture_calls.Goals as goal

-- what is handed on is the same fault
handed_on : {T : Type 0} (result : Result T FeedFault) (fault other : FeedFault) → IsErrAnd result (λ f. f ≡ fault) → result ≡ Err other → fault ≡ other
handed_on {T} result fault other h e = sym (subst (λ (r : Result T FeedFault). IsErrAnd r (λ f. f ≡ fault)) e h)

passes_same : (packet packet' : FnId) (last last' : Option FnId) (calls : List Call) → packet' ≡ packet → last' ≡ last
    → All (IsCallOf packet' last') calls → All (IsCallOf packet last) calls
passes_same packet packet' last last' calls e f all =
    subst (λ (d : Option FnId). All (IsCallOf packet d) calls) f (subst (λ (x : FnId). All (IsCallOf x last') calls) e all)

pub returns-in_err-end-clause-bad : goal.returns-in_err-end-clause-bad
returns-in_err-end-clause-bad g c = λ at code e all told.
    let was = c.in_err-end.was in
    let same = handed_on c.from_residual-in_err-end.result c.in_err-end.field-0.0 (faults.Bad at code) c.from_residual-in_err-end.ensures.1 e in
    bad_behind (g.F.Files.files c.open_capture.new.files) (g.F.Files.rest c.open_capture.new.files) (g.F.Files.rest c.calls_to_end.new.files)
    c.in_ok-capture.capture.progress c.calls_to_end.new.progress all (content all c.args.name.now) c.args.packet c.args.done at code
    (c.in_ok-capture.ensures.files ∙ told) (λ other given. g.met.F.Files.told c.open_capture.new.files other given) (c.in_ok-capture.ensures.begun all told)
    c.in_ok-calls.ensures.ending (c.in_err-end.ensures.bad at code (cc))

pub returns-clause-come : goal.returns-clause-come
returns-clause-come g c = λ all told.
    whole (g.F.Files.files c.open_capture.new.files) (g.F.Files.rest c.open_capture.new.files) (g.F.Files.rest c.calls_to_end.new.files)
    c.in_ok-capture.capture.progress c.calls_to_end.new.progress all (content all c.args.name.now) c.args.packet c.args.done c.in_ok-calls.calls
    (ending_of c.in_ok-end.end) (c.in_ok-capture.ensures.files ∙ told) (λ other given. g.met.F.Files.told c.open_capture.new.files other given)
    (c.in_ok-capture.ensures.begun all told) c.in_ok-calls.ensures.calls c.in_ok-calls.ensures.ending c.in_ok-end.ensures.heard c.in_ok-end.ensures.end

pub returns-clause-passes : goal.returns-clause-passes
returns-clause-passes g c =
    passes_same c.args.packet c.in_ok-capture.capture.progress.packet c.args.done c.in_ok-capture.capture.progress.done c.in_ok-calls.calls
    c.in_ok-capture.ensures.calls.0 c.in_ok-capture.ensures.calls.1 c.in_ok-calls.ensures.passes
