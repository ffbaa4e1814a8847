use denote.Param.Send.{sendable}
use Rattle.std.proofs.Common.{◌∙◌}
use Rattle.hilti_feed.specs.Wholes.{ending_of}
use Rattle.hilti_top.proofs.Running.{reports_calls}
use Rattle.hilti_top.proofs.Sending.{thread_send}
use Rattle.hilti_top.proofs.run.run_calls.Goals as goal

pub run_alone-requires-send-B-Vt : goal.run_alone-requires-send-B-Vt
run_alone-requires-send-B-Vt c κs = search (thread_send, sendable) depth 20

pub report-requires-send-B-Vt : goal.report-requires-send-B-Vt
report-requires-send-B-Vt c κs = search (thread_send, sendable) depth 20

pub waiting-waiting-requires-send-B-Vt : goal.waiting-waiting-requires-send-B-Vt
waiting-waiting-requires-send-B-Vt c κs = search (thread_send, sendable) depth 20

pub returns : goal.returns
returns c =
    reports_calls c.in_ok-pool.pool c.args.limits c.args.program c.args.capture.calls (ending_of c.args.capture.end) c.status_of.result c.in_ok-text.text c.waiting-waiting.result
    (c.in_ok-pool.ensures.about ∙ c.in_ok-machine.ensures) c.in_ok-pool.ensures.ran c.in_ok-text.ensures c.waiting-waiting.ensures c.status_of.ensures
