use Rattle.hilti_top.proofs.Sound.{calls_sound}
use Rattle.hilti_top.proofs.output.run_output.Goals as goal

pub run_calls-requires-clause-sound : goal.run_calls-requires-clause-sound
run_calls-requires-clause-sound g c =
    calls_sound c.args.limits c.args.program c.packet-packet.result c.done-done.result c.in_ok-calls.calls.calls
    c.requires.typed c.packet-packet.ensures.entry c.done-done.ensures.entry c.in_ok-calls.ensures.passes
