use Rattle.std.proofs.Common.{◌≡◌, sym, ap, ◌∙◌, arith}
use Rattle.hilti_gen.specs.Generator.{capture_of}
use Rattle.hilti_gen.proofs.Captures.{state_more, written, written_more}
use Rattle.hilti_gen.proofs.generator.capture.Goals as goal

pub loop-number-preserved : goal.loop-number-preserved
loop-number-preserved c =
    let before = c.loop-number in
    record {
      next = state_more c.args.seed before.number before.x before.invariant.next c.next_state-x.result c.next_state-x.ensures;
      so_far =
          written_more c.args.seed c.args.flows before.number c.next_state-x.result c.flow_of.result before.blob
          c.push_record_header.new.blob c.push_frame.new.blob before.invariant.so_far
          (c.next_state-x.ensures ∙ sym before.invariant.next) c.flow_of.ensures.value
          c.in_ok-push_record_header.ensures c.in_ok-push_frame.ensures;
    }

pub returns : goal.returns
unfolding capture_of
returns c =
    let all : c.loop-number.number ≡ c.args.packets = omega arith in
    c.loop-number.invariant.so_far ∙ ap (written c.args.seed c.args.flows) all
