use Rattle.std.proofs.Common.{Some}
use Rattle.hilti_operands.specs.Seen.{body_seen}
use Rattle.hilti_bodies.specs.Sections.{section}
use Rattle.hilti_bodies.proofs.Following.{label_stops, instructions_stop, block_is}
use Rattle.hilti_bodies.proofs.blocks.read_block.Goals as goal

pub returns-in-Ok-read_instructions : goal.returns-in-Ok-read_instructions
returns-in-Ok-read_instructions c = λ place.
    block_is (body_seen c.args.body.now) c.args.number (section (Some (record { place = place; name = c.args.label.now; handlers = c.args.handlers.now })) c.args.behind.now c.args.close) _ _
    (c.in-Ok.ensures place) c.in-Ok-read_instructions.ensures

pub returns-in-Err-read_instructions : goal.returns-in-Err-read_instructions
returns-in-Err-read_instructions c = λ place.
    instructions_stop (body_seen c.args.body.now) c.args.number (section (Some (record { place = place; name = c.args.label.now; handlers = c.args.handlers.now })) c.args.behind.now c.args.close) _ _
    (c.in-Ok.ensures place) c.in-Err-read_instructions.ensures

pub returns-in-Err : goal.returns-in-Err
returns-in-Err c = λ place.
    label_stops (body_seen c.args.body.now) c.args.number (section (Some (record { place = place; name = c.args.label.now; handlers = c.args.handlers.now })) c.args.behind.now c.args.close) _ (c.in-Err.ensures place)
