use Rattle.std.proofs.Common.{◌≡◌, drop}
use Rattle.hilti_operands.specs.Seen.{body_seen}
use Rattle.hilti_bodies.specs.Blocks.{read_each}
use Rattle.hilti_bodies.specs.Handlers.{read_handler}
use Rattle.hilti_bodies.proofs.Following.{behind}
use Rattle.hilti_bodies.proofs.handlers.read_handlers.Given as goal

-- the handlers so far, and what is left, are all
abbrev pub invariant-loop-handler : goal.invariant-loop-handler
invariant-loop-handler l =
    let read = read_handler (body_seen l.body) in
    read_each read l.handlers ≡ behind l.read (read_each read (drop l.handler-index l.handlers))
