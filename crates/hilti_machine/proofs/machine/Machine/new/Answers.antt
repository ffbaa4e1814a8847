use Rattle.std.proofs.Common.{◌∙◌, ap}
use Rattle.hilti_code.specs.Rows.{rows_of}
use Rattle.hilti_machine.proofs.Coding.{no_code}
use Rattle.hilti_machine.proofs.machine.Machine.new.Goals as goal

pub unreachable-requires : goal.unreachable-requires
unreachable-requires c =
    no_code c.args.program c.in_ok-code.field-0 c.requires.typed
    (c.in_ok-code.ensures ∙ ap rows_of c.parts.ensures.is) c.in_default.is
