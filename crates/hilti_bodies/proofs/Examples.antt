-- The examples are computed.
use Rattle.std.proofs.Common.{refl}
use Rattle.hilti_table.specs.Mnemonics.{named}
use Rattle.hilti_operands.specs.Counts.{are_counted}
use Rattle.hilti_operands.specs.Lines.{read_all, first_variable}
use Rattle.hilti_bodies.specs.Blocks.{read_each, read_written, read_instructions, read_blocks}
use Rattle.hilti_bodies.specs.Blocks.{read_body}
use Rattle.hilti_bodies.specs.Examples.{RefusedBodies}
use Rattle.hilti_bodies.specs.Sections.{leading, first_label, labelled}

pub refused : RefusedBodies
unfolding read_body read_blocks read_instructions read_written read_each leading first_label labelled named read_all first_variable are_counted
refused = record {
  nothing = refl;
  no_end = refl;
  behind_end = refl;
  label_twice = refl;
  unknown_exception = refl;
  other_exception = refl;
  other_label = refl;
  unknown_slot = refl;
  parameter_as_slot = refl;
  other_slot = refl;
}
