-- The examples are computed.
use Rattle.std.proofs.Common.{refl}
use denote.Hole.Carrier
use Rattle.hilti_types.specs.declared.value_type.ValueType as type_view
use Rattle.hilti_table.specs.Mnemonics.{named}
use Rattle.hilti_row_types.specs.Same.{same_type, same_code}
use Rattle.hilti_operands.specs.Counts.{are_counted}
use Rattle.hilti_operands.specs.Lines.{read_all, first_variable}
use Rattle.hilti_operands.specs.Groups.{read_members}
use Rattle.hilti_lines.specs.Examples.{RefusedLines, ReadLine}

pub refused_lines : RefusedLines
unfolding named read_all first_variable are_counted read_members same_type same_code type_view.out-ValueType denote.Hole.Carrier.out
refused_lines = record {
  other_mnemonic = refl;
  unknown_name = refl;
  other_kind = refl;
  too_wide = refl;
  too_few = refl;
  counted_first = refl;
  result_of_void = refl;
  no_result = refl;
  no_hook = refl;
  no_target = refl;
  other_target = refl;
  needless_target = refl;
  unknown_target = refl;
}

pub read_line_is : ReadLine
unfolding named read_all first_variable are_counted read_members same_type same_code type_view.out-ValueType denote.Hole.Carrier.out
read_line_is = record {
  added = refl;
  added_exactly = refl;
  masked = refl;
}
