-- What a written operand stands for where a kind is asked.
use Rattle.std.specs.Prelude.{Result}
use Rattle.hilti_base.specs.declared.refusal.Refusal.{Refusal}
use Rattle.hilti_module.specs.declared.module.Operand.{Operand as Written}
use Rattle.hilti_module.specs.declared.module.Operand.TheVariants as written
use Rattle.hilti_module.specs.declared.module.Simple.{Simple}
use Rattle.hilti_table.specs.declared.row.Kind.{Kind}
use Rattle.hilti_table.specs.declared.row.Kind.TheVariants as kinds
use Rattle.hilti_parts.specs.declared.parts.Operand.{Operand}
use Rattle.hilti_typing.specs.Context.{Known}
use Rattle.hilti_operands.specs.Groups.{read_group}
use Rattle.hilti_operands.specs.Names.{read_named, function_meant, hook_meant, exception_meant}
use Rattle.hilti_operands.specs.Names.{overlay_meant, read_new, read_label, read_word, mode_meant}
use Rattle.hilti_operands.specs.Names.{read_field, read_overlay_field, read_index}
use Rattle.hilti_operands.specs.Seen.{LineSeen}
use Rattle.hilti_operands.specs.Values.{read_asked, asked_type, read_tested, read_returned}

-- an operand without parentheses
abbrev pub read_simple : LineSeen → Kind → Known → Simple → Result Operand Refusal
read_simple line (kinds.Own test) known x = read_tested line test x
read_simple line kinds.Returned known x = read_returned line line.body.function.result x
read_simple line (kinds.Function which) known x =
    read_named line.body (function_meant line.body which) x
read_simple line kinds.Hook known x = read_named line.body (hook_meant line.body) x
read_simple line kinds.Exception known x = read_named line.body (exception_meant line.body) x
read_simple line kinds.Overlay known x = read_named line.body (overlay_meant line.body) x
read_simple line kinds.New known x = read_new line.body x
read_simple line kinds.Label known x = read_label line.body x
read_simple line kinds.Mode known x = read_word line.body mode_meant x
read_simple line kinds.Index known x = read_index line.body known x
read_simple line kinds.Field known x = read_field line.body known x
read_simple line kinds.OverlayField known x = read_overlay_field line.body known x
read_simple line kind known x = read_asked line.body (asked_type line kind known) x

-- an operand of a line where a kind is asked, behind what is known
abbrev pub read_operand : LineSeen → Kind → Known → Written → Result Operand Refusal
read_operand line kind known (written.Simple x) = read_simple line kind known x
read_operand line kind known (written.Group place items) = read_group line kind known place items
