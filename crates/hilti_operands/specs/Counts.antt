-- How many operands stand in parentheses, which is looked at before any operand is read.
use Rattle.std.specs.Prelude.{Bool, true, false, ◌&&◌, cond, List, [], ◌∷◌, length}
use Rattle.std.specs.Prelude.{Option, Some, None, Result, Ok, Err}
use Rattle.hilti_base.specs.declared.refusal.Refusal.{Refusal}
use Rattle.hilti_types.specs.declared.value_type.ValueType.{ValueType}
use Rattle.hilti_module.specs.declared.module.Operand.{Operand as Written}
use Rattle.hilti_module.specs.declared.module.Operand.TheVariants as written
use Rattle.hilti_module.specs.declared.module.Simple.{Simple}
use Rattle.hilti_table.specs.declared.row.Family.TheVariants as families
use Rattle.hilti_table.specs.declared.row.Kind.{Kind}
use Rattle.hilti_table.specs.declared.row.Kind.TheVariants as kinds
use Rattle.hilti_table.specs.declared.row.Test.TheVariants as tests
use Rattle.hilti_parts.specs.declared.parts.Operand.{Operand}
use Rattle.hilti_typing.specs.Context.{Known}
use Rattle.hilti_typing.specs.Fits.{learn}
use Rattle.hilti_operands.specs.Groups.{member_types, is_counted}
use Rattle.hilti_operands.specs.Operands.{read_operand}
use Rattle.hilti_operands.specs.Seen.{LineSeen, setting}

-- a function and a hook tell by their parameters, and a classifier by its rules, how many operands
-- stand in the parentheses behind them
abbrev pub tells_count : Kind → Bool
tells_count (kinds.Function which) = true
tells_count kinds.Hook = true
tells_count (kinds.Own (tests.Object families.Classifier)) = true
tells_count _ = false

-- what an operand tells, where it can be read
abbrev pub known_behind : LineSeen → Kind → Result Operand Refusal → Known
known_behind line kind (Ok x) = learn (setting line) kind Known.Nothing x
known_behind line kind (Err refusal) = Known.Nothing

abbrev pub count_told : LineSeen → Kind → Written → Known
count_told line kind x =
    cond (tells_count kind) (known_behind line kind (read_operand line kind Known.Nothing x))
    Known.Nothing

-- operands in parentheses have the number that is told, if one is
abbrev pub is_as_told : Kind → List Simple → Option (List ValueType) → Bool
is_as_told kind items None = true
is_as_told kind items (Some asked) = is_counted kind (length asked) (length items)

abbrev pub is_group_counted : LineSeen → Kind → Known → Written → Bool
is_group_counted line kind known (written.Simple x) = true
is_group_counted line kind known (written.Group place items) =
    is_as_told kind items (member_types line kind known)

-- whether all operands in parentheses have the numbers that the operands right before them tell
unfoldable pub are_counted : LineSeen → List Kind → Known → List Written → Bool
are_counted line [] known items = true
are_counted line (kind ∷ others) known [] = true
are_counted line (kind ∷ others) known (x ∷ more) =
    is_group_counted line kind known x && are_counted line others (count_told line kind x) more
