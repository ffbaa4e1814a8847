-- How many items, fields, constants, parameters, locals, labels, handlers, lines and operands a
-- module has in all.
use Rattle.std.specs.Prelude.{ℕ, ◌+◌, List, length, sum_by}
use Rattle.hilti_module.specs.declared.module.Item.{Item}
use Rattle.hilti_module.specs.declared.module.Item.TheVariants as items
use Rattle.hilti_module.specs.declared.module.Shape.{Shape}
use Rattle.hilti_module.specs.declared.module.Shape.TheVariants as shapes
use Rattle.hilti_module.specs.declared.module.Body.{Body}
use Rattle.hilti_module.specs.declared.module.Line.{Line}
use Rattle.hilti_module.specs.declared.module.Line.TheVariants as lines
use Rattle.hilti_module.specs.declared.module.Operand.{Operand}
use Rattle.hilti_module.specs.declared.module.Operand.TheVariants as operands

-- an operand is one; in parentheses there are those inside as well
abbrev pub operand_count : Operand → ℕ
operand_count (operands.Simple simple) = 1
operand_count (operands.Group place inside) = 1 + length inside

-- a label and its handlers, or an instruction and its operands
abbrev pub line_count : Line → ℕ
line_count (lines.Label place name handlers) = 1 + length handlers
line_count (lines.Instruction target mnemonic inside) = 1 + sum_by operand_count inside

-- the locals of a body, and its lines with what is in them
abbrev pub body_count : Body → ℕ
body_count body = length body.locals + sum_by line_count body.lines

-- the fields of a struct or an overlay, or the constants of an enum
abbrev pub shape_count : Shape → ℕ
shape_count (shapes.Struct place fields) = length fields
shape_count (shapes.Enum place words) = length words
shape_count (shapes.Overlay place fields) = length fields
shape_count (shapes.Exception place parent) = 0

-- an item and what is in it
abbrev pub item_count : Item → ℕ
item_count (items.Type name shape) = 1 + shape_count shape
item_count (items.Global kind name value) = 1
item_count (items.Hook name parameters) = 1 + length parameters
item_count (items.HookBody name parameters priority body) =
    1 + (length parameters + body_count body)
item_count (items.Function result name parameters body) = 1 + (length parameters + body_count body)

-- all items of a module and what is in them
abbrev pub module_count : List Item → ℕ
module_count items = sum_by item_count items
