-- The rows of the instructions of a program, by function, block and place.
use Rattle.std.specs.Prelude.{◌≡◌, List, Option, Some, slice_get}
use Rattle.std.specs.Option.{option_and_then}
use Rattle.hilti_parts.specs.declared.parts.Block.{Block}
use Rattle.hilti_parts.specs.declared.parts.Function.{Function}
use Rattle.hilti_parts.specs.declared.parts.Instruction.{Instruction}
use Rattle.hilti_parts.specs.declared.parts.Parts.{Parts}
use Rattle.hilti_rows.specs.Resolving.{row_of}
use Rattle.hilti_rows.specs.Sources.{each_of}
use Rattle.hilti_rows.specs.declared.row.Row.{Row}
use Rattle.hilti_stack.specs.declared.head.Position.{Position}

abbrev pub Rows : Type 0
Rows = List (List (List Row))

-- those of a block and of a function, where each instruction has one
abbrev pub block_rows : Block → Option (List Row)
block_rows block = each_of row_of block.instructions

abbrev pub function_rows : Function → Option (List (List Row))
function_rows function = each_of block_rows function.blocks

-- those of all functions, where each instruction has one
abbrev pub rows_of : Parts → Option Rows
rows_of parts = each_of function_rows parts.functions

-- the row at a place
abbrev pub row_in : Rows → Position → Option Row
row_in rows p =
    option_and_then (λ (block : List Row). slice_get block p.at)
    (option_and_then (λ (blocks : List (List Row)). slice_get blocks p.block)
    (slice_get rows p.function.n))

-- the instruction at a place
abbrev pub instruction_at : Parts → Position → Option Instruction
instruction_at parts p =
    option_and_then (λ (block : Block). slice_get block.instructions p.at)
    (option_and_then (λ (function : Function). slice_get function.blocks p.block)
    (slice_get parts.functions p.function.n))

-- Where all instructions have rows, at each place stands the row of the instruction there, and
-- nothing where there is no instruction.
abbrev pub StandsAtEachPlace : Type 0
StandsAtEachPlace =
    (parts : Parts) (rows : Rows) → rows_of parts ≡ Some rows →
    (p : Position) → row_in rows p ≡ option_and_then row_of (instruction_at parts p)
