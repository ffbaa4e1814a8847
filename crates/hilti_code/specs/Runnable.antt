-- Programs that can run: typed, and each instruction has a row.
use Rattle.std.specs.Prelude.{Bool, true, false, IsTrue, IsSome, IfSome}
use Rattle.std.specs.List.{All, AllByRecursion}
use Rattle.hilti_types.specs.declared.value_type.ValueType.{ValueType}
use Rattle.hilti_types.specs.declared.value_type.ValueType.TheVariants as types
use Rattle.hilti_parts.specs.declared.parts.Block.{Block}
use Rattle.hilti_parts.specs.declared.parts.Function.{Function}
use Rattle.hilti_parts.specs.declared.parts.Instruction.{Instruction}
use Rattle.hilti_parts.specs.declared.parts.Parts.{Parts}
use Rattle.hilti_typing.specs.Programs.{AreTyped}
use Rattle.hilti_rows.specs.declared.row.Printed.{Printed}
use Rattle.hilti_rows.specs.declared.row.Row.{Row}
use Rattle.hilti_rows.specs.declared.row.Row.TheVariants as rows
use Rattle.hilti_rows.specs.Resolving.{row_of}

-- the types that `print` has texts for so far
abbrev pub has_text : ValueType → Bool
has_text types.Bool = true
has_text (types.Int bits) = true
has_text types.Text = true
has_text types.Bytes = true
has_text types.Time = true
has_text _ = false

-- what a row prints has a text
abbrev pub PrintsTexts : Row → Type 0
PrintsTexts (rows.Print items) =
    AllByRecursion (λ (item : Printed). IsTrue (has_text item.kind)) items
PrintsTexts _ = Unit {0}

-- an instruction has a row, and prints what has a text
pub record HasRow (i : Instruction) : Type 0 where
  pub some : IsSome (row_of i)
  pub prints : IfSome (row_of i) PrintsTexts

-- each instruction of a function has a row
abbrev pub IsRunnable : Function → Type 0
IsRunnable f = All (λ (b : Block). All HasRow b.instructions) f.blocks

-- a typed program of runnable functions
pub record IsTypedProgram (parts : Parts) : Type 0 where
  pub typed : AreTyped parts
  pub runnable : All IsRunnable parts.functions
