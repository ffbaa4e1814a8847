-- What is so of programs that are checked.
use Rattle.std.specs.Prelude.{◌≡◌, ◌≤◌, ◌↔◌, List, None, Ok, IsTrue}
use Rattle.hilti_module.specs.declared.module.Module.{Module}
use Rattle.hilti_link.specs.Linking.{modules_count}
use Rattle.hilti_link.specs.Refusals.{first_refusal}
use Rattle.hilti_parts.specs.declared.parts.Instruction.{Instruction}
use Rattle.hilti_parts.specs.declared.parts.Parts.{Parts}
use Rattle.hilti_code.specs.Runnable.{HasRow, IsTypedProgram}
use Rattle.hilti_check.specs.Built.{is_built}
use Rattle.hilti_check.specs.Checking.{checked}

-- the program that linked modules are is typed, and each of its instructions has a row
abbrev pub CheckedAreTyped : Type 0
CheckedAreTyped =
    (modules : List Module) (parts : Parts) → first_refusal modules ≡ None
    → modules_count modules ≤ 16777216 → checked modules ≡ Ok parts → IsTypedProgram parts

-- an instruction is built just where it has a row and prints what has a text
abbrev pub BuiltIsHasRow : Type 0
BuiltIsHasRow = (i : Instruction) → IsTrue (is_built i) ↔ HasRow i
