-- What is so of the lines of a body that are read.
use Rattle.std.specs.Prelude.{◌≡◌, List, Option, Ok}
use Rattle.std.specs.List.{All}
use Rattle.hilti_module.specs.declared.module.Mnemonic.{Mnemonic}
use Rattle.hilti_module.specs.declared.module.Operand.{Operand as Written}
use Rattle.hilti_module.specs.declared.types.Name.{Name}
use Rattle.hilti_parts.specs.declared.parts.Instruction.{Instruction}
use Rattle.hilti_typing.specs.Programs.{IsTypedInstruction}
use Rattle.hilti_operands.specs.Laws.{NamesNoBody}
use Rattle.hilti_operands.specs.Seen.{BodySeen, context}
use Rattle.hilti_lines.specs.Lines.{read_line}

-- a line that is read is typed in its body
abbrev pub ReadsTypedLines : Type 0
ReadsTypedLines =
    (body : BodySeen) (target : Option Name) (mnemonic : Mnemonic) (items : List Written)
    (i : Instruction)
    → read_line body target mnemonic items ≡ Ok i → IsTypedInstruction (context body) i

-- and none of its operands names a hook body
abbrev pub NamesNoBodies : Type 0
NamesNoBodies =
    (body : BodySeen) (target : Option Name) (mnemonic : Mnemonic) (items : List Written)
    (i : Instruction)
    → read_line body target mnemonic items ≡ Ok i → All (NamesNoBody body.tables) i.operands
