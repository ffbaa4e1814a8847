-- What the blocks of a body stand for.
use Rattle.std.specs.Prelude.{ℕ, suc, nat_eq, Bool, true, false, cond, List, [], ◌∷◌, length}
use Rattle.std.specs.Prelude.{Option, Some, None, Result, Ok}
use Rattle.hilti_base.specs.declared.names.Place.{Place}
use Rattle.hilti_base.specs.declared.refusal.Refusal.{Refusal}
use Rattle.hilti_module.specs.declared.types.Name.{Name}
use Rattle.hilti_module.specs.declared.module.Body.{Body}
use Rattle.hilti_scope.specs.declared.meaning.Meaning.{Meaning}
use Rattle.hilti_link.specs.declared.tables.LinkedFunction.{LinkedFunction}
use Rattle.hilti_link.specs.declared.tables.Tables.{Tables}
use Rattle.hilti_parts.specs.declared.parts.Block.{Block}
use Rattle.hilti_parts.specs.declared.parts.Handler.{Handler}
use Rattle.hilti_parts.specs.declared.parts.Instruction.{Instruction}
use Rattle.hilti_typing.specs.Programs.{is_ending}
use Rattle.hilti_operands.specs.Answers.{then_read, refused}
use Rattle.hilti_operands.specs.Seen.{BodySeen}
use Rattle.hilti_lines.specs.Lines.{read_line}
use Rattle.hilti_bodies.specs.Handlers.{read_handler}
use Rattle.hilti_bodies.specs.Sections.{Written, Label, Section, sections, block_of}

-- each of some things, in order
unfoldable pub read_each :
    {A B : Type 0} → (A → Result B Refusal) → List A → Result (List B) Refusal
read_each read [] = Ok []
read_each {B = B} read (x ∷ more) =
    then_read (read x) (λ (first : B). then_read (read_each read more)
    (λ (others : List B). Ok (first ∷ others)))

unfoldable pub read_written : BodySeen → Written → Result Instruction Refusal
read_written body x = read_line body x.target x.mnemonic x.operands

-- behind an ending instruction comes no other
abbrev pub none_behind : List Written → Result (List Instruction) Refusal
none_behind [] = Ok []
none_behind (x ∷ more) = refused x.mnemonic.first.place 34

-- the instructions of a block, in front of this place; the last one is an ending one
unfoldable pub read_instructions :
    BodySeen → List Written → Place → Result (List Instruction) Refusal
read_instructions body [] behind = refused behind 33
read_instructions body (x ∷ more) behind =
    then_read (read_written body x) (λ (first : Instruction). then_read
    (cond (is_ending first) (none_behind more) (read_instructions body more behind))
    (λ (others : List Instruction). Ok (first ∷ others)))

-- so many instructions, where no more come in front of this place
abbrev pub ended_block :
    Bool → List Instruction → Place → Result (List Instruction) Refusal
ended_block true instructions behind = Ok instructions
ended_block false instructions behind = refused behind 33

-- the handlers of the label of a block: no label in front of it has its name
abbrev pub is_block : ℕ → Option ℕ → Bool
is_block number None = false
is_block number (Some n) = nat_eq n number

abbrev pub read_label : BodySeen → ℕ → Option Label → Result (List Handler) Refusal
read_label body number None = Ok []
read_label body number (Some label) =
    cond (is_block number (body.label label.name.bytes))
    (read_each (read_handler body) label.handlers) (refused label.name.place 20)

-- the block of a number
abbrev pub read_block : BodySeen → ℕ → Section → Result Block Refusal
read_block body number block =
    then_read (read_label body number block.label) (λ (handlers : List Handler). then_read
    (read_instructions body block.instructions block.behind)
    (λ (instructions : List Instruction).
    Ok (record { handlers = handlers; instructions = instructions })))

-- blocks, numbered from this number on
unfoldable pub read_blocks : BodySeen → ℕ → List Section → Result (List Block) Refusal
read_blocks body number [] = Ok []
read_blocks body number (block ∷ more) =
    then_read (read_block body number block) (λ (first : Block). then_read
    (read_blocks body (suc number) more) (λ (others : List Block). Ok (first ∷ others)))

-- what the lines of a function or a hook body see, where names mean this
abbrev pub seen_in :
    (Name → Meaning) → Tables → LinkedFunction → List Section → BodySeen
seen_in mean tables function blocks = record {
  mean = mean;
  tables = tables;
  function = function;
  label = block_of blocks;
  blocks = length blocks;
}

-- the blocks of a body, or its first refusal in textual order
unfoldable pub read_body :
    (Name → Meaning) → Tables → LinkedFunction → Body → Result (List Block) Refusal
read_body mean tables function body =
    let blocks = sections body.lines body.close in
    read_blocks (seen_in mean tables function blocks) 0 blocks
