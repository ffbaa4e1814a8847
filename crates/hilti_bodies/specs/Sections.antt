-- A body as it is written: its blocks, cut at its labels.
use Rattle.std.specs.Prelude.{ℕ, Bool, true, false, cond, List, [], ◌∷◌, ◌++◌, bytes_eq}
use Rattle.std.specs.Prelude.{Option, Some, None}
use Rattle.std.specs.List.{position}
use Rattle.hilti_base.specs.declared.names.Place.{Place}
use Rattle.hilti_module.specs.declared.types.Name.{Name}
use Rattle.hilti_module.specs.declared.types.Word.{Word}
use Rattle.hilti_module.specs.declared.module.Handler.{Handler}
use Rattle.hilti_module.specs.declared.module.Line.{Line}
use Rattle.hilti_module.specs.declared.module.Line.TheVariants as lines
use Rattle.hilti_module.specs.declared.module.Mnemonic.{Mnemonic}
use Rattle.hilti_module.specs.declared.module.Operand.{Operand}

-- an instruction as it is written
pub record Written : Type 0 where
  pub target : Option Name
  pub mnemonic : Mnemonic
  pub operands : List Operand

-- a label as it is written, with the place of its `@`
pub record Label : Type 0 where
  pub place : Place
  pub name : Word
  pub handlers : List Handler

-- a block as it is written: its label, which only the first of a body may lack, its instructions,
-- and the place behind them: that of the next label, or of the closing brace
pub record Section : Type 0 where
  pub label : Option Label
  pub instructions : List Written
  pub behind : Place

-- the instructions in front of the first label
unfoldable pub leading : List Line → List Written
leading [] = []
leading (lines.Label place name handlers ∷ more) = []
leading (lines.Instruction target mnemonic operands ∷ more) =
    (record { target = target; mnemonic = mnemonic; operands = operands }) ∷ leading more

-- the place of the first label, else of the closing brace
unfoldable pub first_label : List Line → Place → Place
first_label [] close = close
first_label (lines.Label place name handlers ∷ more) close = place
first_label (lines.Instruction target mnemonic operands ∷ more) close = first_label more close

-- the block behind whose label these lines stand
abbrev pub section : Option Label → List Line → Place → Section
section label more close =
    record { label = label; instructions = leading more; behind = first_label more close }

abbrev pub begins_with_label : List Line → Bool
begins_with_label (lines.Label place name handlers ∷ more) = true
begins_with_label _ = false

-- the block without a label, which is there where a body begins with none
abbrev pub unlabelled : List Line → Place → List Section
unlabelled body close = cond (begins_with_label body) [] (section None body close ∷ [])

-- the blocks that begin with a label
unfoldable pub labelled : List Line → Place → List Section
labelled [] close = []
labelled (lines.Label place name handlers ∷ more) close =
    section (Some (record { place = place; name = name; handlers = handlers })) more close
    ∷ labelled more close
labelled (lines.Instruction target mnemonic operands ∷ more) close = labelled more close

-- all blocks of a body
abbrev pub sections : List Line → Place → List Section
sections body close = unlabelled body close ++ labelled body close

-- the number of the first block of a name
abbrev pub is_label : List ℕ → Option Label → Bool
is_label word None = false
is_label word (Some label) = bytes_eq label.name.bytes word

abbrev pub is_named : List ℕ → Section → Bool
is_named word block = is_label word block.label

abbrev pub block_of : List Section → List ℕ → Option ℕ
block_of blocks word = position (is_named word) blocks
