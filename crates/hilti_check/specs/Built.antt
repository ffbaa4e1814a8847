-- Which instructions are built, and where the first one stands that isn't.
use Rattle.std.specs.Prelude.{Bool, true, false, not, List, [], ◌∷◌, ◌++◌, drop, find}
use Rattle.std.specs.Prelude.{Option, Some, None, Result, Ok, Err}
use Rattle.std.specs.List.{list_all, flat_map, zip}
use Rattle.std.specs.Option.{option_map}
use Rattle.hilti_base.specs.declared.names.Place.{Place}
use Rattle.hilti_base.specs.declared.refusal.Refusal.{Refusal}
use Rattle.hilti_base.specs.declared.refusal.Refusal.TheVariants.{At}
use Rattle.hilti_module.specs.declared.module.Line.{Line}
use Rattle.hilti_module.specs.declared.module.Line.TheVariants as lines
use Rattle.hilti_module.specs.declared.module.Module.{Module}
use Rattle.hilti_link.specs.declared.tables.LinkedFunction.{LinkedFunction}
use Rattle.hilti_link.specs.declared.tables.Tables.{Tables}
use Rattle.hilti_parts.specs.declared.parts.Block.{Block}
use Rattle.hilti_parts.specs.declared.parts.Instruction.{Instruction}
use Rattle.hilti_parts.specs.declared.parts.Parts.{Parts}
use Rattle.hilti_rows.specs.declared.row.Printed.{Printed}
use Rattle.hilti_rows.specs.declared.row.Row.{Row}
use Rattle.hilti_rows.specs.declared.row.Row.TheVariants as rows
use Rattle.hilti_rows.specs.Resolving.{row_of}
use Rattle.hilti_code.specs.Runnable.{has_text}
use Rattle.hilti_declared.specs.Sites.{Bodied, bodied_at}
use Rattle.hilti_declared.specs.Turns.{first_or_none}

-- whether each value that a row prints has a text
abbrev pub prints_texts : Row → Bool
prints_texts (rows.Print items) = list_all (λ (item : Printed). has_text item.kind) items
prints_texts _ = true

-- whether an instruction has a row, and prints what has a text
abbrev pub has_built : Option Row → Bool
has_built None = false
has_built (Some row) = prints_texts row

abbrev pub is_built : Instruction → Bool
is_built i = has_built (row_of i)

-- the places of the mnemonics of a body, in order
abbrev pub mnemonic_place : Line → List Place
mnemonic_place (lines.Instruction target mnemonic operands) = mnemonic.first.place ∷ []
mnemonic_place _ = []

abbrev pub mnemonic_places : Option Bodied → List Place
mnemonic_places None = []
mnemonic_places (Some b) = flat_map mnemonic_place b.body.lines

-- the instructions of blocks, in order
abbrev pub instructions_of : List Block → List Instruction
instructions_of = flat_map (λ (block : Block). block.instructions)

-- the instructions of a body, each with its place
abbrev pub placed_in : List Module → LinkedFunction → List Block → List (Place × Instruction)
placed_in modules f blocks =
    zip (mnemonic_places (bodied_at modules f.site)) (instructions_of blocks)

-- those of all functions and hook bodies with the blocks of each in turn
unfoldable pub all_placed :
    List Module → List LinkedFunction → List (List Block) → List (Place × Instruction)
all_placed modules [] blocks = []
all_placed modules (f ∷ more) blocks =
    placed_in modules f (first_or_none blocks) ++ all_placed modules more (drop 1 blocks)

-- the place of the first instruction that isn't built
abbrev pub is_unbuilt : Place × Instruction → Bool
is_unbuilt x = not (is_built x.1)

-- the place of the first of some that isn't
abbrev pub unbuilt_place : List (Place × Instruction) → Option Place
unbuilt_place items = option_map (λ (x : Place × Instruction). x.0) (find is_unbuilt items)

-- the place of the first of all functions and hook bodies that isn't
abbrev pub first_unbuilt : List Module → Tables → List (List Block) → Option Place
first_unbuilt modules tables blocks = unbuilt_place (all_placed modules tables.functions blocks)

-- parts, unless some instruction isn't built: the first such is refused at its mnemonic
abbrev pub parts_or : Parts → Option (Place × Instruction) → Result Parts Refusal
parts_or parts None = Ok parts
parts_or parts (Some x) = Err (At x.0 60)

abbrev pub unless_unbuilt :
    List Module → List LinkedFunction → List (List Block) → Parts → Result Parts Refusal
unless_unbuilt modules functions blocks parts =
    parts_or parts (find is_unbuilt (all_placed modules functions blocks))
