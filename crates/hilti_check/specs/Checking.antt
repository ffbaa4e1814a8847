-- The program that linked modules are, or their first refusal.
use Rattle.std.specs.Prelude.{List, [], Option, Some, None, Result, Ok}
use Rattle.hilti_base.specs.declared.refusal.Refusal.{Refusal}
use Rattle.hilti_module.specs.declared.types.Name.{Name}
use Rattle.hilti_module.specs.declared.module.Module.{Module}
use Rattle.hilti_scope.specs.declared.meaning.Meaning.{Meaning}
use Rattle.hilti_scope.specs.Meanings.{meaning_in}
use Rattle.hilti_link.specs.declared.tables.LinkedFunction.{LinkedFunction}
use Rattle.hilti_link.specs.declared.tables.Site.{Site}
use Rattle.hilti_link.specs.declared.tables.Tables.{Tables}
use Rattle.hilti_link.specs.Items.{slots_of}
use Rattle.hilti_link.specs.Linking.{tables_of}
use Rattle.hilti_link.specs.TypedWords.{names_of}
use Rattle.hilti_parts.specs.declared.parts.Block.{Block}
use Rattle.hilti_parts.specs.declared.parts.Parts.{Parts}
use Rattle.hilti_operands.specs.Answers.{then_read}
use Rattle.hilti_bodies.specs.Blocks.{read_body, read_each}
use Rattle.hilti_declared.specs.Declaring.{declared_parts}
use Rattle.hilti_declared.specs.Sites.{Bodied, bodied_at, number_at}
use Rattle.hilti_check.specs.Built.{unless_unbuilt}

-- what names mean in a body with these parameters
abbrev pub meaning_inside : List Module → Site → Bodied → Name → Meaning
meaning_inside modules site b =
    meaning_in modules site.file (number_at modules site) (names_of (slots_of b.parameters b.body))

-- the blocks of a function or a hook body, by what it is written as
abbrev pub blocks_by :
    List Module → Tables → LinkedFunction → Option Bodied → Result (List Block) Refusal
blocks_by modules tables f None = Ok []
blocks_by modules tables f (Some b) =
    read_body (meaning_inside modules f.site b) tables f b.body

abbrev pub blocks_of : List Module → Tables → LinkedFunction → Result (List Block) Refusal
blocks_of modules tables f = blocks_by modules tables f (bodied_at modules f.site)

-- the blocks of all functions and hook bodies in textual order, or the first refusal
abbrev pub all_blocks : List Module → Tables → Result (List (List Block)) Refusal
all_blocks modules tables = read_each (blocks_of modules tables) tables.functions

-- the parts of the program that modules are, or their first refusal; behind all others the first
-- instruction that isn't built is refused
unfoldable pub checked : List Module → Result Parts Refusal
checked modules =
    let tables = tables_of modules in
    then_read (all_blocks modules tables) (λ (blocks : List (List Block)).
    unless_unbuilt modules tables.functions blocks (declared_parts modules blocks))
