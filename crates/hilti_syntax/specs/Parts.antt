-- What stands behind the first words of lines and hooks, by whole lines and items.
use Rattle.std.specs.Prelude.{Option, Some, None}
use Rattle.hilti_grammar.specs.Grammar.{Tree.Nothing, Tree.Right}
use Rattle.hilti_module.specs.declared.module.Item.{Item}
use Rattle.hilti_module.specs.declared.module.Item.TheVariants as items
use Rattle.hilti_module.specs.declared.types.Number.{Number}
use Rattle.hilti_module.specs.declared.module.Line.{Line}
use Rattle.hilti_module.specs.declared.module.Line.TheVariants as lines
use Rattle.hilti_reader.specs.Spelled.{ModuleTree}
use Rattle.hilti_syntax.specs.Items.{behind_hook, hook_tree, instruction_tree, behind_first_word, behind_target, declared_hook}
use Rattle.hilti_syntax.specs.declared.read_instructions.Instruction.{Instruction}
use Rattle.hilti_module.specs.declared.module.Body.{Body}

-- what stands behind the first word of a line, where it isn't reserved
abbrev pub behind_word_of : Line → ModuleTree
behind_word_of (lines.Label place name handlers) = Nothing
behind_word_of (lines.Instruction None mnemonic inside) =
    Right (Right (behind_first_word mnemonic inside))
behind_word_of (lines.Instruction (Some target) mnemonic inside) =
    behind_target target.second (instruction_tree mnemonic inside)

-- what stands behind the first word of a hook
abbrev pub behind_hook_word : Item → ModuleTree
behind_hook_word (items.Hook name parameters) = declared_hook parameters
behind_hook_word (items.HookBody name parameters priority body) =
    behind_hook name.second parameters (hook_tree priority body)
behind_hook_word _ = Nothing

-- instructions, whole and behind their first words
abbrev pub whole_tree : Instruction → ModuleTree
whole_tree instruction = instruction_tree instruction.mnemonic instruction.operands

abbrev pub rest_tree : Instruction → ModuleTree
rest_tree instruction = behind_first_word instruction.mnemonic instruction.operands

-- the priority and the body of a hook
abbrev pub found_hook : Option Number × Body → ModuleTree
found_hook hook = hook_tree hook.0 hook.1
