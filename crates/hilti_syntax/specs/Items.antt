-- The trees of modules and of what is in them: each by the shape of its rule in the grammar.
use Rattle.std.specs.Prelude.{Bool, false, cond, List, map, Option, Some, None}
use Rattle.hilti_grammar.specs.Grammar.{Symbol.Rule, Tree.Nothing, Tree.Pair, Tree.Left, Tree.Right, has}
use Rattle.hilti_grammar.specs.Derives.{Derives}
use Rattle.hilti_grammar.specs.Reads.{list_tree}
use Rattle.hilti_kinds.specs.declared.kind.Kind.TheVariants as kinds
use Rattle.hilti_kinds.specs.declared.piece.Piece.{Piece}
use Rattle.hilti_module.specs.declared.types.Word.{Word}
use Rattle.hilti_module.specs.declared.types.Number.{Number}
use Rattle.hilti_module.specs.declared.types.TypeText.{TypeText}
use Rattle.hilti_module.specs.declared.module.Module.{Module}
use Rattle.hilti_module.specs.declared.module.Item.{Item}
use Rattle.hilti_module.specs.declared.module.Item.TheVariants as items
use Rattle.hilti_module.specs.declared.module.Parameter.{Parameter}
use Rattle.hilti_module.specs.declared.module.Body.{Body}
use Rattle.hilti_module.specs.declared.module.Line.{Line}
use Rattle.hilti_module.specs.declared.module.Line.TheVariants as lines
use Rattle.hilti_module.specs.declared.module.Handler.{Handler}
use Rattle.hilti_module.specs.declared.module.Mnemonic.{Mnemonic}
use Rattle.hilti_module.specs.declared.module.Operand.{Operand}
use Rattle.hilti_reader.specs.Modules.{RuleName.ModuleText as a_module, grammar, reserved_words}
use Rattle.hilti_reader.specs.Spelled.{ModuleTree, keyword_at, marked_at, word_tree, behind_mark, maybe_tree, name_tree, maybe_word, word_kind, maybe_number}
use Rattle.hilti_read_types.specs.Trees.{type_tree}
use Rattle.hilti_read_shapes.specs.Shapes.{parameter_tree, arguments_tree, shape_tree}
use Rattle.hilti_read_literals.specs.Literals.{literal_tree}
use Rattle.hilti_read_operands.specs.Operands.{operands_tree}
use Rattle.hilti_base.specs.declared.names.Place.{Place}
use Rattle.hilti_module.specs.declared.module.Literal.{Literal}

-- the second word of a mnemonic, the operands and the end of the line
abbrev pub behind_first_word : Mnemonic → List Operand → ModuleTree
behind_first_word mnemonic inside =
    Pair (maybe_word mnemonic.second) (Pair (operands_tree false inside) Nothing)

abbrev pub instruction_tree : Mnemonic → List Operand → ModuleTree
instruction_tree mnemonic inside =
    Pair (word_tree mnemonic.first) (behind_first_word mnemonic inside)

-- whether a word is reserved
abbrev pub is_reserved : Word → Bool
is_reserved word = has grammar reserved_words (word_kind word)

-- what stands behind the first word of a target
abbrev pub behind_target : Option Word → ModuleTree → ModuleTree
behind_target None instruction = Right (Left (behind_mark instruction))
behind_target (Some second) instruction =
    Left (behind_mark (Pair (word_tree second) (behind_mark instruction)))

abbrev pub handler_tree : Handler → ModuleTree
handler_tree handler =
    Pair (keyword_at handler.place kinds.Catch) (Pair (name_tree handler.exception)
    (behind_mark (Pair (word_tree handler.target) (word_tree handler.slot))))

abbrev pub handlers_tree : List Handler → ModuleTree
handlers_tree handlers = list_tree (map handler_tree handlers)

-- a label with its handlers, up to the end of its line
abbrev pub label_tree : Place × Word × List Handler → ModuleTree
label_tree label =
    Pair (marked_at label.0 64) (Pair (word_tree label.1)
    (Pair (handlers_tree label.2) (behind_mark Nothing)))

-- a line that begins with a word that isn't reserved, and what stands behind that word
abbrev pub worded_tree : Word → ModuleTree → ModuleTree
worded_tree first behind = Right (Right (Pair (word_tree first) behind))

abbrev pub line_tree : Line → ModuleTree
line_tree (lines.Label place name handlers) = Left (label_tree (place, name, handlers))
line_tree (lines.Instruction None mnemonic inside) =
    cond (is_reserved mnemonic.first) (Right (Left (instruction_tree mnemonic inside)))
    (worded_tree mnemonic.first (Right (Right (behind_first_word mnemonic inside))))
line_tree (lines.Instruction (Some target) mnemonic inside) =
    worded_tree target.first (behind_target target.second (instruction_tree mnemonic inside))

abbrev pub lines_tree : List Line → ModuleTree
lines_tree lines = list_tree (map line_tree lines)

abbrev pub local_tree : Parameter → ModuleTree
local_tree parameter = behind_mark (Pair (parameter_tree parameter) Nothing)

abbrev pub locals_tree : List Parameter → ModuleTree
locals_tree locals = list_tree (map local_tree locals)

abbrev pub body_tree : Body → ModuleTree
body_tree body =
    behind_mark (behind_mark (Pair (locals_tree body.locals) (Pair (lines_tree body.lines)
    (Pair (marked_at body.close 125) Nothing))))

-- the version of a module, where it is written
abbrev pub version_tree : Option Number → ModuleTree
version_tree = maybe_number

-- the priority and the body of a hook
abbrev pub priority_tree : Option Number → ModuleTree
priority_tree = maybe_number

abbrev pub hook_tree : Option Number → Body → ModuleTree
hook_tree priority body = Pair (priority_tree priority) (body_tree body)

-- what stands behind the first word of a hook's body
abbrev pub behind_hook : Option Word → List Parameter → ModuleTree → ModuleTree
behind_hook None parameters body = Right (Pair (arguments_tree parameters) (Right body))
behind_hook (Some second) parameters body =
    Left (behind_mark (Pair (word_tree second) (Pair (arguments_tree parameters) body)))

-- and behind that of a hook without a body
abbrev pub declared_hook : List Parameter → ModuleTree
declared_hook parameters = Right (Pair (arguments_tree parameters) (Left Nothing))

-- a hook, by its first word and what stands behind it
abbrev pub hook_item : Word → ModuleTree → ModuleTree
hook_item first behind = Right (Right (Left (behind_mark (Pair (word_tree first) behind))))

-- a result, or `void`
abbrev pub result_tree : Option TypeText → ModuleTree
result_tree None = Left Nothing
result_tree (Some type) = Right (type_tree type)

-- the value of a global
abbrev pub value_tree : Option Literal → ModuleTree
value_tree = maybe_tree (λ literal. behind_mark (literal_tree literal))

abbrev pub item_tree : Item → ModuleTree
item_tree (items.Type name shape) =
    Left (behind_mark (Pair (word_tree name) (behind_mark (Pair (shape_tree shape) Nothing))))
item_tree (items.Global kind name value) =
    Right (Left (behind_mark (Pair (Pair (type_tree kind) (word_tree name))
    (Pair (value_tree value) Nothing))))
item_tree (items.Hook name parameters) = hook_item name (declared_hook parameters)
item_tree (items.HookBody name parameters priority body) =
    hook_item name.first (behind_hook name.second parameters (hook_tree priority body))
item_tree (items.Function result name parameters body) =
    Right (Right (Right (Pair (result_tree result)
    (Pair (word_tree name) (Pair (arguments_tree parameters) (body_tree body))))))

abbrev pub items_tree : List Item → ModuleTree
items_tree items = list_tree (map item_tree items)

abbrev pub module_tree : Module → ModuleTree
module_tree m =
    behind_mark (Pair (word_tree m.name)
    (Pair (version_tree m.version) (behind_mark (items_tree m.items))))

-- these pieces are a module with this tree
abbrev pub IsModule : List Piece → Module → Type 0
IsModule pieces m = Derives grammar (Rule a_module) pieces (module_tree m)
