-- A module has at least as many pieces as there are things in it.
use Rattle.std.proofs.Common.{ℕ, ◌+◌, Bool, true, false, cond, List, [], ◌∷◌, length, sum_by, arith}
use Rattle.std.specs.Prelude.{Option, Some, None}
use Rattle.std.proofs.lemmas.List.Sums.{sum_by-cons}
use Rattle.hilti_base.specs.declared.names.Place.{Place}
use Rattle.hilti_grammar.specs.Grammar.{Symbol, Symbol.One, Symbol.Empty, Symbol.◌▹◌, Symbol.◌⊕◌, Symbol.Rule, Keep.Placed, Tree.Pair, Tree.Left, Tree.Right}
use Rattle.hilti_kinds.specs.declared.kind.Kind.{Kind}
use Rattle.hilti_module.specs.declared.types.Word.{Word}
use Rattle.hilti_module.specs.declared.types.Number.{Number}
use Rattle.hilti_module.specs.declared.module.Parameter.{Parameter}
use Rattle.hilti_module.specs.declared.module.Seconds.{Seconds}
use Rattle.hilti_module.specs.declared.module.Simple.{Simple}
use Rattle.hilti_module.specs.declared.module.Operand.{Operand}
use Rattle.hilti_module.specs.declared.module.Operand.TheVariants as operands
use Rattle.hilti_module.specs.declared.module.Mnemonic.{Mnemonic}
use Rattle.hilti_module.specs.declared.module.Line.{Line}
use Rattle.hilti_module.specs.declared.module.Line.TheVariants as lines
use Rattle.hilti_module.specs.declared.module.Body.{Body}
use Rattle.hilti_module.specs.declared.module.Field.{Field}
use Rattle.hilti_module.specs.declared.module.Shape.{Shape}
use Rattle.hilti_module.specs.declared.module.Shape.TheVariants as shapes
use Rattle.hilti_module.specs.declared.module.Item.{Item}
use Rattle.hilti_module.specs.declared.module.Item.TheVariants as items
use Rattle.hilti_module.specs.Counts.{operand_count, line_count, body_count, shape_count, item_count, module_count}
use Rattle.hilti_read_literals.specs.Literals.{TimePart, time_part}
use Rattle.hilti_read_operands.specs.Operands.{other_tree, simple_tree, group_tree, operand_of, operands_tree}
use Rattle.hilti_syntax.specs.Items.{is_reserved, instruction_tree, behind_first_word, behind_target, handler_tree, line_tree, local_tree, body_tree, behind_hook, hook_tree, item_tree, items_tree, version_tree}
use Rattle.hilti_read_shapes.specs.Shapes.{parameter_tree, inside_tree, arguments_tree, field_tree, shape_tree}
use Rattle.hilti_reader.specs.Modules.{RuleName, RuleName.ModuleText, RuleName.ItemText, RuleName.HookRest, RuleName.HookBody, RuleName.Arguments, RuleName.Params, RuleName.ShapeText, RuleName.FieldText, RuleName.BodyText, RuleName.LineText, RuleName.AfterWord, RuleName.InstructionText, RuleName.Operands, RuleName.OperandsBehindTime, RuleName.GroupText, RuleName.SimpleText, RuleName.OtherSimple, RuleName.Parametric, RuleName.Container, RuleName.NameText, word, comma, maybe, typed_word, time_words, handler, local_line}
use Rattle.hilti_reader.specs.Spelled.{ModuleTree, word_tree, behind_mark}
use Rattle.hilti_refusals.proofs.AtLeast.{AtLeast, Solid, fewer, none, solid_one, solid_first, solid_either, solid_rule, some, one, both, first, second, left, right, by_rule, no_choice, many, as_many, as_many_separated}

a_parameter : (parameter : Parameter) → AtLeast 1 typed_word (parameter_tree parameter)
a_parameter parameter = second one

inside : (parameters : List Parameter) → AtLeast (length parameters) (maybe (Rule Params)) (inside_tree parameters)
inside [] = none
inside (parameter ∷ parameters) = left (by_rule Params (as_many_separated typed_word parameter_tree a_parameter comma (parameter ∷ parameters)))

arguments : (parameters : List Parameter) → AtLeast (length parameters) (Rule Arguments) (arguments_tree parameters)
arguments parameters = by_rule Arguments (second (first (inside parameters)))

other_solid : Solid (Rule OtherSimple)
other_solid =
    let name : Solid (Rule NameText) = solid_rule NameText (solid_first solid_one) in
    let container : Solid (Rule Container) = solid_rule Container (solid_either (solid_first solid_one) (solid_first solid_one)) in
    let parametric : Solid (Rule Parametric) =
    solid_rule Parametric (solid_either (solid_first solid_one) (solid_either (solid_first solid_one) (solid_either (solid_first solid_one) (solid_first solid_one)))) in
    solid_rule OtherSimple (solid_either solid_one (solid_either (solid_first solid_one) (solid_either parametric (solid_either container (solid_first name)))))

simple_solid : Solid (Rule SimpleText)
simple_solid = solid_rule SimpleText (solid_either (solid_first solid_one) other_solid)

a_group : (place : Place) (simples : List Simple) → AtLeast (1 + length simples) (Rule GroupText) (group_tree place simples)
a_group place [] = by_rule GroupText (fewer (1 + 0) (omega arith) (first one))
a_group place (simple ∷ simples) =
    by_rule GroupText (both one (first (left (as_many_separated (Rule SimpleText) simple_tree (λ s. some simple_solid) comma (simple ∷ simples)))))

-- operands in order, behind `time` or `interval` alone or not
abbrev operands_rule : Bool → RuleName
operands_rule true = OperandsBehindTime
operands_rule false = Operands

-- operands of which the first is no group
abbrev no_group : Symbol Kind RuleName
no_group = (One Placed time_words ▹ Rule OperandsBehindTime) ⊕ ((Rule OtherSimple ▹ Rule Operands) ⊕ Empty)

by_operands : {n : ℕ} {x : ModuleTree} (behind_time : Bool) → AtLeast n no_group x → AtLeast n (Rule (operands_rule behind_time)) (Right x)
by_operands true p = by_rule OperandsBehindTime (right p)
by_operands false p = by_rule Operands (right p)

by_time : (n : ℕ) (place : Place) (kind : Kind) (number : Option Seconds) (other plainly behind : ModuleTree) (behind_time : Bool) → AtLeast n (Rule Operands) plainly →
    AtLeast n (Rule OperandsBehindTime) behind → AtLeast (1 + n) (Rule (operands_rule behind_time)) (operand_of (Some (record { place = place; kind = kind; number = number })) other plainly behind)
by_time n place kind None other plainly behind behind_time p q = by_operands behind_time (left (both one q))
by_time n place kind (Some number) other plainly behind behind_time p q = by_operands behind_time (left (both one (by_rule OperandsBehindTime (left (second p)))))

by_part : (n : ℕ) (part : Option TimePart) (other plainly behind : ModuleTree) (behind_time : Bool) → AtLeast n (Rule Operands) plainly → AtLeast n (Rule OperandsBehindTime) behind →
    AtLeast (1 + n) (Rule (operands_rule behind_time)) (operand_of part other plainly behind)
by_part n None other plainly behind behind_time p q = by_operands behind_time (right (left (both (some other_solid) p)))
by_part n (Some part) other plainly behind behind_time p q = by_time n part.place part.kind part.number other plainly behind behind_time p q

operands_of : (behind_time : Bool) (inside : List Operand) → AtLeast (sum_by operand_count inside) (Rule (operands_rule behind_time)) (operands_tree behind_time inside)
operands_of true [] = none
operands_of false [] = none
operands_of true (operands.Simple simple ∷ more) =
    fewer (sum_by operand_count (operands.Simple simple ∷ more)) (omega (arith, sum_by-cons operand_count (operands.Simple simple) more))
    (by_part (sum_by operand_count more) (time_part simple) (other_tree simple) (operands_tree false more) (operands_tree true more) true (operands_of false more) (operands_of true more))
operands_of false (operands.Simple simple ∷ more) =
    fewer (sum_by operand_count (operands.Simple simple ∷ more)) (omega (arith, sum_by-cons operand_count (operands.Simple simple) more))
    (by_part (sum_by operand_count more) (time_part simple) (other_tree simple) (operands_tree false more) (operands_tree true more) false (operands_of false more) (operands_of true more))
operands_of false (operands.Group place inside ∷ more) =
    fewer (sum_by operand_count (operands.Group place inside ∷ more)) (omega (arith, sum_by-cons operand_count (operands.Group place inside) more))
    (by_rule Operands (left (both (a_group place inside) (operands_of false more))))
operands_of true (operands.Group place inside ∷ more) = by_rule OperandsBehindTime (no_choice (sum_by operand_count (operands.Group place inside ∷ more)))

an_instruction : (mnemonic : Mnemonic) (inside : List Operand) → AtLeast (1 + sum_by operand_count inside) (Rule InstructionText) (instruction_tree mnemonic inside)
an_instruction mnemonic inside = by_rule InstructionText (both one (second (first (operands_of false inside))))

after_target : (second_word : Option Word) (mnemonic : Mnemonic) (inside : List Operand) →
    AtLeast (1 + sum_by operand_count inside) (Rule AfterWord) (behind_target second_word (instruction_tree mnemonic inside))
after_target None mnemonic inside = by_rule AfterWord (right (left (second (an_instruction mnemonic inside))))
after_target (Some name) mnemonic inside = by_rule AfterWord (left (second (second (second (an_instruction mnemonic inside)))))

-- an instruction without a target, whose first word is reserved or not
untargeted : (reserved : Bool) (mnemonic : Mnemonic) (inside : List Operand) → AtLeast (1 + sum_by operand_count inside) (Rule LineText)
    (cond reserved (Right (Left (instruction_tree mnemonic inside))) (Right (Right (Pair (word_tree mnemonic.first) (Right (Right (behind_first_word mnemonic inside)))))))
untargeted true mnemonic inside = by_rule LineText (right (left (both one (second (first (operands_of false inside))))))
untargeted false mnemonic inside = by_rule LineText (right (right (both one (by_rule AfterWord (right (right (second (first (operands_of false inside)))))))))

a_line : (line : Line) → AtLeast (line_count line) (Rule LineText) (line_tree line)
a_line (lines.Label place name handlers) = by_rule LineText (left (both one (second (first (as_many handler handler_tree (λ h. some (solid_first solid_one)) handlers)))))
a_line (lines.Instruction None mnemonic inside) = untargeted (is_reserved mnemonic.first) mnemonic inside
a_line (lines.Instruction (Some target) mnemonic inside) = by_rule LineText (right (right (second (after_target target.second mnemonic inside))))

a_body : (body : Body) → AtLeast (body_count body) (Rule BodyText) (body_tree body)
a_body body =
    by_rule BodyText (second (second (both
    (as_many local_line local_tree (λ local. some (solid_first solid_one)) body.locals)
    (first (many (Rule LineText) line_tree line_count a_line body.lines)))))

a_field : (field : Field) → AtLeast 1 (Rule FieldText) (field_tree field)
a_field field = by_rule FieldText (first one)

a_shape : (shape : Shape) → AtLeast (shape_count shape) (Rule ShapeText) (shape_tree shape)
a_shape (shapes.Struct place fields) = by_rule ShapeText (left (second (second (first (as_many_separated typed_word parameter_tree a_parameter comma fields)))))
a_shape (shapes.Enum place words) = by_rule ShapeText (right (left (second (second (first (as_many_separated word word_tree (λ w. one) comma words))))))
a_shape (shapes.Overlay place fields) = by_rule ShapeText (right (right (left (second (second (first (as_many_separated (Rule FieldText) field_tree a_field comma fields)))))))
a_shape (shapes.Exception place parent) = none

a_hook : (priority : Option Number) (body : Body) → AtLeast (body_count body) (Rule HookBody) (hook_tree priority body)
a_hook priority body = by_rule HookBody (second (a_body body))

hook_rest : (second_word : Option Word) (parameters : List Parameter) (priority : Option Number) (body : Body) →
    AtLeast (length parameters + body_count body) (Rule HookRest) (behind_hook second_word parameters (hook_tree priority body))
hook_rest None parameters priority body = by_rule HookRest (right (both (arguments parameters) (right (a_hook priority body))))
hook_rest (Some name) parameters priority body = by_rule HookRest (left (second (second (both (arguments parameters) (a_hook priority body)))))

an_item : (item : Item) → AtLeast (item_count item) (Rule ItemText) (item_tree item)
an_item (items.Type name shape) = by_rule ItemText (left (second (both one (second (first (a_shape shape))))))
an_item (items.Global kind name value) = by_rule ItemText (right (left (second (first (second one)))))
an_item (items.Hook name parameters) = by_rule ItemText (right (right (left (second (both one (by_rule HookRest (right (first (arguments parameters)))))))))
an_item (items.HookBody name parameters priority body) = by_rule ItemText (right (right (left (second (both one (hook_rest name.second parameters priority body))))))
an_item (items.Function result name parameters body) = by_rule ItemText (right (right (right (second (both one (both (arguments parameters) (a_body body)))))))

-- a module has at least the pieces `module`, its name and the end of their line, and those of its items
pub whole_module : (name : Word) (version : Option Number) (inside : List Item) →
    AtLeast (3 + module_count inside) (Rule ModuleText) (behind_mark (Pair (word_tree name) (Pair (version_tree version) (behind_mark (items_tree inside)))))
whole_module name version inside =
    fewer (3 + module_count inside) (omega arith) (by_rule ModuleText (both one (both one (second (both one (many (Rule ItemText) item_tree item_count an_item inside))))))
