-- The trees of parameters and of what declared types are: each by the shape of its rule in the
-- grammar.
use Rattle.std.specs.Prelude.{cond, List, [], ◌∷◌, map, codes, bytes_eq, Option}
use Rattle.hilti_grammar.specs.Grammar.{Tree.Nothing, Tree.Pair, Tree.Left, Tree.Right}
use Rattle.hilti_grammar.specs.Reads.{separated_tree}
use Rattle.hilti_kinds.specs.declared.kind.Kind.TheVariants as kinds
use Rattle.hilti_module.specs.declared.types.Word.{Word}
use Rattle.hilti_module.specs.declared.module.Parameter.{Parameter}
use Rattle.hilti_module.specs.declared.module.Shape.{Shape}
use Rattle.hilti_module.specs.declared.module.Shape.TheVariants as shapes
use Rattle.hilti_module.specs.declared.module.Field.{Field}
use Rattle.hilti_module.specs.declared.module.Form.{Form}
use Rattle.hilti_module.specs.declared.module.Form.TheVariants as forms
use Rattle.hilti_module.specs.declared.module.Bits.{Bits}
use Rattle.hilti_reader.specs.Spelled.{ModuleTree, spelled_at, keyword_at, word_tree, number_tree, behind_mark, between_marks, maybe_tree, name_tree, behind_number}
use Rattle.hilti_read_types.specs.Trees.{type_tree}
use Rattle.hilti_reader.specs.Modules.{words}
use Rattle.hilti_base.specs.declared.names.Place.{Place}
use Rattle.hilti_module.specs.declared.types.Name.{Name}

-- a type and a word
abbrev pub parameter_tree : Parameter → ModuleTree
parameter_tree parameter = Pair (type_tree parameter.kind) (word_tree parameter.name)

-- parameters with commas between them
abbrev pub parameters_tree : List Parameter → ModuleTree
parameters_tree parameters = separated_tree (map parameter_tree parameters)

-- parameters that may be left out
abbrev pub inside_tree : List Parameter → ModuleTree
inside_tree [] = Right Nothing
inside_tree (first ∷ more) = Left (parameters_tree (first ∷ more))

-- parameters in their parentheses
abbrev pub arguments_tree : List Parameter → ModuleTree
arguments_tree parameters = between_marks (inside_tree parameters)

-- a range of bits without its parentheses
abbrev pub bits_tree : Bits → ModuleTree
bits_tree bits = Pair (number_tree bits.low) (behind_mark (number_tree bits.high))

-- the same in parentheses, and in the parentheses of `Bytes`
abbrev pub range_tree : Bits → ModuleTree
range_tree bits = between_marks (bits_tree bits)

abbrev pub bytes_range : Bits → ModuleTree
bytes_range bits = between_marks (Pair (number_tree bits.low) (Left (behind_number bits.high)))

-- how a field is read: `Bytes` may have one number or two, and another word none or two
abbrev pub form_tree : Form → ModuleTree
form_tree (forms.Bytes place length) =
    Left (Pair (spelled_at place (codes "Bytes"))
    (Left (between_marks (Pair (number_tree length) (Right Nothing)))))
form_tree (forms.Word word bits) =
    cond (bytes_eq word.bytes (codes "Bytes"))
    (Left (Pair (word_tree word) (maybe_tree bytes_range bits)))
    (Right (Pair (word_tree word) (maybe_tree range_tree bits)))

abbrev pub field_tree : Field → ModuleTree
field_tree field =
    Pair (word_tree field.name) (behind_mark (Pair (type_tree field.kind)
    (behind_mark (Pair (number_tree field.offset) (behind_mark (form_tree field.form))))))

-- fields of an overlay and words, with commas between them
abbrev pub fields_tree : List Field → ModuleTree
fields_tree fields = separated_tree (map field_tree fields)

abbrev pub words_tree : List Word → ModuleTree
words_tree words = separated_tree (map word_tree words)

-- the word of a shape, by its place, and what stands behind it
abbrev pub struct_tree : Place × List Parameter → ModuleTree
struct_tree found = Pair (keyword_at found.0 kinds.Struct) (between_marks (parameters_tree found.1))

abbrev pub enum_tree : Place × List Word → ModuleTree
enum_tree found = Pair (keyword_at found.0 kinds.Enum) (between_marks (words_tree found.1))

abbrev pub overlay_tree : Place × List Field → ModuleTree
overlay_tree found = Pair (keyword_at found.0 kinds.Overlay) (between_marks (fields_tree found.1))

abbrev pub parent_tree : Option Name → ModuleTree
parent_tree = maybe_tree (λ name. behind_mark (name_tree name))

abbrev pub exception_tree : Place × Option Name → ModuleTree
exception_tree found = Pair (keyword_at found.0 kinds.Exception) (parent_tree found.1)

abbrev pub shape_tree : Shape → ModuleTree
shape_tree (shapes.Struct place fields) = Left (struct_tree (place, fields))
shape_tree (shapes.Enum place words) = Right (Left (enum_tree (place, words)))
shape_tree (shapes.Overlay place fields) = Right (Right (Left (overlay_tree (place, fields))))
shape_tree (shapes.Exception place parent) = Right (Right (Right (exception_tree (place, parent))))
