-- The trees that the types of a module's tree stand for: each by the shape of its rule in the
-- grammar.
use Rattle.std.specs.Prelude.{List, map}
use Rattle.hilti_grammar.specs.Grammar.{Tree.Nothing, Tree.Pair, Tree.Left, Tree.Right}
use Rattle.hilti_grammar.specs.Reads.{separated_tree}
use Rattle.hilti_module.specs.declared.types.TypeText.{TypeText}
use Rattle.hilti_module.specs.declared.types.InnerText.{InnerText}
use Rattle.hilti_module.specs.declared.types.Container.{Container}
use Rattle.hilti_module.specs.declared.types.Parametric.{Parametric}
use Rattle.hilti_module.specs.declared.types.Container.TheOpen.{Container-F, InnerText-F, Parametric-F, TypeText-F}
use Rattle.hilti_module.specs.declared.types.Container.TheFolds.{fold-Container, fold-InnerText, fold-Parametric, fold-TypeText}
use Rattle.hilti_kinds.specs.declared.kind.Kind.TheVariants as kinds
use Rattle.hilti_reader.specs.Spelled.{ModuleTree, plain_kind, inner_kind, single_kind, double_kind, keyword_at, number_tree, between_marks, name_tree}
use Rattle.hilti_base.specs.declared.names.Place.{Place}
use Rattle.hilti_module.specs.declared.types.PlainType.{PlainType}
use Rattle.hilti_module.specs.declared.types.PlainInner.{PlainInner}
use Rattle.hilti_module.specs.declared.types.Single.{Single}
use Rattle.hilti_module.specs.declared.types.Double.{Double}

-- words and their places
abbrev pub plain_word : Place × PlainType → ModuleTree
plain_word word = keyword_at word.0 (plain_kind word.1)

abbrev pub inner_word : Place × PlainInner → ModuleTree
inner_word word = keyword_at word.0 (inner_kind word.1)

abbrev pub single_word : Place × Single → ModuleTree
single_word word = keyword_at word.0 (single_kind word.1)

abbrev pub double_word : Place × Double → ModuleTree
double_word word = keyword_at word.0 (double_kind word.1)

-- what a container stands for, where the trees of the types in it stand in their places
abbrev pub container_step : Container-F ModuleTree ModuleTree ModuleTree ModuleTree → ModuleTree
container_step (Container-F.Single place single item) =
    Left (Pair (keyword_at place (single_kind single)) (between_marks item))
container_step (Container-F.Double place double first second) =
    Right
    (Pair (keyword_at place (double_kind double))
    (between_marks (Pair first (Pair Nothing second))))

-- an inner type
abbrev pub inner_step : InnerText-F ModuleTree ModuleTree ModuleTree ModuleTree → ModuleTree
inner_step (InnerText-F.Word place word) = Left (keyword_at place (inner_kind word))
inner_step (InnerText-F.Container container) = Right (Left container)
inner_step (InnerText-F.Declared name) = Right (Right (name_tree name))

-- a type with something between `<` and `>`
abbrev pub parametric_step : Parametric-F ModuleTree ModuleTree ModuleTree ModuleTree → ModuleTree
parametric_step (Parametric-F.Int place bits) =
    Left (Pair (keyword_at place kinds.Int) (between_marks (number_tree bits)))
parametric_step (Parametric-F.Tuple place parts) =
    Right (Left (Pair (keyword_at place kinds.Tuple) (between_marks (separated_tree parts))))
parametric_step (Parametric-F.Iterator place over) =
    Right (Right (Left (Pair (keyword_at place kinds.Iterator) (between_marks over))))
parametric_step (Parametric-F.Ref place to) =
    Right (Right (Right (Pair (keyword_at place kinds.Ref) (between_marks to))))

-- and a type
abbrev pub type_step : TypeText-F ModuleTree ModuleTree ModuleTree ModuleTree → ModuleTree
type_step (TypeText-F.Plain place plain) = Left (keyword_at place (plain_kind plain))
type_step (TypeText-F.Parametric parametric) = Right (Left parametric)
type_step (TypeText-F.Named name) = Right (Right (name_tree name))

abbrev pub container_tree : Container → ModuleTree
container_tree =
    fold-Container ModuleTree ModuleTree ModuleTree ModuleTree container_step inner_step
    parametric_step type_step

abbrev pub inner_tree : InnerText → ModuleTree
inner_tree =
    fold-InnerText ModuleTree ModuleTree ModuleTree ModuleTree container_step inner_step
    parametric_step type_step

abbrev pub parametric_tree : Parametric → ModuleTree
parametric_tree =
    fold-Parametric ModuleTree ModuleTree ModuleTree ModuleTree container_step inner_step
    parametric_step type_step

abbrev pub type_tree : TypeText → ModuleTree
type_tree =
    fold-TypeText ModuleTree ModuleTree ModuleTree ModuleTree container_step inner_step
    parametric_step type_step

-- types with commas between them
abbrev pub types_tree : List TypeText → ModuleTree
types_tree types = separated_tree (map type_tree types)
