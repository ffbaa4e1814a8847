-- How deep a written type nests.
use Rattle.std.specs.Prelude.{ℕ, ◌+◌, max, List}
use Rattle.std.specs.List.{slice_get}
use Rattle.std.specs.Option.{unwrap_or}
use Rattle.hilti_types.specs.Depths.{greatest}
use Rattle.hilti_module.specs.declared.types.Name.{Name}
use Rattle.hilti_module.specs.declared.types.TypeText.{TypeText}
use Rattle.hilti_module.specs.declared.types.InnerText.{InnerText}
use Rattle.hilti_module.specs.declared.types.Container.{Container}
use Rattle.hilti_module.specs.declared.types.Parametric.{Parametric}
use Rattle.hilti_module.specs.declared.types.Container.TheOpen.{Container-F, InnerText-F}
use Rattle.hilti_module.specs.declared.types.Container.TheOpen.{Parametric-F, TypeText-F}
use Rattle.hilti_module.specs.declared.types.Container.TheFolds.{fold-Container, fold-InnerText}
use Rattle.hilti_module.specs.declared.types.Container.TheFolds.{fold-Parametric, fold-TypeText}
use Rattle.hilti_scope.specs.declared.meaning.Meaning.{Meaning}
use Rattle.hilti_scope.specs.declared.meaning.Meaning.TheVariants.{Struct}

-- a name is as deep as the struct that it means, and else has depth 1; `depths` tells of each
-- declared type how deep it is
abbrev pub meaning_depth : List ℕ → Meaning → ℕ
meaning_depth depths (Struct n) = unwrap_or (slice_get depths n) 1
meaning_depth depths _ = 1

abbrev pub container_depth : Container-F ℕ ℕ ℕ ℕ → ℕ
container_depth (Container-F.Single place single item) = 1 + item
container_depth (Container-F.Double place double first second) = 1 + max first second

abbrev pub inner_depth : List ℕ → (Name → Meaning) → InnerText-F ℕ ℕ ℕ ℕ → ℕ
inner_depth depths mean (InnerText-F.Word place word) = 1
inner_depth depths mean (InnerText-F.Container container) = container
inner_depth depths mean (InnerText-F.Declared name) = meaning_depth depths (mean name)

abbrev pub parametric_depth : Parametric-F ℕ ℕ ℕ ℕ → ℕ
parametric_depth (Parametric-F.Int place bits) = 1
parametric_depth (Parametric-F.Tuple place parts) = 1 + greatest parts
parametric_depth (Parametric-F.Iterator place over) = 1 + over
parametric_depth (Parametric-F.Ref place to) = to

abbrev pub type_depth : List ℕ → (Name → Meaning) → TypeText-F ℕ ℕ ℕ ℕ → ℕ
type_depth depths mean (TypeText-F.Plain place plain) = 1
type_depth depths mean (TypeText-F.Parametric parametric) = parametric
type_depth depths mean (TypeText-F.Named name) = meaning_depth depths (mean name)

-- how deep a written type nests
abbrev pub written_depth : List ℕ → (Name → Meaning) → TypeText → ℕ
written_depth depths mean =
    fold-TypeText ℕ ℕ ℕ ℕ container_depth (inner_depth depths mean) parametric_depth
    (type_depth depths mean)

abbrev pub written_parametric_depth : List ℕ → (Name → Meaning) → Parametric → ℕ
written_parametric_depth depths mean =
    fold-Parametric ℕ ℕ ℕ ℕ container_depth (inner_depth depths mean) parametric_depth
    (type_depth depths mean)

abbrev pub written_inner_depth : List ℕ → (Name → Meaning) → InnerText → ℕ
written_inner_depth depths mean =
    fold-InnerText ℕ ℕ ℕ ℕ container_depth (inner_depth depths mean) parametric_depth
    (type_depth depths mean)

abbrev pub written_container_depth : List ℕ → (Name → Meaning) → Container → ℕ
written_container_depth depths mean =
    fold-Container ℕ ℕ ℕ ℕ container_depth (inner_depth depths mean) parametric_depth
    (type_depth depths mean)
