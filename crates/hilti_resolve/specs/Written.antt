-- What a written type says, also where it breaks the rules of types: its words, and the meanings of
-- its names. Two written types are the same where they say the same.
use Rattle.std.specs.Prelude.{ℕ, List, [], ◌∷◌}
use Rattle.hilti_module.specs.declared.types.Name.{Name}
use Rattle.hilti_module.specs.declared.types.TypeText.{TypeText}
use Rattle.hilti_module.specs.declared.types.InnerText.{InnerText}
use Rattle.hilti_module.specs.declared.types.Container.{Container}
use Rattle.hilti_module.specs.declared.types.Parametric.{Parametric}
use Rattle.hilti_module.specs.declared.types.PlainType.{PlainType}
use Rattle.hilti_module.specs.declared.types.PlainType.TheVariants as plain
use Rattle.hilti_module.specs.declared.types.PlainInner.{PlainInner}
use Rattle.hilti_module.specs.declared.types.PlainInner.TheVariants as words
use Rattle.hilti_module.specs.declared.types.Single.{Single}
use Rattle.hilti_module.specs.declared.types.Double.{Double}
use Rattle.hilti_module.specs.declared.types.Container.TheOpen.{Container-F, InnerText-F}
use Rattle.hilti_module.specs.declared.types.Container.TheOpen.{Parametric-F, TypeText-F}
use Rattle.hilti_module.specs.declared.types.Container.TheFolds.{fold-Container, fold-InnerText}
use Rattle.hilti_module.specs.declared.types.Container.TheFolds.{fold-Parametric, fold-TypeText}
use Rattle.hilti_scope.specs.declared.meaning.Meaning.{Meaning}

-- types by their words; the parts of a tuple are a list of `Part` that ends with `NoPart`
pub data Written : Type 0 where
  Plain : PlainType → Written
  Int : ℕ → Written
  Tuple : Written → Written
  NoPart : Written
  Part : Written → Written → Written
  Iterator : Written → Written
  Ref : Written → Written
  InnerWord : PlainInner → Written
  One : Single → Written → Written
  Two : Double → Written → Written → Written
  Named : Meaning → Written

unfoldable pub parts_of : List Written → Written
parts_of [] = NoPart
parts_of (part ∷ more) = Part part (parts_of more)

-- a reference to bytes is bytes
abbrev pub reference_to : Written → Written
reference_to (InnerWord words.Bytes) = Plain plain.Bytes
reference_to other = Ref other

abbrev pub container_says : Container-F Written Written Written Written → Written
container_says (Container-F.Single place single item) = One single item
container_says (Container-F.Double place double first second) = Two double first second

abbrev pub inner_says : (Name → Meaning) → InnerText-F Written Written Written Written → Written
inner_says mean (InnerText-F.Word place word) = InnerWord word
inner_says mean (InnerText-F.Container container) = container
inner_says mean (InnerText-F.Declared name) = Named (mean name)

abbrev pub parametric_says : Parametric-F Written Written Written Written → Written
parametric_says (Parametric-F.Int place bits) = Int bits.value
parametric_says (Parametric-F.Tuple place parts) = Tuple (parts_of parts)
parametric_says (Parametric-F.Iterator place over) = Iterator over
parametric_says (Parametric-F.Ref place to) = reference_to to

abbrev pub type_says : (Name → Meaning) → TypeText-F Written Written Written Written → Written
type_says mean (TypeText-F.Plain place plain) = Plain plain
type_says mean (TypeText-F.Parametric parametric) = parametric
type_says mean (TypeText-F.Named name) = Named (mean name)

-- what a written type says
abbrev pub says : (Name → Meaning) → TypeText → Written
says mean =
    fold-TypeText Written Written Written Written container_says (inner_says mean) parametric_says
    (type_says mean)

abbrev pub parametric_writes : (Name → Meaning) → Parametric → Written
parametric_writes mean =
    fold-Parametric Written Written Written Written container_says (inner_says mean) parametric_says
    (type_says mean)

abbrev pub inner_writes : (Name → Meaning) → InnerText → Written
inner_writes mean =
    fold-InnerText Written Written Written Written container_says (inner_says mean) parametric_says
    (type_says mean)

abbrev pub container_writes : (Name → Meaning) → Container → Written
container_writes mean =
    fold-Container Written Written Written Written container_says (inner_says mean) parametric_says
    (type_says mean)
