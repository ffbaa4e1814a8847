-- The names in a written type, and the first of them that means nothing.
use Rattle.std.specs.Prelude.{Bool, true, false, cond, List, [], ◌∷◌, Option, Some, None}
use Rattle.std.specs.Option.{option_or}
use Rattle.hilti_base.specs.declared.names.Place.{Place}
use Rattle.hilti_module.specs.declared.types.Name.{Name}
use Rattle.hilti_module.specs.declared.types.TypeText.{TypeText}
use Rattle.hilti_module.specs.declared.types.InnerText.{InnerText}
use Rattle.hilti_module.specs.declared.types.Container.{Container}
use Rattle.hilti_module.specs.declared.types.Parametric.{Parametric}
use Rattle.hilti_module.specs.declared.types.Container.TheOpen.{Container-F, InnerText-F}
use Rattle.hilti_module.specs.declared.types.Container.TheOpen.{Parametric-F, TypeText-F}
use Rattle.hilti_module.specs.declared.types.Container.TheFolds.{fold-Container, fold-InnerText}
use Rattle.hilti_module.specs.declared.types.Container.TheFolds.{fold-Parametric, fold-TypeText}
use Rattle.hilti_scope.specs.declared.meaning.Meaning.{Meaning}
use Rattle.hilti_scope.specs.declared.meaning.Meaning.TheVariants.{Nothing}

-- the first that is there
unfoldable pub first_of : {A : Type 0} → List (Option A) → Option A
first_of [] = None
first_of (next ∷ more) = option_or next (first_of more)

abbrev pub is_nothing : Meaning → Bool
is_nothing Nothing = true
is_nothing _ = false

-- the place of a name that means nothing: its first word's
abbrev pub unknown_name : (Name → Meaning) → Name → Option Place
unknown_name mean name = cond (is_nothing (mean name)) (Some name.first.place) None

abbrev pub unknown_in_container :
    Container-F (Option Place) (Option Place) (Option Place) (Option Place) → Option Place
unknown_in_container (Container-F.Single place single item) = item
unknown_in_container (Container-F.Double place double first second) = option_or first second

abbrev pub unknown_in_inner :
    (Name → Meaning) → InnerText-F (Option Place) (Option Place) (Option Place) (Option Place)
    → Option Place
unknown_in_inner mean (InnerText-F.Word place word) = None
unknown_in_inner mean (InnerText-F.Container container) = container
unknown_in_inner mean (InnerText-F.Declared name) = unknown_name mean name

abbrev pub unknown_in_parametric :
    Parametric-F (Option Place) (Option Place) (Option Place) (Option Place) → Option Place
unknown_in_parametric (Parametric-F.Int place bits) = None
unknown_in_parametric (Parametric-F.Tuple place parts) = first_of parts
unknown_in_parametric (Parametric-F.Iterator place over) = over
unknown_in_parametric (Parametric-F.Ref place to) = to

abbrev pub unknown_in_type :
    (Name → Meaning) → TypeText-F (Option Place) (Option Place) (Option Place) (Option Place)
    → Option Place
unknown_in_type mean (TypeText-F.Plain place plain) = None
unknown_in_type mean (TypeText-F.Parametric parametric) = parametric
unknown_in_type mean (TypeText-F.Named name) = unknown_name mean name

-- the place of the first name in a written type that means nothing
abbrev pub first_unknown : (Name → Meaning) → TypeText → Option Place
first_unknown mean =
    fold-TypeText (Option Place) (Option Place) (Option Place) (Option Place) unknown_in_container
    (unknown_in_inner mean) unknown_in_parametric (unknown_in_type mean)

abbrev pub first_unknown_parametric : (Name → Meaning) → Parametric → Option Place
first_unknown_parametric mean =
    fold-Parametric (Option Place) (Option Place) (Option Place) (Option Place) unknown_in_container
    (unknown_in_inner mean) unknown_in_parametric (unknown_in_type mean)

abbrev pub first_unknown_inner : (Name → Meaning) → InnerText → Option Place
first_unknown_inner mean =
    fold-InnerText (Option Place) (Option Place) (Option Place) (Option Place) unknown_in_container
    (unknown_in_inner mean) unknown_in_parametric (unknown_in_type mean)

abbrev pub first_unknown_container : (Name → Meaning) → Container → Option Place
first_unknown_container mean =
    fold-Container (Option Place) (Option Place) (Option Place) (Option Place) unknown_in_container
    (unknown_in_inner mean) unknown_in_parametric (unknown_in_type mean)
