-- The first refusal of a container of which an object is to be made.
use Rattle.std.specs.Prelude.{ℕ, nat_lt, cond, List, Option, Some, None, Result, Ok, Err}
use Rattle.hilti_base.specs.declared.names.Place.{Place}
use Rattle.hilti_base.specs.declared.refusal.Refusal.{Refusal}
use Rattle.hilti_base.specs.declared.refusal.Refusal.TheVariants.{At}
use Rattle.hilti_module.specs.declared.types.Name.{Name}
use Rattle.hilti_module.specs.declared.types.TypeText.{TypeText}
use Rattle.hilti_module.specs.declared.types.InnerText.{InnerText}
use Rattle.hilti_module.specs.declared.types.Parametric.{Parametric}
use Rattle.hilti_module.specs.declared.types.Container.{Container, out-Container}
use Rattle.hilti_module.specs.declared.types.Container.TheOpen.{Container-F}
use Rattle.hilti_types.specs.declared.declared.Declared.{Declared}
use Rattle.hilti_types.specs.declared.value_type.Inner.{Inner}
use Rattle.hilti_types.specs.Depths.{depths}
use Rattle.hilti_scope.specs.declared.meaning.Meaning.{Meaning}
use Rattle.hilti_resolve.specs.Names.{first_unknown_container}
use Rattle.hilti_resolve.specs.Depth.{written_container_depth}
use Rattle.hilti_resolve.specs.Values.{container_value_of}

-- the place of its first token
abbrev pub container_begins : Container-F Container InnerText Parametric TypeText → Place
container_begins (Container-F.Single place single item) = place
container_begins (Container-F.Double place double first second) = place

abbrev pub container_start : Container → Place
container_start container = container_begins (out-Container container)

abbrev pub no_object : Place → Result Inner Place → Option Refusal
no_object start (Ok object) = None
no_object start (Err place) = Some (At start 30)

abbrev pub unknown_or_no_object : Place → Option Place → Result Inner Place → Option Refusal
unknown_or_no_object start (Some unknown) value = Some (At unknown 21)
unknown_or_no_object start None value = no_object start value

-- Where it nests too deep it is refused at its first token with code 30, else at its first name
-- that means nothing with code 21, else, where it breaks the rules of types, at its first token
-- with code 30.
abbrev pub container_refusal : List Declared → (Name → Meaning) → Container → Option Refusal
container_refusal table mean container =
    let start = container_start container in
    let value = container_value_of table mean container in
    cond (nat_lt 16 (written_container_depth (depths table) mean container)) (Some (At start 30))
    (unknown_or_no_object start (first_unknown_container mean container) value)
