-- What the lines of a body see.
use Rattle.std.specs.Prelude.{ℕ, ◌+◌, List, length, map, take, slice_get, Option, None, is_some}
use Rattle.hilti_base.specs.declared.names.Place.{Place}
use Rattle.hilti_types.specs.declared.value_type.ValueType.{ValueType}
use Rattle.hilti_module.specs.declared.types.Name.{Name}
use Rattle.hilti_scope.specs.declared.meaning.Meaning.{Meaning}
use Rattle.hilti_scope.specs.FirstPlaces.{place_of}
use Rattle.hilti_scope.specs.Scopes.{means}
use Rattle.hilti_link.specs.declared.tables.LinkedFunction.{LinkedFunction}
use Rattle.hilti_link.specs.declared.tables.LinkedGlobal.{LinkedGlobal}
use Rattle.hilti_link.specs.declared.tables.LinkedHook.{LinkedHook}
use Rattle.hilti_link.specs.declared.tables.Tables.{Tables}
use Rattle.hilti_typing.specs.Context.{Signature, Context, Setting, Known}
use Rattle.hilti_typing.specs.Fits.{calling, reading}
use Rattle.hilti_typing.specs.Types.{overlay_fields}
use Rattle.hilti_operands.specs.declared.view.BodyView.{BodyView}
use Rattle.hilti_operands.specs.declared.view.LineView.{LineView}
use Rattle.hilti_operands.specs.declared.known.Known.{Known as Kept}
use Rattle.hilti_operands.specs.declared.known.Known.TheVariants as kept

-- what names mean in a body, what the modules declare, the function or hook body itself, the block
-- of each label, and how many blocks there are
pub record BodySeen : Type 0 where
  pub mean : Name → Meaning
  pub tables : Tables
  pub function : LinkedFunction
  pub label : List ℕ → Option ℕ
  pub blocks : ℕ

-- a line of a body: the place of its mnemonic, the type of its target, the width of its numbers,
-- and the type of its Null where no other is asked
pub record LineSeen : Type 0 where
  pub body : BodySeen
  pub mnemonic : Place
  pub target : Option ValueType
  pub width : ℕ
  pub null : Option ValueType

-- what a function takes and gives; a hook gives nothing
abbrev pub function_signature : LinkedFunction → Signature
function_signature f = record { parameters = take f.parameters f.slots; result = f.result }

abbrev pub hook_signature : LinkedHook → Signature
hook_signature h = record { parameters = h.parameters; result = None }

-- what the lines of a body are typed in: there are seven built-in exceptions
abbrev pub context : BodySeen → Context
context body = record {
  declared = body.tables.types;
  globals = map (λ (g : LinkedGlobal). g.kind) body.tables.globals;
  functions = map function_signature body.tables.functions;
  hooks = map hook_signature body.tables.hooks;
  exceptions = 7 + length body.tables.exceptions;
  slots = body.function.slots;
  blocks = body.blocks;
  result = body.function.result;
  in_hook = is_some body.function.hook;
}

abbrev pub setting : LineSeen → Setting
setting line = record { context = context line.body; target = line.target; width = line.width }

-- what the code holds of them
abbrev pub body_seen : BodyView → BodySeen
body_seen view = record {
  mean = means view.scope.now;
  tables = view.tables.now;
  function = view.function.now;
  label = place_of view.labels.now;
  blocks = view.blocks;
}

abbrev pub line_seen : LineView → LineSeen
line_seen view = record {
  body = body_seen view.body;
  mnemonic = view.mnemonic;
  target = view.target.now;
  width = view.width;
  null = view.null.now;
}

-- what is known, of the numbers that the code keeps of functions, hooks and overlays
abbrev pub known_of : BodySeen → Kept → Known
known_of body kept.Nothing = Known.Nothing
known_of body (kept.Of kind) = Known.Of kind
known_of body (kept.Function n) = calling (slice_get (context body).functions n)
known_of body (kept.Hook n) = calling (slice_get (context body).hooks n)
known_of body (kept.Overlay n) = reading (overlay_fields (slice_get body.tables.types n))
