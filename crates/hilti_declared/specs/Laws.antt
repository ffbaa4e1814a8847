-- What is so of the parts that linked modules declare, whatever the blocks of their functions are.
use Rattle.std.specs.Prelude.{◌≡◌, ◌<◌, ◌≤◌, ◌^◌, ℕ, List, length, slice_get, Some, None}
use Rattle.std.specs.Prelude.{IsSomeAnd}
use Rattle.std.specs.List.{All}
use Rattle.std.specs.Option.{is_some}
use Rattle.hilti_base.specs.declared.names.FnId.{FnId}
use Rattle.hilti_module.specs.declared.module.Module.{Module}
use Rattle.hilti_link.specs.declared.tables.LinkedFunction.{LinkedFunction}
use Rattle.hilti_link.specs.declared.tables.Tables.{Tables}
use Rattle.hilti_link.specs.Linking.{tables_of, modules_count}
use Rattle.hilti_link.specs.Refusals.{first_refusal}
use Rattle.hilti_link.specs.Versions.{version_of}
use Rattle.hilti_parts.specs.declared.parts.Block.{Block}
use Rattle.hilti_parts.specs.declared.parts.Hook.{Hook}
use Rattle.hilti_parts.specs.declared.parts.Parts.{Parts}
use Rattle.hilti_typing.specs.Exceptions.{AreExceptions}
use Rattle.hilti_typing.specs.Programs.{BeginsTyped, BelongsOnce, HasEntries, IsBodyOf, IsShort}
use Rattle.hilti_typing.specs.Programs.{is_hook_body}
use Rattle.hilti_declared.specs.Declaring.{declared_parts, exceptions_of}
use Rattle.hilti_declared.specs.Sites.{Bodied, bodied_at}

-- what is so of the parts of modules that link, with any blocks
abbrev pub OfLinked : (Parts → Type 0) → Type 0
OfLinked is =
    (modules : List Module) (blocks : List (List Block)) → first_refusal modules ≡ None
    → is (declared_parts modules blocks)

-- the exceptions are the built-in ones and then declared ones, each with a parent in front of it
abbrev pub ExceptionsAreTyped : Type 0
ExceptionsAreTyped =
    (modules : List Module) → first_refusal modules ≡ None
    → (let tables = tables_of modules in AreExceptions (exceptions_of tables.exceptions))

-- a function is a body of one hook at most, and once
abbrev pub BodiesBelongOnce : Type 0
BodiesBelongOnce =
    (modules : List Module) (blocks : List (List Block)) (f : FnId)
    → BelongsOnce (declared_parts modules blocks) f

-- globals begin with literals of their types, or with the defaults of these
abbrev pub GlobalsBeginTyped : Type 0
GlobalsBeginTyped = OfLinked (λ parts. All (BeginsTyped parts.types) parts.globals)

-- each body of a hook takes what the hook takes, and is void
abbrev pub HooksAreTyped : Type 0
HooksAreTyped = OfLinked (λ parts. All (λ (h : Hook). All (IsBodyOf parts h) h.bodies) parts.hooks)

-- a function is a body of a hook just where it is linked as one
abbrev pub HookBodiesAreLinked : Type 0
HookBodiesAreLinked =
    (modules : List Module) (blocks : List (List Block)) → first_refusal modules ≡ None
    → (at : ℕ) (f : LinkedFunction) → slice_get (tables_of modules).functions at ≡ Some f
    → is_hook_body (declared_parts modules blocks) at ≡ is_some f.hook

-- the entries of `Main` are there and as they are asked
abbrev pub EntriesAreThere : Type 0
EntriesAreThere = OfLinked HasEntries

-- no list of tables is long
pub record AreShortTables (tables : Tables) : Type 0 where
  pub types : IsShort tables.types
  pub globals : IsShort tables.globals
  pub functions : IsShort tables.functions
  pub exceptions : length tables.exceptions < 2 ^ 31
  pub hooks : IsShort tables.hooks
  pub slots : All (λ (f : LinkedFunction). IsShort f.slots) tables.functions

-- what modules declare is short, since they have at most 2 to the 24th items and other parts
abbrev pub TablesAreShort : Type 0
TablesAreShort =
    (modules : List Module) → modules_count modules < 2 ^ 25 → AreShortTables (tables_of modules)

-- a function or a hook body as it is written, against what is linked of it
pub record IsWrittenOf (modules : List Module) (f : LinkedFunction) (b : Bodied) : Type 0 where
  pub parameters : f.parameters ≤ length f.slots
  pub lines : length b.body.lines ≤ modules_count modules
  pub version : IsSomeAnd (slice_get modules f.site.file) (λ m. f.version ≡ version_of m.version)

-- each function that is linked stands at its site, has a body there, and the version of its module
abbrev pub FunctionsHaveBodies : Type 0
FunctionsHaveBodies =
    (modules : List Module)
    → All (λ (f : LinkedFunction). IsSomeAnd (bodied_at modules f.site) (IsWrittenOf modules f))
    (tables_of modules).functions

-- a hook has no more bodies than there are functions
abbrev pub BodiesAreShort : Type 0
BodiesAreShort =
    (modules : List Module) (blocks : List (List Block)) → IsShort (tables_of modules).functions
    → (let parts = declared_parts modules blocks in
    All (λ (h : Hook). IsShort h.bodies) parts.hooks)
