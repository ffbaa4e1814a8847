-- The tables of modules have no more than the modules have in all.
use Rattle.std.proofs.Common.{◌≡◌, subst, ℕ, ◌+◌, ◌≤◌, List, [], ◌∷◌, length, arith}
use Rattle.std.specs.List.{All}
use Rattle.std.proofs.lemmas.List.{length_push, length-append, length-map}
use Rattle.std.proofs.lemmas.List.Elements.{All-nil, All-push, All-weaker}
use Rattle.std.proofs.lemmas.List.Sums.{sum_by-cons}
use Rattle.hilti_module.specs.Counts.{body_count, item_count, module_count}
use Rattle.hilti_module.specs.declared.types.Word.{Word}
use Rattle.hilti_module.specs.declared.module.Body.{Body}
use Rattle.hilti_module.specs.declared.module.Item.{Item}
use Rattle.hilti_module.specs.declared.module.Item.TheVariants as items
use Rattle.hilti_module.specs.declared.module.Module.{Module}
use Rattle.hilti_module.specs.declared.module.Parameter.{Parameter}
use Rattle.hilti_module.specs.declared.module.Shape.{Shape}
use Rattle.hilti_module.specs.declared.module.Shape.TheVariants as shapes
use Rattle.hilti_types.specs.declared.declared.Declared.{Declared}
use Rattle.hilti_link.specs.declared.tables.LinkedException.{LinkedException}
use Rattle.hilti_link.specs.declared.tables.LinkedFunction.{LinkedFunction}
use Rattle.hilti_link.specs.declared.tables.LinkedGlobal.{LinkedGlobal}
use Rattle.hilti_link.specs.declared.tables.LinkedHook.{LinkedHook}
use Rattle.hilti_link.specs.declared.tables.Site.{Site}
use Rattle.hilti_link.specs.declared.tables.Tables.{Tables}
use Rattle.hilti_link.specs.InTurn.{behind_all}
use Rattle.hilti_link.specs.Items.{Seen, slots_of, slots_view, tables_behind, with_type, with_exception, with_global, with_hook, with_function}
use Rattle.hilti_link.specs.Linking.{behind_item, behind_module, entering, modules_count, no_tables, seen_first, tables_of}
use Rattle.hilti_link.specs.Seeing.{type_at}
use Rattle.hilti_link.specs.TypedWords.{kinds_of}
use Rattle.hilti_typing.specs.Programs.{IsShort}
use Rattle.hilti_declared.specs.Laws.{TablesAreShort}

-- no list of tables has more than this
record Within (n : ℕ) (t : Tables) : Type 0 where
  types : length t.types ≤ n
  globals : length t.globals ≤ n
  functions : length t.functions ≤ n
  exceptions : length t.exceptions ≤ n
  hooks : length t.hooks ≤ n
  slots : All (λ (f : LinkedFunction). length f.slots ≤ n) t.functions

more_slots : (n k : ℕ) (functions : List LinkedFunction) → All (λ (f : LinkedFunction). length f.slots ≤ n) functions
    → All (λ (f : LinkedFunction). length f.slots ≤ n + k) functions
more_slots n k functions p =
    All-weaker (λ (f : LinkedFunction). length f.slots ≤ n) (λ (f : LinkedFunction). length f.slots ≤ n + k) (λ f h. omega (arith, h)) functions p

-- one thing more in tables, which counts as one or more
module _ (n k : ℕ) (one : 1 ≤ k) (t : Tables) (w : Within n t) where
  type_more : (site : Site) (declared : Declared) → Within (n + k) (with_type t site declared)
  type_more site declared = record {
    types = omega (arith, length_push t.types declared);
    globals = omega arith;
    functions = omega arith;
    exceptions = omega arith;
    hooks = omega arith;
    slots = more_slots n k t.functions w.slots;
  }

  exception_more : (exception : LinkedException) → Within (n + k) (with_exception t exception)
  exception_more exception = record {
    types = omega arith;
    globals = omega arith;
    functions = omega arith;
    exceptions = omega (arith, length_push t.exceptions exception);
    hooks = omega arith;
    slots = more_slots n k t.functions w.slots;
  }

  global_more : (global : LinkedGlobal) → Within (n + k) (with_global t global)
  global_more global = record {
    types = omega arith;
    globals = omega (arith, length_push t.globals global);
    functions = omega arith;
    exceptions = omega arith;
    hooks = omega arith;
    slots = more_slots n k t.functions w.slots;
  }

  hook_more : (hook : LinkedHook) → Within (n + k) (with_hook t hook)
  hook_more hook = record {
    types = omega arith;
    globals = omega arith;
    functions = omega arith;
    exceptions = omega arith;
    hooks = omega (arith, length_push t.hooks hook);
    slots = more_slots n k t.functions w.slots;
  }

  function_more : (function : LinkedFunction) → length function.slots ≤ n + k → Within (n + k) (with_function t function)
  function_more function few = record {
    types = omega arith;
    globals = omega arith;
    functions = omega (arith, length_push t.functions function);
    exceptions = omega arith;
    hooks = omega arith;
    slots = All-push (λ (f : LinkedFunction). length f.slots ≤ n + k) t.functions function (more_slots n k t.functions w.slots) few;
  }

slots_within : (s : Seen) (n : ℕ) (parameters : List Parameter) (body : Body)
    → length (kinds_of (slots_view s (slots_of parameters body)) (slots_of parameters body)) ≤ n + (1 + (length parameters + body_count body))
slots_within s n parameters body =
    let slots = slots_of parameters body in
    let kinds = length-map slots (λ (p : Parameter). type_at (slots_view s slots) p.kind) in
    let both = length-append parameters body.locals in
    omega (arith, kinds, both)

type_within : (s : Seen) (n : ℕ) (name : Word) (shape : Shape) → Within n s.tables
    → Within (n + item_count (items.Type name shape)) (tables_behind s (items.Type name shape))
unfolding tables_behind
type_within s n name (shapes.Struct place fields) w = type_more n _ (omega arith) s.tables w _ _
type_within s n name (shapes.Enum place words) w = type_more n _ (omega arith) s.tables w _ _
type_within s n name (shapes.Overlay place fields) w = type_more n _ (omega arith) s.tables w _ _
type_within s n name (shapes.Exception place parent) w = exception_more n _ (omega arith) s.tables w _

item_within : (s : Seen) (n : ℕ) (item : Item) → Within n s.tables → Within (n + item_count item) (tables_behind s item)
unfolding tables_behind
item_within s n (items.Type name shape) w = type_within s n name shape w
item_within s n (items.Global kind name value) w = global_more n _ (omega arith) s.tables w _
item_within s n (items.Hook name parameters) w = hook_more n _ (omega arith) s.tables w _
item_within s n (items.HookBody name parameters priority body) w =
    function_more n _ (omega arith) s.tables w _ (slots_within s n parameters body)
item_within s n (items.Function result name parameters body) w =
    function_more n _ (omega arith) s.tables w _ (slots_within s n parameters body)

items_within : (s : Seen) (n : ℕ) (left : List Item) → Within n s.tables → (let behind = behind_all behind_item s left in Within (n + module_count left) behind.tables)
unfolding behind_all
items_within s n [] w = let none : n ≡ n + 0 = omega arith in subst (λ k. Within k s.tables) none w
items_within s n (item ∷ left) w =
    let behind = behind_all behind_item (behind_item s item) left in
    let counted : (n + item_count item) + module_count left ≡ n + module_count (item ∷ left) = omega (arith, sum_by-cons item_count item left) in
    subst (λ k. Within k behind.tables) counted (items_within (behind_item s item) (n + item_count item) left (item_within s n item w))

modules_within : (s : Seen) (n : ℕ) (left : List Module) → Within n s.tables → (let behind = behind_all behind_module s left in Within (n + modules_count left) behind.tables)
unfolding behind_all
modules_within s n [] w = let none : n ≡ n + 0 = omega arith in subst (λ k. Within k s.tables) none w
modules_within s n (m ∷ left) w =
    let behind = behind_all behind_module (behind_module s m) left in
    let counted : (n + module_count m.items) + modules_count left ≡ n + modules_count (m ∷ left) = omega (arith, sum_by-cons (λ (m : Module). module_count m.items) m left) in
    subst (λ k. Within k behind.tables) counted
    (modules_within (behind_module s m) (n + module_count m.items) left (items_within (entering s m) n m.items w))

none_within : Within 0 no_tables
none_within = record {
  types = omega arith;
  globals = omega arith;
  functions = omega arith;
  exceptions = omega arith;
  hooks = omega arith;
  slots = All-nil (λ (f : LinkedFunction). length f.slots ≤ 0);
}

pub tables_are_short : TablesAreShort
unfolding tables_of
tables_are_short modules few =
    let tables = tables_of modules in
    let w : Within (0 + modules_count modules) tables = modules_within (seen_first modules) 0 modules none_within in
    record {
      types = omega arith;
      globals = omega arith;
      functions = omega arith;
      exceptions = omega arith;
      hooks = omega arith;
      slots = All-weaker (λ (f : LinkedFunction). length f.slots ≤ 0 + modules_count modules) (λ (f : LinkedFunction). IsShort f.slots)
          (λ f h. omega (arith, h, few)) tables.functions w.slots;
    }
