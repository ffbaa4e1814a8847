-- The modules, linked one after another.
use Rattle.std.proofs.Common.{◌≡◌, refl, sym, ◌∙◌, ap, subst, ℕ, suc, ◌+◌, ◌<◌, ◌≤◌, List, ◌∷◌, length, drop, get_or, None, arith, add-one}
use Rattle.std.specs.Option.{option_or}
use Rattle.std.proofs.lemmas.List.{length-append, length-map, at_drop_more}
use Rattle.hilti_base.specs.declared.refusal.Refusal.{Refusal}
use Rattle.hilti_module.specs.declared.module.Module.{Module}
use Rattle.hilti_scope.specs.Items.{placed, placed_in, placed_from}
use Rattle.hilti_link.specs.declared.tables.Tables.{Tables}
use Rattle.hilti_link.specs.Items.{Seen}
use Rattle.hilti_link.specs.Linking.{no_tables, entering, behind_module, module_refusal, head_refusal, items_refusal, seen_first, modules_refusal, tables_of}
use Rattle.hilti_link.specs.declared.standing.Context.{Context}
use Rattle.hilti_link.specs.Standings.{IsContext, Enters, tables_behind_module}
use Rattle.hilti_link.proofs.Answering.{Refused, answers_or, answers_behind, loop_refuses}
use Rattle.hilti_link.proofs.Turns.{Going, going_first, going_end, behind_end, loop_more, loop_end}
use Rattle.hilti_link.proofs.ModuleItems.{behind_items}

-- so many items are left from a module on
abbrev pub left_from : ℕ → List Module → ℕ
left_from file modules = length (placed_from file modules)

-- what the module at a place sees, and what is left from it on
pub record ModulesSo (modules : List Module) (file here : ℕ) (tables : Tables) (state : Seen) : Type 0 where
  pub going : Going module_refusal behind_module (seen_first modules) modules state (drop file modules)
  pub modules_are : state.modules ≡ modules
  pub file_is : state.file ≡ file
  pub here_is : state.here ≡ here
  pub tables_are : state.tables ≡ tables
  pub room : here + left_from file (drop file modules) ≡ length (placed modules)

abbrev pub ModulesGo : List Module → ℕ → ℕ → Tables → Type 0
ModulesGo modules file here tables = (state : Seen) × ModulesSo modules file here tables state

pub modules_start : (modules : List Module) (tables : Tables) → tables ≡ no_tables → ModulesGo modules 0 0 tables
modules_start modules tables is = (
  seen_first modules,
  record {
    going = going_first module_refusal behind_module (seen_first modules) modules;
    modules_are = refl;
    file_is = refl;
    here_is = refl;
    tables_are = sym is;
    room = omega arith;
  },
)

left_one : (file : ℕ) (m : Module) (more : List Module) → left_from file (m ∷ more) ≡ length m.items + left_from (suc file) more
unfolding placed_from
left_one file m more =
    length-append (placed_in file m.items) (placed_from (suc file) more)
    ∙ ap (λ n. n + left_from (suc file) more) (length-map m.items (λ item. record { file = file; item = item }))

left_at : (modules : List Module) (file : ℕ) (m : Module) → file < length modules → m ≡ get_or modules file m
    → left_from file (drop file modules) ≡ length m.items + left_from (suc file) (drop (file + 1) modules)
left_at modules file m below is =
    at_drop_more (left_from file) modules file m below
    ∙ ap (λ m. left_from file (m ∷ drop (file + 1) modules)) (sym is)
    ∙ left_one file m (drop (file + 1) modules)

-- a module has room for its items
pub module_room : (modules : List Module) (file here : ℕ) (tables : Tables) (m : Module) → file < length modules → m ≡ get_or modules file m
    → (state : Seen) → ModulesSo modules file here tables state → here + length m.items ≤ length (placed modules)
module_room modules file here tables m below is state so =
    let left = left_at modules file m below is in
    let room = so.room in
    omega arith

judged : (seen : Seen) (m : Module) → head_refusal seen m ≡ None → items_refusal (entering seen m) m.items ≡ None → module_refusal seen m ≡ None
judged seen m named inside = ap (λ named. option_or named (items_refusal (entering seen m) m.items)) named ∙ inside

pub modules_more : (modules : List Module) (file here : ℕ) (tables new : Tables) (m : Module) → file < length modules → m ≡ get_or modules file m
    → (state : Seen) → ModulesSo modules file here tables state → head_refusal state m ≡ None → items_refusal (entering state m) m.items ≡ None
    → new ≡ tables_behind_module state m → ModulesGo modules (file + 1) (here + length m.items) new
modules_more modules file here tables new m below is state so named inside made =
    let behind = behind_items (entering state m) m.items in (
      behind_module state m,
      record {
        going = loop_more module_refusal behind_module (seen_first modules) modules state modules file m below is (judged state m named inside) so.going;
        modules_are = behind.2 ∙ so.modules_are;
        file_is = ap (λ n. suc n) (behind.1 ∙ so.file_is) ∙ sym (add-one file);
        here_is = behind.0 ∙ ap (λ n. n + length m.items) so.here_is;
        tables_are = sym made;
        room = (let left = left_at modules file m below is in let room = so.room in let one = add-one file in ap (λ n. here + length m.items + left_from n (drop (file + 1) modules)) one ∙ omega (arith, left, room));
      },
    )

pub modules_end : (modules : List Module) (file here : ℕ) (tables : Tables) → length modules ≤ file → (state : Seen) → ModulesSo modules file here tables state
    → (modules_refusal modules ≡ None) × (tables ≡ tables_of modules)
unfolding tables_of
modules_end modules file here tables past state so =
    let over = loop_end module_refusal behind_module (seen_first modules) modules state modules file past so.going in (
      going_end module_refusal behind_module (seen_first modules) modules state over,
      sym so.tables_are ∙ ap (λ (behind : Seen). behind.tables) (behind_end module_refusal behind_module (seen_first modules) modules state over),
    )

-- a module is refused at its head, or one of its items is
pub modules_refuse_named : (modules : List Module) (file here : ℕ) (tables : Tables) (m : Module) (e : Refusal) → file < length modules → m ≡ get_or modules file m
    → (state : Seen) → ModulesSo modules file here tables state → Refused e (head_refusal state m) → Refused e (modules_refusal modules)
modules_refuse_named modules file here tables m e below is state so refused =
    loop_refuses module_refusal behind_module (seen_first modules) modules state modules file m e below is
    (answers_or e (head_refusal state m) (items_refusal (entering state m) m.items) refused) so.going

pub modules_refuse_inside : (modules : List Module) (file here : ℕ) (tables : Tables) (m : Module) (e : Refusal) → file < length modules → m ≡ get_or modules file m
    → (state : Seen) → ModulesSo modules file here tables state → head_refusal state m ≡ None → Refused e (items_refusal (entering state m) m.items) → Refused e (modules_refusal modules)
modules_refuse_inside modules file here tables m e below is state so none refused =
    loop_refuses module_refusal behind_module (seen_first modules) modules state modules file m e below is
    (answers_behind e (head_refusal state m) (items_refusal (entering state m) m.items) none refused) so.going

-- a module that is lent from a slice is one of them
pub lent_below : (lent modules : List Module) (file : ℕ) → lent ≡ modules → file < length lent → file < length modules
lent_below lent modules file same below = let same_length = ap length same in omega arith

pub lent_over : (lent modules : List Module) (file : ℕ) → lent ≡ modules → length lent ≤ file → length modules ≤ file
lent_over lent modules file same past = let same_length = ap length same in omega arith

pub lent_is : (lent modules : List Module) (file : ℕ) (m : Module) → lent ≡ modules → m ≡ get_or lent file m → m ≡ get_or modules file m
lent_is lent modules file m same is = is ∙ ap (λ lent. get_or lent file m) same

pub context_so : (modules : List Module) (file here : ℕ) (tables : Tables) (state : Seen) → ModulesSo modules file here tables state → (context : Context)
    → IsContext modules context → IsContext state.modules context
context_so modules file here tables state so context is = subst (λ modules. IsContext modules context) (sym so.modules_are) is

pub enters_so : (modules : List Module) (file here : ℕ) (tables : Tables) (state : Seen) → ModulesSo modules file here tables state → Enters state file here
enters_so modules file here tables state so = record { file_is = sym so.file_is; here_is = sym so.here_is }

-- so many items were counted
pub further : (modules : List Module) (file here many counted : ℕ) (tables : Tables) → counted ≡ many → ModulesGo modules (file + 1) (here + many) tables → ModulesGo modules (file + 1) (here + counted) tables
further modules file here many counted tables same go = subst (λ many. ModulesGo modules (file + 1) (here + many) tables) (sym same) go
