-- The entries of `Main` are among the functions of linked modules, as they are asked.
use Rattle.std.proofs.Common.{◌≡◌, refl, sym, ◌∙◌, ap, ap₂, subst, ℕ, zero, suc, Bool, true, false, cond, List, [], ◌∷◌, ◌++◌, length, take, drop, map, codes, Option, Some, None, IsSomeAnd}
use Rattle.std.specs.Prelude.{◌||◌, bytes_eq, slice_get, IfSome}
use Rattle.std.specs.List.{All, list_any, position, position_or_len}
use Rattle.std.specs.Option.{option_map, is_some}
use Rattle.std.proofs.lemmas.Bool.{false≢true, lt-ltb}
use Rattle.std.proofs.lemmas.List.{length-map, map-append}
use Rattle.std.proofs.lemmas.List.Elements.{All-nil, All-push}
use Rattle.std.proofs.lemmas.List.Folds.{list_any-append}
use Rattle.std.proofs.lemmas.Option.{get_or_from_slice_get, slice_get_within, none-some}
use Rattle.std.proofs.lemmas.Slice.Eq.{bytes_eq-Decides}
use Rattle.std.proofs.Math.Seq.{take-append_seam}
use Rattle.hilti_module.specs.declared.types.Name.{Name}
use Rattle.hilti_module.specs.declared.types.Number.{Number}
use Rattle.hilti_module.specs.declared.types.TypeText.{TypeText}
use Rattle.hilti_module.specs.declared.types.Word.{Word}
use Rattle.hilti_module.specs.declared.module.Body.{Body}
use Rattle.hilti_module.specs.declared.module.Item.{Item}
use Rattle.hilti_module.specs.declared.module.Item.TheVariants as items
use Rattle.hilti_module.specs.declared.module.Module.{Module}
use Rattle.hilti_module.specs.declared.module.Parameter.{Parameter}
use Rattle.hilti_module.specs.declared.module.Shape.{Shape}
use Rattle.hilti_module.specs.declared.module.Shape.TheVariants as shapes
use Rattle.hilti_types.specs.declared.value_type.ValueType.{ValueType}
use Rattle.hilti_types.specs.declared.value_type.ValueType.TheVariants as types
use Rattle.hilti_scope.specs.Meanings.{meaning_in}
use Rattle.hilti_link.specs.declared.tables.LinkedFunction.{LinkedFunction}
use Rattle.hilti_link.specs.Entries.{declares_packet, entries_refusal, is_entry}
use Rattle.hilti_link.specs.Hooks.{hook_meant, hook_number}
use Rattle.hilti_link.specs.InTurn.{behind_all}
use Rattle.hilti_link.specs.Items.{Seen, item_refusal, tables_behind, view_of, shown, slots_of, slots_view, slots_refusal, function_of}
use Rattle.hilti_link.specs.Linking.{behind_item, behind_module, entering, modules_refusal, seen_first, tables_of}
use Rattle.hilti_link.specs.Refusals.{first_refusal}
use Rattle.hilti_link.specs.Seeing.{qualified, type_at}
use Rattle.hilti_link.specs.TypedWords.{names_of, kinds_of}
use Rattle.hilti_parts.specs.declared.parts.Block.{Block}
use Rattle.hilti_parts.specs.declared.parts.Function.{Function}
use Rattle.hilti_typing.specs.Context.{Signature}
use Rattle.hilti_typing.specs.Programs.{signature, function_named, packet_signature, bare_signature, IsEntry}
use Rattle.hilti_declared.specs.Declaring as given
use Rattle.hilti_declared.specs.Declaring.{functions_with, declared_parts}
use Rattle.hilti_declared.specs.Laws.{EntriesAreThere, HookBodiesAreLinked}
use Rattle.hilti_declared.specs.Turns.{first_or_none}
use Rattle.hilti_declared.proofs.EntryHooks.{found_at, no_entry_body}
use Rattle.hilti_declared.proofs.EntryKinds.{kinds_asked, entry_kinds}
use Rattle.hilti_declared.proofs.OfMain.{Main, main_there, file_of_main, item_of_main, function_asked}
use Rattle.hilti_declared.proofs.Qualified.{has_colon, one_owner}
use Rattle.hilti_declared.proofs.Accepted.{unrefused}
use Rattle.hilti_declared.proofs.Values.{first_within}
use Rattle.hilti_declared.proofs.Walks.{Here, neither, walked}

-- a function is as the entry of this name is asked to be
record AsAsked (word : List ℕ) (f : LinkedFunction) : Type 0 where
  takes : take f.parameters f.slots ≡ kinds_asked word
  void : f.result ≡ None
  no_body : f.hook ≡ None

-- a function of the name of an entry of `Main` is as it is asked
abbrev EntrySo : LinkedFunction → Type 0
EntrySo f = (word : List ℕ) → is_entry word ≡ true → has_colon word ≡ false → f.name ≡ qualified (codes "Main") word → AsAsked word f

-- the parameters stand in front of the locals
front_kinds : (s : Seen) (parameters : List Parameter) (body : Body) (kinds : List ValueType)
    → (let view = slots_view s (slots_of parameters body) in kinds_of view parameters ≡ kinds)
    → take (length parameters) (kinds_of (slots_view s (slots_of parameters body)) (slots_of parameters body)) ≡ kinds
front_kinds s parameters body kinds is =
    let kind = λ (p : Parameter). type_at (slots_view s (slots_of parameters body)) p.kind in
    ap (take (length parameters)) (map-append kind parameters body.locals)
    ∙ ap (λ n. take n (map kind parameters ++ map kind body.locals)) (sym (length-map parameters kind))
    ∙ take-append_seam (map kind parameters) (map kind body.locals) ∙ is

module _ (modules : List Module) (main : Main modules) where
  abbrev AllSo : Seen → Type 0
  AllSo s = All EntrySo s.tables.functions

  function_so : (s : Seen) (result : Option TypeText) (name : Word) (parameters : List Parameter) (body : Body)
      → Here modules s (items.Function result name parameters body)
      → EntrySo (function_of s name (qualified s.owner name.bytes) parameters body (option_map (type_at (view_of s)) result) None)
  function_so s result name parameters body here word entry plain is =
      let item = items.Function result name parameters body in
      let parts = one_owner s.owner name.bytes (codes "Main") word refl plain is in
      let accepted = main.accepted s.at item (item_of_main modules main s item here parts.0) in
      let told = function_asked result name parameters body accepted (ap is_entry parts.1 ∙ entry) in
      record {
        takes = front_kinds s parameters body (kinds_asked word)
            (entry_kinds (slots_view s (slots_of parameters body)) name.bytes parameters told.1 ∙ ap kinds_asked parts.1);
        void = ap (option_map (type_at (view_of s))) told.0;
        no_body = refl;
      }

  hook_body_so : (s : Seen) (name : Name) (parameters : List Parameter) (priority : Option Number) (body : Body)
      → Here modules s (items.HookBody name parameters priority body) → item_refusal s (items.HookBody name parameters priority body) ≡ None
      → EntrySo (function_of s name.first (shown s.owner name) parameters body None (hook_number (meaning_in s.modules s.file s.here [] name)))
  unfolding item_refusal
  hook_body_so s name parameters priority body here none word entry plain is =
      let item = items.HookBody name parameters priority body in
      let slots = slots_of parameters body in
      let inside = meaning_in s.modules s.file s.here (names_of slots) in
      let meant = (neither (hook_meant s.modules inside parameters name.first.place (meaning_in s.modules s.file s.here [] name)) (slots_refusal s slots) none).0 in
      absurd (no_entry_body modules main s.here s.file s.owner word name inside parameters (λ owned. file_of_main modules main s item here owned) entry plain is
      (ap (λ ms. hook_meant ms inside parameters name.first.place (meaning_in ms s.file s.here [] name)) (sym here.modules_are) ∙ meant))

  type_step : (s : Seen) (name : Word) (shape : Shape) → AllSo s → AllSo (behind_item s (items.Type name shape))
  unfolding tables_behind
  type_step s name (shapes.Struct place fields) p = p
  type_step s name (shapes.Enum place words) p = p
  type_step s name (shapes.Overlay place fields) p = p
  type_step s name (shapes.Exception place parent) p = p

  so_step : (s : Seen) (item : Item) → Here modules s item → item_refusal s item ≡ None → AllSo s → AllSo (behind_item s item)
  unfolding tables_behind
  so_step s (items.Type name shape) here none p = type_step s name shape p
  so_step s (items.Global kind name value) here none p = p
  so_step s (items.Hook name parameters) here none p = p
  so_step s (items.HookBody name parameters priority body) here none p =
      All-push EntrySo s.tables.functions _ p (hook_body_so s name parameters priority body here none)
  so_step s (items.Function result name parameters body) here none p =
      All-push EntrySo s.tables.functions _ p (function_so s result name parameters body here)

  all_so : modules_refusal modules ≡ None → (let tables = tables_of modules in All EntrySo tables.functions)
  unfolding tables_of
  all_so none = walked modules AllSo (λ s m p. p) (λ s p. p) so_step none (All-nil EntrySo)

-- `Main::packet` is among the functions
abbrev is_packet : LinkedFunction → Bool
is_packet f = bytes_eq f.name (codes "Main::packet")

abbrev has_packet : Seen → Bool
has_packet s = list_any is_packet s.tables.functions

or_either : (a b : Bool) → a ≡ true → (a || b) ≡ true
or_either true b is = refl
or_either false b is = absurd (false≢true is)

or_other : (a b : Bool) → b ≡ true → (a || b) ≡ true
or_other true b is = refl
or_other false b is = is

pushed_kept : (fs : List LinkedFunction) (f : LinkedFunction) → list_any is_packet fs ≡ true → list_any is_packet (fs ++ f ∷ []) ≡ true
pushed_kept fs f is = list_any-append is_packet fs (f ∷ []) ∙ or_either (list_any is_packet fs) (list_any is_packet (f ∷ [])) is

pushed_new : (fs : List LinkedFunction) (f : LinkedFunction) → is_packet f ≡ true → list_any is_packet (fs ++ f ∷ []) ≡ true
pushed_new fs f is =
    list_any-append is_packet fs (f ∷ []) ∙ or_other (list_any is_packet fs) (list_any is_packet (f ∷ [])) (or_either (is_packet f) false is)

shape_keeps : (s : Seen) (name : Word) (shape : Shape) → has_packet s ≡ true → has_packet (behind_item s (items.Type name shape)) ≡ true
unfolding tables_behind
shape_keeps s name (shapes.Struct place fields) p = p
shape_keeps s name (shapes.Enum place words) p = p
shape_keeps s name (shapes.Overlay place fields) p = p
shape_keeps s name (shapes.Exception place parent) p = p

item_keeps : (s : Seen) (item : Item) → has_packet s ≡ true → has_packet (behind_item s item) ≡ true
unfolding tables_behind
item_keeps s (items.Type name shape) p = shape_keeps s name shape p
item_keeps s (items.Global kind name value) p = p
item_keeps s (items.Hook name parameters) p = p
item_keeps s (items.HookBody name parameters priority body) p = pushed_kept s.tables.functions _ p
item_keeps s (items.Function result name parameters body) p = pushed_kept s.tables.functions _ p

items_keep : (s : Seen) (left : List Item) → has_packet s ≡ true → has_packet (behind_all behind_item s left) ≡ true
unfolding behind_all
items_keep s [] p = p
items_keep s (item ∷ left) p = items_keep (behind_item s item) left (item_keeps s item p)

modules_keep : (s : Seen) (left : List Module) → has_packet s ≡ true → has_packet (behind_all behind_module s left) ≡ true
unfolding behind_all
modules_keep s [] p = p
modules_keep s (m ∷ left) p = modules_keep (behind_module s m) left (items_keep (entering s m) m.items p)

packet_name : (owner word : List ℕ) → owner ≡ codes "Main" → bytes_eq word (codes "packet") ≡ true → bytes_eq (qualified owner word) (codes "Main::packet") ≡ true
packet_name owner word owned is =
    (bytes_eq-Decides (qualified owner word) (codes "Main::packet")).1 (ap₂ qualified owned ((bytes_eq-Decides word (codes "packet")).0 is))

item_gives : (s : Seen) (item : Item) → s.owner ≡ codes "Main" → declares_packet item ≡ true → has_packet (behind_item s item) ≡ true
unfolding tables_behind
item_gives s (items.Function result name parameters body) owned is = pushed_new s.tables.functions _ (packet_name s.owner name.bytes owned is)
item_gives s _ owned is = absurd (false≢true is)

items_give : (s : Seen) (left : List Item) → s.owner ≡ codes "Main" → list_any declares_packet left ≡ true → has_packet (behind_all behind_item s left) ≡ true
unfolding behind_all
items_give s [] owned is = absurd (false≢true is)
items_give s (item ∷ left) owned is = by (declares_packet item) refl is (λ more. items_give (behind_item s item) left owned more)
  where
    by : (b : Bool) → declares_packet item ≡ b → (b || list_any declares_packet left) ≡ true
        → (list_any declares_packet left ≡ true → has_packet (behind_all behind_item (behind_item s item) left) ≡ true)
        → has_packet (behind_all behind_item (behind_item s item) left) ≡ true
    by true here is rest = items_keep (behind_item s item) left (item_gives s item owned here)
    by false here is rest = rest is

modules_give : (s : Seen) (left : List Module) (n : ℕ) (m : Module) → slice_get left n ≡ Some m → m.name.bytes ≡ codes "Main"
    → list_any declares_packet m.items ≡ true → has_packet (behind_all behind_module s left) ≡ true
unfolding behind_all
modules_give s [] n m at owned is = cc
modules_give s (one ∷ left) zero m at owned is =
    let same : one ≡ m = cc in
    modules_keep (behind_module s one) left
    (items_give (entering s one) one.items (ap (λ (m : Module). m.name.bytes) same ∙ owned) (ap (λ (m : Module). list_any declares_packet m.items) same ∙ is))
modules_give s (one ∷ left) (suc n) m at owned is = modules_give (behind_module s one) left n m at owned is

packet_there : (modules : List Module) → Main modules → (let tables = tables_of modules in list_any is_packet tables.functions ≡ true)
unfolding tables_of
packet_there modules main =
    let found = found_at (λ (m : Module). bytes_eq m.name.bytes (codes "Main")) modules main.file main.named in
    let named = found.there in
    let there = main.there in
    let same : found.one ≡ main.module_is = cc in
    modules_give (seen_first modules) modules main.file found.one found.there
    ((bytes_eq-Decides found.one.name.bytes (codes "Main")).0 found.passes)
    (ap (λ (m : Module). list_any declares_packet m.items) same ∙ main.packet)

-- functions get their blocks, and keep their places and names
named_alike : (name : List ℕ) (fs : List LinkedFunction) (blocks : List (List Block))
    → list_any (λ (f : Function). bytes_eq f.name name) (functions_with fs blocks) ≡ list_any (λ (f : LinkedFunction). bytes_eq f.name name) fs
unfolding functions_with
named_alike name [] blocks = refl
named_alike name (f ∷ more) blocks = ap (λ b. bytes_eq f.name name || b) (named_alike name more (drop 1 blocks))

given_at : (fs : List LinkedFunction) (blocks : List (List Block)) (n : ℕ) (g : Function) → slice_get (functions_with fs blocks) n ≡ Some g
    → (f : LinkedFunction) × (own : List Block) × (slice_get fs n ≡ Some f) × (g ≡ given.function_of f own)
unfolding functions_with
given_at [] blocks n g at = cc
given_at (f ∷ more) blocks zero g at = (f, first_or_none blocks, refl, cc)
given_at (f ∷ more) blocks (suc n) g at = given_at more (drop 1 blocks) n g at

all_at : {X : Type 0} (P : X → Type 0) (all : List X) (n : ℕ) (x : X) → All P all → slice_get all n ≡ Some x → P x
all_at P all n x each at = subst P (get_or_from_slice_get all n x x at) (each n x (slice_get_within all n x at))

-- where one passes, the first that passes is there
some_place : {X : Type 0} (test : X → Bool) (all : List X) (P : ℕ → Type 0) → list_any test all ≡ true → ((n : ℕ) → position test all ≡ Some n → P n)
    → IsSomeAnd (position test all) P
some_place test all P there so = by (position test all) refl
  where
    by : (o : Option ℕ) → position test all ≡ o → IsSomeAnd o P
    by (Some n) is = so n is
    by None is =
        let at = position_or_len test all in
        let within = lt-ltb at (length all) (first_within test all there) in
        let found : position test all ≡ Some at = ap (λ (b : Bool). cond b (Some at) None) within in
        absurd (none-some at (sym is ∙ found))

any_place : (o : Option ℕ) (P : ℕ → Type 0) → ((n : ℕ) → o ≡ Some n → P n) → IfSome o P
any_place None P so = tt
any_place (Some n) P so = so n refl

abbrev taking : List ValueType → Option ValueType → Signature
taking kinds result = record { parameters = kinds; result = result }

module _ (linked : HookBodiesAreLinked) (modules : List Module) (blocks : List (List Block)) (none : first_refusal modules ≡ None) where
  main_is : Main modules
  unfolding first_refusal
  main_is = main_there modules (neither (modules_refusal modules) (entries_refusal modules) none).1

  entry_so : (word : List ℕ) (kinds : List ValueType) → is_entry word ≡ true → has_colon word ≡ false → kinds_asked word ≡ kinds → (n : ℕ)
      → (let parts = declared_parts modules blocks in function_named parts (qualified (codes "Main") word) ≡ Some n
      → IsEntry parts (taking kinds None) n)
  entry_so word kinds entry plain asked n is =
      let parts = declared_parts modules blocks in
      let tables = tables_of modules in
      let name = qualified (codes "Main") word in
      let found = found_at (λ (f : Function). bytes_eq f.name name) parts.functions n is in
      let own = given_at tables.functions blocks n found.one found.there in
      let named = sym (ap (λ (f : Function). f.name) own.3) ∙ (bytes_eq-Decides found.one.name name).0 found.passes in
      let so = all_at EntrySo tables.functions n own.0 (all_so modules main_is (unrefused modules none)) own.2 word entry plain named in
      record {
        takes = ap (option_map signature) found.there ∙ ap (λ (f : Function). Some (signature f)) own.3
            ∙ ap₂ (λ p r. Some (taking p r)) (so.takes ∙ asked) so.void;
        no_body = linked modules blocks none n own.0 own.2 ∙ ap is_some so.no_body;
      }

pub entries : HookBodiesAreLinked → EntriesAreThere
entries linked modules blocks none =
    let parts = declared_parts modules blocks in
    let tables = tables_of modules in
    let main = main_is linked modules blocks none in
    let name = codes "Main::packet" in
    record {
      packet = some_place (λ (f : Function). bytes_eq f.name name) parts.functions (IsEntry parts packet_signature)
          (named_alike name tables.functions blocks ∙ packet_there modules main)
          (entry_so linked modules blocks none (codes "packet") (types.Time ∷ types.Bytes ∷ []) refl refl refl);
      init = any_place (function_named parts (codes "Main::init")) (IsEntry parts bare_signature)
          (entry_so linked modules blocks none (codes "init") [] refl refl refl);
      done = any_place (function_named parts (codes "Main::done")) (IsEntry parts bare_signature)
          (entry_so linked modules blocks none (codes "done") [] refl refl refl);
    }
