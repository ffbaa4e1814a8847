-- Hooks of linked modules, as they are announced, and functions that are linked as bodies of them.
use Rattle.std.proofs.Common.{◌≡◌, refl, sym, ◌∙◌, ap, ap₂, subst, ℕ, zero, suc, ◌+◌, Bool, true, false, ◌||◌, ◌&&◌, cond, List, [], ◌∷◌, ◌++◌, length, take, append_assoc, append-nil, Option, Some, None, IsSomeAnd, arith, add-one}
use Rattle.std.specs.Prelude.{slice_get}
use Rattle.std.specs.List.{All}
use Rattle.std.proofs.lemmas.List.{length-append, length-map, length-take-le, take_all, take_more}
use Rattle.std.proofs.lemmas.List.Elements.{All-nil, All-push}
use Rattle.std.proofs.lemmas.Option.{slice_get_within, get_or_from_slice_get}
use Rattle.hilti_base.specs.declared.names.Place.{Place}
use Rattle.hilti_base.specs.declared.refusal.Refusal.{Refusal}
use Rattle.hilti_module.specs.declared.types.Name.{Name}
use Rattle.hilti_module.specs.declared.types.Number.{Number}
use Rattle.hilti_module.specs.declared.types.Word.{Word}
use Rattle.hilti_module.specs.declared.module.Body.{Body}
use Rattle.hilti_module.specs.declared.module.Item.{Item}
use Rattle.hilti_module.specs.declared.module.Item.TheVariants as items
use Rattle.hilti_module.specs.declared.module.Module.{Module}
use Rattle.hilti_module.specs.declared.module.Parameter.{Parameter}
use Rattle.hilti_module.specs.declared.module.Shape.{Shape}
use Rattle.hilti_module.specs.declared.module.Shape.TheVariants as shapes
use Rattle.hilti_scope.specs.declared.meaning.Meaning.{Meaning}
use Rattle.hilti_scope.specs.declared.meaning.Meaning.TheVariants as means
use Rattle.hilti_scope.specs.Items.{Placed, placed, placed_in, placed_from}
use Rattle.hilti_scope.specs.Meanings.{meaning_in}
use Rattle.hilti_resolve.specs.Same.{written_eq, all_same}
use Rattle.hilti_resolve.specs.Written.{Written}
use Rattle.hilti_link.specs.declared.tables.LinkedFunction.{LinkedFunction}
use Rattle.hilti_link.specs.declared.tables.LinkedHook.{LinkedHook}
use Rattle.hilti_link.specs.declared.tables.Tables.{Tables}
use Rattle.hilti_link.specs.declared.typed_words.Role.TheVariants as roles
use Rattle.hilti_link.specs.Hooks.{Announced, announced, announced_at, announced_from, all_say, has_unknown, hook_means, hook_agrees, hook_meant, hook_number}
use Rattle.hilti_link.specs.InTurn.{behind_all}
use Rattle.hilti_link.specs.Items.{Seen, view_of, item_refusal, tables_behind, declared_again, slots_of, slots_view, slots_refusal, function_of, site_of, shown}
use Rattle.hilti_link.specs.Linking.{behind_item, behind_module, entering, seen_first, seen_last, tables_of}
use Rattle.hilti_link.specs.Refusals.{first_refusal}
use Rattle.hilti_link.specs.Seeing.{qualified}
use Rattle.hilti_link.specs.TypedWords.{words_refusal, kinds_of}
use Rattle.hilti_link.proofs.ModuleItems.{behind_items}
use Rattle.hilti_link.proofs.SameWritten.{written_same}
use Rattle.hilti_declared.proofs.Accepted.{unrefused}
use Rattle.hilti_declared.proofs.Numbers.{numbered}
use Rattle.hilti_declared.proofs.Walks.{Here, neither, walked}
use Rattle.hilti_declared.proofs.Worded.{types_told, words_known, words_told, front_told, front_known}

both : (a b : Bool) → (a && b) ≡ true → (a ≡ true) × (b ≡ true)
both true b e = (refl, e)
both false b e = cc

all_same_so : (a b : List Written) → all_same a b ≡ true → a ≡ b
unfolding all_same
all_same_so [] [] same = refl
all_same_so [] (b ∷ more) same = cc
all_same_so (a ∷ rest) [] same = cc
all_same_so (a ∷ rest) (b ∷ more) same =
    let parts = both (written_eq a b) (all_same rest more) same in
    ap₂ (λ first others. first ∷ others) (written_same a b parts.0) (all_same_so rest more parts.1)

-- one item more is one hook more, if it is one
announced-push : (k : ℕ) (before : List Placed) (p : Placed) → announced_from k (before ++ p ∷ []) ≡ announced_from k before ++ announced_at (k + length before) p
unfolding announced_from
announced-push k [] p = append-nil (announced_at k p) ∙ ap (λ n. announced_at n p) (omega arith)
announced-push k (first ∷ more) p =
    ap (λ l. announced_at k first ++ l) (announced-push (suc k) more p ∙ ap (λ n. announced_from (suc k) more ++ announced_at n p) (omega arith))
    ∙ sym (append_assoc (announced_at k first) (announced_from (suc k) more) (announced_at (k + suc (length more)) p))

announced_more : (all : List Placed) (n : ℕ) (p : Placed) → slice_get all n ≡ Some p
    → announced_from 0 (take (suc n) all) ≡ announced_from 0 (take n all) ++ announced_at n p
announced_more all n p at =
    let below = slice_get_within all n p at in
    let counted = length-take-le n all (omega arith) in
    ap (λ k. announced_from 0 (take k all)) (sym (add-one n))
    ∙ ap (announced_from 0) (take_more all n p below ∙ ap (λ one. take n all ++ one ∷ []) (get_or_from_slice_get all n p p at))
    ∙ announced-push 0 (take n all) p
    ∙ ap (λ k. announced_from 0 (take n all) ++ announced_at k p) (omega (arith, counted))

module _ (modules : List Module) where
  -- no name in a hook's types means nothing, and they stand for what its parameters are
  pub record IsHook (a : Announced) (h : LinkedHook) : Type 0 where
    pub known : has_unknown (hook_means modules a) a.parameters ≡ false
    pub takes : h.parameters ≡ types_told (all_say (hook_means modules a) a.parameters)

  -- each hook is one that is announced, at the same place
  abbrev pub AreHooks : List Announced → List LinkedHook → Type 0
  AreHooks [] [] = Unit {0}
  AreHooks [] (h ∷ more) = ⊥
  AreHooks (a ∷ rest) [] = ⊥
  AreHooks (a ∷ rest) (h ∷ more) = IsHook a h × AreHooks rest more

  one_hook_more : (rest : List Announced) (more : List LinkedHook) (a : Announced) (h : LinkedHook) → AreHooks rest more → IsHook a h
      → AreHooks (rest ++ a ∷ []) (more ++ h ∷ [])
  one_hook_more [] [] a h so is = (is, tt)
  one_hook_more [] (first ∷ more) a h so is = absurd so
  one_hook_more (one ∷ rest) [] a h so is = absurd so
  one_hook_more (one ∷ rest) (first ∷ more) a h so is = (so.0, one_hook_more rest more a h so.1 is)

  hook_there : (rest : List Announced) (more : List LinkedHook) (k : ℕ) (h : LinkedHook) → AreHooks rest more → slice_get more k ≡ Some h
      → IsSomeAnd (slice_get rest k) (λ a. IsHook a h)
  hook_there [] [] k h so at = cc
  hook_there [] (first ∷ more) k h so at = absurd so
  hook_there (one ∷ rest) [] k h so at = absurd so
  hook_there (one ∷ rest) (first ∷ more) zero h so at = (let same : first ≡ h = cc in subst (IsHook one) same so.0)
  hook_there (one ∷ rest) (first ∷ more) (suc k) h so at = hook_there rest more k h so.1 at

  as_many : (rest : List Announced) (more : List LinkedHook) → AreHooks rest more → length rest ≡ length more
  as_many [] [] so = refl
  as_many [] (first ∷ more) so = absurd so
  as_many (one ∷ rest) [] so = absurd so
  as_many (one ∷ rest) (first ∷ more) so = ap (λ n. suc n) (as_many rest more so.1)

  -- a function that is a body of a hook is void, and takes what the hook's types stand for, unless a name in these means
  -- nothing
  pub record IsBody (f : LinkedFunction) (a : Announced) : Type 0 where
    pub result : f.result ≡ None
    pub takes : has_unknown (hook_means modules a) a.parameters ≡ false
        → take f.parameters f.slots ≡ types_told (all_say (hook_means modules a) a.parameters)

  abbrev pub IsBodyBy : LinkedFunction → Option ℕ → Type 0
  IsBodyBy f None = Unit {0}
  IsBodyBy f (Some n) = IsSomeAnd (slice_get (announced modules) n) (IsBody f)

  -- a function that is linked as a body is one of a hook that is announced
  abbrev pub BelongsSo : LinkedFunction → Type 0
  BelongsSo f = IsBodyBy f f.hook

  abbrev HooksSo : Seen → Type 0
  HooksSo s = AreHooks (announced_from 0 (take s.here (placed modules))) s.tables.hooks

  abbrev BodiesSo : Seen → Type 0
  BodiesSo s = All BelongsSo s.tables.functions

  -- an item that is no hook
  no_hook : (s : Seen) (item : Item) → Here modules s item → announced_at s.here (record { file = s.file; item = item }) ≡ []
      → HooksSo s → AreHooks (announced_from 0 (take (suc s.here) (placed modules))) s.tables.hooks
  no_hook s item here none so =
      subst (λ l. AreHooks l s.tables.hooks)
      (sym (announced_more (placed modules) s.here _ (numbered modules s item here)
      ∙ ap (λ l. announced_from 0 (take s.here (placed modules)) ++ l) none ∙ append-nil (announced_from 0 (take s.here (placed modules))))) so

  hook_step : (s : Seen) (name : Word) (parameters : List Parameter) → Here modules s (items.Hook name parameters)
      → item_refusal s (items.Hook name parameters) ≡ None → HooksSo s → HooksSo (behind_item s (items.Hook name parameters))
  unfolding tables_behind item_refusal
  hook_step s name parameters here none so =
      let view = view_of s in
      let parts = neither (declared_again s name) (words_refusal view roles.Slot parameters) none in
      let a : Announced = record { file = s.file; here = s.here; parameters = parameters } in
      let means_so : view.mean ≡ hook_means modules a = ap (λ ms. meaning_in ms s.file s.here []) here.modules_are in
      subst (λ l. AreHooks l (s.tables.hooks ++ record { site = site_of s name; name = qualified s.owner name.bytes; parameters = kinds_of view parameters } ∷ []))
      (sym (announced_more (placed modules) s.here _ (numbered modules s (items.Hook name parameters) here)))
      (one_hook_more (announced_from 0 (take s.here (placed modules))) s.tables.hooks a _ so
      (record {
        known = ap (λ mean. has_unknown mean parameters) (sym means_so) ∙ words_known view roles.Slot [] parameters parts.1;
        takes = words_told view roles.Slot [] parameters parts.1 ∙ ap (λ mean. types_told (all_say mean parameters)) means_so;
      }))

  type_step : (s : Seen) (name : Word) (shape : Shape) → Here modules s (items.Type name shape) → HooksSo s → HooksSo (behind_item s (items.Type name shape))
  unfolding tables_behind
  type_step s name (shapes.Struct place fields) here so = no_hook s _ here refl so
  type_step s name (shapes.Enum place words) here so = no_hook s _ here refl so
  type_step s name (shapes.Overlay place fields) here so = no_hook s _ here refl so
  type_step s name (shapes.Exception place parent) here so = no_hook s _ here refl so

  hooks_step : (s : Seen) (item : Item) → Here modules s item → item_refusal s item ≡ None → HooksSo s → HooksSo (behind_item s item)
  unfolding tables_behind
  hooks_step s (items.Type name shape) here none so = type_step s name shape here so
  hooks_step s (items.Global kind name value) here none so = no_hook s _ here refl so
  hooks_step s (items.Hook name parameters) here none so = hook_step s name parameters here none so
  hooks_step s (items.HookBody name parameters priority body) here none so = no_hook s _ here refl so
  hooks_step s (items.Function result name parameters body) here none so = no_hook s _ here refl so

  -- a body whose hook's name means its hook, and whose types say the same
  module _ (f : LinkedFunction) (mean : Name → Meaning) (parameters : List Parameter) (place : Place)
      (result : f.result ≡ None) (takes : take f.parameters f.slots ≡ types_told (all_say mean parameters)) (known : has_unknown mean parameters ≡ false) where
    same_if_known : (unknown hook_unknown same : Bool) → ((unknown || hook_unknown) || same) ≡ true → unknown ≡ false → hook_unknown ≡ false → same ≡ true
    same_if_known false false same e first second = e
    same_if_known true hook_unknown same e first second = cc
    same_if_known false true same e first second = cc

    body_agrees : (found : Option Announced) → hook_agrees modules mean parameters found ≡ true → IsSomeAnd found (IsBody f)
    body_agrees None agrees = cc
    body_agrees (Some a) agrees = record {
      result = result;
      takes = λ hook_known.
          takes ∙ ap types_told (all_same_so (all_say mean parameters) (all_say (hook_means modules a) a.parameters)
          (same_if_known (has_unknown mean parameters) (has_unknown (hook_means modules a) a.parameters) _ agrees known hook_known));
    }

    agreed : (agrees : Bool) (refusal : Refusal) → cond agrees None (Some refusal) ≡ None → agrees ≡ true
    agreed true refusal e = refl
    agreed false refusal e = cc

    body_meant : (meaning : Meaning) → hook_meant modules mean parameters place meaning ≡ None → IsBodyBy f (hook_number meaning)
    body_meant (means.Hook n) none = body_agrees (slice_get (announced modules) n) (agreed _ _ none)
    body_meant means.Nothing none = cc
    body_meant (means.Local n) none = cc
    body_meant (means.Struct n) none = cc
    body_meant (means.Enum n) none = cc
    body_meant (means.Overlay n) none = cc
    body_meant (means.Exception n) none = cc
    body_meant (means.Global n) none = cc
    body_meant (means.Function n) none = cc

  body_step : (s : Seen) (name : Name) (parameters : List Parameter) (priority : Option Number) (body : Body) → Here modules s (items.HookBody name parameters priority body)
      → item_refusal s (items.HookBody name parameters priority body) ≡ None → BodiesSo s → BodiesSo (behind_item s (items.HookBody name parameters priority body))
  unfolding tables_behind item_refusal
  body_step s name parameters priority body here none so =
      let slots = slots_of parameters body in
      let view = slots_view s slots in
      let meaning = meaning_in s.modules s.file s.here [] name in
      let parts = neither (hook_meant s.modules view.mean parameters name.first.place meaning) (slots_refusal s slots) none in
      let f = function_of s name.first (shown s.owner name) parameters body None (hook_number meaning) in
      All-push BelongsSo s.tables.functions f so
      (body_meant f view.mean parameters name.first.place refl
      (ap (take (length parameters)) (words_told view roles.Slot [] slots parts.1) ∙ front_told view.mean parameters body.locals)
      (front_known view.mean parameters body.locals (words_known view roles.Slot [] slots parts.1))
      meaning
      (ap (λ ms. hook_meant ms view.mean parameters name.first.place meaning) (sym here.modules_are) ∙ parts.0))

  type_keeps : (s : Seen) (name : Word) (shape : Shape) → BodiesSo s → BodiesSo (behind_item s (items.Type name shape))
  unfolding tables_behind
  type_keeps s name (shapes.Struct place fields) so = so
  type_keeps s name (shapes.Enum place words) so = so
  type_keeps s name (shapes.Overlay place fields) so = so
  type_keeps s name (shapes.Exception place parent) so = so

  bodies_step : (s : Seen) (item : Item) → Here modules s item → item_refusal s item ≡ None → BodiesSo s → BodiesSo (behind_item s item)
  unfolding tables_behind
  bodies_step s (items.Type name shape) here none so = type_keeps s name shape so
  bodies_step s (items.Global kind name value) here none so = so
  bodies_step s (items.Hook name parameters) here none so = so
  bodies_step s (items.HookBody name parameters priority body) here none so = body_step s name parameters priority body here none so
  bodies_step s (items.Function result name parameters body) here none so = All-push BelongsSo s.tables.functions _ so tt

  -- behind all modules all items were seen
  counted : (s : Seen) (file : ℕ) (left : List Module)
      → (let behind = behind_all behind_module s left in behind.here ≡ s.here + length (placed_from file left))
  unfolding behind_all placed_from
  counted s file [] = omega arith
  counted s file (m ∷ more) =
      let inside = behind_items (entering s m) m.items in
      let here = inside.0 in
      let rest = counted (behind_module s m) (suc file) more in
      let all = length-append (placed_in file m.items) (placed_from (suc file) more) in
      let own = length-map {B = Placed} m.items (λ item. record { file = file; item = item }) in
      omega (arith, here, rest, all, own)

  all_placed : (let last = seen_last modules in take last.here (placed modules) ≡ placed modules)
  all_placed =
      let all = counted (seen_first modules) 0 modules in
      let last = seen_last modules in
      take_all last.here (placed modules) (omega (arith, all))

  pub are_hooks_of : (tables : Tables) → tables ≡ tables_of modules → first_refusal modules ≡ None → AreHooks (announced modules) tables.hooks
  unfolding tables_of announced_from
  are_hooks_of tables is none =
      subst (λ (t : Tables). AreHooks (announced modules) t.hooks) (sym is)
      (let last = seen_last modules in subst (λ l. AreHooks (announced_from 0 l) last.tables.hooks) all_placed
      (walked modules HooksSo (λ s m so. so) (λ s so. so) hooks_step (unrefused modules none) tt))

  -- the hooks are those that are announced
  pub announced_hook : (tables : Tables) → tables ≡ tables_of modules → first_refusal modules ≡ None → (k : ℕ) (h : LinkedHook) → slice_get tables.hooks k ≡ Some h
      → IsSomeAnd (slice_get (announced modules) k) (λ a. IsHook a h)
  announced_hook tables is none k h at = hook_there (announced modules) tables.hooks k h (are_hooks_of tables is none) at

  pub announced_many : (tables : Tables) → tables ≡ tables_of modules → first_refusal modules ≡ None → length (announced modules) ≡ length tables.hooks
  announced_many tables is none = as_many (announced modules) tables.hooks (are_hooks_of tables is none)

  -- each function that is linked as a body is one of a hook that is announced
  pub bodies_belong : (tables : Tables) → tables ≡ tables_of modules → first_refusal modules ≡ None → All BelongsSo tables.functions
  unfolding tables_of
  bodies_belong tables is none =
      subst (λ (t : Tables). All BelongsSo t.functions) (sym is)
      (walked modules BodiesSo (λ s m so. so) (λ s so. so) bodies_step (unrefused modules none) (All-nil BelongsSo))
