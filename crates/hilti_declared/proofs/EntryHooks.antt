-- No hook body is shown by the name of an entry: its hook would be an item of `Main` that has the entry's name.
use Rattle.std.proofs.Common.{◌≡◌, refl, sym, ◌∙◌, ap, ap₂, ℕ, zero, suc, ◌+◌, nat_eq, nat_le, Bool, true, false, cond, List, [], ◌∷◌, ◌++◌, take, get_or, codes, Option, Some, None, arith}
use Rattle.std.specs.Prelude.{◌&&◌, bytes_eq, slice_get}
use Rattle.std.specs.List.{position}
use Rattle.std.specs.Option.{option_map, unwrap_or}
use mathlib.Core.Logic.{◌⊎◌, inl, inr}
use Rattle.std.proofs.lemmas.Bool.{eqb-true}
use Rattle.std.proofs.lemmas.List.Quantifiers.{position-Some}
use Rattle.std.proofs.lemmas.Option.{slice_get-map, slice_get-get_or}
use Rattle.std.proofs.lemmas.Slice.Eq.{bytes_eq-Decides}
use Rattle.hilti_base.specs.declared.names.Place.{Place}
use Rattle.hilti_module.specs.declared.types.Name.{Name}
use Rattle.hilti_module.specs.declared.types.Word.{Word}
use Rattle.hilti_module.specs.declared.module.Item.{Item}
use Rattle.hilti_module.specs.declared.module.Item.TheVariants as items
use Rattle.hilti_module.specs.declared.module.Module.{Module}
use Rattle.hilti_module.specs.declared.module.Parameter.{Parameter}
use Rattle.hilti_module.specs.declared.module.Shape.TheVariants as shapes
use Rattle.hilti_scope.specs.declared.meaning.Meaning.{Meaning}
use Rattle.hilti_scope.specs.declared.meaning.Meaning.TheVariants as means
use Rattle.hilti_scope.specs.Items.{Placed, placed, placed_in, placed_from, declaration, declares, declared_word, is_word, module_named}
use Rattle.hilti_scope.specs.Meanings.{declared_behind, declared_in, declared_there, seen_from, is_type, built_in, built_in_names, exception_or_nothing, meaning_in, meaning_by, meaning_in_module}
use Rattle.hilti_link.specs.Hooks.{hook_meant}
use Rattle.hilti_link.specs.Seeing.{qualified}
use Rattle.hilti_link.specs.Items.{shown_by}
use Rattle.hilti_link.specs.Entries.{is_entry}
use Rattle.hilti_declared.proofs.OfMain.{Main, no_entry_hook}
use Rattle.hilti_declared.proofs.Qualified.{has_colon, one_owner}
use Rattle.hilti_declared.proofs.Values.{both}

-- the first that passes stands at its place
pub record Found {X : Type 0} (test : X → Bool) (all : List X) (at : ℕ) : Type 0 where
  pub one : X
  pub there : slice_get all at ≡ Some one
  pub passes : test one ≡ true

pub found_at : {X : Type 0} (test : X → Bool) (all : List X) (at : ℕ) → position test all ≡ Some at → Found test all at
found_at test [] at is = cc
found_at test (x ∷ more) at is =
    let told = position-Some test (x ∷ more) at x is in
    record { one = get_or (x ∷ more) at x; there = slice_get-get_or (x ∷ more) at x told.0; passes = told.1 }

-- an element of two lists one behind the other is one of the first, or one of the second
either : {X : Type 0} (front others : List X) (n : ℕ) (x : X) → slice_get (front ++ others) n ≡ Some x
    → (slice_get front n ≡ Some x) ⊎ ((k : ℕ) × (slice_get others k ≡ Some x))
either [] others n x is = inr (n, is)
either (y ∷ front) others zero x is = inl is
either (y ∷ front) others (suc n) x is = either front others n x is

-- an item of modules stands in one of them
pub record PlacedIn (first : ℕ) (modules : List Module) (p : Placed) : Type 0 where
  pub file : ℕ
  pub owner : Module
  pub at : ℕ
  pub numbered : p.file ≡ first + file
  pub in_modules : slice_get modules file ≡ Some owner
  pub in_module : slice_get owner.items at ≡ Some p.item

placed_inside : (first : ℕ) (modules : List Module) (n : ℕ) (p : Placed) → slice_get (placed_from first modules) n ≡ Some p → PlacedIn first modules p
unfolding placed_from
placed_inside first [] n p is = cc
placed_inside first (m ∷ more) n p is =
    by (either (placed_in first m.items) (placed_from (suc first) more) n p is) (λ k at. placed_inside (suc first) more k p at)
  where
    inside : (item : Option Item) → slice_get m.items n ≡ item → option_map (λ (item : Item). record { file = first; item = item }) item ≡ Some p
        → PlacedIn first (m ∷ more) p
    inside None at told = cc
    inside (Some item) at told =
        let made : Placed = record { file = first; item = item } in
        let same : made ≡ p = cc in
        record {
          file = 0;
          owner = m;
          at = n;
          numbered = (let own = ap (λ (p : Placed). p.file) same in omega (arith, own));
          in_modules = refl;
          in_module = at ∙ ap (λ (p : Placed). Some p.item) same;
        }

    by : (slice_get (placed_in first m.items) n ≡ Some p) ⊎ ((k : ℕ) × (slice_get (placed_from (suc first) more) k ≡ Some p))
        → ((k : ℕ) → slice_get (placed_from (suc first) more) k ≡ Some p → PlacedIn (suc first) more p) → PlacedIn first (m ∷ more) p
    by (inl at) rest =
        inside (slice_get m.items n) refl (sym (slice_get-map (λ (item : Item). record { file = first; item = item }) m.items n) ∙ at)
    by (inr at) rest =
        let behind = rest at.0 at.1 in
        let numbered = behind.numbered in
        record {
          file = suc behind.file;
          owner = behind.owner;
          at = behind.at;
          numbered = omega (arith, numbered);
          in_modules = behind.in_modules;
          in_module = behind.in_module;
        }

-- a hook of this name stands in the module of this number
pub record DeclaredHook (modules : List Module) (file : ℕ) (bytes : List ℕ) : Type 0 where
  pub owner : Module
  pub at : ℕ
  pub name : Word
  pub parameters : List Parameter
  pub in_modules : slice_get modules file ≡ Some owner
  pub in_module : slice_get owner.items at ≡ Some (items.Hook name parameters)
  pub named : name.bytes ≡ bytes

abbrev IsHook : Item → Type 0
IsHook item = (name : Word) × (parameters : List Parameter) × (item ≡ items.Hook name parameters)

hook_item : (before : List Placed) (item : Item) (n : ℕ) → declared_behind before item ≡ means.Hook n → IsHook item
hook_item before (items.Hook name parameters) n e = (name, parameters, refl)
hook_item before (items.Type name (shapes.Struct place fields)) n e = cc
hook_item before (items.Type name (shapes.Enum place words)) n e = cc
hook_item before (items.Type name (shapes.Overlay place fields)) n e = cc
hook_item before (items.Type name (shapes.Exception place parent)) n e = cc
hook_item before (items.Global kind name value) n e = cc
hook_item before (items.HookBody name parameters priority body) n e = cc
hook_item before (items.Function result name parameters body) n e = cc

seen_hook : (here at : ℕ) (meaning : Meaning) (n : ℕ) → seen_from here at meaning ≡ means.Hook n → meaning ≡ means.Hook n
seen_hook here at meaning n e = by (is_type meaning && nat_le here at) e
  where
    by : (b : Bool) → cond b means.Nothing meaning ≡ means.Hook n → meaning ≡ means.Hook n
    by true e = cc
    by false e = e

module _ (modules : List Module) (here : ℕ) where
  placed_hook : (file : ℕ) (bytes : List ℕ) (p : Placed) (n : ℕ) (before : List Placed) → PlacedIn 0 modules p → declares file bytes p ≡ true
      → declared_behind before p.item ≡ means.Hook n → DeclaredHook modules file bytes
  placed_hook file bytes p n before stands passes is =
      let hook = hook_item before p.item n is in
      let told = both (nat_eq p.file file) (is_word bytes (declared_word p.item)) passes in
      let numbered = stands.numbered in
      let number : file ≡ stands.file = omega (arith, numbered, eqb-true p.file file told.0) in
      record {
        owner = stands.owner;
        at = stands.at;
        name = hook.0;
        parameters = hook.1;
        in_modules = ap (slice_get modules) number ∙ stands.in_modules;
        in_module = stands.in_module ∙ ap Some hook.2;
        named = (bytes_eq-Decides hook.0.bytes bytes).0 (ap (λ (item : Item). is_word bytes (declared_word item)) (sym hook.2) ∙ told.1);
      }

  found_hook : (file : ℕ) (bytes : List ℕ) (at n : ℕ) → declaration modules file bytes ≡ Some at → declared_there modules here (Some at) ≡ Some (means.Hook n)
      → DeclaredHook modules file bytes
  found_hook file bytes at n is told =
      let found = found_at (declares file bytes) (placed modules) at is in
      let before = take at (placed modules) in
      let there : option_map (seen_from here at) (option_map (λ (p : Placed). declared_behind before p.item) (Some found.one)) ≡ Some (means.Hook n) =
      ap (λ o. option_map (seen_from here at) (option_map (λ (p : Placed). declared_behind before p.item) o)) (sym found.there) ∙ told in
      let seen : seen_from here at (declared_behind before found.one.item) ≡ means.Hook n = cc in
      placed_hook file bytes found.one n before (placed_inside 0 modules at found.one found.there) found.passes
      (seen_hook here at (declared_behind before found.one.item) n seen)

  hook_declared : (file : ℕ) (bytes : List ℕ) (n : ℕ) → declared_in modules here file bytes ≡ Some (means.Hook n) → DeclaredHook modules file bytes
  hook_declared file bytes n told = by (declaration modules file bytes) refl told
    where
      by : (found : Option ℕ) → declaration modules file bytes ≡ found → declared_there modules here found ≡ Some (means.Hook n) → DeclaredHook modules file bytes
      by None is told = cc
      by (Some at) is told = found_hook file bytes at n is told

  built_no_hook : (bytes : List ℕ) (n : ℕ) → built_in bytes ≡ means.Hook n → ⊥
  built_no_hook bytes n e = by (position (λ word. bytes_eq word bytes) built_in_names) e
    where
      by : (found : Option ℕ) → exception_or_nothing found ≡ means.Hook n → ⊥
      by None e = cc
      by (Some m) e = cc

  or_built : (bytes : List ℕ) (n : ℕ) (told : Option Meaning) → unwrap_or told (built_in bytes) ≡ means.Hook n → told ≡ Some (means.Hook n)
  or_built bytes n None e = absurd (built_no_hook bytes n e)
  or_built bytes n (Some meaning) e = ap Some e

  or_nothing : (n : ℕ) (told : Option Meaning) → unwrap_or told means.Nothing ≡ means.Hook n → told ≡ Some (means.Hook n)
  or_nothing n None e = cc
  or_nothing n (Some meaning) e = ap Some e

  -- a name that is shown as this one in this module, and that means a hook
  shown_hook : (file : ℕ) (owner : List ℕ) (main : ℕ) (word : List ℕ) (n : ℕ) (first : Word) (second : Option Word)
      → (owner ≡ codes "Main" → file ≡ main) → module_named modules (codes "Main") ≡ Some main → has_colon word ≡ false
      → shown_by owner first second ≡ qualified (codes "Main") word → meaning_by modules file here [] first second ≡ means.Hook n
      → DeclaredHook modules main word
  shown_hook file owner main word n first None own named plain is told =
      let parts = one_owner owner first.bytes (codes "Main") word refl plain is in
      hook_declared main word n
      (ap₂ (declared_in modules here) (sym (own parts.0)) (sym parts.1)
      ∙ or_built first.bytes n (declared_in modules here file first.bytes) told)
  shown_hook file owner main word n first (Some second) own named plain is told =
      let parts = one_owner first.bytes second.bytes (codes "Main") word refl plain is in
      let there = ap (module_named modules) parts.0 ∙ named in
      hook_declared main word n
      (ap (declared_in modules here main) (sym parts.1)
      ∙ or_nothing n (declared_in modules here main second.bytes)
      (ap (λ o. meaning_in_module modules here o second.bytes) (sym there) ∙ told))

meant : (modules : List Module) (mean : Name → Meaning) (parameters : List Parameter) (place : Place) (meaning : Meaning)
    → hook_meant modules mean parameters place meaning ≡ None → (n : ℕ) × (meaning ≡ means.Hook n)
meant modules mean parameters place (means.Hook n) e = (n, refl)
meant modules mean parameters place means.Nothing e = cc
meant modules mean parameters place (means.Local slot) e = cc
meant modules mean parameters place (means.Struct n) e = cc
meant modules mean parameters place (means.Enum n) e = cc
meant modules mean parameters place (means.Overlay n) e = cc
meant modules mean parameters place (means.Exception n) e = cc
meant modules mean parameters place (means.Global n) e = cc
meant modules mean parameters place (means.Function n) e = cc

-- a body for a hook isn't shown by the name of an entry
pub no_entry_body : (modules : List Module) (main : Main modules) (here file : ℕ) (owner word : List ℕ) (name : Name) (mean : Name → Meaning) (parameters : List Parameter)
    → (owner ≡ codes "Main" → file ≡ main.file) → is_entry word ≡ true → has_colon word ≡ false
    → shown_by owner name.first name.second ≡ qualified (codes "Main") word
    → hook_meant modules mean parameters name.first.place (meaning_in modules file here [] name) ≡ None → ⊥
unfolding meaning_in
no_entry_body modules main here file owner word name mean parameters own entry plain is none =
    let hook = meant modules mean parameters name.first.place (meaning_in modules file here [] name) none in
    let declared = shown_hook modules here file owner main.file word hook.0 name.first name.second own main.named plain is hook.1 in
    let in_modules = declared.in_modules in
    let there = main.there in
    let same : main.module_is ≡ declared.owner = cc in
    let inside = ap (λ (m : Module). slice_get m.items declared.at) same ∙ declared.in_module in
    no_entry_hook declared.name declared.parameters (main.accepted declared.at (items.Hook declared.name declared.parameters) inside)
    (ap is_entry declared.named ∙ entry)
