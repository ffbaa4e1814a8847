-- The module `Main` of linked modules, whose entries are as they are asked.
use Rattle.std.proofs.Common.{◌≡◌, refl, sym, ◌∙◌, ap, subst, ℕ, zero, suc, Bool, true, false, cond, List, [], ◌∷◌, map, codes, Option, Some, None}
use Rattle.std.specs.Prelude.{slice_get}
use Rattle.std.specs.List.{list_any}
use Rattle.std.proofs.lemmas.Bool.{false≢true, eqb-true}
use Rattle.hilti_module.specs.declared.types.TypeText.{TypeText}
use Rattle.hilti_module.specs.declared.types.Word.{Word}
use Rattle.hilti_module.specs.declared.module.Body.{Body}
use Rattle.hilti_module.specs.declared.module.Item.{Item}
use Rattle.hilti_module.specs.declared.module.Item.TheVariants as items
use Rattle.hilti_module.specs.declared.module.Module.{Module}
use Rattle.hilti_module.specs.declared.module.Parameter.{Parameter}
use Rattle.hilti_scope.specs.Items.{module_named}
use Rattle.hilti_resolve.specs.Names.{first_of}
use Rattle.hilti_link.specs.Entries.{entries_refusal, entries_of, main_of, no_packet, declares_packet, entry_refusal, entry_by, is_entry, as_asked, asked, unless}
use Rattle.hilti_link.specs.Items.{Seen}
use Rattle.hilti_link.specs.Linking.{is_own}
use Rattle.hilti_declared.proofs.Walks.{Here, neither}

-- the first module of this name declares `packet`, and none of its entries is refused
pub record Main (modules : List Module) : Type 0 where
  pub file : ℕ
  pub module_is : Module
  pub named : module_named modules (codes "Main") ≡ Some file
  pub there : slice_get modules file ≡ Some module_is
  pub packet : list_any declares_packet module_is.items ≡ true
  pub accepted : (at : ℕ) (item : Item) → slice_get module_is.items at ≡ Some item → entry_refusal item ≡ None

all_accepted : (inside : List Item) → first_of (map entry_refusal inside) ≡ None → (at : ℕ) (item : Item) → slice_get inside at ≡ Some item
    → entry_refusal item ≡ None
unfolding first_of
all_accepted [] none at item is = cc
all_accepted (one ∷ more) none zero item is =
    let same : item ≡ one = cc in
    ap entry_refusal same ∙ (neither (entry_refusal one) (first_of (map entry_refusal more)) none).0
all_accepted (one ∷ more) none (suc at) item is =
    all_accepted more (neither (entry_refusal one) (first_of (map entry_refusal more)) none).1 at item is

module _ (modules : List Module) where
  tested : (file : ℕ) (m : Module) (b : Bool) → module_named modules (codes "Main") ≡ Some file → slice_get modules file ≡ Some m
      → list_any declares_packet m.items ≡ b → cond b (first_of (map entry_refusal m.items)) no_packet ≡ None → Main modules
  tested file m true named there packet none = record {
    file = file;
    module_is = m;
    named = named;
    there = there;
    packet = packet;
    accepted = all_accepted m.items none;
  }
  tested file m false named there packet none = cc

  standing : (file : ℕ) (m : Option Module) → module_named modules (codes "Main") ≡ Some file → slice_get modules file ≡ m → entries_of m ≡ None → Main modules
  standing file None named there none = cc
  standing file (Some m) named there none = tested file m (list_any declares_packet m.items) named there refl none

  found : (file : Option ℕ) → module_named modules (codes "Main") ≡ file → entries_of (main_of modules file) ≡ None → Main modules
  found None named none = cc
  found (Some file) named none = standing file (slice_get modules file) named refl none

  pub main_there : entries_refusal modules ≡ None → Main modules
  unfolding entries_refusal
  main_there none = found (module_named modules (codes "Main")) refl none

  -- an item of a module of this name is an item of that one
  module _ (main : Main modules) (s : Seen) (item : Item) (here : Here modules s item) (owned : s.owner ≡ codes "Main") where
    pub file_of_main : s.file ≡ main.file
    file_of_main =
        let named = ap (module_named modules) (sym here.owner_is ∙ owned) ∙ main.named in
        sym (eqb-true main.file s.file (sym (ap (is_own s.file) named) ∙ here.first))

    pub item_of_main : slice_get main.module_is.items s.at ≡ Some item
    item_of_main =
        let in_modules = here.in_modules in
        let there = ap (slice_get modules) file_of_main ∙ main.there in
        let same : main.module_is ≡ here.owner = cc in
        ap (λ (m : Module). slice_get m.items s.at) same ∙ here.in_module

unless_good : (good : Bool) (word : Word) → unless good word ≡ None → good ≡ true
unless_good true word none = refl
unless_good false word none = cc

asked_of : (item : Item) (word : Word) → entry_by item (Some word) ≡ None → is_entry word.bytes ≡ true → as_asked item word ≡ true
asked_of item word none entry =
    unless_good (as_asked item word) word (subst (λ (b : Bool). cond b (unless (as_asked item word) word) None ≡ None) entry none)

-- a function of an entry's name is void and takes what is asked
pub function_asked : (result : Option TypeText) (name : Word) (parameters : List Parameter) (body : Body)
    → entry_refusal (items.Function result name parameters body) ≡ None → is_entry name.bytes ≡ true → (result ≡ None) × (asked name.bytes parameters ≡ true)
function_asked None name parameters body none entry = (refl, asked_of (items.Function None name parameters body) name none entry)
function_asked (Some kind) name parameters body none entry =
    absurd (false≢true (asked_of (items.Function (Some kind) name parameters body) name none entry))

-- no hook has an entry's name
pub no_entry_hook : (name : Word) (parameters : List Parameter) → entry_refusal (items.Hook name parameters) ≡ None → is_entry name.bytes ≡ true → ⊥
no_entry_hook name parameters none entry = false≢true (asked_of (items.Hook name parameters) name none entry)
