-- The items of a module, linked one after another.
use Rattle.std.proofs.Common.{◌≡◌, refl, sym, ◌∙◌, ap, subst, ℕ, suc, ◌+◌, ◌<◌, ◌≤◌, List, [], ◌∷◌, length, drop, get_or, None, arith, add-one}
use Rattle.hilti_base.specs.declared.refusal.Refusal.{Refusal}
use Rattle.hilti_module.specs.declared.module.Item.{Item}
use Rattle.hilti_module.specs.declared.module.Module.{Module}
use Rattle.hilti_link.specs.declared.tables.Tables.{Tables}
use Rattle.hilti_link.specs.InTurn.{behind_all}
use Rattle.hilti_link.specs.Items.{Seen, item_refusal, tables_behind}
use Rattle.hilti_link.specs.Linking.{behind_item, entering, items_refusal}
use Rattle.hilti_link.specs.declared.standing.Context.{Context}
use Rattle.hilti_link.specs.declared.standing.Standing.{Standing}
use Rattle.hilti_link.specs.Standings.{IsContext, Stands, Enters, tables_behind_module}
use Rattle.hilti_link.specs.Versions.{version_of}
use Rattle.hilti_link.proofs.Answering.{Refused, loop_refuses}
use Rattle.hilti_link.proofs.Turns.{Going, going_first, going_end, behind_end, loop_more, loop_end}

-- what the item at a place of a module sees, and what is left from it on
pub record ItemsSo (seen : Seen) (m : Module) (at : ℕ) (tables : Tables) (state : Seen) : Type 0 where
  pub going : Going item_refusal behind_item (entering seen m) m.items state (drop at m.items)
  pub modules_are : state.modules ≡ seen.modules
  pub file_is : state.file ≡ seen.file
  pub owner_is : state.owner ≡ m.name.bytes
  pub version_is : state.version ≡ version_of m.version
  pub at_is : state.at ≡ at
  pub here_is : state.here ≡ seen.here + at
  pub tables_are : state.tables ≡ tables

-- some state is so
abbrev pub ItemsGo : Seen → Module → ℕ → Tables → Type 0
ItemsGo seen m at tables = (state : Seen) × ItemsSo seen m at tables state

pub items_start : (seen : Seen) (m : Module) (tables : Tables) → seen.tables ≡ tables → ItemsGo seen m 0 tables
items_start seen m tables is = (
  entering seen m,
  record {
    going = going_first item_refusal behind_item (entering seen m) m.items;
    modules_are = refl;
    file_is = refl;
    owner_is = refl;
    version_is = refl;
    at_is = refl;
    here_is = omega arith;
    tables_are = is;
  },
)

pub items_more : (seen : Seen) (m : Module) (at : ℕ) (tables new : Tables) (item : Item) → at < length m.items → item ≡ get_or m.items at item
    → (state : Seen) → ItemsSo seen m at tables state → item_refusal state item ≡ None → new ≡ tables_behind state item → ItemsGo seen m (at + 1) new
items_more seen m at tables new item below is state so none made = (
  behind_item state item,
  record {
    going = loop_more item_refusal behind_item (entering seen m) m.items state m.items at item below is none so.going;
    modules_are = so.modules_are;
    file_is = so.file_is;
    owner_is = so.owner_is;
    version_is = so.version_is;
    at_is = ap (λ n. suc n) so.at_is ∙ sym (add-one at);
    here_is = (let here = so.here_is in omega arith);
    tables_are = sym made;
  },
)

pub items_end : (seen : Seen) (m : Module) (at : ℕ) (tables : Tables) → length m.items ≤ at → (state : Seen) → ItemsSo seen m at tables state
    → (items_refusal (entering seen m) m.items ≡ None) × (tables ≡ tables_behind_module seen m)
items_end seen m at tables past state so =
    let over = loop_end item_refusal behind_item (entering seen m) m.items state m.items at past so.going in (
      going_end item_refusal behind_item (entering seen m) m.items state over,
      sym so.tables_are ∙ ap (λ (behind : Seen). behind.tables) (behind_end item_refusal behind_item (entering seen m) m.items state over),
    )

-- what is behind some items is so many items further, in the same module
pub behind_items : (seen : Seen) (inside : List Item) → (let behind = behind_all behind_item seen inside in (behind.here ≡ seen.here + length inside) × (behind.file ≡ seen.file) × (behind.modules ≡ seen.modules))
unfolding behind_all
behind_items seen [] = (omega arith, refl, refl)
behind_items seen (item ∷ more) =
    let rest = behind_items (behind_item seen item) more in
    ((let here = rest.0 in omega arith), rest.1, rest.2)

-- the item at a place is refused
pub items_refuse : (seen : Seen) (m : Module) (at : ℕ) (tables : Tables) (item : Item) (e : Refusal) → at < length m.items → item ≡ get_or m.items at item
    → (state : Seen) → ItemsSo seen m at tables state → Refused e (item_refusal state item) → Refused e (items_refusal (entering seen m) m.items)
items_refuse seen m at tables item e below is state so refused =
    loop_refuses item_refusal behind_item (entering seen m) m.items state m.items at item e below is refused so.going

-- an item that is lent from a slice is one of the module
pub lent_below : (lent inside : List Item) (at : ℕ) → lent ≡ inside → at < length lent → at < length inside
lent_below lent inside at same below = let same_length = ap length same in omega arith

pub lent_over : (lent inside : List Item) (at : ℕ) → lent ≡ inside → length lent ≤ at → length inside ≤ at
lent_over lent inside at same past = let same_length = ap length same in omega arith

pub lent_is : (lent inside : List Item) (at : ℕ) (item : Item) → lent ≡ inside → item ≡ get_or lent at item → item ≡ get_or inside at item
lent_is lent inside at item same is = is ∙ ap (λ lent. get_or lent at item) same

-- what the item at a place sees is that where it stands
pub stands_so : (seen : Seen) (m : Module) (file here at : ℕ) (tables : Tables) (state : Seen) → ItemsSo seen m at tables state → Enters seen file here
    → (standing : Standing) → standing.owner.now ≡ m.name.bytes → standing.version ≡ version_of m.version → standing.file ≡ file → standing.at ≡ at → standing.here ≡ here + at → Stands state standing
stands_so seen m file here at tables state so enters standing owner version file_is at_is here_is = record {
  owner_is = owner ∙ sym so.owner_is;
  version_is = version ∙ sym so.version_is;
  file_is = file_is ∙ enters.file_is ∙ sym so.file_is;
  at_is = at_is ∙ sym so.at_is;
  here_is = (let there = so.here_is in let begins = enters.here_is in omega arith);
}

pub context_so : (seen : Seen) (m : Module) (at : ℕ) (tables : Tables) (state : Seen) → ItemsSo seen m at tables state → (context : Context)
    → IsContext seen.modules context → IsContext state.modules context
context_so seen m at tables state so context is = subst (λ modules. IsContext modules context) (sym so.modules_are) is
