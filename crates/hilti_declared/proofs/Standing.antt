-- Going through the items of modules where they stand, whether they are refused or not.
use Rattle.std.proofs.Common.{◌≡◌, refl, sym, ◌∙◌, ap, List, [], ◌∷◌, ◌++◌, length, append_assoc, Some, arith}
use Rattle.std.specs.Prelude.{slice_get}
use Rattle.std.specs.Option.{option_and_then}
use Rattle.std.proofs.lemmas.List.{length_push}
use Rattle.hilti_module.specs.declared.types.Word.{Word}
use Rattle.hilti_module.specs.declared.module.Item.{Item}
use Rattle.hilti_module.specs.declared.module.Module.{Module}
use Rattle.hilti_link.specs.InTurn.{behind_all}
use Rattle.hilti_link.specs.Items.{Seen, site_of}
use Rattle.hilti_link.specs.Linking.{behind_item, behind_module, entering, leaving, seen_first, seen_last}
use Rattle.hilti_link.specs.Versions.{version_of}
use Rattle.hilti_link.proofs.ModuleItems.{behind_items}
use Rattle.hilti_declared.specs.Sites.{item_at}
use Rattle.hilti_declared.proofs.Walks.{at_place}

-- an item stands at its place in its module, of which it has the version
pub record There (modules : List Module) (s : Seen) (item : Item) : Type 0 where
  pub owner : Module
  pub in_modules : slice_get modules s.file ≡ Some owner
  pub in_module : slice_get owner.items s.at ≡ Some item
  pub version_is : s.version ≡ version_of owner.version

-- what stands at its site is the item
pub item_standing : (modules : List Module) (s : Seen) (item : Item) (word : Word) → There modules s item → item_at modules (site_of s word) ≡ Some item
item_standing modules s item word there =
    ap (option_and_then (λ (m : Module). slice_get m.items s.at)) there.in_modules ∙ there.in_module

-- what holds in front of the first module, is kept by each item, and wherever a module begins or ends, holds behind all
-- modules
module _ (modules : List Module) (P : Seen → Type 0)
    (enter : (s : Seen) (m : Module) → P s → P (entering s m))
    (leave : (s : Seen) → P s → P (leaving s))
    (step : (s : Seen) (item : Item) → There modules s item → P s → P (behind_item s item)) where
  pass_items : (m : Module) (before left : List Item) (s : Seen) → m.items ≡ before ++ left → slice_get modules s.file ≡ Some m → s.at ≡ length before
      → s.version ≡ version_of m.version → P s → P (behind_all behind_item s left)
  unfolding behind_all
  pass_items m before [] s is own at version p = p
  pass_items m before (item ∷ left) s is own at version p =
      let more = length_push before item in
      let there : There modules s item = record { owner = m; in_modules = own; in_module = at_place m.items before item left s.at is at; version_is = version } in
      pass_items m (before ++ item ∷ []) left (behind_item s item) (is ∙ sym (append_assoc before (item ∷ []) left)) own (omega (arith, more, at)) version
      (step s item there p)

  pass_modules : (before left : List Module) (s : Seen) → modules ≡ before ++ left → s.file ≡ length before → P s → P (behind_all behind_module s left)
  unfolding behind_all
  pass_modules before [] s is file p = p
  pass_modules before (m ∷ left) s is file p =
      let behind = behind_items (entering s m) m.items in
      let same = behind.1 in
      let more = length_push before m in
      pass_modules (before ++ m ∷ []) left (behind_module s m) (is ∙ sym (append_assoc before (m ∷ []) left)) (omega (arith, same, more, file))
      (leave (behind_all behind_item (entering s m) m.items)
      (pass_items m [] m.items (entering s m) refl (at_place modules before m left s.file is file) refl refl (enter s m p)))

  pub passed : P (seen_first modules) → P (seen_last modules)
  passed p = pass_modules [] modules (seen_first modules) refl refl p
