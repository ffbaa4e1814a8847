-- Modules have few enough items to number them.
use Rattle.std.proofs.Common.{◌≡◌, ℕ, suc, ◌*◌, ◌≤◌, List, [], ◌∷◌, length, arith}
use Rattle.std.proofs.lemmas.List.{length-append, length-map}
use Rattle.std.proofs.lemmas.List.Sums.{sum_by-cons}
use Rattle.hilti_module.specs.declared.module.Item.{Item}
use Rattle.hilti_module.specs.declared.module.Item.TheVariants as items
use Rattle.hilti_module.specs.declared.module.Module.{Module}
use Rattle.hilti_module.specs.Counts.{item_count, module_count}
use Rattle.hilti_scope.specs.Items.{placed_in, placed_from}
use Rattle.hilti_link.specs.Linking.{modules_count}

-- an item counts at least itself
counts : (item : Item) → 1 ≤ item_count item
counts (items.Type name shape) = omega arith
counts (items.Global kind name value) = omega arith
counts (items.Hook name parameters) = omega arith
counts (items.HookBody name parameters priority body) = omega arith
counts (items.Function result name parameters body) = omega arith

length_counted : (inside : List Item) → length inside ≤ module_count inside
length_counted [] = omega arith
length_counted (item ∷ more) =
    let first = counts item in
    let rest = length_counted more in
    omega (arith, sum_by-cons item_count item more)

length_placed_in : (file : ℕ) (inside : List Item) → length (placed_in file inside) ≡ length inside
length_placed_in file inside = length-map inside (λ item. record { file = file; item = item })

pub length_placed_from : (file : ℕ) (modules : List Module) → length (placed_from file modules) ≤ 1048576 * length modules
unfolding placed_from
length_placed_from file [] = omega arith
length_placed_from file (m ∷ more) =
    let bounded = m.bounded in
    let first = length_counted m.items in
    let is = length_placed_in file m.items in
    let rest = length_placed_from (suc file) more in
    omega (arith, length-append (placed_in file m.items) (placed_from (suc file) more))

pub modules_bounded : (modules : List Module) → modules_count modules ≤ 1048576 * length modules
modules_bounded [] = omega arith
modules_bounded (m ∷ more) =
    let bounded = m.bounded in
    let rest = modules_bounded more in
    omega (arith, sum_by-cons (λ (m : Module). module_count m.items) m more)
