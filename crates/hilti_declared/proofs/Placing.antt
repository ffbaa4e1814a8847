-- The items of some modules, counted.
use Rattle.std.proofs.Common.{◌≡◌, refl, sym, ◌∙◌, ap, ℕ, zero, suc, ◌+◌, ◌<◌, ◌≤◌, List, [], ◌∷◌, ◌++◌, length, take, get_or, append_assoc, append-nil, Option, Some, None, IsSome, arith}
use Rattle.std.specs.Prelude.{slice_get}
use Rattle.std.specs.Option.{option_and_then}
use Rattle.std.proofs.lemmas.Bool.{false≢true}
use Rattle.std.proofs.lemmas.List.{length-append, length-map, take_more}
use Rattle.std.proofs.lemmas.List.Sums.{sum_by-cons}
use Rattle.std.proofs.lemmas.Option.{slice_get_within, get_or_from_slice_get}
use Rattle.hilti_module.specs.declared.module.Item.{Item}
use Rattle.hilti_module.specs.declared.module.Item.TheVariants as items
use Rattle.hilti_module.specs.declared.module.Module.{Module}
use Rattle.hilti_module.specs.Counts.{item_count, module_count}
use Rattle.hilti_scope.specs.Items.{Placed, placed, placed_in, placed_from}
use Rattle.hilti_link.specs.declared.tables.Site.{Site}
use Rattle.hilti_link.specs.Linking.{modules_count}
use Rattle.hilti_declared.specs.Sites.{item_at}

abbrev placed_as : ℕ → Item → Placed
placed_as file item = record { file = file; item = item }

placed_from-push : (file : ℕ) (before : List Module) (m : Module) → placed_from file (before ++ m ∷ []) ≡ placed_from file before ++ placed_in (file + length before) m.items
unfolding placed_from
placed_from-push file [] m = append-nil (placed_in file m.items) ∙ ap (λ n. placed_in n m.items) (omega arith)
placed_from-push file (one ∷ more) m =
    ap (λ l. placed_in file one.items ++ l) (placed_from-push (suc file) more m ∙ ap (λ n. placed_from (suc file) more ++ placed_in n m.items) (omega arith))
    ∙ sym (append_assoc (placed_in file one.items) (placed_from (suc file) more) (placed_in (file + suc (length more)) m.items))

-- one module more
pub placed-push : (before : List Module) (m : Module) → placed (before ++ m ∷ []) ≡ placed before ++ placed_in (length before) m.items
placed-push before m = placed_from-push 0 before m ∙ ap (λ n. placed before ++ placed_in n m.items) (omega arith)

pub none_placed : length (placed []) ≡ 0
unfolding placed_from
none_placed = refl

pub count_more : (modules : List Module) (i : ℕ) (m : Module) → i < length modules → m ≡ get_or modules i m
    → length (placed (take (i + 1) modules)) ≡ length (placed (take i modules)) + length m.items
count_more modules i m h is =
    ap (λ l. length (placed l)) (take_more modules i m h ∙ ap (λ one. take i modules ++ one ∷ []) (sym is))
    ∙ ap length (placed-push (take i modules) m) ∙ length-append (placed (take i modules)) (placed_in (length (take i modules)) m.items)
    ∙ ap (λ n. length (placed (take i modules)) + n) (length-map m.items (placed_as (length (take i modules))))

room_from : (file : ℕ) (modules : List Module) (i : ℕ) (d : Module) → i < length modules → length (placed_from file (take i modules)) + length (get_or modules i d).items ≤ length (placed_from file modules)
unfolding placed_from
room_from file [] i d h = absurd (omega arith)
room_from file (m ∷ more) zero d h =
    omega (arith, length-append (placed_in file m.items) (placed_from (suc file) more), length-map m.items (placed_as file))
room_from file (m ∷ more) (suc i) d h =
    let rest = room_from (suc file) more i d (omega arith) in
    omega (arith, rest, length-append (placed_in file m.items) (placed_from (suc file) more), length-append (placed_in file m.items) (placed_from (suc file) (take i more)))

-- the items of a module are no more than those that are left
pub room : (modules : List Module) (i : ℕ) (d : Module) → i < length modules → length (placed (take i modules)) + length (get_or modules i d).items ≤ length (placed modules)
room modules i d h = room_from 0 modules i d h

counts : (item : Item) → 1 ≤ item_count item
counts (items.Type name shape) = omega arith
counts (items.Global kind name value) = omega arith
counts (items.Hook name parameters) = omega arith
counts (items.HookBody name parameters priority body) = omega arith
counts (items.Function result name parameters body) = omega arith

length_counted : (inside : List Item) → length inside ≤ module_count inside
length_counted [] = omega arith
length_counted (item ∷ more) =
    let first = counts item in
    let rest = length_counted more in
    omega (arith, sum_by-cons item_count item more)

placed_counted : (file : ℕ) (modules : List Module) → length (placed_from file modules) ≤ modules_count modules
unfolding placed_from
placed_counted file [] = omega arith
placed_counted file (m ∷ more) =
    let first = length_counted m.items in
    let rest = placed_counted (suc file) more in
    omega (arith, length-append (placed_in file m.items) (placed_from (suc file) more), length-map m.items (placed_as file), sum_by-cons (λ (m : Module). module_count m.items) m more)

-- there are no more items than all that is counted
pub placed_few : (modules : List Module) → length (placed modules) ≤ modules_count modules
placed_few modules = placed_counted 0 modules

-- an item that is there is in front of all that its module and those in front of it have
pub placed_there : (modules : List Module) (site : Site) → IsSome (item_at modules site)
    → (site.file < length modules) × (length (placed (take site.file modules)) + site.item < length (placed modules))
placed_there modules site there = by (slice_get modules site.file) refl there
  where
    inside : (m : Module) → slice_get modules site.file ≡ Some m → (item : Option Item) → slice_get m.items site.item ≡ item → IsSome item
        → (site.file < length modules) × (length (placed (take site.file modules)) + site.item < length (placed modules))
    inside m at None is some = absurd (false≢true some)
    inside m at (Some item) is some =
        let below = slice_get_within modules site.file m at in
        let all = room modules site.file m below in
        let same = ap (λ (m : Module). length m.items) (get_or_from_slice_get modules site.file m m at) in
        let within = slice_get_within m.items site.item item is in
        (below, omega arith)

    by : (m : Option Module) → slice_get modules site.file ≡ m → IsSome (option_and_then (λ (m : Module). slice_get m.items site.item) m)
        → (site.file < length modules) × (length (placed (take site.file modules)) + site.item < length (placed modules))
    by None at some = absurd (false≢true some)
    by (Some m) at some = inside m at (slice_get m.items site.item) refl some
