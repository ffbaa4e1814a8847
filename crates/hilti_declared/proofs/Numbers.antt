-- Numbers of items: those of one kind in front of an item.
use Rattle.std.proofs.Common.{◌≡◌, refl, sym, ◌∙◌, ap, ℕ, zero, suc, ◌+◌, ◌<◌, nat_le, Bool, true, false, cond, List, [], ◌∷◌, ◌++◌, length, take, Option, Some, None, arith, add-one}
use Rattle.std.specs.Prelude.{slice_get, bytes_eq}
use Rattle.std.specs.List.{position}
use Rattle.std.specs.Option.{option_map, unwrap_or}
use Rattle.std.proofs.lemmas.Bool.{leb-false}
use Rattle.std.proofs.lemmas.List.{length-append}
use Rattle.std.proofs.lemmas.List.Quantifiers.{position-Some}
use Rattle.std.proofs.lemmas.List.Sums.{sum_by-cons, count_by_more_yes, count_by_more_no}
use Rattle.std.proofs.lemmas.Option.{slice_get-map, slice_get_within, get_or_from_slice_get}
use Rattle.hilti_module.specs.declared.types.Name.{Name}
use Rattle.hilti_module.specs.declared.types.Word.{Word}
use Rattle.hilti_module.specs.declared.module.Item.{Item}
use Rattle.hilti_module.specs.declared.module.Item.TheVariants as items
use Rattle.hilti_module.specs.declared.module.Shape.TheVariants as shapes
use Rattle.hilti_module.specs.declared.module.Module.{Module}
use Rattle.hilti_scope.specs.declared.meaning.Meaning.{Meaning}
use Rattle.hilti_scope.specs.declared.meaning.Meaning.TheVariants as means
use Rattle.hilti_scope.specs.Items.{Placed, placed, placed_in, placed_from, declaration, module_named, is_exception}
use Rattle.hilti_scope.specs.Meanings.{count_items, declared_behind, declared_there, declared_in, seen_from, built_in, built_in_names, exception_or_nothing, meaning_in, meaning_by, meaning_in_module}
use Rattle.hilti_link.specs.Items.{Seen}
use Rattle.hilti_declared.proofs.Accepted.{later}
use Rattle.hilti_declared.proofs.Walks.{Here}

pub past_front : {X : Type 0} (front others : List X) (n : ℕ) → slice_get (front ++ others) (length front + n) ≡ slice_get others n
past_front [] others n = let same : 0 + n ≡ n = omega arith in ap (slice_get others) same
past_front (x ∷ front) others n =
    let same : length (x ∷ front) + n ≡ suc (length front + n) = omega arith in
    ap (slice_get (x ∷ (front ++ others))) same ∙ past_front front others n

in_module : (k : ℕ) (inside : List Item) (at : ℕ) (item : Item) → slice_get inside at ≡ Some item
    → slice_get (placed_in k inside) at ≡ Some (record { file = k; item = item })
in_module k inside at item is =
    slice_get-map (λ (item : Item). record { file = k; item = item }) inside at ∙ ap (option_map (λ (item : Item). record { file = k; item = item })) is

abbrev one_placed : Item → ℕ → Option Placed
one_placed item file = Some (record { file = file; item = item })

placed_at : (k : ℕ) (modules : List Module) (file : ℕ) (m : Module) (at : ℕ) (item : Item) → slice_get modules file ≡ Some m → slice_get m.items at ≡ Some item
    → slice_get (placed_from k modules) (length (placed_from k (take file modules)) + at) ≡ Some (record { file = k + file; item = item })
unfolding placed_from
placed_at k [] file m at item is inside = cc
placed_at k (first ∷ more) zero m at item is inside =
    let same : first ≡ m = cc in
    let start : 0 + at ≡ at = omega arith in
    let number : k ≡ k + 0 = omega arith in
    ap (slice_get (placed_in k first.items ++ placed_from (suc k) more)) start
    ∙ later (placed_in k first.items) (placed_from (suc k) more) at _ (in_module k first.items at item (ap (λ (m : Module). slice_get m.items at) same ∙ inside))
    ∙ ap (one_placed item) number
placed_at k (first ∷ more) (suc file) m at item is inside =
    let front = placed_in k first.items in
    let counted = length-append front (placed_from (suc k) (take file more)) in
    let start : length (front ++ placed_from (suc k) (take file more)) + at ≡ length front + (length (placed_from (suc k) (take file more)) + at) = omega (arith, counted) in
    let number : suc k + file ≡ k + suc file = omega arith in
    ap (slice_get (front ++ placed_from (suc k) more)) start
    ∙ past_front front (placed_from (suc k) more) (length (placed_from (suc k) (take file more)) + at)
    ∙ placed_at (suc k) more file m at item is inside
    ∙ ap (one_placed item) number

-- an item stands at its number
pub numbered : (modules : List Module) (s : Seen) (item : Item) → Here modules s item
    → slice_get (placed modules) s.here ≡ Some (record { file = s.file; item = item })
numbered modules s item here =
    ap (slice_get (placed modules)) here.here_is ∙ placed_at 0 modules s.file here.owner s.at item here.in_modules here.in_module
    ∙ (let number : 0 + s.file ≡ s.file = omega arith in ap (one_placed item) number)

-- one item more in front
module _ (test : Item → Bool) (all : List Placed) (n : ℕ) (p : Placed) (at : slice_get all n ≡ Some p) where
  pub counted_too : test p.item ≡ true → count_items test (take (suc n) all) ≡ suc (count_items test (take n all))
  counted_too passes =
      ap (λ k. count_items test (take k all)) (sym (add-one n))
      ∙ count_by_more_yes (λ (placed : Placed). test placed.item) all n p (slice_get_within all n p at) (ap (λ (p : Placed). test p.item) (get_or_from_slice_get all n p p at) ∙ passes)
      ∙ add-one (count_items test (take n all))

  pub not_counted : test p.item ≡ false → count_items test (take (suc n) all) ≡ count_items test (take n all)
  not_counted fails =
      ap (λ k. count_items test (take k all)) (sym (add-one n))
      ∙ count_by_more_no (λ (placed : Placed). test placed.item) all n p (slice_get_within all n p at) (ap (λ (p : Placed). test p.item) (get_or_from_slice_get all n p p at) ∙ fails)

-- an item that passes is counted in front of each later one
pub counted_before : (test : Item → Bool) (all : List Placed) (at n : ℕ) (p : Placed) → slice_get all at ≡ Some p → test p.item ≡ true → at < n
    → count_items test (take at all) < count_items test (take n all)
counted_before test [] at n p is passes below = cc
counted_before test (x ∷ all) at zero p is passes below = absurd (omega arith)
counted_before test (x ∷ all) zero (suc n) p is passes below =
    let same : x ≡ p = cc in
    let one : ◌≡◌ {A = ℕ} (cond (test x.item) 1 0) 1 = ap (λ b. cond {A = ℕ} b 1 0) (ap (λ (p : Placed). test p.item) same ∙ passes) in
    omega (arith, one, sum_by-cons (λ (placed : Placed). cond (test placed.item) 1 0) x (take n all))
counted_before test (x ∷ all) (suc at) (suc n) p is passes below =
    let rest = counted_before test all at n p is passes (omega arith) in
    omega (arith, rest, sum_by-cons (λ (placed : Placed). cond (test placed.item) 1 0) x (take n all), sum_by-cons (λ (placed : Placed). cond (test placed.item) 1 0) x (take at all))

-- an exception that is seen has a smaller number than those that come next
module _ (modules : List Module) (here : ℕ) where
  abbrev pub next_exception : ℕ
  next_exception = 7 + count_items is_exception (take here (placed modules))

  abbrev pub Smaller : Meaning → Type 0
  Smaller meaning = (n : ℕ) → meaning ≡ means.Exception n → n < next_exception

  exception_item : (before : List Placed) (item : Item) (n : ℕ) → declared_behind before item ≡ means.Exception n
      → (is_exception item ≡ true) × (n ≡ 7 + count_items is_exception before)
  exception_item before (items.Type name (shapes.Exception place parent)) n e = (refl, cc)
  exception_item before (items.Type name (shapes.Struct place fields)) n e = cc
  exception_item before (items.Type name (shapes.Enum place words)) n e = cc
  exception_item before (items.Type name (shapes.Overlay place fields)) n e = cc
  exception_item before (items.Global kind name value) n e = cc
  exception_item before (items.Hook name parameters) n e = cc
  exception_item before (items.HookBody name parameters priority body) n e = cc
  exception_item before (items.Function result name parameters body) n e = cc

  seen_before : (at : ℕ) (meaning : Meaning) (n : ℕ) → seen_from here at meaning ≡ means.Exception n → (meaning ≡ means.Exception n) × (at < here)
  seen_before at (means.Exception m) n e = by (nat_le here at) refl e
    where
      by : (b : Bool) → nat_le here at ≡ b → cond b means.Nothing (means.Exception m) ≡ means.Exception n → (means.Exception m ≡ means.Exception n) × (at < here)
      by true is e = cc
      by false is e = (e, leb-false here at is)
  seen_before at (means.Struct m) n e = by (nat_le here at) e
    where
      by : (b : Bool) → cond b means.Nothing (means.Struct m) ≡ means.Exception n → (means.Struct m ≡ means.Exception n) × (at < here)
      by true e = cc
      by false e = cc
  seen_before at (means.Enum m) n e = by (nat_le here at) e
    where
      by : (b : Bool) → cond b means.Nothing (means.Enum m) ≡ means.Exception n → (means.Enum m ≡ means.Exception n) × (at < here)
      by true e = cc
      by false e = cc
  seen_before at (means.Overlay m) n e = by (nat_le here at) e
    where
      by : (b : Bool) → cond b means.Nothing (means.Overlay m) ≡ means.Exception n → (means.Overlay m ≡ means.Exception n) × (at < here)
      by true e = cc
      by false e = cc
  seen_before at means.Nothing n e = cc
  seen_before at (means.Local slot) n e = cc
  seen_before at (means.Global m) n e = cc
  seen_before at (means.Function m) n e = cc
  seen_before at (means.Hook m) n e = cc

  found_smaller : (at : ℕ) (found : Option Placed) → slice_get (placed modules) at ≡ found → (meaning : Meaning)
      → option_map (seen_from here at) (option_map (λ (p : Placed). declared_behind (take at (placed modules)) p.item) found) ≡ Some meaning → Smaller meaning
  found_smaller at None is meaning e n same = cc
  found_smaller at (Some p) is meaning e n same =
      let told : seen_from here at (declared_behind (take at (placed modules)) p.item) ≡ meaning = cc in
      let seen = seen_before at (declared_behind (take at (placed modules)) p.item) n (told ∙ same) in
      let it = exception_item (take at (placed modules)) p.item n seen.0 in
      let less = counted_before is_exception (placed modules) at here p is it.0 seen.1 in
      omega (arith, it.1, less)

  declared_smaller : (place : Option ℕ) (meaning : Meaning) → declared_there modules here place ≡ Some meaning → Smaller meaning
  declared_smaller None meaning e = cc
  declared_smaller (Some at) meaning e = found_smaller at (slice_get (placed modules) at) refl meaning e

  built_smaller : (bytes : List ℕ) → Smaller (built_in bytes)
  built_smaller bytes n e = by (position (λ word. bytes_eq word bytes) built_in_names) refl e
    where
      by : (found : Option ℕ) → position (λ word. bytes_eq word bytes) built_in_names ≡ found → exception_or_nothing found ≡ means.Exception n → n < next_exception
      by None is e = cc
      by (Some m) is e =
          let same : m ≡ n = cc in
          let within = (position-Some (λ word. bytes_eq word bytes) built_in_names m [] is).0 in
          omega (arith, same, within)

  or_built : (bytes : List ℕ) (told : Option Meaning) → ((meaning : Meaning) → told ≡ Some meaning → Smaller meaning) → Smaller (unwrap_or told (built_in bytes))
  or_built bytes None each = built_smaller bytes
  or_built bytes (Some meaning) each = each meaning refl

  or_nothing : (told : Option Meaning) → ((meaning : Meaning) → told ≡ Some meaning → Smaller meaning) → Smaller (unwrap_or told means.Nothing)
  or_nothing None each n e = cc
  or_nothing (Some meaning) each n e = each meaning refl n e

  in_module_smaller : (file : Option ℕ) (bytes : List ℕ) → Smaller (meaning_in_module modules here file bytes)
  in_module_smaller None bytes n e = cc
  in_module_smaller (Some file) bytes n e = or_nothing (declared_in modules here file bytes) (declared_smaller (declaration modules file bytes)) n e

  second_smaller : (file : ℕ) (first : Word) (second : Option Word) → Smaller (meaning_by modules file here [] first second)
  second_smaller file first None = or_built first.bytes (declared_in modules here file first.bytes) (declared_smaller (declaration modules file first.bytes))
  second_smaller file first (Some second) = in_module_smaller (module_named modules first.bytes) second.bytes

  pub named_smaller : (file : ℕ) (name : Name) → Smaller (meaning_in modules file here [] name)
  unfolding meaning_in
  named_smaller file name = second_smaller file name.first name.second
