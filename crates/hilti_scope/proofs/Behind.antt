-- Meanings and numbers, one item at a time.
use Rattle.std.proofs.Common.{◌≡◌, ℕ, zero, suc, ◌+◌, ◌<◌, ◌≤◌, Bool, true, false, cond, nat_eq, List, [], ◌∷◌, ◌++◌, length, take, slice_get, Option, Some, None, refl, sym, ap, ap₂, ◌∙◌, arith, length-append, position, ◌&&◌, ◌⊎◌, inl, inr, ⊎_elim, eq-or-lt_of_le}
use Rattle.std.specs.Option.{option_map, option_or}
use Rattle.std.proofs.lemmas.Bool.Decides.{nat_tests}
use Rattle.std.proofs.Math.Seq.{take-append_seam}
use Rattle.std.proofs.lemmas.Option.{slice_get_past}
use Rattle.std.proofs.lemmas.Bool.{cases_lt}
use Rattle.std.proofs.lemmas.List.{take-append-le}
use Rattle.std.proofs.lemmas.List.Sums.{sum_by-append}
use Rattle.hilti_module.specs.declared.module.Item.{Item}
use Rattle.hilti_module.specs.declared.module.Item.TheVariants as items
use Rattle.hilti_module.specs.declared.module.Shape.TheVariants as shapes
use Rattle.hilti_scope.specs.declared.meaning.Meaning.{Meaning}
use Rattle.hilti_scope.specs.declared.declarations.Numbers.{Numbers}
use Rattle.hilti_scope.specs.Items.{Placed, declares, declared_word, is_word, is_exception, is_tabled, is_global, is_function, is_hook}
use Rattle.hilti_scope.specs.Meanings.{count_items, declared_behind}
use Rattle.hilti_scope.specs.Numbers.{meaning_with, numbers_with, numbers_behind}
use Rattle.hilti_scope.specs.declared.declarations.Gathering.{Gathering}
use Rattle.hilti_scope.specs.FirstPlaces.{place_of}
use Rattle.hilti_scope.specs.Gathered.{declared_among, IsBehind, AreNames}
use Rattle.hilti_scope.proofs.Positions.{position-push}

abbrev placed_at : ℕ → Item → Placed
placed_at file item = record { file = file; item = item }

-- the next numbers give an item its meaning
pub meaning_behind : (before : List Placed) (item : Item) → meaning_with (numbers_behind before) item ≡ declared_behind before item
meaning_behind before (items.Type name (shapes.Struct place fields)) = refl
meaning_behind before (items.Type name (shapes.Enum place words)) = refl
meaning_behind before (items.Type name (shapes.Overlay place fields)) = refl
meaning_behind before (items.Type name (shapes.Exception place parent)) = refl
meaning_behind before (items.Global kind name value) = refl
meaning_behind before (items.Hook name parameters) = refl
meaning_behind before (items.HookBody name parameters priority body) = refl
meaning_behind before (items.Function result name parameters body) = refl

module _ (before : List Placed) (file : ℕ) (item : Item) where
  abbrev more : List Placed
  more = before ++ placed_at file item ∷ []

  counts : (test : Item → Bool) → count_items test more ≡ count_items test before + cond (test item) 1 0
  counts test = sum_by-append (λ placed. cond (test placed.item) 1 0) before (placed_at file item ∷ []) ∙ ap (λ n. count_items test before + n) (omega arith)

  passes : (test : Item → Bool) → test item ≡ true → count_items test before + 1 ≡ count_items test more
  passes test holds = sym (counts test ∙ ap (λ b. count_items test before + cond b 1 0) holds)

  stays : (test : Item → Bool) → test item ≡ false → count_items test before ≡ count_items test more
  stays test fails = omega (arith, counts test ∙ ap (λ b. count_items test before + cond b 1 0) fails)

numbers_path : {a b : Numbers} → a.tabled ≡ b.tabled → a.exception ≡ b.exception → a.global ≡ b.global → a.function ≡ b.function → a.hook ≡ b.hook → a ≡ b
numbers_path t e g f h = λ i. record { tabled = t i; exception = e i; global = g i; function = f i; hook = h i }

-- one item more
pub numbers-push : (before : List Placed) (file : ℕ) (item : Item) → numbers_with (numbers_behind before) item ≡ numbers_behind (before ++ placed_at file item ∷ [])
numbers-push before file (items.Type name (shapes.Struct place fields)) =
    let item = items.Type name (shapes.Struct place fields) in
    numbers_path (passes before file item is_tabled refl) (ap (λ n. 7 + n) (stays before file item is_exception refl)) (stays before file item is_global refl) (stays before file item is_function refl) (stays before file item is_hook refl)
numbers-push before file (items.Type name (shapes.Enum place words)) =
    let item = items.Type name (shapes.Enum place words) in
    numbers_path (passes before file item is_tabled refl) (ap (λ n. 7 + n) (stays before file item is_exception refl)) (stays before file item is_global refl) (stays before file item is_function refl) (stays before file item is_hook refl)
numbers-push before file (items.Type name (shapes.Overlay place fields)) =
    let item = items.Type name (shapes.Overlay place fields) in
    numbers_path (passes before file item is_tabled refl) (ap (λ n. 7 + n) (stays before file item is_exception refl)) (stays before file item is_global refl) (stays before file item is_function refl) (stays before file item is_hook refl)
numbers-push before file (items.Type name (shapes.Exception place parent)) =
    let item = items.Type name (shapes.Exception place parent) in
    let one = passes before file item is_exception refl in
    numbers_path (stays before file item is_tabled refl) (omega (arith, one)) (stays before file item is_global refl) (stays before file item is_function refl) (stays before file item is_hook refl)
numbers-push before file (items.Global kind name value) =
    let item = items.Global kind name value in
    numbers_path (stays before file item is_tabled refl) (ap (λ n. 7 + n) (stays before file item is_exception refl)) (passes before file item is_global refl) (stays before file item is_function refl) (stays before file item is_hook refl)
numbers-push before file (items.Hook name parameters) =
    let item = items.Hook name parameters in
    numbers_path (stays before file item is_tabled refl) (ap (λ n. 7 + n) (stays before file item is_exception refl)) (stays before file item is_global refl) (stays before file item is_function refl) (passes before file item is_hook refl)
numbers-push before file (items.HookBody name parameters priority body) =
    let item = items.HookBody name parameters priority body in
    numbers_path (stays before file item is_tabled refl) (ap (λ n. 7 + n) (stays before file item is_exception refl)) (stays before file item is_global refl) (passes before file item is_function refl) (stays before file item is_hook refl)
numbers-push before file (items.Function result name parameters body) =
    let item = items.Function result name parameters body in
    numbers_path (stays before file item is_tabled refl) (ap (λ n. 7 + n) (stays before file item is_exception refl)) (stays before file item is_global refl) (passes before file item is_function refl) (stays before file item is_hook refl)

-- what stands at a place of a list with one item more
pub slice_get-push : {X : Type 0} (xs : List X) (y : X) (at : ℕ) → slice_get (xs ++ y ∷ []) at ≡ cond (nat_eq at (length xs)) (Some y) (slice_get xs at)
slice_get-push [] y zero = refl
slice_get-push [] y (suc at) = grind (arith, nat_tests)
slice_get-push {X} (x ∷ xs) y zero = ap (λ b. cond {A = Option X} b (Some y) (Some x)) differs
  where
    differs : false ≡ nat_eq 0 (suc (length xs))
    differs = grind (arith, nat_tests)
slice_get-push {X} (x ∷ xs) y (suc at) = slice_get-push xs y at ∙ ap (λ b. cond {A = Option X} b (Some y) (slice_get xs at)) same
  where
    same : nat_eq at (length xs) ≡ nat_eq (suc at) (suc (length xs))
    same = grind (arith, nat_tests)

-- what the item at a place declares, with one item more
pub declared-push : (before : List Placed) (p : Placed) (at : ℕ) → declared_among (before ++ p ∷ []) at ≡ cond (nat_eq at (length before)) (Some (declared_behind before p.item)) (declared_among before at)
declared-push before p at = by (cases_lt at (length before))
  where
    behind : List Placed → Option Placed → Option Meaning
    behind front r = option_map (λ found. declared_behind front found.item) r

    apart : nat_eq at (length before) ≡ false → take at (before ++ p ∷ []) ≡ take at before → declared_among (before ++ p ∷ []) at ≡ cond (nat_eq at (length before)) (Some (declared_behind before p.item)) (declared_among before at)
    apart differs same =
        ap₂ behind same (slice_get-push before p at ∙ ap (λ b. cond b (Some p) (slice_get before at)) differs)
        ∙ sym (ap (λ b. cond b (Some (declared_behind before p.item)) (declared_among before at)) differs)

    beyond : length before < at → declared_among (before ++ p ∷ []) at ≡ cond (nat_eq at (length before)) (Some (declared_behind before p.item)) (declared_among before at)
    beyond h =
        let differs : nat_eq at (length before) ≡ false = grind (arith, nat_tests) in
        ap (behind (take at (before ++ p ∷ []))) (slice_get_past (before ++ p ∷ []) at (omega (arith, length-append before (p ∷ []))))
        ∙ sym (ap (λ b. cond b (Some (declared_behind before p.item)) (declared_among before at)) differs ∙ ap (behind (take at before)) (slice_get_past before at (omega arith)))

    here : at ≡ length before → declared_among (before ++ p ∷ []) at ≡ cond (nat_eq at (length before)) (Some (declared_behind before p.item)) (declared_among before at)
    here e =
        let same : nat_eq at (length before) ≡ true = grind (arith, nat_tests) in
        ap₂ behind (ap (λ n. take n (before ++ p ∷ [])) e ∙ take-append_seam before (p ∷ [])) (slice_get-push before p at ∙ ap (λ b. cond b (Some p) (slice_get before at)) same)
        ∙ sym (ap (λ b. cond b (Some (declared_behind before p.item)) (declared_among before at)) same)

    by : (at < length before) ⊎ (length before ≤ at) → declared_among (before ++ p ∷ []) at ≡ cond (nat_eq at (length before)) (Some (declared_behind before p.item)) (declared_among before at)
    by (inl h) = apart (grind (arith, nat_tests)) (take-append-le at before (p ∷ []) (omega arith))
    by (inr h) = ⊎_elim (λ e. here (sym e)) beyond (eq-or-lt_of_le h)

module _ {old new : Gathering} (before : List Placed) (file : ℕ) (item : Item) where
  -- the meanings and the next numbers with one item more
  pub IsBehind-push : (meaning : Meaning) → IsBehind before old → meaning ≡ meaning_with old.numbers item → new.numbers ≡ numbers_with old.numbers item
      → new.declarations.meanings ≡ old.declarations.meanings ++ meaning ∷ [] → IsBehind (before ++ placed_at file item ∷ []) new
  IsBehind-push meaning behind means numbers meanings = record {
    numbers_are = numbers ∙ ap (λ n. numbers_with n item) behind.numbers_are ∙ numbers-push before file item;
    meanings_are = λ at. at_place at;
    counted = ap length meanings ∙ length-append old.declarations.meanings (meaning ∷ []) ∙ ap (λ n. n + 1) behind.counted ∙ sym (length-append before (placed_at file item ∷ []));
  }
    where
      at_place : (at : ℕ) → slice_get new.declarations.meanings at ≡ declared_among (before ++ placed_at file item ∷ []) at
      at_place at =
          ap (λ l. slice_get l at) meanings ∙ slice_get-push old.declarations.meanings meaning at
          ∙ (λ i. cond (nat_eq at (behind.counted i)) (Some ((means ∙ ap (λ n. meaning_with n item) behind.numbers_are ∙ meaning_behind before item) i)) (behind.meanings_are at i))
          ∙ sym (declared-push before (placed_at file item) at)

-- the names with one item more
pub names-push : (before : List Placed) (file : ℕ) (item : Item) (at : ℕ) (old new : List (List ℕ × ℕ)) (bytes : List ℕ) → AreNames file before old → at ≡ length before
    → place_of new bytes ≡ option_or (place_of old bytes) (cond (is_word bytes (declared_word item)) (Some at) None)
    → place_of new bytes ≡ position (declares file bytes) (before ++ placed_at file item ∷ [])
names-push before file item at old new bytes names counted is =
    is ∙ (λ i. option_or (names bytes i) (cond (same i && is_word bytes (declared_word item)) (Some (counted i)) None)) ∙ sym (position-push (declares file bytes) before (placed_at file item))
  where
    same : true ≡ nat_eq file file
    same = grind (arith, nat_tests)
