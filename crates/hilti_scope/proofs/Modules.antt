-- What is gathered, one module at a time.
use Rattle.std.proofs.Common.{◌≡◌, ℕ, zero, suc, ◌+◌, ◌<◌, ◌≤◌, Bool, true, false, cond, nat_eq, ◌&&◌, List, [], ◌∷◌, ◌++◌, length, take, get_or, bytes_eq, slice_get, position, Option, Some, None, refl, sym, ap, ◌∙◌, subst, arith, append_assoc, append-nil, length-append, length-take-le, option_and_then, eqb-true}
use Rattle.std.specs.Option.{option_or}
use Rattle.std.proofs.lemmas.Bool.Decides.{nat_tests}
use Rattle.std.proofs.lemmas.List.{map-append, take_more, length-map}
use Rattle.std.proofs.lemmas.Option.{slice_get_past}
use Rattle.hilti_module.specs.declared.module.Module.{Module}
use Rattle.hilti_module.specs.declared.module.Item.{Item}
use Rattle.hilti_scope.specs.declared.meaning.Meaning.{Meaning}
use Rattle.hilti_scope.specs.declared.declarations.Gathering.{Gathering}
use Rattle.hilti_scope.specs.FirstPlaces.{place_of}
use Rattle.hilti_scope.specs.Items.{Placed, placed, placed_in, placed_from, declares, declaration, declared_word, is_word}
use Rattle.hilti_scope.specs.Gathered.{IsBehind, AreNames, KeepsNames, IsGathered}
use Rattle.hilti_scope.proofs.Behind.{slice_get-push}
use Rattle.hilti_scope.proofs.Positions.{position-push, position_kept}

abbrev placed_as : ℕ → Item → Placed
placed_as file item = record { file = file; item = item }

-- items of a module, one item more
pub placed_in-more : (before : List Placed) (file : ℕ) (items : List Item) (i : ℕ) (item : Item) → i < length items → item ≡ get_or items i item → (before ++ placed_in file (take i items)) ++ placed_in file (item ∷ []) ≡ before ++ placed_in file (take (i + 1) items)
placed_in-more before file items i item h is =
    append_assoc before (placed_in file (take i items)) (placed_in file (item ∷ []))
    ∙ ap (λ l. before ++ l) (sym (map-append _ (take i items) (item ∷ [])))
    ∙ ap (λ one. before ++ placed_in file (take i items ++ one ∷ [])) is
    ∙ ap (λ l. before ++ placed_in file l) (sym (take_more items i item h))

pub length-placed_in : (before : List Placed) (file : ℕ) (items : List Item) (i : ℕ) → i ≤ length items → length (before ++ placed_in file (take i items)) ≡ length before + i
length-placed_in before file items i h = length-append before (placed_in file (take i items)) ∙ ap (λ n. length before + n) (length-map (take i items) (placed_as file) ∙ length-take-le i items h)

placed_from-push : (file : ℕ) (before : List Module) (m : Module) → placed_from file (before ++ m ∷ []) ≡ placed_from file before ++ placed_in (file + length before) m.items
unfolding placed_from
placed_from-push file [] m = append-nil (placed_in file m.items) ∙ ap (λ n. placed_in n m.items) (omega arith)
placed_from-push file (one ∷ more) m =
    ap (λ l. placed_in file one.items ++ l) (placed_from-push (suc file) more m ∙ ap (λ n. placed_from (suc file) more ++ placed_in n m.items) (omega arith))
    ∙ sym (append_assoc (placed_in file one.items) (placed_from (suc file) more) (placed_in (file + suc (length more)) m.items))

-- one module more
pub placed-push : (before : List Module) (m : Module) → placed (before ++ m ∷ []) ≡ placed before ++ placed_in (length before) m.items
placed-push before m = placed_from-push 0 before m ∙ ap (λ n. placed before ++ placed_in n m.items) (omega arith)

room_from : (file : ℕ) (modules : List Module) (i : ℕ) (d : Module) → i < length modules → length (placed_from file (take i modules)) + length (get_or modules i d).items ≤ length (placed_from file modules)
unfolding placed_from
room_from file [] i d h = absurd (omega arith)
room_from file (m ∷ more) zero d h =
    omega (arith, length-append (placed_in file m.items) (placed_from (suc file) more), length-map m.items (placed_as file))
room_from file (m ∷ more) (suc i) d h =
    let rest = room_from (suc file) more i d (omega arith) in
    omega (arith, rest, length-append (placed_in file m.items) (placed_from (suc file) more), length-append (placed_in file m.items) (placed_from (suc file) (take i more)))

-- the items of a module are no more than those that are left
pub room : (modules : List Module) (i : ℕ) (d : Module) → i < length modules → length (placed (take i modules)) + length (get_or modules i d).items ≤ length (placed modules)
room modules i d h = room_from 0 modules i d h

pub fits : (modules items : List Module) (i : ℕ) (m : Module) → items ≡ modules → i < length items → m ≡ get_or items i m → length (placed modules) < 2147483648 → length (placed (take i items)) + length m.items ≤ 2147483648
fits modules items i m same h is few =
    let all = room items i m h in
    let one = ap (λ (one : Module). length one.items) is in
    let count = ap (λ l. length (placed l)) same in
    omega (arith, all, one, count, few)

pub take_push : (items : List Module) (i : ℕ) (m : Module) → i < length items → m ≡ get_or items i m → take i items ++ m ∷ [] ≡ take (i + 1) items
take_push items i m h is = ap (λ one. take i items ++ one ∷ []) is ∙ sym (take_more items i m h)

-- the items of the modules so far and of one more
pub count_push : (items : List Module) (i : ℕ) (m : Module) → i < length items → m ≡ get_or items i m → length (placed (take (i + 1) items)) ≡ length (placed (take i items)) + length m.items
count_push items i m h is =
    ap (λ l. length (placed l)) (sym (take_push items i m h is)) ∙ ap length (placed-push (take i items) m) ∙ length-append (placed (take i items)) (placed_in (length (take i items)) m.items)
    ∙ ap (λ n. length (placed (take i items)) + n) (length-map m.items (placed_as (length (take i items))))

-- items of one module declare nothing in another
others_keep : (bytes : List ℕ) (f file : ℕ) → nat_eq file f ≡ false → (items : List Item) (before : List Placed) → position (declares f bytes) (before ++ placed_in file items) ≡ position (declares f bytes) before
others_keep bytes f file apart [] before = ap (position (declares f bytes)) (append-nil before)
others_keep bytes f file apart (item ∷ more) before =
    let p : Placed = record { file = file; item = item } in
    ap (position (declares f bytes)) (sym (append_assoc before (p ∷ []) (placed_in file more)))
    ∙ others_keep bytes f file apart more (before ++ p ∷ [])
    ∙ position_kept (declares f bytes) before p (ap (λ b. b && is_word bytes (declared_word item)) apart)

-- nothing is declared behind the modules
pub none_yet : {gathering : Gathering} (before : List Module) (file : ℕ) → IsGathered before gathering → file ≡ length before → AreNames file (placed before) []
unfolding place_of
none_yet {gathering} before file gathered is bytes =
    sym (ap (option_and_then (λ names. place_of names bytes)) (slice_get_past gathering.declarations.declared file (omega (arith, gathered.modules_counted, is)))) ∙ gathered.are_of.places_are file bytes

module _ (old mid new : Gathering) (before : List Module) (m : Module) (file : ℕ) (names : List (List ℕ × ℕ)) (gathered : IsGathered before old) (is : file ≡ length before)
    (behind : IsBehind (placed before ++ placed_in file m.items) mid) (named : AreNames file (placed before ++ placed_in file m.items) names) (kept : KeepsNames old mid)
    (noted : (bytes : List ℕ) → place_of new.declarations.modules bytes ≡ option_or (place_of mid.declarations.modules bytes) (cond (bytes_eq m.name.bytes bytes) (Some file) None))
    (declared : new.declarations.declared ≡ mid.declarations.declared ++ names ∷ []) (meanings : new.declarations.meanings ≡ mid.declarations.meanings) (numbers : new.numbers ≡ mid.numbers) where
  abbrev all : List Module
  all = before ++ m ∷ []

  all_placed : placed before ++ placed_in file m.items ≡ placed all
  all_placed = sym (placed-push before m ∙ ap (λ n. placed before ++ placed_in n m.items) (sym is))

  modules_are : (bytes : List ℕ) → place_of new.declarations.modules bytes ≡ position (λ one. bytes_eq one.name.bytes bytes) all
  modules_are bytes =
      noted bytes
      ∙ (λ i. option_or (place_of (kept.modules i) bytes) (cond (bytes_eq m.name.bytes bytes) (Some (is i)) None))
      ∙ ap (λ r. option_or r (cond (bytes_eq m.name.bytes bytes) (Some (length before)) None)) (gathered.are_of.modules_are bytes)
      ∙ sym (position-push (λ (one : Module). bytes_eq one.name.bytes bytes) before m)

  abbrev place_among : List (List (List ℕ × ℕ)) → ℕ → List ℕ → Option ℕ
  place_among declared f bytes = option_and_then (λ names. place_of names bytes) (slice_get declared f)

  same_file : (f : ℕ) (bytes : List ℕ) → f ≡ file → place_of names bytes ≡ declaration all f bytes
  same_file f bytes e = named bytes ∙ (λ i. position (declares (sym e i) bytes) (all_placed i))

  other_file : (f : ℕ) (bytes : List ℕ) → nat_eq file f ≡ false → place_among old.declarations.declared f bytes ≡ declaration all f bytes
  other_file f bytes apart = gathered.are_of.places_are f bytes ∙ sym (others_keep bytes f file apart m.items (placed before)) ∙ ap (position (declares f bytes)) all_placed

  places_are : (f : ℕ) (bytes : List ℕ) → place_among new.declarations.declared f bytes ≡ declaration all f bytes
  places_are f bytes =
      ap (λ l. place_among l f bytes) (declared ∙ ap (λ l. l ++ names ∷ []) kept.declared)
      ∙ ap (option_and_then (λ names. place_of names bytes)) (slice_get-push old.declarations.declared names f ∙ ap (λ n. cond (nat_eq f n) (Some names) (slice_get old.declarations.declared f)) (gathered.modules_counted ∙ sym is))
      ∙ by (nat_eq f file) (λ e. same_file f bytes (eqb-true f file e)) (λ e. other_file f bytes (grind (arith, nat_tests))) refl
    where
      by : (b : Bool) → (nat_eq f file ≡ true → place_of names bytes ≡ declaration all f bytes) → (nat_eq f file ≡ false → place_among old.declarations.declared f bytes ≡ declaration all f bytes)
          → nat_eq f file ≡ b → option_and_then (λ names. place_of names bytes) (cond b (Some names) (slice_get old.declarations.declared f)) ≡ declaration all f bytes
      by true same other e = same e
      by false same other e = other e

  is_behind : IsBehind (placed all) new
  is_behind =
      let moved : IsBehind (placed all) mid = subst (λ l. IsBehind l mid) all_placed behind in
      record {
        numbers_are = numbers ∙ moved.numbers_are;
        meanings_are = λ at. ap (λ l. slice_get l at) meanings ∙ moved.meanings_are at;
        counted = ap length meanings ∙ moved.counted;
      }

  -- one module more
  pub IsGathered-push : IsGathered all new
  IsGathered-push = record {
    are_of = record { modules_are = modules_are; places_are = places_are; meanings_are = is_behind.meanings_are };
    is_behind = is_behind;
    modules_counted =
        ap length (declared ∙ ap (λ l. l ++ names ∷ []) kept.declared) ∙ length-append old.declarations.declared (names ∷ []) ∙ ap (λ n. n + 1) gathered.modules_counted ∙ sym (length-append before (m ∷ []));
  }

IsGathered-empty : IsGathered [] record { declarations = record { modules = []; declared = []; meanings = [] }; numbers = record { tabled = 0; exception = 7; global = 0; function = 0; hook = 0 } }
unfolding place_of placed_from
IsGathered-empty = record {
  are_of = record { modules_are = λ bytes. refl; places_are = λ file bytes. refl; meanings_are = λ at. refl };
  is_behind = record { numbers_are = refl; meanings_are = λ at. refl; counted = refl };
  modules_counted = refl;
}

-- no module
pub IsGathered-none : (modules : List (List ℕ × ℕ)) (declared : List (List (List ℕ × ℕ))) (meanings : List Meaning) → modules ≡ [] → declared ≡ [] → meanings ≡ []
    → IsGathered [] record { declarations = record { modules = modules; declared = declared; meanings = meanings }; numbers = record { tabled = 0; exception = 7; global = 0; function = 0; hook = 0 } }
IsGathered-none modules declared meanings m d n =
    subst (IsGathered []) (λ i. record { declarations = record { modules = sym m i; declared = sym d i; meanings = sym n i }; numbers = record { tabled = 0; exception = 7; global = 0; function = 0; hook = 0 } }) IsGathered-empty
