-- A list that is sorted by falling priority, those of one priority as they stood, is the list in order.
use Rattle.std.proofs.Common.{◌≡◌, refl, sym, ◌∙◌, ap, ap₂, ℕ, zero, suc, ◌<◌, ◌≤◌, nat_eq, Bool, true, false, ◌&&◌, cond, List, [], ◌∷◌, ◌++◌, length, get_or, arith, add-one, eqb-true, max}
use Rattle.std.specs.Prelude.{filter, not, nat_lt, IsPermutation}
use Rattle.std.specs.List.{AllByRecursion}
use Rattle.std.specs.List.Sorted.{IsSortedBy, IsStableBy, ties}
use Rattle.std.specs.Ordering.{is_lt, nat_cmp}
use Rattle.std.specs.declared.cmp.Ordering.TheVariants.{Less, Equal, Greater}
use Rattle.std.proofs.lemmas.Bool.{ltb-false, le-ltb, lt-ltb, ne_eqb, eqb-false}
use Rattle.std.proofs.lemmas.List.Elements.{All-from_recursion, recursion_from_All, filter_agree}
use Rattle.std.proofs.lemmas.List.Sorted.{All-permutation}
use Rattle.std.specs.Cmp.{IsStrictWeakOrder}
use Rattle.std.specs.Fn.{Called, ComparesAs}
use Rattle.std.specs.declared.cmp.Ordering.{Ordering}
use Rattle.std.proofs.lemmas.Fn.{always_returns_same}
use Rattle.std.proofs.lemmas.List.MinMax.{IsStrictWeakOrder-by_number, IsStrictWeakOrder-flip}
use denote.Ref.{Bor}
use denote.Param.Members.{Mut}
use Rattle.hilti_declared.specs.declared.hooks.HookBody.{HookBody}
use Rattle.hilti_declared.specs.Hooks.{by_priority, above, in_order}

abbrev of_priority : ℕ → HookBody → Bool
of_priority p b = nat_eq b.priority p

abbrev pub later_first : HookBody → HookBody → Bool
later_first a b = nat_lt b.priority a.priority

-- all are of priorities of at most so much; none is of a greater one than the one in front of it
abbrev AtMost : ℕ → List HookBody → Type 0
AtMost p [] = Unit {0}
AtMost p (y ∷ ys) = (y.priority ≤ p) × AtMost p ys

abbrev Falls : List HookBody → Type 0
Falls [] = Unit {0}
Falls (y ∷ ys) = AtMost y.priority ys × Falls ys

abbrev Below : ℕ → List HookBody → Type 0
Below n = AllByRecursion (λ (b : HookBody). b.priority < n)

lower : (p q : ℕ) (ys : List HookBody) → p ≤ q → AtMost p ys → AtMost q ys
lower p q [] h all = tt
lower p q (y ∷ ys) h all = ((let first = all.0 in omega arith), lower p q ys h all.1)

falls_of : (ys : List HookBody)
    → ((k : ℕ) (d : HookBody) → suc k < length ys → (let next = get_or ys (suc k) d in let one = get_or ys k d in next.priority ≤ one.priority))
    → Falls ys
falls_of [] next = tt
falls_of (y ∷ []) next = (tt, tt)
falls_of (y ∷ z ∷ ys) next =
    let rest = falls_of (z ∷ ys) (λ k d h. next (suc k) d (omega arith)) in
    let first : z.priority ≤ y.priority = next 0 y (omega arith) in
    ((first, lower z.priority y.priority ys first rest.0), rest)

none_at : (p q : ℕ) (ys : List HookBody) → q < p → AtMost q ys → filter (of_priority p) ys ≡ []
none_at p q [] h all = refl
none_at p q (y ∷ ys) h all =
    let first = all.0 in
    let apart : nat_eq y.priority p ≡ false = ne_eqb y.priority p (omega arith) in
    rw apart (none_at p q ys h all.1)

-- one that isn't below is passed over
passed : (n : ℕ) (y : HookBody) (ys : List HookBody) → n ≤ y.priority → by_priority n (y ∷ ys) ≡ by_priority n ys
unfolding by_priority
passed zero y ys h = refl
passed (suc p) y ys h =
    let apart : nat_eq y.priority p ≡ false = ne_eqb y.priority p (omega arith) in
    rw apart (ap (λ l. filter (of_priority p) ys ++ l) (passed p y ys (omega arith)))

first_of : (n : ℕ) (y : HookBody) (ys : List HookBody) → y.priority < n → AtMost y.priority ys → by_priority n (y ∷ ys) ≡ y ∷ by_priority n ys
unfolding by_priority
first_of zero y ys h all = absurd (omega arith)
first_of (suc p) y ys h all = by (nat_eq y.priority p) refl (λ less. first_of p y ys less all)
  where
    by : (b : Bool) → nat_eq y.priority p ≡ b → (y.priority < p → by_priority p (y ∷ ys) ≡ y ∷ by_priority p ys)
        → by_priority (suc p) (y ∷ ys) ≡ y ∷ by_priority (suc p) ys
    by true e rest =
        let same : y.priority ≡ p = eqb-true y.priority p e in
        rw e (ap (λ l. y ∷ (filter (of_priority p) ys ++ l)) (passed p y ys (omega arith)))
    by false e rest =
        let less : y.priority < p = omega (arith, eqb-false y.priority p e) in
        let none = none_at p y.priority ys less all in
        rw (e, none) (rest less)

none_below : (n : ℕ) → by_priority n [] ≡ []
unfolding by_priority
none_below zero = refl
none_below (suc p) = none_below p

in_falling : (n : ℕ) (ys : List HookBody) → Falls ys → Below n ys → by_priority n ys ≡ ys
in_falling n [] falls below = none_below n
in_falling n (y ∷ ys) falls below = first_of n y ys below.0 falls.0 ∙ ap (λ l. y ∷ l) (in_falling n ys falls.1 below.1)

-- those of each priority stand alike
alike : (n : ℕ) (xs ys : List HookBody) → ((p : ℕ) → filter (of_priority p) ys ≡ filter (of_priority p) xs) → by_priority n ys ≡ by_priority n xs
unfolding by_priority
alike zero xs ys same = refl
alike (suc p) xs ys same = ap₂ (λ a b. a ++ b) (same p) (alike p xs ys same)

below_more : (n m : ℕ) (xs : List HookBody) → n ≤ m → Below n xs → Below m xs
below_more n m [] h all = tt
below_more n m (x ∷ xs) h all = ((let first = all.0 in omega arith), below_more n m xs h all.1)

all_below : (xs : List HookBody) → Below (above xs) xs
unfolding above
all_below [] = tt
all_below (x ∷ xs) = (omega arith, below_more (above xs) (max (suc x.priority) (above xs)) xs (omega arith) (all_below xs))

tied : (p : ℕ) (x b : HookBody) → x.priority ≡ p → ties later_first x b ≡ of_priority p b
tied p x b e = by (nat_eq b.priority p) refl
  where
    by : (t : Bool) → nat_eq b.priority p ≡ t → ties later_first x b ≡ t
    by true is =
        let same : b.priority ≡ p = eqb-true b.priority p is in
        ap₂ (λ u v. not u && not v) (le-ltb b.priority x.priority (omega arith))
        (le-ltb x.priority b.priority (omega arith))
    by false is = apart (nat_lt b.priority x.priority) refl
      where
        apart : (t : Bool) → nat_lt b.priority x.priority ≡ t → ties later_first x b ≡ false
        apart true less = ap (λ u. not u && not (later_first b x)) less
        apart false less =
            let more : x.priority < b.priority = omega (arith, ltb-false b.priority x.priority less, eqb-false b.priority p is, e) in
            ap₂ (λ u v. not u && not v) less (lt-ltb x.priority b.priority more)

pub ordered : (xs ys : List HookBody) → IsPermutation xs ys → IsSortedBy later_first ys → IsStableBy later_first xs ys → ys ≡ in_order xs
ordered xs ys shuffled sorted stable =
    let falls = falls_of ys (λ k d h. falling k d h) in
    let below = recursion_from_All _ ys (All-permutation (λ (b : HookBody). b.priority < above xs) xs ys shuffled (All-from_recursion _ xs (all_below xs))) in
    sym (in_falling (above xs) ys falls below) ∙ alike (above xs) xs ys each
  where
    falling : (k : ℕ) (d : HookBody) → suc k < length ys → (let next = get_or ys (suc k) d in let one = get_or ys k d in next.priority ≤ one.priority)
    falling k d h =
        let next = get_or ys (suc k) d in
        let one = get_or ys k d in
        let e = ap (λ n. later_first (get_or ys n d) one) (sym (add-one k)) in
        ltb-false one.priority next.priority (e ∙ sorted k d (omega arith) (omega arith))

    each : (p : ℕ) → filter (of_priority p) ys ≡ filter (of_priority p) xs
    each p =
        let x : HookBody = record { hook = 0; priority = p; function = record { n = 0 } } in
        sym (filter_agree (ties later_first x) (of_priority p) (λ b. tied p x b refl) ys) ∙ stable x ∙ filter_agree (ties later_first x) (of_priority p) (λ b. tied p x b refl) xs

-- the numbers compare as the test says
pub compared : (a b : HookBody) → is_lt (nat_cmp b.priority a.priority) ≡ later_first a b
compared a b = by (nat_lt b.priority a.priority) (nat_eq b.priority a.priority)
  where
    by : (less same : Bool) → is_lt (cond less Less (cond same Equal Greater)) ≡ less
    by true same = refl
    by false true = refl
    by false false = refl

-- the same of a sort by a closure that compares the priorities, the greater one first
pub sorted_by : {F : Type 0} {g : Mut F (Bor HookBody × (Bor HookBody × Unit {0})) Ordering} {f : F} (xs ys : List HookBody) → IsPermutation xs ys
    → ((lt : HookBody → HookBody → Bool) → IsStrictWeakOrder lt → ComparesAs g lt f → IsSortedBy lt ys)
    → ((lt : HookBody → HookBody → Bool) → IsStrictWeakOrder lt → ComparesAs g lt f → IsStableBy lt xs ys)
    → ((a : Bor HookBody × (Bor HookBody × Unit {0})) (r : Ordering) (f' : F) → Called g f a r f'
    → (let one = a.0.now in let other = a.1.0.now in (r ≡ nat_cmp other.priority one.priority) × (f' ≡ f)))
    → ys ≡ in_order xs
sorted_by {g = g} {f = f} xs ys shuffled sorted stable answers =
    let lawful : IsStrictWeakOrder later_first = IsStrictWeakOrder-flip _ (IsStrictWeakOrder-by_number (λ (b : HookBody). b.priority)) in
    let compares : ComparesAs g later_first f = always_returns_same g (λ a r. is_lt r ≡ later_first a.0.now a.1.0.now) f
    (λ a r f' called. let told = answers a r f' called in (ap is_lt told.0 ∙ compared a.0.now a.1.0.now, told.1)) in
    ordered xs ys shuffled (sorted later_first lawful compares) (stable later_first lawful compares)
