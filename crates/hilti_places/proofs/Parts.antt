-- What holds of a list holds of its parts.
use Rattle.std.proofs.Common.{arith, List, [], ◌∷◌, ◌++◌, map}
use Rattle.std.proofs.lemmas.List.Elements.{All-contains, All-contains_itself, All-from_recursion, recursion_from_All}
use Rattle.std.proofs.lemmas.List.Kept.{AllPairs-cons}
use Rattle.std.specs.Prelude.{⊤, ◌≡◌, ℕ}
use Rattle.std.specs.List.{AllByRecursion, AllPairs, Contains}
use Rattle.hilti_base.specs.declared.names.Place.{Place}
use Rattle.hilti_places.specs.Places.{IsBefore, IsPartOf, IsPartOf.AtEnd, IsPartOf.Kept, IsPartOf.LeftOut, Rise}

pub part_none : {X : Type 0} (xs : List X) → IsPartOf [] xs
part_none [] = AtEnd
part_none (x ∷ xs) = LeftOut (part_none xs)

pub part_same : {X : Type 0} (xs : List X) → IsPartOf xs xs
part_same [] = AtEnd
part_same (x ∷ xs) = Kept (part_same xs)

pub part_one : {X : Type 0} (x : X) (front back : List X) → IsPartOf (x ∷ []) (front ++ x ∷ back)
part_one x [] back = Kept (part_none back)
part_one x (y ∷ front) back = LeftOut (part_one x front back)

pub part_both : {X : Type 0} (us xs vs ys : List X) → IsPartOf us xs → IsPartOf vs ys → IsPartOf (us ++ vs) (xs ++ ys)
part_both _ _ vs ys AtEnd q = q
part_both _ _ vs ys (Kept {xs = us} {ys = xs} p) q = Kept (part_both us xs vs ys p q)
part_both us _ vs ys (LeftOut {ys = xs} p) q = LeftOut (part_both us xs vs ys p q)

pub part_trans : {X : Type 0} (xs ys zs : List X) → IsPartOf xs ys → IsPartOf ys zs → IsPartOf xs zs
part_trans xs ys _ p (LeftOut {ys = zs} q) = LeftOut (part_trans xs ys zs p q)
part_trans xs _ _ p AtEnd = p
part_trans _ _ _ (Kept {xs = xs} {ys = ys} p) (Kept {ys = zs} q) = Kept (part_trans xs ys zs p q)
part_trans xs _ _ (LeftOut {ys = ys} p) (Kept {ys = zs} q) = LeftOut (part_trans xs ys zs p q)

pub part_map : {X Y : Type 0} (f : X → Y) (xs ys : List X) → IsPartOf xs ys → IsPartOf (map f xs) (map f ys)
part_map f _ _ AtEnd = AtEnd
part_map f _ _ (Kept {xs = xs} {ys = ys} p) = Kept (part_map f xs ys p)
part_map f xs _ (LeftOut {ys = ys} p) = LeftOut (part_map f xs ys p)

pub part_all : {X : Type 0} (P : X → Type 0) (xs ys : List X) → IsPartOf xs ys → AllByRecursion P ys → AllByRecursion P xs
part_all P _ _ AtEnd h = h
part_all P _ _ (Kept {xs = xs} {ys = ys} p) h = (h.0, part_all P xs ys p h.1)
part_all P xs _ (LeftOut {ys = ys} p) h = part_all P xs ys p h.1

pub part_contains : {X : Type 0} (x : X) (ys : List X) → IsPartOf (x ∷ []) ys → Contains ys x
part_contains x ys p = (part_all (Contains ys) (x ∷ []) ys p (recursion_from_All (Contains ys) ys (All-contains_itself ys))).0

-- each element and each later one
abbrev pub Pairs : {X : Type 0} → (X → X → Type 0) → List X → Type 0
Pairs R [] = ⊤
Pairs R (x ∷ xs) = AllByRecursion (R x) xs × Pairs R xs

pub part_pairs : {X : Type 0} (R : X → X → Type 0) (xs ys : List X) → IsPartOf xs ys → Pairs R ys → Pairs R xs
part_pairs R _ _ AtEnd h = h
part_pairs R _ _ (Kept {x = x} {xs = xs} {ys = ys} p) h = (part_all (R x) xs ys p h.0, part_pairs R xs ys p h.1)
part_pairs R xs _ (LeftOut {ys = ys} p) h = part_pairs R xs ys p h.1

all_pairs : {X : Type 0} (R : X → X → Type 0) (xs : List X) → Pairs R xs → AllPairs R xs
all_pairs R [] h = λ i j d before within. absurd (omega arith)
all_pairs R (x ∷ xs) h = AllPairs-cons R x xs (All-from_recursion (R x) xs h.0) (all_pairs R xs h.1)

pub weaker : {X : Type 0} (P Q : X → Type 0) → ((x : X) → P x → Q x) → (xs : List X) → AllByRecursion P xs → AllByRecursion Q xs
weaker P Q brings [] h = tt
weaker P Q brings (x ∷ xs) h = (brings x h.0, weaker P Q brings xs h.1)

behind_all : {X : Type 0} (P : X → Type 0) (xs ys : List X) → AllByRecursion P (xs ++ ys) → AllByRecursion P ys
behind_all P [] ys h = h
behind_all P (x ∷ xs) ys h = behind_all P xs ys h.1

across : {X : Type 0} (R : X → X → Type 0) (xs ys : List X) → Pairs R (xs ++ ys) → AllByRecursion (λ x. AllByRecursion (R x) ys) xs
across R [] ys h = tt
across R (x ∷ xs) ys h = (behind_all (R x) xs ys h.0, across R xs ys h.1)

contained : {X : Type 0} (P : X → Type 0) (xs : List X) (x : X) → AllByRecursion P xs → Contains xs x → P x
contained P xs x h = All-contains P xs x (All-from_recursion P xs h)

-- of two lists one behind the other, each element of the first goes with each of the second
pub two_parts : {X : Type 0} (R : X → X → Type 0) (xs ys : List X) (a b : X) → Pairs R (xs ++ ys) → Contains xs a → Contains ys b → R a b
two_parts R xs ys a b h of_first of_second =
    contained (R a) ys b (contained (λ x. AllByRecursion (R x) ys) xs a (across R xs ys h) of_first) of_second

-- places of a file that rise, by recursion
pub record Climb (file : ℕ) (places : List Place) : Type 0 where
  pub of_file : AllByRecursion (λ place. place.file ≡ file) places
  pub in_turn : Pairs IsBefore places

pub part_climb : (file : ℕ) (ps qs : List Place) → IsPartOf ps qs → Climb file qs → Climb file ps
part_climb file ps qs p h = record {
  of_file = part_all (λ place. place.file ≡ file) ps qs p h.of_file;
  in_turn = part_pairs IsBefore ps qs p h.in_turn;
}

pub rise : (file : ℕ) (ps : List Place) → Climb file ps → Rise file ps
rise file ps h = record {
  of_file = All-from_recursion (λ place. place.file ≡ file) ps h.of_file;
  in_turn = all_pairs IsBefore ps h.in_turn;
}
