-- Values keep their types as those of new objects come.
use Rattle.std.proofs.Common.{◌≡◌, ℕ, zero, suc, List, [], ◌∷◌, refl, sym, Option, Some, None, IsSomeAnd, slice_get}
use Rattle.std.proofs.Math.Path.{subst}
use Rattle.std.proofs.lemmas.Option.{same_Some}
use Rattle.std.specs.Prelude.{slice_set}
use Rattle.std.specs.List.{AllByRecursion, AllZip}
use Rattle.hilti_types.specs.declared.declared.Declared.{Declared}
use Rattle.hilti_types.specs.declared.value_type.ValueType.{ValueType}
use Rattle.hilti_values.specs.declared.value.Value.{Value}
use Rattle.hilti_shapes.specs.Needs.{Need, Kinds, Meets, Has, Have, MayHave, IsResult, Grows, needs, no_kinds}

pub all_meet : {A : Type 0} (P Q : A → Type 0) → ((x : A) → P x → Q x) → (xs : List A) → AllByRecursion P xs
    → AllByRecursion Q xs
all_meet P Q f [] h = tt
all_meet P Q f (x ∷ xs) h = (f x h.0, all_meet P Q f xs h.1)

pub zip_meet : {A B : Type 0} (P Q : A → B → Type 0) → ((x : A) (y : B) → P x y → Q x y)
    → (xs : List A) (ys : List B) → AllZip P xs ys → AllZip Q xs ys
zip_meet P Q f [] [] h = tt
zip_meet P Q f (x ∷ xs) (y ∷ ys) h = (f x y h.0, zip_meet P Q f xs ys h.1)
zip_meet P Q f [] (y ∷ ys) h = absurd h
zip_meet P Q f (x ∷ xs) [] h = absurd h

-- what is at a place of one list, for what is at that place of the other
pub zip_at : {A B : Type 0} (P : A → B → Type 0) (xs : List A) (ys : List B) (n : ℕ) (y : B) → AllZip P xs ys
    → slice_get ys n ≡ Some y → (x : A) × (slice_get xs n ≡ Some x) × P x y
zip_at P [] [] n y h e = absurd cc
zip_at P (x ∷ xs) (z ∷ ys) zero y h e = (x, refl, subst (P x) (same_Some z y e) h.0)
zip_at P (x ∷ xs) (z ∷ ys) (suc n) y h e = zip_at P xs ys n y h.1 e
zip_at P [] (z ∷ ys) n y h e = absurd h
zip_at P (x ∷ xs) [] n y h e = absurd h

pub zip_put : {A B : Type 0} (P : A → B → Type 0) (xs : List A) (ys : List B) (n : ℕ) (x : A) (y : B)
    → AllZip P xs ys → slice_get ys n ≡ Some y → P x y → AllZip P (slice_set xs n x) ys
zip_put P [] [] n x y h e g = absurd cc
zip_put P (w ∷ xs) (z ∷ ys) zero x y h e g = (subst (P x) (sym (same_Some z y e)) g, h.1)
zip_put P (w ∷ xs) (z ∷ ys) (suc n) x y h e g = (h.0, zip_put P xs ys n x y h.1 e g)
zip_put P [] (z ∷ ys) n x y h e g = absurd h
zip_put P (w ∷ xs) [] n x y h e g = absurd h

some_meet : {A : Type 0} (P Q : A → Type 0) → ((x : A) → P x → Q x) → (o : Option A) → IsSomeAnd o P → IsSomeAnd o Q
some_meet P Q f None h = absurd h
some_meet P Q f (Some x) h = f x h

module _ (table : List Declared) (k l : Kinds) (g : Grows k l) where
  pub has_grow : (v : Value) (t : ValueType) → Has table k v t → Has table l v t
  has_grow v t h = some_meet (Meets k) (Meets l) (all_meet (λ (n : Need). k n.serial ≡ Some n.type) (λ (n : Need). l
      n.serial ≡ Some n.type) (λ (n : Need) e. g n.serial n.type e)) (needs table v t) h

  pub have_grow : (vs : List Value) (ts : List ValueType) → Have table k vs ts → Have table l vs ts
  have_grow = zip_meet (Has table k) (Has table l) has_grow

  pub may_grow : (f : Option Value) (t : ValueType) → MayHave table k f t → MayHave table l f t
  may_grow None t h = tt
  may_grow (Some v) t h = has_grow v t h

  pub fields_grow : (fs : List (Option Value)) (ts : List ValueType) → AllZip (MayHave table k) fs ts
      → AllZip (MayHave table l) fs ts
  fields_grow = zip_meet (MayHave table k) (MayHave table l) may_grow

  pub result_grow : (t : Option ValueType) (v : Option Value) → IsResult table k t v → IsResult table l t v
  result_grow None v h = h
  result_grow (Some t) v h = some_meet (λ x. Has table k x t) (λ x. Has table l x t) (λ x. has_grow x t) v h

-- what needs no object has its type whatever types the objects have
pub none_grows : (k : Kinds) → Grows no_kinds k
none_grows k s t e = absurd cc

pub same_kinds : (k : Kinds) → Grows k k
same_kinds k s t e = e

pub grow_then : (j k l : Kinds) → Grows j k → Grows k l → Grows j l
grow_then j k l f g s t e = g s t (f s t e)
