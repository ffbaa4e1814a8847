-- One list cut in two ways.
use Rattle.std.proofs.Common.{◌≡◌, List, [], ◌∷◌, ◌++◌, refl, sym}

-- where two cuts of one list stand to each other
pub data Cuts {T : Type 0} (us vs p q : List T) : Type 0 where
  Same : us ≡ vs → p ≡ q → Cuts us vs p q
  Shorter : (k : T) (m : List T) → vs ≡ us ++ k ∷ m → p ≡ (k ∷ m) ++ q → Cuts us vs p q
  Longer : (k : T) (m : List T) → us ≡ vs ++ k ∷ m → q ≡ (k ∷ m) ++ p → Cuts us vs p q

pub cuts : {T : Type 0} (us vs p q : List T) → us ++ p ≡ vs ++ q → Cuts us vs p q
cuts [] [] p q e = Same refl e
cuts [] (k ∷ m) p q e = Shorter k m refl e
cuts (k ∷ m) [] p q e = Longer k m refl (sym e)
cuts (u ∷ us) (v ∷ vs) p q e = let same : u ≡ v = cc in let tails : us ++ p ≡ vs ++ q = cc in go same (cuts us vs p q tails)
  where
    go : u ≡ v → Cuts us vs p q → Cuts (u ∷ us) (v ∷ vs) p q
    go same (Same a b) = Same (cc) b
    go same (Shorter k m a b) = Shorter k m (cc) b
    go same (Longer k m a b) = Longer k m (cc) b

pub append_empty_left : {T : Type 0} (us vs : List T) → us ++ vs ≡ [] → us ≡ []
append_empty_left [] vs e = refl
append_empty_left (u ∷ us) vs e = cc

pub append_empty_right : {T : Type 0} (us vs : List T) → us ++ vs ≡ [] → vs ≡ []
append_empty_right [] vs e = e
append_empty_right (u ∷ us) vs e = cc

pub not_empty : {T : Type 0} (us vs : List T) (k : T) → [] ≡ us ++ k ∷ vs → ⊥
not_empty [] vs k e = cc
not_empty (u ∷ us) vs k e = cc

pub not_longer : {T : Type 0} (us vs : List T) (k : T) → us ≡ us ++ k ∷ vs → ⊥
not_longer [] vs k e = cc
not_longer (u ∷ us) vs k e = let tails : us ≡ us ++ k ∷ vs = cc in not_longer us vs k tails
