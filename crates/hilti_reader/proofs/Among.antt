-- Kinds among those of a set.
use Rattle.std.proofs.Common.{◌≡◌, ℕ, zero, suc, ◌+◌, ◌<◌, Bool, true, false, ◌||◌, List, [], ◌∷◌, length, take, get_or, refl, sym, eqb, arith, add-one}
use Rattle.hilti_grammar.proofs.Sets.{or_left, or_right}
use Rattle.hilti_grammar.specs.Grammar.{has}
use Rattle.hilti_kinds.specs.declared.kind.Kind.{Kind}
use Rattle.hilti_kinds.specs.Kinds.{is, kind_number}
use Rattle.hilti_reader.specs.Modules.{grammar}

or_neither : (a b : Bool) → a ≡ false → b ≡ false → (a || b) ≡ false
or_neither true b h k = h
or_neither false b h k = k

not_left : (a b : Bool) → (a || b) ≡ false → a ≡ false
not_left true b h = h
not_left false b h = refl

not_right : (a b : Bool) → (a || b) ≡ false → b ≡ false
not_right true b h = cc
not_right false b h = h

-- a kind at a place of a list is in it
pub found : (set : List Kind) (i : ℕ) (kind d : Kind) → i < length set → is (get_or set i d) kind ≡ true → true ≡ has grammar set kind
found [] i kind d h e = absurd (omega arith)
found (x ∷ xs) zero kind d h e = sym (or_left _ _ e)
found (x ∷ xs) (suc i) kind d h e = let later : i < length xs = omega arith in sym (or_right _ _ (sym (found xs i kind d later e)))

-- a kind that isn't at the next place isn't among one more
pub not_yet : (set : List Kind) (i : ℕ) (kind d : Kind) → i < length set → has grammar (take i set) kind ≡ false → is (get_or set i d) kind ≡ false → has grammar (take (i + 1) set) kind ≡ false
not_yet set i kind d h e n = rw add-one (more set i h e n)
  where
    more : (set : List Kind) (i : ℕ) → i < length set → has grammar (take i set) kind ≡ false → is (get_or set i d) kind ≡ false → has grammar (take (suc i) set) kind ≡ false
    more [] i h e n = refl
    more (x ∷ xs) zero h e n = let other : eqb (kind_number x) (kind_number kind) ≡ false = n in cc
    more (x ∷ xs) (suc i) h e n = let later : i < length xs = omega arith in or_neither _ _ (not_left _ _ e) (more xs i later (not_right _ _ e) n)
