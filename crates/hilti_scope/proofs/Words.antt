-- Words with their places, as the entries of a map and one word at a time.
use Rattle.std.proofs.Common.{◌≡◌, ℕ, Bool, true, false, cond, List, [], ◌∷◌, ◌++◌, map, bytes_eq, is_some, true≢false, Option, Some, None, Vec, refl, sym, ap, ap₂, ◌∙◌, subst}
use Rattle.std.specs.Map.{lookup}
use Rattle.std.specs.Option.{option_or}
use Rattle.std.proofs.lemmas.Cmp.{nat_list_eq_equiv}
use Rattle.std.proofs.lemmas.List.{map-append}
use Rattle.std.proofs.lemmas.Slice.Eq.{bytes_eq-Decides}
use Rattle.indexmap.specs.IndexMap.{IndexMap, insert_entry}
use Rattle.indexmap.proofs.CallerLemmas.{insert_entry-new}
use Rattle.hilti_scope.specs.FirstPlaces.{place_of}

pub swapped : (a b : List ℕ) → bytes_eq a b ≡ bytes_eq b a
swapped a b = nat_list_eq_equiv.symm a b

-- a word more
pub place_of-push : (noted : List (List ℕ × ℕ)) (word : List ℕ) (place : ℕ) (bytes : List ℕ) → place_of (noted ++ (word, place) ∷ []) bytes ≡ option_or (place_of noted bytes) (cond (bytes_eq word bytes) (Some place) None)
unfolding place_of
place_of-push [] word place bytes = refl
place_of-push (entry ∷ more) word place bytes = ap (cond (bytes_eq entry.0 bytes) (Some entry.1)) (place_of-push more word place bytes) ∙ by (bytes_eq entry.0 bytes)
  where
    by : (b : Bool) → cond b (Some entry.1) (option_or (place_of more bytes) (cond (bytes_eq word bytes) (Some place) None)) ≡ option_or (cond b (Some entry.1) (place_of more bytes)) (cond (bytes_eq word bytes) (Some place) None)
    by true = refl
    by false = refl

-- the words of a map's entries
abbrev pub noted : {A : Type 0} → List (Vec ℕ A × ℕ) → List (List ℕ × ℕ)
noted entries = map (λ entry. (entry.0.items, entry.1)) entries

pub place_of-lookup : {A : Type 0} (entries : List (Vec ℕ A × ℕ)) (bytes : List ℕ) → place_of (noted entries) bytes ≡ lookup (λ key. bytes_eq bytes key.items) entries
unfolding place_of
place_of-lookup [] bytes = refl
place_of-lookup (entry ∷ more) bytes = ap₂ (λ b r. cond b (Some entry.1) r) (swapped entry.0.items bytes) (place_of-lookup more bytes)

module _ {A : Type 0} (entries : List (Vec ℕ A × ℕ)) (now : List (List ℕ × ℕ)) (word : List ℕ) (seen : noted entries ≡ now) where
  -- a look-up in the map gives the place
  pub found : (r : Option ℕ) → r ≡ lookup (λ key. bytes_eq word key.items) entries → r ≡ place_of now word
  found r is = is ∙ sym (place_of-lookup entries word) ∙ ap (λ words. place_of words word) seen

  -- a word that was noted before changes nothing
  pub already : (place : ℕ) → is_some (lookup (λ key. bytes_eq word key.items) entries) ≡ true → (bytes : List ℕ) → place_of now bytes ≡ option_or (place_of now bytes) (cond (bytes_eq word bytes) (Some place) None)
  already place is bytes = by (place_of now bytes) (bytes_eq word bytes) there
    where
      there : bytes_eq word bytes ≡ true → is_some (place_of now bytes) ≡ true
      there same = subst (λ other. is_some (place_of now other) ≡ true) ((bytes_eq-Decides word bytes).0 same) (ap is_some (sym (found _ refl)) ∙ is)

      by : (r : Option ℕ) (b : Bool) → (b ≡ true → is_some r ≡ true) → r ≡ option_or r (cond b (Some place) None)
      by (Some i) b h = refl
      by None true h = absurd (true≢false (sym (h refl)))
      by None false h = refl

-- a new word goes last
module _ {A S : Type 0} (old : IndexMap (Vec ℕ A) ℕ S) (key : Vec ℕ A) (place : ℕ) (word : List ℕ) (keeps : key.items ≡ word) where
  pub added : (now : List (List ℕ × ℕ)) (entries : List (Vec ℕ A × ℕ)) → noted old.entries ≡ now → is_some (lookup (λ other. bytes_eq word other.items) old.entries) ≡ false
      → entries ≡ insert_entry (λ x y. bytes_eq x.items y.items) old.entries key place
      → (bytes : List ℕ) → place_of (noted entries) bytes ≡ option_or (place_of now bytes) (cond (bytes_eq word bytes) (Some place) None)
  added now entries seen absent is bytes =
      ap (λ words. place_of (noted words) bytes) (is ∙ insert_entry-new (λ x y. bytes_eq x.items y.items) old key place none)
      ∙ ap (λ words. place_of words bytes) (map-append _ old.entries ((key, place) ∷ []))
      ∙ place_of-push (noted old.entries) key.items place bytes
      ∙ ap₂ (λ words other. option_or (place_of words bytes) (cond (bytes_eq other bytes) (Some place) None)) seen keeps
    where
      is_none : (r : Option ℕ) → is_some r ≡ false → r ≡ None
      is_none None h = refl
      is_none (Some i) h = absurd (true≢false h)

      none : lookup (λ other. bytes_eq key.items other.items) old.entries ≡ None
      none = is_none _ (ap (λ other. is_some (lookup (λ k. bytes_eq other k.items) old.entries)) keeps ∙ absent)
