-- Whether the parts of two lists say the same, found one after another; and what a reference and a tuple say.
use Rattle.std.proofs.Common.{◌≡◌, refl, sym, ◌∙◌, ap, ℕ, ◌+◌, ◌<◌, List, [], ◌∷◌, ◌++◌, length, map, take, get_or}
use Rattle.std.proofs.lemmas.List.{get_or-map, map_more}
use Rattle.hilti_module.specs.declared.types.PlainType.{PlainType}
use Rattle.hilti_module.specs.declared.types.PlainInner.TheVariants as words
use Rattle.hilti_resolve.specs.Written.{Written, Plain, Int, Tuple, NoPart, Part, Iterator, Ref, InnerWord, One, Two, Named, parts_of, reference_to}

module _ {X W : Type 0} (f g : X → W) where
  at_place : (h : X → W) (all items : List X) (at : ℕ) (part : X) (other : W) → items ≡ all → at < length items → part ≡ get_or items at part
      → get_or (map h all) at other ≡ h part
  at_place h all items at part other same below is =
      ap (λ items. get_or (map h items) at other) (sym same)
      ∙ get_or-map h items at part other below
      ∙ ap h (sym is)

  -- the parts at one place of lists that say the same
  pub same_at : (all others left right : List X) (at : ℕ) (a b : X) → left ≡ all → right ≡ others → at < length left → at < length right
      → a ≡ get_or left at a → b ≡ get_or right at b → map f all ≡ map g others → f a ≡ g b
  same_at all others left right at a b left_is right_is below under a_is b_is same =
      sym (at_place f all left at a (f a) left_is below a_is)
      ∙ ap (λ said. get_or said at (f a)) same
      ∙ at_place g others right at b (f a) right_is under b_is

  -- one more part that says the same
  pub same_more : (left right : List X) (at : ℕ) (a b : X) → at < length left → at < length right
      → a ≡ get_or left at a → b ≡ get_or right at b → map f (take at left) ≡ map g (take at right) → f a ≡ g b
      → map f (take (at + 1) left) ≡ map g (take (at + 1) right)
  same_more left right at a b below under a_is b_is so_far same =
      map_more f left at a below
      ∙ ap (λ said. map f (take at left) ++ said ∷ []) (ap f (sym a_is) ∙ same ∙ ap g b_is)
      ∙ ap (λ said. said ++ g (get_or right at b) ∷ []) so_far
      ∙ sym (map_more g right at b under)

-- lists whose parts are written the same are the same
pub same_parts_of : (a b : List Written) → parts_of a ≡ parts_of b → a ≡ b
unfolding parts_of
same_parts_of [] [] same = refl
same_parts_of [] (b ∷ more) same = cc
same_parts_of (a ∷ more) [] same = cc
same_parts_of (a ∷ rest) (b ∷ more) same =
    let one : a ≡ b = cc in
    let others : parts_of rest ≡ parts_of more = cc in
    ap (λ first. first ∷ rest) one ∙ ap (λ rest. b ∷ rest) (same_parts_of rest more others)

pub same_tuple : (a b : List Written) → Tuple (parts_of a) ≡ Tuple (parts_of b) → a ≡ b
same_tuple a b same =
    let parts : parts_of a ≡ parts_of b = cc in
    same_parts_of a b parts

-- only a reference to bytes is a type of one word, which is bytes
pub plain_reference : (to : Written) (said : PlainType) → reference_to to ≡ Plain said → to ≡ InnerWord words.Bytes
plain_reference (Plain other) said is = cc
plain_reference (Int bits) said is = cc
plain_reference (Tuple parts) said is = cc
plain_reference NoPart said is = cc
plain_reference (Part first more) said is = cc
plain_reference (Iterator over) said is = cc
plain_reference (Ref to) said is = cc
plain_reference (InnerWord words.Bytes) said is = refl
plain_reference (InnerWord words.Timer) said is = cc
plain_reference (InnerWord words.Manager) said is = cc
plain_reference (One single item) said is = cc
plain_reference (Two double first second) said is = cc
plain_reference (Named meaning) said is = cc
