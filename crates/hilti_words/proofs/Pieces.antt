-- Words are cut into pieces in one way.
use Rattle.std.proofs.Common.{◌≡◌, ℕ, List, [], ◌∷◌, ◌++◌, get_or, refl, sym, ap, ◌∙◌, append_assoc, arith}
use Rattle.std.proofs.lemmas.List.{append-nil}
use Rattle.std.specs.List.{AllByRecursion}
use Rattle.hilti_words.specs.declared.setting.Setting.{Setting}
use Rattle.hilti_words.specs.declared.setting.Setting.TheVariants.{Fuel, Calls}
use Rattle.hilti_words.specs.Names.{IsName}
use Rattle.hilti_words.specs.Options.{Piece, Piece.Position, Piece.Apart, Piece.Joined, IsPiece, joined, option_of, spelled, words_of}

-- what begins like an option is no name
pub option_is_no_name : (setting : Setting) (word : List ℕ) → IsName word → word ≡ option_of setting → ⊥
option_is_no_name Fuel word is e = is.plain (ap (λ w. get_or w 0 0) e)
option_is_no_name Calls word is e = is.plain (ap (λ w. get_or w 0 0) e)

pub joined_is_no_name : (setting : Setting) (value word : List ℕ) → IsName word → word ≡ joined setting value → ⊥
joined_is_no_name Fuel value word is e = is.plain (ap (λ w. get_or w 0 0) e)
joined_is_no_name Calls value word is e = is.plain (ap (λ w. get_or w 0 0) e)

-- options of two settings differ in their third byte
never_same : (word : List ℕ) → get_or word 2 0 ≡ 102 → get_or word 2 0 ≡ 99 → ⊥
never_same word fuel calls = omega (arith, fuel, calls)

pub one_option : (a b : Setting) → option_of a ≡ option_of b → a ≡ b
one_option Fuel Fuel e = refl
one_option Fuel Calls e = absurd (never_same (option_of Fuel) refl (ap (λ w. get_or w 2 0) e))
one_option Calls Fuel e = absurd (never_same (option_of Fuel) refl (ap (λ w. get_or w 2 0) (sym e)))
one_option Calls Calls e = refl

pub never_both_forms : (a b : Setting) (value : List ℕ) → option_of a ≡ joined b value → ⊥
never_both_forms Fuel Fuel value e = cc
never_both_forms Fuel Calls value e = never_same (option_of Fuel) refl (ap (λ w. get_or w 2 0) e)
never_both_forms Calls Fuel value e = never_same (joined Fuel value) refl (ap (λ w. get_or w 2 0) (sym e))
never_both_forms Calls Calls value e = cc

pub one_joined : (a b : Setting) (value other : List ℕ) → joined a value ≡ joined b other → (a ≡ b) × (value ≡ other)
one_joined Fuel Fuel value other e = (refl, cc)
one_joined Fuel Calls value other e = absurd (never_same (joined Fuel value) refl (ap (λ w. get_or w 2 0) e))
one_joined Calls Fuel value other e = absurd (never_same (joined Fuel other) refl (ap (λ w. get_or w 2 0) (sym e)))
one_joined Calls Calls value other e = (refl, cc)

-- what stands first among words is one piece
same_piece : (p q : Piece) (more others : List (List ℕ)) → IsPiece p → IsPiece q → spelled p ++ more ≡ spelled q ++ others
    → (p ≡ q) × (more ≡ others)
same_piece (Position word) (Position name) more others is also e = let same : word ≡ name = cc in (ap Position same, cc)
same_piece (Position word) (Apart s value) more others is also e = absurd (option_is_no_name s word is (cc))
same_piece (Position word) (Joined s value) more others is also e = absurd (joined_is_no_name s value word is (cc))
same_piece (Apart s value) (Position word) more others is also e = absurd (option_is_no_name s word also (cc))
same_piece (Apart s value) (Apart t other) more others is also e =
    let same : s ≡ t = one_option s t (cc) in
    let too : value ≡ other = cc in
    (ap (λ x. Apart x value) same ∙ ap (Apart t) too, cc)
same_piece (Apart s value) (Joined t other) more others is also e = absurd (never_both_forms s t other (cc))
same_piece (Joined s value) (Position word) more others is also e = absurd (joined_is_no_name s value word also (cc))
same_piece (Joined s value) (Apart t other) more others is also e = absurd (never_both_forms t s value (cc))
same_piece (Joined s value) (Joined t other) more others is also e =
    let same = one_joined s t value other (cc) in
    (ap (λ x. Joined x value) same.0 ∙ ap (Joined t) same.1, cc)

-- a piece has words
never_nothing : (p : Piece) (more : List (List ℕ)) → [] ≡ spelled p ++ more → ⊥
never_nothing (Position word) more e = cc
never_nothing (Apart s value) more e = cc
never_nothing (Joined s value) more e = cc

-- pieces go on as others do, with the words that are left
pub record GoOn (pieces longer : List Piece) (left : List (List ℕ)) : Type 0 where
  pub rest : List Piece
  pub longer_is : longer ≡ pieces ++ rest
  pub words : words_of rest ≡ left
  pub good : AllByRecursion IsPiece rest

pub go_on : (pieces longer : List Piece) (left : List (List ℕ)) → AllByRecursion IsPiece pieces → AllByRecursion IsPiece longer
    → words_of longer ≡ words_of pieces ++ left → GoOn pieces longer left
go_on [] longer left good also e = record { rest = longer; longer_is = refl; words = e; good = also }
go_on (p ∷ pieces) [] left good also e =
    absurd (never_nothing p (words_of pieces ++ left) (e ∙ append_assoc (spelled p) (words_of pieces) left))
go_on (p ∷ pieces) (q ∷ longer) left good also e =
    let same = same_piece q p (words_of longer) (words_of pieces ++ left) also.0 good.0 (e ∙ append_assoc (spelled p) (words_of pieces) left) in
    let behind = go_on pieces longer left good.1 also.1 same.1 in
    record {
      rest = behind.rest;
      longer_is = ap (λ x. x ∷ longer) same.0 ∙ ap (λ more. p ∷ more) behind.longer_is;
      words = behind.words;
      good = behind.good;
    }

pub no_words : (pieces : List Piece) → words_of pieces ≡ [] → pieces ≡ []
no_words [] e = refl
no_words (p ∷ pieces) e = absurd (never_nothing p (words_of pieces) (sym e))

-- words are cut into pieces in one way
pub one_cut : (pieces others : List Piece) → AllByRecursion IsPiece pieces → AllByRecursion IsPiece others
    → words_of pieces ≡ words_of others → pieces ≡ others
one_cut pieces others good also e =
    let on = go_on others pieces [] also good (e ∙ sym (append-nil (words_of others))) in
    on.longer_is ∙ ap (λ more. others ++ more) (no_words on.rest on.words) ∙ append-nil others
