-- What words that are a command say of the next word.
use Rattle.std.proofs.Common.{◌≡◌, ◌≢◌, ℕ, ◌≤◌, List, [], ◌∷◌, ◌++◌, Option, None, Some, length, codes, drop, refl, sym, ap, ◌∙◌, subst, append_assoc, arith}
use Rattle.std.specs.List.{AllByRecursion}
use Rattle.std.proofs.lemmas.List.Concat.{flat_map-append}
use Rattle.hilti_words.specs.declared.options.Options.{Options}
use Rattle.hilti_words.specs.declared.reader.Reader.{Reader}
use Rattle.hilti_words.specs.declared.setting.Setting.{Setting}
use Rattle.hilti_words.specs.declared.setting.Setting.TheVariants.{Fuel, Calls}
use Rattle.hilti_words.specs.Names.{IsName}
use Rattle.hilti_words.specs.Options.{Piece, Piece.Position, Piece.Apart, Piece.Joined, IsGiven, IsPiece, IsValue, given_by, joined, option_of, value_in, values_in, words_of}
use Rattle.hilti_words.specs.Reading.{ArePieces, CanSet, HasRead, IsSetBy, awaited_word, number_of}
use Rattle.hilti_words.specs.Words.{Asked.Check, Asked.One, IsCommand}
use Rattle.hilti_words.proofs.Pieces.{go_on, joined_is_no_name, never_both_forms, one_joined, one_option, option_is_no_name}
use Rattle.hilti_words.proofs.NextWord.{own_value}

-- pieces that stand behind others, and give no setting a second value
pub record Follow (pieces : List Piece) (left : List (List ℕ)) : Type 0 where
  pub rest : List Piece
  pub words : words_of rest ≡ left
  pub good : AllByRecursion IsPiece rest
  pub once : (t : Setting) → length (values_in t (pieces ++ rest)) ≤ 1

pub follow : (words more : List (List ℕ)) (reader : Reader) (word : List ℕ) (has : HasRead words reader) → ArePieces (words ++ word ∷ more)
    → Follow has.pieces (awaited_word reader.awaited ++ word ∷ more)
follow words more reader word has are =
    let left : List (List ℕ) = awaited_word reader.awaited ++ word ∷ more in
    let on = go_on has.pieces are.pieces left has.good are.good
    (sym are.words_are ∙ ap (λ l. l ++ word ∷ more) has.words_are ∙ append_assoc (words_of has.pieces) (awaited_word reader.awaited) (word ∷ more)) in
    record {
      rest = on.rest;
      words = on.words;
      good = on.good;
      once = λ t. subst (λ all. length (values_in t all) ≤ 1) on.longer_is (are.once t);
    }

-- a setting that is given a value has none before
unset : (t : Setting) (pieces rest : List Piece) (p : Piece) (text : List ℕ) (n : Option ℕ) → value_in t p ≡ text ∷ []
    → IsSetBy t (values_in t pieces) n → length (values_in t (pieces ++ p ∷ rest)) ≤ 1 → n ≡ None
unset t pieces rest p text None gives is once = refl
unset t pieces rest p text (Some n) gives is once =
    let two : values_in t (pieces ++ p ∷ rest) ≡ is.text ∷ text ∷ values_in t rest
    = flat_map-append (value_in t) pieces (p ∷ rest) ∙ ap (λ l. l ++ (value_in t p ++ values_in t rest)) is.only
    ∙ ap (λ l. is.text ∷ (l ++ values_in t rest)) gives in
    absurd (omega (arith, ap length two, once))

given_own : (s t : Setting) (value text : List ℕ) → t ≡ s → value ≡ text → given_by s t value ≡ text ∷ []
given_own s t value text same too = ap (λ x. given_by s x value) same ∙ own_value s value ∙ ap (λ v. v ∷ []) too

is_value : (s t : Setting) (value text : List ℕ) → t ≡ s → value ≡ text → IsValue t value → IsValue s text
is_value s t value text same too is = subst (IsValue s) too (subst (λ x. IsValue x value) same is)

value_first : (pieces rest : List Piece) (more : List (List ℕ)) (s : Setting) (text : List ℕ) (options : Options)
    → IsSetBy s (values_in s pieces) (number_of s options) → words_of rest ≡ option_of s ∷ text ∷ more → AllByRecursion IsPiece rest
    → length (values_in s (pieces ++ rest)) ≤ 1 → CanSet s text options
value_first pieces [] more s text options is e good once = absurd (cc)
value_first pieces (Position word ∷ rest) more s text options is e good once = absurd (option_is_no_name s word good.0 (cc))
value_first pieces (Apart t value ∷ rest) more s text options is e good once =
    let same : t ≡ s = one_option t s (cc) in
    let too : value ≡ text = cc in
    record {
      value = is_value s t value text same too good.0;
      unset = unset s pieces rest (Apart t value) text (number_of s options) (given_own s t value text same too) is once;
    }
value_first pieces (Joined t value ∷ rest) more s text options is e good once = absurd (never_both_forms s t value (cc))

joined_first : (pieces rest : List Piece) (more : List (List ℕ)) (s : Setting) (text : List ℕ) (options : Options)
    → IsSetBy s (values_in s pieces) (number_of s options) → words_of rest ≡ joined s text ∷ more → AllByRecursion IsPiece rest
    → length (values_in s (pieces ++ rest)) ≤ 1 → CanSet s text options
joined_first pieces [] more s text options is e good once = absurd (cc)
joined_first pieces (Position word ∷ rest) more s text options is e good once = absurd (joined_is_no_name s text word good.0 (cc))
joined_first pieces (Apart t value ∷ rest) more s text options is e good once = absurd (never_both_forms t s text (cc))
joined_first pieces (Joined t value ∷ rest) more s text options is e good once =
    let same = one_joined t s value text (cc) in
    record {
      value = is_value s t value text same.0 same.1 good.0;
      unset = unset s pieces rest (Joined t value) text (number_of s options) (given_own s t value text same.0 same.1) is once;
    }

name_first : (rest : List Piece) (more : List (List ℕ)) (word : List ℕ) → words_of rest ≡ word ∷ more → AllByRecursion IsPiece rest
    → ((s : Setting) → word ≢ option_of s) → ((s : Setting) (value : List ℕ) → word ≢ joined s value) → IsName word
name_first [] more word e good apart along = absurd (cc)
name_first (Position name ∷ rest) more word e good apart along = let same : name ≡ word = cc in subst IsName same good.0
name_first (Apart t value ∷ rest) more word e good apart along = absurd (apart t (cc))
name_first (Joined t value ∷ rest) more word e good apart along = absurd (along t value (cc))

pub value_may_come : (words more : List (List ℕ)) (reader : Reader) (s : Setting) (text : List ℕ) → HasRead words reader
    → ArePieces (words ++ text ∷ more) → reader.awaited ≡ Some s → CanSet s text reader.options
value_may_come words more reader s text has are awaited =
    let behind = follow words more reader text has are in
    value_first has.pieces behind.rest more s text reader.options (has.set s) (behind.words ∙ ap (λ a. awaited_word a ++ text ∷ more) awaited)
    behind.good (behind.once s)

pub joined_may_come : (words more : List (List ℕ)) (reader : Reader) (s : Setting) (text word : List ℕ) → HasRead words reader
    → ArePieces (words ++ word ∷ more) → reader.awaited ≡ None → word ≡ joined s text → CanSet s text reader.options
joined_may_come words more reader s text word has are awaited spelt =
    let behind = follow words more reader word has are in
    joined_first has.pieces behind.rest more s text reader.options (has.set s)
    (behind.words ∙ ap (λ a. awaited_word a ++ word ∷ more) awaited ∙ ap (λ w. w ∷ more) spelt) behind.good (behind.once s)

pub name_may_come : (words more : List (List ℕ)) (reader : Reader) (word : List ℕ) → HasRead words reader
    → ArePieces (words ++ word ∷ more) → reader.awaited ≡ None → ((s : Setting) → word ≢ option_of s)
    → ((s : Setting) (value : List ℕ) → word ≢ joined s value) → IsName word
name_may_come words more reader word has are awaited apart along =
    let behind = follow words more reader word has are in
    name_first behind.rest more word (behind.words ∙ ap (λ a. awaited_word a ++ word ∷ more) awaited) behind.good apart along

given_once : (values : List (List ℕ)) (default n : ℕ) → IsGiven values default n → length values ≤ 1
given_once [] default n is = omega arith
given_once (value ∷ []) default n is = omega arith
given_once (value ∷ other ∷ more) default n is = absurd is

-- the words behind `one` are pieces that give each setting at most one value
pub behind_one_word : (words : List (List ℕ)) → IsCommand (codes "one" ∷ words) → ArePieces words
behind_one_word words (Check modules, is) = absurd cc (is.words_are)
behind_one_word words (One limits capture modules, is) =
    record {
      pieces = is.pieces;
      words_are = ap (drop 1) is.words_are;
      good = is.good;
      once = λ t. elim t as (λ x. length (values_in x is.pieces) ≤ 1) [
        | Fuel ↦ given_once (values_in Fuel is.pieces) 1000000 limits.fuel is.given.fuel
        | Calls ↦ given_once (values_in Calls is.pieces) 1000000 limits.calls is.given.calls
      ];
    }
