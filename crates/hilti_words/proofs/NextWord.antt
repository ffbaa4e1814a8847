-- What a reader knows behind one word more.
use Rattle.std.proofs.Common.{◌≡◌, ℕ, List, [], ◌∷◌, ◌++◌, Option, None, Some, refl, sym, ap, ◌∙◌, subst, append_assoc}
use Rattle.std.specs.List.{AllByRecursion, flat_map}
use Rattle.std.specs.Str.Parse.{digits_value}
use Rattle.std.proofs.lemmas.List.{append-nil}
use Rattle.std.proofs.lemmas.List.Concat.{flat_map-append}
use Rattle.hilti_words.specs.declared.options.Options.{Options}
use Rattle.hilti_words.specs.declared.reader.Reader.{Reader}
use Rattle.hilti_words.specs.declared.setting.Setting.{Setting}
use Rattle.hilti_words.specs.declared.setting.Setting.TheVariants.{Fuel, Calls}
use Rattle.hilti_words.specs.Names.{IsName}
use Rattle.hilti_words.specs.Options.{Piece, Piece.Position, Piece.Apart, Piece.Joined, IsPiece, given_by, joined, position_in, positions_in, spelled, value_in, values_in, words_of}
use Rattle.hilti_words.specs.Reading.{AreFiles, CanSet, HasRead, IsOneValue, IsSetBy, awaited_word, number_of, with_number}

flat_more : {X A : Type 0} (f : X → List A) (xs : List X) (x : X) → flat_map f (xs ++ x ∷ []) ≡ flat_map f xs ++ f x
flat_more f xs x = flat_map-append f xs (x ∷ []) ∙ ap (λ l. flat_map f xs ++ l) (append-nil (f x))

none_more : {X A : Type 0} (f : X → List A) (xs : List X) (x : X) → f x ≡ [] → flat_map f (xs ++ x ∷ []) ≡ flat_map f xs
none_more f xs x none = flat_more f xs x ∙ ap (λ l. flat_map f xs ++ l) none ∙ append-nil (flat_map f xs)

good_more : (pieces : List Piece) (p : Piece) → AllByRecursion IsPiece pieces → IsPiece p → AllByRecursion IsPiece (pieces ++ p ∷ [])
good_more [] p good is = (is, tt)
good_more (q ∷ pieces) p good is = (good.0, good_more pieces p good.1 is)

pub own_value : (setting : Setting) (text : List ℕ) → given_by setting setting text ≡ text ∷ []
own_value Fuel text = refl
own_value Calls text = refl

-- the words behind a piece more
grown : (words waiting : List (List ℕ)) (pieces : List Piece) (p : Piece) (word : List ℕ) → words ≡ words_of pieces ++ waiting
    → waiting ++ word ∷ [] ≡ spelled p → words ++ word ∷ [] ≡ words_of (pieces ++ p ∷ []) ++ []
grown words waiting pieces p word e spelt =
    ap (λ l. l ++ word ∷ []) e ∙ append_assoc (words_of pieces) waiting (word ∷ []) ∙ ap (λ l. words_of pieces ++ l) spelt
    ∙ sym (flat_more spelled pieces p) ∙ sym (append-nil (words_of (pieces ++ p ∷ [])))

-- a piece gives one setting a value
first_value : (t : Setting) (pieces : List Piece) (p : Piece) (text : List ℕ) (options : Options) → value_in t p ≡ text ∷ []
    → IsSetBy t (values_in t pieces) (number_of t options) → CanSet t text options → IsOneValue t (values_in t (pieces ++ p ∷ [])) (digits_value 10 text)
first_value t pieces p text options gives is can =
    let none : values_in t pieces ≡ [] = subst (IsSetBy t (values_in t pieces)) can.unset is in
    record {
      text = text;
      only = flat_more (value_in t) pieces p ∙ ap (λ l. l ++ value_in t p) none ∙ gives;
      value = can.value;
      number = refl;
    }

same_value : (t : Setting) (pieces : List Piece) (p : Piece) (n : Option ℕ) → value_in t p ≡ [] → IsSetBy t (values_in t pieces) n
    → IsSetBy t (values_in t (pieces ++ p ∷ [])) n
same_value t pieces p n none is = subst (λ values. IsSetBy t values n) (sym (none_more (value_in t) pieces p none)) is

set_more : (s t : Setting) (text : List ℕ) (p : Piece) (pieces : List Piece) (options : Options)
    → value_in t p ≡ given_by t s text → IsSetBy t (values_in t pieces) (number_of t options) → CanSet s text options
    → IsSetBy t (values_in t (pieces ++ p ∷ [])) (number_of t (with_number s (digits_value 10 text) options))
set_more Fuel Fuel text p pieces options gives is can = first_value Fuel pieces p text options gives is can
set_more Fuel Calls text p pieces options gives is can = same_value Calls pieces p options.calls gives is
set_more Calls Fuel text p pieces options gives is can = same_value Fuel pieces p options.fuel gives is
set_more Calls Calls text p pieces options gives is can = first_value Calls pieces p text options gives is can

abbrev state : Option Setting → Options → Option (List ℕ) → List (List ℕ) → Reader
state awaited options capture modules = record { awaited = awaited; options = options; capture = capture; modules = modules }

-- a setting was given its value
read_setting : (words : List (List ℕ)) (reader : Reader) (s : Setting) (text word : List ℕ) (p : Piece) (after : Options)
    → HasRead words reader → awaited_word reader.awaited ++ word ∷ [] ≡ spelled p → IsPiece p → position_in p ≡ []
    → ((t : Setting) → value_in t p ≡ given_by t s text) → CanSet s text reader.options
    → after ≡ with_number s (digits_value 10 text) reader.options
    → HasRead (words ++ word ∷ []) (state None after reader.capture reader.modules)
read_setting words reader s text word p after has spelt is none gives can e =
    record {
      pieces = has.pieces ++ p ∷ [];
      words_are = grown words (awaited_word reader.awaited) has.pieces p word has.words_are spelt;
      good = good_more has.pieces p has.good is;
      files = subst (λ positions. AreFiles positions reader.capture reader.modules) (sym (none_more position_in has.pieces p none)) has.files;
      set = λ t. subst (λ options. IsSetBy t (values_in t (has.pieces ++ p ∷ [])) (number_of t options)) (sym e)
          (set_more s t text p has.pieces reader.options (gives t) (has.set t) can);
    }

pub read_value : (words : List (List ℕ)) (reader : Reader) (s : Setting) (text : List ℕ) (after : Options)
    → HasRead words reader → reader.awaited ≡ Some s → CanSet s text reader.options
    → after ≡ with_number s (digits_value 10 text) reader.options
    → HasRead (words ++ text ∷ []) (state None after reader.capture reader.modules)
read_value words reader s text after has awaited can e =
    read_setting words reader s text text (Apart s text) after has (ap (λ a. awaited_word a ++ text ∷ []) awaited) can.value refl (λ t. refl) can e

pub read_joined : (words : List (List ℕ)) (reader : Reader) (s : Setting) (text word : List ℕ) (after : Options)
    → HasRead words reader → reader.awaited ≡ None → word ≡ joined s text → CanSet s text reader.options
    → after ≡ with_number s (digits_value 10 text) reader.options
    → HasRead (words ++ word ∷ []) (state reader.awaited after reader.capture reader.modules)
read_joined words reader s text word after has awaited spelt can e =
    subst (λ a. HasRead (words ++ word ∷ []) (state a after reader.capture reader.modules)) (sym awaited)
    (read_setting words reader s text word (Joined s text) after has (ap (λ a. awaited_word a ++ word ∷ []) awaited ∙ ap (λ w. w ∷ []) spelt)
    can.value refl (λ t. refl) can e)

pub read_name : (words : List (List ℕ)) (reader after : Reader) (word : List ℕ)
    → HasRead words reader → reader.awaited ≡ None → IsName word → after.awaited ≡ reader.awaited → after.options ≡ reader.options
    → ((positions : List (List ℕ)) → AreFiles positions reader.capture reader.modules → AreFiles (positions ++ word ∷ []) after.capture after.modules)
    → HasRead (words ++ word ∷ []) after
read_name words reader after word has awaited is same settings added =
    let pieces : List Piece = has.pieces ++ Position word ∷ [] in
    record {
      pieces = pieces;
      words_are = grown words (awaited_word reader.awaited) has.pieces (Position word) word has.words_are (ap (λ a. awaited_word a ++ word ∷ []) awaited)
          ∙ ap (λ a. words_of pieces ++ awaited_word a) (sym (same ∙ awaited));
      good = good_more has.pieces (Position word) has.good is;
      files = subst (λ positions. AreFiles positions after.capture after.modules) (sym (flat_more position_in has.pieces (Position word)))
          (added (positions_in has.pieces) has.files);
      set = λ t. subst (λ options. IsSetBy t (values_in t pieces) (number_of t options)) (sym settings)
          (same_value t has.pieces (Position word) (number_of t reader.options) refl (has.set t));
    }
