-- What a reader that has read all words knows of the command.
use Rattle.std.proofs.Common.{◌≡◌, ℕ, ◌≤◌, List, [], ◌∷◌, ◌++◌, Bool, true, false, Option, None, Some, Result, Ok, Err, length, codes, drop, refl, sym, ap, ◌∙◌, subst, arith}
use Rattle.std.specs.List.{AllByRecursion}
use Rattle.std.specs.Option.{is_some, unwrap_or}
use Rattle.std.specs.Result.{IsErrAnd}
use Rattle.std.proofs.lemmas.Bool.{false≢true}
use Rattle.std.proofs.lemmas.List.{append-nil}
use Rattle.hilti_base.specs.Ranges.{AreInRange}
use Rattle.hilti_base.specs.declared.limits.Limits.{Limits}
use Rattle.hilti_words.specs.declared.command.Command.{Command}
use Rattle.hilti_words.specs.declared.command.WordsFault.{WordsFault}
use Rattle.hilti_words.specs.declared.command.WordsFault.TheVariants.{Usage}
use Rattle.hilti_words.specs.declared.reader.Reader.{Reader}
use Rattle.hilti_words.specs.declared.setting.Setting.{Setting}
use Rattle.hilti_words.specs.declared.setting.Setting.TheVariants.{Fuel, Calls}
use Rattle.hilti_words.specs.Names.{IsName}
use Rattle.hilti_words.specs.Options.{Piece, Piece.Position, Piece.Apart, Piece.Joined, IsGiven, IsPiece, greatest, option_of, positions_in, values_in, words_of}
use Rattle.hilti_words.specs.Reading.{AreFiles, HasRead, IsSetBy, awaited_word}
use Rattle.hilti_words.specs.Words.{Asked.Check, Asked.One, IsCommand, IsOne}
use Rattle.hilti_words.proofs.Pieces.{go_on, never_both_forms, no_words, option_is_no_name}

abbrev set_or : Option ℕ → ℕ
set_or n = unwrap_or n 1000000

is_given : (t : Setting) (values : List (List ℕ)) (n : Option ℕ) → IsSetBy t values n → IsGiven values 1000000 (set_or n)
is_given t values None is = subst (λ v. IsGiven v 1000000 1000000) (sym is) refl
is_given t values (Some n) is = subst (λ v. IsGiven v 1000000 n) (sym is.only) is.number

least : (t : Setting) (values : List (List ℕ)) (n : Option ℕ) → IsSetBy t values n → 1 ≤ set_or n
least t values None is = omega arith
least t values (Some n) is = let low = is.value.low in omega (arith, low, is.number)

most : (t : Setting) (values : List (List ℕ)) (n : Option ℕ) → IsSetBy t values n → 1000000 ≤ greatest t → set_or n ≤ greatest t
most t values None is room = room
most t values (Some n) is room = let high = is.value.high in omega (arith, high, is.number)

-- what options say is in range
in_range : (words : List (List ℕ)) (reader : Reader) → HasRead words reader
    → AreInRange (set_or reader.options.fuel) (set_or reader.options.calls) 1
in_range words reader has =
    record {
      fuel_above = least Fuel (values_in Fuel has.pieces) reader.options.fuel (has.set Fuel);
      fuel_below = most Fuel (values_in Fuel has.pieces) reader.options.fuel (has.set Fuel) (omega arith);
      calls_above = least Calls (values_in Calls has.pieces) reader.options.calls (has.set Calls);
      calls_below = most Calls (values_in Calls has.pieces) reader.options.calls (has.set Calls) (omega arith);
      workers_above = omega arith;
      workers_below = omega arith;
    }

positions_named : (pieces : List Piece) → AllByRecursion IsPiece pieces → AllByRecursion IsName (positions_in pieces)
positions_named [] good = tt
positions_named (Position word ∷ pieces) good = (good.0, positions_named pieces good.1)
positions_named (Apart s value ∷ pieces) good = positions_named pieces good.1
positions_named (Joined s value ∷ pieces) good = positions_named pieces good.1

-- a reader is done
pub record IsDone (reader : Reader) : Type 0 where
  pub capture : List ℕ
  pub nothing_awaited : reader.awaited ≡ None
  pub capture_is : reader.capture ≡ Some capture
  pub some : 1 ≤ length reader.modules
  pub few : length reader.modules ≤ 16
  pub range : AreInRange (set_or reader.options.fuel) (set_or reader.options.calls) 1

lone_option : (rest : List Piece) (s : Setting) → AllByRecursion IsPiece rest → words_of rest ≡ option_of s ∷ [] → ⊥
lone_option [] s good e = cc
lone_option (Position word ∷ rest) s good e = option_is_no_name s word good.0 (cc)
lone_option (Apart t value ∷ rest) s good e = cc
lone_option (Joined t value ∷ rest) s good e = never_both_forms s t value (cc)

none_awaited : (rest : List Piece) (awaited : Option Setting) → AllByRecursion IsPiece rest → words_of rest ≡ awaited_word awaited → awaited ≡ None
none_awaited rest None good e = refl
none_awaited rest (Some s) good e = absurd (lone_option rest s good e)

has_capture : (positions modules others : List (List ℕ)) (found : Option (List ℕ)) (capture : List ℕ) → AreFiles positions found modules
    → positions ≡ capture ∷ others → (found ≡ Some capture) × (modules ≡ others)
has_capture positions modules others None capture are e = absurd cc (are.0, e)
has_capture positions modules others (Some first) capture are e = let same : first ≡ capture = cc in (ap Some same, cc)

pub is_done : (words : List (List ℕ)) (reader : Reader) → HasRead words reader → IsCommand (codes "one" ∷ words) → IsDone reader
is_done words reader has (Check modules, is) = absurd cc (is.words_are)
is_done words reader has (One limits capture modules, is) =
    let all : words ≡ words_of is.pieces = ap (drop 1) is.words_are in
    let on = go_on has.pieces is.pieces (awaited_word reader.awaited) has.good is.good (sym all ∙ has.words_are) in
    let none : reader.awaited ≡ None = none_awaited on.rest reader.awaited on.good on.words in
    let over = no_words on.rest (on.words ∙ ap awaited_word none) in
    let same : is.pieces ≡ has.pieces = on.longer_is ∙ ap (λ more. has.pieces ++ more) over ∙ append-nil has.pieces in
    let files = has_capture (positions_in has.pieces) reader.modules modules reader.capture capture has.files
    (ap positions_in (sym same) ∙ is.positions) in
    record {
      capture = capture;
      nothing_awaited = none;
      capture_is = files.0;
      some = subst (λ ms. 1 ≤ length ms) (sym files.1) is.modules_named.some;
      few = subst (λ ms. length ms ≤ 16) (sym files.1) is.modules_named.few;
      range = in_range words reader has;
    }

pub is_one : (words : List (List ℕ)) (reader : Reader) (limits : Limits) (capture : List ℕ) → HasRead words reader → reader.awaited ≡ None
    → reader.capture ≡ Some capture → 1 ≤ length reader.modules → length reader.modules ≤ 16
    → limits.fuel ≡ set_or reader.options.fuel → limits.calls ≡ set_or reader.options.calls → limits.workers ≡ 1
    → IsOne (codes "one" ∷ words) limits capture reader.modules
is_one words reader limits capture has awaited found some few fuel calls workers =
    let all : words ≡ words_of has.pieces
    = has.words_are ∙ ap (λ a. words_of has.pieces ++ awaited_word a) awaited ∙ append-nil (words_of has.pieces) in
    let positions : positions_in has.pieces ≡ capture ∷ reader.modules
    = subst (λ o. AreFiles (positions_in has.pieces) o reader.modules) found has.files in
    let named : AllByRecursion IsName (capture ∷ reader.modules) = subst (AllByRecursion IsName) positions (positions_named has.pieces has.good) in
    record {
      pieces = has.pieces;
      words_are = ap (λ more. codes "one" ∷ more) all;
      good = has.good;
      positions = positions;
      modules_named = record { named = named.1; some = some; few = few };
      given = record {
        fuel = subst (IsGiven (values_in Fuel has.pieces) 1000000) (sym fuel) (is_given Fuel (values_in Fuel has.pieces) reader.options.fuel (has.set Fuel));
        calls = subst (IsGiven (values_in Calls has.pieces) 1000000) (sym calls) (is_given Calls (values_in Calls has.pieces) reader.options.calls (has.set Calls));
        workers = workers;
      };
    }

pub none_is : (o : Option Setting) → is_some o ≡ false → o ≡ None
none_is None e = refl
none_is (Some s) e = absurd (cc)

pub never_awaited : (o : Option Setting) (r : Bool) → r ≡ true → r ≡ is_some o → o ≡ None → ⊥
never_awaited o r some is without = false≢true (sym (sym some ∙ is ∙ ap is_some without))

pub some_items : (xs : List (List ℕ)) (r : Bool) → r ≡ false → (xs ≡ [] → r ≡ true) → 1 ≤ length xs
some_items [] r some empty = absurd (false≢true (sym some ∙ empty refl))
some_items (x ∷ xs) r some empty = omega arith

-- the error that a call handed on
pub handed_on : (result : Result Command WordsFault) (e : WordsFault) → IsErrAnd result (λ fault. fault ≡ e) → result ≡ Err Usage → e ≡ Usage
handed_on (Ok x) e same usage = absurd same
handed_on (Err f) e same usage = let told : f ≡ Usage = cc in sym same ∙ told
