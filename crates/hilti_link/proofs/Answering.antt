-- Answers against the refusals that they stand for, and words that are noted.
use Rattle.std.proofs.Common.{◌≡◌, refl, sym, ◌∙◌, ap, subst, ℕ, ◌<◌, ◌≤◌, Bool, true, false, ◌||◌, cond, List, [], ◌∷◌, ◌++◌, length, drop, get_or, Option, Some, None, Result, Ok, Err}
use Rattle.std.specs.Prelude.{bytes_eq, is_some}
use Rattle.std.specs.Result.{IsErr, IsErrAnd}
use Rattle.std.specs.Option.{option_or}
use Rattle.std.proofs.lemmas.Result.{err_from_is_err_and}
use Rattle.std.proofs.lemmas.List.Folds.{list_any-append}
use Rattle.hilti_base.specs.declared.names.Place.{Place}
use Rattle.hilti_base.specs.declared.refusal.Refusal.{Refusal}
use Rattle.hilti_base.specs.declared.refusal.Refusal.TheVariants.{At, NoMemory}
use Rattle.hilti_scope.specs.FirstPlaces.{place_of}
use Rattle.hilti_scope.specs.Meanings.{is_among}
use Rattle.hilti_link.specs.InTurn.{Answers, first_in_turn}
use Rattle.hilti_link.specs.Views.{Holds}
use Rattle.hilti_link.proofs.Turns.{Going, loop_stops, loop_end, going_end}

abbrev pub err : (A : Type 0) → Refusal → Result A Refusal
err A e = Err e

-- an error stands for a refusal
abbrev pub Refused : Refusal → Option Refusal → Type 0
Refused e refusal = Answers {A = Unit {0}} (Err e) refusal

pub refused_as : (e : Refusal) (a b : Option Refusal) → a ≡ b → Refused e a → Refused e b
refused_as (At place code) a b same refused = sym same ∙ refused
refused_as NoMemory a b same refused = tt

pub refused_same : (e : Refusal) (a b : Option Refusal) → b ≡ a → Refused e a → Refused e b
refused_same e a b same = refused_as e a b (sym same)

-- whatever would be the value
pub refuses : (A : Type 0) (e : Refusal) (refusal : Option Refusal) → Answers {A = A} (Err e) refusal → Refused e refusal
refuses A (At place code) refusal is = is
refuses A NoMemory refusal is = tt

answers_by : (A : Type 0) (e : Refusal) (refusal : Option Refusal) → Refused e refusal → Answers {A = A} (Err e) refusal
answers_by A (At place code) refusal is = is
answers_by A NoMemory refusal is = tt

pub answers_as : {A : Type 0} (result : Result A Refusal) (a b : Option Refusal) → a ≡ b → Answers result a → Answers result b
answers_as result a b same is = subst (λ (refusal : Option Refusal). Answers result refusal) same is

refused_given : (other e : Refusal) (refusal : Option Refusal) → other ≡ e → Refused e refusal → Refused other refusal
refused_given other e refusal same refused = subst (λ e. Refused e refusal) (sym same) refused

-- the first of two parts is refused
pub answers_or : (e : Refusal) (first rest : Option Refusal) → Refused e first → Refused e (option_or first rest)
answers_or (At place code) first rest refused = ap (λ first. option_or first rest) refused
answers_or NoMemory first rest refused = tt

-- the first isn't refused, and the rest is
pub answers_behind : (e : Refusal) (first rest : Option Refusal) → first ≡ None → Refused e rest → Refused e (option_or first rest)
answers_behind (At place code) first rest none refused = ap (λ first. option_or first rest) none ∙ refused
answers_behind NoMemory first rest none refused = tt

pub behind_none : (first rest : Option Refusal) → first ≡ None → option_or first rest ≡ rest
behind_none first rest none = ap (λ (first : Option Refusal). option_or first rest) none

-- neither is refused
pub answers_neither : (first rest : Option Refusal) → first ≡ None → rest ≡ None → option_or first rest ≡ None
answers_neither first rest none also = ap (λ first. option_or first rest) none ∙ also

-- a refusal that is told by its place and code
pub answers_told : {A : Type 0} (result : Result A Refusal) (e : Refusal) (refusal : Option Refusal) → result ≡ Err e
    → ((place : Place) (code : ℕ) → result ≡ Err (At place code) → refusal ≡ Some (At place code)) → Refused e refusal
answers_told result (At place code) refusal is told = told place code is
answers_told result NoMemory refusal is told = tt

-- a function hands on the error of a part
pub answers_given : {A : Type 0} (result : Result A Refusal) (e : Refusal) (refusal : Option Refusal)
    → IsErr result → IsErrAnd result (λ given. given ≡ e) → Refused e refusal → Answers result refusal
answers_given (Ok value) e refusal is given refused = absurd given
answers_given (Err other) e refusal is given refused = refused_given other e refusal given refused

-- what is handed on is the same refusal
pub handed_on : {A : Type 0} (result : Result A Refusal) (e : Refusal) (refusal : Option Refusal) → IsErrAnd result (λ (y : Refusal). y ≡ e)
    → Refused e refusal → Answers result refusal
handed_on {A} result e refusal is told =
    let handed = err_from_is_err_and result is in
    subst (λ (result : Result A Refusal). Answers result refusal) (sym (handed.1 ∙ ap (λ (y : Refusal). err A y) handed.2)) (answers_by A e refusal told)

stopped : (error : Refusal) (told all : Option Refusal) → Refused error told → ((refusal : Refusal) → told ≡ Some refusal → all ≡ Some refusal) → Refused error all
stopped (At place code) told all is stops = stops (At place code) is
stopped NoMemory told all is stops = tt

-- what refuses one refuses all
pub answers_stop : {A : Type 0} (result : Result A Refusal) (error : Refusal) (told all : Option Refusal) → IsErr result → IsErrAnd result (λ given. given ≡ error)
    → Refused error told → ((refusal : Refusal) → told ≡ Some refusal → all ≡ Some refusal) → Answers result all
answers_stop result error told all failed given is stops = answers_given result error all failed given (stopped error told all is stops)

module _ {S X : Type 0} (judge : S → X → Option Refusal) (behind : S → X → S) where
  -- in a loop, the next one is refused
  pub loop_refuses : (known : S) (all : List X) (state : S) (items : List X) (at : ℕ) (part : X) (e : Refusal) → at < length items → part ≡ get_or items at part
      → Refused e (judge state part) → Going judge behind known all state (drop at items) → Refused e (first_in_turn judge behind known all)
  loop_refuses known all state items at part (At place code) below is refused going =
      loop_stops judge behind known all state items at part (At place code) below is refused going
  loop_refuses known all state items at part NoMemory below is refused going = tt

  -- none is left
  pub loop_accepts : (known : S) (all : List X) (state : S) (items : List X) (at : ℕ) → length items ≤ at
      → Going judge behind known all state (drop at items) → first_in_turn judge behind known all ≡ None
  loop_accepts known all state items at past going = going_end judge behind known all state (loop_end judge behind known all state items at past going)

or_none : (b : Bool) → (b || false) ≡ b
or_none true = refl
or_none false = refl

some_or : (found : Option ℕ) (here : Bool) (place : ℕ) → is_some (option_or found (cond here (Some place) None)) ≡ (is_some found || here)
some_or None true place = refl
some_or None false place = refl
some_or (Some at) here place = refl

among_more : (words : List (List ℕ)) (word bytes : List ℕ) → is_among (words ++ word ∷ []) bytes ≡ (is_among words bytes || bytes_eq word bytes)
among_more words word bytes =
    list_any-append (λ word. bytes_eq word bytes) words (word ∷ []) ∙ ap (λ found. is_among words bytes || found) (or_none (bytes_eq word bytes))

-- one more word is noted
pub holds_more : (words : List (List ℕ)) (word : List ℕ) (place : ℕ) (before after : List (List ℕ × ℕ)) → Holds words before
    → ((bytes : List ℕ) → place_of after bytes ≡ option_or (place_of before bytes) (cond (bytes_eq word bytes) (Some place) None))
    → Holds (words ++ word ∷ []) after
holds_more words word place before after holds noted = λ bytes.
    ap is_some (noted bytes)
    ∙ some_or (place_of before bytes) (bytes_eq word bytes) place
    ∙ ap (λ found. found || bytes_eq word bytes) (holds bytes)
    ∙ sym (among_more words word bytes)
