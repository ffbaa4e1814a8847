-- Judging some things in turn: what is left to be judged, over what is known so far, stands for all of them.
use Rattle.std.proofs.Common.{◌≡◌, refl, sym, ◌∙◌, ap, ℕ, ◌+◌, ◌<◌, ◌≤◌, List, [], ◌∷◌, ◌++◌, length, drop, get_or, Option, Some, None}
use Rattle.std.specs.Option.{option_or}
use Rattle.std.proofs.lemmas.List.{at_drop_more, at_drop_all}
use Rattle.hilti_base.specs.declared.refusal.Refusal.{Refusal}
use Rattle.hilti_link.specs.InTurn.{first_in_turn, behind_all}

module _ {S X : Type 0} (judge : S → X → Option Refusal) (behind : S → X → S) where
  judge_one : (known : S) (next : X) (more : List X) → first_in_turn judge behind known (next ∷ more) ≡ option_or (judge known next) (first_in_turn judge behind (behind known next) more)
  unfolding first_in_turn
  judge_one known next more = refl

  judge_none : (known : S) → first_in_turn judge behind known [] ≡ None
  unfolding first_in_turn
  judge_none known = refl

  behind_one : (known : S) (next : X) (more : List X) → behind_all behind known (next ∷ more) ≡ behind_all behind (behind known next) more
  unfolding behind_all
  behind_one known next more = refl

  behind_none : (known : S) → behind_all behind known [] ≡ known
  unfolding behind_all
  behind_none known = refl

  -- the rest over what is known so far is judged as all of them, and what is known behind it is what is known behind all
  pub record Going (known : S) (all : List X) (state : S) (left : List X) : Type 0 where
    pub judged : first_in_turn judge behind state left ≡ first_in_turn judge behind known all
    pub behind_is : behind_all behind state left ≡ behind_all behind known all

  pub going_first : (known : S) (all : List X) → Going known all known all
  going_first known all = record { judged = refl; behind_is = refl }

  -- the next one isn't refused
  pub going_more : (known : S) (all : List X) (state : S) (next : X) (more : List X) → judge state next ≡ None
      → Going known all state (next ∷ more) → Going known all (behind state next) more
  going_more known all state next more none going = record {
    judged = sym (judge_one state next more ∙ ap (λ judged. option_or judged (first_in_turn judge behind (behind state next) more)) none) ∙ going.judged;
    behind_is = sym (behind_one state next more) ∙ going.behind_is;
  }

  -- the next one is refused
  pub going_stops : (known : S) (all : List X) (state : S) (next : X) (more : List X) (refusal : Refusal) → judge state next ≡ Some refusal
      → Going known all state (next ∷ more) → first_in_turn judge behind known all ≡ Some refusal
  going_stops known all state next more refusal some going =
      sym going.judged ∙ judge_one state next more ∙ ap (λ judged. option_or judged (first_in_turn judge behind (behind state next) more)) some

  -- none is left
  pub going_end : (known : S) (all : List X) (state : S) → Going known all state [] → first_in_turn judge behind known all ≡ None
  going_end known all state going = sym going.judged ∙ judge_none state

  pub behind_end : (known : S) (all : List X) (state : S) → Going known all state [] → state ≡ behind_all behind known all
  behind_end known all state going = sym (behind_none state) ∙ going.behind_is

  -- the same for a loop over a list, at a place in it
  going_at : (known : S) (all : List X) (state : S) (items : List X) (at : ℕ) (part : X) → at < length items → part ≡ get_or items at part
      → Going known all state (drop at items) → Going known all state (part ∷ drop (at + 1) items)
  going_at known all state items at part below is going =
      record {
        judged = ap (λ part. first_in_turn judge behind state (part ∷ drop (at + 1) items)) is ∙ sym (at_drop_more (first_in_turn judge behind state) items at part below) ∙ going.judged;
        behind_is = ap (λ part. behind_all behind state (part ∷ drop (at + 1) items)) is ∙ sym (at_drop_more (behind_all behind state) items at part below) ∙ going.behind_is;
      }

  pub loop_more : (known : S) (all : List X) (state : S) (items : List X) (at : ℕ) (part : X) → at < length items → part ≡ get_or items at part
      → judge state part ≡ None → Going known all state (drop at items) → Going known all (behind state part) (drop (at + 1) items)
  loop_more known all state items at part below is none going =
      going_more known all state part (drop (at + 1) items) none (going_at known all state items at part below is going)

  pub loop_stops : (known : S) (all : List X) (state : S) (items : List X) (at : ℕ) (part : X) (refusal : Refusal) → at < length items → part ≡ get_or items at part
      → judge state part ≡ Some refusal → Going known all state (drop at items) → first_in_turn judge behind known all ≡ Some refusal
  loop_stops known all state items at part refusal below is some going =
      going_stops known all state part (drop (at + 1) items) refusal some (going_at known all state items at part below is going)

  pub loop_end : (known : S) (all : List X) (state : S) (items : List X) (at : ℕ) → length items ≤ at
      → Going known all state (drop at items) → Going known all state []
  loop_end known all state items at past going = record {
    judged = sym (at_drop_all (first_in_turn judge behind state) items at past) ∙ going.judged;
    behind_is = sym (at_drop_all (behind_all behind state) items at past) ∙ going.behind_is;
  }

  -- those in front, and then the others
  pub first-append : (known : S) (front others : List X)
      → first_in_turn judge behind known (front ++ others) ≡ option_or (first_in_turn judge behind known front) (first_in_turn judge behind (behind_all behind known front) others)
  unfolding first_in_turn behind_all
  first-append known [] others = refl
  first-append known (next ∷ front) others = joined _ _ _ (judge known next) (first-append (behind known next) front others)
    where
      joined : (whole front others first : Option Refusal) → whole ≡ option_or front others → option_or first whole ≡ option_or (option_or first front) others
      joined whole front others None same = same
      joined whole front others (Some refusal) same = refl

  pub behind-append : (known : S) (front others : List X) → behind_all behind known (front ++ others) ≡ behind_all behind (behind_all behind known front) others
  unfolding behind_all
  behind-append known [] others = refl
  behind-append known (next ∷ front) others = behind-append (behind known next) front others
