-- From what is unread to what contracts see of a feed.
use Rattle.std.proofs.Common.{◌≡◌, ◌⊎◌, ℕ, ◌<◌, Bool, true, List, [], ◌∷◌, Option, Some, None, IsSome, unwrap_or, refl, sym, ◌∙◌, ap, subst, inl, inr, arith}
use Rattle.hilti_outside.specs.Contents.{FileMap}
use Rattle.hilti_tree.specs.declared.call.Call.{Call}
use Rattle.hilti_feeder.specs.Feeding.{Gave, Emptied, WasEmpty, SaysWhetherMore, BecameLost, CountsFaults}
use Rattle.hilti_feed.specs.declared.tail.Outcome.{Outcome}
use Rattle.hilti_feed.specs.declared.tail.Outcome.TheVariants as outcomes
use Rattle.hilti_feed.specs.declared.progress.Progress.{Progress}
use Rattle.hilti_feed.specs.Known.{Related}
use Rattle.hilti_feed.specs.Faults.{HasCause, HasCauseIn}
use Rattle.hilti_feed.specs.Progress.{calls_left, ending_left, is_lost, ending_after, IsOverBy, IsSkippedBy, SameMaking}
use Rattle.hilti_feed.specs.Tails.{reading_of}
use Rattle.hilti_feed.specs.Feeds.{coming, ending, making, Tells}

-- what is told of files is told of what is unread
abbrev pub TellsRest : Option FileMap → Option (List ℕ) → Type 0
TellsRest files rest = (all : FileMap) → files ≡ Some all → IsSome rest

-- a relation of what is unread holds where the files are told
pub at_told : (fs : Option FileMap) (r r' : Option (List ℕ)) (all : FileMap) (P : List ℕ → List ℕ → Type 0) → fs ≡ Some all → TellsRest fs r
    → Related P r r' → P (unwrap_or r []) (unwrap_or r' [])
at_told fs None r' all P e told h = absurd (let none = told all e in cc)
at_told fs (Some x) None all P e told h = absurd h
at_told fs (Some x) (Some y) all P e told h = h

pub gave : (fs fs' : Option FileMap) (r r' : Option (List ℕ)) (p p' : Progress) (call : Call) → fs' ≡ fs → TellsRest fs r
    → Related (λ a b. calls_left p a ≡ call ∷ calls_left p' b) r r' → Gave (coming fs r p) call (coming fs' r' p')
gave None None r r' p p' call e told h = tt
gave None (Some b) r r' p p' call e told h = absurd (cc)
gave (Some a) None r r' p p' call e told h = absurd (cc)
gave (Some a) (Some b) r r' p p' call e told h = at_told (Some a) r r' a (λ x y. calls_left p x ≡ call ∷ calls_left p' y) refl told h

pub emptied : (fs fs' : Option FileMap) (r r' : Option (List ℕ)) (p p' : Progress) (P : List ℕ → List ℕ → Type 0) → fs' ≡ fs → TellsRest fs r
    → Related (λ a b. P a b × (calls_left p' b ≡ [])) r r' → Emptied (coming fs r p) (coming fs' r' p')
emptied None None r r' p p' P e told h = tt
emptied None (Some b) r r' p p' P e told h = absurd (cc)
emptied (Some a) None r r' p p' P e told h = absurd (cc)
emptied (Some a) (Some b) r r' p p' P e told h = (at_told (Some a) r r' a (λ x y. P x y × (calls_left p' y ≡ [])) refl told h).1

pub was_empty : (fs : Option FileMap) (r r' : Option (List ℕ)) (p p' : Progress) → TellsRest fs r
    → Related (λ a b. IsOverBy p.outcome p'.outcome (calls_left p a) (calls_left p' b)) r r'
    → WasEmpty (coming fs r p) ⊎ BecameLost (is_lost p.outcome) (is_lost p'.outcome)
was_empty None r r' p p' told h = inl tt
was_empty (Some a) r r' p p' told h =
    (at_told (Some a) r r' a (λ x y. IsOverBy p.outcome p'.outcome (calls_left p x) (calls_left p' y)) refl told h).0

pub whether_more : (fs : Option FileMap) (r r' : Option (List ℕ)) (p p' : Progress) (more : Bool) → TellsRest fs r
    → Related (λ a b. IsSkippedBy p.outcome p'.outcome more (calls_left p a) (calls_left p' b)) r r'
    → BecameLost (is_lost p.outcome) (is_lost p'.outcome) ⊎ SaysWhetherMore (coming fs r p) more
whether_more None r r' p p' more told h = inr tt
whether_more (Some a) r r' p p' more told h =
    (at_told (Some a) r r' a (λ x y. IsSkippedBy p.outcome p'.outcome more (calls_left p x) (calls_left p' y)) refl told h).0

same_ending : (fs fs' : Option FileMap) (r r' : Option (List ℕ)) (p p' : Progress) → fs' ≡ fs → TellsRest fs r
    → Related (λ a b. ending_left p' b ≡ ending_left p a) r r' → ending fs' r' p' ≡ ending fs r p
same_ending None None r r' p p' e told h = refl
same_ending None (Some b) r r' p p' e told h = absurd (cc)
same_ending (Some a) None r r' p p' e told h = absurd (cc)
same_ending (Some a) (Some b) r r' p p' e told h =
    ap (λ x. Some x) (at_told (Some a) r r' a (λ x y. ending_left p' y ≡ ending_left p x) refl told h)

pub same_making : (fs fs' : Option FileMap) (r r' : Option (List ℕ)) (lender : ℕ) (name : List ℕ) (p p' : Progress) → fs' ≡ fs → TellsRest fs r
    → SameMaking p p' → Related (λ a b. ending_left p' b ≡ ending_left p a) r r'
    → making fs' r' lender name p' ≡ making fs r lender name p
same_making fs fs' r r' lender name p p' e told made h =
    let endings = same_ending fs fs' r r' p p' e told h in
    let packets = made.0 in
    let dones = made.1 in
    (λ i. record { name = name; packet = packets i; done = dones i; files = e i; ending = endings i; lender = lender })

stayed : (o o' : Outcome) (n n' : ℕ) → (o' ≡ o) × (n' ≡ n) → CountsFaults n n' (is_lost o) (is_lost o')
stayed o o' n n' h =
    let same = ap is_lost h.0 in
    record {
      counted = omega (arith, h.1);
      stays = λ e. same ∙ e;
      cause = λ l. let a = l.0 in let b = l.1 in absurd (cc);
    }

pub counts : (o o' : Outcome) (n n' : ℕ) → HasCauseIn o o' n n' → CountsFaults n n' (is_lost o) (is_lost o')
counts outcomes.Reading outcomes.ReadFault n n' h = record { counted = h.kept; stays = λ e. absurd (cc); cause = λ _. h }
counts outcomes.Reading outcomes.Reading n n' h = record { counted = omega (arith, h); stays = λ e. e; cause = λ l. absurd (let b = l.1 in cc) }
counts outcomes.Reading outcomes.Whole n n' h = record { counted = omega (arith, h); stays = λ e. e; cause = λ l. absurd (let b = l.1 in cc) }
counts outcomes.Reading (outcomes.Cut at) n n' h = record { counted = omega (arith, h); stays = λ e. e; cause = λ l. absurd (let b = l.1 in cc) }
counts outcomes.Reading (outcomes.Bad at code) n n' h = record { counted = omega (arith, h); stays = λ e. e; cause = λ l. absurd (let b = l.1 in cc) }
counts outcomes.Whole o' n n' h = stayed outcomes.Whole o' n n' h
counts (outcomes.Cut at) o' n n' h = stayed (outcomes.Cut at) o' n n' h
counts (outcomes.Bad at code) o' n n' h = stayed (outcomes.Bad at code) o' n n' h
counts outcomes.ReadFault o' n n' h = stayed outcomes.ReadFault o' n n' h

pub lost_by_fault : (o o' : Outcome) (n n' : ℕ) → HasCauseIn o o' n n' → n < n' → is_lost o' ≡ true
lost_by_fault outcomes.Reading outcomes.ReadFault n n' h l = refl
lost_by_fault outcomes.Reading outcomes.Reading n n' h l = absurd (omega (arith, h, l))
lost_by_fault outcomes.Reading outcomes.Whole n n' h l = absurd (omega (arith, h, l))
lost_by_fault outcomes.Reading (outcomes.Cut at) n n' h l = absurd (omega (arith, h, l))
lost_by_fault outcomes.Reading (outcomes.Bad at code) n n' h l = absurd (omega (arith, h, l))
lost_by_fault outcomes.Whole o' n n' h l = absurd (omega (arith, h.1, l))
lost_by_fault (outcomes.Cut at) o' n n' h l = absurd (omega (arith, h.1, l))
lost_by_fault (outcomes.Bad at code) o' n n' h l = absurd (omega (arith, h.1, l))
lost_by_fault outcomes.ReadFault o' n n' h l = absurd (omega (arith, h.1, l))

-- no fault is counted where a call is given
pub no_fault : (o o' : Outcome) (n n' : ℕ) → HasCauseIn o o' n n' → o' ≡ o → ¬ (n < n')
no_fault outcomes.Reading o' n n' h e l =
    let same : n' ≡ n = subst (λ (x : Outcome). HasCause x n n') e h in absurd (omega (arith, same, l))
no_fault outcomes.Whole o' n n' h e l = absurd (omega (arith, h.1, l))
no_fault (outcomes.Cut at) o' n n' h e l = absurd (omega (arith, h.1, l))
no_fault (outcomes.Bad at code) o' n n' h e l = absurd (omega (arith, h.1, l))
no_fault outcomes.ReadFault o' n n' h e l = absurd (omega (arith, h.1, l))

pub tells : (o : Outcome) (fs : Option FileMap) (r : Option (List ℕ)) (p : Progress) → o ≡ p.outcome → Tells o (ending fs r p)
tells o None r p e = tt
tells outcomes.Reading (Some a) r p e = tt
tells outcomes.Whole (Some a) r p e = ap (λ x. ending_after x (reading_of p.tail (unwrap_or r []))) (sym e)
tells (outcomes.Cut at) (Some a) r p e = ap (λ x. ending_after x (reading_of p.tail (unwrap_or r []))) (sym e)
tells (outcomes.Bad at code) (Some a) r p e = ap (λ x. ending_after x (reading_of p.tail (unwrap_or r []))) (sym e)
tells outcomes.ReadFault (Some a) r p e = tt
