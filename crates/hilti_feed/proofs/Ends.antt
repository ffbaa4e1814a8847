-- Which calls are left at the end of a capture.
use Rattle.std.proofs.Common.{◌≡◌, ◌≢◌, ◌⊎◌, ◌↔◌, ℕ, Bool, true, false, List, [], ◌∷◌, ◌++◌, map, Option, Some, None, is_some, IsTrue, ◌||◌, refl, sym, ◌∙◌, ap, subst, inl, inr}
use Rattle.hilti_base.specs.declared.names.FnId.{FnId}
use Rattle.hilti_pcap.specs.declared.packet.Packet.{Packet}
use Rattle.hilti_pcap.specs.Readings.{Reading}
use Rattle.hilti_tree.specs.declared.call.Call.{Call}
use Rattle.hilti_feed.specs.declared.tail.Outcome.{Outcome}
use Rattle.hilti_feed.specs.declared.tail.Outcome.TheVariants as outcomes
use Rattle.hilti_feed.specs.declared.progress.Progress.{Progress}
use Rattle.hilti_feed.specs.Known.{Related}
use Rattle.hilti_feed.specs.Calls.{packet_call, done_call, done_calls, last_call, calls_of}
use Rattle.hilti_feed.specs.Tails.{Agrees}
use Rattle.hilti_feed.specs.Progress.{owed, after_clean, clean, calls_after, ending_after, is_lost, is_over, Skipped, IsOverBy, IsSkippedBy}

-- another relation, where it follows
pub related : (P Q : List ℕ → List ℕ → Type 0) (r r' : Option (List ℕ)) → ((a b : List ℕ) → P a b → Q a b) → Related P r r' → Related Q r r'
related P Q None r' f h = tt
related P Q (Some a) None f h = absurd h
related P Q (Some a) (Some b) f h = f a b h

-- one relation after another
pub related_on : (P Q R : List ℕ → List ℕ → Type 0) (r s t : Option (List ℕ)) → ((a b c : List ℕ) → P a b → Q b c → R a c)
    → Related P r s → Related Q s t → Related R r t
related_on P Q R None s t f h k = tt
related_on P Q R (Some a) None t f h k = absurd h
related_on P Q R (Some a) (Some b) None f h k = absurd k
related_on P Q R (Some a) (Some b) (Some c) f h k = f a b c h k

-- what is left where the outcome agrees
pub left_at_end : (o : Outcome) (y : Reading) (q : Option FnId) (packet : FnId) → o ≢ outcomes.Reading → o ≢ outcomes.ReadFault → Agrees o y
    → calls_of packet q y ≡ done_calls (after_clean (clean o) q)
left_at_end outcomes.Reading y q packet n f a = absurd (n refl)
left_at_end outcomes.ReadFault y q packet n f a = absurd (f refl)
left_at_end outcomes.Whole y q packet n f a = ap (calls_of packet q) a
left_at_end (outcomes.Cut at) y q packet n f a = ap (calls_of packet q) a
left_at_end (outcomes.Bad at code) y q packet n f a = ap (calls_of packet q) a

-- none is left behind another outcome than that it is being read
pub none_after : (o : Outcome) (p : Progress) (y : Reading) → o ≢ outcomes.Reading → calls_after o p y ≡ []
none_after outcomes.Reading p y n = absurd (n refl)
none_after outcomes.Whole p y n = refl
none_after (outcomes.Cut at) p y n = refl
none_after (outcomes.Bad at code) p y n = refl
none_after outcomes.ReadFault p y n = refl

pub over : (o : Outcome) → o ≢ outcomes.Reading → is_over o ≡ true
over outcomes.Reading n = absurd (n refl)
over outcomes.Whole n = refl
over (outcomes.Cut at) n = refl
over (outcomes.Bad at code) n = refl
over outcomes.ReadFault n = refl

-- the ending stays where the outcome agrees
pub ending_kept : (o : Outcome) (y : Reading) → Agrees o y → ending_after o y ≡ y.ending
ending_kept outcomes.Reading y a = refl
ending_kept outcomes.Whole y a = ap (λ r. r.ending) (sym a)
ending_kept (outcomes.Cut at) y a = ap (λ r. r.ending) (sym a)
ending_kept (outcomes.Bad at code) y a = ap (λ r. r.ending) (sym a)
ending_kept outcomes.ReadFault y a = refl

reading_or : (o : Outcome) → (o ≡ outcomes.ReadFault) ⊎ (o ≢ outcomes.ReadFault)
reading_or outcomes.ReadFault = inl refl
reading_or outcomes.Reading = inr (λ e. absurd (cc))
reading_or outcomes.Whole = inr (λ e. absurd (cc))
reading_or (outcomes.Cut at) = inr (λ e. absurd (cc))
reading_or (outcomes.Bad at code) = inr (λ e. absurd (cc))

-- the call of the packet that comes first
pub first_left : (p p' : Progress) (call : Call) (packet : Packet) (x y : Reading) → p.outcome ≡ outcomes.Reading → p'.outcome ≡ p.outcome
    → p'.packet ≡ p.packet → owed p'.done_given p'.done ≡ owed p.done_given p.done → call ≡ packet_call p.packet packet
    → x ≡ record { packets = packet ∷ y.packets; ending = y.ending } → calls_after p.outcome p x ≡ call ∷ calls_after p'.outcome p' y
first_left p p' call packet x y o o' f q c e =
    ap (λ k. calls_after k p x) o
    ∙ ap (λ r. calls_of p.packet (owed p.done_given p.done) r) e
    ∙ ap (λ k. k ∷ calls_of p.packet (owed p.done_given p.done) y) (sym c)
    ∙ ap (λ k. call ∷ calls_of k (owed p.done_given p.done) y) (sym f)
    ∙ ap (λ k. call ∷ calls_of p'.packet k y) (sym q)
    ∙ ap (λ k. call ∷ calls_after k p' y) (sym (o' ∙ o))

no_calls : (b : Bool) → done_calls (after_clean b None) ≡ []
no_calls true = refl
no_calls false = refl

-- the call at the end
pub done_left : (p p' : Progress) (o : Outcome) (call : Call) (function : FnId) (x y : Reading) → p.outcome ≡ outcomes.Reading → p'.outcome ≡ p.outcome
    → owed p'.done_given p'.done ≡ None → o ≢ outcomes.Reading → after_clean (clean o) (owed p.done_given p.done) ≡ Some function
    → call ≡ done_call function → y ≡ x → Agrees o y → calls_after p.outcome p x ≡ call ∷ calls_after p'.outcome p' y
done_left p p' o call function x y k k' q n owes c e a =
    let sure : o ≢ outcomes.ReadFault = λ f. absurd (let none = ap (λ z. after_clean (clean z) (owed p.done_given p.done)) f in let both = sym none ∙ owes in cc) in
    let before : calls_after p.outcome p x ≡ done_call function ∷ []
    = ap (λ z. calls_after z p x) k ∙ ap (calls_of p.packet (owed p.done_given p.done)) (sym e)
    ∙ left_at_end o y (owed p.done_given p.done) p.packet n sure a ∙ ap done_calls owes in
    let after : calls_after p'.outcome p' y ≡ []
    = ap (λ z. calls_after z p' y) (k' ∙ k) ∙ ap (λ z. calls_of p'.packet z y) q ∙ left_at_end o y None p'.packet n sure a ∙ no_calls (clean o) in
    before ∙ ap (λ z. z ∷ []) (sym c) ∙ ap (λ z. call ∷ z) (sym after)

-- nothing is left where nothing is owed
pub nothing_left : (p p' : Progress) (o : Outcome) (x y : Reading) → p.outcome ≡ outcomes.Reading → p'.outcome ≡ o → o ≢ outcomes.Reading
    → after_clean (clean o) (owed p.done_given p.done) ≡ None → y ≡ x → Agrees o y
    → IsOverBy p.outcome p'.outcome (calls_after p.outcome p x) (calls_after p'.outcome p' y)
nothing_left p p' o x y k k' n owes e a = (
  elim (reading_or o) [
    | inl f ↦ inr (ap is_lost k, ap is_lost (k' ∙ f))
    | inr f ↦ inl (ap (λ z. calls_after z p x) k ∙ ap (calls_of p.packet (owed p.done_given p.done)) (sym e)
        ∙ left_at_end o y (owed p.done_given p.done) p.packet n f a ∙ ap done_calls owes)
  ],
  ap (λ z. calls_after z p' y) k' ∙ none_after o p' y n,
)

some_mapped : (packet : FnId) (ps : List Packet) (l : List Call) → ps ≢ [] → map (packet_call packet) ps ++ l ≢ []
some_mapped packet [] l n e = absurd (n refl)
some_mapped packet (p ∷ ps) l n e = absurd (cc)

some_calls : (packet : FnId) (q : Option FnId) (x : Reading) → x.packets ≢ [] → calls_of packet q x ≢ []
some_calls packet q x n = some_mapped packet x.packets (last_call q x.ending) n

tested_calls : (q : Option FnId) → IsTrue (is_some q) ↔ (done_calls q ≢ [])
tested_calls None = ((λ e. absurd (cc)), (λ n. absurd (n refl)))
tested_calls (Some f) = ((λ _ e. absurd (cc)), (λ _. refl))

tested : (more : Bool) (o : Outcome) (p : Progress) (x y : Reading) → o ≢ outcomes.Reading → o ≢ outcomes.ReadFault → Skipped more x y → Agrees o y
    → IsTrue (more || is_some (after_clean (clean o) (owed p.done_given p.done))) ↔ (calls_of p.packet (owed p.done_given p.done) x ≢ [])
tested true o p x y n f s a = ((λ _. some_calls p.packet (owed p.done_given p.done) x s.0), (λ _. refl))
tested false o p x y n f s a =
    let same : calls_of p.packet (owed p.done_given p.done) x ≡ done_calls (after_clean (clean o) (owed p.done_given p.done))
    = ap (calls_of p.packet (owed p.done_given p.done)) (sym s) ∙ left_at_end o y (owed p.done_given p.done) p.packet n f a in
    subst (λ (l : List Call). IsTrue (is_some (after_clean (clean o) (owed p.done_given p.done))) ↔ (l ≢ [])) (sym same)
    (tested_calls (after_clean (clean o) (owed p.done_given p.done)))

-- whether something was left
pub skipped_left : (p p' : Progress) (o : Outcome) (more : Bool) (x y : Reading) → p.outcome ≡ outcomes.Reading → p'.outcome ≡ o → o ≢ outcomes.Reading
    → Skipped more x y → Agrees o y
    → IsSkippedBy p.outcome p'.outcome (more || is_some (after_clean (clean o) (owed p.done_given p.done)))
    (calls_after p.outcome p x) (calls_after p'.outcome p' y)
skipped_left p p' o more x y k k' n s a = (
  elim (reading_or o) [
    | inl f ↦ inl (ap is_lost k, ap is_lost (k' ∙ f))
    | inr f ↦ inr (subst (λ z. IsTrue (more || is_some (after_clean (clean o) (owed p.done_given p.done))) ↔ (calls_after z p x ≢ [])) (sym k)
        (tested more o p x y n f s a))
  ],
  ap (λ z. calls_after z p' y) k' ∙ none_after o p' y n,
)
