-- What is left of the calls, from what is left to read.
use Rattle.std.proofs.Common.{◌≡◌, ◌≢◌, ℕ, Bool, true, false, List, ◌∷◌, Option, Some, None, is_some, ◌||◌, refl, sym, ◌∙◌, ap, subst, inl, inr}
use Rattle.hilti_pcap.specs.declared.packet.Packet.{Packet}
use Rattle.hilti_pcap.specs.Readings.{Reading}
use Rattle.hilti_tree.specs.declared.call.Call.{Call}
use Rattle.hilti_feed.specs.declared.tail.Tail.{Tail}
use Rattle.hilti_feed.specs.declared.tail.Outcome.{Outcome}
use Rattle.hilti_feed.specs.declared.tail.Outcome.TheVariants as outcomes
use Rattle.hilti_feed.specs.declared.pieces.Found.TheVariants as founds
use Rattle.hilti_feed.specs.declared.progress.Progress.{Progress}
use Rattle.hilti_feed.specs.Known.{Related}
use Rattle.hilti_feed.specs.Calls.{packet_call}
use Rattle.hilti_feed.specs.Tails.{Agrees, reading_of}
use Rattle.hilti_feed.specs.Progress.{owed, after_clean, owed_after, clean, calls_left, ending_left, ending_after, Skipped, IsClosing, IsClosed, IsEnded, IsOverBy, IsSkippedBy}
use Rattle.hilti_feed.proofs.Ends.{first_left, done_left, nothing_left, skipped_left, ending_kept, none_after}
use Rattle.hilti_feed.proofs.Turns.{GivesNow}

-- nothing but the tail is another
pub record IsReadOn (p q : Progress) : Type 0 where
  pub outcome_same : q.outcome ≡ p.outcome
  pub packet_same : q.packet ≡ p.packet
  pub done_same : q.done ≡ p.done
  pub given_same : q.done_given ≡ p.done_given

abbrev pub CallNow : Call → Progress → Progress → Option (List ℕ) → Option (List ℕ) → Type 0
CallNow call p p' r r' = Related (λ rest rest'. calls_left p rest ≡ call ∷ calls_left p' rest') r r'

abbrev pub OverNow : Progress → Progress → Option (List ℕ) → Option (List ℕ) → Type 0
OverNow p p' r r' = Related (λ rest rest'. IsOverBy p.outcome p'.outcome (calls_left p rest) (calls_left p' rest')) r r'

abbrev pub SkipNow : Bool → Progress → Progress → Option (List ℕ) → Option (List ℕ) → Type 0
SkipNow more p p' r r' = Related (λ rest rest'. IsSkippedBy p.outcome p'.outcome more (calls_left p rest) (calls_left p' rest')) r r'

abbrev pub SameEnding : Progress → Progress → Option (List ℕ) → Option (List ℕ) → Type 0
SameEnding p p' r r' = Related (λ rest rest'. ending_left p' rest' ≡ ending_left p rest) r r'

owed_same : (p q : Progress) (o : Outcome) → IsReadOn p q → owed_after o q ≡ after_clean (clean o) (owed p.done_given p.done)
owed_same p q o h = ap (λ g. after_clean (clean o) (owed g q.done)) h.given_same ∙ ap (λ d. after_clean (clean o) (owed p.done_given d)) h.done_same

pub packet_now : (p q : Progress) (call : Call) (packet : Packet) (r r' : Option (List ℕ)) → p.outcome ≡ outcomes.Reading → IsReadOn p q
    → call ≡ packet_call p.packet packet → GivesNow (founds.Packet packet) p.tail q.tail r r' → CallNow call p q r r'
packet_now p q call packet None r' o h c g = tt
packet_now p q call packet (Some a) None o h c g = absurd g
packet_now p q call packet (Some a) (Some b) o h c g =
    first_left p q call packet (reading_of p.tail a) (reading_of q.tail b) o h.outcome_same h.packet_same
    (ap (λ x. owed x q.done) h.given_same ∙ ap (λ d. owed p.done_given d) h.done_same) c g

pub packet_ending : (p q : Progress) (packet : Packet) (r r' : Option (List ℕ)) → p.outcome ≡ outcomes.Reading → IsReadOn p q
    → GivesNow (founds.Packet packet) p.tail q.tail r r' → SameEnding p q r r'
packet_ending p q packet None r' o h g = tt
packet_ending p q packet (Some a) None o h g = absurd g
packet_ending p q packet (Some a) (Some b) o h g =
    ap (λ x. ending_after x (reading_of q.tail b)) (h.outcome_same ∙ o) ∙ sym (ap (λ x. x.ending) g)
    ∙ sym (ap (λ x. ending_after x (reading_of p.tail a)) o)

pub closing_now : (p q p' : Progress) (o : Outcome) (call : Call) (r r' : Option (List ℕ)) → p.outcome ≡ outcomes.Reading → IsReadOn p q
    → o ≢ outcomes.Reading → GivesNow (founds.Ended o) p.tail q.tail r r' → IsClosing q p' o call → CallNow call p p' r r'
closing_now p q p' o call None r' k h n g c = tt
closing_now p q p' o call (Some a) None k h n g c = absurd g
closing_now p q p' o call (Some a) (Some b) k h n g c =
    done_left p p' o call c.function (reading_of p.tail a) (reading_of p'.tail b) k (c.outcome_is ∙ h.outcome_same)
    (ap (λ x. owed x p'.done) c.given) n (sym (owed_same p q o h) ∙ c.owes) c.call_is (c.reads b ∙ g.0)
    (subst (λ (x : Reading). Agrees o x) (sym (c.reads b)) g.1)

pub closing_ending : (p q p' : Progress) (o : Outcome) (call : Call) (r r' : Option (List ℕ)) → p.outcome ≡ outcomes.Reading → IsReadOn p q
    → GivesNow (founds.Ended o) p.tail q.tail r r' → IsClosing q p' o call → SameEnding p p' r r'
closing_ending p q p' o call None r' k h g c = tt
closing_ending p q p' o call (Some a) None k h g c = absurd g
closing_ending p q p' o call (Some a) (Some b) k h g c =
    ap (λ x. ending_after x (reading_of p'.tail b)) (c.outcome_is ∙ h.outcome_same ∙ k) ∙ ap (λ x. x.ending) (c.reads b ∙ g.0)
    ∙ sym (ap (λ x. ending_after x (reading_of p.tail a)) k)

pub closed_now : (p q p' : Progress) (o : Outcome) (r r' : Option (List ℕ)) → p.outcome ≡ outcomes.Reading → IsReadOn p q
    → o ≢ outcomes.Reading → GivesNow (founds.Ended o) p.tail q.tail r r' → IsClosed q p' o → OverNow p p' r r'
closed_now p q p' o None r' k h n g c = tt
closed_now p q p' o (Some a) None k h n g c = absurd g
closed_now p q p' o (Some a) (Some b) k h n g c =
    nothing_left p p' o (reading_of p.tail a) (reading_of p'.tail b) k c.outcome_is n (sym (owed_same p q o h) ∙ c.nothing)
    (c.reads b ∙ g.0) (subst (λ (x : Reading). Agrees o x) (sym (c.reads b)) g.1)

pub closed_ending : (p q p' : Progress) (o : Outcome) (r r' : Option (List ℕ)) → p.outcome ≡ outcomes.Reading
    → GivesNow (founds.Ended o) p.tail q.tail r r' → IsClosed q p' o → SameEnding p p' r r'
closed_ending p q p' o None r' k g c = tt
closed_ending p q p' o (Some a) None k g c = absurd g
closed_ending p q p' o (Some a) (Some b) k g c =
    ap (λ x. ending_after x (reading_of p'.tail b)) c.outcome_is
    ∙ ending_kept o (reading_of p'.tail b) (subst (λ (x : Reading). Agrees o x) (sym (c.reads b)) g.1)
    ∙ ap (λ x. x.ending) (c.reads b ∙ g.0) ∙ sym (ap (λ x. ending_after x (reading_of p.tail a)) k)

-- what was over stays so
pub over_already : (p : Progress) (r : Option (List ℕ)) → p.outcome ≢ outcomes.Reading → OverNow p p r r
over_already p None n = tt
over_already p (Some a) n = (inl (none_after p.outcome p (reading_of p.tail a) n), none_after p.outcome p (reading_of p.tail a) n)

pub ended_already : (p : Progress) (r : Option (List ℕ)) → SameEnding p p r r
ended_already p None = tt
ended_already p (Some a) = refl

pub skipped_already : (p : Progress) (r : Option (List ℕ)) → p.outcome ≢ outcomes.Reading → SkipNow false p p r r
skipped_already p None n = tt
skipped_already p (Some a) n =
    let none = none_after p.outcome p (reading_of p.tail a) n in
    (inr ((λ e. absurd (cc)), (λ some. absurd (some none))), none)

abbrev pub AllSkipped : Bool → Outcome → Tail → Tail → Option (List ℕ) → Option (List ℕ) → Type 0
AllSkipped more o t t' r r' =
    Related (λ rest rest'. Skipped more (reading_of t rest) (reading_of t' rest') × Agrees o (reading_of t' rest')) r r'

pub skipped_now : (p p' : Progress) (o : Outcome) (more : Bool) (r r' : Option (List ℕ)) → p.outcome ≡ outcomes.Reading → p'.outcome ≡ o
    → o ≢ outcomes.Reading → AllSkipped more o p.tail p'.tail r r'
    → SkipNow (more || is_some (owed_after o p)) p p' r r'
skipped_now p p' o more None r' k e n g = tt
skipped_now p p' o more (Some a) None k e n g = absurd g
skipped_now p p' o more (Some a) (Some b) k e n g = skipped_left p p' o more (reading_of p.tail a) (reading_of p'.tail b) k e n g.0 g.1

ending_skipped : (more : Bool) (x y : Reading) → Skipped more x y → y.ending ≡ x.ending
ending_skipped true x y s = s.1
ending_skipped false x y s = ap (λ q. q.ending) s

pub skipped_ending : (p p' : Progress) (o : Outcome) (more : Bool) (r r' : Option (List ℕ)) → p.outcome ≡ outcomes.Reading → p'.outcome ≡ o
    → AllSkipped more o p.tail p'.tail r r' → SameEnding p p' r r'
skipped_ending p p' o more None r' k e g = tt
skipped_ending p p' o more (Some a) None k e g = absurd g
skipped_ending p p' o more (Some a) (Some b) k e g =
    ap (λ x. ending_after x (reading_of p'.tail b)) e ∙ ending_kept o (reading_of p'.tail b) g.1
    ∙ ending_skipped more (reading_of p.tail a) (reading_of p'.tail b) g.0 ∙ sym (ap (λ x. ending_after x (reading_of p.tail a)) k)

-- the same where the tail reads as before
read_on : (more : Bool) (o : Outcome) (t u v : Tail) (r r' : Option (List ℕ)) → AllSkipped more o t u r r'
    → ((rest : List ℕ) → reading_of v rest ≡ reading_of u rest) → AllSkipped more o t v r r'
read_on more o t u v None r' g e = tt
read_on more o t u v (Some a) None g e = absurd g
read_on more o t u v (Some a) (Some b) g e = (
  subst (λ (x : Reading). Skipped more (reading_of t a) x) (sym (e b)) g.0,
  subst (λ (x : Reading). Agrees o x) (sym (e b)) g.1,
)

pub ended_now : (p q p' : Progress) (o : Outcome) (more left : Bool) (r r' : Option (List ℕ)) → p.outcome ≡ outcomes.Reading → IsReadOn p q
    → o ≢ outcomes.Reading → AllSkipped more o p.tail q.tail r r' → IsEnded q p' o more left → SkipNow left p p' r r'
ended_now p q p' o more left r r' k h n g e =
    subst (λ (b : Bool). SkipNow b p p' r r') (sym (e.left_is ∙ ap (λ d. more || is_some d) (owed_same p q o h)))
    (skipped_now p p' o more r r' k e.outcome_is n (read_on more o p.tail q.tail p'.tail r r' g e.reads))

pub ended_ending : (p q p' : Progress) (o : Outcome) (more left : Bool) (r r' : Option (List ℕ)) → p.outcome ≡ outcomes.Reading
    → AllSkipped more o p.tail q.tail r r' → IsEnded q p' o more left → SameEnding p p' r r'
ended_ending p q p' o more left r r' k g e =
    skipped_ending p p' o more r r' k e.outcome_is (read_on more o p.tail q.tail p'.tail r r' g e.reads)
