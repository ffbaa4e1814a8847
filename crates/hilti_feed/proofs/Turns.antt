-- One step of reading after another.
use Rattle.std.proofs.Common.{◌≡◌, ℕ, Bool, true, false, List, Option, Some, None, refl, sym, ◌∙◌, ap, subst}
use Rattle.hilti_pcap.specs.declared.packet.Packet.{Packet}
use Rattle.hilti_pcap.specs.Readings.{Reading}
use Rattle.hilti_feed.specs.declared.tail.Tail.{Tail}
use Rattle.hilti_feed.specs.declared.tail.Outcome.{Outcome}
use Rattle.hilti_feed.specs.declared.pieces.Found.{Found}
use Rattle.hilti_feed.specs.declared.pieces.Found.TheVariants as founds
use Rattle.hilti_feed.specs.Known.{Related}
use Rattle.hilti_feed.specs.Tails.{Agrees, Gives, IsHolding, SameReading, reading_of}
use Rattle.hilti_feed.specs.Progress.{Skipped}

pub same_first : (t : Tail) (r : Option (List ℕ)) → SameReading t t r r
same_first t None = tt
same_first t (Some a) = refl

pub went_on : (t0 t1 t2 t3 : Tail) (r s u : Option (List ℕ)) → SameReading t0 t1 r s → IsHolding t1 t2 → SameReading t2 t3 s u
    → SameReading t0 t3 r u
went_on t0 t1 t2 t3 None s u a h b = tt
went_on t0 t1 t2 t3 (Some x) None u a h b = absurd a
went_on t0 t1 t2 t3 (Some x) (Some y) None a h b = absurd b
went_on t0 t1 t2 t3 (Some x) (Some y) (Some z) a h b = b ∙ h.same y ∙ a

abbrev pub GivesNow : Found → Tail → Tail → Option (List ℕ) → Option (List ℕ) → Type 0
GivesNow found t t' r r' = Related (λ a b. Gives found (reading_of t a) (reading_of t' b)) r r'

pub found_now : (found : Found) (t0 t1 t2 : Tail) (r s : Option (List ℕ)) → SameReading t0 t1 r s
    → ((rest : List ℕ) → Gives found (reading_of t1 rest) (reading_of t2 rest)) → GivesNow found t0 t2 r s
found_now found t0 t1 t2 None s a h = tt
found_now found t0 t1 t2 (Some x) None a h = absurd a
found_now found t0 t1 t2 (Some x) (Some y) a h = subst (λ (q : Reading). Gives found q (reading_of t2 y)) a (h y)

pub ended_now : (o : Outcome) (t0 t1 t2 t3 : Tail) (r s u : Option (List ℕ)) → SameReading t0 t1 r s → IsHolding t1 t2 → SameReading t2 t3 s u
    → ((rest : List ℕ) → Agrees o (reading_of t3 rest)) → GivesNow (founds.Ended o) t0 t3 r u
ended_now o t0 t1 t2 t3 None s u a h b g = tt
ended_now o t0 t1 t2 t3 (Some x) None u a h b g = absurd a
ended_now o t0 t1 t2 t3 (Some x) (Some y) None a h b g = absurd b
ended_now o t0 t1 t2 t3 (Some x) (Some y) (Some z) a h b g = (b ∙ h.same y ∙ a, g z)

-- packets that are skipped
abbrev pub SkippedNow : Bool → Tail → Tail → Option (List ℕ) → Option (List ℕ) → Type 0
SkippedNow more t t' r r' = Related (λ a b. Skipped more (reading_of t a) (reading_of t' b)) r r'

pub none_skipped : (t : Tail) (r : Option (List ℕ)) → SkippedNow false t t r r
none_skipped t None = tt
none_skipped t (Some a) = refl

skip_by : (more : Bool) (p : Packet) (x y z : Reading) → Skipped more x y → Gives (founds.Packet p) y z → Skipped true x z
skip_by true p x y z s g = (s.0, sym (ap (λ q. q.ending) g) ∙ s.1)
skip_by false p x y z s g = (
  (λ e. absurd (let none = sym (ap (λ q. q.packets) (sym s ∙ g)) ∙ e in cc)),
  sym (ap (λ q. q.ending) (sym s ∙ g)),
)

pub skipped_more : (more : Bool) (p : Packet) (t0 t1 t2 : Tail) (r s u : Option (List ℕ)) → SkippedNow more t0 t1 r s
    → GivesNow (founds.Packet p) t1 t2 s u → SkippedNow true t0 t2 r u
skipped_more more p t0 t1 t2 None s u a g = tt
skipped_more more p t0 t1 t2 (Some x) None u a g = absurd a
skipped_more more p t0 t1 t2 (Some x) (Some y) None a g = absurd g
skipped_more more p t0 t1 t2 (Some x) (Some y) (Some z) a g = skip_by more p (reading_of t0 x) (reading_of t1 y) (reading_of t2 z) a g

skip_same : (more : Bool) (x y z : Reading) → Skipped more x y → z ≡ y → Skipped more x z
skip_same more x y z s e = subst (λ (q : Reading). Skipped more x q) (sym e) s

pub skipped_all : (more : Bool) (o : Outcome) (t0 t1 t2 : Tail) (r s u : Option (List ℕ)) → SkippedNow more t0 t1 r s
    → GivesNow (founds.Ended o) t1 t2 s u
    → Related (λ a b. Skipped more (reading_of t0 a) (reading_of t2 b) × Agrees o (reading_of t2 b)) r u
skipped_all more o t0 t1 t2 None s u a g = tt
skipped_all more o t0 t1 t2 (Some x) None u a g = absurd a
skipped_all more o t0 t1 t2 (Some x) (Some y) None a g = absurd g
skipped_all more o t0 t1 t2 (Some x) (Some y) (Some z) a g = (skip_same more (reading_of t0 x) (reading_of t1 y) (reading_of t2 z) a g.0, g.1)
