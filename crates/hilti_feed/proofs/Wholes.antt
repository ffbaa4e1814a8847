-- A capture that is read to its end.
use Rattle.std.proofs.Common.{◌≡◌, ℕ, false, List, [], ◌∷◌, ◌++◌, Option, Some, None, unwrap_or, refl, sym, ◌∙◌, ap, subst, inl, inr, append_assoc}
use Rattle.std.proofs.lemmas.List.{append-nil}
use Rattle.std.proofs.lemmas.List.Elements.{All-append, All-cons, All-nil}
use Rattle.std.specs.List.{All}
use Rattle.hilti_base.specs.declared.names.FnId.{FnId}
use Rattle.hilti_outside.specs.Contents.{FileMap}
use Rattle.hilti_pcap.specs.Endings.{CaptureEnding, Bad}
use Rattle.hilti_pcap.specs.Readings.{Reading}
use Rattle.hilti_tree.specs.declared.call.Call.{Call}
use Rattle.hilti_feed.specs.declared.tail.Outcome.{Outcome}
use Rattle.hilti_feed.specs.declared.tail.Outcome.TheVariants as outcomes
use Rattle.hilti_feed.specs.declared.progress.Progress.{Progress}
use Rattle.hilti_feed.specs.Known.{Related}
use Rattle.hilti_feed.specs.Calls.{IsCallOf, calls_of}
use Rattle.hilti_feed.specs.Faults.{HasCause, HasCauseIn}
use Rattle.hilti_feed.specs.Tails.{reading_of}
use Rattle.hilti_feed.specs.Progress.{calls_left, ending_left, ending_after, is_lost}
use Rattle.hilti_feed.specs.Feeds.{coming, ending, IsBegun}
use Rattle.hilti_feed.specs.Wholes.{ComeOf, IsAllUnlessLost, IsBadCapture}
use Rattle.hilti_feed.proofs.Givings.{CallNow, OverNow, SameEnding}
use Rattle.hilti_feed.proofs.Lifts.{TellsRest, at_told}

-- these calls stand before those that are left now
abbrev pub SoFar : List Call → Progress → Progress → Option (List ℕ) → Option (List ℕ) → Type 0
SoFar calls p p' r r' = Related (λ a b. calls_left p a ≡ calls ++ calls_left p' b) r r'

abbrev pub AllNow : List Call → Progress → Progress → Option (List ℕ) → Option (List ℕ) → Type 0
AllNow calls p p' r r' = Related (λ a b. IsAllUnlessLost p'.outcome (calls_left p a) calls) r r'

pub none_yet : (p : Progress) (r : Option (List ℕ)) → SoFar [] p p r r
none_yet p None = tt
none_yet p (Some a) = refl

pub one_more : (calls : List Call) (call : Call) (p q p' : Progress) (r s t : Option (List ℕ)) → SoFar calls p q r s → CallNow call q p' s t
    → SoFar (calls ++ call ∷ []) p p' r t
one_more calls call p q p' None s t a c = tt
one_more calls call p q p' (Some x) None t a c = absurd a
one_more calls call p q p' (Some x) (Some y) None a c = absurd c
one_more calls call p q p' (Some x) (Some y) (Some z) a c =
    a ∙ ap (λ l. calls ++ l) c ∙ sym (append_assoc calls (call ∷ []) (calls_left p' z))

pub all_now : (calls : List Call) (p q p' : Progress) (r s t : Option (List ℕ)) → SoFar calls p q r s → OverNow q p' s t → AllNow calls p p' r t
all_now calls p q p' None s t a c = tt
all_now calls p q p' (Some x) None t a c = absurd a
all_now calls p q p' (Some x) (Some y) None a c = absurd c
all_now calls p q p' (Some x) (Some y) (Some z) a c = elim c.0 [
  | inl none ↦ inr (a ∙ ap (λ l. calls ++ l) none ∙ append-nil calls)
  | inr lost ↦ inl lost.1
]

pub ending_on : (p q p' : Progress) (r s t : Option (List ℕ)) → SameEnding p q r s → SameEnding q p' s t → SameEnding p p' r t
ending_on p q p' None s t a c = tt
ending_on p q p' (Some x) None t a c = absurd a
ending_on p q p' (Some x) (Some y) None a c = absurd c
ending_on p q p' (Some x) (Some y) (Some z) a c = c ∙ a

pub passes_more : (packet packet' : FnId) (done done' : Option FnId) (calls : List Call) (call : Call) → packet' ≡ packet → done' ≡ done
    → All (IsCallOf packet done) calls → IsCallOf packet' done' call → All (IsCallOf packet done) (calls ++ call ∷ [])
passes_more packet packet' closing closing' calls call e f all one =
    let same : IsCallOf packet closing call
    = subst (λ (d : Option FnId). IsCallOf packet d call) f (subst (λ (x : FnId). IsCallOf x closing' call) e one) in
    All-append (IsCallOf packet closing) calls (call ∷ []) all (All-cons (IsCallOf packet closing) call [] same (All-nil (IsCallOf packet closing)))

-- no fault is counted where a feed goes on
pub not_faulted : (o o' : Outcome) (n n' : ℕ) → HasCauseIn o o' n n' → o' ≡ o → n' ≡ n
not_faulted outcomes.Reading o' n n' h e = subst (λ (x : Outcome). HasCause x n n') e h
not_faulted outcomes.Whole o' n n' h e = h.1
not_faulted (outcomes.Cut at) o' n n' h e = h.1
not_faulted (outcomes.Bad at code) o' n n' h e = h.1
not_faulted outcomes.ReadFault o' n n' h e = h.1

pub cause_on : (o o₀ o' : Outcome) (n n₀ n' : ℕ) → o ≡ o₀ → n ≡ n₀ → HasCauseIn o o' n n' → HasCauseIn o₀ o' n₀ n'
cause_on o o₀ o' n n₀ n' e f h = subst (λ (m : ℕ). HasCauseIn o₀ o' m n') f (subst (λ (x : Outcome). HasCauseIn x o' n n') e h)

-- the calls and the end of a capture that was read whole
pub whole : (fs : Option FileMap) (r r' : Option (List ℕ)) (p p' : Progress) (all : FileMap) (capture : List ℕ) (packet : FnId)
    (done : Option FnId) (calls : List Call) (end : CaptureEnding) → fs ≡ Some all → TellsRest fs r
    → IsBegun capture packet done (coming fs r p) (ending fs r p) → AllNow calls p p' r r' → SameEnding p p' r r' → is_lost p'.outcome ≡ false
    → ((reading : Reading) → ending_after p'.outcome reading ≡ end) → ComeOf capture packet done calls end
whole None r r' p p' all capture packet closing calls end e told b c h heard k = absurd (cc)
whole (Some x) r r' p p' all capture packet closing calls end e told b c h heard k =
    let left : calls_left p (unwrap_or r []) ≡ calls_of packet closing b.reading = ap (λ q. unwrap_or q []) b.calls in
    let last : ending_left p (unwrap_or r []) ≡ b.reading.ending = ap (λ q. unwrap_or q end) b.ends in
    let same : ending_left p' (unwrap_or r' []) ≡ ending_left p (unwrap_or r [])
    = at_told (Some x) r r' x (λ i j. ending_left p' j ≡ ending_left p i) refl told h in
    let given : IsAllUnlessLost p'.outcome (calls_left p (unwrap_or r [])) calls
    = at_told (Some x) r r' x (λ i j. IsAllUnlessLost p'.outcome (calls_left p i) calls) refl told c in
    record {
      reading = b.reading;
      read = b.read;
      calls_are = elim given [
        | inl lost ↦ absurd (let both = sym heard ∙ lost in cc)
        | inr all ↦ sym all ∙ left
      ];
      ending_is = sym (k (reading_of p'.tail (unwrap_or r' []))) ∙ same ∙ last;
    }

-- one that is bad behind its header
pub bad_behind : (fs : Option FileMap) (r r' : Option (List ℕ)) (p p' : Progress) (all : FileMap) (capture : List ℕ) (packet : FnId)
    (done : Option FnId) (at code : ℕ) → fs ≡ Some all → TellsRest fs r
    → IsBegun capture packet done (coming fs r p) (ending fs r p) → SameEnding p p' r r'
    → ((reading : Reading) → ending_after p'.outcome reading ≡ Bad at code) → IsBadCapture capture at code
bad_behind None r r' p p' all capture packet closing at code e told b h k = absurd (cc)
bad_behind (Some x) r r' p p' all capture packet closing at code e told b h k =
    let last : ending_left p (unwrap_or r []) ≡ b.reading.ending = ap (λ q. unwrap_or q (Bad at code)) b.ends in
    let same : ending_left p' (unwrap_or r' []) ≡ ending_left p (unwrap_or r [])
    = at_told (Some x) r r' x (λ i j. ending_left p' j ≡ ending_left p i) refl told h in
    inr (record {
      reading = b.reading;
      read = b.read;
      ends = sym last ∙ sym same ∙ k (reading_of p'.tail (unwrap_or r' []));
    })
