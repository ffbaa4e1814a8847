-- A journal of the body that counts down, computed: its logs, its starts, and that each call ends.
use Rattle.std.proofs.Common.{◌≡◌, ℕ, ◌==◌, cond, List, [], ◌∷◌, length, drop, decimal, Option, Some, None, refl, ap, ◌∙◌}
use Rattle.hilti_tree.specs.declared.call.Call.{Call}
use Rattle.hilti_tree.specs.declared.tree.Tree.TheVariants as variants
use Rattle.hilti_core.specs.declared.event.Event.{Event}
use Rattle.hilti_core.specs.declared.event.Event.TheVariants.{Feed, Take, Put}
use Rattle.hilti_core.specs.Sending.{Text, Sender.Capture, Sender.Thread, Effect}
use Rattle.hilti_core.specs.Machine.{Pick}
use Rattle.hilti_core.specs.Core.{Core, left, put_by, put_of, step, play, core_of_none, core, starts, picks_of}
use Rattle.hilti_core.specs.Countdown.{countdown, effect_of}
use Rattle.hilti_core.proofs.Numbers.{number_is}

-- the calls on 2 and 0
abbrev counting : Effect
counting r before called = effect_of called

abbrev counted : ℕ → Call
counted n = record { function = record { n = 0 }; args = variants.Int n ∷ [] }

abbrev counts : List Call
counts = counted 2 ∷ counted 0 ∷ []

abbrev take : ℕ → ℕ → Event
take worker r = Take worker (record { n = r })

-- thread 1 runs the last call while thread 0 is suspended
abbrev by_hand : List Event
by_hand =
    Feed ∷ Feed ∷ take 1 0 ∷ Put 1 ∷ take 1 0 ∷ Put 1 ∷ take 2 2 ∷ take 1 0 ∷ Put 1 ∷ Put 2
    ∷ take 1 2 ∷ Put 1 ∷ take 2 1 ∷ Put 2 ∷ take 2 1 ∷ Put 2 ∷ take 1 0 ∷ Put 1 ∷ []

-- what these calls do, told by the thread and how many calls it ran: a tree's number isn't computed, so this is
abbrev told : Effect
told r before called = countdown (record { n = 0 }) (cond (r == 0) (cond (length before == 0) 2 0) (cond (r == 2) 1 0))

-- two effects give the same at a put of this worker, and at each put of a journal
abbrev AgreeAt : Effect → Effect → Core → Option ℕ → Type 0
AgreeAt e f c None = Unit {0}
AgreeAt e f c (Some r) = left e r (c.thread r) ≡ left f r (c.thread r)

abbrev Agree : Effect → Effect → ℕ → List Event → Option Core → Type 0
Agree e f limit [] o = Unit {0}
Agree e f limit (event ∷ more) None = Unit {0}
Agree e f limit (Feed ∷ more) (Some c) = Agree e f limit more (step f limit Feed c)
Agree e f limit (Take worker thread ∷ more) (Some c) = Agree e f limit more (step f limit (Take worker thread) c)
Agree e f limit (Put worker ∷ more) (Some c) = AgreeAt e f c (c.out worker) × Agree e f limit more (step f limit (Put worker) c)

same_put : (e f : Effect) (worker : ℕ) (c : Core) (seat : Option ℕ) → AgreeAt e f c seat → put_of e worker c seat ≡ put_of f worker c seat
same_put e f worker c None h = refl
same_put e f worker c (Some r) h = ap (put_by worker r c (c.thread r).running) h

-- so their cores are the same
same_play : (e f : Effect) (limit : ℕ) (journal : List Event) (o : Option Core) → Agree e f limit journal o → play e limit journal o ≡ play f limit journal o
same_play e f limit [] None h = refl
same_play e f limit [] (Some c) h = refl
same_play e f limit (event ∷ more) None h = refl
same_play e f limit (Feed ∷ more) (Some c) h = same_play e f limit more (step f limit Feed c) h
same_play e f limit (Take worker thread ∷ more) (Some c) h = same_play e f limit more (step f limit (Take worker thread) c) h
same_play e f limit (Put worker ∷ more) (Some c) h =
    ap (play e limit more) (same_put e f worker c (c.out worker) h.0) ∙ same_play e f limit more (step f limit (Put worker) c) h.1

-- the segments behind so many, of a call on a number
behind : (given n : ℕ) → drop given (effect_of (counted n)) ≡ drop given (countdown (record { n = 0 }) n)
behind given n = ap (λ k. drop given (countdown (record { n = 0 }) k)) (number_is n)

is_told : core counting counts 10 by_hand ≡ core told counts 10 by_hand
is_told = same_play counting told 10 by_hand (Some (core_of_none counts))
    (behind 0 2, (behind 1 2, (behind 0 0, (behind 0 1, (behind 1 1, (behind 0 0, (behind 1 0, (behind 1 0, tt))))))))

abbrev log_at : ℕ → Option Core → List Text
log_at r None = []
log_at r (Some c) = (c.thread r).log

abbrev finished_at : ℕ → Option Core → List Call
finished_at r None = []
finished_at r (Some c) = (c.thread r).finished

-- thread 0 prints 2 and 0, thread 2 prints 1, thread 1 prints 0
log_zero : log_at 0 (core counting counts 10 by_hand) ≡ decimal 2 ∷ decimal 0 ∷ []
log_zero = ap (log_at 0) is_told

log_two : log_at 2 (core counting counts 10 by_hand) ≡ decimal 1 ∷ []
log_two = ap (log_at 2) is_told

log_one : log_at 1 (core counting counts 10 by_hand) ≡ decimal 0 ∷ []
log_one = ap (log_at 1) is_told

-- each call ends
ended_zero : finished_at 0 (core counting counts 10 by_hand) ≡ counted 2 ∷ counted 0 ∷ []
ended_zero = ap (finished_at 0) is_told

ended_two : finished_at 2 (core counting counts 10 by_hand) ≡ counted 1 ∷ []
ended_two = ap (finished_at 2) is_told

ended_one : finished_at 1 (core counting counts 10 by_hand) ≡ counted 0 ∷ []
ended_one = ap (finished_at 1) is_told

-- its starts: thread 2's call before the second one of the capture
abbrev by_hand_starts : List Pick
by_hand_starts =
    record { sender = Capture; receiver = 0 } ∷ record { sender = Thread 0; receiver = 2 } ∷ record { sender = Capture; receiver = 0 }
    ∷ record { sender = Thread 2; receiver = 1 } ∷ []

starts_are : starts counting counts 10 by_hand ≡ by_hand_starts
starts_are = ap picks_of is_told
