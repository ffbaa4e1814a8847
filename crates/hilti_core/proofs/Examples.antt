-- The definitions computed on two small programs: legal journals, their logs, and the one-worker history.
use Rattle.std.proofs.Common.{◌≡◌, ℕ, ◌==◌, cond, List, [], ◌∷◌, Option, Some, None, refl}
use Rattle.hilti_tree.specs.declared.call.Call.{Call}
use Rattle.hilti_core.specs.declared.pieces.Item.{Item}
use Rattle.hilti_core.specs.declared.pieces.Item.TheVariants.{Send, Line}
use Rattle.hilti_core.specs.declared.pieces.Segment.{Segment}
use Rattle.hilti_core.specs.declared.pieces.End.TheVariants.{Yielded, Returned}
use Rattle.hilti_core.specs.declared.event.Event.{Event}
use Rattle.hilti_core.specs.declared.event.Event.TheVariants.{Feed, Take, Put}
use Rattle.hilti_core.specs.Sending.{Text, Sender.Capture, Sender.Thread, Effect}
use Rattle.hilti_core.specs.Machine.{Machine, Pick, run}
use Rattle.hilti_core.specs.Core.{Core, core, starts}
use Rattle.hilti_core.specs.One.{one}

call : ℕ → Call
call n = record { function = record { n = n }; args = [] }

abbrev say : ℕ → Item
say letter = Line (letter ∷ [])

abbrev send : ℕ → ℕ → Item
send to n = Send (record { n = to }) (record { function = record { n = n }; args = [] })

abbrev whole : List Item → List Segment
whole items = record { items = items; end = Returned } ∷ []

abbrev take : ℕ → ℕ → Event
take worker r = Take worker (record { n = r })

abbrev log_at : ℕ → Option Core → List Text
log_at r None = []
log_at r (Some c) = (c.thread r).log

abbrev finished_at : ℕ → Option Core → List Call
finished_at r None = []
finished_at r (Some c) = (c.thread r).finished

abbrev ran_at : ℕ → Option Machine → List Text
ran_at r None = []
ran_at r (Some m) = (m.thread r).log

abbrev from_capture : ℕ → Pick
from_capture r = record { sender = Capture; receiver = r }

abbrev from_thread : ℕ → ℕ → Pick
from_thread s r = record { sender = Thread s; receiver = r }

-- function 0 sends a call of function 2 to thread 0 and prints p; function 1 prints d; function 2 prints x
abbrev note : Effect
note r before called = cond (called.function.n == 0) (whole (send 0 2 ∷ say 112 ∷ [])) (cond (called.function.n == 1) (whole (say 100 ∷ [])) (whole (say 120 ∷ [])))

abbrev captured : List Call
captured = record { function = record { n = 0 }; args = [] } ∷ record { function = record { n = 1 }; args = [] } ∷ []

-- the capture is fed before the first call runs: p, d, x
first_fed : log_at 0 (core note captured 10 (Feed ∷ Feed ∷ take 1 0 ∷ Put 1 ∷ take 1 0 ∷ Put 1 ∷ take 1 0 ∷ Put 1 ∷ [])) ≡ (112 ∷ []) ∷ (100 ∷ []) ∷ (120 ∷ []) ∷ []
first_fed = refl

-- the second call is fed after the first has run: p, x, d
later_fed : log_at 0 (core note captured 10 (Feed ∷ take 1 0 ∷ Put 1 ∷ Feed ∷ take 1 0 ∷ Put 1 ∷ take 1 0 ∷ Put 1 ∷ [])) ≡ (112 ∷ []) ∷ (120 ∷ []) ∷ (100 ∷ []) ∷ []
later_fed = refl

-- one worker: p, d, x
one_worker : ran_at 0 (run note captured (one note captured 10)) ≡ (112 ∷ []) ∷ (100 ∷ []) ∷ (120 ∷ []) ∷ []
one_worker = refl

-- a thread can't start its next call while one is out, and no more calls start than may
not_twice : core note captured 10 (Feed ∷ Feed ∷ take 1 0 ∷ take 2 0 ∷ []) ≡ None
not_twice = refl

not_past_limit : core note captured 1 (Feed ∷ Feed ∷ take 1 0 ∷ Put 1 ∷ take 1 0 ∷ []) ≡ None
not_past_limit = refl

-- with the capture fed, nothing more is fed; a worker that has no thread can't put
not_fed_again : core note captured 10 (Feed ∷ Feed ∷ Feed ∷ []) ≡ None
not_fed_again = refl

no_idle_put : core note captured 10 (Feed ∷ take 1 0 ∷ Put 2 ∷ []) ≡ None
no_idle_put = refl

no_second_put : core note captured 10 (Feed ∷ take 1 0 ∷ Put 1 ∷ Put 1 ∷ []) ≡ None
no_second_put = refl

-- function 0 sends functions 1 and 2 to threads 1 and 2; function 1 sends a, yields and sends b to thread 9; function
-- 2 sends c there; functions 3, 4 and 5 print a, b and c
abbrev letters_apart : Effect
letters_apart r before called =
    cond (called.function.n == 0) (whole (send 1 1 ∷ send 2 2 ∷ []))
    (cond (called.function.n == 1) (record { items = send 9 3 ∷ []; end = Yielded } ∷ record { items = send 9 4 ∷ []; end = Returned } ∷ [])
    (cond (called.function.n == 2) (whole (send 9 5 ∷ []))
    (cond (called.function.n == 3) (whole (say 97 ∷ [])) (cond (called.function.n == 4) (whole (say 98 ∷ [])) (whole (say 99 ∷ []))))))

abbrev single : List Call
single = record { function = record { n = 0 }; args = [] } ∷ []

abbrev between : List Event
between = Feed ∷ take 1 0 ∷ Put 1 ∷ take 1 1 ∷ Put 1 ∷ take 2 2 ∷ Put 2 ∷ take 1 1 ∷ Put 1 ∷ take 1 9 ∷ Put 1 ∷ take 1 9 ∷ Put 1 ∷ take 1 9 ∷ Put 1 ∷ []

-- thread 2 posts between the two segments of thread 1: a, c, b
between_logs : log_at 9 (core letters_apart single 10 between) ≡ (97 ∷ []) ∷ (99 ∷ []) ∷ (98 ∷ []) ∷ []
between_logs = refl

-- the machine that runs each call at once gives the same, from this history
between_starts : starts letters_apart single 10 between ≡ from_capture 0 ∷ from_thread 0 1 ∷ from_thread 0 2 ∷ from_thread 1 9 ∷ from_thread 2 9 ∷ from_thread 1 9 ∷ []
between_starts = refl

between_ran : ran_at 9 (run letters_apart single (starts letters_apart single 10 between)) ≡ (97 ∷ []) ∷ (99 ∷ []) ∷ (98 ∷ []) ∷ []
between_ran = refl

-- one worker: a, b, c
between_one : ran_at 9 (run letters_apart single (one letters_apart single 10)) ≡ (97 ∷ []) ∷ (98 ∷ []) ∷ (99 ∷ []) ∷ []
between_one = refl

-- a call that was given back goes on where no more calls may start
abbrev suspended : List Call
suspended = record { function = record { n = 1 }; args = [] } ∷ []

resumed_at_limit : finished_at 0 (core letters_apart suspended 1 (Feed ∷ take 1 0 ∷ Put 1 ∷ take 2 0 ∷ Put 2 ∷ [])) ≡ suspended
resumed_at_limit = refl

none_past_it : core letters_apart suspended 1 (Feed ∷ take 1 0 ∷ Put 1 ∷ take 2 0 ∷ Put 2 ∷ take 1 9 ∷ []) ≡ None
none_past_it = refl

-- the one-worker history of at most three picks
cut_one : one letters_apart single 3 ≡ from_capture 0 ∷ from_thread 0 1 ∷ from_thread 0 2 ∷ []
cut_one = refl
