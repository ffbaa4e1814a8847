-- The law of call-atomic order.
use Rattle.std.proofs.Common.{◌≡◌, ℕ, ◌+◌, ◌≤◌, suc, Bool, true, false, cond, List, [], ◌∷◌, ◌++◌, length, Option, Some, None, refl, ap, sym, ◌∙◌, subst, arith, append_assoc, eqb}
use Rattle.std.specs.Prelude.{map}
use Rattle.std.proofs.lemmas.List.{append-nil, map-append, length-map}
use Rattle.hilti_tree.specs.declared.call.Call.{Call}
use Rattle.hilti_core.specs.declared.event.Event.{Event}
use Rattle.hilti_core.specs.declared.event.Event.TheVariants.{Feed, Take, Put}
use Rattle.hilti_core.specs.Sending.{Sender.Capture, Sender.Thread, Message, Effect, messages}
use Rattle.hilti_core.specs.Machine.{Start, Machine, Pick, pick_of, machine, pick_next, run_from, run, IsComplete, after_message}
use Rattle.hilti_core.specs.Core.{Core, core_of_none, step, play, picks_of, starts}
use Rattle.hilti_core.specs.Atomic.{Compares, HasSeats, NothingRuns, NothingWaits, IsCallAtomic, from_sender, to_come, to_feed}
use Rattle.hilti_core.proofs.Moves.{Moves, Moves.Fed, Moves.Goes, Moves.Starts, Moves.Home, moves}
use Rattle.hilti_core.proofs.Seats.{seats_step, seats_none}
use Rattle.hilti_core.proofs.Counts.{Balanced, balanced_goes, balanced_begins, balanced_home, balanced_still}
use Rattle.hilti_core.proofs.Simulates.{simulates_fed, simulates_goes, simulates_begins, simulates_home, the_rest, picks_head, same_done}

-- the machine and the core are tied: they compare, workers and threads agree, and the counts do
pub record Tied (effect : Effect) (bound : ℕ) (m : Machine) (c : Core) : Type 0 where
  pub compares : Compares effect m c
  pub seats : HasSeats c.thread c.out
  pub balanced : Balanced effect bound m c

-- the machine went on by the calls that the core started
pub record GoesAlong (effect : Effect) (bound : ℕ) (m n : Machine) (c d : Core) (new : List Start) : Type 0 where
  pub runs : run_from effect (map pick_of new) (Some m) ≡ Some n
  pub started : d.started ≡ c.started ++ new
  pub tied : Tied effect bound n d

-- a bound above all threads that are taken
abbrev pub event_bound : Event → ℕ
event_bound Feed = 0
event_bound (Take worker thread) = suc thread.n
event_bound (Put worker) = 0

abbrev pub bound_of : List Event → ℕ
bound_of [] = 0
bound_of (event ∷ more) = event_bound event + bound_of more

pub run_from-append : (effect : Effect) (xs ys : List Pick) (o : Option Machine) → run_from effect (xs ++ ys) o ≡ run_from effect ys (run_from effect xs o)
run_from-append effect [] ys None = refl
run_from-append effect [] ys (Some m) = refl
run_from-append effect (x ∷ xs) [] None = refl
run_from-append effect (x ∷ xs) (y ∷ ys) None = refl
run_from-append effect (x ∷ xs) ys (Some m) = run_from-append effect xs ys (pick_next effect x m)

pub one_step : (effect : Effect) (limit bound : ℕ) (m : Machine) (c d : Core) (event : Event) → event_bound event ≤ bound → Moves effect limit c d event → Tied effect bound m c →
    (n : Machine) × (new : List Start) × GoesAlong effect bound m n c d new
one_step effect limit bound m c d event low move tied = go event low move
  where
    still : (e : Core) → d ≡ e → Moves effect limit c d event → e.started ≡ c.started → Compares effect m e → Balanced effect bound m e → (n : Machine) × (new : List Start) × GoesAlong effect bound m n c d new
    still e is move started compares balanced = (
      m,
      [],
      record {
        runs = refl;
        started = ap (λ (x : Core). x.started) is ∙ (started ∙ sym (append-nil c.started));
        tied = record {
          compares = subst (Compares effect m) (sym is) compares;
          seats = seats_step effect limit c d event move tied.seats;
          balanced = subst (Balanced effect bound m) (sym is) balanced;
        };
      },
    )

    go : (event : Event) → event_bound event ≤ bound → Moves effect limit c d event → (n : Machine) × (new : List Start) × GoesAlong effect bound m n c d new
    go Feed low (Fed call rest is) = (
      m,
      [],
      record {
        runs = refl;
        started = ap (λ (x : Core). x.started) is.gives ∙ sym (append-nil c.started);
        tied = record {
          compares = subst (Compares effect m) (sym is.gives) (simulates_fed effect m c tied.compares call rest is.unfed);
          seats = seats_step effect limit c d Feed (Fed call rest is) tied.seats;
          balanced = subst (Balanced effect bound m) (sym is.gives) tied.balanced;
        };
      },
    )
    go (Take w x) low (Goes worker thread running is) = (
      m,
      [],
      record {
        runs = refl;
        started = ap (λ (x : Core). x.started) is.gives ∙ sym (append-nil c.started);
        tied = record {
          compares = subst (Compares effect m) (sym is.gives) (simulates_goes effect m c tied.compares worker thread.n);
          seats = seats_step effect limit c d (Take worker thread) (Goes worker thread running is) tied.seats;
          balanced = subst (Balanced effect bound m) (sym is.gives) (balanced_goes effect bound m c tied.compares tied.balanced worker thread.n (omega arith) is.home);
        };
      },
    )
    go (Take w x) low (Starts worker thread head rest is) =
        let pick : Pick = record { sender = head.sender; receiver = thread.n } in
        let left = the_rest effect m c tied.compares worker thread.n head rest is.runs is.inbox in
        let n : Machine = after_message effect pick head.message left m in
        let new : Start = record { sender = head.sender; receiver = thread.n; message = head.message; sent = (c.thread thread.n).sent } in (
          n,
          new ∷ [],
          record {
            runs = ap (run_from effect []) (picks_head effect m c tied.compares worker thread.n head rest is.runs is.inbox);
            started = ap (λ (x : Core). x.started) is.gives;
            tied = record {
              compares = subst (Compares effect n) (sym is.gives) (simulates_begins effect m c tied.compares worker thread.n head rest is.runs is.inbox);
              seats = seats_step effect limit c d (Take worker thread) (Starts worker thread head rest is) tied.seats;
              balanced = subst (Balanced effect bound n) (sym is.gives) (balanced_begins effect bound m c tied.compares tied.balanced worker thread.n head rest is.runs is.inbox (omega arith) is.home);
            };
          },
        )
    go (Put w) low (Home worker r running segment rest is) = (
      m,
      [],
      record {
        runs = refl;
        started = ap (λ (x : Core). x.started) is.gives ∙ sym (append-nil c.started);
        tied = record {
          compares = subst (Compares effect m) (sym is.gives) (simulates_home effect m c tied.compares worker r running segment rest is.runs is.left);
          seats = seats_step effect limit c d (Put worker) (Home worker r running segment rest is) tied.seats;
          balanced = subst (Balanced effect bound m) (sym is.gives) (balanced_home effect bound m c tied.compares tied.balanced worker r running segment rest is.runs is.left (tied.seats.seated worker r is.has));
        };
      },
    )

pub all_steps : (effect : Effect) (limit bound : ℕ) (journal : List Event) (m : Machine) (c d : Core) → bound_of journal ≤ bound → play effect limit journal (Some c) ≡ Some d → Tied effect bound m c →
    (n : Machine) × (new : List Start) × GoesAlong effect bound m n c d new
all_steps effect limit bound [] m c d low e tied =
    let is : d ≡ c = cc in
    (m, [], record { runs = refl; started = ap (λ (x : Core). x.started) is ∙ sym (append-nil c.started); tied = subst (Tied effect bound m) (sym is) tied })
all_steps effect limit bound (event ∷ more) m c d low e tied = go (λ x y l h t. all_steps effect limit bound more x y d l h t) (step effect limit event c) refl e
  where
    go : ((x : Machine) (y : Core) → bound_of more ≤ bound → play effect limit more (Some y) ≡ Some d → Tied effect bound x y → (n : Machine) × (new : List Start) × GoesAlong effect bound x n y d new) →
        (o : Option Core) → step effect limit event c ≡ o → play effect limit more o ≡ Some d → (n : Machine) × (new : List Start) × GoesAlong effect bound m n c d new
    go again None is h = absurd (nowhere more h)
      where
        nowhere : (events : List Event) → play effect limit events None ≡ Some d → ⊥
        nowhere [] x = cc
        nowhere (y ∷ ys) x = cc
    go again (Some b) is h =
        let first = one_step effect limit bound m c b event (omega arith) (moves effect limit event c b is) tied in
        let then = again first.0 b (omega arith) h first.2.tied in (
          then.0,
          first.1 ++ then.1,
          record {
            runs = ap (λ l. run_from effect l (Some m)) (map-append pick_of first.1 then.1)
                ∙ (run_from-append effect (map pick_of first.1) (map pick_of then.1) (Some m) ∙ (ap (run_from effect (map pick_of then.1)) first.2.runs ∙ then.2.runs));
            started = then.2.started ∙ (ap (λ l. l ++ then.1) first.2.started ∙ append_assoc c.started first.1 then.1);
            tied = then.2.tied;
          },
        )

pub tied_first : (effect : Effect) (bound : ℕ) (calls : List Call) → Tied effect bound (machine calls) (core_of_none calls)
tied_first effect bound calls = record {
  compares = record {
    threads = λ r. record { calls = refl; log = refl; sent = refl };
    channels = λ from to. refl;
    capture = λ to. refl;
    started = refl;
  };
  seats = seats_none calls;
  balanced = refl;
}

pub call_atomic : (effect : Effect) (calls : List Call) (limit : ℕ) (journal : List Event) → IsCallAtomic effect calls limit journal
call_atomic effect calls limit journal c e =
    let bound = bound_of journal in
    let all = all_steps effect limit bound journal (machine calls) (core_of_none calls) c (omega arith) e (tied_first effect bound calls) in
    let m = all.0 in
    let tied = all.2.tied in
    let picks : starts effect calls limit journal ≡ map pick_of all.1 = ap picks_of e ∙ ap (map pick_of) all.2.started in (
      m,
      ap (λ l. run effect calls l) picks ∙ all.2.runs,
      record {
        compares = tied.compares;
        starts = ap (λ o. length (picks_of o)) e ∙ length-map c.started pick_of;
        threads = λ still r. same_done effect r (m.thread r) (c.thread r) (tied.compares.threads r) (still r);
        segments = λ still. balanced_still effect bound m c tied.compares tied.balanced tied.seats still;
        complete = λ still waits from to. empty m c tied.compares still waits from to;
      },
    )
  where
    empty : (m : Machine) (c : Core) → Compares effect m c → NothingRuns c → NothingWaits c → IsComplete m
    empty m c h still waits Capture to = h.capture to ∙ (ap (λ l. from_sender Capture l ++ to_feed c to) (waits.inboxes to) ∙ (ap (λ l. cond (eqb to 0) (messages c.fed l) []) waits.unfed ∙ nothing (eqb to 0)))
      where
        none : List Message
        none = []

        nothing : (b : Bool) → cond b none none ≡ none
        nothing true = refl
        nothing false = refl
    empty m c h still waits (Thread from) to = h.channels from to ∙ (ap (λ l. from_sender (Thread from) l ++ to_come effect from (c.thread from) to) (waits.inboxes to)
        ∙ ap (λ o. to_come effect from (record (c.thread from) { running = o }) to) (still from))
