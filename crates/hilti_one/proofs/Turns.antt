-- Whose turn is next, and what a turn leaves.
use Rattle.std.proofs.Common.{◌≡◌, ℕ, ◌<◌, ◌≤◌, suc, Bool, true, false, List, [], ◌∷◌, ◌++◌, length, Option, Some, None, ap, sym, ◌∙◌, refl, arith, ltb, inl, inr, ◌↔◌, IsTrue}
use Rattle.std.specs.List.{All}
use Rattle.std.proofs.lemmas.Bool.Decides.{nat_tests}
use Rattle.hilti_base.specs.declared.names.ThreadId.{ThreadId}
use Rattle.hilti_tree.specs.declared.call.Call.{Call}
use Rattle.hilti_core.specs.declared.event.Event.{Event}
use Rattle.hilti_core.specs.declared.event.Event.TheVariants.{Feed, Take, Put}
use Rattle.hilti_core.specs.Sending.{Effect}
use Rattle.hilti_core.specs.Body.{HasSegments}
use Rattle.hilti_core.specs.Core.{Core, goes_on, begins, step, play, core}
use Rattle.hilti_core.specs.Schedule.{IsSuspended, NoneSuspended, ArrivedFirst, OneByOne.Turn}
use Rattle.hilti_core.proofs.Moves.{Moves, Moves.Home, moves}
use Rattle.hilti_core.proofs.Journals.{core_next}
use Rattle.hilti_core.proofs.UnderWay.{under_way}
use Rattle.hilti_core.proofs.Schedule.{Between, between, nothing_runs, put_here}
use Rattle.hilti_pool.specs.Readiness.{IsReady, IsFirst, IsSuspended as RestsInPool, NoneSuspended as NoneRests}
use Rattle.hilti_pool.proofs.Plays.{goes, starts}
use Rattle.hilti_one.specs.Turns.{IsInOrder, HasTurn}

-- what a pool calls suspended and first is so in the core's order
suspended : (c : Core) (r : ℕ) → RestsInPool c r → IsSuspended c r
suspended c r s = record { running = s.1.0; runs = s.1.1; home = s.0 }

rests : (c : Core) (r : ℕ) → IsSuspended c r → RestsInPool c r
rests c r s = (s.home, (s.running, s.runs))

none_suspended : (c : Core) → NoneRests c → NoneSuspended c
none_suspended c none r s = none r (rests c r s)

arrived : (c : Core) (r : ℕ) → IsFirst c (Some r) → ArrivedFirst c r
arrived c r (inl first) = inl (record { suspended = suspended c r first.suspended; least = λ x s. first.least x (rests c x s) })
arrived c r (inr first) = inr (none_suspended c first.0, record { head = first.1.head; rest = first.1.rest; inbox = first.1.inbox; first = first.1.least })

-- between turns a thread is at home
at_home : (effect : Effect) (calls : List Call) (c : Core) → Between effect calls c → (r : ℕ) → (c.thread r).worker ≡ None
at_home effect calls c h r = go (c.thread r).worker refl
  where
    go : (worker : Option ℕ) → (c.thread r).worker ≡ worker → (c.thread r).worker ≡ None
    go None e = e
    go (Some worker) e = absurd (let k : Some r ≡ None = sym (h.seats.sits r worker e) ∙ h.home worker in cc)

module _ (effect : Effect) (calls : List Call) (limit : ℕ) (c : Core) (h : IsInOrder effect calls limit c) where
  -- whoever arrived first is ready
  pub turn_of_ready : (r : ℕ) (ready : Bool) → ready ≡ true → (IsTrue ready ↔ IsReady limit c r) → IsFirst c (Some r) → HasTurn limit c (Some r)
  turn_of_ready r false is tells first = absurd cc
  turn_of_ready r true is tells first = (arrived c r first, tells.0 refl)

  -- or it isn't: it waits for a call that may not start
  pub turn_of_waiting : (r : ℕ) (ready : Bool) → ready ≡ false → (IsTrue ready ↔ IsReady limit c r) → IsFirst c (Some r) → HasTurn limit c None
  turn_of_waiting r true is tells first = absurd cc
  turn_of_waiting r false is tells (inl first) = absurd (let k : false ≡ true = tells.1 (inl first.suspended) in cc)
  turn_of_waiting r false is tells (inr first) = record { unfed = h.unfed; suspended = none_suspended c first.0; no_more = inr (full (ltb (length c.started) limit) refl) }
    where
      waits : ¬ (c.inbox r ≡ [])
      waits e = let k : first.1.head ∷ first.1.rest ≡ [] = sym first.1.inbox ∙ e in cc

      full : (may : Bool) → ltb (length c.started) limit ≡ may → limit ≤ length c.started
      full true e =
          let room : length c.started < limit = grind (arith, nat_tests) in
          absurd (let k : false ≡ true = tells.1 (inr (at_home effect calls c (between effect calls limit c h.order) r, waits, room)) in cc)
      full false e = grind (arith, nat_tests)

-- the worker has the thread
record Took (effect : Effect) (limit : ℕ) (c : Core) (thread : ThreadId) : Type 0 where
  now_is : Core
  gives : step effect limit (Take 0 thread) c ≡ Some now_is
  has : now_is.out 0 ≡ Some thread.n
  takes : now_is.takes ≡ suc c.takes
  unfed : now_is.unfed ≡ c.unfed

took : (effect : Effect) (calls : List Call) (limit : ℕ) (c : Core) (thread : ThreadId) → IsInOrder effect calls limit c → ArrivedFirst c thread.n → IsReady limit c thread.n → Took effect limit c thread
took effect calls limit c thread h (inl least) ready = record {
  now_is = goes_on 0 thread.n c;
  gives = goes effect limit 0 thread c least.suspended.running h.free least.suspended.home least.suspended.runs;
  has = put_here c.out 0 (Some thread.n);
  takes = refl;
  unfed = refl;
}
took effect calls limit c thread h (inr first) ready =
    let b = between effect calls limit c h.order in
    let posted = first.1 in
    record {
      now_is = begins 0 thread.n posted.head posted.rest c;
      gives = starts effect limit 0 thread c posted.head posted.rest h.free (at_home effect calls c b thread.n) (nothing_runs c b.seats b.home first.0 thread.n) posted.inbox (few ready);
      has = put_here c.out 0 (Some thread.n);
      takes = refl;
      unfed = refl;
    }
  where
    few : IsReady limit c thread.n → length c.started < limit
    few (inl s) = absurd (first.0 thread.n (suspended c thread.n s))
    few (inr waits) = waits.2

-- a put takes and feeds nothing
put_keeps : (effect : Effect) (limit : ℕ) (b d : Core) (event : Event) (worker : ℕ) → event ≡ Put worker → Moves effect limit b d event → (d.takes ≡ b.takes) × (d.unfed ≡ b.unfed)
put_keeps effect limit b d Feed worker e move = absurd cc
put_keeps effect limit b d (Take w x) worker e move = absurd cc
put_keeps effect limit b d (Put w) worker e (Home v r running segment rest is) = (ap (λ x. x.takes) is.gives, ap (λ x. x.unfed) is.gives)

-- the core behind a turn
pub record Turned (effect : Effect) (calls : List Call) (limit : ℕ) (journal : List Event) (c : Core) (thread : ThreadId) : Type 0 where
  pub last : Core
  pub leads : core effect calls limit ((journal ++ Take 0 thread ∷ []) ++ Put 0 ∷ []) ≡ Some last
  pub holds : IsInOrder effect calls limit last
  pub takes : last.takes ≡ suc c.takes

pub turn : (effect : Effect) (sound : Call → Type 0) → HasSegments effect sound → (calls : List Call) (limit : ℕ) → All sound calls → (journal : List Event) (c : Core) (thread : ThreadId) →
    core effect calls limit journal ≡ Some c → IsInOrder effect calls limit c → HasTurn limit c (Some thread.n) → Turned effect calls limit journal c thread
turn effect sound segments calls limit all journal c thread e h first =
    let t = took effect calls limit c thread h first.0 first.1 in
    let there = journal ++ Take 0 thread ∷ [] in
    let legal : core effect calls limit there ≡ Some t.now_is = core_next effect calls limit journal (Take 0 thread) c e ∙ t.gives in
    let put = (under_way effect sound segments calls limit there t.now_is all legal).puts 0 thread.n t.has in
    let d : Core = put.0 in
    let kept = put_keeps effect limit t.now_is d (Put 0) 0 refl (moves effect limit (Put 0) t.now_is d put.1) in
    let plays : play effect limit (Take 0 thread ∷ Put 0 ∷ []) (Some c) ≡ Some d = ap (play effect limit (Put 0 ∷ [])) t.gives ∙ ap (play effect limit []) put.1 in
    let way = Turn c d 0 thread h.order h.unfed first.0 plays in
    record {
      last = d;
      leads = core_next effect calls limit there (Put 0) t.now_is legal ∙ put.1;
      holds = record { order = way; unfed = kept.1 ∙ (t.unfed ∙ h.unfed); free = (between effect calls limit d way).home 0 };
      takes = kept.0 ∙ t.takes;
    }
