-- A pool goes on by turns to its end.
use Rattle.std.proofs.Common.{◌≡◌, ℕ, ◌<◌, Bool, true, false, Some, None, sym, ◌∙◌, subst, refl, ◌↔◌, IsTrue}
use Rattle.std.specs.List.{All}
use Rattle.hilti_base.specs.declared.names.ThreadId.{ThreadId}
use Rattle.hilti_tree.specs.declared.call.Call.{Call}
use Rattle.hilti_core.specs.Sending.{Effect}
use Rattle.hilti_core.specs.Body.{HasSegments}
use Rattle.hilti_core.specs.Core.{Core}
use Rattle.hilti_pool.specs.Readiness.{IsReady, IsFirst}
use Rattle.hilti_pool.specs.State.{PoolState, InCore, core_of, after_take, after_put}
use Rattle.hilti_one.specs.Turns.{HasTurn, IsBetween, IsSameRun}
use Rattle.hilti_one.proofs.Turns.{turn_of_ready, turn_of_waiting, turn}
use Rattle.hilti_one.proofs.Ends.{turns_left, fewer_left}

some_is : {A : Type 0} (x y : A) → Some x ≡ Some y → x ≡ y
some_is x y e = cc

module _ {D : Type 0} (effect : D → Effect) where
  -- what is told of a pool holds in its core
  at_core : (pool : PoolState D) (P : Core → Type 0) (c : Core) → core_of effect pool ≡ Some c → InCore effect pool P → P c
  at_core pool P c is h = subst P (some_is h.core c (sym h.is ∙ is)) h.holds

  pub next_ready : (pool : PoolState D) (r : ℕ) (ready : Bool) → ready ≡ true → IsBetween effect pool → InCore effect pool (λ c. IsFirst c (Some r)) →
      InCore effect pool (λ c. IsTrue ready ↔ IsReady pool.limit c r) → InCore effect pool (λ c. HasTurn pool.limit c (Some r))
  next_ready pool r ready is h first tells =
      let t = h.turns in
      record {
        core = t.core;
        is = t.is;
        holds = turn_of_ready (effect pool.about) pool.fed pool.limit t.core t.holds r ready is (at_core pool (λ c. IsTrue ready ↔ IsReady pool.limit c r) t.core t.is tells)
            (at_core pool (λ c. IsFirst c (Some r)) t.core t.is first);
      }

  pub next_waits : (pool : PoolState D) (r : ℕ) (ready : Bool) → ready ≡ false → IsBetween effect pool → InCore effect pool (λ c. IsFirst c (Some r)) →
      InCore effect pool (λ c. IsTrue ready ↔ IsReady pool.limit c r) → InCore effect pool (λ c. HasTurn pool.limit c None)
  next_waits pool r ready is h first tells =
      let t = h.turns in
      record {
        core = t.core;
        is = t.is;
        holds = turn_of_waiting (effect pool.about) pool.fed pool.limit t.core t.holds r ready is (at_core pool (λ c. IsTrue ready ↔ IsReady pool.limit c r) t.core t.is tells)
            (at_core pool (λ c. IsFirst c (Some r)) t.core t.is first);
      }

  -- a turn goes on to the next, and fewer are left
  pub record Progress (old new : PoolState D) : Type 0 where
    pub between : IsBetween effect new
    pub same : IsSameRun old new
    pub fewer : turns_left (effect new.about) new.fed new.limit (core_of effect new) < turns_left (effect old.about) old.fed old.limit (core_of effect old)

  pub goes_on : (sound : D → Call → Type 0) → ((about : D) → HasSegments (effect about) (sound about)) → (old new : PoolState D) (thread : ThreadId) → All (sound old.about) old.fed →
      IsBetween effect old → InCore effect old (λ c. HasTurn old.limit c (Some thread.n)) → new ≡ after_put 0 (after_take 0 thread old) → Progress old new
  goes_on sound segments old new thread all h first is =
      let e = effect old.about in
      let t = h.turns in
      let has = at_core old (λ c. HasTurn old.limit c (Some thread.n)) t.core t.is first in
      let turned = turn e (sound old.about) (segments old.about) old.fed old.limit all old.journal t.core thread t.is t.holds has in
      let less = fewer_left e (sound old.about) (segments old.about) old.fed old.limit all _ t.core turned.last turned.leads turned.holds.order turned.takes in
      let left = turns_left e old.fed old.limit in
      subst (Progress old) (sym is) (record {
        between = record { goes_on = h.goes_on; turns = record { core = turned.last; is = turned.leads; holds = turned.holds } };
        same = record { about = refl; limit = refl; fed = refl };
        fewer = subst (λ o. left o < left (core_of effect old)) (sym turned.leads) (subst (λ o. left (Some turned.last) < left o) (sym t.is) less);
      })

  pub same_on : (first old new : PoolState D) → IsSameRun first old → IsSameRun old new → IsSameRun first new
  same_on first old new a b = record { about = b.about ∙ a.about; limit = b.limit ∙ a.limit; fed = b.fed ∙ a.fed }

  pub still_sound : (sound : D → Call → Type 0) (first old : PoolState D) → IsSameRun first old → All (sound first.about) first.fed → All (sound old.about) old.fed
  still_sound sound first old a all = subst (λ d. All (sound d) old.fed) (sym a.about) (subst (All (sound first.about)) (sym a.fed) all)
