-- What the pool's answers tell of the entries.
use Rattle.std.proofs.Common.{◌≡◌, ℕ, List, [], ◌∷◌, ◌++◌, Some, true, false, refl, sym, subst, inl, inr}
use Rattle.hilti_base.specs.declared.names.ThreadId.{ThreadId}
use Rattle.hilti_tree.specs.declared.call.Call.{Call}
use Rattle.hilti_core.specs.declared.event.Event.TheVariants as events
use Rattle.hilti_core.specs.Sending.{Effect}
use Rattle.hilti_core.specs.Core.{Core}
use Rattle.hilti_core.specs.Body.{Runs}
use Rattle.hilti_pool.specs.declared.job.Job.{Job as JobOf}
use Rattle.hilti_pool.specs.declared.job.Taken.{Taken}
use Rattle.hilti_pool.specs.declared.job.Taken.TheVariants.{Broken, Job, Nothing, Limit, Finished}
use Rattle.hilti_pool.specs.State.{PoolState, InCore, after_take}
use Rattle.hilti_pool.specs.Entries.{AreEntries, entries_from, entries_of, subject_of}
use Rattle.hilti_pool.specs.Taking.{IsAtLimit, IsFinished, HasCause, Changes, IfJob}
use Rattle.hilti_pool.specs.Taking as taking
use Rattle.hilti_pool.specs.Work.{IsJob}
use Rattle.hilti_pool.specs.Standing.{IsStanding}
use Rattle.hilti_pool.proofs.Adding.{other_entries}
use Rattle.hilti_workers.specs.Finding.{IsIdle, IsOver, ShowsIdle, ShowsOver, Found}
use Rattle.hilti_workers.proofs.Listed.{open_feed, ended_feed}
use Rattle.hilti_workers.proofs.Standing.{shown}

module _ {D : Type 0} (effect : D → Effect) (pool : PoolState D) where
  idle_of : (c : Core) → taking.IsIdle pool.limit pool.ended c → IsIdle pool.limit (entries_of pool) c
  idle_of c idle = record {
    none_ready = idle.none_ready;
    may_come = elim idle.may_come [ inl out ↦ inl out | inr none ↦ inr (none.0, open_feed pool.fed pool.journal pool.ended none.1) ];
  }

  limit_of : (c : Core) → IsAtLimit pool.limit c → IsOver pool.limit (entries_of pool) c
  limit_of c at = record { none_ready = at.none_ready; none_out = at.none_out; no_more = inr at.waits; full = λ _. at.all_started }

  finished_of : (c : Core) → IsFinished pool.limit pool.ended c → IsOver pool.limit (entries_of pool) c
  finished_of c at = record { none_ready = at.none_ready; none_out = at.none_out; no_more = inl (ended_feed pool.ended (entries_from pool.fed pool.journal) at.fed); full = λ mail. absurd (mail.1 (at.none_waits mail.0)) }

  -- the pool with a take more is legal too
  standing_after : (worker : ℕ) (new : PoolState D) (P : Core → Type 0) (job : ThreadId) → IsStanding effect pool → new ≡ after_take worker job pool → InCore effect new P → IsStanding effect new
  standing_after worker new P job stands is here = record {
    at = here.core;
    legal = here.is;
    entries = subst (λ p. AreEntries p.fed p.journal p.ended) (sym is) (other_entries pool.fed pool.journal pool.ended stands.entries (events.Take worker job) refl);
  }

  pub found_in : {B V : Type 0} (sound : D → Call → Type 0) (runs : D → V → Runs) (worker : ℕ) (new : PoolState D) (taken : Taken B V D) →
      IsStanding effect pool → InCore effect pool (λ c. HasCause pool c taken) → Changes worker taken pool new →
      IfJob taken (λ job. InCore effect new (IsJob (sound new.about) (runs new.about) worker job.thread.n job.vt job.next)) →
      Found effect sound runs (subject_of new) worker (entries_of new) taken
  found_in sound runs worker new Broken stands cause changes job_is = tt
  found_in sound runs worker new (Job job) stands cause changes job_is =
      shown effect new (IsJob (sound new.about) (runs new.about) worker job.thread.n job.vt job.next)
      (standing_after worker new (IsJob (sound new.about) (runs new.about) worker job.thread.n job.vt job.next) job.thread stands changes job_is) job_is
  found_in sound runs worker new Nothing stands cause changes job_is =
      subst (λ p. ShowsIdle effect (subject_of p) (entries_of p)) (sym changes)
      (shown effect pool (IsIdle pool.limit (entries_of pool)) stands (record { core = cause.core; is = cause.is; holds = idle_of cause.core cause.holds.1 }))
  found_in sound runs worker new Limit stands cause changes job_is =
      subst (λ p. ShowsOver effect (subject_of p) (entries_of p)) (sym changes)
      (shown effect pool (IsOver pool.limit (entries_of pool)) stands (record { core = cause.core; is = cause.is; holds = limit_of cause.core cause.holds.1 }))
  found_in sound runs worker new Finished stands cause changes job_is =
      subst (λ p. ShowsOver effect (subject_of p) (entries_of p)) (sym changes)
      (shown effect pool (IsOver pool.limit (entries_of pool)) stands (record { core = cause.core; is = cause.is; holds = finished_of cause.core cause.holds.1 }))

  -- the pool stays legal, whatever the answer
  pub still_stands : {B V : Type 0} (worker : ℕ) (new : PoolState D) (taken : Taken B V D) (P : JobOf B V D → Core → Type 0) → IsStanding effect pool → Changes worker taken pool new →
      IfJob taken (λ job. InCore effect new (P job)) → IsStanding effect new
  still_stands worker new Broken P stands changes job_is = subst (IsStanding effect) (sym changes) stands
  still_stands worker new (Job job) P stands changes job_is = standing_after worker new (P job) job.thread stands changes job_is
  still_stands worker new Nothing P stands changes job_is = subst (IsStanding effect) (sym changes) stands
  still_stands worker new Limit P stands changes job_is = subst (IsStanding effect) (sym changes) stands
  still_stands worker new Finished P stands changes job_is = subst (IsStanding effect) (sym changes) stands

  pub given_up_stands : (new : PoolState D) → IsStanding effect pool → new ≡ record pool { given_up = true } → IsStanding effect new
  given_up_stands new stands is = subst (IsStanding effect) (sym is) (record { at = stands.at; legal = stands.legal; entries = stands.entries })
