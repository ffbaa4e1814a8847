-- What a worker that asks for work is told, and why.
use Rattle.std.specs.Prelude.{ℕ, true, false, length, Option, None, IsSome, ◌≡◌, ◌⊎◌}
use Rattle.hilti_core.specs.Core.{Core}
use Rattle.hilti_pool.specs.declared.job.Job.{Job as JobOf}
use Rattle.hilti_pool.specs.declared.job.Taken.{Taken}
use Rattle.hilti_pool.specs.declared.job.Taken.TheVariants.{Broken, Job, Nothing, Limit, Finished}
use Rattle.hilti_pool.specs.State.{PoolState, after_take}
use Rattle.hilti_pool.specs.Readiness.{IsReady, NoneReady, SomeOut, NoneOut, SomeMail, NoMail}

-- no thread is ready, and one is out, or nothing waits and more may be fed
pub record IsIdle (limit : ℕ) (ended : Option ℕ) (c : Core) : Type 0 where
  pub none_ready : NoneReady limit c
  pub may_come : SomeOut c ⊎ (NoMail c × (ended ≡ None))

-- no thread is ready or out, and a call waits: as many calls as may started
pub record IsAtLimit (limit : ℕ) (c : Core) : Type 0 where
  pub none_ready : NoneReady limit c
  pub none_out : NoneOut c
  pub waits : SomeMail c
  pub all_started : length c.started ≡ limit

-- no thread is ready or out, nothing waits, and the feed ended
pub record IsFinished (limit : ℕ) (ended : Option ℕ) (c : Core) : Type 0 where
  pub none_ready : NoneReady limit c
  pub none_out : NoneOut c
  pub none_waits : NoMail c
  pub fed : IsSome ended

-- why this answer comes
abbrev pub HasCause : {B V D : Type 0} → PoolState D → Core → Taken B V D → Type 0
HasCause pool c Broken = pool.given_up ≡ true
HasCause pool c (Job job) = (pool.given_up ≡ false) × IsReady pool.limit c job.thread.n
HasCause pool c Nothing = (pool.given_up ≡ false) × IsIdle pool.limit pool.ended c
HasCause pool c Limit = (pool.given_up ≡ false) × IsAtLimit pool.limit c
HasCause pool c Finished = (pool.given_up ≡ false) × IsFinished pool.limit pool.ended c

-- what an answer changes: only a job is an event
abbrev pub Changes : {B V D : Type 0} → ℕ → Taken B V D → PoolState D → PoolState D → Type 0
Changes worker Broken old new = new ≡ old
Changes worker (Job job) old new = new ≡ after_take worker job.thread old
Changes worker Nothing old new = new ≡ old
Changes worker Limit old new = new ≡ old
Changes worker Finished old new = new ≡ old

-- this holds of the job that a worker is given, if it is
abbrev pub IfJob : {B V D : Type 0} → Taken B V D → (JobOf B V D → Type 0) → Type 0
IfJob (Job job) P = P job
IfJob Broken P = Unit {0}
IfJob Nothing P = Unit {0}
IfJob Limit P = Unit {0}
IfJob Finished P = Unit {0}
