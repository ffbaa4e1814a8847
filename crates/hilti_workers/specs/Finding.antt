-- What a worker that asks for work finds, by the entries that it then has seen.
use Rattle.std.specs.Prelude.{ℕ, List, [], ◌∷◌, length, Result, Ok, Err, ◌≡◌, ◌⊎◌}
use Rattle.std.specs.List.{Contains}
use Rattle.hilti_tree.specs.declared.call.Call.{Call}
use Rattle.hilti_core.specs.Sending.{Effect}
use Rattle.hilti_core.specs.Core.{Core}
use Rattle.hilti_core.specs.Body.{Runs}
use Rattle.hilti_pool.specs.declared.entries.Entry.{Entry}
use Rattle.hilti_pool.specs.declared.entries.Entry.TheVariants.{FeedEnd, Take, Put}
use Rattle.hilti_pool.specs.declared.entries.Subject.{Subject}
use Rattle.hilti_pool.specs.declared.job.Taken.{Taken}
use Rattle.hilti_pool.specs.declared.job.Taken.TheVariants.{Broken, Job, Nothing, Limit, Finished}
use Rattle.hilti_pool.specs.Readiness.{NoneReady, SomeOut, NoneOut, SomeMail, NoMail}
use Rattle.hilti_pool.specs.Work.{IsJob}
use Rattle.hilti_workers.specs.Entries.{Shows}

-- no thread is ready, and one is out, or nothing waits and the feed goes on
pub record IsIdle (limit : ℕ) (entries : List Entry) (c : Core) : Type 0 where
  pub none_ready : NoneReady limit c
  pub may_come : SomeOut c ⊎ (NoMail c × ¬ Contains entries FeedEnd)

-- no thread is ready or out, and the feed ended or a call waits, which it does only where as many as
-- may started
pub record IsOver (limit : ℕ) (entries : List Entry) (c : Core) : Type 0 where
  pub none_ready : NoneReady limit c
  pub none_out : NoneOut c
  pub no_more : Contains entries FeedEnd ⊎ SomeMail c
  pub full : SomeMail c → length c.started ≡ limit

module _ {D : Type 0} (effect : D → Effect) (subject : Subject D) (entries : List Entry) where
  abbrev pub ShowsIdle : Type 0
  ShowsIdle = Shows effect subject entries (IsIdle subject.limit entries)

  abbrev pub ShowsOver : Type 0
  ShowsOver = Shows effect subject entries (IsOver subject.limit entries)

-- what an answer tells of the entries
abbrev pub Found : {B V D : Type 0} → (D → Effect) → (D → Call → Type 0) → (D → V → Runs)
    → Subject D → ℕ → List Entry → Taken B V D → Type 0
Found effect sound runs subject worker entries Broken = Unit {0}
Found effect sound runs subject worker entries (Job job) = Shows effect subject entries
    (IsJob (sound subject.body) (runs subject.body) worker job.thread.n job.vt job.next)
Found effect sound runs subject worker entries Nothing = ShowsIdle effect subject entries
Found effect sound runs subject worker entries Limit = ShowsOver effect subject entries
Found effect sound runs subject worker entries Finished = ShowsOver effect subject entries

-- the entry that an answer makes: a job's take
abbrev pub entries_of_answer : {B V D : Type 0} → ℕ → Taken B V D → List Entry
entries_of_answer worker Broken = []
entries_of_answer worker (Job job) = Take worker job.thread ∷ []
entries_of_answer worker Nothing = []
entries_of_answer worker Limit = []
entries_of_answer worker Finished = []

-- the entries that asking for work made
abbrev pub entries_of_take : {B V D E : Type 0} → ℕ → Result (Taken B V D) E → List Entry
entries_of_take worker (Ok taken) = entries_of_answer worker taken
entries_of_take worker (Err error) = []

-- the entries that putting a thread back made
abbrev pub entries_of_put : {A E : Type 0} → ℕ → Result A E → List Entry
entries_of_put worker (Ok done) = Put worker ∷ []
entries_of_put worker (Err error) = []
