-- A job that a worker has can be run.
use Rattle.std.proofs.Common.{◌≡◌, ℕ, Option, sym, subst}
use Rattle.hilti_tree.specs.declared.call.Call.{Call}
use Rattle.hilti_core.specs.Body.{Runs}
use Rattle.hilti_core.specs.Core.{Core}
use Rattle.hilti_pool.specs.Work.{CanRun, IsJob}

pub job_runs : {D V : Type 0} (sound : D → Call → Type 0) (runs : D → V → Runs) (about facts : D) (worker r n : ℕ) (vt : Option V) (next : Option Call) (c : Core) → about ≡ facts → n ≡ r →
    IsJob (sound about) (runs about) worker r vt next c → CanRun (sound facts) (runs facts) n vt next
job_runs sound runs about facts worker r n vt next c same is job =
    subst (λ d. CanRun (sound d) (runs d) n vt next) same (subst (λ k. CanRun (sound about) (runs about) k vt next) (sym is) (c.thread r, job.work))
