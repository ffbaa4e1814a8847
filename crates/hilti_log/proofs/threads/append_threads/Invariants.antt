use Rattle.std.proofs.Common.{ℕ, List, ◌≡◌, ◌++◌, take, Some}
use Rattle.hilti_core.specs.Core.{Core}
use Rattle.hilti_pool.specs.State.{core_of}
use Rattle.hilti_pool.specs.Roll.{IsRoll}
use Rattle.hilti_log.specs.Reports.{threads_text}
use Rattle.hilti_log.proofs.threads.append_threads.Given as goal

-- what is written so far are the texts of so many threads of those that ran
abbrev pub invariant-loop-place : goal.invariant-loop-place
invariant-loop-place g l = (c : Core) (threads : List ℕ)
    → core_of g.B.Body.effect l.pool ≡ Some c
    → IsRoll c.started threads
    → l.out ≡ l.initial.out ++ threads_text c (take l.place threads)
