-- Journals one after the other, and threads that stay out.
use Rattle.std.specs.Prelude.{ℕ, List, ◌++◌, Some, ◌≡◌}
use Rattle.std.specs.List.{All}
use Rattle.hilti_tree.specs.declared.call.Call.{Call}
use Rattle.hilti_core.specs.declared.event.Event.{Event}
use Rattle.hilti_core.specs.declared.event.Event.TheVariants.{Feed, Take, Put}
use Rattle.hilti_core.specs.Sending.{Effect}
use Rattle.hilti_core.specs.Core.{Core, play, core, LeadsTo}

-- the core of one journal and another behind it is that of the other, run from the core of the one
abbrev pub RunsOn : Effect → List Call → ℕ → List Event → Type 0
RunsOn effect calls limit first = (second : List Event) →
    core effect calls limit (first ++ second) ≡
    play effect limit second (core effect calls limit first)

-- an event that isn't a put of this worker
abbrev pub IsNoPut : ℕ → Event → Type 0
IsNoPut worker Feed = Unit {0}
IsNoPut worker (Take other thread) = Unit {0}
IsNoPut worker (Put other) = ¬ (other ≡ worker)

-- the worker has the thread still, and the thread is as it was
pub record IsStillOut (worker r : ℕ) (c d : Core) : Type 0 where
  pub has : d.out worker ≡ Some r
  pub same : d.thread r ≡ c.thread r

-- a thread that is out stays out, unchanged, until its worker's put
abbrev pub StaysOut : Effect → List Call → ℕ → List Event → Type 0
StaysOut effect calls limit first = (second : List Event) (c d : Core) (worker r : ℕ) →
    LeadsTo effect calls limit first c → LeadsTo effect calls limit (first ++ second) d →
    All (IsNoPut worker) second → c.out worker ≡ Some r → IsStillOut worker r c d
