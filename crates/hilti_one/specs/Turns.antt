-- A pool before and between the turns of its only worker.
use Rattle.std.specs.Prelude.{ℕ, false, List, [], ◌++◌, map, Option, Some, None, ◌≡◌}
use Rattle.hilti_tree.specs.declared.call.Call.{Call}
use Rattle.hilti_core.specs.declared.event.Event.TheVariants.{Feed}
use Rattle.hilti_core.specs.Sending.{Effect}
use Rattle.hilti_core.specs.Core.{Core}
use Rattle.hilti_core.specs.Schedule.{ArrivedFirst, OneByOne, IsOver}
use Rattle.hilti_pool.specs.Readiness.{IsReady}
use Rattle.hilti_pool.specs.State.{PoolState, InCore}

-- a core in the order of one worker, where all calls were fed and worker 0 has no thread
pub record IsInOrder (effect : Effect) (calls : List Call) (limit : ℕ) (c : Core) : Type 0 where
  pub order : OneByOne effect calls limit c
  pub unfed : c.unfed ≡ []
  pub free : c.out 0 ≡ None

-- whose turn is next: the thread that arrived first, if it is ready; nobody's only at the end
abbrev pub HasTurn : ℕ → Core → Option ℕ → Type 0
HasTurn limit c None = IsOver limit c
HasTurn limit c (Some r) = ArrivedFirst c r × IsReady limit c r

module _ {D : Type 0} where
  -- a pool between turns: it wasn't given up, and its core is in order
  pub record IsBetween (effect : D → Effect) (pool : PoolState D) : Type 0 where
    pub goes_on : pool.given_up ≡ false
    pub turns : InCore effect pool (IsInOrder (effect pool.about) pool.fed pool.limit)

  -- a pool of the same body, limit and calls
  pub record IsSameRun (old new : PoolState D) : Type 0 where
    pub about : new.about ≡ old.about
    pub limit : new.limit ≡ old.limit
    pub fed : new.fed ≡ old.fed

  -- these calls were fed, one after another
  pub record TakesCalls (calls : List Call) (old new : PoolState D) : Type 0 where
    pub about : new.about ≡ old.about
    pub limit : new.limit ≡ old.limit
    pub fed : new.fed ≡ old.fed ++ calls
    pub journal : new.journal ≡ old.journal ++ map (λ _. Feed) calls
    pub given_up : new.given_up ≡ old.given_up
