-- What one worker that is alone over a pool leaves.
use Rattle.std.specs.Prelude.{ℕ, List}
use Rattle.hilti_tree.specs.declared.call.Call.{Call}
use Rattle.hilti_core.specs.Sending.{Effect}
use Rattle.hilti_core.specs.Core.{Core}
use Rattle.hilti_core.specs.Schedule.{OneByOne, IsOver}

-- a core in the order of one worker, at its end
pub record RanAlone (effect : Effect) (calls : List Call) (limit : ℕ) (c : Core) : Type 0 where
  pub order : OneByOne effect calls limit c
  pub over : IsOver limit c
