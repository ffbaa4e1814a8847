-- A thread between instructions, and what its calls leave behind on their way.
use Rattle.std.specs.Prelude.{ℕ, Bool, List, Option}
use Rattle.hilti_core.specs.declared.pieces.Item.{Item}
use Rattle.hilti_core.specs.declared.pieces.End.{End}
use Rattle.hilti_values.specs.declared.value.Value.{Value}
use Rattle.hilti_heap.specs.Stores.{Store}
use Rattle.hilti_stack.specs.declared.head.Position.{Position}
use Rattle.hilti_stack.specs.Frames.{Frame}
use Rattle.hilti_calls.specs.Calls.{Language, Action, Back, Outcome}
use Rattle.hilti_calls.specs.Parts.{Mark, Part}
use Rattle.hilti_effects.specs.declared.ending.Ending.{Ending}

-- a thread: its number, its globals, the store of its objects, and whether it began a call before
pub record State : Type 0 where
  pub number : ℕ
  pub globals : List Value
  pub store : Store
  pub ran : Bool

-- how a segment of a call closes: how it ends, the thread then, and the next instruction where the
-- call is suspended
pub record Close : Type 0 where
  pub «end» : End
  pub state : State
  pub place : Option Position

abbrev pub Does : Type 0
Does = Action Frame State Ending (Mark Item Close)

abbrev pub GoesBack : Type 0
GoesBack = Back Frame State Ending

abbrev pub Meaning : Type 0
Meaning = Language Frame State Ending (Mark Item Close)

abbrev pub Ends : Type 0
Ends = Outcome State Ending (Mark Item Close)

-- what a call does between two suspensions: its items, and how it closes
abbrev pub Parts : Type 0
Parts = List (Part Item Close)
