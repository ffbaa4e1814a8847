-- What the pass that feeds leaves.
use Rattle.std.specs.Prelude.{ℕ, List, [], ◌∷◌, ◌++◌, Bool, true, false, Option, IfSome, Result, Ok}
use Rattle.std.specs.Prelude.{Err, ◌≡◌}
use Rattle.std.specs.List.{All}
use mathlib.Core.List.{IsPrefix}
use Rattle.hilti_tree.specs.declared.call.Call.{Call}
use Rattle.hilti_feeder.specs.Feeding.{CountsFaults}
use Rattle.hilti_pool.specs.declared.entries.Entry.{Entry}
use Rattle.hilti_pool.specs.declared.entries.Entry.TheVariants.{Feed}
use Rattle.hilti_workers.specs.Entries.{calls_in, takes_in, puts_in}

-- the entry that feeding a call made
abbrev pub entries_of_feed : {A E : Type 0} → Call → Result A E → List Entry
entries_of_feed call (Ok done) = Feed call ∷ []
entries_of_feed call (Err error) = []

-- calls that a feeder gave: each passes its test, and they begin what was to come, and are all of it
-- but where a failed read ended the feeder
pub record WereGiven (gives : Call → Type 0) (coming : Option (List Call)) (lost : Bool)
    (calls : List Call) : Type 0 where
  pub tested : All gives calls
  pub begin : IfSome coming (λ all. IsPrefix calls all)
  pub whole : lost ≡ false → IfSome coming (λ all. calls ≡ all)

-- a pass's own entries grew by feeds of what the feeder gave, and by no take or put
pub record Feeds (gives : Call → Type 0) (coming : Option (List Call)) (lost : Bool)
    (old new : List Entry) : Type 0 where
  pub calls : List Call
  pub fed : calls_in new ≡ calls_in old ++ calls
  pub given : WereGiven gives coming lost calls
  pub takes : takes_in new ≡ takes_in old
  pub puts : puts_in new ≡ puts_in old

-- the feeder was read to its end, and is otherwise the one that it was
pub record WasRead {O : Type 0} (origin origin' : O) (faults faults' : ℕ) (lost lost' ended' : Bool) :
    Type 0 where
  pub same_origin : origin' ≡ origin
  pub at_end : ended' ≡ true
  pub counts : CountsFaults faults faults' lost lost'
