-- What contracts see of a pool, and the core that it stands for.
use Rattle.std.specs.Prelude.{ℕ, Bool, false, List, [], ◌∷◌, ◌++◌, length, Option, Some, None, ◌≡◌}
use Rattle.hilti_base.specs.declared.names.ThreadId.{ThreadId}
use Rattle.hilti_tree.specs.declared.call.Call.{Call}
use Rattle.hilti_core.specs.declared.pieces.Item.{Item}
use Rattle.hilti_core.specs.declared.event.Event.{Event}
use Rattle.hilti_core.specs.declared.event.Event.TheVariants.{Feed, Take, Put}
use Rattle.hilti_core.specs.Sending.{Effect}
use Rattle.hilti_core.specs.Core.{Core, core}

-- a pool: what its body's data are, how many calls may start, the calls that were fed, the events
-- so far, how many events were there when the feed ended, whether the pool was given up, and the
-- items that there is room to post
pub record PoolState (D : Type 0) : Type 0 where
  pub about : D
  pub limit : ℕ
  pub fed : List Call
  pub journal : List Event
  pub ended : Option ℕ
  pub given_up : Bool
  pub room : Option (List Item)

-- where the feed ended: behind the events so far, if it hadn't ended before
abbrev pub end_of : Option ℕ → List Event → Option ℕ
end_of None journal = Some (length journal)
end_of (Some place) journal = Some place

module _ {D : Type 0} where
  -- the core of the journal over the calls that were fed
  abbrev pub core_of : (D → Effect) → PoolState D → Option Core
  core_of effect pool = core (effect pool.about) pool.fed pool.limit pool.journal

  -- the pool stands for a core, of which this holds
  pub record InCore (effect : D → Effect) (pool : PoolState D) (P : Core → Type 0) : Type 0 where
    pub core : Core
    pub is : core_of effect pool ≡ Some core
    pub holds : P core

  -- a pool to which nothing happened
  abbrev pub empty : D → ℕ → PoolState D
  empty about limit = record {
    about = about;
    limit = limit;
    fed = [];
    journal = [];
    ended = None;
    given_up = false;
    room = None;
  }

  abbrev pub after_feed : Call → PoolState D → PoolState D
  after_feed call pool =
      record pool { fed = pool.fed ++ call ∷ []; journal = pool.journal ++ Feed ∷ []; room = None }

  abbrev pub after_take : ℕ → ThreadId → PoolState D → PoolState D
  after_take worker thread pool =
      record pool { journal = pool.journal ++ Take worker thread ∷ []; room = None }

  abbrev pub after_put : ℕ → PoolState D → PoolState D
  after_put worker pool = record pool { journal = pool.journal ++ Put worker ∷ []; room = None }
