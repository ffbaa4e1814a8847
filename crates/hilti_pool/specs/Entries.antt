-- What a lock sees of a pool's journal: the events, with the calls that were fed, and the end of
-- the feed in its place.
use Rattle.std.specs.Prelude.{ℕ, ◌≤◌, suc, List, [], ◌∷◌, ◌++◌, length, map, take, drop, Option}
use Rattle.std.specs.Prelude.{Some, None, IfSome, ◌≡◌}
use Rattle.hilti_tree.specs.declared.call.Call.{Call}
use Rattle.hilti_core.specs.declared.event.Event.{Event}
use Rattle.hilti_core.specs.declared.event.Event.TheVariants as events
use Rattle.hilti_pool.specs.declared.entries.Entry.{Entry}
use Rattle.hilti_pool.specs.declared.entries.Entry.TheVariants.{Feed, FeedEnd, Take, Put}
use Rattle.hilti_pool.specs.declared.entries.Subject.{Subject}
use Rattle.hilti_pool.specs.State.{PoolState}

-- how many of the events are feeds
abbrev pub feeds_in : List Event → ℕ
feeds_in [] = 0
feeds_in (events.Feed ∷ more) = suc (feeds_in more)
feeds_in (events.Take worker thread ∷ more) = feeds_in more
feeds_in (events.Put worker ∷ more) = feeds_in more

-- the events as entries, where the feeds fed these calls
abbrev pub entries_from : List Call → List Event → List Entry
entries_from calls [] = []
entries_from calls (events.Feed ∷ more) =
    map Feed (take 1 calls) ++ entries_from (drop 1 calls) more
entries_from calls (events.Take worker thread ∷ more) = Take worker thread ∷ entries_from calls more
entries_from calls (events.Put worker ∷ more) = Put worker ∷ entries_from calls more

-- entries with the end of the feed in its place, if it ended
abbrev pub with_end : Option ℕ → List Entry → List Entry
with_end None entries = entries
with_end (Some place) entries = take place entries ++ FeedEnd ∷ drop place entries

-- the number of the pass that made an entry: a worker's own, and 0 for what is fed
abbrev pub maker_of : Entry → ℕ
maker_of (Feed call) = 0
maker_of FeedEnd = 0
maker_of (Take worker thread) = worker
maker_of (Put worker) = worker

-- each feed has its call, and the feed ended no later than now
pub record AreEntries (fed : List Call) (journal : List Event) (ended : Option ℕ) : Type 0 where
  pub feeds : feeds_in journal ≡ length fed
  pub place : IfSome ended (λ place. place ≤ length journal)

module _ {D : Type 0} where
  abbrev pub entries_of : PoolState D → List Entry
  entries_of pool = with_end pool.ended (entries_from pool.fed pool.journal)

  abbrev pub subject_of : PoolState D → Subject D
  subject_of pool = record { body = pool.about; limit = pool.limit }
