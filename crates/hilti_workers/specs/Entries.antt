-- What the entries of a pool's journal say: its events, the calls that were fed, and the core that
-- both stand for.
use Rattle.std.specs.Prelude.{ℕ, suc, List, [], ◌∷◌, Some, ◌≡◌}
use Rattle.hilti_tree.specs.declared.call.Call.{Call}
use Rattle.hilti_core.specs.declared.event.Event.{Event}
use Rattle.hilti_core.specs.declared.event.Event.TheVariants as events
use Rattle.hilti_core.specs.Sending.{Effect}
use Rattle.hilti_core.specs.Core.{Core, core}
use Rattle.hilti_pool.specs.declared.entries.Entry.{Entry}
use Rattle.hilti_pool.specs.declared.entries.Entry.TheVariants.{Feed, FeedEnd, Take, Put}
use Rattle.hilti_pool.specs.declared.entries.Subject.{Subject}

abbrev pub events_in : List Entry → List Event
events_in [] = []
events_in (Feed call ∷ more) = events.Feed ∷ events_in more
events_in (FeedEnd ∷ more) = events_in more
events_in (Take worker thread ∷ more) = events.Take worker thread ∷ events_in more
events_in (Put worker ∷ more) = events.Put worker ∷ events_in more

-- the calls that were fed
abbrev pub calls_in : List Entry → List Call
calls_in [] = []
calls_in (Feed call ∷ more) = call ∷ calls_in more
calls_in (FeedEnd ∷ more) = calls_in more
calls_in (Take worker thread ∷ more) = calls_in more
calls_in (Put worker ∷ more) = calls_in more

abbrev pub takes_in : List Entry → ℕ
takes_in [] = 0
takes_in (Feed call ∷ more) = takes_in more
takes_in (FeedEnd ∷ more) = takes_in more
takes_in (Take worker thread ∷ more) = suc (takes_in more)
takes_in (Put worker ∷ more) = takes_in more

abbrev pub puts_in : List Entry → ℕ
puts_in [] = 0
puts_in (Feed call ∷ more) = puts_in more
puts_in (FeedEnd ∷ more) = puts_in more
puts_in (Take worker thread ∷ more) = puts_in more
puts_in (Put worker ∷ more) = suc (puts_in more)

-- all that was taken was put back
abbrev pub AreEven : List Entry → Type 0
AreEven entries = takes_in entries ≡ puts_in entries

-- the entries stand for a core, of which this holds
pub record Shows {D : Type 0} (effect : D → Effect) (subject : Subject D) (entries : List Entry)
    (P : Core → Type 0) : Type 0 where
  pub at : Core
  pub legal : core (effect subject.body) (calls_in entries) subject.limit (events_in entries)
      ≡ Some at
  pub holds : P at
