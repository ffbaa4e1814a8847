-- What a pool keeps, against the core that it stands for.
use Rattle.std.specs.Prelude.{ℕ, ◌+◌, ◌==◌, ◌<◌, ◌≤◌, cond, List, [], ◌∷◌, length, map}
use Rattle.std.specs.Prelude.{Some, None, ◌≡◌, ◌↔◌}
use Rattle.std.specs.List.{All, Contains}
use Rattle.hilti_base.specs.declared.names.ThreadId.{ThreadId}
use Rattle.hilti_tree.specs.declared.call.Call.{Call}
use Rattle.hilti_core.specs.declared.event.Event.{Event}
use Rattle.hilti_core.specs.Sending.{Effect}
use Rattle.hilti_core.specs.Machine.{Start}
use Rattle.hilti_core.specs.Core.{Waiting, Running, Resident, Core, core}
use Rattle.hilti_core.specs.Atomic.{started_calls}
use Rattle.hilti_core.specs.Body.{Runs}
use Rattle.hilti_pool.specs.declared.seat.Place.{Place}
use Rattle.hilti_pool.specs.declared.seat.Place.TheVariants.{Fresh, Idle, Suspended, Out}
use Rattle.hilti_pool.specs.declared.seat.Posted.{Posted}
use Rattle.hilti_pool.specs.declared.hall.Hall.{Hall}
use Rattle.hilti_pool.specs.Hall.{Face, face, HasSeat, IsResting}
use Rattle.hilti_pool.specs.Threads.{calls_of}
use Rattle.hilti_pool.specs.Roll.{IsRoll}

-- a waiting call and the thread that it waits for
pub record Delivery : Type 0 where
  pub to : ℕ
  pub waiting : Waiting

abbrev pub posted_of : Delivery → Posted
posted_of delivery =
    record { to = record { n = delivery.to }; call = delivery.waiting.message.call }

-- the inbox of a thread among all that waits
abbrev pub inbox_in : ℕ → List Delivery → List Waiting
inbox_in to [] = []
inbox_in to (delivery ∷ more) =
    cond (to == delivery.to) (delivery.waiting ∷ inbox_in to more) (inbox_in to more)

-- the deliveries stand in their order of posting
abbrev pub AreInOrder : List Delivery → Type 0
AreInOrder [] = Unit {0}
AreInOrder (delivery ∷ more) =
    All (λ later. delivery.waiting.number ≤ later.waiting.number) more × AreInOrder more

-- the calls that wait, in their order of posting, are those of the inboxes
pub record MailStands (c : Core) (mail : List Posted) : Type 0 where
  pub deliveries : List Delivery
  pub posted : map posted_of deliveries ≡ mail
  pub inboxes : (to : ℕ) → c.inbox to ≡ inbox_in to deliveries
  pub ordered : AreInOrder deliveries
  pub below : All (λ delivery. delivery.waiting.number < length c.posts) deliveries
  pub count : length deliveries + length c.started ≡ length c.posts

module _ {V : Type 0} where
  -- a place stands for a thread: what the virtual thread in it ran, or who has it
  abbrev pub PlaceStands : (V → Runs) → ℕ → Resident → Place V → Type 0
  PlaceStands runs r resident Fresh =
      (resident.worker ≡ None) × (resident.running ≡ None) × (resident.finished ≡ [])
  PlaceStands runs r resident (Idle vt) =
      (resident.worker ≡ None) × (resident.running ≡ None) × runs vt r resident.finished None
  PlaceStands runs r resident (Suspended vt) = (resident.worker ≡ None)
      × ((running : Running) × (resident.running ≡ Some running)
      × runs vt r resident.finished (Some running))
  PlaceStands runs r resident (Out worker) =
      (resident.worker ≡ Some worker) × ((running : Running) × (resident.running ≡ Some running))

  pub record SeatStands (runs : V → Runs) (started : List Start) (r : ℕ) (resident : Resident)
      (x : Face V) : Type 0 where
    pub place : PlaceStands runs r resident x.place
    pub calls : x.calls ≡ calls_of r started
    pub few : length (started_calls resident.finished resident.running) ≤ x.calls
    pub log : x.log ≡ resident.log

  pub record HallStands (runs : V → Runs) (c : Core) (hall : Hall V) : Type 0 where
    pub seats : (r : ℕ) → SeatStands runs c.started r (c.thread r) (face hall r)
    pub mail : MailStands c hall.mail.items
    pub settled : All (λ posted. HasSeat hall posted.to.n) hall.mail.items
    pub resting : (r : ℕ) → Contains hall.resting.items r ↔ IsResting (face hall r).place
    pub outs : (worker : ℕ) (thread : ThreadId)
        → Contains hall.outs.items (record { worker = worker; thread = thread })
        ↔ ((face hall thread.n).place ≡ Out worker)
    pub roll : IsRoll c.started hall.roll.items

  -- the numbers and the hall of a pool stand for the core of its journal, to which all of these
  -- calls were fed
  pub record StandsFor (effect : Effect) (sound : Call → Type 0) (runs : V → Runs)
      (fed : List Call) (limit : ℕ) (journal : List Event) (started segments : ℕ)
      (hall : Hall V) : Type 0 where
    pub c : Core
    pub is : core effect fed limit journal ≡ Some c
    pub unfed : c.unfed ≡ []
    pub sound_fed : All sound fed
    pub low : 1 ≤ limit
    pub high : limit ≤ 100000000
    pub started_are : started ≡ length c.started
    pub takes_are : segments ≡ c.takes
    pub few_takes : segments ≤ length journal
    pub hall_stands : HallStands runs c hall
