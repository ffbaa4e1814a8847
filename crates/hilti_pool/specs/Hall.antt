-- What the calls of a hall read and change: each thread's seat, by its number, and the room for
-- more.
use Rattle.std.specs.Prelude.{ℕ, ◌+◌, ◌<◌, ◌≤◌, ◌≢◌, ◌==◌, Bool, true, not, filter, List, []}
use Rattle.std.specs.Prelude.{◌∷◌, ◌++◌, length, take, slice_get, Option, Some, None, ◌≡◌, ◌↔◌, ◌⊎◌}
use Rattle.std.specs.Prelude.{IsSome, IsSomeAnd, vec_len, vec_capacity}
use Rattle.std.specs.List.{All, Contains}
use Rattle.std.specs.Ordering.{nat_cmp}
use Rattle.std.specs.BTreeMap.{get}
use Rattle.std.specs.VecDeque.{deque_len, deque_capacity}
use Rattle.hilti_base.specs.declared.names.ThreadId.{ThreadId}
use Rattle.hilti_tree.specs.declared.call.Call.{Call}
use Rattle.hilti_core.specs.declared.pieces.Item.{Item}
use Rattle.hilti_core.specs.declared.pieces.Item.TheVariants.{Send, Line}
use Rattle.hilti_core.specs.Sending.{Text, put_at}
use Rattle.hilti_pool.specs.declared.seat.Seat.{Seat}
use Rattle.hilti_pool.specs.declared.seat.Place.{Place}
use Rattle.hilti_pool.specs.declared.seat.Place.TheVariants.{Fresh, Idle, Suspended, Out}
use Rattle.hilti_pool.specs.declared.seat.Posted.{Posted}
use Rattle.hilti_pool.specs.declared.seat.Away.{Away}
use Rattle.hilti_pool.specs.declared.hall.Hall.{Hall}
use Rattle.hilti_pool.specs.Roll.{Enrols}

-- the calls that these items send, in order
abbrev pub posted_by : List Item → List Posted
posted_by [] = []
posted_by (Send to call ∷ items) = record { to = to; call = call } ∷ posted_by items
posted_by (Line text ∷ items) = posted_by items

-- the threads that these items send calls to
abbrev pub receivers : List Item → List ℕ
receivers [] = []
receivers (Send to call ∷ items) = to.n ∷ receivers items
receivers (Line text ∷ items) = receivers items

-- the call is for this thread
abbrev pub IsFor : ℕ → Posted → Type 0
IsFor r posted = posted.to.n ≡ r

-- no call is for this thread
abbrev pub NoneFor : ℕ → List Posted → Type 0
NoneFor r mail = All (λ posted. ¬ IsFor r posted) mail

-- the first call for this thread stands at this place
abbrev pub IsFirstFor : ℕ → List Posted → ℕ → Type 0
IsFirstFor r mail place =
    (place < length mail) × NoneFor r (take place mail) × IsSomeAnd (slice_get mail place) (IsFor r)

-- what is left of mail when the first call for a thread is taken out
pub record TakesFirst (r : ℕ) (taken : Call) (old new : List Posted) : Type 0 where
  pub front : List Posted
  pub first : Posted
  pub back : List Posted
  pub was : old ≡ front ++ first ∷ back
  pub is : new ≡ front ++ back
  pub others : NoneFor r front
  pub receiver : IsFor r first
  pub call : first.call ≡ taken

-- the thread is no longer among those that are suspended at home
abbrev pub Wakes : ℕ → List ℕ → List ℕ → Type 0
Wakes thread old new = (r : ℕ) → Contains new r ↔ (Contains old r × (r ≢ thread))

-- how many calls begin: none or one
abbrev pub count_begun : Option Call → ℕ
count_begun None = 0
count_begun (Some call) = 1

-- the worker has no thread
abbrev pub HasNothing : ℕ → List Away → Type 0
HasNothing worker outs =
    (thread : ThreadId) → ¬ Contains outs (record { worker = worker; thread = thread })

-- the worker has this thread
abbrev pub HasThread : ℕ → List Away → ThreadId → Type 0
HasThread worker outs thread = Contains outs (record { worker = worker; thread = thread })

-- what is seen of a thread: where it is, how many calls it started, and its lines
pub record Face (V : Type 0) : Type 0 where
  pub place : Place V
  pub calls : ℕ
  pub log : List Text

module _ {V : Type 0} where
  abbrev pub face_of : Option (Seat V) → Face V
  face_of None = record { place = Fresh; calls = 0; log = [] }
  face_of (Some seat) = record { place = seat.place; calls = seat.calls; log = seat.log.items }

  abbrev pub seat_at : Hall V → ℕ → Option (Seat V)
  seat_at hall r = get nat_cmp hall.seats r

  -- a thread without a seat never ran
  abbrev pub face : Hall V → ℕ → Face V
  face hall r = face_of (seat_at hall r)

  abbrev pub HasSeat : Hall V → ℕ → Type 0
  HasSeat hall r = IsSome (seat_at hall r)

  -- the thread's log has room for so many lines more
  abbrev pub HasLogRoom : ℕ → Hall V → ℕ → Type 0
  HasLogRoom n hall r =
      IsSomeAnd (seat_at hall r) (λ seat. vec_len seat.log + n ≤ vec_capacity seat.log)

  -- there is room to post these items, by any thread that is out, and to take a thread or to give
  -- one back
  pub record HasRoom (items : List Item) (hall : Hall V) : Type 0 where
    pub mail : deque_len hall.mail + length items ≤ deque_capacity hall.mail
    pub resting : vec_len hall.resting + 1 ≤ vec_capacity hall.resting
    pub outs : vec_len hall.outs + 1 ≤ vec_capacity hall.outs
    pub roll : vec_len hall.roll + 1 ≤ vec_capacity hall.roll
    pub seats : All (HasSeat hall) (receivers items)
    pub logs : All (λ away. HasLogRoom (length items) hall away.thread.n) hall.outs.items

  -- nothing changed but that room was made
  pub record Grows (old new : Hall V) : Type 0 where
    pub faces : (r : ℕ) → face new r ≡ face old r
    pub seats : (r : ℕ) → HasSeat old r → HasSeat new r
    pub logs : (n r : ℕ) → HasLogRoom n old r → HasLogRoom n new r
    pub mail : new.mail.items ≡ old.mail.items
    pub mail_len : deque_len new.mail ≡ deque_len old.mail
    pub mail_room : deque_capacity old.mail ≤ deque_capacity new.mail
    pub resting : new.resting.items ≡ old.resting.items
    pub resting_len : vec_len new.resting ≡ vec_len old.resting
    pub resting_room : vec_capacity old.resting ≤ vec_capacity new.resting
    pub outs : new.outs.items ≡ old.outs.items
    pub outs_len : vec_len new.outs ≡ vec_len old.outs
    pub outs_room : vec_capacity old.outs ≤ vec_capacity new.outs
    pub roll : new.roll.items ≡ old.roll.items
    pub roll_len : vec_len new.roll ≡ vec_len old.roll
    pub roll_room : vec_capacity old.roll ≤ vec_capacity new.roll

  -- the thread's face when a worker took it, with so many calls more
  abbrev pub gone : ℕ → ℕ → Face V → Face V
  gone worker begun x = record { place = Out worker; calls = x.calls + begun; log = x.log }

  -- the thread's face when it came home, with these lines more
  abbrev pub back_home : Place V → List Text → Face V → Face V
  back_home place more x = record { place = place; calls = x.calls; log = x.log ++ more }

  -- the worker has the thread, which starts so many calls more: none or one
  pub record Leaves (worker : ℕ) (thread : ThreadId) (begun : ℕ) (old new : Hall V) : Type 0 where
    pub faces : (r : ℕ)
        → face new r ≡ put_at (face old) thread.n (gone worker begun (face old thread.n)) r
    pub seats : (r : ℕ) → HasSeat old r → HasSeat new r
    pub outs : new.outs.items ≡ old.outs.items ++ record { worker = worker; thread = thread } ∷ []

  -- the worker's thread is at home, and these items are posted
  pub record ComesBack (worker : ℕ) (thread : ThreadId) (place : Place V) (items : List Item)
      (lines : List Text) (old new : Hall V) : Type 0 where
    pub faces : (r : ℕ)
        → face new r ≡ put_at (face old) thread.n (back_home place lines (face old thread.n)) r
    pub seats : (r : ℕ) → HasSeat old r → HasSeat new r
    pub mail : new.mail.items ≡ old.mail.items ++ posted_by items
    pub resting : new.resting ≡ old.resting
    pub outs : new.outs.items ≡ filter (λ away. not (away.worker == worker)) old.outs.items
    pub roll : new.roll ≡ old.roll

  -- the thread of this place isn't out
  abbrev pub IsAtHome : Place V → Type 0
  IsAtHome Fresh = Unit {0}
  IsAtHome (Idle vt) = Unit {0}
  IsAtHome (Suspended vt) = Unit {0}
  IsAtHome (Out worker) = ⊥

  abbrev pub IsResting : Place V → Type 0
  IsResting Fresh = ⊥
  IsResting (Idle vt) = ⊥
  IsResting (Suspended vt) = Unit {0}
  IsResting (Out worker) = ⊥

  -- no call waits for a thread at home
  abbrev pub NoneAtHome : Hall V → Type 0
  NoneAtHome hall = All (λ posted. ¬ IsAtHome (face hall posted.to.n).place) hall.mail.items

  -- the thread is at home, and a call waits for it
  abbrev pub IsAwaited : Hall V → ThreadId → Type 0
  IsAwaited hall thread = IsAtHome (face hall thread.n).place
      × ((posted : Posted) × Contains hall.mail.items posted × (posted.to ≡ thread))

  -- a thread that is suspended at home, or, where calls may start, one at home that a call waits
  -- for
  abbrev pub MayGo : Bool → Hall V → ThreadId → Type 0
  MayGo may hall thread =
      Contains hall.resting.items thread.n ⊎ ((may ≡ true) × IsAwaited hall thread)

  -- there is no such thread
  abbrev pub NoneMayGo : Bool → Hall V → Type 0
  NoneMayGo may hall = (hall.resting.items ≡ []) × (may ≡ true → NoneAtHome hall)

  -- where a thread was that begins a call: it never ran, or its virtual thread was at home
  abbrev pub WasIdle : Option V → Place V → Type 0
  WasIdle None place = place ≡ Fresh
  WasIdle (Some vt) place = place ≡ Idle vt

  -- a thread at home that a call waits for
  pub record CanBegin (hall : Hall V) (r : ℕ) : Type 0 where
    pub seat : HasSeat hall r
    pub home : IsAtHome (face hall r).place
    pub waits : ¬ NoneFor r hall.mail.items

  -- the thread is suspended at home, or, where calls may start, at home, and a call waits for it
  abbrev pub CanGo : Bool → Hall V → ℕ → Type 0
  CanGo may hall r = IsResting (face hall r).place
      ⊎ ((may ≡ true) × IsAtHome (face hall r).place × ¬ NoneFor r hall.mail.items)

  -- the worker has the thread, which was suspended
  pub record GoesOut (worker : ℕ) (thread : ThreadId) (vt : Option V) (old new : Hall V) :
      Type 0 where
    pub place : IsSomeAnd vt (λ vt. (face old thread.n).place ≡ Suspended vt)
    pub leaves : Leaves worker thread 0 old new
    pub resting : Wakes thread.n old.resting.items new.resting.items
    pub mail : new.mail.items ≡ old.mail.items
    pub roll : new.roll.items ≡ old.roll.items

  -- the worker has the thread, which begins the first call that waited for it
  pub record SetsOut (worker : ℕ) (thread : ThreadId) (vt : Option V) (call : Call)
      (old new : Hall V) : Type 0 where
    pub place : WasIdle vt (face old thread.n).place
    pub leaves : Leaves worker thread 1 old new
    pub resting : new.resting.items ≡ old.resting.items
    pub mail : TakesFirst thread.n call old.mail.items new.mail.items
    pub roll : Enrols thread.n old.roll.items new.roll.items

  -- one of both, by whether a call begins
  abbrev pub Departs : ℕ → ThreadId → Option V → Option Call → Hall V → Hall V → Type 0
  Departs worker thread vt None old new = GoesOut worker thread vt old new
  Departs worker thread vt (Some call) old new = SetsOut worker thread vt call old new

  -- the thread at a place of those that ran, how many calls it started, and its lines
  pub record IsLogOf (hall : Hall V) (place thread calls : ℕ) (lines : List Text) : Type 0 where
    pub at : slice_get hall.roll.items place ≡ Some thread
    pub calls_are : calls ≡ (face hall thread).calls
    pub lines_are : lines ≡ (face hall thread).log

  -- where one worker runs all: a thread at rest of least number, else that of the first call that
  -- waits
  abbrev pub ComesFirst : Hall V → Option ThreadId → Type 0
  ComesFirst hall None = (hall.resting.items ≡ []) × (hall.mail.items ≡ [])
  ComesFirst hall (Some thread) =
      (Contains hall.resting.items thread.n × All (λ other. thread.n ≤ other) hall.resting.items)
      ⊎ ((hall.resting.items ≡ [])
      × ((first : Posted)
      × ((rest : List Posted) × (hall.mail.items ≡ first ∷ rest) × (first.to ≡ thread))))
