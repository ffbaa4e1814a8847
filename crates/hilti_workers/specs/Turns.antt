-- What a worker's turn tells, and what a pass must be like for one.
use Rattle.std.specs.Prelude.{ℕ, ◌<◌, List, [], ◌∷◌, ◌++◌, IsSomeAnd, ◌≡◌, ◌⊎◌}
use Rattle.std.specs.List.{flat_map}
use Rattle.hilti_base.specs.declared.names.ThreadId.{ThreadId}
use Rattle.hilti_core.specs.Sending.{Effect}
use Rattle.hilti_turn.specs.declared.pass.Pass.{Pass}
use Rattle.hilti_turn.specs.declared.turn.Turn.{Turn}
use Rattle.hilti_turn.specs.Journal.{made_by}
use Rattle.hilti_turn.specs.Passes.{number, about, seen, mine, visits, IsOutside, IsSamePass}
use Rattle.hilti_turn.specs.Turns.{IsPassOf}
use Rattle.hilti_pool.specs.declared.entries.Entry.{Entry}
use Rattle.hilti_pool.specs.declared.entries.Entry.TheVariants.{Take, Put}
use Rattle.hilti_pool.specs.declared.entries.Subject.{Subject}
use Rattle.hilti_pool.specs.Entries.{maker_of}
use Rattle.hilti_workers.specs.declared.turns.Turned.{Turned}
use Rattle.hilti_workers.specs.declared.turns.Turned.TheVariants.{Ran, Idle, Over}
use Rattle.hilti_workers.specs.Finding.{ShowsIdle, ShowsOver}

module _ {V D : Type 0} where
  -- the pass is of this turn, and outside
  pub record IsAtHand (turn : Turn V Entry (Subject D)) (p : Pass V Entry (Subject D)) :
      Type 0 where
    pub own : IsPassOf turn p
    pub outside : IsOutside p

  -- what the pass saw has of its number just what it made
  abbrev pub KnowsOwn : Pass V Entry (Subject D) → Type 0
  KnowsOwn p = made_by maker_of (number p) (seen p) ≡ mine p

  -- the pool of the pass is about a body of these data
  abbrev pub IsAbout : D → Pass V Entry (Subject D) → Type 0
  IsAbout data_of p = IsSomeAnd (about p) (λ subject. subject.body ≡ data_of)

  -- this holds of what the pool of the pass is about, and of what the pass saw
  abbrev pub OfSeen : Pass V Entry (Subject D) → (Subject D → List Entry → Type 0) → Type 0
  OfSeen p P = IsSomeAnd (about p) (λ subject. P subject (seen p))

  -- it entered once or more often
  abbrev pub Entered : Pass V Entry (Subject D) → Pass V Entry (Subject D) → Type 0
  Entered old new = visits old < visits new

  -- its own entries grew by a take and its put
  abbrev pub RanOne : Pass V Entry (Subject D) → Pass V Entry (Subject D) → Type 0
  RanOne old new = (thread : ThreadId)
      × (mine new ≡ mine old ++ Take (number old) thread ∷ Put (number old) ∷ [])

  -- its own entries grew by pairs of a take and its put
  abbrev pub RanAll : Pass V Entry (Subject D) → Pass V Entry (Subject D) → Type 0
  RanAll old new = (threads : List ThreadId)
      × (mine new ≡ mine old
      ++ flat_map (λ thread. Take (number old) thread ∷ Put (number old) ∷ []) threads)

  -- its own entries grew by nothing or by a take
  abbrev pub BrokeOff : Pass V Entry (Subject D) → Pass V Entry (Subject D) → Type 0
  BrokeOff old new = (mine new ≡ mine old)
      ⊎ ((thread : ThreadId) × (mine new ≡ mine old ++ Take (number old) thread ∷ []))

  -- what the answer of a turn tells
  abbrev pub Tells : (D → Effect) → Pass V Entry (Subject D) → Pass V Entry (Subject D) → Turned
      → Type 0
  Tells effect old new Ran = RanOne old new
  Tells effect old new Idle = (mine new ≡ mine old) × OfSeen new (ShowsIdle effect)
  Tells effect old new Over = (mine new ≡ mine old) × OfSeen new (ShowsOver effect)
