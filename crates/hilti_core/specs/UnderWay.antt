-- Over sound calls a call in progress has a segment left, so its worker may put; and it goes on
-- behind a segment exactly where that ends `Yielded`.
use Rattle.std.specs.Prelude.{ℕ, ◌<◌, List, [], ◌∷◌, length, Some, ◌≡◌, ◌↔◌}
use Rattle.std.specs.List.{All}
use Rattle.hilti_tree.specs.declared.call.Call.{Call}
use Rattle.hilti_core.specs.declared.pieces.Segment.{Segment}
use Rattle.hilti_core.specs.declared.pieces.End.TheVariants.{Yielded}
use Rattle.hilti_core.specs.declared.event.Event.{Event}
use Rattle.hilti_core.specs.declared.event.Event.TheVariants.{Put}
use Rattle.hilti_core.specs.Sending.{Effect}
use Rattle.hilti_core.specs.Core.{Running, Core, left, step, LeadsTo}

-- a call in progress was given fewer segments than it has
abbrev pub HasSegmentsLeft : Effect → Core → Type 0
HasSegmentsLeft effect c = (r : ℕ) (running : Running) → (c.thread r).running ≡ Some running →
    running.given < length (effect r (c.thread r).finished running.call)

-- a worker that has a thread may put it
abbrev pub MayPut : Effect → ℕ → Core → Type 0
MayPut effect limit c = (worker r : ℕ) → c.out worker ≡ Some r →
    ((d : Core) × (step effect limit (Put worker) c ≡ Some d))

-- a segment of a call in progress ends `Yielded` exactly where the call has more behind it
abbrev pub EndsByRest : Effect → Core → Type 0
EndsByRest effect c = (r : ℕ) (running : Running) (segment : Segment) (rest : List Segment) →
    (c.thread r).running ≡ Some running → left effect r (c.thread r) ≡ segment ∷ rest →
    ((segment.end ≡ Yielded) ↔ ¬ (rest ≡ []))

pub record IsUnderWay (effect : Effect) (limit : ℕ) (c : Core) : Type 0 where
  pub given : HasSegmentsLeft effect c
  pub puts : MayPut effect limit c
  pub ends : EndsByRest effect c

abbrev pub KeepsUnderWay : Effect → (Call → Type 0) → List Call → ℕ → List Event → Type 0
KeepsUnderWay effect sound calls limit journal = (c : Core) →
    All sound calls → LeadsTo effect calls limit journal c → IsUnderWay effect limit c
