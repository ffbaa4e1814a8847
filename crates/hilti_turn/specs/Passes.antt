-- What contracts see of a pass.
use Rattle.std.specs.Prelude.{◌≡◌, ℕ, ◌%◌, ◌^◌, List, [], ◌∷◌, Option, Some, None}
use Rattle.hilti_turn.specs.declared.view.Stage.TheVariants.{Outside, Waiting, Inside}
use Rattle.hilti_turn.specs.declared.pass.Pass.{Pass}

module _ {V E A : Type 0} where
  abbrev pub number : Pass V E A → ℕ
  number p = p.number

  -- what the value is about, as the pass was told when it was made
  abbrev pub about : Pass V E A → Option A
  about p = p.seat.me.0.about

  -- the entries that the pass knows to begin the journal
  abbrev pub seen : Pass V E A → List E
  seen p = p.seat.me.0.seen

  -- the entries that the pass made
  abbrev pub mine : Pass V E A → List E
  mine p = p.seat.me.0.mine

  -- how often the pass entered
  abbrev pub visits : Pass V E A → ℕ
  visits p = p.seat.me.0.visits

  -- the pass doesn't have the value
  abbrev pub IsOutside : Pass V E A → Type 0
  IsOutside p = (p.seat.me.0.stage ≡ Outside) × (p.seat.me.1 ≡ [])

  -- the value was handed out to the pass
  abbrev pub IsInside : Pass V E A → Type 0
  IsInside p = (p.seat.me.0.stage ≡ Inside) × (p.seat.me.1 ≡ (0, None) ∷ [])

  -- the pass has a ticket, whose number this is modulo 2^64
  abbrev pub IsWaiting : ℕ → Pass V E A → Type 0
  IsWaiting ticket p =
      (p.seat.me.0.stage ≡ Waiting) × (p.seat.me.0.ticket % 2 ^ 64 ≡ ticket) × (p.seat.me.1 ≡ [])

  -- the slot lies with the pass, and has this value
  abbrev pub HasSlot : V → Pass V E A → Type 0
  HasSlot x p = (p.seat.me.0.stage ≡ Inside) × (p.seat.me.1 ≡ (0, Some x) ∷ [])

  -- a pass that was never inside
  pub record IsFresh (topic : A) (p : Pass V E A) : Type 0 where
    pub outside : IsOutside p
    pub about : p.seat.me.0.about ≡ Some topic
    pub seen : p.seat.me.0.seen ≡ []
    pub mine : p.seat.me.0.mine ≡ []
    pub visits : p.seat.me.0.visits ≡ 0

  -- it is the same pass of the same turn, about the same
  pub record IsSamePass (old new : Pass V E A) : Type 0 where
    pub table : new.seat.table_id ≡ old.seat.table_id
    pub seat : new.seat.id ≡ old.seat.id
    pub number : new.number ≡ old.number
    pub known_number : new.seat.me.0.number ≡ old.seat.me.0.number
    pub about : new.seat.me.0.about ≡ old.seat.me.0.about
