-- Runs over a store that loses nothing, where a heap H stands for a store S and gives objects back.
-- What is said of the heap holds from every store that it stands for: the meaning leads from any
-- store that the old heap stands for to some store that the new heap stands for.
use Rattle.std.specs.Prelude.{◌≡◌, ℕ, suc, List}
use Rattle.hilti_calls.specs.Calls.{Outcome, emit}

-- something is what comes from some store of these
pub record ComesFrom {S O : Type 0} (Stands : S → Type 0) (all : O) (to : S → O) : Type 0 where
  pub store : S
  pub stands : Stands store
  pub so : all ≡ to store

-- from each store that the old heap stands for, to one that the new heap stands for
abbrev pub Leads : {H S O : Type 0} → (H → S → Type 0) → H → (S → O) → H → (S → O) → Type 0
Leads {H} {S} {O} Stands old does new to =
    (st : S) → Stands old st → ComesFrom (Stands new) (does st) to

-- what is still to come, by the store and the fuel
abbrev pub Ahead : Type 0 → Type 0 → Type 0 → Type 0 → Type 0
Ahead S T R I = S → ℕ → Outcome T R I

-- from each store that the old heap stands for, all with so much fuel is these items, and then
-- what is ahead from some store that the new heap stands for, with the fuel that is left
pub record Reaches {H S T R I : Type 0} (Stands : H → S → Type 0) (old : H) (all : Ahead S T R I)
    (fuel : ℕ) (items : List I) (new : H) (ahead : Ahead S T R I) (left : ℕ) : Type 0 where
  pub each : Leads Stands old (λ st. all st fuel) new (λ st. emit items (ahead st left))

-- one step, which takes 1 fuel, however much is left
pub record Steps {H S T R I : Type 0} (Stands : H → S → Type 0) (old : H) (all : Ahead S T R I)
    (items : List I) (new : H) (ahead : Ahead S T R I) : Type 0 where
  pub each : (left : ℕ) → Reaches Stands old all (suc left) items new ahead left
