-- What the readers of groups find.
use Rattle.std.specs.Prelude.{◌≡◌, ℕ, ◌+◌, ◌*◌, ◌^◌, ◌<◌, ◌≤◌, List, ◌∷◌, ◌++◌, length, slice_index}
use Rattle.hilti_addr.specs.declared.brackets.Groups.{Groups}
use Rattle.hilti_addr.specs.Brackets.{AreGroups, number_of}

-- a list of at most 8 groups, as one number and how many they are
pub record AreCounted (list : List ℕ) (groups : Groups) : Type 0 where
  pub number_is : groups.number ≡ number_of list
  pub count_is : groups.count ≡ length list
  pub small : groups.number < 65536 ^ groups.count
  pub few : groups.count ≤ 8

-- with a group behind them
abbrev pub one_more : Groups → ℕ → Groups
one_more groups group =
    record { number = groups.number * 65536 + group; count = groups.count + 1 }

-- the groups of a text
pub record HasGroups (text : List ℕ) (groups : Groups) : Type 0 where
  pub list : List ℕ
  pub are : AreGroups text list
  pub counted : AreCounted list groups

-- `::` stands at a place of a text
abbrev pub HasColons : List ℕ → ℕ → Type 0
HasColons text place = (slice_index text place ≡ 58) × (slice_index text (place + 1) ≡ 58)

-- what stands before the first `::` of a text, and behind it
pub record IsFirstColons (text front back : List ℕ) : Type 0 where
  pub parts : text ≡ front ++ 58 ∷ 58 ∷ back
  pub first : (place : ℕ) → place < length front → ¬ (HasColons text place)
