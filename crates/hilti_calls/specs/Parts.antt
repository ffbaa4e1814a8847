-- A trace, cut into the parts between its suspensions.
use Rattle.std.specs.Prelude.{◌≡◌, List, [], ◌∷◌, ◌++◌, map}
use Rattle.hilti_calls.specs.Calls.{Outcome, Outcome.Ended, Outcome.Spent}

-- a mark of a trace: an item of a part, or the close of a part
pub data Mark (L C : Type 0) : Type 0 where
  Plain : (item : L) → Mark L C
  Cut : (close : C) → Mark L C

-- what is done up to a suspension or the end: items, and how it closes
pub record Part (L C : Type 0) : Type 0 where
  pub items : List L
  pub close : C

-- the item is the first of the first part
abbrev pub before : {L C : Type 0} → L → List (Part L C) → List (Part L C)
before item [] = []
before item (part ∷ more) = record { items = item ∷ part.items; close = part.close } ∷ more

-- the items are the first of the first part
abbrev pub before_all : {L C : Type 0} → List L → List (Part L C) → List (Part L C)
before_all [] all = all
before_all (item ∷ items) all = before item (before_all items all)

-- a trace, cut into parts; `last` are those behind it
abbrev pub parts : {L C : Type 0} → List (Mark L C) → List (Part L C) → List (Part L C)
parts [] last = last
parts (Plain item ∷ marks) last = before item (parts marks last)
parts (Cut close ∷ marks) last = record { items = []; close = close } ∷ parts marks last

-- what the last part is, by how a run ends
pub record Closing (S R L C : Type 0) : Type 0 where
  pub over : R → S → Part L C
  pub spent : S → Part L C

-- the parts of a run
abbrev pub parts_of : {S R L C : Type 0} → Closing S R L C → Outcome S R (Mark L C)
    → List (Part L C)
parts_of closing (Ended r st left trace) = parts trace (closing.over r st ∷ [])
parts_of closing (Spent st trace) = parts trace (closing.spent st ∷ [])

-- the trace that parts are cut from; the close of the last stands in no trace
abbrev pub joined : {L C : Type 0} → List (Part L C) → List (Mark L C)
joined [] = []
joined (part ∷ []) = map Plain part.items
joined (part ∷ next ∷ more) = map Plain part.items ++ Cut part.close ∷ joined (next ∷ more)

-- cutting loses nothing: joined, the parts are the trace and then the last part's own items
abbrev pub LosesNothing : {L C : Type 0} → List (Mark L C) → Part L C → Type 0
LosesNothing marks last = joined (parts marks (last ∷ [])) ≡ marks ++ map Plain last.items
