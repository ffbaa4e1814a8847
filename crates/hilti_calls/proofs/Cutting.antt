-- How a trace that grows is cut into parts.
use Rattle.std.proofs.Common.{◌≡◌, ℕ, List, [], ◌∷◌, ◌++◌, map, append-nil, refl, ap, sym, ◌∙◌}
use Rattle.hilti_calls.specs.Calls.{Outcome, Outcome.Ended, Outcome.Spent, emit}
use Rattle.hilti_calls.specs.Parts.{Mark, Mark.Plain, Mark.Cut, Part, before, before_all, parts, Closing, parts_of}
use Rattle.hilti_calls.specs.Parts.{joined, LosesNothing}

-- the first marks are cut before the others
pub parts_append : {L C : Type 0} (marks more : List (Mark L C)) (last : List (Part L C))
    → parts (marks ++ more) last ≡ parts marks (parts more last)
parts_append [] more last = refl
parts_append (Plain item ∷ marks) more last = ap (before item) (parts_append marks more last)
parts_append (Cut close ∷ marks) more last =
    ap (λ ps. record { items = []; close = close } ∷ ps) (parts_append marks more last)

-- items stand in the first part
pub parts_plain : {L C : Type 0} (items : List L) (last : List (Part L C))
    → parts (map Plain items) last ≡ before_all items last
parts_plain [] last = refl
parts_plain (item ∷ items) last = ap (before item) (parts_plain items last)

pub before_all_append : {L C : Type 0} (items more : List L) (ps : List (Part L C))
    → before_all (items ++ more) ps ≡ before_all items (before_all more ps)
before_all_append [] more ps = refl
before_all_append (item ∷ items) more ps = ap (before item) (before_all_append items more ps)

pub before_all_first : {L C : Type 0} (items : List L) (part : Part L C) (more : List (Part L C))
    → before_all items (part ∷ more) ≡ record { items = items ++ part.items; close = part.close } ∷ more
before_all_first [] part more = refl
before_all_first (item ∷ items) part more = ap (before item) (before_all_first items part more)

module _ {S R L C : Type 0} (closing : Closing S R L C) where
  -- the first marks of a run are cut before the others
  pub parts_of_emit : (marks : List (Mark L C)) (o : Outcome S R (Mark L C))
      → parts_of closing (emit marks o) ≡ parts marks (parts_of closing o)
  parts_of_emit marks (Ended r st left trace) = parts_append marks trace (closing.over r st ∷ [])
  parts_of_emit marks (Spent st trace) = parts_append marks trace (closing.spent st ∷ [])

  -- items first
  pub parts_of_plain : (items : List L) (o : Outcome S R (Mark L C))
      → parts_of closing (emit (map Plain items) o) ≡ before_all items (parts_of closing o)
  parts_of_plain items o = parts_of_emit (map Plain items) o ∙ parts_plain items (parts_of closing o)

  -- a suspension first
  pub parts_of_cut : (close : C) (o : Outcome S R (Mark L C))
      → parts_of closing (emit (Cut close ∷ []) o) ≡ record { items = []; close = close } ∷ parts_of closing o
  parts_of_cut close o = parts_of_emit (Cut close ∷ []) o

  -- a whole part first: items up to a suspension
  pub parts_of_part : (items : List L) (close : C) (o : Outcome S R (Mark L C))
      → parts_of closing (emit (map Plain items) (emit (Cut close ∷ []) o))
      ≡ record { items = items; close = close } ∷ parts_of closing o
  parts_of_part items close o =
      parts_of_plain items (emit (Cut close ∷ []) o)
      ∙ ap (before_all items) (parts_of_cut close o)
      ∙ before_all_first items (record { items = []; close = close }) (parts_of closing o)
      ∙ ap (λ all. record { items = all; close = close } ∷ parts_of closing o) (append-nil items)

  -- the last part, where the run ends after these items
  pub parts_of_ended : (items : List L) (r : R) (st : S) (left : ℕ)
      → parts_of closing (emit (map Plain items) (Ended r st left [])) ≡ before_all items (closing.over r st ∷ [])
  parts_of_ended items r st left = parts_of_plain items (Ended r st left [])

  -- the last part, where the fuel is spent after these items
  pub parts_of_spent : (items : List L) (st : S)
      → parts_of closing (emit (map Plain items) (Spent st [])) ≡ before_all items (closing.spent st ∷ [])
  parts_of_spent items st = parts_of_plain items (Spent st [])

-- there is a first part
record HasFirst {L C : Type 0} (ps : List (Part L C)) : Type 0 where
  first : Part L C
  more : List (Part L C)
  so : ps ≡ first ∷ more

has_first : {L C : Type 0} (marks : List (Mark L C)) (last : Part L C) → HasFirst (parts marks (last ∷ []))
has_first [] last = record { first = last; more = []; so = refl }
has_first {L} {C} (Plain item ∷ marks) last =
    let h : HasFirst (parts marks (last ∷ [])) = has_first marks last in
    let first : Part L C = record { items = item ∷ h.first.items; close = h.first.close } in
    record { first = first; more = h.more; so = ap (before item) h.so }
has_first {L} {C} (Cut close ∷ marks) last =
    let first : Part L C = record { items = []; close = close } in
    record { first = first; more = parts marks (last ∷ []); so = refl }

joined_before : {L C : Type 0} (item : L) (part : Part L C) (more : List (Part L C))
    → joined (before item (part ∷ more)) ≡ Plain item ∷ joined (part ∷ more)
joined_before item part [] = refl
joined_before item part (next ∷ more) = refl

pub loses_nothing : {L C : Type 0} (marks : List (Mark L C)) (last : Part L C) → LosesNothing marks last
loses_nothing [] last = refl
loses_nothing (Plain item ∷ marks) last =
    let h : HasFirst (parts marks (last ∷ [])) = has_first marks last in
    ap (λ ps. joined (before item ps)) h.so ∙ joined_before item h.first h.more
    ∙ ap (λ ps. Plain item ∷ joined ps) (sym h.so) ∙ ap (λ ms. Plain item ∷ ms) (loses_nothing marks last)
loses_nothing {L} {C} (Cut close ∷ marks) last =
    let h : HasFirst (parts marks (last ∷ [])) = has_first marks last in
    let first : Part L C = record { items = []; close = close } in
    ap (λ ps. joined (first ∷ ps)) h.so
    ∙ ap (λ ps. Cut close ∷ joined ps) (sym h.so) ∙ ap (λ ms. Cut close ∷ ms) (loses_nothing marks last)
