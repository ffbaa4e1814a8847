-- The exceptions of a program, and which stand above which.
use Rattle.std.specs.Prelude.{◌≡◌, ℕ, zero, suc, ◌<◌, ◌≤◌, List, [], ◌∷◌, length, take, codes}
use Rattle.std.specs.Prelude.{slice_get, Option, Some, None, IsSomeAnd}
use Rattle.std.specs.Option.{option_and_then}
use Rattle.hilti_base.specs.declared.refusal.Raise.{Raise}
use Rattle.hilti_parts.specs.declared.parts.Exception.{Exception}

-- `Exception`, which has no parent
abbrev pub the_top : Exception
the_top = record { name = codes "Exception"; parent = None }

-- an exception right below it
abbrev pub below_top : List ℕ → Exception
below_top name = record { name = name; parent = Some 0 }

-- the built-in exceptions, which stand first in every program
abbrev pub built_in_exceptions : List Exception
built_in_exceptions =
    the_top ∷ below_top (codes "ValueError") ∷ below_top (codes "IndexError")
    ∷ below_top (codes "DivisionByZero") ∷ below_top (codes "NullReference")
    ∷ below_top (codes "UnsetField") ∷ below_top (codes "StaleIterator") ∷ []

-- the built-in exceptions, and then declared ones, each with a parent that stands before it
pub record AreExceptions (exceptions : List Exception) : Type 0 where
  pub built_in : take 7 exceptions ≡ built_in_exceptions
  pub declared : (at : ℕ) (e : Exception) → slice_get exceptions at ≡ Some e → 7 ≤ at →
      IsSomeAnd e.parent (λ p. p < at)

abbrev pub parent_of : List Exception → ℕ → Option ℕ
parent_of exceptions e = option_and_then (λ (x : Exception). x.parent) (slice_get exceptions e)

-- what stands so many steps above an exception: itself, its parent, the parent of that, and so on
unfoldable pub above : List Exception → ℕ → ℕ → Option ℕ
above exceptions zero e = Some e
above exceptions (suc steps) e =
    option_and_then (λ (p : ℕ). above exceptions steps p) (parent_of exceptions e)

-- an exception is another, or stands below it by a chain of parents
abbrev pub IsBelow : List Exception → ℕ → ℕ → Type 0
IsBelow exceptions e other = (steps : ℕ) × (above exceptions steps e ≡ Some other)

-- the number of an exception that instructions raise by themselves, and its word
abbrev pub raise_number : Raise → ℕ
raise_number Raise.ValueError = 1
raise_number Raise.IndexError = 2
raise_number Raise.DivisionByZero = 3
raise_number Raise.NullReference = 4
raise_number Raise.UnsetField = 5
raise_number Raise.StaleIterator = 6

abbrev pub raise_word : Raise → List ℕ
raise_word Raise.ValueError = codes "ValueError"
raise_word Raise.IndexError = codes "IndexError"
raise_word Raise.DivisionByZero = codes "DivisionByZero"
raise_word Raise.NullReference = codes "NullReference"
raise_word Raise.UnsetField = codes "UnsetField"
raise_word Raise.StaleIterator = codes "StaleIterator"

-- what is so of the exceptions of a program: the built-in ones are found at their numbers, each
-- parent stands before what is below it, `Exception` alone has none, and stands above all
pub record ExceptionTree (exceptions : List Exception) : Type 0 where
  pub top : slice_get exceptions 0 ≡ Some the_top
  pub raised : (r : Raise) → slice_get exceptions (raise_number r) ≡ Some (below_top (raise_word r))
  pub parent_before : (e p : ℕ) → parent_of exceptions e ≡ Some p → p < e
  pub only_top : (e : ℕ) → e < length exceptions → parent_of exceptions e ≡ None → e ≡ 0
  pub below_all : (e : ℕ) → e < length exceptions → IsBelow exceptions e 0

abbrev pub ExceptionsMakeTree : Type 0
ExceptionsMakeTree =
    (exceptions : List Exception) → AreExceptions exceptions → ExceptionTree exceptions
