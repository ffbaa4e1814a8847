-- Which handler catches a raise.
use Rattle.std.specs.Prelude.{◌≡◌, ℕ, ◌<◌, List, Option, Some, slice_get, MatchOption}
use Rattle.std.specs.List.{All}
use Rattle.std.specs.Option.{option_and_then}
use Rattle.hilti_parts.specs.declared.parts.Parts.{Parts}
use Rattle.hilti_parts.specs.declared.parts.Exception.{Exception}
use Rattle.hilti_parts.specs.declared.parts.Function.{Function}
use Rattle.hilti_parts.specs.declared.parts.Block.{Block}
use Rattle.hilti_parts.specs.declared.parts.Handler.{Handler}
use Rattle.hilti_typing.specs.Exceptions.{IsBelow}
use Rattle.hilti_typing.specs.Programs.{context, IsTypedHandler}

-- the block of a function
abbrev pub block_at : Parts → ℕ → ℕ → Option Block
block_at parts f at =
    option_and_then (λ (function : Function). slice_get function.blocks at)
    (slice_get parts.functions f)

-- a handler catches its own exception, and those below it
abbrev pub Catches : List Exception → ℕ → Handler → Type 0
Catches exceptions raised h = IsBelow exceptions raised h.exception

-- a handler catches a raise, and none before it does
pub record IsFirst (exceptions : List Exception) (raised : ℕ) (handlers : List Handler)
    (h : Handler) : Type 0 where
  pub at : ℕ
  pub stands : slice_get handlers at ≡ Some h
  pub catches : Catches exceptions raised h
  pub none_before : (k : ℕ) (g : Handler) → k < at → slice_get handlers k ≡ Some g →
      Catches exceptions raised g → ⊥

-- no handler catches a raise
abbrev pub NoneCatches : List Exception → ℕ → List Handler → Type 0
NoneCatches exceptions raised handlers = All (λ h. Catches exceptions raised h → ⊥) handlers

-- the first handler that catches a raise, or nothing where none does
abbrev pub IsCatching : List Exception → ℕ → List Handler → Option Handler → Type 0
IsCatching exceptions raised handlers found =
    MatchOption found (NoneCatches exceptions raised handlers)
    (IsFirst exceptions raised handlers)

-- a handler of a function of a program, typed in it
abbrev pub IsHandlerOf : Parts → ℕ → Handler → Type 0
IsHandlerOf parts f h =
    (function : Function) → slice_get parts.functions f ≡ Some function →
    IsTypedHandler (context parts f function) function.params h
