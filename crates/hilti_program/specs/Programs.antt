-- What a program keeps, and what its numbers and names stand for.
use Rattle.std.specs.Prelude.{◌≡◌, ℕ, ◌<◌, List, Option, Some, codes, length, slice_get, IfSome}
use Rattle.std.specs.List.{All}
use Rattle.std.specs.Option.{option_map}
use Rattle.hilti_base.specs.declared.names.FnId.{FnId}
use Rattle.hilti_parts.specs.declared.parts.Parts.{Parts}
use Rattle.hilti_parts.specs.declared.parts.Exception.{Exception}
use Rattle.hilti_parts.specs.declared.parts.Hook.{Hook}
use Rattle.hilti_parts.specs.declared.parts.Function.{Function}
use Rattle.hilti_typing.specs.Context.{Signature}
use Rattle.hilti_typing.specs.Programs.{AreTyped, function_named, IsTypedFunction, IsBodyOf}
use Rattle.hilti_typing.specs.Programs.{IsEntry}
use Rattle.hilti_typing.specs.Programs.{IsShort, IsShortFunction}

-- the first function of a name
abbrev pub named : Parts → List ℕ → Option FnId
named parts name = option_map (λ (n : ℕ). record { n = n }) (function_named parts name)

-- an entry of a program: it is there, no body of a hook, and takes and gives just this
pub record IsEntryOf (parts : Parts) (asked : Signature) (f : FnId) : Type 0 where
  pub within : f.n < length parts.functions
  pub entry : IsEntry parts asked f.n

-- typed parts, with the entries that they have
pub record IsProgram (parts : Parts) (at_packet : FnId)
    (at_init at_done : Option FnId) : Type 0 where
  pub typed : AreTyped parts
  pub packet : named parts (codes "Main::packet") ≡ Some at_packet
  pub init : named parts (codes "Main::init") ≡ at_init
  pub done : named parts (codes "Main::done") ≡ at_done

-- a function of a program: it stands at its number, is typed, and its places are numbers of 32 bits
pub record IsFunctionOf (parts : Parts) (f : FnId) (function : Function) : Type 0 where
  pub stands : slice_get parts.functions f.n ≡ Some function
  pub typed : IsTypedFunction parts f.n function
  pub short : IsShortFunction function

-- an exception of a program: it stands at its number, and its parent before it
pub record IsExceptionOf (parts : Parts) (n : ℕ) (exception : Exception) : Type 0 where
  pub stands : slice_get parts.exceptions n ≡ Some exception
  pub parent : IfSome exception.parent (λ p. p < n)

-- a hook of a program: it stands at its number, and each of its bodies takes what it takes
pub record IsHookOf (parts : Parts) (n : ℕ) (hook : Hook) : Type 0 where
  pub stands : slice_get parts.hooks n ≡ Some hook
  pub bodies : All (IsBodyOf parts hook) hook.bodies
  pub short : IsShort hook.bodies
