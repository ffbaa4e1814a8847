-- Calls that begin.
use Rattle.std.specs.Prelude.{◌≡◌, ℕ, [], Option, Some, None, IsSomeAnd}
use Rattle.hilti_base.specs.declared.names.FnId.{FnId}
use Rattle.hilti_tree.specs.declared.call.Call.{Call}
use Rattle.hilti_parts.specs.declared.parts.Parts.{Parts}
use Rattle.hilti_openings.specs.Openings.{Opens}
use Rattle.hilti_openings.specs.declared.entries.Opened.{Opened}
use Rattle.hilti_machine.specs.declared.calling.Calling.{Calling}

-- the top of a call, as a function that begins
abbrev pub opened : Calling → Opened
opened c = record { position = c.top; stack = c.stack }

-- the call's own function begins, or the one that runs first, with the own one behind it
abbrev pub OpensCall : Parts → Option FnId → Call → Calling → Type 0
OpensCall parts None call c =
    Opens parts call.function call.args (opened c) × (c.behind ≡ None)
OpensCall parts (Some f) call c =
    Opens parts f [] (opened c) × IsSomeAnd c.behind (Opens parts call.function call.args)

-- a call at its first instruction, with all its fuel
pub record IsBegun (parts : Parts) (first : Option FnId) (call : Call) (fuel : ℕ) (c : Calling)
    : Type 0 where
  pub function : c.function ≡ call.function
  pub opens : OpensCall parts first call c
  pub full : c.fuel ≡ fuel
