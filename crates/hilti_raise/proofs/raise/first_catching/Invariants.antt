use Rattle.std.proofs.Common.{ℕ, ◌<◌, get_or}
use Rattle.hilti_parts.specs.declared.parts.Handler.{Handler}
use Rattle.hilti_raise.specs.Handlers.{Catches}
use Rattle.hilti_raise.proofs.raise.first_catching.Given as goal

-- no handler so far catches the raise
abbrev pub invariant-loop-handler : goal.invariant-loop-handler
invariant-loop-handler l = (k : ℕ) (d : Handler) → k < l.handler-index → Catches l.program.exceptions l.exception (get_or l.handlers k d) → ⊥
