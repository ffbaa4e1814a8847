-- What a raise does in a function: a handler of the block takes it, or the function ends.
use Rattle.std.specs.Prelude.{ℕ, zero, suc, nat_eq, Bool, false, ◌||◌, List, [], Option, Some, None}
use Rattle.std.specs.Prelude.{find, slice_set}
use Rattle.hilti_parts.specs.declared.parts.Parts.{Parts}
use Rattle.hilti_parts.specs.declared.parts.Exception.{Exception}
use Rattle.hilti_parts.specs.declared.parts.Block.{Block}
use Rattle.hilti_parts.specs.declared.parts.Handler.{Handler}
use Rattle.hilti_raise.specs.Handlers.{block_at}
use Rattle.hilti_typing.specs.Exceptions.{parent_of}
use Rattle.hilti_calls.specs.Calls.{Action.Go, Action.Leave, Back.On, Back.Out}
use Rattle.hilti_stack.specs.declared.head.Position.{Position}
use Rattle.hilti_stack.specs.declared.head.Head.TheVariants as heads
use Rattle.hilti_stack.specs.Frames.{frame}
use Rattle.hilti_values.specs.declared.value.Value.{Value}
use Rattle.hilti_values.specs.declared.value.Value.TheVariants as values
use Rattle.hilti_effects.specs.declared.ending.Ending.TheVariants as endings
use Rattle.hilti_effects.specs.State.{State, Does, GoesBack}

-- whether an exception, if there is one, is another or stands at most so many steps below it
abbrev pub is_below_by : List Exception → ℕ → Option ℕ → ℕ → Bool
is_below_by exceptions steps None other = false
is_below_by exceptions zero (Some e) other = nat_eq e other
is_below_by exceptions (suc steps) (Some e) other =
    nat_eq e other || is_below_by exceptions steps (parent_of exceptions e) other

-- an exception's parent has a smaller number, so it has no more steps above it than its number
abbrev pub catches : List Exception → ℕ → Handler → Bool
catches exceptions raised h = is_below_by exceptions raised (Some raised) h.exception

-- the first handler of a block that catches an exception
abbrev pub catching : List Exception → ℕ → Option Block → Option Handler
catching exceptions raised None = None
catching exceptions raised (Some block) = find (catches exceptions raised) block.handlers

abbrev pub to_block : Position → ℕ → Position
to_block p block = record p { block = block; at = 0 }

-- the text goes to the handler's slot, and the function goes on at its block
abbrev pub to_handler : Position → List Value → State → ℕ → List ℕ → Option Handler → GoesBack
to_handler p slots st e text None = Out (endings.Raised e text) st
to_handler p slots st e text (Some h) =
    On (frame (heads.Function (to_block p h.block)) (slice_set slots h.slot (values.Text text))) st

-- an exception with a text is raised in a function
unfoldable pub raised : Parts → Position → List Value → State → ℕ → List ℕ → GoesBack
raised parts p slots st e text =
    to_handler p slots st e text
    (catching parts.exceptions e (block_at parts p.function.n p.block))

-- by an instruction of the function itself
abbrev pub as_action : GoesBack → Does
as_action (On frame st) = Go [] frame st
as_action (Out ending st) = Leave ending st
