-- No function ends as a body of a hook does that stops its run.
use Rattle.std.proofs.Common.{◌≡◌, ℕ, List, [], subst, Option, Some, None, Result, Ok, Err}
use Rattle.hilti_base.specs.declared.refusal.Raise.{Raise}
use Rattle.hilti_parts.specs.declared.parts.Parts.{Parts}
use Rattle.hilti_parts.specs.declared.parts.Handler.{Handler}
use Rattle.hilti_parts.specs.declared.parts.Variable.{Variable}
use Rattle.hilti_raise.specs.Handlers.{block_at}
use Rattle.hilti_typing.specs.Exceptions.{raise_number}
use Rattle.hilti_calls.specs.Calls.{Action.Leave}
use Rattle.hilti_heap.specs.Stores.{Answer, Answer.Done, Answer.Raised}
use Rattle.hilti_heap_ops.specs.Meaning.{struct_new, struct_get, struct_set, struct_unset}
use Rattle.hilti_heap_ops.specs.Meaning.{struct_is_set, callable_bind}
use Rattle.hilti_rows.specs.declared.row.Row.{Row}
use Rattle.hilti_rows.specs.declared.row.Row.TheVariants as rows
use Rattle.hilti_rows.specs.declared.row.StructRow.{StructRow}
use Rattle.hilti_rows.specs.declared.row.StructRow.TheVariants as structs
use Rattle.hilti_scalar_ops.specs.Computing.{unary_of, binary_of}
use Rattle.hilti_scalar_ops.specs.declared.computing.Made.{Made}
use Rattle.hilti_scalar_ops.specs.declared.computing.Made.TheVariants as made
use Rattle.hilti_stack.specs.declared.head.Head.{Head}
use Rattle.hilti_stack.specs.declared.head.Head.TheVariants as heads
use Rattle.hilti_stack.specs.declared.head.Position.{Position}
use Rattle.hilti_stack.specs.Frames.{Frame}
use Rattle.hilti_values.specs.declared.value.Value.{Value}
use Rattle.hilti_effects.specs.State.{State, Does}
use Rattle.hilti_effects.specs.Operands.{value_at, values_at}
use Rattle.hilti_effects.specs.Printing.{shown, printed_line}
use Rattle.hilti_effects.specs.Raising.{raised, as_action, to_handler, catching}
use Rattle.hilti_effects.specs.Acting.{act, act_if, act_on, on_struct, answers, gives, prints}
use Rattle.hilti_effects.specs.Acting.{row_at, fields_of, text_of}
use Rattle.hilti_effects.specs.declared.ending.Ending.{Ending}
use Rattle.hilti_machine.specs.Steps.{IsNotStopped}

abbrev Goes : Does → Type 0
Goes (Leave e st) = IsNotStopped e
Goes _ = Unit {0}

module _ (parts : Parts) (p : Position) (slots : List Value) (st : State) where
  by_handler : (e : ℕ) (text : List ℕ) (h : Option Handler)
      → Goes (as_action (to_handler p slots st e text h))
  by_handler e text (Some h) = tt
  by_handler e text None = tt

  by_raise : (e : ℕ) (text : List ℕ) → Goes (as_action (raised parts p slots st e text))
  unfolding raised
  by_raise e text =
      by_handler e text (catching parts.exceptions e (block_at parts p.function.n p.block))

  by_made : (t : Variable) (m : Made) → Goes (gives parts p slots st t m)
  by_made t (made.Gives value) = tt
  by_made t (made.Raises r) = by_raise (raise_number r) []

  by_answer : (t : Option Variable) (a : Answer) → Goes (answers parts p slots st t a)
  by_answer t (Done result store) = tt
  by_answer t (Raised r) = by_raise (raise_number r) []

  by_print : (line : Result (List ℕ) Raise) → Goes (prints parts p slots st line)
  by_print (Ok text) = tt
  by_print (Err r) = by_raise (raise_number r) []

  by_struct : (row : StructRow) → Goes (on_struct parts p slots st row)
  by_struct (structs.New t n) = by_answer (Some t) (struct_new (fields_of parts n) st.store)
  by_struct (structs.Get t o n) =
      by_answer (Some t) (struct_get (value_at slots st.globals o) n st.store)
  by_struct (structs.Set o n x) =
      by_answer None
      (struct_set (value_at slots st.globals o) n (value_at slots st.globals x) st.store)
  by_struct (structs.Unset o n) =
      by_answer None (struct_unset (value_at slots st.globals o) n st.store)
  by_struct (structs.IsSet t o n) =
      by_answer (Some t) (struct_is_set (value_at slots st.globals o) n st.store)

  by_row : (row : Row) → Goes (act_on parts p slots st row)
  unfolding act_on
  by_row rows.Nop = tt
  by_row (rows.Unary op t a) = by_made t (unary_of op (value_at slots st.globals a))
  by_row (rows.Binary op t a b) =
      by_made t (binary_of op (value_at slots st.globals a) (value_at slots st.globals b))
  by_row (rows.Select t c a b) = tt
  by_row (rows.IsNull t a) = tt
  by_row (rows.Print items) =
      by_print (printed_line parts.types (shown slots st.globals items))
  by_row rows.Yield = tt
  by_row (rows.Call f arguments t) = tt
  by_row (rows.Bind t f arguments) =
      by_answer (Some t) (callable_bind f.n (values_at slots st.globals arguments) st.store)
  by_row (rows.Jump block) = tt
  by_row (rows.IfElse c a b) = tt
  by_row rows.ReturnVoid = tt
  by_row (rows.ReturnResult value) = tt
  by_row (rows.Throw e text) = by_raise e (text_of (value_at slots st.globals text))
  by_row (rows.Struct row) = by_struct row

  by_option : (row : Option Row) → Goes (act_if parts p slots st row)
  by_option (Some row) = by_row row
  by_option None = tt

by_head : (parts : Parts) (head : Head) (slots : List Value) (st : State)
    → Goes (act parts (record { head = head; slots = slots }) st)
unfolding act
by_head parts (heads.Function p) slots st = by_option parts p slots st (row_at parts p)
by_head parts (heads.Hook hook next) slots st = tt
by_head parts heads.Advance slots st = tt

pub leaves_not_stopped : (parts : Parts) (f : Frame) (st : State) (e : Ending) (st' : State)
    → act parts f st ≡ Leave e st' → IsNotStopped e
leaves_not_stopped parts f st e st' so = subst Goes so (by_head parts f.head f.slots st)
