-- A raise keeps types: a handler takes its text, or the function ends.
use Rattle.std.proofs.Common.{◌≡◌, ℕ, ◌<◌, Bool, List, length, refl, sym, ap, ◌∙◌, Option, Some, None, find}
use Rattle.std.specs.Prelude.{slice_set}
use Rattle.std.specs.List.{All, AllByRecursion}
use Rattle.std.proofs.lemmas.List.Folds.{find_at}
use Rattle.std.specs.List.{position_or_len}
use Rattle.std.proofs.lemmas.Option.{slice_get_within}
use Rattle.hilti_base.specs.declared.refusal.Raise.{Raise}
use Rattle.hilti_types.specs.declared.value_type.ValueType.TheVariants as types
use Rattle.hilti_parts.specs.declared.parts.Handler.{Handler}
use Rattle.hilti_parts.specs.declared.parts.Parts.{Parts}
use Rattle.hilti_raise.specs.Handlers.{block_at}
use Rattle.hilti_typing.specs.Exceptions.{raise_number}
use Rattle.hilti_typing.specs.Programs.{context, IsTypedHandler}
use Rattle.hilti_typing.proofs.Exceptions.{exceptions_make_tree}
use Rattle.hilti_calls.specs.Calls.{Back.On, Back.Out}
use Rattle.hilti_values.specs.declared.value.Value.{Value}
use Rattle.hilti_values.specs.declared.value.Value.TheVariants as values
use Rattle.hilti_stack.specs.declared.head.Head.TheVariants as heads
use Rattle.hilti_stack.specs.declared.head.Position.{Position}
use Rattle.hilti_stack.specs.Frames.{Frame, frame}
use Rattle.hilti_effects.specs.State.{State, GoesBack}
use Rattle.hilti_effects.specs.Raising.{catches, catching, to_block, to_handler, raised, as_action}
use Rattle.hilti_shapes.specs.Needs.{Kinds, Grows, Has}
use Rattle.hilti_code.specs.Runnable.{IsTypedProgram}
use Rattle.hilti_shapes.specs.Places.{IsAt, IsFrame, Chain, IsState}
use Rattle.hilti_shapes.specs.Keeping.{GoesOn, Keeps, KeepsBack}
use Rattle.hilti_shapes.proofs.Growing.{same_kinds, zip_put}
use Rattle.hilti_shapes.proofs.Values.{has_text}
use Rattle.hilti_shapes.proofs.Chains.{Same, chain_same, below_grow}
use Rattle.hilti_shapes.proofs.Entering.{all_at, block_typed, block_here, block_begins}

pub found_holds : {A : Type 0} (P : A → Type 0) (test : A → Bool) (xs : List A) (x : A) → All P xs
    → find test xs ≡ Some x → P x
found_holds P test xs x h e = all_at P xs (position_or_len test xs) x h (sym (find_at test xs) ∙ e)

pub action_kept : (parts : Parts) (k : Kinds) (p : Position) (below : List Frame) (b : GoesBack)
    → KeepsBack parts k p below b → Keeps parts k p below (as_action b)
action_kept parts k p below (On f st) h = h
action_kept parts k p below (Out e st) h = h

module _ (parts : Parts) (program : IsTypedProgram parts) (p : Position) (below : List Frame) (k : Kinds) (below_are
    : AllByRecursion (IsFrame parts k) below) (chain : Chain parts below p) where
  -- the function goes on, by types that grew
  pub goes : (l : Kinds) → Grows k l → (q : Position) → Same p q → (slots : List Value) → IsAt parts q slots l
      → (st : State) → IsState parts l st → GoesOn parts k below (frame (heads.Function q) slots) st
  goes l g q same slots a st s = record {
    grown = l;
    grows = g;
    position = q;
    stands = refl;
    config = record {
      top = a;
      below = below_grow parts k l g below below_are;
      chain = chain_same parts below p q
          same chain;
      shared = s;
      none_made = refl;
    };
  }

  handled : (slots : List Value) (st : State) (e : ℕ) (text : List ℕ) (a : IsAt parts p slots k)
      → IsState parts k st → e < length parts.exceptions → (o : Option Handler)
      → ((h : Handler) → o ≡ Some h → IsTypedHandler (context parts p.function.n a.function) a.function.params h)
      → KeepsBack parts k p below (to_handler p slots st e text o)
  handled slots st e text a s there None typed = record {
    ending_is = there;
    below_are = below_are;
    chain = chain;
    state = s;
  }
  handled slots st e text a s there (Some h) typed =
      let t = typed h refl in
      goes k (same_kinds k) (to_block p h.block) (record { function = refl; target = refl }) (slice_set slots h.slot
      (values.Text text))
      (block_begins parts program p slots (slice_set slots h.slot (values.Text text)) k k h.block a t.goes_on
      (zip_put (Has parts.types k) slots a.function.slots h.slot (values.Text text) types.Text a.slots_are t.text
      (has_text parts.types k text)))
      st s

  pub raised_kept : (slots : List Value) (st : State) (e : ℕ) (text : List ℕ) (a : IsAt parts p slots k)
      → IsState parts k st → e < length parts.exceptions → KeepsBack parts k p below (raised parts p slots st e text)
  unfolding raised
  raised_kept slots st e text a s there =
      handled slots st e text a s there (catching parts.exceptions e (block_at parts p.function.n p.block))
      (λ h i. found_holds (IsTypedHandler (context parts p.function.n a.function) a.function.params) (catches
      parts.exceptions e) a.block.handlers h (block_typed parts program p slots k a).handlers
      (sym (ap (catching parts.exceptions e) (block_here parts program p slots k a)) ∙ i))

  -- what instructions raise by themselves is an exception of the program
  pub raise_there : (r : Raise) → raise_number r < length parts.exceptions
  raise_there r = slice_get_within parts.exceptions (raise_number r) _ ((exceptions_make_tree parts.exceptions
      program.typed.exceptions).raised r)
