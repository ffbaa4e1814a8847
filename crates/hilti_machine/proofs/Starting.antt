-- Threads that ran nothing, and calls that begin.
use Rattle.std.proofs.Common.{◌≡◌, ℕ, ◌<◌, true, false, List, [], ◌∷◌, ◌++◌, map, refl, sym}
use Rattle.std.proofs.Common.{ap, ◌∙◌, subst}
use Rattle.std.proofs.Common.{append-nil, length, take, Option, Some, None, IfSome, IsSomeAnd}
use Rattle.std.proofs.Common.{slice_get}
use Rattle.std.specs.List.{AllZip}
use Rattle.std.specs.Option.{option_map}
use Rattle.std.proofs.lemmas.Option.{slice_get_within, same_Some}
use Rattle.hilti_base.specs.declared.names.FnId.{FnId}
use Rattle.hilti_types.specs.declared.declared.Declared.{Declared}
use Rattle.hilti_types.specs.declared.value_type.ValueType.{ValueType}
use Rattle.hilti_tree.specs.declared.call.Call.{Call}
use Rattle.hilti_tree.specs.declared.tree.Tree.{Tree}
use Rattle.hilti_parts.specs.declared.parts.Function.{Function}
use Rattle.hilti_parts.specs.declared.parts.Parts.{Parts}
use Rattle.hilti_typing.specs.Context.{Signature}
use Rattle.hilti_typing.specs.Programs.{signature, bare_signature}
use Rattle.hilti_program.specs.Programs.{IsEntryOf}
use Rattle.hilti_calls.specs.Parts.{parts_of}
use Rattle.hilti_calls.specs.Stack.{rest}
use Rattle.hilti_heap.specs.Held.{all_held}
use Rattle.hilti_heap.specs.Stands.{StandsFor}
use Rattle.hilti_heap.proofs.Standing.{empty_fits, empty_stands}
use Rattle.hilti_effects.specs.State.{State}
use Rattle.hilti_effects.specs.Acting.{at, entry, language}
use Rattle.hilti_effects.specs.Effect.{Waiting.Caller, Waiting.Behind, pending, opens}
use Rattle.hilti_effects.specs.Effect.{waits}
use Rattle.hilti_effects.specs.Effect.{closing, state_of, fresh, first_of, state_after, outcome}
use Rattle.hilti_effects.specs.Effect.{value_of_tree}
use Rattle.hilti_shapes.specs.Needs.{Kinds, Have, Meets, no_kinds}
use Rattle.hilti_code.specs.Runnable.{IsTypedProgram}
use Rattle.hilti_shapes.specs.Places.{AreShared}
use Rattle.hilti_shapes.specs.Keeping.{Begins, GoesOn}
use Rattle.hilti_shapes.proofs.Threads.{entries_are_typed, fresh_threads_are_typed}
use Rattle.hilti_openings.specs.Openings.{Opens}
use Rattle.hilti_openings.specs.declared.entries.Opened.{Opened}
use Rattle.hilti_openings.proofs.Holding.{begin_with_nothing}
use Rattle.hilti_acting.specs.Acts.{thread}
use Rattle.hilti_acting.proofs.Counts.{fits_same}
use Rattle.hilti_machine.specs.declared.calling.Calling.{Calling}
use Rattle.hilti_machine.specs.Begun.{IsBegun, OpensCall, opened}
use Rattle.hilti_machine.specs.Sound.{IsSound, IsArgument}
use Rattle.hilti_machine.specs.Threads.{Facts, Thread, IsResting, IsRunning, IsTypedOpening}
use Rattle.hilti_machine.specs.Threads.{runs, runs_by, state_behind, bottom, waiting_in}
use Rattle.hilti_machine.specs.Threads.{top_of, still}
use Rattle.hilti_machine.proofs.Counting.{alone_fits}
use Rattle.hilti_machine.proofs.Typing.{call_of}

-- one call more
pub state_next : (parts : Parts) (fuel : ℕ) (st : State) (calls : List Call) (call : Call)
    → state_of (outcome parts fuel (state_after parts fuel st calls) call)
    ≡ state_after parts fuel st (calls ++ call ∷ [])
state_next parts fuel st [] call = refl
state_next parts fuel st (c ∷ calls) call =
    state_next parts fuel (state_of (outcome parts fuel st c)) calls call

-- arguments are of the types of their parameters
pub arguments_have : (table : List Declared) (kinds : Kinds) (trees : List Tree)
    (types : List ValueType) → AllZip (IsArgument table) trees types
    → Have table kinds (map value_of_tree trees) types
arguments_have table kinds [] [] h = tt
arguments_have table kinds (tree ∷ trees) (t ∷ types) h = (
  subst (λ o. IsSomeAnd o (Meets kinds)) (sym h.0.fits) tt,
  arguments_have table kinds trees types h.1,
)
arguments_have table kinds [] (t ∷ types) h = absurd h
arguments_have table kinds (tree ∷ trees) [] h = absurd h

module _ (parts : Parts) (program : IsTypedProgram parts) where
  -- a function that is opened with arguments of its parameters' types
  module _ (f : FnId) (trees : List Tree) (o : Opened) (opens_it : Opens parts f trees o) where
    begins_by : (function : Function) → slice_get parts.functions f.n ≡ Some function
        → AllZip (IsArgument parts.types) trees (take function.params function.slots)
        → (kinds : Kinds) → Begins parts kinds (at o.position o.stack.slots)
    begins_by function stands h kinds =
        subst (Begins parts kinds) (sym opens_it.top)
        (entries_are_typed parts program f function None (map value_of_tree trees) kinds stands
        (arguments_have parts.types kinds trees (take function.params function.slots) h))

    pub opening_by : (function : Function) → slice_get parts.functions f.n ≡ Some function
        → AllZip (IsArgument parts.types) trees (take function.params function.slots)
        → IsTypedOpening parts o
    opening_by function stands h = record {
      begins = begins_by function stands h;
      alone = opens_it.alone;
      none_made = opens_it.none_made;
      holds = (begin_with_nothing parts).calls f trees o opens_it;
    }

  -- a function without parameters
  bare : (f : FnId) (o : Opened) → Opens parts f [] o → IsEntryOf parts bare_signature f
      → IsTypedOpening parts o
  bare f o opens_it e = go (slice_get parts.functions f.n) refl e.entry.takes
    where
      go : (found : Option Function) → slice_get parts.functions f.n ≡ found
          → option_map signature found ≡ Some bare_signature → IsTypedOpening parts o
      go None is takes = absurd cc
      go (Some function) is takes =
          opening_by f [] o opens_it function is
          (subst (AllZip (IsArgument parts.types) [])
          (sym (ap (λ (s : Signature). s.parameters)
          (same_Some (signature function) bare_signature takes))) tt)

-- where a call is that begins
record Opening (parts : Parts) (first : Option FnId) (call : Call) (c : Calling) : Type 0 where
  top : top_of c ≡ opens parts first call
  waiting : waiting_in c ≡ waits parts first call
  typed : IsTypedOpening parts (opened c)
  behind : IfSome c.behind (IsTypedOpening parts)

module _ (facts : Facts) (program : IsTypedProgram facts.parts) (call : Call) (c : Calling)
    (sound : IsSound facts call) where
  own : (o : Opened) → Opens facts.parts call.function call.args o → IsTypedOpening facts.parts o
  own o opens_it =
      opening_by facts.parts program call.function call.args o opens_it sound.function sound.stands
      sound.arguments

  no_callers : c.stack.below ≡ [] → (b : Option Opened) → c.behind ≡ b → waiting_in c ≡ bottom b
  no_callers empty b is =
      ap (λ ws. bottom c.behind ++ map Caller ws) empty ∙ append-nil (bottom c.behind) ∙ ap bottom is

  second : (f : FnId) → Opens facts.parts f [] (opened c) → IsEntryOf facts.parts bare_signature f
      → (b : Option Opened) → c.behind ≡ b
      → IsSomeAnd b (Opens facts.parts call.function call.args)
      → Opening facts.parts (Some f) call c
  second f top entry None is h = absurd h
  second f top entry (Some o) is h = record {
    top = top.top;
    waiting = no_callers top.alone (Some o) is ∙ ap (λ w. Behind w ∷ []) h.top;
    typed = bare facts.parts program f (opened c) top entry;
    behind = subst (λ b. IfSome b (IsTypedOpening facts.parts)) (sym is) (own o h);
  }

  opening_of : (first : Option FnId) → IfSome first (IsEntryOf facts.parts bare_signature)
      → OpensCall facts.parts first call c → Opening facts.parts first call c
  opening_of None entry h = record {
    top = h.0.top;
    waiting = no_callers h.0.alone None h.1;
    typed = own (opened c) h.0;
    behind = subst (λ b. IfSome b (IsTypedOpening facts.parts)) (sym h.1) tt;
  }
  opening_of (Some f) entry h = second f h.0 entry c.behind refl h.1

  module _ (vt : Thread) (number : ℕ) (finished : List Call) (first : Option FnId)
      (resting : IsResting facts vt number finished)
      (is_first : first ≡ first_of facts.parts vt.ran)
      (entry : IfSome first (IsEntryOf facts.parts bare_signature))
      (begun : IsBegun facts.parts first call facts.fuel c) where
    abbrev pub before : State
    before = state_behind facts number finished

    -- a call began
    abbrev pub st : State
    st = thread vt.number true vt.memory.globals.items resting.store

    same_state : st ≡ record before { ran = true }
    same_state = ap (λ (s : State). record s { ran = true }) resting.state

    same_first : first ≡ first_of facts.parts before.ran
    same_first =
        is_first ∙ ap (λ (s : State). first_of facts.parts s.ran) resting.state

    opening : Opening facts.parts (first_of facts.parts before.ran) call c
    opening =
        subst (λ f. Opening facts.parts f call c) same_first (opening_of first entry begun.opens)

    same_outcome : still facts.parts c st ≡ outcome facts.parts facts.fuel before call
    same_outcome =
        ap (λ ws. rest (language facts.parts) (pending facts.parts) ws (top_of c) st c.fuel)
        opening.waiting
        ∙ ap (λ f. rest (language facts.parts) (pending facts.parts)
        (waits facts.parts (first_of facts.parts before.ran) call) f st c.fuel) opening.top
        ∙ ap (λ s. rest (language facts.parts) (pending facts.parts)
        (waits facts.parts (first_of facts.parts before.ran) call)
        (opens facts.parts (first_of facts.parts before.ran) call) s c.fuel) same_state
        ∙ ap (rest (language facts.parts) (pending facts.parts)
        (waits facts.parts (first_of facts.parts before.ran) call)
        (opens facts.parts (first_of facts.parts before.ran) call) (record before { ran = true }))
        begun.full

    goes : GoesOn facts.parts resting.kinds [] (top_of c) st
    goes = (opening.typed.begins resting.kinds).alone st resting.typed

    pub started :
        IsRunning facts (record vt { ran = true; calling = Some c }) number finished c
        (record { call = call; given = 0 })
    started = record {
      store = resting.store;
      stands = resting.stands;
      function = begun.function;
      ahead =
          ap (λ o. parts_of (closing facts.parts c.function) o) same_outcome
          ∙ ap (λ f. parts_of (closing facts.parts f)
          (outcome facts.parts facts.fuel before call)) begun.function;
      leaves =
          ap state_of same_outcome
          ∙ state_next facts.parts facts.fuel (fresh facts.parts number) finished call;
      suspended = (opening.top, same_state);
      fits = alone_fits vt.memory.heap c.stack vt.memory.globals.items opening.typed.alone
          opening.typed.none_made opening.typed.holds resting.fits;
      typed = call_of facts.parts c.top c.stack st resting.kinds [] goes c refl refl
          opening.typed.alone opening.typed.none_made opening.behind
          (subst (λ (f : FnId). f.n < length facts.parts.functions) (sym begun.function)
          (slice_get_within facts.parts.functions call.function.n sound.function sound.stands));
    }

-- a thread that ran nothing
pub fresh_rests : (facts : Facts) → IsTypedProgram facts.parts → (vt : Thread)
    → vt.ran ≡ false
    → vt.memory.globals.items ≡ (fresh facts.parts vt.number).globals
    → vt.memory.heap.next ≡ 0 → vt.memory.heap.cells ≡ []
    → IsResting facts vt vt.number []
fresh_rests facts program vt ran globals next cells =
    let new = fresh facts.parts vt.number in record {
      store = new.store;
      stands = subst (λ n. StandsFor vt.memory.heap (record { next = n; object = λ s. None })) next
          (empty_stands vt.memory.heap cells);
      state =
          ap (λ b. thread vt.number b vt.memory.globals.items new.store) ran
          ∙ ap (λ gs. thread vt.number false gs new.store) globals;
      fits = fits_same vt.memory.heap (λ s. 0) (λ s. all_held s vt.memory.globals.items)
          (λ s.
          ap (all_held s) globals ∙ (begin_with_nothing facts.parts).threads vt.number s)
          (empty_fits vt.memory.heap cells);
      kinds = no_kinds;
      typed = subst (λ gs. AreShared facts.parts gs no_kinds new.store) (sym globals)
          (fresh_threads_are_typed facts.parts program vt.number);
    }

-- no call is in progress
pub rests : (facts : Facts) (vt : Thread) (number : ℕ) (finished : List Call)
    → runs facts vt number finished None → IsResting facts vt number finished
rests facts vt number finished h = go vt.calling h
  where
    go : (c : Option Calling) → runs_by facts vt number finished c None
        → IsResting facts vt number finished
    go None h = h
    go (Some c) h = absurd h

pub starts : (facts : Facts) (parts : Parts) (fuel : ℕ) (vt seen : Thread) (call : Call)
    (c : Calling) (first : Option FnId) → IsTypedProgram facts.parts → parts ≡ facts.parts
    → fuel ≡ facts.fuel → seen ≡ vt → IsSound facts call → first ≡ first_of facts.parts seen.ran
    → IfSome first (IsEntryOf facts.parts bare_signature) → IsBegun parts first call fuel c
    → (number : ℕ) (finished : List Call) → runs facts vt number finished None
    → IsRunning facts (record seen { ran = true; calling = Some c }) number finished c
    (record { call = call; given = 0 })
starts facts parts fuel vt seen call c first program same full view sound is_first entry begun
    number finished h =
    started facts program call c sound seen number finished first
    (rests facts seen number finished
    (subst (λ t. runs facts t number finished None) (sym view) h))
    is_first entry
    (subst (λ p. IsBegun p first call facts.fuel c) same
    (subst (λ n. IsBegun parts first call n c) full begun))
