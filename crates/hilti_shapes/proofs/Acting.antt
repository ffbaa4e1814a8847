-- What a function does at a typed row keeps types, and so does going back to a caller.
use Rattle.std.proofs.Common.{◌≡◌, ℕ, ◌+◌, ◌<◌, Bool, true, false, cond, List, [], ◌∷◌, ◌++◌}
use Rattle.std.proofs.Common.{length, take, refl, sym, ap, Option, Some, None, IfSome, IsSomeAnd}
use Rattle.std.proofs.Common.{Result, Ok, Err, slice_get}
use Rattle.std.proofs.Math.Path.{subst}
use Rattle.std.specs.List.{AllByRecursion, AllZip}
use Rattle.std.specs.Option.{option_and_then}
use Rattle.hilti_base.specs.declared.names.FnId.{FnId}
use Rattle.hilti_base.specs.declared.refusal.Raise.{Raise}
use Rattle.hilti_types.specs.declared.value_type.Inner.TheVariants as inners
use Rattle.hilti_types.specs.declared.value_type.ValueType.{ValueType}
use Rattle.hilti_types.specs.declared.value_type.ValueType.TheVariants as types
use Rattle.hilti_parts.specs.declared.parts.Function.{Function}
use Rattle.hilti_parts.specs.declared.parts.Parts.{Parts}
use Rattle.hilti_parts.specs.declared.parts.Variable.{Variable}
use Rattle.hilti_typing.specs.Context.{Context}
use Rattle.hilti_typing.specs.Exceptions.{raise_number}
use Rattle.hilti_typing.specs.Programs.{context}
use Rattle.hilti_values.specs.declared.value.Value.{Value}
use Rattle.hilti_values.specs.declared.value.Value.TheVariants as values
use Rattle.hilti_heap.specs.Stores.{Answer, Answer.Done, Answer.Raised}
use Rattle.hilti_heap_ops.specs.Meaning.{struct_new, struct_get, struct_set, struct_unset}
use Rattle.hilti_heap_ops.specs.Meaning.{struct_is_set, is_null, callable_bind}
use Rattle.hilti_rows.specs.declared.row.Row.{Row}
use Rattle.hilti_rows.specs.declared.row.Row.TheVariants as rows
use Rattle.hilti_rows.specs.declared.row.Source.{Source}
use Rattle.hilti_rows.specs.declared.row.StructRow.{StructRow}
use Rattle.hilti_rows.specs.declared.row.StructRow.TheVariants as structs
use Rattle.hilti_scalar_ops.specs.Computing.{truth_of, unary_of, binary_of}
use Rattle.hilti_scalar_ops.specs.declared.computing.Made.{Made}
use Rattle.hilti_scalar_ops.specs.declared.computing.Made.TheVariants as made
use Rattle.hilti_stack.specs.declared.head.Head.TheVariants as heads
use Rattle.hilti_stack.specs.declared.head.Position.{Position}
use Rattle.hilti_stack.specs.Frames.{Frame, frame}
use Rattle.hilti_effects.specs.State.{State}
use Rattle.hilti_effects.specs.Operands.{value_at, values_at, slots_with, globals_with, slots_taking, globals_taking}
use Rattle.hilti_effects.specs.Printing.{printed_line, shown}
use Rattle.hilti_effects.specs.Raising.{raised, to_block}
use Rattle.hilti_effects.specs.Acting.{next, at, with_globals, assigns, refuses, gives, answers}
use Rattle.hilti_effects.specs.Acting.{prints, entry, fields_of, on_struct, text_of, act_on, act_if}
use Rattle.hilti_effects.specs.Acting.{act, resume, resume_at}
use Rattle.hilti_effects.specs.declared.ending.Ending.{Ending}
use Rattle.hilti_effects.specs.declared.ending.Ending.TheVariants as endings
use Rattle.hilti_shapes.specs.Needs.{Kinds, Has, Have, IsResult}
use Rattle.hilti_shapes.specs.Objects.{CanRun, Answers}
use Rattle.hilti_shapes.specs.TypedRows.{IsSource, IsTarget, Receives, IsCall, IsBind, IsStructRow, IsRow}
use Rattle.hilti_code.specs.Runnable.{IsTypedProgram}
use Rattle.hilti_shapes.specs.Places.{IsAt, IsFrame, result_type, TakesResult, Chain, IsState}
use Rattle.hilti_shapes.specs.Keeping.{GoesOn, Ends, Keeps, KeepsBack, ActsKeepTypes, ReturnsKeepTypes}
use Rattle.hilti_shapes.proofs.Growing.{have_grow, same_kinds}
use Rattle.hilti_shapes.proofs.Values.{has_bool}
use Rattle.hilti_shapes.proofs.Scalars.{MadeHas, unary_makes, binary_makes, chosen_has}
use Rattle.hilti_shapes.proofs.Places.{value_has, values_have, slots_put, globals_put}
use Rattle.hilti_shapes.proofs.Fields.{new_answers, get_answers, set_answers, is_set_answers, bind_answers}
use Rattle.hilti_shapes.proofs.Chains.{all_push, all_front, all_last, chain_push, chain_pop, chain_last}
use Rattle.hilti_shapes.proofs.Endings.{ends}
use Rattle.hilti_shapes.proofs.Entering.{row_here, next_at, block_begins, entry_at}
use Rattle.hilti_shapes.proofs.Raising.{action_kept, goes, raised_kept, raise_there}
use Rattle.hilti_shapes.proofs.Asking.{some_and, callee_of}

chosen_below : (b : Bool) (x y n : ℕ) → x < n → y < n → cond b x y < n
chosen_below true x y n h g = h
chosen_below false x y n h g = g

module _ (parts : Parts) (program : IsTypedProgram parts) (p : Position) (below : List Frame) (k : Kinds) (below_are
    : AllByRecursion (IsFrame parts k) below) (chain : Chain parts below p)
    (slots : List Value) (st : State) (a : IsAt parts p slots k) (state : IsState parts k st) where
  abbrev c : Context
  c = context parts p.function.n a.function

  has_value : (s : Source) (t : ValueType) → IsSource c s t → Has parts.types k (value_at slots st.globals s) t
  has_value s t e = value_has c k slots st.globals a.slots_are state.globals_are s t e

  abbrev More : Type 0
  More = p.at + 1 < length a.block.instructions

  refused : (r : Raise) → Keeps parts k p below (refuses parts p slots st r)
  refused r = action_kept parts k p below (raised parts p slots st (raise_number r) [])
      (raised_kept parts program p below k below_are chain slots st (raise_number r) [] a state (raise_there parts
      program p below k below_are chain r))

  passed : More → GoesOn parts k below (at (next p) slots) st
  passed more = goes parts program p below k below_are chain k (same_kinds k) (next p) (record {
    function = refl;
    target = refl;
  }) slots
      (next_at parts program p slots slots k k a more a.slots_are) st state

  assigned : (v : Variable) (t : ValueType) (x : Value) → IsTarget c v t → Has parts.types k x t → More
      → Keeps parts k p below (assigns p slots st v x)
  assigned v t x e h more = goes parts program p below k below_are chain k (same_kinds k) (next p) (record {
    function
        = refl;
    target = refl;
  }) (slots_with v x slots)
      (next_at parts program p slots (slots_with v x slots) k k a more (slots_put c k slots st.globals a.slots_are
      state.globals_are v t x e h))
      (with_globals st (globals_with v x st.globals))
      (record {
        globals_are = globals_put c k slots st.globals a.slots_are state.globals_are v t x e h;
        store_is =
            state.store_is;
      })

  gave : (v : Variable) (t : ValueType) (m : Made) → IsTarget c v t → MadeHas parts.types k t m → More
      → Keeps parts k p below (gives parts p slots st v m)
  gave v t (made.Gives x) e h more = assigned v t x e h more
  gave v t (made.Raises r) e h more = refused r

  answered_to : (v : Variable) (t : ValueType) (answer : Answer) → IsTarget c v t → Answers parts k (Some t) answer
      → More → Keeps parts k p below (answers parts p slots st (Some v) answer)
  answered_to v t (Done (Some x) store) e g more =
      let hs = have_grow parts.types k g.grown g.grows slots a.function.slots a.slots_are in
      let hg = have_grow parts.types k g.grown g.grows st.globals c.globals state.globals_are in
      goes parts program p below k below_are chain g.grown g.grows (next p) (record {
        function = refl;
        target = refl;
      }) (slots_with v x slots)
      (next_at parts program p slots (slots_with v x slots) k g.grown a more (slots_put c g.grown slots st.globals hs
      hg v t x e g.result_is))
      (record st { globals = globals_with v x st.globals; store = store })
      (record { globals_are = globals_put c g.grown slots st.globals hs hg v t x e g.result_is; store_is = g.store })
  answered_to v t (Done None store) e g more = absurd g.result_is
  answered_to v t (Raised r) e g more = refused r

  answered : (answer : Answer) → Answers parts k None answer → More
      → Keeps parts k p below (answers parts p slots st None answer)
  answered (Done x store) g more =
      goes parts program p below k below_are chain g.grown g.grows (next p) (record {
        function = refl;
        target = refl;
      }) slots
      (next_at parts program p slots slots k g.grown a more (have_grow parts.types k g.grown g.grows slots
      a.function.slots a.slots_are))
      (record st { globals = st.globals; store = store })
      (record {
        globals_are = have_grow parts.types k g.grown g.grows st.globals c.globals state.globals_are;
        store_is = g.store;
      })
  answered (Raised r) g more = refused r

  printed : (text : Result (List ℕ) Raise) → More → Keeps parts k p below (prints parts p slots st text)
  printed (Ok text) more = passed more
  printed (Err r) more = refused r

  to_block_kept : (n : ℕ) → n < length a.function.blocks → GoesOn parts k below (at (to_block p n) slots) st
  to_block_kept n within = goes parts program p below k below_are chain k (same_kinds k) (to_block p n) (record {
    function = refl;
    target = refl;
  }) slots
      (block_begins parts program p slots slots k k n a within a.slots_are) st state

  result_is : result_type parts p ≡ a.function.result
  result_is = ap (option_and_then (λ (f : Function). f.result)) a.in_parts

  left : (value : Option Value) → IsResult parts.types k a.function.result value
      → Ends parts k p below (endings.Returned p.target value) st
  left value h = record {
    ending_is = (refl, subst (λ r. IsResult parts.types k r value) (sym result_is) h);
    below_are = below_are;
    chain = chain;
    state = state;
  }

  result_has : (r : Option ValueType) (t : ValueType) (v : Value) → r ≡ Some t → Has parts.types k v t
      → IsResult parts.types k r (Some v)
  result_has r t v e h = subst (λ r. IsResult parts.types k r (Some v)) (sym e) h

  called : (f : FnId) (arguments : List Source) (t : Option Variable) (g : Function)
      → slice_get parts.functions f.n ≡ Some g
      → AllZip (IsSource c) arguments (take g.params g.slots) → Receives c t g.result → More
      → GoesOn parts k (below ++ at (next p) slots ∷ []) (entry parts f (values_at slots st.globals arguments) t) st
  called f arguments t g e given receives more =
      let h = values_have c k slots st.globals a.slots_are state.globals_are arguments (take g.params g.slots) given
      in
      record {
        grown = k;
        grows = same_kinds k;
        position = record { function = f; block = 0; at = 0; target = t };
        stands = refl;
        config = record {
          top = entry_at parts program f g t (values_at slots st.globals arguments) k e h;
          below = all_push (IsFrame parts k) below (at (next p) slots) below_are (next_at parts program p slots slots
              k k a more a.slots_are);
          chain = chain_push parts below slots p (next p) (record { function = f; block = 0; at = 0; target = t })
              (record { function = refl; target = refl }) chain
              (subst (λ o. IfSome o (TakesResult parts (next p) (record {
                function = f;
                block = 0;
                at = 0;
                target = t;
              }))) (sym a.in_parts)
              (subst (λ o. Receives c t (option_and_then (λ (f : Function). f.result) o)) (sym e) receives));
          shared = state;
          none_made = refl;
        };
      }

  bound : (f : FnId) (arguments : List Source) (v : Variable) (g : Function)
      → slice_get parts.functions f.n ≡ Some g → g.result ≡ None
      → AllZip (IsSource c) arguments (take g.params g.slots) → IsTarget c v types.Callable → More
      → Keeps parts k p below (answers parts p slots st (Some v) (callable_bind f.n (values_at slots st.globals
      arguments) st.store))
  bound f arguments v g e void given target more =
      let h = values_have c k slots st.globals a.slots_are state.globals_are arguments (take g.params g.slots) given
      in
      answered_to v types.Callable (callable_bind f.n (values_at slots st.globals arguments) st.store) target
      (bind_answers parts k st.store state.store_is f (values_at slots st.globals arguments)
      (subst (λ o. IsSomeAnd o (CanRun parts.types k (values_at slots st.globals arguments))) (sym e) (record {
        void
            = void;
        arguments = h;
      })))
      more

  struct_kept : (row : StructRow) → IsStructRow c row → More → Keeps parts k p below (on_struct parts p slots st row)
  struct_kept (structs.New t n) r more = answered_to t (types.Ref (inners.Struct n)) (struct_new (fields_of parts n)
      st.store) r (new_answers parts k st.store state.store_is n) more
  struct_kept (structs.Get t o n) r more = let f = r.0 in
      answered_to t f.kind (struct_get (value_at slots st.globals o) n st.store) r.1
      (get_answers parts k st.store state.store_is f.struct n f.kind (value_at slots st.globals o) f.there (has_value
      o (types.Ref (inners.Struct f.struct)) f.holder)) more
  struct_kept (structs.Set o n x) r more = let f = r.0 in
      answered (struct_set (value_at slots st.globals o) n (value_at slots st.globals x) st.store)
      (set_answers parts k st.store state.store_is f.struct n f.kind (Some (value_at slots st.globals x)) (value_at
      slots st.globals o) f.there (has_value x f.kind r.1)
      (has_value o (types.Ref (inners.Struct f.struct)) f.holder)) more
  struct_kept (structs.Unset o n) f more =
      answered (struct_unset (value_at slots st.globals o) n st.store)
      (set_answers parts k st.store state.store_is f.struct n f.kind None (value_at slots st.globals o) f.there tt
      (has_value o (types.Ref (inners.Struct f.struct)) f.holder)) more
  struct_kept (structs.IsSet t o n) r more = let f = r.0 in
      answered_to t types.Bool (struct_is_set (value_at slots st.globals o) n st.store) r.1
      (is_set_answers parts k st.store state.store_is f.struct n (value_at slots st.globals o) (has_value o
      (types.Ref (inners.Struct f.struct)) f.holder)) more

  kept : (row : Row) → IsRow c row → (ends row ≡ false → More) → Keeps parts k p below (act_on parts p slots st row)
  unfolding act_on
  kept rows.Nop r more = passed (more refl)
  kept (rows.Unary op t x) r more = gave t r.to (unary_of op (value_at slots st.globals x)) r.goes
      (unary_makes parts.types k op r.from r.to (value_at slots st.globals x) r.turns (has_value x r.from r.operand))
      (more refl)
  kept (rows.Binary op t x y) r more = gave t r.to (binary_of op (value_at slots st.globals x) (value_at slots
      st.globals y)) r.goes
      (binary_makes parts.types k op r.of r.to (value_at slots st.globals x) (value_at slots st.globals y) r.combines
      (has_value x r.of r.first) (has_value y r.of r.second)) (more refl)
  kept (rows.Select t test x y) r more =
      assigned t r.of (cond (truth_of (value_at slots st.globals test)) (value_at slots st.globals x) (value_at slots
      st.globals y)) r.goes
      (chosen_has parts.types k (truth_of (value_at slots st.globals test)) (value_at slots st.globals x) (value_at
      slots st.globals y) r.of (has_value x r.of r.first) (has_value y r.of r.second)) (more refl)
  kept (rows.IsNull t x) r more = assigned t types.Bool (values.Bool (is_null (value_at slots st.globals x))) r.goes
      (has_bool parts.types k (is_null (value_at slots st.globals x))) (more refl)
  kept (rows.Print items) r more = printed (printed_line parts.types (shown slots st.globals items)) (more refl)
  kept rows.Yield r more = passed (more refl)
  kept (rows.Call f arguments t) r more =
      let g = callee_of parts f.n (IsCall c arguments t) r in (
        refl,
        called f arguments t g.0 g.1 g.2.given
            g.2.receives (more refl),
      )
  kept (rows.Bind t f arguments) r more =
      let g = callee_of parts f.n (IsBind c t arguments) r in bound f arguments t g.0 g.1 g.2.void g.2.given g.2.goes
      (more refl)
  kept (rows.Jump block) r more = to_block_kept block r
  kept (rows.IfElse test x y) r more =
      to_block_kept (cond (truth_of (value_at slots st.globals test)) x y) (chosen_below (truth_of (value_at slots
      st.globals test)) x y (length a.function.blocks) r.first r.second)
  kept rows.ReturnVoid r more = left None (subst (λ t. IsResult parts.types k t None) (sym r) refl)
  kept (rows.ReturnResult value) r more =
      let t = some_and a.function.result (IsSource c value) r in
      left (Some (value_at slots st.globals value)) (result_has a.function.result t.0 (value_at slots st.globals
      value) t.1 (has_value value t.0 t.2))
  kept (rows.Throw e text) r more =
      action_kept parts k p below (raised parts p slots st e (text_of (value_at slots st.globals text)))
      (raised_kept parts program p below k below_are chain slots st e (text_of (value_at slots st.globals text)) a
      state r.there)
  kept (rows.Struct row) r more = struct_kept row r (more refl)

  pub act_kept : Keeps parts k p below (act parts (frame (heads.Function p) slots) st)
  unfolding act
  act_kept =
      let r = row_here parts program p slots k a in
      subst (λ o. Keeps parts k p below (act_if parts p slots st o)) (sym r.here) (kept r.row r.typed r.goes_on)

  -- a result that its target takes
  taken : (target : Option Variable) (value : Option Value) (result : Option ValueType) → Receives c target result
      → IsResult parts.types k result value
      → Have parts.types k (slots_taking target value slots) a.function.slots × Have parts.types k (globals_taking
      target value st.globals) c.globals
  taken None value result r i = (a.slots_are, state.globals_are)
  taken (Some v) (Some x) (Some t) r i = (
    slots_put c k slots st.globals a.slots_are state.globals_are v t x r i,
    globals_put c k slots st.globals a.slots_are state.globals_are v t x r i,
  )
  taken (Some v) None (Some t) r i = absurd i
  taken (Some v) value None r i = absurd r

  same_place : (slots' : List Value) → Have parts.types k slots' a.function.slots → IsAt parts p slots' k
  same_place slots' h = record {
    function = a.function;
    in_parts = a.in_parts;
    block = a.block;
    in_function =
        a.in_function;
    within = a.within;
    slots_are = h;
  }

  returned : (target : Option Variable) (value : Option Value) (result : Option ValueType)
      → Receives c target result → IsResult parts.types k result value
      → KeepsBack parts k p below (resume_at parts p slots (endings.Returned target value) st)
  returned target value result r i =
      let h = taken target value result r i in
      goes parts program p below k below_are chain k (same_kinds k) p (record { function = refl; target = refl })
      (slots_taking target value slots)
      (same_place (slots_taking target value slots) h.0) (with_globals st (globals_taking target value st.globals))
      (record { globals_are = h.1; store_is = state.store_is })

  stopped : KeepsBack parts k p below (resume_at parts p slots endings.Stopped st)
  stopped = goes parts program p below k below_are chain k (same_kinds k) p (record {
    function = refl;
    target = refl;
  }) slots a st state

  pub resume_kept : (callee : Position) (ending : Ending)
      → Ends parts k callee (below ++ frame (heads.Function p) slots ∷ []) ending st
      → KeepsBack parts k p below (resume_at parts p slots ending st)
  resume_kept callee (endings.Returned target value) e =
      let takes : Receives c callee.target (result_type parts callee) = subst (λ o. IfSome o (TakesResult parts p
      callee)) a.in_parts (chain_last parts below slots p callee e.chain) in
      returned target value (result_type parts callee) (subst (λ t. Receives c t (result_type parts callee)) (sym
      e.ending_is.0) takes) e.ending_is.1
  resume_kept callee endings.Stopped e = stopped
  resume_kept callee (endings.Raised n text) e = raised_kept parts program p below k below_are chain slots st n text
      a state e.ending_is

pub acts_keep_types : (parts : Parts) → IsTypedProgram parts → ActsKeepTypes parts
acts_keep_types parts program p frames st k config = act_kept parts program p frames.below k config.below
    config.chain frames.slots st config.top config.shared

pub returns_keep_types : (parts : Parts) → IsTypedProgram parts → ReturnsKeepTypes parts
unfolding resume
returns_keep_types parts program callee p slots below ending st k e =
    resume_kept parts program p below k (all_front (IsFrame parts k) below (frame (heads.Function p) slots)
    e.below_are) (chain_pop parts below slots p callee e.chain) slots st
    (all_last (IsFrame parts k) below (frame (heads.Function p) slots) e.below_are) e.state callee ending e
