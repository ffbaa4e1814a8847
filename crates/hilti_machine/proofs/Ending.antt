-- How each ending of a top is followed.
use Rattle.std.proofs.Common.{◌≡◌, ℕ, Bool, List, [], ◌∷◌, ◌++◌, map, refl, sym, ap, ◌∙◌, subst}
use Rattle.std.proofs.Common.{append_assoc, append-nil, Option, Some, None}
use Rattle.hilti_parts.specs.declared.parts.Parts.{Parts}
use Rattle.hilti_parts.specs.declared.parts.Variable.{Variable}
use Rattle.hilti_core.specs.declared.pieces.Item.{Item}
use Rattle.hilti_core.specs.declared.pieces.Item.TheVariants.{Line}
use Rattle.hilti_core.specs.declared.pieces.End.{End}
use Rattle.hilti_core.specs.declared.pieces.End.TheVariants as ends
use Rattle.hilti_calls.specs.Calls.{Outcome.Ended, Outcome.Spent, emit}
use Rattle.hilti_calls.specs.Parts.{Mark.Plain, parts_of}
use Rattle.hilti_calls.specs.Stack.{rest, resumes}
use Rattle.hilti_calls.proofs.Stacks.{rest_spent}
use Rattle.hilti_calls.proofs.Cutting.{parts_of_spent, before_all_first}
use Rattle.hilti_base.specs.declared.names.FnId.{FnId}
use Rattle.hilti_values.specs.declared.value.Value.{Value}
use Rattle.hilti_effects.specs.State.{State, Ends}
use Rattle.hilti_effects.specs.Acting.{language}
use Rattle.hilti_effects.specs.Effect.{Waiting.Caller, pending, closing, spent}
use Rattle.hilti_effects.specs.Effect.{uncaught_line, spent_line, state_of, segment_of}
use Rattle.hilti_effects.specs.declared.ending.Ending.TheVariants as endings
use Rattle.hilti_shapes.specs.Places.{AreShared}
use Rattle.hilti_shapes.specs.Keeping.{Ends as EndsTyped}
use Rattle.hilti_openings.specs.declared.entries.Opened.{Opened}
use Rattle.hilti_acting.specs.Acts.{thread}
use Rattle.hilti_acting.specs.Returns.{Resumes, IsOver}
use Rattle.hilti_acting.specs.declared.memory.Memory.{Memory}
use Rattle.hilti_acting.proofs.Counts.{fewer_then, stands_fewer}
use Rattle.hilti_machine.specs.declared.calling.Calling.{Calling}
use Rattle.hilti_machine.specs.declared.step.Step.{Step}
use Rattle.hilti_machine.specs.declared.step.Step.TheVariants as steps
use Rattle.hilti_machine.specs.Threads.{bottom, waiting_in, top_of}
use Rattle.hilti_machine.specs.Steps.{said, IsAmid, HasLeft, IsDone, IsSameCall, GoesBehind}
use Rattle.hilti_machine.specs.Steps.{StepLeads, FramesGone}
use Rattle.hilti_acting.specs.Unwinding.{Unwinds, Uncaught}
use Rattle.hilti_machine.proofs.Popping.{on, done, begun, pass, all_pass, ends_below}

-- the top returned to a caller
pub returned_on : (parts : Parts) (all : Ends) (items : List Item)
    (target : Option Variable) (value : Option Value) (c c' : Calling) (m m' : Memory) (number : ℕ)
    (ran : Bool) → IsSameCall c c' → c'.behind ≡ c.behind
    → HasLeft parts all items (endings.Returned target value) c m number ran
    → Resumes parts (endings.Returned target value) c.stack m c'.top c'.stack m'
    → IsAmid parts all (said items) c' m' number ran
returned_on parts all items target value c c' m m' number ran same behind left r =
    on parts all items (endings.Returned target value) c c' m m' number ran same left
    r.caller [] behind r.below (λ n. refl) (r.leads number ran left.store) r.fewer r.fits
    r.none_made c.top
    (subst (λ ws. EndsTyped parts left.kinds c.top ws (endings.Returned target value)
    (thread number ran m.globals.items left.store)) r.below left.ends)

-- it returned, and no caller waits
returned_over : (parts : Parts) (all : Ends) (items : List Item)
    (target : Option Variable) (value : Option Value) (c c' : Calling) (m m' : Memory) (number : ℕ)
    (ran : Bool) → IsSameCall c c'
    → HasLeft parts all items (endings.Returned target value) c m number ran
    → c.stack.below ≡ [] → FramesGone m m' → (step : Step) (b : Option Opened) → c.behind ≡ b
    → GoesBehind b step c' → StepLeads parts all step items c' m' number ran
returned_over parts all items target value c c' m m' number ran same left empty gone step
    None is_behind is =
    let so : resumes (language parts) (pending parts) (waiting_in c) _ ≡ _ =
    ap (λ b. resumes (language parts) (pending parts) (bottom b ++ map Caller c.stack.below)
    (Ended (endings.Returned target value) (thread number ran m.globals.items left.store) c.fuel
    []))
    is_behind
    ∙ ap (λ ws. resumes (language parts) (pending parts) (map Caller ws)
    (Ended (endings.Returned target value) (thread number ran m.globals.items left.store) c.fuel
    [])) empty in
    subst (λ s. StepLeads parts all s items c' m' number ran) (sym is)
    (subst (λ all_items. IsDone parts c'.function all all_items ends.Returned m' number ran)
    (append-nil items)
    (done parts all items (endings.Returned target value) c c' m m' number ran same left
    gone c'.function [] ends.Returned refl so))
returned_over parts all items target value c c' m m' number ran same left empty gone step
    (Some o) is_behind is =
    subst (λ s. StepLeads parts all s items c' m' number ran) (sym is.0)
    (begun parts all items (endings.Returned target value) c c' m m' number ran same left
    gone o empty is_behind refl is.1 is.2 is.3)

-- `returned` gave the result back, and it was let go
pub returned_done : (parts : Parts) (all : Ends) (items : List Item) (target : Option Variable)
    (value : Option Value) (c c' : Calling) (m over m' : Memory) (number : ℕ) (ran : Bool)
    → IsSameCall c c' → HasLeft parts all items (endings.Returned target value) c m number ran
    → IsOver c.stack value m over → FramesGone over m' → (step : Step)
    → GoesBehind c.behind step c' → StepLeads parts all step items c' m' number ran
returned_done parts all items target value c c' m over m' number ran same left is gone step goes =
    returned_over parts all items target value c c' m m' number ran same left is.bottom
    (record {
      globals = gone.globals ∙ is.globals;
      fewer = fewer_then m.heap over.heap m'.heap is.fewer gone.fewer;
      fits = gone.fits;
    })
    step c.behind refl goes

module _ (parts : Parts) (all : Ends) (items : List Item)
    (x : ℕ) (text : List ℕ) (c c' : Calling) (m m' : Memory) (number : ℕ) (ran : Bool)
    (same : IsSameCall c c')
    (left : HasLeft parts all items (endings.Raised x text) c m number ran) where
  -- a caller catches the exception
  pub raised_on : c'.behind ≡ c.behind
      → Unwinds parts x text c.stack m c'.top c'.stack m'
      → IsAmid parts all (said items) c' m' number ran
  raised_on behind u =
      let st = thread number ran m.globals.items left.store in
      let ends : EndsTyped parts left.kinds c.top
      ((c'.stack.below ++ u.caller ∷ []) ++ u.ended) (endings.Raised x text) st =
      subst (λ ws. EndsTyped parts left.kinds c.top ws (endings.Raised x text) st)
      (u.below ∙ sym (append_assoc c'.stack.below (u.caller ∷ []) u.ended)) left.ends in
      let callee = ends_below parts left.kinds x text st (c'.stack.below ++ u.caller ∷ []) u.ended
      c.top ends in
      on parts all items (endings.Raised x text) c c' m m' number ran same left u.caller
      u.ended behind u.below (λ n. pass parts x text st n u.ended u.not_caught)
      (u.leads number ran left.store) u.fewer u.fits u.none_made callee.0 callee.1

  -- nothing catches it, and the call is over with its line
  pub raised_over : (line : List ℕ) → line ≡ uncaught_line parts x text c'.function
      → Uncaught parts x text c.stack m m'
      → IsDone parts c'.function all (items ++ Line line ∷ []) (ends.Raised x) m' number ran
  raised_over line is u =
      let st = thread number ran m.globals.items left.store in
      subst
      (λ l. IsDone parts c'.function all (items ++ Line l ∷ []) (ends.Raised x) m' number ran)
      (sym is)
      (done parts all items (endings.Raised x text) c c' m m' number ran same left
      (record { globals = u.globals; fewer = u.fewer; fits = u.fits }) c'.function
      (Line (uncaught_line parts x text c'.function) ∷ []) (ends.Raised x) refl
      (all_pass parts x text st c.fuel c.behind c.stack.below u.not_caught))

  pub raised_by : (line : List ℕ) (more : List Item)
      → line ≡ uncaught_line parts x text c'.function → more ≡ items ++ Line line ∷ []
      → Uncaught parts x text c.stack m m'
      → IsDone parts c'.function all more (ends.Raised x) m' number ran
  raised_by line more is pushed u =
      subst (λ i. IsDone parts c'.function all i (ends.Raised x) m' number ran) (sym pushed)
      (raised_over line is u)

-- without fuel the call is over with its line
pub spent_over : (parts : Parts) (all : Ends) (items : List Item) (c : Calling) (m m' : Memory)
    (number : ℕ) (ran : Bool) (f : FnId) → c.fuel ≡ 0
    → IsAmid parts all (said items) c m number ran → FramesGone m m' → (line : List ℕ)
    → line ≡ spent_line parts f
    → IsDone parts f all (items ++ Line line ∷ []) ends.OutOfFuel m' number ran
spent_over parts all items c m m' number ran f empty amid gone line is =
    let st : State = thread number ran m.globals.items amid.store in
    let whole : all ≡ emit (map Plain items) (Spent st []) =
    amid.so ∙ ap (emit (map Plain items))
    (ap (rest (language parts) (pending parts) (waiting_in c) (top_of c) st) empty
    ∙ rest_spent (language parts) (pending parts) (waiting_in c) (top_of c) st) in
    record {
      store = amid.store;
      stands = stands_fewer m.heap m'.heap amid.store gone.fewer amid.stands;
      last =
          ap (λ o. map segment_of (parts_of (closing parts f) o)) whole
          ∙ ap (map segment_of) (parts_of_spent (closing parts f) items st
          ∙ before_all_first items (spent parts f st) [])
          ∙ ap (λ l. record { items = items ++ Line l ∷ []; «end» = ends.OutOfFuel } ∷ []) (sym is);
      leaves =
          ap state_of whole ∙ ap (λ gs. thread number ran gs amid.store) (sym gone.globals);
      fits = gone.fits;
      kinds = amid.typed.kinds;
      typed = subst (λ gs. AreShared parts gs amid.typed.kinds amid.store) (sym gone.globals)
          amid.typed.config.shared;
    }

-- a call that is over after a step
pub done_by : (parts : Parts) (all : Ends) (step : Step) (items : List Item) (c : Calling)
    (m : Memory) (number : ℕ) (ran : Bool) (f : FnId) (e : End) → step ≡ steps.Ends e
    → c.function ≡ f → StepLeads parts all step items c m number ran
    → IsDone parts f all items e m number ran
done_by parts all step items c m number ran f e is function leads =
    subst (λ f. IsDone parts f all items e m number ran) function
    (subst (λ s. StepLeads parts all s items c m number ran) is leads)

-- or for want of fuel
pub spent_by : (parts : Parts) (all : Ends) (items more : List Item) (c : Calling) (m m' : Memory)
    (number : ℕ) (ran : Bool) (f : FnId) (line : List ℕ) → c.fuel ≡ 0 → c.function ≡ f
    → IsAmid parts all (said items) c m number ran → FramesGone m m'
    → line ≡ spent_line parts c.function → more ≡ items ++ Line line ∷ []
    → IsDone parts f all more ends.OutOfFuel m' number ran
spent_by parts all items more c m m' number ran f line empty function amid gone is pushed =
    subst (λ f. IsDone parts f all more ends.OutOfFuel m' number ran) function
    (subst (λ i. IsDone parts c.function all i ends.OutOfFuel m' number ran) (sym pushed)
    (spent_over parts all items c m m' number ran c.function empty amid gone line is))
