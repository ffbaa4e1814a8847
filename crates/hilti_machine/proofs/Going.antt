-- A call in progress after an instruction that didn't end its top.
use Rattle.std.proofs.Common.{◌≡◌, ℕ, suc, Bool, List, [], ◌∷◌, ◌++◌, map, refl, sym, ap, ◌∙◌}
use Rattle.std.proofs.Common.{subst}
use Rattle.std.proofs.Common.{append_assoc, append-nil, IfSome, ◌<◌, ◌≤◌, ◌-◌, length, arith}
use Rattle.std.proofs.lemmas.List.{map-append}
use Rattle.hilti_base.specs.declared.names.FnId.{FnId}
use Rattle.hilti_parts.specs.declared.parts.Parts.{Parts}
use Rattle.hilti_core.specs.declared.pieces.Item.{Item}
use Rattle.hilti_core.specs.declared.pieces.Item.TheVariants.{Line}
use Rattle.hilti_calls.specs.Calls.{Action.Go, Action.Call, Action.Leave, Outcome.Ended, emit}
use Rattle.hilti_calls.specs.Parts.{Mark, Mark.Plain}
use Rattle.hilti_calls.specs.Stack.{rest, resumes}
use Rattle.hilti_calls.specs.Stores.{ComesFrom}
use Rattle.hilti_calls.proofs.Stacks.{emit_emit, rest_go, rest_call, rest_leave}
use Rattle.hilti_stack.specs.declared.head.Position.{Position}
use Rattle.hilti_stack.specs.Frames.{Frame, Frames}
use Rattle.hilti_heap.specs.Stands.{StandsFor}
use Rattle.hilti_effects.specs.State.{State, Close, Ends}
use Rattle.hilti_effects.specs.Acting.{act, at, next, language}
use Rattle.hilti_effects.specs.Effect.{Waiting.Caller, pending}
use Rattle.hilti_effects.specs.declared.ending.Ending.{Ending}
use Rattle.hilti_code.specs.Runnable.{IsTypedProgram}
use Rattle.hilti_shapes.specs.Keeping.{Keeps, Ends as EndsTyped}
use Rattle.hilti_shapes.proofs.Acting.{acts_keep_types}
use Rattle.hilti_acting.specs.Acts.{Going, Acts, WentOn, Calls, Leaves, does_at}
use Rattle.hilti_acting.specs.Acts.{marks, thread}
use Rattle.hilti_acting.specs.declared.did.Did.{Did}
use Rattle.hilti_acting.specs.declared.did.Did.TheVariants as did
use Rattle.hilti_acting.specs.declared.memory.Memory.{Memory}
use Rattle.hilti_machine.specs.declared.calling.Calling.{Calling}
use Rattle.hilti_machine.specs.Threads.{bottom, waiting_in, top_of, still, IsTypedOpening}
use Rattle.hilti_machine.specs.Steps.{said, IsAmid, HasLeft}
use Rattle.hilti_machine.proofs.Typing.{call_of}
use Rattle.hilti_machine.proofs.Stopping.{leaves_not_stopped}

-- one unit of fuel less, in the same call
pub record After (c c' : Calling) (left : ℕ) : Type 0 where
  pub full : c.fuel ≡ suc left
  pub fuel : c'.fuel ≡ left
  pub function : c'.function ≡ c.function
  pub behind : c'.behind ≡ c.behind

pub one_less : (c c' : Calling) → 1 ≤ c.fuel → c'.fuel ≡ c.fuel - 1 → c'.function ≡ c.function
    → c'.behind ≡ c.behind → After c c' (c.fuel - 1)
one_less c c' some fuel function behind =
    record { full = omega arith; fuel = fuel; function = function; behind = behind }

module _ (parts : Parts) (program : IsTypedProgram parts) (all : Ends) (items : List Item)
    (c c' : Calling) (m m' : Memory) (left number : ℕ) (ran : Bool) (after : After c c' left)
    (amid : IsAmid parts all (said items) c m number ran) where
  abbrev pub from : State
  from = thread number ran m.globals.items amid.store

  kept : Keeps parts amid.typed.kinds c.top c.stack.below (act parts (top_of c) from)
  kept = acts_keep_types parts program c.top c.stack from amid.typed.kinds amid.typed.config

  -- from the state with one unit of fuel more
  full : still parts c from
      ≡ rest (language parts) (pending parts) (waiting_in c) (top_of c) from (suc left)
  full = ap (rest (language parts) (pending parts) (waiting_in c) (top_of c) from) after.full

  -- the same callers wait, below the frames that wait on the stack
  same_bottom : (ws : List Frame) → bottom c.behind ++ map Caller ws
      ≡ bottom c'.behind ++ map Caller ws
  same_bottom ws = ap (λ b. bottom b ++ map Caller ws) (sym after.behind)

  same_behind : IfSome c'.behind (IsTypedOpening parts)
  same_behind =
      subst (λ b. IfSome b (IsTypedOpening parts)) (sym after.behind) amid.typed.behind

  same_function : c'.function.n < length parts.functions
  same_function =
      subst (λ (f : FnId). f.n < length parts.functions) (sym after.function) amid.typed.function

  pub went_on : (d : Did)
      → WentOn (does_at parts c.top c.stack.slots m.globals.items) c.stack m (marks d) c'.top
      c'.stack m'
      → IsAmid parts all (λ st. map Plain items ++ marks d c'.top st) c' m' number ran
  went_on d w =
      let found : ComesFrom (StandsFor m'.heap) (act parts (top_of c) from)
      (λ store. Go (marks d c'.top (thread number ran m'.globals.items store)) (top_of c')
      (thread number ran m'.globals.items store)) =
      w.leads number ran amid.store amid.stands in
      let to : State = thread number ran m'.globals.items found.store in
      let done : List (Mark Item Close) = marks d c'.top to in
      record {
        store = found.store;
        stands = found.stands;
        so =
            amid.so
            ∙ ap (emit (map Plain items)) (full
            ∙ rest_go (language parts) (pending parts) (waiting_in c) (top_of c) from left done
            (top_of c') to found.so
            ∙ ap (λ n. emit done
            (rest (language parts) (pending parts) (waiting_in c) (top_of c') to n))
            (sym after.fuel)
            ∙ ap (λ ws. emit done
            (rest (language parts) (pending parts) ws (top_of c') to c'.fuel))
            (same_bottom c.stack.below
            ∙ ap (λ ws. bottom c'.behind ++ map Caller ws) (sym w.below)))
            ∙ emit_emit (map Plain items) done (still parts c' to);
        fits = w.fits;
        typed = call_of parts c'.top c'.stack to amid.typed.kinds c.stack.below
            (subst (Keeps parts amid.typed.kinds c.top c.stack.below) found.so kept) c' refl refl
            w.below w.none_made same_behind same_function;
      }

  -- the callers with one more
  pushed : (ws : List Frame) (w : Frame)
      → (bottom c.behind ++ map Caller ws) ++ Caller w ∷ []
      ≡ bottom c'.behind ++ map Caller (ws ++ w ∷ [])
  pushed ws w =
      append_assoc (bottom c.behind) (map Caller ws) (Caller w ∷ [])
      ∙ ap (λ more. bottom c.behind ++ more) (sym (map-append Caller ws (w ∷ [])))
      ∙ same_bottom (ws ++ w ∷ [])

  pub called : Calls (does_at parts c.top c.stack.slots m.globals.items) c.top c.stack m c'.top
      c'.stack m' → IsAmid parts all (said items) c' m' number ran
  called w =
      let found : ComesFrom (StandsFor m'.heap) (act parts (top_of c) from)
      (λ store. Call (top_of c') [] (at (next c.top) c.stack.slots)
      (thread number ran m'.globals.items store)) =
      w.leads number ran amid.store amid.stands in
      let to : State = thread number ran m'.globals.items found.store in
      let caller : Frame = at (next c.top) c.stack.slots in
      record {
        store = found.store;
        stands = found.stands;
        so =
            amid.so
            ∙ ap (emit (map Plain items)) (full
            ∙ rest_call (language parts) (pending parts) (waiting_in c) (top_of c) from left
            (top_of c') [] caller to (Caller caller) found.so refl refl
            ∙ ap (rest (language parts) (pending parts) (waiting_in c ++ Caller caller ∷ [])
            (top_of c') to) (sym after.fuel)
            ∙ ap (λ ws. rest (language parts) (pending parts) ws (top_of c') to c'.fuel)
            (pushed c.stack.below caller
            ∙ ap (λ ws. bottom c'.behind ++ map Caller ws) (sym w.below)));
        fits = w.fits;
        typed = call_of parts c'.top c'.stack to amid.typed.kinds (c.stack.below ++ caller ∷ [])
            (subst (Keeps parts amid.typed.kinds c.top c.stack.below) found.so kept).1 c' refl refl
            w.below w.none_made same_behind same_function;
      }

  pub left_by : (e : Ending)
      → Leaves (does_at parts c.top c.stack.slots m.globals.items) c.top c.stack m e c'.top
      c'.stack m' → HasLeft parts all items e c' m' number ran
  left_by e w =
      let found : ComesFrom (StandsFor m'.heap) (act parts (top_of c) from)
      (λ store. Leave e (thread number ran m'.globals.items store)) =
      w.leads number ran amid.store amid.stands in
      let to : State = thread number ran m'.globals.items found.store in
      let ends : EndsTyped parts amid.typed.kinds c.top c.stack.below e to =
      subst (Keeps parts amid.typed.kinds c.top c.stack.below) found.so kept in
      record {
        program = program;
        store = found.store;
        stands = found.stands;
        so =
            amid.so
            ∙ ap (emit (map Plain items)) (full
            ∙ rest_leave (language parts) (pending parts) (waiting_in c) (top_of c) from left e to
            found.so
            ∙ ap (λ n. resumes (language parts) (pending parts) (waiting_in c) (Ended e to n []))
            (sym after.fuel)
            ∙ ap (λ ws. resumes (language parts) (pending parts) ws (Ended e to c'.fuel []))
            (same_bottom c.stack.below
            ∙ ap (λ (f : Frames). bottom c'.behind ++ map Caller f.below) (sym w.stack)));
        fits = w.fits;
        kinds = amid.typed.kinds;
        ends = subst (λ p. EndsTyped parts amid.typed.kinds p c'.stack.below e to)
            (sym w.position)
            (subst (λ (f : Frames). EndsTyped parts amid.typed.kinds c.top f.below e to)
            (sym w.stack) ends);
        none_made = ap (λ (f : Frames). f.made) w.stack ∙ amid.typed.config.none_made;
        behind = same_behind;
        function = same_function;
        not_stopped = leaves_not_stopped parts (top_of c) from e to found.so;
      }

  -- a line was printed
  pub said_line : (text : List ℕ)
      → WentOn (does_at parts c.top c.stack.slots m.globals.items) c.stack m
      (marks (did.Said text)) c'.top c'.stack m'
      → IsAmid parts all (said (items ++ Line text ∷ [])) c' m' number ran
  said_line text w =
      subst (λ done. IsAmid parts all (λ st. done) c' m' number ran)
      (sym (map-append Plain items (Line text ∷ []))) (went_on (did.Said text) w)

  pub said_push : (text : List ℕ) (more : List Item) → more ≡ items ++ Line text ∷ []
      → WentOn (does_at parts c.top c.stack.slots m.globals.items) c.stack m
      (marks (did.Said text)) c'.top c'.stack m' → IsAmid parts all (said more) c' m' number ran
  said_push text more pushed w =
      subst (λ items. IsAmid parts all (said items) c' m' number ran) (sym pushed)
      (said_line text w)

  -- nothing was
  pub went : WentOn (does_at parts c.top c.stack.slots m.globals.items) c.stack m
      (marks did.Went) c'.top c'.stack m' → IsAmid parts all (said items) c' m' number ran
  went w =
      subst (λ done. IsAmid parts all (λ st. done) c' m' number ran)
      (append-nil (map Plain items)) (went_on did.Went w)

-- what was done, by what it is
pub acts_so : (does : Going) (p p' : Position) (s s' : Frames) (m m' : Memory) (d e : Did) → d ≡ e
    → Acts does p s m d p' s' m' → Acts does p s m e p' s' m'
acts_so does p p' s s' m m' d e is acts = subst (λ d. Acts does p s m d p' s' m') is acts
