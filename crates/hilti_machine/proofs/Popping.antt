-- A call in progress after its top ended.
use Rattle.std.proofs.Common.{◌≡◌, ℕ, ◌<◌, Bool, List, [], ◌∷◌, ◌++◌, map, refl, sym, ap, ◌∙◌}
use Rattle.std.proofs.Common.{subst}
use Rattle.std.proofs.Common.{append_assoc, append-nil, length, true, Option, Some, None, IfSome}
use Rattle.std.specs.List.{All, AllByRecursion}
use Rattle.std.proofs.lemmas.List.{map-append}
use Rattle.std.proofs.lemmas.List.Elements.{recursion_from_All}
use Rattle.hilti_base.specs.declared.names.FnId.{FnId}
use Rattle.hilti_parts.specs.declared.parts.Parts.{Parts}
use Rattle.hilti_core.specs.declared.pieces.Item.{Item}
use Rattle.hilti_core.specs.declared.pieces.End.{End}
use Rattle.hilti_calls.specs.Calls.{Back.On, Outcome.Ended, emit}
use Rattle.hilti_calls.specs.Calls.{then_do, settle, finish, exec}
use Rattle.hilti_calls.specs.Parts.{Mark.Plain, Part, parts_of}
use Rattle.hilti_calls.specs.Stack.{rest, resumes}
use Rattle.hilti_calls.proofs.Stacks.{pop_on, pop_last}
use Rattle.hilti_calls.proofs.Cutting.{parts_of_ended, before_all_first}
use Rattle.hilti_values.specs.declared.value.Value.{Value}
use Rattle.hilti_stack.specs.declared.head.Head.TheVariants as heads
use Rattle.hilti_stack.specs.declared.head.Position.{Position}
use Rattle.hilti_stack.specs.Frames.{Frame, Frames, frame}
use Rattle.hilti_effects.specs.State.{State, Close, Ends}
use Rattle.hilti_effects.specs.Acting.{at, language, resume}
use Rattle.hilti_effects.specs.Effect.{Waiting, Waiting.Caller, Waiting.Behind, pending, back_of}
use Rattle.hilti_effects.specs.Effect.{closing, over, closed, state_of, segment_of}
use Rattle.hilti_effects.specs.declared.ending.Ending.{Ending}
use Rattle.hilti_effects.specs.declared.ending.Ending.TheVariants as endings
use Rattle.hilti_shapes.specs.Needs.{Kinds}
use Rattle.hilti_shapes.specs.Places.{IsFrame, Chain, AreShared}
use Rattle.hilti_shapes.specs.Keeping.{KeepsBack, GoesOn, Ends as EndsTyped}
use Rattle.hilti_shapes.proofs.Acting.{returns_keep_types}
use Rattle.hilti_shapes.proofs.Chains.{all_last}
use Rattle.hilti_openings.specs.declared.entries.Opened.{Opened}
use Rattle.hilti_acting.specs.Acts.{thread}
use Rattle.hilti_acting.specs.Owned.{FitsWith, Fewer}
use Rattle.hilti_acting.specs.declared.memory.Memory.{Memory}
use Rattle.hilti_acting.proofs.Counts.{stands_fewer}
use Rattle.hilti_machine.specs.declared.calling.Calling.{Calling}
use Rattle.hilti_machine.specs.Threads.{bottom, waiting_in, top_of, still, IsTypedOpening}
use Rattle.hilti_machine.specs.Steps.{said, IsAmid, HasLeft, IsDone, IsSameCall}
use Rattle.hilti_machine.specs.Steps.{FramesGone}
use Rattle.hilti_acting.specs.Unwinding.{NotCaught}
use Rattle.hilti_machine.proofs.Asking.{head_is}
use Rattle.hilti_machine.proofs.Counting.{alone_fits}
use Rattle.hilti_machine.proofs.Typing.{call_of}

-- frames that don't catch an exception hand it on
module _ (parts : Parts) where
  pub resumes_append : (xs ys : List Waiting) (o : Ends)
      → resumes (language parts) (pending parts) (xs ++ ys) o
      ≡ resumes (language parts) (pending parts) xs (resumes (language parts) (pending parts) ys o)
  resumes_append [] ys o = refl
  resumes_append (Caller w ∷ xs) ys o =
      ap (λ r. then_do r (finish (language parts).continues (exec (language parts)) []
      (back_of parts (Caller w)))) (resumes_append xs ys o)
  resumes_append (Behind w ∷ xs) ys o =
      ap (λ r. then_do r (finish (language parts).continues (exec (language parts)) (w ∷ [])
      (back_of parts (Behind w)))) (resumes_append xs ys o)

  module _ (x : ℕ) (text : List ℕ) (st : State) (left : ℕ) where
    abbrev raising : Ends
    raising = Ended (endings.Raised x text) st left []

    passes : (ws : List Frame) → AllByRecursion (NotCaught parts x text) ws
        → resumes (language parts) (pending parts) (map Caller ws) raising ≡ raising
    passes [] h = refl
    passes (w ∷ ws) h =
        ap (λ r. then_do r (finish (language parts).continues (exec (language parts)) []
        (back_of parts (Caller w)))) (passes ws h.1)
        ∙ ap (λ b. emit [] (settle (exec (language parts)) b left)) (h.0 st)

    pub pass : (ws : List Frame) → All (NotCaught parts x text) ws
        → resumes (language parts) (pending parts) (map Caller ws) raising ≡ raising
    pass ws h = passes ws (recursion_from_All (NotCaught parts x text) ws h)

    -- nor does the function behind
    behind_passes : (b : Option Opened)
        → resumes (language parts) (pending parts) (bottom b) raising ≡ raising
    behind_passes None = refl
    behind_passes (Some o) = refl

    pub all_pass : (b : Option Opened) (ws : List Frame) → All (NotCaught parts x text) ws
        → resumes (language parts) (pending parts) (bottom b ++ map Caller ws) raising ≡ raising
    all_pass b ws h =
        resumes_append (bottom b) (map Caller ws) raising
        ∙ ap (resumes (language parts) (pending parts) (bottom b)) (pass ws h)
        ∙ behind_passes b

-- the frames below one of them have what that one gives
chain_cut : (parts : Parts) (xs : List Frame) (q : Position) (slots : List Value) (ys : List Frame)
    (top : Position) → Chain parts (xs ++ frame (heads.Function q) slots ∷ ys) top
    → Chain parts xs q
chain_cut parts [] q slots ys top h = tt
chain_cut parts (x ∷ []) q slots ys top h = (h.0, tt)
chain_cut parts (x ∷ y ∷ xs) q slots ys top h = (h.0, chain_cut parts (y ∷ xs) q slots ys top h.1)

all_before : (P : Frame → Type 0) (xs ys : List Frame) → AllByRecursion P (xs ++ ys)
    → AllByRecursion P xs
all_before P [] ys h = tt
all_before P (x ∷ xs) ys h = (h.0, all_before P xs ys h.1)

all_behind : (P : Frame → Type 0) (xs ys : List Frame) → AllByRecursion P (xs ++ ys)
    → AllByRecursion P ys
all_behind P [] ys h = h
all_behind P (x ∷ xs) ys h = all_behind P xs ys h.1

-- frames above a caller ended with the exception of the top
module _ (parts : Parts) (kinds : Kinds) (x : ℕ) (text : List ℕ) (st : State) where
  abbrev RaisesTo : Position → List Frame → Type 0
  RaisesTo p ws = EndsTyped parts kinds p ws (endings.Raised x text) st

  pub ends_below : (xs ys : List Frame) (p : Position) → RaisesTo p (xs ++ ys)
      → (q : Position) × RaisesTo q xs
  ends_below xs [] p ends = (p, subst (RaisesTo p) (append-nil xs) ends)
  ends_below xs (y ∷ ys) p ends =
      let f = head_is parts kinds y.head y.slots
      (all_behind (IsFrame parts kinds) xs (y ∷ ys) ends.below_are).0 in (
        f.0,
        record {
          ending_is = ends.ending_is;
          below_are = all_before (IsFrame parts kinds) xs (y ∷ ys) ends.below_are;
          chain = chain_cut parts xs f.0 y.slots ys p
              (subst (λ h. Chain parts (xs ++ frame h y.slots ∷ ys) p) f.1 ends.chain);
          state = ends.state;
        },
      )

module _ (parts : Parts) (all : Ends) (items : List Item)
    (e : Ending) (c c' : Calling) (m m' : Memory) (number : ℕ) (ran : Bool)
    (same : IsSameCall c c') (left : HasLeft parts all items e c m number ran) where
  abbrev pub from : State
  from = thread number ran m.globals.items left.store

  abbrev pub to : State
  to = thread number ran m'.globals.items left.store

  abbrev pub ended : ℕ → Ends
  ended n = Ended e from n []

  same_function : c'.function.n < length parts.functions
  same_function =
      subst (λ (f : FnId). f.n < length parts.functions) (sym same.function) left.function

  -- a caller goes on, where those above it handed the ending on
  module _ (caller : Frame) (gone : List Frame) (behind : c'.behind ≡ c.behind)
      (below : c.stack.below ≡ c'.stack.below ++ caller ∷ gone)
      (handed : (n : ℕ)
      → resumes (language parts) (pending parts) (map Caller gone) (ended n) ≡ ended n)
      (leads : resume parts caller e from ≡ On (top_of c') to) (fewer : Fewer m.heap m'.heap)
      (fits : FitsWith m'.heap c'.stack m'.globals.items None) (none : c'.stack.made ≡ [])
      (callee : Position)
      (ends : EndsTyped parts left.kinds callee (c'.stack.below ++ caller ∷ []) e from) where
    abbrev pub front : List Waiting
    front = bottom c'.behind ++ map Caller c'.stack.below

    split : waiting_in c ≡ (front ++ Caller caller ∷ []) ++ map Caller gone
    split =
        ap (λ b. bottom b ++ map Caller c.stack.below) (sym behind)
        ∙ ap (λ ws. bottom c'.behind ++ map Caller ws) below
        ∙ ap (λ ws. bottom c'.behind ++ ws) (map-append Caller c'.stack.below (caller ∷ gone))
        ∙ sym (append_assoc (bottom c'.behind) (map Caller c'.stack.below)
        (Caller caller ∷ map Caller gone))
        ∙ sym (append_assoc front (Caller caller ∷ []) (map Caller gone))

    so : resumes (language parts) (pending parts) (waiting_in c) (ended c.fuel) ≡ still parts c' to
    so =
        ap (λ ws. resumes (language parts) (pending parts) ws (ended c.fuel)) split
        ∙ resumes_append parts (front ++ Caller caller ∷ []) (map Caller gone) (ended c.fuel)
        ∙ ap (resumes (language parts) (pending parts) (front ++ Caller caller ∷ []))
        (handed c.fuel)
        ∙ pop_on (language parts) (pending parts) front (Caller caller) e from c.fuel (top_of c') to
        tt leads
        ∙ ap (rest (language parts) (pending parts) front (top_of c') to) (sym same.fuel)

    is_function : (q : Position) × (caller.head ≡ heads.Function q)
    is_function =
        head_is parts left.kinds caller.head caller.slots
        (all_last (IsFrame parts left.kinds) c'.stack.below caller ends.below_are)

    is_caller : caller ≡ frame (heads.Function is_function.0) caller.slots
    is_caller = ap (λ h. frame h caller.slots) is_function.1

    kept : KeepsBack parts left.kinds is_function.0 c'.stack.below (On (top_of c') to)
    kept =
        subst (KeepsBack parts left.kinds is_function.0 c'.stack.below)
        (ap (λ w. resume parts w e from) (sym is_caller) ∙ leads)
        (returns_keep_types parts left.program callee is_function.0 caller.slots c'.stack.below e from
        left.kinds
        (subst (λ w. EndsTyped parts left.kinds callee (c'.stack.below ++ w ∷ []) e from) is_caller
        ends))

    pub on : IsAmid parts all (said items) c' m' number ran
    on = record {
      store = left.store;
      stands = stands_fewer m.heap m'.heap left.store fewer left.stands;
      so = left.so ∙ ap (emit (map Plain items)) so;
      fits = fits;
      typed = call_of parts c'.top c'.stack to left.kinds c'.stack.below kept c' refl refl refl none
          (subst (λ b. IfSome b (IsTypedOpening parts)) (sym behind) left.behind) same_function;
    }

  -- nothing is left to go on
  module _ (gone : FramesGone m m') where
    same_state : from ≡ to
    same_state = ap (λ gs. thread number ran gs left.store) (sym gone.globals)

    shared : AreShared parts m'.globals.items left.kinds left.store
    shared =
        subst (λ gs. AreShared parts gs left.kinds left.store) (sym gone.globals) left.ends.state

    module _ (f : FnId) (more : List Item) (last : End)
        (is_last : over parts f e from ≡ record { items = more; close = closed last from })
        (so : resumes (language parts) (pending parts) (waiting_in c) (ended c.fuel)
        ≡ ended c.fuel) where
      whole : all ≡ emit (map Plain items) (ended c.fuel)
      whole = left.so ∙ ap (emit (map Plain items)) so

      pub done : IsDone parts f all (items ++ more) last m' number ran
      done = record {
        store = left.store;
        stands = stands_fewer m.heap m'.heap left.store gone.fewer left.stands;
        last =
            ap (λ o. map segment_of (parts_of (closing parts f) o)) whole
            ∙ ap (map segment_of) (parts_of_ended (closing parts f) items e from c.fuel
            ∙ before_all_first items (over parts f e from) [])
            ∙ ap (λ (p : Part Item Close). record {
              items = items ++ p.items;
              «end» = p.close.«end»;
            } ∷ []) is_last;
        leaves = ap state_of whole ∙ same_state;
        fits = gone.fits;
        kinds = left.kinds;
        typed = shared;
      }

    -- the function behind begins
    module _ (o : Opened) (empty : c.stack.below ≡ []) (is_behind : c.behind ≡ Some o)
        (goes : (language parts).continues e ≡ true) (none_behind : c'.behind ≡ None)
        (top : c'.top ≡ o.position) (stack : c'.stack ≡ o.stack) where
      opening : IsTypedOpening parts o
      opening = subst (λ b. IfSome b (IsTypedOpening parts)) is_behind left.behind

      begins : GoesOn parts left.kinds [] (at o.position o.stack.slots) to
      begins = (opening.begins left.kinds).alone to shared

      alone : c'.stack.below ≡ []
      alone = ap (λ (f : Frames). f.below) stack ∙ opening.alone

      top_is : at o.position o.stack.slots ≡ top_of c'
      top_is =
          ap (λ (f : Frames). at o.position f.slots) (sym stack)
          ∙ ap (λ p. at p c'.stack.slots) (sym top)

      so_behind : resumes (language parts) (pending parts) (waiting_in c) (ended c.fuel)
          ≡ still parts c' to
      so_behind =
          ap (λ b. resumes (language parts) (pending parts) (bottom b ++ map Caller c.stack.below)
          (ended c.fuel)) is_behind
          ∙ ap (λ ws. resumes (language parts) (pending parts) (bottom (Some o) ++ map Caller ws)
          (ended c.fuel)) empty
          ∙ pop_last (language parts) (pending parts) [] (Behind (at o.position o.stack.slots)) e
          from c.fuel (at o.position o.stack.slots) refl (λ r st. refl) goes
          ∙ ap (λ st. rest (language parts) (pending parts) [] (at o.position o.stack.slots) st
          c.fuel) same_state
          ∙ ap (λ f. rest (language parts) (pending parts) [] f to c.fuel) top_is
          ∙ ap (rest (language parts) (pending parts) [] (top_of c') to) (sym same.fuel)
          ∙ ap (λ ws. rest (language parts) (pending parts) (map Caller ws) (top_of c') to c'.fuel)
          (sym alone)
          ∙ ap (λ b. rest (language parts) (pending parts) (bottom b ++ map Caller c'.stack.below)
          (top_of c') to c'.fuel) (sym none_behind)

      pub begun : IsAmid parts all (said items) c' m' number ran
      begun = record {
        store = left.store;
        stands = stands_fewer m.heap m'.heap left.store gone.fewer left.stands;
        so = left.so ∙ ap (emit (map Plain items)) so_behind;
        fits = subst (λ f. FitsWith m'.heap f m'.globals.items None) (sym stack)
            (alone_fits m'.heap o.stack m'.globals.items opening.alone opening.none_made
            opening.holds gone.fits);
        typed = call_of parts o.position o.stack to left.kinds [] begins c' top stack opening.alone
            opening.none_made
            (subst (λ b. IfSome b (IsTypedOpening parts)) (sym none_behind) tt) same_function;
      }
