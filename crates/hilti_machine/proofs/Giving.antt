-- The segments that a machine gives.
use Rattle.std.proofs.Common.{◌≡◌, ℕ, zero, suc, Bool, List, [], ◌∷◌, map, drop, refl, sym}
use Rattle.std.proofs.Common.{ap, ◌∙◌, subst}
use Rattle.std.proofs.Common.{Option, Some, None, slice_get, IsSomeAnd}
use Rattle.std.proofs.lemmas.List.{drop-map}
use Rattle.hilti_base.specs.declared.names.FnId.{FnId}
use Rattle.hilti_tree.specs.declared.call.Call.{Call}
use Rattle.hilti_parts.specs.declared.parts.Parts.{Parts as Program}
use Rattle.hilti_core.specs.Body.{Gives, IsBusy}
use Rattle.hilti_core.specs.Core.{Running, finished_after, running_after}
use Rattle.hilti_core.specs.declared.pieces.Item.{Item}
use Rattle.hilti_core.specs.declared.pieces.Segment.{Segment}
use Rattle.hilti_calls.specs.Calls.{emit}
use Rattle.hilti_calls.specs.Parts.{Mark, Mark.Plain, Mark.Cut, Part, before, parts, parts_of}
use Rattle.hilti_calls.specs.Calls.{Outcome.Ended, Outcome.Spent}
use Rattle.hilti_calls.proofs.Stacks.{emit_emit, emit_none}
use Rattle.hilti_calls.proofs.Cutting.{parts_of_part}
use Rattle.hilti_effects.specs.State.{State, Close, Ends, Parts as Segments}
use Rattle.hilti_effects.specs.Effect.{closing, over, spent, state_of, segment_of, segments_in}
use Rattle.hilti_acting.specs.Acts.{thread}
use Rattle.hilti_acting.specs.declared.memory.Memory.{Memory}
use Rattle.hilti_machine.specs.declared.calling.Calling.{Calling}
use Rattle.hilti_machine.specs.Segments.{effect_of}
use Rattle.hilti_machine.specs.Steps.{said, cut, IsAmid, IsUnderWay, IsDone, GoesOn, SegmentLeads}
use Rattle.hilti_machine.specs.Threads.{Facts, Thread, IsRunning, runs, runs_by}
use Rattle.hilti_machine.specs.Threads.{state_in, state_behind, still, suspension}

-- there is a first part
abbrev pub HasFirst : List (Part Item Close) → Type 0
HasFirst [] = ⊥
HasFirst (p ∷ more) = Unit {0}

first_before : (item : Item) (ps : List (Part Item Close)) → HasFirst ps
    → HasFirst (before item ps)
first_before item [] h = h
first_before item (p ∷ more) h = tt

first_cut : (marks : List (Mark Item Close)) (last : Part Item Close)
    → HasFirst (parts marks (last ∷ []))
first_cut [] last = tt
first_cut (Plain item ∷ marks) last =
    first_before item (parts marks (last ∷ [])) (first_cut marks last)
first_cut (Cut close ∷ marks) last = tt

first_of_all : (program : Program) (f : FnId) (o : Ends) → HasFirst (parts_of (closing program f) o)
first_of_all program f (Ended e st left trace) = first_cut trace (over program f e st)
first_of_all program f (Spent st trace) = first_cut trace (spent program f st)

drop_next : {A : Type 0} (n : ℕ) (xs : List A) (y : A) (ys : List A) → drop n xs ≡ y ∷ ys
    → drop (suc n) xs ≡ ys
drop_next zero [] y ys e = cc
drop_next zero (x ∷ xs) y ys e = cc
drop_next (suc n) [] y ys e = cc
drop_next (suc n) (x ∷ xs) y ys e = drop_next n xs y ys e

get_next : {A : Type 0} (n : ℕ) (xs : List A) (y : A) (ys : List A) → drop n xs ≡ y ∷ ys
    → slice_get xs n ≡ Some y
get_next zero [] y ys e = absurd cc
get_next zero (x ∷ xs) y ys e = ap (λ all. slice_get all 0) e
get_next (suc n) [] y ys e = absurd cc
get_next (suc n) (x ∷ xs) y ys e = get_next n xs y ys e

module _ (facts : Facts) (vt : Thread) (number : ℕ) (finished : List Call) (c : Calling)
    (r : Running) (running : IsRunning facts vt number finished c r) where
  -- all that the call still does
  abbrev pub all : Ends
  all = still facts.parts c (state_in vt running.store)

  pub amid : IsAmid facts.parts all (said []) c vt.memory vt.number vt.ran
  amid = record {
    store = running.store;
    stands = running.stands;
    so = sym (emit_none all);
    fits = running.fits;
    typed = running.typed;
  }

  pub under_way : IsUnderWay facts.parts [] c vt.memory
  under_way = record { all = all; number = vt.number; ran = vt.ran; amid = amid }

  -- the segments of the call
  abbrev segs : Segments
  segs = segments_in facts.parts facts.fuel (state_behind facts number finished) r.call

  left_segments : drop r.given (effect_of facts number finished r.call)
      ≡ map segment_of (parts_of (closing facts.parts c.function) all)
  left_segments = drop-map segment_of r.given segs ∙ ap (map segment_of) (sym running.ahead)

  module _ (segment : Segment) (m : Memory) where
    -- the thread behind the segment
    abbrev behind : Option Calling → Thread
    behind next = record vt { memory = m; calling = next }

    abbrev GivesNow : Option Calling → Type 0
    GivesNow next =
        (rest : List Segment)
        × (drop r.given (effect_of facts number finished r.call) ≡ segment ∷ rest)
        × runs facts (behind next) number (finished_after finished r rest) (running_after r rest)

    ended : IsDone facts.parts c.function all segment.items segment.«end» m vt.number vt.ran
        → GivesNow None
    ended d = (
      [],
      left_segments ∙ d.last,
      record {
        store = d.store;
        stands = d.stands;
        state = sym d.leaves ∙ running.leaves;
        fits = d.fits;
        kinds = d.kinds;
        typed = d.typed;
      },
    )

    module _ (c' : Calling)
        (g : GoesOn facts.parts c.function all segment c' m vt.number vt.ran) where
      abbrev pub st : State
      st = thread vt.number vt.ran m.globals.items g.amid.store

      abbrev pub later : Ends
      later = still facts.parts c' st

      abbrev pub first : Part Item Close
      first = record { items = segment.items; close = suspension c'.top st }

      abbrev pub more : Segments
      more = parts_of (closing facts.parts c.function) later

      whole : parts_of (closing facts.parts c.function) all ≡ first ∷ more
      whole =
          ap (parts_of (closing facts.parts c.function))
          (g.amid.so ∙ sym (emit_emit (map Plain segment.items) (Cut (suspension c'.top st) ∷ [])
          later))
          ∙ parts_of_part (closing facts.parts c.function) segment.items (suspension c'.top st) later

      given : drop r.given segs ≡ first ∷ more
      given = sym running.ahead ∙ whole

      same_segment : segment_of first ≡ segment
      same_segment = ap (λ e. record { items = segment.items; «end» = e }) (sym g.yielded)

      same_leaves : state_of all ≡ state_of later
      same_leaves = ap state_of g.amid.so ∙ leaves_of (cut segment.items c'.top st) later
        where
          leaves_of : (marks : List (Mark Item Close)) (o : Ends)
              → state_of (emit marks o) ≡ state_of o
          leaves_of marks (Ended e s left trace) = refl
          leaves_of marks (Spent s trace) = refl

      next : IsRunning facts (behind (Some c')) number finished c'
          (record r { given = suc r.given })
      next = record {
        store = g.amid.store;
        stands = g.amid.stands;
        function = g.function ∙ running.function;
        ahead =
            ap (λ f. parts_of (closing facts.parts f) later) g.function
            ∙ sym (drop_next r.given segs first more given);
        leaves = sym same_leaves ∙ running.leaves;
        suspended = subst (λ o. IsSomeAnd o (λ part. part.close ≡ suspension c'.top st))
            (sym (get_next r.given segs first more given)) refl;
        fits = g.amid.fits;
        typed = g.amid.typed;
      }

      goes_on : (rest : Segments) → more ≡ rest → HasFirst rest → GivesNow (Some c')
      goes_on [] is h = absurd h
      goes_on (p ∷ ps) is h = (
        map segment_of (p ∷ ps),
        left_segments ∙ ap (map segment_of) whole ∙ ap (λ s. s ∷ map segment_of more) same_segment
            ∙ ap (λ ps. segment ∷ map segment_of ps) is,
        next,
      )

    pub gives : (next : Option Calling)
        → SegmentLeads facts.parts c.function all segment next m vt.number vt.ran → GivesNow next
    gives None d = ended d
    gives (Some c') g =
        goes_on c' g (more c' g) refl (first_of_all facts.parts c.function (later c' g))

-- the call in progress
in_progress : (facts : Facts) (vt : Thread) (number : ℕ) (finished : List Call) (c : Calling)
    (r : Running) → vt.calling ≡ Some c → runs facts vt number finished (Some r)
    → IsRunning facts vt number finished c r
in_progress facts vt number finished c r is h =
    subst (λ o. runs_by facts vt number finished o (Some r)) is h

-- `seen` is the thread, field by field
pub busy : (facts : Facts) (parts : Program) (vt seen : Thread) (c : Calling)
    → parts ≡ facts.parts → seen ≡ vt → seen.calling ≡ Some c → IsBusy (runs facts vt)
    → IsUnderWay parts [] c seen.memory
busy facts parts vt seen c same view is (number, finished, r, h) =
    subst (λ p. IsUnderWay p [] c seen.memory) (sym same)
    (under_way facts seen number finished c r
    (in_progress facts seen number finished c r is
    (subst (λ t. runs facts t number finished (Some r)) (sym view) h)))

-- what a run leads to is what a segment gives
pub gives_segment : (facts : Facts) (parts : Program) (vt seen : Thread) (c : Calling)
    (segment : Segment) (next : Option Calling) (m : Memory) → parts ≡ facts.parts → seen ≡ vt
    → seen.calling ≡ Some c
    → ((all : Ends) (number : ℕ) (ran : Bool)
    → IsAmid parts all (said []) c seen.memory number ran
    → SegmentLeads parts c.function all segment next m number ran)
    → Gives (effect_of facts) (runs facts vt) segment
    (runs facts (record seen { memory = m; calling = next }))
gives_segment facts parts vt seen c segment next m same view is leads number finished r h =
    let running = in_progress facts seen number finished c r is
    (subst (λ t. runs facts t number finished (Some r)) (sym view) h) in
    gives facts seen number finished c r running segment m next
    (subst (λ p. SegmentLeads p c.function (all facts seen number finished c r running) segment next
    m seen.number seen.ran) same
    (leads (all facts seen number finished c r running) seen.number seen.ran
    (subst (λ p. IsAmid p (all facts seen number finished c r running) (said []) c seen.memory
    seen.number seen.ran) (sym same) (amid facts seen number finished c r running))))
