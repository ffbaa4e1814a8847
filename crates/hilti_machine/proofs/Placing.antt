-- The next instruction of a thread, and the objects that it keeps.
use Rattle.std.proofs.Common.{◌≡◌, ℕ, zero, suc, ◌+◌, ◌≤◌, List, refl, sym, ap, subst, arith}
use Rattle.std.proofs.Common.{Option, Some, None, IsSomeAnd, slice_get}
use Rattle.std.specs.Option.{option_map, unwrap_or}
use Rattle.hilti_base.specs.declared.names.FnId.{FnId}
use Rattle.hilti_tree.specs.declared.call.Call.{Call}
use Rattle.hilti_core.specs.Core.{Running}
use Rattle.hilti_calls.specs.Parts.{Part}
use Rattle.hilti_core.specs.declared.pieces.Item.{Item}
use Rattle.hilti_stack.specs.Counts as stacks
use Rattle.hilti_stack.specs.Frames.{Frame}
use Rattle.hilti_heap.specs.Cells.{inner_at, times_at}
use Rattle.hilti_heap.specs.Held.{part, held, all_held}
use Rattle.hilti_heap.proofs.Places.{has_object}
use Rattle.hilti_effects.specs.State.{State, Close}
use Rattle.hilti_effects.specs.Effect.{first_of, opens, segments_in}
use Rattle.hilti_machine.specs.declared.calling.Calling.{Calling}
use Rattle.hilti_machine.specs.Threads.{Facts, Thread, runs, runs_by, state_in, state_behind}
use Rattle.hilti_machine.specs.Threads.{IsSuspended, IsPlace, IsPlaceAfter, place_of, top_of}
use Rattle.hilti_machine.specs.Threads.{KeepsOnlyHeld, suspension}
use Rattle.hilti_machine.proofs.Typing.{same_position}

module _ (facts : Facts) (before : State) (call : Call) (c : Calling) (st : State) where
  opening_place : (first : Option FnId) → top_of c ≡ opens facts.parts first call
      → place_of c.top ≡ (unwrap_or first call.function, 0, 0)
  opening_place (Some f) e =
      ap place_of (same_position c.top (record { function = f; block = 0; at = 0; target = None })
      (ap (λ (w : Frame). w.head) e))
  opening_place None e =
      ap place_of
      (same_position c.top
      (record { function = call.function; block = 0; at = 0; target = None })
      (ap (λ (w : Frame). w.head) e))

  closed_place : (found : Option (Part Item Close))
      → IsSomeAnd found (λ part. part.close ≡ suspension c.top st)
      → IsSomeAnd found (λ part. IsSomeAnd part.close.place (λ p. place_of c.top ≡ place_of p))
  closed_place (Some part) e =
      subst (λ (close : Close). IsSomeAnd close.place (λ p. place_of c.top ≡ place_of p)) (sym e)
      refl
  closed_place None e = absurd e

  place_after : (given : ℕ) → IsSuspended facts before call given c st
      → IsPlaceAfter facts before call given (place_of c.top)
  place_after zero h = opening_place (first_of facts.parts before.ran) h.0
  place_after (suc k) h =
      closed_place (slice_get (segments_in facts.parts facts.fuel before call) k) h

module _ (facts : Facts) (vt : Thread) (number : ℕ) (finished : List Call) where
  placed_by : (c : Option Calling) (r : Option Running) → runs_by facts vt number finished c r
      → IsPlace facts number finished r (option_map (λ (c : Calling). place_of c.top) c)
  placed_by None None h = refl
  placed_by (Some c) (Some r) h =
      place_after facts (state_behind facts number finished) r.call c (state_in vt h.store) r.given
      h.suspended
  placed_by None (Some r) h = absurd h
  placed_by (Some c) None h = absurd h

  pub placed : (r : Option Running) (place : Option (FnId × ℕ × ℕ))
      → place ≡ option_map (λ (c : Calling). place_of c.top) vt.calling
      → runs facts vt number finished r → IsPlace facts number finished r place
  placed r place is h =
      subst (IsPlace facts number finished r) (sym is) (placed_by vt.calling r h)

  held_by : (c : Option Calling) (r : Option Running) → runs_by facts vt number finished c r
      → (s : ℕ) → 1 ≤ times_at s vt.memory.heap.cells
      → 1 ≤ part (λ (c : Calling). stacks.held (held s) c.stack) c
      + all_held s vt.memory.globals.items + inner_at s vt.memory.heap.cells
  held_by None None h s there =
      let n = h.fits.count s in let a = h.fits.alive s there in omega arith
  held_by (Some c) (Some r) h s there =
      let n = h.fits.is.count s in let a = h.fits.is.alive s there in omega arith
  held_by None (Some r) h s there = absurd h
  held_by (Some c) None h s there = absurd h

  pub keeps_held : (r : Option Running) → runs facts vt number finished r → KeepsOnlyHeld vt
  keeps_held r h s o there =
      held_by vt.calling r h s (has_object s vt.memory.heap.cells o there)
