-- Frames that go on or end with nothing changed.
use Rattle.std.proofs.Common.{◌≡◌, refl}
use Rattle.std.specs.Prelude.{List}
use Rattle.hilti_calls.specs.Calls.{Action.Go, Action.Leave}
use Rattle.hilti_calls.specs.Parts.{Mark}
use Rattle.hilti_core.specs.declared.pieces.Item.{Item}
use Rattle.hilti_stack.specs.declared.head.Position.{Position}
use Rattle.hilti_stack.specs.Frames.{Frames}
use Rattle.hilti_effects.specs.Acting.{at}
use Rattle.hilti_effects.specs.State.{State, Close, Does}
use Rattle.hilti_effects.specs.declared.ending.Ending.{Ending}
use Rattle.hilti_acting.specs.Acts.{WentOn, Leaves, Stands, carried, of_state, thread}
use Rattle.hilti_acting.specs.Owned.{FitsWith}
use Rattle.hilti_acting.specs.declared.memory.Memory.{Memory}

module _ (does : State → Does) (p : Position) (s : Frames) (m : Memory) where
  pub goes_on : (done : Position → State → List (Mark Item Close)) (p' : Position)
      → ((st : State) → does st ≡ Go (done p' st) (at p' s.slots) st) → Stands p s m
      → WentOn (of_state does m.globals.items) s m done p' s m
  goes_on done p' is stands = record {
    leads = λ number ran store h.
        record { store = store; stands = h; so = is (thread number ran m.globals.items store) };
    fits = stands.fits;
    below = refl;
    none_made = stands.none_made;
  }

  pub ends : (e : Ending) → ((st : State) → does st ≡ Leave e st)
      → FitsWith m.heap s m.globals.items (carried e)
      → Leaves (of_state does m.globals.items) p s m e p s m
  ends e is fits = record {
    leads = λ number ran store h.
        record { store = store; stands = h; so = is (thread number ran m.globals.items store) };
    fits = fits;
    stack = refl;
    position = refl;
    globals = refl;
  }
