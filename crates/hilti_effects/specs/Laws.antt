-- What is so of every effect.
use Rattle.std.specs.Prelude.{◌≡◌, ℕ, List, []}
use Rattle.hilti_tree.specs.declared.call.Call.{Call}
use Rattle.hilti_core.specs.Body.{EndsOnce, sent_calls}
use Rattle.hilti_core.specs.Sending.{items_of}
use Rattle.hilti_parts.specs.declared.parts.Parts.{Parts}
use Rattle.hilti_effects.specs.Effect.{effect}

-- The segments of a call aren't empty, all but the last end `Yielded`, and the last doesn't. No
-- instruction that has a row sends a call.
pub record EndsAndSendsNothing (parts : Parts) (fuel number : ℕ) (finished : List Call)
    (call : Call) : Type 0 where
  pub ends : EndsOnce (effect parts fuel number finished call)
  pub sends : sent_calls (items_of (effect parts fuel number finished call)) ≡ []

abbrev pub EffectsEnd : Type 0
EffectsEnd =
    (parts : Parts) (fuel number : ℕ) (finished : List Call) (call : Call) →
    EndsAndSendsNothing parts fuel number finished call
