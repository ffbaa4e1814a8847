-- What every call's segments have: they end once, and what they send is sound.
use Rattle.std.specs.Prelude.{ℕ, List}
use Rattle.std.specs.List.{All}
use Rattle.std.proofs.Common.{sym, subst}
use Rattle.std.proofs.lemmas.List.Elements.{All-nil}
use Rattle.hilti_tree.specs.declared.call.Call.{Call}
use Rattle.hilti_core.specs.declared.pieces.Segment.{Segment}
use Rattle.hilti_core.specs.Body.{HasSegments}
use Rattle.hilti_effects.specs.Effect.{effect}
use Rattle.hilti_effects.proofs.Segments.{effects-end}
use Rattle.hilti_machine.specs.Sound.{IsSound}
use Rattle.hilti_machine.specs.Threads.{Facts}

-- the segments of a call, over what a machine knows
abbrev pub effect_of : Facts → ℕ → List Call → Call → List Segment
effect_of facts = effect facts.parts facts.fuel

pub has_segments : (facts : Facts) → HasSegments (effect_of facts) (IsSound facts)
has_segments facts thread finished call all sound =
    let e = effects-end facts.parts facts.fuel thread finished call in record {
      ends = e.ends;
      sends = subst (All (IsSound facts)) (sym e.sends) (All-nil (IsSound facts));
    }
