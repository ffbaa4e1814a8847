-- What frames and globals of a call hold.
use Rattle.std.proofs.Common.{◌≡◌, ◌+◌, List, [], ap, arith}
use Rattle.std.proofs.Common.{sum_by}
use Rattle.std.proofs.Common.{None}
use Rattle.std.proofs.lemmas.List.Sums.{sum-map}
use Rattle.hilti_values.specs.declared.value.Value.{Value}
use Rattle.hilti_stack.specs.Frames.{Frame, Frames}
use Rattle.hilti_heap.specs.Held.{held, all_held}
use Rattle.hilti_heap.specs.Kept.{Kept}
use Rattle.hilti_heap.specs.Stands.{Fits}
use Rattle.hilti_shapes.specs.Keeping.{HoldsAll}
use Rattle.hilti_openings.specs.Openings.{HoldNothing}
use Rattle.hilti_acting.specs.Owned.{owned, FitsWith}
use Rattle.hilti_acting.proofs.Counts.{fits_same}

-- the slots of the top are among what all frames hold
pub top_held : (f : Frames) (gs : List Value) → HoldsAll f.slots gs (λ s. owned f gs s + 0)
top_held f gs s = let m = sum-map (held s) f.slots in omega arith

-- frames alone that hold nothing
pub alone_fits : (h : Kept) (f : Frames) (gs : List Value) → f.below ≡ [] → f.made ≡ []
    → HoldNothing f.slots → Fits h (λ s. all_held s gs) → FitsWith h f gs None
alone_fits h f gs b n none fits = record {
  is = fits_same h (λ s. all_held s gs) (λ s. owned f gs s + 0)
      (λ s.
      let w = ap (sum_by (λ (caller : Frame). sum_by (held s) caller.slots)) b in
      let m = ap (sum_by (held s)) n in
      let t = sum-map (held s) f.slots in
      let z = none s in
      omega arith)
      fits;
}
