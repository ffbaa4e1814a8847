-- A return undoes its call.
use Rattle.std.proofs.Common.{◌≡◌, List, [], ◌∷◌, ◌++◌, length, drop, get_or, length-append}
use Rattle.std.proofs.Common.{refl, sym, ap, ◌∙◌, arith}
use Rattle.hilti_stack.specs.declared.head.Head.{Head}
use Rattle.hilti_stack.specs.Frames.{Frame, Frames, frame, Undoes}
use Rattle.hilti_stack.proofs.Splits.{same_frames}

-- lists that are the same at the end and before it
last_same : {X : Type 0} (xs ys : List X) (x y : X) → xs ++ x ∷ [] ≡ ys ++ y ∷ [] → (xs ≡ ys) × (x ≡ y)
last_same [] [] x y same = (refl, ap (λ l. get_or l 0 x) same)
last_same [] (z ∷ ys) x y same = absurd (omega (arith, ap length same, length-append ys (y ∷ [])))
last_same (z ∷ xs) [] x y same = absurd (omega (arith, ap length same, length-append xs (x ∷ [])))
last_same {X} (z ∷ xs) (w ∷ ys) x y same =
    let more : (xs ≡ ys) × (x ≡ y) = last_same xs ys x y (ap (drop 1) same) in
    (ap (λ l. l ∷ xs) (ap (λ l. get_or l 0 z) same) ∙ ap (λ l. w ∷ l) more.0, more.1)

pub undoes : (s : Frames) (its : Head) (callee : Frames) (head : Head) (after : Frames)
    → Undoes s its callee head after
undoes s its callee head after below leaves =
    let same : (after.below ≡ s.below) × (frame head after.slots ≡ frame its s.slots) =
    last_same after.below s.below (frame head after.slots) (frame its s.slots) (sym leaves.caller ∙ below) in (
      ap (λ (f : Frame). f.head) same.1,
      same_frames after.below s.below after.slots s.slots after.made [] same.0
          (ap (λ (f : Frame). f.slots) same.1) leaves.made,
    )
