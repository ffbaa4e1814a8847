-- Over sound calls a call in progress has a segment left.
use Rattle.std.proofs.Common.{◌≡◌, ℕ, ◌<◌, zero, suc, List, [], ◌∷◌, length, drop, Some, refl, ap, sym, ◌∙◌, subst, arith}
use Rattle.std.specs.Prelude.{◌↔◌}
use Rattle.std.specs.List.{All}
use Rattle.std.proofs.lemmas.List.Elements.{All-head}
use Rattle.hilti_tree.specs.declared.call.Call.{Call}
use Rattle.hilti_core.specs.declared.pieces.Segment.{Segment}
use Rattle.hilti_core.specs.declared.pieces.End.TheVariants.{Yielded}
use Rattle.hilti_core.specs.declared.event.Event.{Event}
use Rattle.hilti_core.specs.declared.event.Event.TheVariants.{Feed, Take, Put}
use Rattle.hilti_core.specs.Sending.{Effect}
use Rattle.hilti_core.specs.Core.{Waiting, Running, Resident, Core, core_of_none, left, left_of, after_segment, finished_after, running_after, put_by, put_of, core}
use Rattle.hilti_core.specs.Atomic.{HasSeats}
use Rattle.hilti_core.specs.Body.{EndsOnce, HasSegments}
use Rattle.hilti_core.specs.Kept.{IsSoundCore}
use Rattle.hilti_core.specs.UnderWay.{HasSegmentsLeft, MayPut, EndsByRest, KeepsUnderWay}
use Rattle.hilti_core.proofs.Lists.{put_cases, drop_next}
use Rattle.hilti_core.proofs.Moves.{Moves, Moves.Fed, Moves.Goes, Moves.Starts, Moves.Home, keeps_play}
use Rattle.hilti_core.proofs.Kept.{sound_step, sound_first}
use Rattle.hilti_core.proofs.Journals.{seats_of}

-- a list that ends once isn't empty
not_empty : (segments : List Segment) → EndsOnce segments → 0 < length segments
not_empty [] h = absurd h
not_empty (segment ∷ more) h = omega arith

-- what is left behind a number of segments
pub left_some : {A : Type 0} (n : ℕ) (xs : List A) (y : A) (ys : List A) → drop n xs ≡ y ∷ ys → n < length xs
left_some zero [] y ys e = absurd cc
left_some zero (x ∷ xs) y ys e = omega arith
left_some (suc n) [] y ys e = absurd cc
left_some (suc n) (x ∷ xs) y ys e = let k = left_some n xs y ys e in omega (arith, k)

pub some_left : {A : Type 0} (n : ℕ) (xs : List A) → n < length xs → (y : A) × (ys : List A) × (drop n xs ≡ y ∷ ys)
some_left n [] low = absurd (omega (arith, low))
some_left zero (x ∷ xs) low = (x, xs, refl)
some_left (suc n) (x ∷ xs) low = some_left n xs (omega (arith, low))

-- what is left of a list that ends once ends once
pub ends_left : (n : ℕ) (all : List Segment) (segment : Segment) (rest : List Segment) → EndsOnce all → drop n all ≡ segment ∷ rest → EndsOnce (segment ∷ rest)
ends_left zero all segment rest h e = subst EndsOnce e h
ends_left (suc n) [] segment rest h e = absurd h
ends_left (suc n) (last ∷ []) segment rest h e = absurd (none n e)
  where
    none : (n : ℕ) → drop n [] ≡ segment ∷ rest → ⊥
    none zero e = cc
    none (suc n) e = cc
ends_left (suc n) (first ∷ next ∷ more) segment rest h e = ends_left n (next ∷ more) segment rest h.1 e

-- its first segment ends `Yielded` exactly where others are behind it
pub ends_by_rest : (segment : Segment) (rest : List Segment) → EndsOnce (segment ∷ rest) → (segment.end ≡ Yielded) ↔ ¬ (rest ≡ [])
ends_by_rest segment [] h = (λ is. absurd (h is), λ some. absurd (some refl))
ends_by_rest segment (next ∷ more) h = (λ is e. absurd cc, λ some. h.0)

module _ (effect : Effect) (sound : Call → Type 0) (segments : HasSegments effect sound) where
  -- of one thread
  abbrev Left : ℕ → Resident → Type 0
  Left r t = (running : Running) → t.running ≡ Some running → running.given < length (effect r t.finished running.call)

  -- sound calls, each with a segment left
  record Both (c : Core) : Type 0 where
    is_sound : IsSoundCore sound c
    is_left : (r : ℕ) → Left r (c.thread r)

  some_is : (x y : Running) → Some x ≡ Some y → x ≡ y
  some_is x y e = cc

  left_step : (limit : ℕ) (event : Event) (c d : Core) → Moves effect limit c d event → Both c → (r : ℕ) → Left r (d.thread r)
  left_step limit event c d move h = go event move
    where
      keep : Core → Type 0
      keep x = (r : ℕ) → Left r (x.thread r)

      begun : (r : ℕ) (head : Waiting) → sound head.message.call → (running : Running) → Some (record { call = head.message.call; given = 0 }) ≡ Some running → running.given < length (effect r (c.thread r).finished running.call)
      begun r head is running e = subst (λ (x : Running). x.given < length (effect r (c.thread r).finished x.call)) (some_is (record { call = head.message.call; given = 0 }) running e)
          (not_empty (effect r (c.thread r).finished head.message.call) (segments r (c.thread r).finished head.message.call (h.is_sound.finished r) is).ends)

      given : (r : ℕ) (running : Running) (segment : Segment) (rest : List Segment) → drop running.given (effect r (c.thread r).finished running.call) ≡ segment ∷ rest →
          (next : Running) → running_after running rest ≡ Some next → next.given < length (effect r (finished_after (c.thread r).finished running rest) next.call)
      given r running segment [] cut next e = absurd cc
      given r running segment (x ∷ rest) cut next e = subst (λ (y : Running). y.given < length (effect r (c.thread r).finished y.call)) (some_is (record { call = running.call; given = suc running.given }) next e)
          (left_some (suc running.given) (effect r (c.thread r).finished running.call) x rest (drop_next running.given (effect r (c.thread r).finished running.call) segment (x ∷ rest) cut))

      go : (event : Event) → Moves effect limit c d event → (r : ℕ) → Left r (d.thread r)
      go Feed (Fed call rest is) = subst keep (sym is.gives) h.is_left
      go (Take w x) (Goes worker thread running is) = subst keep (sym is.gives)
          (put_cases Left c.thread thread.n (record (c.thread thread.n) { worker = Some worker }) (h.is_left thread.n) h.is_left)
      go (Take w x) (Starts worker thread head rest is) = subst keep (sym is.gives)
          (put_cases Left c.thread thread.n (record (c.thread thread.n) { running = Some (record { call = head.message.call; given = 0 }); worker = Some worker })
          (begun thread.n head (All-head (λ (w : Waiting). sound w.message.call) head rest (subst (All (λ (w : Waiting). sound w.message.call)) is.inbox (h.is_sound.inboxes thread.n)))) h.is_left)
      go (Put w) (Home worker r running segment rest is) = subst keep (sym is.gives)
          (put_cases Left c.thread r (after_segment (c.thread r) running segment rest) (given r running segment rest is.left) h.is_left)

  both_step : (limit : ℕ) (event : Event) (c d : Core) → Moves effect limit c d event → Both c → Both d
  both_step limit event c d move h = record { is_sound = sound_step effect sound segments limit event c d move h.is_sound; is_left = left_step limit event c d move h }

  both_of : (calls : List Call) (limit : ℕ) (journal : List Event) (c : Core) → All sound calls → core effect calls limit journal ≡ Some c → Both c
  both_of calls limit journal c all e = keeps_play effect limit Both (both_step limit) journal (core_of_none calls) c e
      (record { is_sound = sound_first effect sound segments calls all; is_left = λ r running is. absurd cc })

  ends_of : (c : Core) → Both c → EndsByRest effect c
  ends_of c h r running segment rest runs cut =
      let all : List Segment = effect r (c.thread r).finished running.call in
      let ends = (segments r (c.thread r).finished running.call (h.is_sound.finished r) (h.is_sound.running r running runs)).ends in
      ends_by_rest segment rest (ends_left running.given all segment rest ends (sym (ap (left_of effect r (c.thread r).finished) runs) ∙ cut))

  pub may_put : (limit : ℕ) (c : Core) → HasSeats c.thread c.out → HasSegmentsLeft effect c → MayPut effect limit c
  may_put limit c seats all worker r has =
      let busy = seats.busy r worker (seats.seated worker r has) in
      let running : Running = busy.0 in
      let some = some_left running.given (effect r (c.thread r).finished running.call) (all r running busy.1) in
      let cut : left effect r (c.thread r) ≡ some.0 ∷ some.1 = ap (left_of effect r (c.thread r).finished) busy.1 ∙ some.2 in
      let put = put_by worker r c (Some running) (some.0 ∷ some.1) in (
        _,
        ap (put_of effect worker c) has ∙ (ap (λ o. put_by worker r c o (left effect r (c.thread r))) busy.1 ∙ ap (put_by worker r c (Some running)) cut),
      )

  pub under_way : (calls : List Call) (limit : ℕ) (journal : List Event) → KeepsUnderWay effect sound calls limit journal
  under_way calls limit journal c all e =
      let both = both_of calls limit journal c all e in
      record { given = both.is_left; puts = may_put limit c (seats_of effect calls limit journal c e) both.is_left; ends = ends_of c both }
