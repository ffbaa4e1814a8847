-- Takes and segments: what was taken is what calls were given, and what is out.
use Rattle.std.proofs.Common.{◌≡◌, ℕ, ◌+◌, ◌<◌, ◌≤◌, suc, Bool, true, false, List, ◌∷◌, length, drop, Option, Some, None, refl, ap, sym, ◌∙◌, arith, ltb}
use Rattle.std.proofs.lemmas.Bool.Decides.{nat_tests}
use Rattle.hilti_core.specs.declared.pieces.Segment.{Segment}
use Rattle.hilti_core.specs.Sending.{Effect}
use Rattle.hilti_core.specs.Machine.{Machine, after_message}
use Rattle.hilti_core.specs.Core.{Waiting, Running, Resident, Core, goes_on, begins, comes_home, left, left_of, after_segment}
use Rattle.hilti_core.specs.Atomic.{Compares, HasSeats, NothingRuns}
use Rattle.hilti_core.specs.Sums.{sum_below}
use Rattle.hilti_core.proofs.Sums.{sum_put, sum_put_past, sum_zero}
use Rattle.hilti_core.proofs.Simulates.{same_done, the_pick, the_rest, left_before, left_after}

abbrev pub count_some : Option ℕ → ℕ
count_some None = 0
count_some (Some worker) = 1

-- is a thread out?
abbrev pub away : ℕ → Resident → ℕ
away x resident = count_some resident.worker

abbrev pub left_count : Effect → ℕ → Resident → ℕ
left_count effect x resident = length (left effect x resident)

-- takes and segments still to be given are the segments of the calls started and the threads that are out
abbrev pub Balanced : Effect → ℕ → Machine → Core → Type 0
Balanced effect bound m c = c.takes + sum_below bound (λ x. left_count effect x (c.thread x)) ≡ m.segments + sum_below bound (λ x. away x (c.thread x))

module _ (effect : Effect) (bound : ℕ) (m : Machine) (c : Core) (h : Compares effect m c) (b : Balanced effect bound m c) where
  pub balanced_goes : (worker r : ℕ) → r < bound → (c.thread r).worker ≡ None → Balanced effect bound m (goes_on worker r c)
  balanced_goes worker r low home =
      let t : Resident = record (c.thread r) { worker = Some worker } in
      let l = sum_put (left_count effect) c.thread r t bound low in
      let a = sum_put away c.thread r t bound low in
      let was : away r (c.thread r) ≡ 0 = ap count_some home in
      omega (arith, l, a, was, b)

  pub balanced_begins : (worker r : ℕ) (head : Waiting) (rest : List Waiting) (idle : (c.thread r).running ≡ None) (inbox : c.inbox r ≡ head ∷ rest) → r < bound → (c.thread r).worker ≡ None →
      Balanced effect bound (after_message effect (the_pick effect m c h worker r head rest idle inbox) head.message (the_rest effect m c h worker r head rest idle inbox) m) (begins worker r head rest c)
  balanced_begins worker r head rest idle inbox low home =
      let t : Resident = record (c.thread r) { running = Some (record { call = head.message.call; given = 0 }); worker = Some worker } in
      let l = sum_put (left_count effect) c.thread r t bound low in
      let a = sum_put away c.thread r t bound low in
      let was : away r (c.thread r) ≡ 0 = ap count_some home in
      let none : left_count effect r (c.thread r) ≡ 0 = ap (λ x. length (left_of effect r (c.thread r).finished x)) idle in
      let same : length (effect r (m.thread r).calls head.message.call) ≡ length (effect r (c.thread r).finished head.message.call) =
      ap (λ l. length (effect r l head.message.call)) (same_done effect r (m.thread r) (c.thread r) (h.threads r) idle).calls in
      omega (arith, l, a, was, none, same, b)

  pub balanced_home : (worker r : ℕ) (running : Running) (segment : Segment) (rest : List Segment) (runs : (c.thread r).running ≡ Some running)
      (cut : drop running.given (effect r (c.thread r).finished running.call) ≡ segment ∷ rest) → (c.thread r).worker ≡ Some worker →
      Balanced effect bound m (comes_home worker r running segment rest c)
  balanced_home worker r running segment rest runs cut out = go (ltb r bound) refl
    where
      t : Resident
      t = after_segment (c.thread r) running segment rest

      before : left_count effect r (c.thread r) ≡ suc (length rest)
      before = ap length (left_before effect m c h worker r running segment rest runs cut)

      after : left_count effect r t ≡ length rest
      after = ap length (left_after effect m c h worker r running segment rest runs cut)

      was : away r (c.thread r) ≡ 1
      was = ap count_some out

      is : away r t ≡ 0
      is = refl

      go : (low : Bool) → ltb r bound ≡ low → Balanced effect bound m (comes_home worker r running segment rest c)
      go true e =
          let low : r < bound = grind (arith, nat_tests) in
          let l = sum_put (left_count effect) c.thread r t bound low in
          let a = sum_put away c.thread r t bound low in
          omega (arith, l, a, before, after, was, is, b)
      go false e =
          let low : bound ≤ r = grind (arith, nat_tests) in
          let l = sum_put_past (left_count effect) c.thread r t bound low in
          let a = sum_put_past away c.thread r t bound low in
          omega (arith, l, a, b)

  -- with nothing in progress there are as many takes as segments
  pub balanced_still : HasSeats c.thread c.out → NothingRuns c → m.segments ≡ c.takes
  balanced_still seats still =
      let l : sum_below bound (λ x. left_count effect x (c.thread x)) ≡ 0 = sum_zero bound (λ x. left_count effect x (c.thread x)) (λ x. ap (λ o. length (left_of effect x (c.thread x).finished o)) (still x)) in
      let a : sum_below bound (λ x. away x (c.thread x)) ≡ 0 = sum_zero bound (λ x. away x (c.thread x)) (λ x. home x (c.thread x).worker refl) in
      omega (arith, l, a, b)
    where
      home : (x : ℕ) (w : Option ℕ) → (c.thread x).worker ≡ w → away x (c.thread x) ≡ 0
      home x None e = ap count_some e
      home x (Some worker) e = let busy = seats.busy x worker e in absurd (let k : Some busy.0 ≡ None = sym busy.1 ∙ still x in cc)
