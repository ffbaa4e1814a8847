-- What is due next in the map of entries is the least stamp.
use Rattle.std.proofs.Common.{◌≡◌, ℕ, ◌<◌, ◌≤◌, zero, suc, List, [], ◌∷◌, map, length, get_or, Some, None, cond, true, false, refl, sym, ap, subst, arith}
use Rattle.std.proofs.lemmas.List.Elements.{All-head, All-tail}
use Rattle.std.specs.List.{All}
use Rattle.std.specs.Option.{IsSomeAnd}
use Rattle.std.specs.Ordering.{nat_cmp}
use Rattle.std.specs.FinMap.{find}
use Rattle.hilti_base.specs.declared.names.Serial.{Serial}
use Rattle.hilti_timers.specs.declared.manager.Waiting.{Waiting}
use Rattle.hilti_timers.specs.Kept.{AreApart, IsLeast, pair, schedule_of, stamp}
use Rattle.hilti_timers.specs.Schedule.{IsDueAt, IsNextDue, IsNoLater, NothingIsDue}
use Rattle.hilti_timers.proofs.Apart.{got_at, same, ties, found_tied, no_other}

-- what holds of all stamps holds of the stamp of a serial that is found
holds_of : {E : Type 0} (P : ℕ × ℕ → Type 0) (ws : List (Waiting E)) → All P (map stamp ws) → (due serial : ℕ) → IsSomeAnd (find nat_cmp serial (map pair ws)) (λ w. w.0 ≡ due) → P (due, serial)
holds_of P [] all due serial is = absurd is
holds_of P (w ∷ ws) all due serial is =
    elim (same serial w.serial.n) as (λ b. same serial w.serial.n ≡ b → IsSomeAnd (cond b (Some (w.due, w.entry)) (find nat_cmp serial (map pair ws))) (λ w. w.0 ≡ due) → P (due, serial)) [
      | true ↦ λ e here. subst P (λ i. (here i, sym (ties serial w.serial.n e) i)) (All-head P (stamp w) (map stamp ws) all)
      | false ↦ λ _ later. holds_of P ws (All-tail P (stamp w) (map stamp ws) all) due serial later
    ] refl is

-- a stamp's serial is found, with its due time
found_stamp : {E : Type 0} (ws : List (Waiting E)) (s : ℕ × ℕ) (k : ℕ) → k < length (map stamp ws) → get_or (map stamp ws) k s ≡ s → AreApart ws → IsSomeAnd (find nat_cmp s.1 (map pair ws)) (λ w. w.0 ≡ s.0)
found_stamp [] s k in' is apart = absurd (omega (arith, in'))
found_stamp (w ∷ ws) s zero in' is apart =
    subst (λ o. IsSomeAnd o (λ w. w.0 ≡ s.0)) (sym (found_tied s.1 w.serial.n (w.due, w.entry) _ (sym (ap (λ x. x.1) is)))) (ap (λ x. x.0) is)
found_stamp (w ∷ ws) s (suc k) in' is apart =
    no_other w ws s.1 (λ w. w.0 ≡ s.0) apart.0 (found_stamp ws s k (omega (arith, in')) is apart.1)

module _ {E : Type 0} (t : ℕ) (ws : List (Waiting E)) where
  waits : (due serial : ℕ) → IsDueAt (schedule_of ws) due serial → IsSomeAnd (find nat_cmp serial (map pair ws)) (λ w. w.0 ≡ due)
  waits due serial is = subst (λ o. IsSomeAnd o (λ w. w.0 ≡ due)) (got_at ws serial) is

  pub nothing_due : IsLeast t (map stamp ws) None → NothingIsDue (schedule_of ws) t
  nothing_due least due serial is = holds_of (λ s. t < s.0) ws least due serial (waits due serial is)

  pub next_due : (best : ℕ × Serial) → AreApart ws → IsLeast t (map stamp ws) (Some best) → IsNextDue (schedule_of ws) t best.0 best.1.n
  next_due best apart least = record {
    waits = subst (λ o. IsSomeAnd o (λ w. w.0 ≡ best.0)) (sym (got_at ws best.1.n)) (found_stamp ws (best.0, best.1.n) least.0.0 least.0.1 least.0.2 apart);
    reached = least.1;
    least = λ due serial is. holds_of (λ s. s.0 ≤ t → IsNoLater best.0 best.1.n s.0 s.1) ws least.2 due serial (waits due serial is);
  }
