-- What each call does to the map of entries.
use Rattle.std.proofs.Common.{◌≡◌, ℕ, ◌<◌, ◌≤◌, zero, suc, List, [], ◌∷◌, ◌++◌, map, length, get_or, take, drop, set, Option, Some, None, T, refl, sym, ap, subst, ◌∙◌, arith}
use Rattle.std.specs.List.{All}
use Rattle.std.specs.Option.{IfSome, IsNone, MatchOption, option_map}
use Rattle.std.specs.Ordering.{nat_cmp}
use Rattle.std.specs.FinMap.{find, get, insert, remove}
use Rattle.std.proofs.lemmas.List.{take_all}
use Rattle.hilti_base.specs.declared.names.Serial.{Serial}
use Rattle.hilti_timers.specs.declared.manager.Waiting.{Waiting}
use Rattle.hilti_timers.specs.Kept.{AreApart, IsAt, IsLeast, pair, schedule_of, stamp}
use Rattle.hilti_timers.specs.Schedule.{IsNextDue, IsRenewed, NothingIsDue, Schedule}
use Rattle.hilti_timers.proofs.Apart.{absent, apart_push, apart_removed, apart_set, found_at, got_at, no_place, nothing_removed, push_of, removed_of, set_of}
use Rattle.hilti_timers.proofs.Due.{next_due, nothing_due}

pub nowhere : {E : Type 0} (ws : List (Waiting E)) (n k : ℕ) → length ws ≤ n → All (λ w. ¬ (w.serial.n ≡ k)) (take n ws) → find nat_cmp k (map pair ws) ≡ None
nowhere ws n k all none = no_place ws k (subst (All (λ w. ¬ (w.serial.n ≡ k))) (take_all n ws all) none)

pub stamps_more : {E : Type 0} (ws : List (Waiting E)) (i : ℕ) (w : Waiting E) → i < length ws → w ≡ get_or ws i w → map stamp (take (suc i) ws) ≡ map stamp (take i ws) ++ stamp w ∷ []
stamps_more [] i w in' is = absurd (omega (arith, in'))
stamps_more (x ∷ ws) zero w in' is = ap (λ y. stamp y ∷ []) (sym is)
stamps_more (x ∷ ws) (suc i) w in' is = ap (λ l. stamp x ∷ l) (stamps_more ws i w (omega (arith, in')) is)

module _ {E : Type 0} (ws xs : List (Waiting E)) (m : Schedule E) (same : xs ≡ ws) (view : schedule_of ws ≡ m) where
  pub none_got : (k : ℕ) → find nat_cmp k (map pair xs) ≡ None → get m k ≡ None
  none_got k none = ap (λ m. get m k) (sym view) ∙ got_at ws k ∙ ap (λ l. find nat_cmp k (map pair l)) (sym same) ∙ none

  pub none_removed : (k : ℕ) → find nat_cmp k (map pair xs) ≡ None → m ≡ remove m k
  none_removed k none = subst (λ m. m ≡ remove m k) view (nothing_removed ws k (ap (λ l. find nat_cmp k (map pair l)) (sym same) ∙ none))

  pub none_renewed : (k due fresh : ℕ) → find nat_cmp k (map pair xs) ≡ None → IsRenewed m m k due fresh
  none_renewed k due fresh none = subst (λ o. MatchOption o (m ≡ m) (λ w. m ≡ insert (remove m k) fresh (due, w.1))) (sym (none_got k none)) refl

  within : (i k : ℕ) → IsAt xs i k → i < length ws
  within i k at = subst (λ l. i < length l) same at.0

  serial_at : (i k : ℕ) (d : Waiting E) → IsAt xs i k → (get_or ws i d).serial.n ≡ k
  serial_at i k d at = subst (λ l. (get_or l i d).serial.n ≡ k) same (at.1 d)

  pub some_got : (i k : ℕ) (d : Waiting E) → IsAt xs i k → AreApart ws → get m k ≡ Some ((get_or ws i d).due, (get_or ws i d).entry)
  some_got i k d at apart =
      ap (λ m. get m k) (sym view) ∙ got_at ws k ∙ ap (λ q. find nat_cmp q (map pair ws)) (sym (serial_at i k d at)) ∙ found_at ws i d (within i k at) apart

  pub some_entry : (i k : ℕ) (w : Waiting E) → w ≡ get_or ws i w → IsAt xs i k → AreApart ws → Some w.entry ≡ option_map (λ w. w.1) (get m k)
  some_entry i k w is at apart = ap (λ x. Some x.entry) is ∙ sym (ap (option_map (λ w. w.1)) (some_got i k w at apart))

  pub taken_apart : (i k : ℕ) (w : Waiting E) (ys : List (Waiting E)) → ys ≡ take i ws ++ drop (suc i) ws → IsAt xs i k → AreApart ws → AreApart ys
  taken_apart i k w ys is at apart = subst AreApart (sym is) (apart_removed ws i w (within i k at) apart)

  pub taken_away : (i k : ℕ) (w : Waiting E) (ys : List (Waiting E)) → ys ≡ take i ws ++ drop (suc i) ws → IsAt xs i k → AreApart ws → schedule_of ys ≡ remove m k
  taken_away i k w ys is at apart =
      ap schedule_of is ∙ removed_of ws i w (within i k at) apart ∙ ap (remove (schedule_of ws)) (serial_at i k w at) ∙ ap (λ m. remove m k) view

  fresh_absent : (fresh : ℕ) → IsNone (get m fresh) → find nat_cmp fresh (map pair ws) ≡ None
  fresh_absent fresh none = absent ws fresh (subst (λ m. IsNone (get m fresh)) (sym view) none)

  pub put_apart : (i k : ℕ) (v : Waiting E) → IsNone (get m v.serial.n) → IsAt xs i k → AreApart ws → AreApart (set ws i v)
  put_apart i k v none at apart = apart_set ws i v v (within i k at) apart (fresh_absent v.serial.n none)

  pub some_renewed : (i k : ℕ) (w v : Waiting E) → w ≡ get_or ws i w → v.entry ≡ w.entry → IsNone (get m v.serial.n) → IsAt xs i k → AreApart ws
      → IsRenewed m (schedule_of (set ws i v)) k v.due v.serial.n
  some_renewed i k w v is kept none at apart =
      subst (λ o. MatchOption o (schedule_of (set ws i v) ≡ m) (λ x. schedule_of (set ws i v) ≡ insert (remove m k) v.serial.n (v.due, x.1))) (sym (some_got i k w at apart))
      (set_of ws i w v (within i k at) apart (fresh_absent v.serial.n none)
      ∙ ap (λ q. insert (remove (schedule_of ws) q) v.serial.n (v.due, v.entry)) (serial_at i k w at)
      ∙ ap (λ m. insert (remove m k) v.serial.n (v.due, v.entry)) view
      ∙ ap (λ e. insert (remove m k) v.serial.n (v.due, e)) (kept ∙ ap (λ x. x.entry) is))

  pub pushed_apart : (w : Waiting E) (ys : List (Waiting E)) → ys ≡ ws ++ w ∷ [] → IsNone (get m w.serial.n) → AreApart ws → AreApart ys
  pushed_apart w ys is none apart = subst AreApart (sym is) (apart_push ws w (subst (λ m. IsNone (get m w.serial.n)) (sym view) none) apart)

  pub pushed : (w : Waiting E) (ys : List (Waiting E)) → ys ≡ ws ++ w ∷ [] → IsNone (get m w.serial.n) → schedule_of ys ≡ insert m w.serial.n (w.due, w.entry)
  pushed w ys is none =
      ap schedule_of is ∙ push_of ws w (subst (λ m. IsNone (get m w.serial.n)) (sym view) none) ∙ ap (λ m. insert m w.serial.n (w.due, w.entry)) view

  pub is_next : (t : ℕ) (o : Option (ℕ × Serial)) → AreApart ws → IsLeast t (map stamp xs) o → IfSome o (λ next. IsNextDue m t next.0 next.1.n)
  is_next t None apart least = tt
  is_next t (Some next) apart least = subst (λ m. IsNextDue m t next.0 next.1.n) view (next_due t ws next apart (subst (λ l. IsLeast t (map stamp l) (Some next)) same least))

  pub is_nothing : (t : ℕ) (o : Option (ℕ × Serial)) → IsLeast t (map stamp xs) o → IsNone o → NothingIsDue m t
  is_nothing t None least none = subst (λ m. NothingIsDue m t) view (nothing_due t ws (subst (λ l. IsLeast t (map stamp l) None) same least))
  is_nothing t (Some next) least none = absurd (subst T none tt)
