-- The bound beside the fuel doesn't matter. Nothing above these lemmas unfolds `run` or `exec`.
use Rattle.std.proofs.Common.{◌≡◌, ℕ, zero, suc, ◌≤◌, Bool, true, false, cond, List, [], ◌∷◌, refl, ap, sym, ◌∙◌}
use Rattle.std.proofs.Common.{arith}
use Rattle.hilti_calls.specs.Calls.{Action, Action.Go, Action.Call, Action.Leave, Back, Back.On, Back.Out}
use Rattle.hilti_calls.specs.Calls.{Outcome, Outcome.Ended, Outcome.Spent, Language, Running}
use Rattle.hilti_calls.specs.Calls.{emit, then_do, settle, finish, follow, run, exec, IsMeaning, IsTheMeaning}

-- no more fuel is left than this
abbrev pub Within : {S R I : Type 0} → ℕ → Outcome S R I → Type 0
Within fuel (Ended r st left trace) = left ≤ fuel
Within fuel (Spent st trace) = Unit {0}

-- a meaning that leaves no more fuel than it was given
abbrev pub Keeps : {F S R I : Type 0} → Running F S R I → Type 0
Keeps {F} {S} run = (frame : F) (st : S) (fuel : ℕ) → Within fuel (run frame st fuel)

-- two meanings that are one up to so much fuel
abbrev pub Same : {F S R I : Type 0} → ℕ → Running F S R I → Running F S R I → Type 0
Same {F} {S} n one other =
    (frame : F) (st : S) (fuel : ℕ) → fuel ≤ n → one frame st fuel ≡ other frame st fuel

within_emit : {S R I : Type 0} (n : ℕ) (items : List I) (o : Outcome S R I)
    → Within n o → Within n (emit items o)
within_emit n items (Ended r st left trace) h = h
within_emit n items (Spent st trace) h = tt

within_more : {S R I : Type 0} (m n : ℕ) (o : Outcome S R I) → Within m o → m ≤ n → Within n o
within_more m n (Ended r st left trace) h le = omega arith
within_more m n (Spent st trace) h le = tt

within_cond : {S R I : Type 0} (n : ℕ) (b : Bool) (o other : Outcome S R I)
    → Within n o → Within n other → Within n (cond b o other)
within_cond n true o other h g = h
within_cond n false o other h g = g

within_then : {S R I : Type 0} (n : ℕ) (o : Outcome S R I) (go : R → S → ℕ → Outcome S R I) → Within n o
    → ((r : R) (st : S) (left : ℕ) → left ≤ n → Within n (go r st left)) → Within n (then_do o go)
within_then n (Ended r st left trace) go h all = within_emit n trace (go r st left) (all r st left h)
within_then n (Spent st trace) go h all = tt

-- two ways to go on that are one up to so much fuel
same_then : {S R I : Type 0} (n : ℕ) (o : Outcome S R I) (one other : R → S → ℕ → Outcome S R I) → Within n o
    → ((r : R) (st : S) (left : ℕ) → left ≤ n → one r st left ≡ other r st left)
    → then_do o one ≡ then_do o other
same_then n (Ended r st left trace) one other h all = ap (emit trace) (all r st left h)
same_then n (Spent st trace) one other h all = refl

-- a meaning that keeps to its fuel
module _ {F S R I : Type 0} (run : Running F S R I) (keeps : Keeps run) where
  within_settle : (n : ℕ) (b : Back F S R) (left : ℕ) → left ≤ n → Within n (settle run b left)
  within_settle n (On frame st) left le = within_more left n (run frame st left) (keeps frame st left) le
  within_settle n (Out r st) left le = le

  within_finish : (n : ℕ) (c : R → Bool) (more : List F) (back : R → S → Back F S R) (r : R) (st : S) (left : ℕ)
      → left ≤ n → Within n (finish c run more back r st left)
  within_finish n c [] back r st left le = within_settle n (back r st) left le
  within_finish n c (next ∷ more) back r st left le =
      within_cond n (c r) (then_do (run next st left) (finish c run more back)) (settle run (back r st) left)
      (within_then n (run next st left) (finish c run more back)
      (within_more left n (run next st left) (keeps next st left) le)
      (within_finish n c more back))
      (within_settle n (back r st) left le)

  within_follow : (l : Language F S R I) (a : Action F S R I) (fuel : ℕ) → Within fuel (follow l run a fuel)
  within_follow l (Go items frame st) fuel = within_emit fuel items (run frame st fuel) (keeps frame st fuel)
  within_follow l (Call first more frame st) fuel =
      within_then fuel (run first st fuel) (finish l.continues run more (l.resume frame)) (keeps first st fuel)
      (within_finish fuel l.continues more (l.resume frame))
  within_follow l (Leave r st) fuel = omega arith

-- two meanings that are one up to so much fuel, to which the other keeps
module _ {F S R I : Type 0} (n : ℕ) (one other : Running F S R I) (same : Same n one other) (keeps : Keeps other) where
  same_settle : (b : Back F S R) (left : ℕ) → left ≤ n → settle one b left ≡ settle other b left
  same_settle (On frame st) left le = same frame st left le
  same_settle (Out r st) left le = refl

  same_finish : (c : R → Bool) (more : List F) (back : R → S → Back F S R) (r : R) (st : S) (left : ℕ)
      → left ≤ n → finish c one more back r st left ≡ finish c other more back r st left
  same_finish c [] back r st left le = same_settle (back r st) left le
  same_finish c (next ∷ more) back r st left le =
      let callee : then_do (one next st left) (finish c one more back)
      ≡ then_do (other next st left) (finish c other more back) =
      ap (λ o. then_do o (finish c one more back)) (same next st left le)
      ∙ same_then n (other next st left) (finish c one more back) (finish c other more back)
      (within_more left n (other next st left) (keeps next st left) le) (same_finish c more back) in
      ap (λ o. cond (c r) o (settle one (back r st) left)) callee
      ∙ ap (cond (c r) (then_do (other next st left) (finish c other more back)))
      (same_settle (back r st) left le)

  same_follow : (l : Language F S R I) (a : Action F S R I) → follow l one a n ≡ follow l other a n
  same_follow l (Go items frame st) = ap (emit items) (same frame st n (omega arith))
  same_follow l (Call first more frame st) =
      ap (λ o. then_do o (finish l.continues one more (l.resume frame))) (same first st n (omega arith))
      ∙ same_then n (other first st n) (finish l.continues one more (l.resume frame))
      (finish l.continues other more (l.resume frame)) (keeps first st n)
      (same_finish l.continues more (l.resume frame))
  same_follow l (Leave r st) = refl

module _ {F S R I : Type 0} (l : Language F S R I) where
  run_keeps : (n : ℕ) → Keeps (run l n)
  unfolding run
  run_keeps zero frame st fuel = tt
  run_keeps (suc n) frame st zero = tt
  run_keeps (suc n) frame st (suc fuel) =
      within_more fuel (suc fuel) (follow l (run l n) (l.act frame st) fuel)
      (within_follow (run l n) (run_keeps n) l (l.act frame st) fuel) (omega arith)

  -- no more fuel is left than was given
  pub exec_keeps : Keeps (exec l)
  unfolding exec
  exec_keeps frame st fuel = run_keeps fuel frame st fuel

  -- any bound of at least the fuel gives the same
  pub run_enough : (n m : ℕ) (frame : F) (st : S) (fuel : ℕ) → fuel ≤ n → fuel ≤ m
      → run l n frame st fuel ≡ run l m frame st fuel
  unfolding run
  run_enough zero zero frame st fuel hn hm = refl
  run_enough zero (suc m) frame st zero hn hm = refl
  run_enough zero (suc m) frame st (suc fuel) hn hm = absurd (omega arith)
  run_enough (suc n) zero frame st zero hn hm = refl
  run_enough (suc n) zero frame st (suc fuel) hn hm = absurd (omega arith)
  run_enough (suc n) (suc m) frame st zero hn hm = refl
  run_enough (suc n) (suc m) frame st (suc fuel) hn hm =
      same_follow fuel (run l n) (run l m) (λ f s k le. run_enough n m f s k (omega arith) (omega arith))
      (run_keeps m) l (l.act frame st)

  -- one step of a frame
  pub exec_step : (frame : F) (st : S) (fuel : ℕ)
      → exec l frame st (suc fuel) ≡ follow l (exec l) (l.act frame st) fuel
  unfolding run exec
  exec_step frame st fuel =
      same_follow fuel (run l fuel) (exec l) (λ f s k le. run_enough fuel k f s k le (omega arith))
      exec_keeps l (l.act frame st)

  pub exec_spent : (frame : F) (st : S) → exec l frame st zero ≡ Spent st []
  unfolding run exec
  exec_spent frame st = refl

  -- whatever is a meaning is `exec`, up to any fuel
  same_exec : (go : Running F S R I) → IsMeaning l go → (n : ℕ) → Same n go (exec l)
  same_exec go h zero frame st zero le = h.spent frame st ∙ sym (exec_spent frame st)
  same_exec go h zero frame st (suc fuel) le = absurd (omega arith)
  same_exec go h (suc n) frame st zero le = h.spent frame st ∙ sym (exec_spent frame st)
  same_exec go h (suc n) frame st (suc fuel) le =
      h.step frame st fuel
      ∙ same_follow fuel go (exec l) (λ f s k less. same_exec go h n f s k (omega arith)) exec_keeps l (l.act frame st)
      ∙ sym (exec_step frame st fuel)

  pub the_meaning : IsTheMeaning l
  the_meaning = record {
    meaning = record { spent = exec_spent; step = exec_step };
    only = λ go h frame st fuel. same_exec go h fuel frame st fuel (omega arith);
  }
