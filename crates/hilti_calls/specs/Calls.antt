-- Calls that nest, for every kind of frame F, state S, result R and item I of a trace. What a frame
-- does next, and what it does with what its callee ended with, are two functions that don't
-- recurse; everything else follows from them.
use Rattle.std.specs.Prelude.{◌≡◌, ℕ, zero, suc, Bool, cond, List, [], ◌∷◌, ◌++◌}

-- what a frame does next: it goes on, calls one callee and then more, or ends
pub data Action (F S R I : Type 0) : Type 0 where
  Go : (items : List I) (frame : F) (state : S) → Action F S R I
  Call : (first : F) (more : List F) (frame : F) (state : S) → Action F S R I
  Leave : (result : R) (state : S) → Action F S R I

-- what a frame does with what its last callee ended with: it goes on, or ends too
pub data Back (F S R : Type 0) : Type 0 where
  On : (frame : F) (state : S) → Back F S R
  Out : (result : R) (state : S) → Back F S R

-- how a frame ends, with the state and the items on the way: with a result and the fuel left, or
-- for want of fuel
pub data Outcome (S R I : Type 0) : Type 0 where
  Ended : (result : R) (state : S) (left : ℕ) (trace : List I) → Outcome S R I
  Spent : (state : S) (trace : List I) → Outcome S R I

-- what frames do; does the next of several callees run where the one before it ended so?
pub record Language (F S R I : Type 0) : Type 0 where
  pub act : F → S → Action F S R I
  pub resume : F → R → S → Back F S R
  pub continues : R → Bool

-- these items come first
abbrev pub emit : {S R I : Type 0} → List I → Outcome S R I → Outcome S R I
emit items (Ended r st left trace) = Ended r st left (items ++ trace)
emit items (Spent st trace) = Spent st (items ++ trace)

-- where it ended, it goes on
abbrev pub then_do : {S R I : Type 0} → Outcome S R I → (R → S → ℕ → Outcome S R I) → Outcome S R I
then_do (Ended r st left trace) go = emit trace (go r st left)
then_do (Spent st trace) go = Spent st trace

-- a meaning of frames: from a state, with so much fuel
abbrev pub Running : Type 0 → Type 0 → Type 0 → Type 0 → Type 0
Running F S R I = F → S → ℕ → Outcome S R I

-- back in the caller
abbrev pub settle : {F S R I : Type 0} → Running F S R I → Back F S R → ℕ → Outcome S R I
settle run (On frame st) left = run frame st left
settle run (Out r st) left = Ended r st left []

-- a callee ended: the next one runs, or the caller goes on
abbrev pub finish : {F S R I : Type 0} → (R → Bool) → Running F S R I → List F
    → (R → S → Back F S R) → R → S → ℕ → Outcome S R I
finish continues run [] back r st left = settle run (back r st) left
finish continues run (next ∷ more) back r st left =
    cond (continues r) (then_do (run next st left) (finish continues run more back))
    (settle run (back r st) left)

-- the rest of a frame, after what it does next
abbrev pub follow : {F S R I : Type 0} → Language F S R I → Running F S R I → Action F S R I → ℕ
    → Outcome S R I
follow l run (Go items frame st) fuel = emit items (run frame st fuel)
follow l run (Call first more frame st) fuel =
    then_do (run first st fuel) (finish l.continues run more (l.resume frame))
follow l run (Leave r st) fuel = Ended r st fuel []

-- a frame to its end in at most so many steps: each takes 1 fuel
unfoldable pub run : {F S R I : Type 0} → Language F S R I → ℕ → Running F S R I
run l zero frame st fuel = Spent st []
run l (suc n) frame st zero = Spent st []
run l (suc n) frame st (suc fuel) = follow l (run l n) (l.act frame st) fuel

-- a frame to its end: its fuel bounds its steps
unfoldable pub exec : {F S R I : Type 0} → Language F S R I → Running F S R I
exec l frame st fuel = run l fuel frame st fuel

-- what a meaning of calls is, in the words of one step: without fuel nothing is done, and a step
-- takes 1 fuel
pub record IsMeaning {F S R I : Type 0} (l : Language F S R I) (go : Running F S R I) : Type 0 where
  pub spent : (frame : F) (st : S) → go frame st zero ≡ Spent st []
  pub step : (frame : F) (st : S) (fuel : ℕ)
      → go frame st (suc fuel) ≡ follow l go (l.act frame st) fuel

-- `exec` is a meaning of calls, and there is no other
pub record IsTheMeaning {F S R I : Type 0} (l : Language F S R I) : Type 0 where
  pub meaning : IsMeaning l (exec l)
  pub only : (go : Running F S R I) → IsMeaning l go
      → (frame : F) (st : S) (fuel : ℕ) → go frame st fuel ≡ exec l frame st fuel
