-- What a stack of frames still has to do, where callers of any kind P wait below the top frame.
use Rattle.std.specs.Prelude.{◌≡◌, ℕ, suc, Bool, false, List, [], ◌∷◌, ◌++◌}
use Rattle.hilti_calls.specs.Calls.{Language, Running, Action.Call, Outcome, Back, Back.Out}
use Rattle.hilti_calls.specs.Calls.{then_do, finish, exec}

-- how what waits below a frame goes on: the callees that come after it, and then the way back
pub record Pending (F P S R : Type 0) : Type 0 where
  pub more : P → List F
  pub back : P → R → S → Back F S R

-- no further callee runs after this end
abbrev pub NoneRuns : {F R : Type 0} → (R → Bool) → List F → R → Type 0
NoneRuns continues [] r = Unit {0}
NoneRuns continues (next ∷ more) r = continues r ≡ false

-- the callers go on with how the top frame ended, the nearest first; it is the last of the list
abbrev pub resumes : {F P S R I : Type 0} → Language F S R I → Pending F P S R → List P
    → Outcome S R I → Outcome S R I
resumes l p [] o = o
resumes l p (w ∷ below) o =
    then_do (resumes l p below o) (finish l.continues (exec l) (p.more w) (p.back w))

-- what a stack still has to do: its top frame, and then each caller below it
unfoldable pub rest : {F P S R I : Type 0} → Language F S R I → Pending F P S R → List P
    → Running F S R I
rest l p below top st fuel = resumes l p below (exec l top st fuel)

-- A frame that calls several callees may wait in two entries: the caller, which waits for a single
-- callee, and above it the run of the callees, which ends with what the last of them gave, as the
-- caller takes it.
pub record RunsApart {F P S R I : Type 0} (l : Language F S R I) (p : Pending F P S R)
    (more : List F) (frame : F) (caller run : P) : Type 0 where
  pub mapped : R → R
  pub single : p.more caller ≡ []
  pub callees : p.more run ≡ more
  pub ends : (r : R) (st : S) → p.back run r st ≡ Out (mapped r) st
  pub back : (r : R) (st : S) → l.resume frame r st ≡ p.back caller (mapped r) st

-- so a stack may keep the run of a hook's bodies as an entry of its own
abbrev pub IsTransparent : {F P S R I : Type 0} → Language F S R I → Pending F P S R → Type 0
IsTransparent {F} {P} {S} {R} {I} l p =
    (top first frame : F) (more : List F) (st after : S) (caller run : P)
    → l.act top st ≡ Call first more frame after → RunsApart l p more frame caller run
    → (below : List P) (fuel : ℕ)
    → rest l p below top st (suc fuel) ≡ rest l p (below ++ caller ∷ run ∷ []) first after fuel
