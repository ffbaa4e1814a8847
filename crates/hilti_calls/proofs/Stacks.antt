-- What a stack still has to do changes by what its top frame does next, and by how the nearest caller goes on.
-- Nothing above these lemmas unfolds `rest`.
use Rattle.std.proofs.Common.{◌≡◌, ℕ, zero, suc, Bool, true, false, cond, List, [], ◌∷◌, ◌++◌, refl, ap, sym, ◌∙◌}
use Rattle.std.proofs.Common.{append_assoc, append-nil}
use Rattle.hilti_calls.specs.Calls.{Action, Action.Go, Action.Call, Action.Leave, Back, Back.On, Back.Out}
use Rattle.hilti_calls.specs.Calls.{Outcome, Outcome.Ended, Outcome.Spent, Language, Running}
use Rattle.hilti_calls.specs.Calls.{emit, then_do, settle, finish, follow, exec}
use Rattle.hilti_calls.specs.Stack.{Pending, NoneRuns, resumes, rest, RunsApart, IsTransparent}
use Rattle.hilti_calls.proofs.Fuel.{exec_step, exec_spent}

pub emit_emit : {S R I : Type 0} (xs ys : List I) (o : Outcome S R I) → emit xs (emit ys o) ≡ emit (xs ++ ys) o
emit_emit xs ys (Ended r st left trace) = ap (Ended r st left) (sym (append_assoc xs ys trace))
emit_emit xs ys (Spent st trace) = ap (Spent st) (sym (append_assoc xs ys trace))

pub emit_none : {S R I : Type 0} (o : Outcome S R I) → emit [] o ≡ o
emit_none (Ended r st left trace) = refl
emit_none (Spent st trace) = refl

then_emit : {S R I : Type 0} (items : List I) (o : Outcome S R I) (go : R → S → ℕ → Outcome S R I)
    → then_do (emit items o) go ≡ emit items (then_do o go)
then_emit items (Ended r st left trace) go = sym (emit_emit items trace (go r st left))
then_emit items (Spent st trace) go = refl

-- a way to go on that only hands on how it ended
then_out : {F S R I : Type 0} (c : R → Bool) (run : Running F S R I) (back : R → S → Back F S R)
    → ((r : R) (st : S) → back r st ≡ Out r st) → (o : Outcome S R I) → then_do o (finish c run [] back) ≡ o
then_out c run back out (Ended r st left trace) =
    ap (λ b. emit trace (settle run b left)) (out r st) ∙ ap (Ended r st left) (append-nil trace)
then_out c run back out (Spent st trace) = refl

module _ {F P S R I : Type 0} (l : Language F S R I) (p : Pending F P S R) where
  -- how a caller goes on
  abbrev goes_on : P → R → S → ℕ → Outcome S R I
  goes_on w = finish l.continues (exec l) (p.more w) (p.back w)

  -- items of the top come first
  pub resumes_emit : (below : List P) (items : List I) (o : Outcome S R I)
      → resumes l p below (emit items o) ≡ emit items (resumes l p below o)
  resumes_emit [] items o = refl
  resumes_emit (w ∷ below) items o =
      ap (λ x. then_do x (goes_on w)) (resumes_emit below items o)
      ∙ then_emit items (resumes l p below o) (goes_on w)

  -- the nearest caller goes on before the others
  pub resumes_push : (below : List P) (w : P) (o : Outcome S R I)
      → resumes l p (below ++ w ∷ []) o ≡ resumes l p below (then_do o (goes_on w))
  resumes_push [] w o = refl
  resumes_push (v ∷ below) w o = ap (λ x. then_do x (goes_on v)) (resumes_push below w o)

  pub resumes_spent : (below : List P) (st : S) (trace : List I)
      → resumes l p below (Spent st trace) ≡ Spent st trace
  resumes_spent [] st trace = refl
  resumes_spent (w ∷ below) st trace = ap (λ x. then_do x (goes_on w)) (resumes_spent below st trace)

  -- the top, from its next step
  rest_step : (below : List P) (top : F) (st : S) (fuel : ℕ) (a : Action F S R I) → l.act top st ≡ a
      → rest l p below top st (suc fuel) ≡ resumes l p below (follow l (exec l) a fuel)
  unfolding rest
  rest_step below top st fuel a does =
      ap (resumes l p below) (exec_step l top st fuel ∙ ap (λ x. follow l (exec l) x fuel) does)

  -- without fuel nothing is done
  pub rest_spent : (below : List P) (top : F) (st : S) → rest l p below top st zero ≡ Spent st []
  unfolding rest
  rest_spent below top st = ap (resumes l p below) (exec_spent l top st) ∙ resumes_spent below st []

  -- the top goes on
  pub rest_go : (below : List P) (top : F) (st : S) (fuel : ℕ) (items : List I) (next : F) (after : S)
      → l.act top st ≡ Go items next after
      → rest l p below top st (suc fuel) ≡ emit items (rest l p below next after fuel)
  unfolding rest
  rest_go below top st fuel items next after does =
      rest_step below top st fuel (Go items next after) does ∙ resumes_emit below items (exec l next after fuel)

  -- the top calls, and an entry that stands for it waits
  pub rest_call : (below : List P) (top : F) (st : S) (fuel : ℕ) (first : F) (more : List F) (caller : F) (after : S)
      (w : P) → l.act top st ≡ Call first more caller after → p.more w ≡ more → p.back w ≡ l.resume caller
      → rest l p below top st (suc fuel) ≡ rest l p (below ++ w ∷ []) first after fuel
  unfolding rest
  rest_call below top st fuel first more caller after w does callees back =
      let all : List F → (R → S → Back F S R) → Outcome S R I =
      λ ms b. resumes l p below (then_do (exec l first after fuel) (finish l.continues (exec l) ms b)) in
      rest_step below top st fuel (Call first more caller after) does
      ∙ ap (λ ms. all ms (l.resume caller)) (sym callees)
      ∙ ap (all (p.more w)) (sym back)
      ∙ sym (resumes_push below w (exec l first after fuel))

  -- the top ends
  pub rest_leave : (below : List P) (top : F) (st : S) (fuel : ℕ) (r : R) (after : S) → l.act top st ≡ Leave r after
      → rest l p below top st (suc fuel) ≡ resumes l p below (Ended r after fuel [])
  rest_leave below top st fuel r after does = rest_step below top st fuel (Leave r after) does

  -- a callee ended, and its caller goes on
  pop : (below : List P) (w : P) (r : R) (st : S) (left : ℕ)
      → resumes l p (below ++ w ∷ []) (Ended r st left []) ≡ resumes l p below (goes_on w r st left)
  pop below w r st left =
      resumes_push below w (Ended r st left []) ∙ ap (resumes l p below) (emit_none (goes_on w r st left))

-- no further callee runs, so the caller does
settles : {F S R I : Type 0} (c : R → Bool) (run : Running F S R I) (more : List F) (back : R → S → Back F S R)
    (r : R) (st : S) (left : ℕ) → NoneRuns c more r → finish c run more back r st left ≡ settle run (back r st) left
settles c run [] back r st left none = refl
settles c run (next ∷ more) back r st left none =
    ap (λ b. cond b (then_do (run next st left) (finish c run more back)) (settle run (back r st) left)) none

-- a callee ended, above this caller
module _ {F P S R I : Type 0} (l : Language F S R I) (p : Pending F P S R)
    (below : List P) (w : P) (r : R) (st : S) (left : ℕ) where
  -- the next callee runs, and an entry that waits for one callee less takes the caller's place
  pub pop_next : (fewer : P) (next : F) → p.more w ≡ next ∷ p.more fewer → p.back fewer ≡ p.back w
      → l.continues r ≡ true
      → resumes l p (below ++ w ∷ []) (Ended r st left []) ≡ rest l p (below ++ fewer ∷ []) next st left
  unfolding rest
  pop_next fewer next callees back runs =
      let stays : Outcome S R I = settle (exec l) (p.back w r st) left in
      let goes : Outcome S R I =
      then_do (exec l next st left) (finish l.continues (exec l) (p.more fewer) (p.back w)) in
      pop l p below w r st left
      ∙ ap (λ x. resumes l p below (finish l.continues (exec l) x (p.back w) r st left)) callees
      ∙ ap (λ x. resumes l p below (cond x goes stays)) runs
      ∙ ap (λ x. resumes l p below
      (then_do (exec l next st left) (finish l.continues (exec l) (p.more fewer) x))) (sym back)
      ∙ sym (resumes_push l p below fewer (exec l next st left))

  -- the last callee runs for an entry that only hands on how it ends: nothing waits for it but what is below
  pub pop_last : (next : F) → p.more w ≡ next ∷ [] → ((r : R) (st : S) → p.back w r st ≡ Out r st)
      → l.continues r ≡ true
      → resumes l p (below ++ w ∷ []) (Ended r st left []) ≡ rest l p below next st left
  unfolding rest
  pop_last next callees out runs =
      let stays : Outcome S R I = settle (exec l) (p.back w r st) left in
      let goes : Outcome S R I = then_do (exec l next st left) (finish l.continues (exec l) [] (p.back w)) in
      pop l p below w r st left
      ∙ ap (λ x. resumes l p below (finish l.continues (exec l) x (p.back w) r st left)) callees
      ∙ ap (λ x. resumes l p below (cond x goes stays)) runs
      ∙ ap (resumes l p below) (then_out l.continues (exec l) (p.back w) out (exec l next st left))

  pop_back : (b : Back F S R) → NoneRuns l.continues (p.more w) r → p.back w r st ≡ b
      → resumes l p (below ++ w ∷ []) (Ended r st left []) ≡ resumes l p below (settle (exec l) b left)
  pop_back b none back =
      pop l p below w r st left
      ∙ ap (resumes l p below) (settles l.continues (exec l) (p.more w) (p.back w) r st left none)
      ∙ ap (λ x. resumes l p below (settle (exec l) x left)) back

  -- the caller goes on
  pub pop_on : (frame : F) (after : S) → NoneRuns l.continues (p.more w) r → p.back w r st ≡ On frame after
      → resumes l p (below ++ w ∷ []) (Ended r st left []) ≡ rest l p below frame after left
  unfolding rest
  pop_on frame after none back = pop_back (On frame after) none back

  -- the caller ends too
  pub pop_out : (result : R) (after : S) → NoneRuns l.continues (p.more w) r → p.back w r st ≡ Out result after
      → resumes l p (below ++ w ∷ []) (Ended r st left []) ≡ resumes l p below (Ended result after left [])
  pop_out result after none back = pop_back (Out result after) none back

then_same : {S R I : Type 0} (o : Outcome S R I) (one other : R → S → ℕ → Outcome S R I)
    → ((r : R) (st : S) (left : ℕ) → one r st left ≡ other r st left) → then_do o one ≡ then_do o other
then_same (Ended r st left trace) one other same = ap (emit trace) (same r st left)
then_same (Spent st trace) one other same = refl

then_then : {S R I : Type 0} (o : Outcome S R I) (one other : R → S → ℕ → Outcome S R I)
    → then_do (then_do o one) other ≡ then_do o (λ r st left. then_do (one r st left) other)
then_then (Ended r st left trace) one other = then_emit trace (one r st left) other
then_then (Spent st trace) one other = refl

cond_then : {S R I : Type 0} (b : Bool) (one other : Outcome S R I) (go : R → S → ℕ → Outcome S R I)
    → then_do (cond b one other) go ≡ cond b (then_do one go) (then_do other go)
cond_then true one other go = refl
cond_then false one other go = refl

-- several callees, run by a frame that hands on how they ended to their caller
module _ {F S R I : Type 0} (c : R → Bool) (run : Running F S R I) (one ends caller : R → S → Back F S R)
    (mapped : R → R) (out : (r : R) (st : S) → ends r st ≡ Out (mapped r) st)
    (back : (r : R) (st : S) → one r st ≡ caller (mapped r) st) where
  settle_split : (r : R) (st : S) (left : ℕ)
      → then_do (settle run (ends r st) left) (finish c run [] caller) ≡ settle run (one r st) left
  settle_split r st left =
      ap (λ b. then_do (settle run b left) (finish c run [] caller)) (out r st)
      ∙ emit_none (settle run (caller (mapped r) st) left)
      ∙ ap (λ b. settle run b left) (sym (back r st))

  finish_split : (more : List F) (r : R) (st : S) (left : ℕ)
      → then_do (finish c run more ends r st left) (finish c run [] caller) ≡ finish c run more one r st left
  finish_split [] r st left = settle_split r st left
  finish_split (next ∷ more) r st left =
      let callee : then_do (then_do (run next st left) (finish c run more ends)) (finish c run [] caller)
      ≡ then_do (run next st left) (finish c run more one) =
      then_then (run next st left) (finish c run more ends) (finish c run [] caller)
      ∙ then_same (run next st left) (λ r st left. then_do (finish c run more ends r st left) (finish c run [] caller))
      (finish c run more one) (finish_split more) in
      cond_then (c r) (then_do (run next st left) (finish c run more ends)) (settle run (ends r st) left)
      (finish c run [] caller)
      ∙ ap (λ o. cond (c r) o (then_do (settle run (ends r st) left) (finish c run [] caller))) callee
      ∙ ap (cond (c r) (then_do (run next st left) (finish c run more one))) (settle_split r st left)

module _ {F P S R I : Type 0} (l : Language F S R I) (p : Pending F P S R) where
  -- an entry for the run of several callees, above their caller's
  pub resumes_apart : (below : List P) (more : List F) (frame : F) (caller run : P)
      → RunsApart l p more frame caller run → (o : Outcome S R I)
      → resumes l p (below ++ caller ∷ run ∷ []) o
      ≡ resumes l p below (then_do o (finish l.continues (exec l) more (l.resume frame)))
  resumes_apart below more frame caller run h o =
      let apart : R → S → ℕ → Outcome S R I = finish l.continues (exec l) (p.more run) (p.back run) in
      let last : R → S → ℕ → Outcome S R I = finish l.continues (exec l) [] (p.back caller) in
      let runs : R → S → ℕ → Outcome S R I = finish l.continues (exec l) more (p.back run) in
      ap (λ ws. resumes l p ws o) (sym (append_assoc below (caller ∷ []) (run ∷ [])))
      ∙ resumes_push l p (below ++ caller ∷ []) run o
      ∙ resumes_push l p below caller (then_do o apart)
      ∙ ap (resumes l p below)
      (ap (λ x. then_do (then_do o apart) (finish l.continues (exec l) x (p.back caller))) h.single
      ∙ ap (λ x. then_do (then_do o (finish l.continues (exec l) x (p.back run))) last) h.callees
      ∙ then_then o runs last
      ∙ then_same o (λ r st left. then_do (runs r st left) last)
      (finish l.continues (exec l) more (l.resume frame))
      (finish_split l.continues (exec l) (l.resume frame) (p.back run) (p.back caller) h.mapped h.ends h.back more))

  pub transparent : IsTransparent l p
  unfolding rest
  transparent top first frame more st after caller run does h below fuel =
      rest_step l p below top st fuel (Call first more frame after) does
      ∙ sym (resumes_apart below more frame caller run h (exec l first after fuel))
