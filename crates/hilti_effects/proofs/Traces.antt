-- Whatever holds of each mark that frames leave holds of each mark of a trace.
use Rattle.std.proofs.Common.{ℕ, zero, suc, Bool, true, false, cond, List, [], ◌∷◌, ◌++◌}
use Rattle.std.specs.List.{AllByRecursion}
use Rattle.hilti_calls.specs.Calls.{Language, Action, Action.Go, Action.Call, Action.Leave}
use Rattle.hilti_calls.specs.Calls.{Back, Back.On, Back.Out, Outcome, Outcome.Ended, Outcome.Spent}
use Rattle.hilti_calls.specs.Calls.{Running, emit, then_do, settle, finish, follow, run, exec}
use Rattle.hilti_calls.specs.Stack.{Pending, resumes, rest}

abbrev pub trace_of : {S R I : Type 0} → Outcome S R I → List I
trace_of (Ended r st left trace) = trace
trace_of (Spent st trace) = trace

abbrev pub EachMark : {S R I : Type 0} → (I → Type 0) → Outcome S R I → Type 0
EachMark P o = AllByRecursion P (trace_of o)

each-append : {I : Type 0} (P : I → Type 0) (xs ys : List I) → AllByRecursion P xs
    → AllByRecursion P ys → AllByRecursion P (xs ++ ys)
each-append P [] ys a b = b
each-append P (x ∷ xs) ys (a, more) b = (a, each-append P xs ys more b)

each-emit : {S R I : Type 0} (P : I → Type 0) (items : List I) (o : Outcome S R I)
    → AllByRecursion P items → EachMark P o → EachMark P (emit items o)
each-emit P items (Ended r st left trace) a b = each-append P items trace a b
each-emit P items (Spent st trace) a b = each-append P items trace a b

each-then : {S R I : Type 0} (P : I → Type 0) (o : Outcome S R I)
    (go : R → S → ℕ → Outcome S R I) → EachMark P o
    → ((r : R) (st : S) (left : ℕ) → EachMark P (go r st left)) → EachMark P (then_do o go)
each-then P (Ended r st left trace) go a each =
    each-emit P trace (go r st left) a (each r st left)
each-then P (Spent st trace) go a each = a

each-cond : {S R I : Type 0} (P : I → Type 0) (b : Bool) (o p : Outcome S R I) → EachMark P o
    → EachMark P p → EachMark P (cond b o p)
each-cond P true o p a b = a
each-cond P false o p a b = b

module _ {F S R I : Type 0} (P : I → Type 0) where
  -- what frames leave
  abbrev pub EachLeft : Action F S R I → Type 0
  EachLeft (Go items frame st) = AllByRecursion P items
  EachLeft (Call first more frame st) = Unit {0}
  EachLeft (Leave r st) = Unit {0}

  module _ (go : Running F S R I) (each : (f : F) (st : S) (fuel : ℕ) → EachMark P (go f st fuel)) where
    each-settle : (back : Back F S R) (left : ℕ) → EachMark P (settle go back left)
    each-settle (On frame st) left = each frame st left
    each-settle (Out r st) left = tt

    pub each-finish : (continues : R → Bool) (more : List F) (back : R → S → Back F S R)
        → (r : R) (st : S) (left : ℕ) → EachMark P (finish continues go more back r st left)
    each-finish continues [] back r st left = each-settle (back r st) left
    each-finish continues (next ∷ more) back r st left =
        each-cond P (continues r) (then_do (go next st left) (finish continues go more back))
        (settle go (back r st) left)
        (each-then P (go next st left) (finish continues go more back) (each next st left)
        (each-finish continues more back))
        (each-settle (back r st) left)

    each-follow : (l : Language F S R I) (action : Action F S R I) (fuel : ℕ) → EachLeft action
        → EachMark P (follow l go action fuel)
    each-follow l (Go items frame st) fuel left = each-emit P items (go frame st fuel) left (each frame st fuel)
    each-follow l (Call first more frame st) fuel left =
        each-then P (go first st fuel) (finish l.continues go more (l.resume frame)) (each first st fuel)
        (each-finish l.continues more (l.resume frame))
    each-follow l (Leave r st) fuel left = tt

  module _ (l : Language F S R I) (leaves : (f : F) (st : S) → EachLeft (l.act f st)) where
    each-run : (n : ℕ) (f : F) (st : S) (fuel : ℕ) → EachMark P (run l n f st fuel)
    unfolding run
    each-run zero f st fuel = tt
    each-run (suc n) f st zero = tt
    each-run (suc n) f st (suc fuel) =
        each-follow (run l n) (each-run n) l (l.act f st) fuel (leaves f st)

    pub each-exec : (f : F) (st : S) (fuel : ℕ) → EachMark P (exec l f st fuel)
    unfolding exec
    each-exec f st fuel = each-run fuel f st fuel

    each-resumes : {W : Type 0} (p : Pending F W S R) (below : List W) (o : Outcome S R I)
        → EachMark P o → EachMark P (resumes l p below o)
    each-resumes p [] o a = a
    each-resumes p (w ∷ below) o a =
        each-then P (resumes l p below o) (finish l.continues (exec l) (p.more w) (p.back w))
        (each-resumes p below o a)
        (each-finish (exec l) each-exec l.continues (p.more w) (p.back w))

    pub each-rest : {W : Type 0} (p : Pending F W S R) (below : List W) (f : F) (st : S) (fuel : ℕ)
        → EachMark P (rest l p below f st fuel)
    unfolding rest
    each-rest p below f st fuel = each-resumes p below (exec l f st fuel) (each-exec f st fuel)
