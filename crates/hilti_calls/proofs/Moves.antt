-- What a machine does with its top frame and its nearest caller, over the stores that heaps stand for.
use Rattle.std.proofs.Common.{◌≡◌, ℕ, suc, true, List, [], ◌∷◌, ◌++◌}
use Rattle.hilti_calls.specs.Calls.{Action.Go, Action.Call, Action.Leave, Back.On, Back.Out}
use Rattle.hilti_calls.specs.Calls.{Outcome.Ended, Language, emit}
use Rattle.hilti_calls.specs.Stack.{Pending, NoneRuns, resumes, rest}
use Rattle.hilti_calls.specs.Stores.{ComesFrom, Leads, Steps}
use Rattle.hilti_calls.proofs.Stacks.{rest_go, rest_call, rest_leave, pop_next, pop_on, pop_out}
use Rattle.hilti_calls.proofs.Leading.{silent_steps}

-- The top frame's action leads from each store that the heap a stands for to one that b stands for; `into` makes a
-- state of a store.
module _ {H S F P T R I : Type 0} (Stands : H → S → Type 0) (l : Language F T R I) (p : Pending F P T R)
    (a b : H) (below : List P) (top : F) (into : S → T) where
  -- the top goes on; its items may tell of the store, as those of a suspension do
  pub go_leads : (items : S → List I) (next : F) (after : S → T) (left : ℕ)
      → Leads Stands a (λ st. l.act top (into st)) b (λ st. Go (items st) next (after st))
      → Leads Stands a (λ st. rest l p below top (into st) (suc left)) b
      (λ st. emit (items st) (rest l p below next (after st) left))
  go_leads items next after left leads st stands =
      let found : ComesFrom (Stands b) (l.act top (into st)) (λ st. Go (items st) next (after st)) =
      leads st stands in
      record {
        store = found.store;
        stands = found.stands;
        so = rest_go l p below top (into st) left (items found.store) next (after found.store) found.so;
      }

  -- the top goes on, after these items
  pub go_steps : (items : List I) (next : F) (after : S → T)
      → Leads Stands a (λ st. l.act top (into st)) b (λ st. Go items next (after st))
      → Steps Stands a (λ st. rest l p below top (into st)) items b (λ st. rest l p below next (after st))
  go_steps items next after leads = record {
    each = λ left. record { each = go_leads (λ st. items) next after left leads };
  }

  -- the top calls, and an entry that stands for it waits
  pub call_steps : (first : F) (more : List F) (caller : F) (after : S → T) (w : P)
      → p.more w ≡ more → p.back w ≡ l.resume caller
      → Leads Stands a (λ st. l.act top (into st)) b (λ st. Call first more caller (after st))
      → Steps Stands a (λ st. rest l p below top (into st)) [] b (λ st. rest l p (below ++ w ∷ []) first (after st))
  call_steps first more caller after w callees back leads =
      silent_steps Stands a b (λ st. rest l p below top (into st)) (λ st. rest l p (below ++ w ∷ []) first (after st))
      (λ left st stands.
      let found : ComesFrom (Stands b) (l.act top (into st)) (λ st. Call first more caller (after st)) =
      leads st stands in
      record {
        store = found.store;
        stands = found.stands;
        so = rest_call l p below top (into st) left first more caller (after found.store) w found.so callees back;
      })

  -- the top ends
  pub leave_leads : (r : R) (after : S → T) (left : ℕ)
      → Leads Stands a (λ st. l.act top (into st)) b (λ st. Leave r (after st))
      → Leads Stands a (λ st. rest l p below top (into st) (suc left)) b
      (λ st. resumes l p below (Ended r (after st) left []))
  leave_leads r after left leads st stands =
      let found : ComesFrom (Stands b) (l.act top (into st)) (λ st. Leave r (after st)) = leads st stands in
      record {
        store = found.store;
        stands = found.stands;
        so = rest_leave l p below top (into st) left r (after found.store) found.so;
      }

-- A callee ended above this caller.
module _ {H S F P T R I : Type 0} (Stands : H → S → Type 0) (l : Language F T R I) (p : Pending F P T R)
    (a b : H) (below : List P) (w : P) (r : R) (into : S → T) (left : ℕ) where
  -- The next callee runs, and an entry that waits for one callee less takes the caller's place. The heap b still
  -- stands for the store: no object was changed.
  pub next_leads : (fewer : P) (next : F) → p.more w ≡ next ∷ p.more fewer → p.back fewer ≡ p.back w
      → l.continues r ≡ true → ((st : S) → Stands a st → Stands b st)
      → Leads Stands a (λ st. resumes l p (below ++ w ∷ []) (Ended r (into st) left [])) b
      (λ st. rest l p (below ++ fewer ∷ []) next (into st) left)
  next_leads fewer next callees back runs still st stands = record {
    store = st;
    stands = still st stands;
    so = pop_next l p below w r (into st) left fewer next callees back runs;
  }

  -- the caller goes on, where no callee comes after and its way back leads there
  pub on_leads : (frame : F) (after : S → T) → NoneRuns l.continues (p.more w) r
      → Leads Stands a (λ st. p.back w r (into st)) b (λ st. On frame (after st))
      → Leads Stands a (λ st. resumes l p (below ++ w ∷ []) (Ended r (into st) left [])) b
      (λ st. rest l p below frame (after st) left)
  on_leads frame after none leads st stands =
      let found : ComesFrom (Stands b) (p.back w r (into st)) (λ st. On frame (after st)) = leads st stands in
      record {
        store = found.store;
        stands = found.stands;
        so = pop_on l p below w r (into st) left frame (after found.store) none found.so;
      }

  -- the caller ends too
  pub out_leads : (result : R) (after : S → T) → NoneRuns l.continues (p.more w) r
      → Leads Stands a (λ st. p.back w r (into st)) b (λ st. Out result (after st))
      → Leads Stands a (λ st. resumes l p (below ++ w ∷ []) (Ended r (into st) left [])) b
      (λ st. resumes l p below (Ended result (after st) left []))
  out_leads result after none leads st stands =
      let found : ComesFrom (Stands b) (p.back w r (into st)) (λ st. Out result (after st)) = leads st stands in
      record {
        store = found.store;
        stands = found.stands;
        so = pop_out l p below w r (into st) left result (after found.store) none found.so;
      }
