-- Steps over the stores that a heap stands for.
use Rattle.std.proofs.Common.{◌≡◌, ℕ, suc, ◌+◌, List, [], ◌++◌, refl, ap, sym, ◌∙◌, subst, arith}
use Rattle.hilti_calls.specs.Calls.{Outcome, emit}
use Rattle.hilti_calls.specs.Stores.{ComesFrom, Leads, Ahead, Reaches, Steps}
use Rattle.hilti_calls.proofs.Stacks.{emit_emit, emit_none}

module _ {H S : Type 0} (Stands : H → S → Type 0) where
  -- nothing was done
  pub leads_same : {O : Type 0} (h : H) (does : S → O) → Leads Stands h does h does
  leads_same h does st stands = record { store = st; stands = stands; so = refl }

  -- one after another
  pub leads_then : {O : Type 0} (a b c : H) (f g k : S → O)
      → Leads Stands a f b g → Leads Stands b g c k → Leads Stands a f c k
  leads_then a b c f g k one other st stands =
      let first : ComesFrom (Stands b) (f st) g = one st stands in
      let second : ComesFrom (Stands c) (g first.store) k = other first.store first.stands in
      record { store = second.store; stands = second.stands; so = first.so ∙ second.so }

  -- what follows leads likewise
  pub leads_on : {O Q : Type 0} (a b : H) (f g : S → O) (f' g' : S → Q) (on : O → Q)
      → ((st : S) → f' st ≡ on (f st)) → ((st : S) → on (g st) ≡ g' st)
      → Leads Stands a f b g → Leads Stands a f' b g'
  leads_on a b f g f' g' on before after leads st stands =
      let first : ComesFrom (Stands b) (f st) g = leads st stands in
      record {
        store = first.store;
        stands = first.stands;
        so = before st ∙ ap on first.so ∙ after first.store;
      }

  -- a heap that gave back what nothing holds
  pub leads_fewer : {O : Type 0} (a b c : H) (f g : S → O) → ((st : S) → Stands b st → Stands c st)
      → Leads Stands a f b g → Leads Stands a f c g
  leads_fewer a b c f g fewer leads st stands =
      let first : ComesFrom (Stands b) (f st) g = leads st stands in
      record { store = first.store; stands = fewer first.store first.stands; so = first.so }

-- items before what is ahead, one after another
emit_after : {S T R I : Type 0} (items more : List I) (ahead : Ahead S T R I) (left : ℕ) (st : S)
    → emit items (emit more (ahead st left)) ≡ emit (items ++ more) (ahead st left)
emit_after items more ahead left st = emit_emit items more (ahead st left)

module _ {H S T R I : Type 0} (Stands : H → S → Type 0) where
  -- nothing was done
  pub reaches_same : (h : H) (ahead : Ahead S T R I) (fuel : ℕ) → Reaches Stands h ahead fuel [] h ahead fuel
  reaches_same h ahead fuel = record {
    each = λ st stands. record { store = st; stands = stands; so = sym (emit_none (ahead st fuel)) };
  }

  -- A step more: where a step takes any store that the heap stands for to one that the new heap stands for, so does
  -- the run up to it with that step.
  pub reaches_step : (a b c : H) (all mid ahead : Ahead S T R I) (fuel left : ℕ) (items more : List I)
      → Reaches Stands a all fuel items b mid (suc left) → Steps Stands b mid more c ahead
      → Reaches Stands a all fuel (items ++ more) c ahead left
  reaches_step a b c all mid ahead fuel left items more run step = record {
    each = leads_then Stands a b c (λ st. all st fuel) (λ st. emit items (mid st (suc left)))
        (λ st. emit (items ++ more) (ahead st left)) run.each
        (leads_on Stands b c (λ st. mid st (suc left)) (λ st. emit more (ahead st left))
        (λ st. emit items (mid st (suc left))) (λ st. emit (items ++ more) (ahead st left)) (emit items)
        (λ st. refl) (emit_after items more ahead left) (step.each left).each);
  }

  -- the end of a run: what is ahead then leads to something, behind the items so far
  pub reaches_end : (a b c : H) (all ahead : Ahead S T R I) (fuel left : ℕ) (items : List I) (to : S → Outcome T R I)
      → Reaches Stands a all fuel items b ahead left → Leads Stands b (λ st. ahead st left) c to
      → Leads Stands a (λ st. all st fuel) c (λ st. emit items (to st))
  reaches_end a b c all ahead fuel left items to run last =
      leads_then Stands a b c (λ st. all st fuel) (λ st. emit items (ahead st left)) (λ st. emit items (to st))
      run.each
      (leads_on Stands b c (λ st. ahead st left) to (λ st. emit items (ahead st left)) (λ st. emit items (to st))
      (emit items) (λ st. refl) (λ st. refl) last)

  -- a step without items
  pub silent_steps : (a b : H) (all ahead : Ahead S T R I)
      → ((left : ℕ) → Leads Stands a (λ st. all st (suc left)) b (λ st. ahead st left))
      → Steps Stands a all [] b ahead
  silent_steps a b all ahead leads = record {
    each = λ left. record {
      each = leads_on Stands a b (λ st. all st (suc left)) (λ st. ahead st left) (λ st. all st (suc left))
          (λ st. emit [] (ahead st left)) (λ o. o) (λ st. refl) (λ st. sym (emit_none (ahead st left))) (leads left);
    };
  }

-- so many steps one after another, with their items
pub data Run {C I : Type 0} (Step : C → List I → C → Type 0) : ℕ → C → List I → C → Type 0 where
  Stays : (c : C) → Run Step 0 c [] c
  Then : (n : ℕ) (a b c : C) (items more : List I)
      → Run Step n a items b → Step b more c → Run Step (suc n) a (items ++ more) c

-- A machine whose configurations stand for stores, and what is ahead of each. Where each of its steps takes any store
-- that it stands for to one that it stands for then, so does each of its runs.
module _ {C S T R I : Type 0} (Stands : C → S → Type 0) (ahead : C → Ahead S T R I) (Step : C → List I → C → Type 0)
    (leads : (a b : C) (items : List I) → Step a items b → Steps Stands a (ahead a) items b (ahead b)) where
  pub run_reaches : (n : ℕ) (a b : C) (items : List I) (left : ℕ) → Run Step n a items b
      → Reaches Stands a (ahead a) (n + left) items b (ahead b) left
  run_reaches n a b items left (Stays c) =
      let none : left ≡ 0 + left = omega arith in
      subst (λ fuel. Reaches Stands c (ahead c) fuel [] c (ahead c) left) none
      (reaches_same Stands c (ahead c) left)
  run_reaches n a b items left (Then m x y z said more run step) =
      let one : m + suc left ≡ suc m + left = omega arith in
      subst (λ fuel. Reaches Stands x (ahead x) fuel (said ++ more) z (ahead z) left) one
      (reaches_step Stands x y z (ahead x) (ahead y) (ahead z) (m + suc left) left said more
      (run_reaches m x y said (suc left) run) (leads y z more step))
