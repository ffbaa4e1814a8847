-- What an instruction's answer comes to.
use Rattle.std.proofs.Common.{◌≡◌, ℕ, ◌+◌, ◌≤◌, List, [], refl, sym, ap, subst, ◌∙◌}
use Rattle.std.proofs.Common.{Bool, true, false, cond, Option, Some, None, arith}
use Rattle.std.specs.Prelude.{Result, Ok, Err}
use Rattle.hilti_calls.specs.Calls.{Action.Go}
use Rattle.hilti_calls.specs.Parts.{Mark}
use Rattle.hilti_core.specs.declared.pieces.Item.{Item}
use Rattle.hilti_heap.specs.Held.{part, held}
use Rattle.hilti_heap.specs.Kept.{Kept, AreKept, Covers}
use Rattle.hilti_heap.specs.Stands.{Goes, Meets}
use Rattle.hilti_heap.specs.Stores.{Store, Answer}
use Rattle.hilti_heap.specs.declared.fault.OpFault.{OpFault}
use Rattle.hilti_heap.specs.declared.fault.OpFault.TheVariants as faults
use Rattle.hilti_heap.proofs.Standing.{covers_kept}
use Rattle.hilti_parts.specs.declared.parts.Parts.{Parts}
use Rattle.hilti_parts.specs.declared.parts.Variable.{Variable}
use Rattle.hilti_rows.specs.declared.row.Source.{Source}
use Rattle.hilti_scalar_ops.specs.declared.computing.Made.{Made}
use Rattle.hilti_scalar_ops.specs.declared.computing.Made.TheVariants as made
use Rattle.hilti_stack.specs.declared.head.Position.{Position}
use Rattle.hilti_stack.specs.Frames.{Frames, with_slots}
use Rattle.hilti_values.specs.declared.value.Value.{Value}
use Rattle.hilti_effects.specs.Acting.{at, next, answers, gives}
use Rattle.hilti_effects.specs.Operands.{value_at, slots_taking, globals_taking}
use Rattle.hilti_effects.specs.State.{State, Close}
use Rattle.hilti_acting.specs.Acts.{Going, Acts, WentOn, marks, of_state, thread, answer_of, Fitted, IfGives}
use Rattle.hilti_acting.specs.Owned.{owned, FitsWith, Fewer, IsFree}
use Rattle.hilti_acting.specs.declared.did.Did.{Did}
use Rattle.hilti_acting.specs.declared.did.Did.TheVariants as did
use Rattle.hilti_acting.specs.declared.memory.Memory.{Memory}
use Rattle.hilti_acting.proofs.Counts.{stands_fewer, fits_same, fits_covers}
use Rattle.hilti_acting.proofs.Holding.{operand_owned}

-- a value went to its target, if there are both
pub answer_taken : (parts : Parts) (p : Position) (s : Frames) (m before : Memory)
    (target : Option Variable) (value : Option Value) (does : Store → Answer) (s' : Frames)
    (m' : Memory) → m.globals.items ≡ before.globals.items → Goes does value before.heap m.heap
    → s' ≡ with_slots s (slots_taking target value s.slots)
    → m'.globals.items ≡ globals_taking target value m.globals.items → Fewer m.heap m'.heap
    → FitsWith m'.heap s' m'.globals.items None → s.made ≡ []
    → WentOn
    (of_state (λ st. answers parts p s.slots st target (does st.store)) before.globals.items)
    s before (marks did.Went) (next p) s' m'
answer_taken parts p s m before target value does s' m' same goes stack globals fewer fits made =
    record {
      leads = λ number ran store stands.
          let g = goes.each store stands in
          record {
            store = g.store;
            stands = stands_fewer m.heap m'.heap g.store fewer g.stands;
            so =
                ap (answers parts p s.slots (thread number ran before.globals.items store) target)
                g.so
                ∙ ap (λ gs. Go [] (at (next p) (slots_taking target value s.slots))
                (thread number ran (globals_taking target value gs) g.store)) (sym same)
                ∙ ap (λ gs. Go [] (at (next p) (slots_taking target value s.slots))
                (thread number ran gs g.store)) (sym globals)
                ∙ ap (λ (f : Frames). Go [] (at (next p) f.slots)
                (thread number ran m'.globals.items g.store)) (sym stack);
          };
      fits = fits;
      below = ap (λ (f : Frames). f.below) stack;
      none_made = ap (λ (f : Frames). f.made) stack ∙ made;
    }

-- an operand that was read
pub reads : (slots gs gs' : List Value) (s : Source) (x : Value) → gs' ≡ gs
    → value_at slots gs' s ≡ x → value_at slots gs s ≡ x
reads slots gs gs' s x e is = subst (λ gs. value_at slots gs s ≡ x) e is

-- what equals an operand is held by the frames and the globals
pub shared_owned : (f : Frames) (gs : List Value) (s : Source) (x y : Value) → IsFree s
    → value_at f.slots gs s ≡ x → y ≡ x → (q : ℕ) → held q y ≤ owned f gs q
shared_owned f gs s x y free is e q =
    omega (arith, operand_owned q f gs s free, ap (held q) (is ∙ sym e))

pub chosen_owned : (f : Frames) (gs : List Value) (b : Bool) (s t : Source) (x y : Value)
    → IsFree s → IsFree t → cond b (value_at f.slots gs s) (value_at f.slots gs t) ≡ x → y ≡ x
    → (q : ℕ) → held q y ≤ owned f gs q
chosen_owned f gs true s t x y one other is e = shared_owned f gs s x y one is e
chosen_owned f gs false s t x y one other is e = shared_owned f gs t x y other is e

-- what an instruction answered is on its way
pub meets_fitted : (does : Store → Answer) (answer : Result (Option Value) OpFault) (a b : Kept)
    (f : Frames) (gs : List Value) → Meets does answer a b → FitsWith a f gs None
    → Fitted answer b f gs
meets_fitted does (Ok v) a b f gs m fits = record {
  is = fits_same b (λ s. owned f gs s + 0 + part (held s) v) (λ s. owned f gs s + part (held s) v)
      (λ s. omega arith) (m.fits (λ s. owned f gs s + 0) fits.is);
}
meets_fitted does (Err (faults.Raise r)) a b f gs m fits =
    subst (λ h. FitsWith h f gs None) (sym m.same) fits
meets_fitted does (Err faults.NoMemory) a b f gs m fits = tt

-- what frames and globals hold is kept
pub owned_kept : (h : Kept) (f : Frames) (gs : List Value) (m : ℕ → ℕ) → FitsWith h f gs None
    → ((q : ℕ) → m q ≤ owned f gs q) → AreKept h m
owned_kept h f gs m fits below =
    covers_kept h (λ s. owned f gs s) m
    (fits_covers h (λ s. owned f gs s + 0) (λ s. owned f gs s) fits.is (λ s. omega arith)) below

pub operand_kept : (h : Kept) (f : Frames) (gs : List Value) (s : Source) (x : Value) → IsFree s
    → FitsWith h f gs None → value_at f.slots gs s ≡ x → AreKept h (λ q. held q x)
operand_kept h f gs s x free fits is =
    owned_kept h f gs (λ q. held q x) fits (shared_owned f gs s x x free is refl)

pub operand_covers : (h : Kept) (f : Frames) (gs : List Value) (s : Source) (x : Value) → IsFree s
    → FitsWith h f gs None → value_at f.slots gs s ≡ x → Covers h (λ q. held q x)
operand_covers h f gs s x free fits is =
    fits_covers h (λ q. owned f gs q + 0) (λ q. held q x) fits.is
    (λ q. omega (arith, shared_owned f gs s x x free is refl q))

pub made_kept : (h : Kept) (f : Frames) (gs : List Value) (made : Made) → FitsWith h f gs None
    → IfGives made (λ value. (q : ℕ) → held q value ≤ owned f gs q)
    → IfGives made (λ value. AreKept h (λ q. held q value))
made_kept h f gs (made.Gives value) fits below = owned_kept h f gs (λ q. held q value) fits below
made_kept h f gs (made.Raises r) fits below = tt

-- what was computed is an answer
gives_is : (parts : Parts) (p : Position) (slots : List Value) (st : State) (t : Variable)
    (made : Made)
    → gives parts p slots st t made ≡ answers parts p slots st (Some t) (answer_of made st.store)
gives_is parts p slots st t (made.Gives value) = refl
gives_is parts p slots st t (made.Raises r) = refl

-- what is done, told in other words
went_same : (one other : Going) → ((n : ℕ) (ran : Bool) (st : Store) → one n ran st ≡ other n ran st)
    → (s : Frames) (m : Memory) (done : Position → State → List (Mark Item Close))
    (p' : Position) (s' : Frames) (m' : Memory)
    → WentOn one s m done p' s' m' → WentOn other s m done p' s' m'
went_same one other e s m done p' s' m' h = record {
  leads = λ number ran store stands. let x = h.leads number ran store stands in
      record { store = x.store; stands = x.stands; so = sym (e number ran store) ∙ x.so };
  fits = h.fits;
  below = h.below;
  none_made = h.none_made;
}

pub acts_same : (one other : Going) → ((n : ℕ) (ran : Bool) (st : Store) → one n ran st ≡ other n ran st)
    → (p : Position) (s : Frames) (m : Memory) (d : Did) (p' : Position) (s' : Frames) (m' : Memory)
    → Acts one p s m d p' s' m' → Acts other p s m d p' s' m'
acts_same one other e p s m did.Went p' s' m' h = went_same one other e s m (marks did.Went) p' s' m' h
acts_same one other e p s m (did.Said text) p' s' m' h =
    went_same one other e s m (marks (did.Said text)) p' s' m' h
acts_same one other e p s m did.Yielded p' s' m' h =
    went_same one other e s m (marks did.Yielded) p' s' m' h
acts_same one other e p s m did.Called p' s' m' h = record {
  leads = λ number ran store stands. let x = h.leads number ran store stands in
      record { store = x.store; stands = x.stands; so = sym (e number ran store) ∙ x.so };
  fits = h.fits;
  below = h.below;
  none_made = h.none_made;
}
acts_same one other e p s m (did.Left ending) p' s' m' h = record {
  leads = λ number ran store stands. let x = h.leads number ran store stands in
      record { store = x.store; stands = x.stands; so = sym (e number ran store) ∙ x.so };
  fits = h.fits;
  stack = h.stack;
  position = h.position;
  globals = h.globals;
}

-- what was computed is given
pub gives_acts : (parts : Parts) (p : Position) (s : Frames) (m : Memory) (t : Variable)
    (made : Made) (d : Did) (p' : Position) (s' : Frames) (m' : Memory)
    → Acts (of_state (λ st. answers parts p s.slots st (Some t) (answer_of made st.store))
    m.globals.items) p s m d p' s' m'
    → Acts (of_state (λ st. gives parts p s.slots st t made) m.globals.items) p s m d p' s' m'
gives_acts parts p s m t made d p' s' m' h =
    acts_same
    (of_state (λ st. answers parts p s.slots st (Some t) (answer_of made st.store)) m.globals.items)
    (of_state (λ st. gives parts p s.slots st t made) m.globals.items)
    (λ n ran store. sym (gives_is parts p s.slots (thread n ran m.globals.items store) t made))
    p s m d p' s' m' h
