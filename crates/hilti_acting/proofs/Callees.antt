-- Callees that are entered, and what their slots hold.
use Rattle.std.proofs.Common.{◌≡◌, ℕ, ◌+◌, ◌≤◌, zero, suc, List, [], ◌∷◌, ◌++◌, refl, sym}
use Rattle.std.proofs.Common.{ap, subst, ◌∙◌, Option, None, arith}
use Rattle.std.specs.Prelude.{slice_get}
use Rattle.std.specs.List.{AllByRecursion}
use Rattle.std.proofs.lemmas.List.Elements.{recursion_from_All}
use Rattle.std.proofs.lemmas.List.Sums.{sum-map, sum_by-append}
use Rattle.hilti_base.specs.declared.names.FnId.{FnId}
use Rattle.hilti_calls.specs.Calls.{Action.Call}
use Rattle.hilti_heap.specs.Held.{held, all_held}
use Rattle.hilti_heap.specs.Kept.{Kept, AreKept}
use Rattle.hilti_openings.proofs.Holding.{all_cons, locals_held}
use Rattle.hilti_parts.specs.declared.parts.Parts.{Parts}
use Rattle.hilti_parts.specs.declared.parts.Variable.{Variable}
use Rattle.hilti_rows.specs.declared.row.Source.{Source}
use Rattle.hilti_stack.specs.declared.head.Head.TheVariants as heads
use Rattle.hilti_stack.specs.declared.head.Position.{Position}
use Rattle.hilti_stack.specs.Frames.{Frames, with_made, entered}
use Rattle.hilti_values.specs.declared.value.Value.{Value}
use Rattle.hilti_effects.specs.Acting.{at, next, entry, locals_in}
use Rattle.hilti_effects.specs.Operands.{value_at, values_at}
use Rattle.hilti_acting.specs.Acts.{Calls, of_state, thread}
use Rattle.hilti_acting.specs.Free.{AreFree}
use Rattle.hilti_acting.specs.Owned.{owned, FitsWith, Fewer, IsFree}
use Rattle.hilti_acting.specs.declared.memory.Memory.{Memory}
use Rattle.hilti_acting.proofs.Answering.{operand_kept}
use Rattle.hilti_acting.proofs.Counts.{fits_same, stands_fewer, enter_fits}

-- slots that hold nothing are made
free_fits : (f g : Frames) (gs ls : List Value) (a : Kept) → g ≡ with_made f (f.made ++ ls)
    → ((s : ℕ) → all_held s ls ≡ 0) → FitsWith a f gs None → FitsWith a g gs None
free_fits f g gs ls a e none fits = subst (λ g. FitsWith a g gs None) (sym e) (record {
  is = fits_same a (λ s. owned f gs s + 0) (λ s. owned (with_made f (f.made ++ ls)) gs s + 0)
      (λ s.
      let both = sum_by-append (held s) f.made ls in
      let own = sum-map (held s) ls in
      let z = none s in omega arith) fits.is;
})

-- a callee is entered with its arguments and its own variables

module _ (parts : Parts) (p : Position) (s a b c : Frames) (m m' : Memory) (f : FnId)
    (sources : List Source) (target : Option Variable) (none_made : s.made ≡ [])
    (given : a ≡ with_made s (s.made ++ values_at s.slots m.globals.items sources))
    (own : b ≡ with_made a (a.made ++ locals_in (slice_get parts.functions f.n)))
    (enters : c ≡ entered b (heads.Function (next p)))
    (same : m'.globals.items ≡ m.globals.items) where
  abbrev values : List Value
  values = values_at s.slots m.globals.items sources

  abbrev locals : List Value
  locals = locals_in (slice_get parts.functions f.n)

  abbrev callee : Position
  callee = record { function = f; block = 0; at = 0; target = target }

  slots_are : c.slots ≡ values ++ locals
  slots_are =
      ap (λ (f : Frames). f.slots) enters
      ∙ ap (λ (f : Frames). f.made) own
      ∙ ap (λ made. made ++ locals)
      (ap (λ (f : Frames). f.made) given ∙ ap (λ made. made ++ values) none_made)

  below_is : c.below ≡ s.below ++ at (next p) s.slots ∷ []
  below_is =
      ap (λ (f : Frames). f.below) enters
      ∙ ap (λ (f : Frames). f.below ++ at (next p) f.slots ∷ [])
      (own ∙ ap (λ (f : Frames). with_made f (a.made ++ locals)) given)

  pub call_enters : Fewer m.heap m'.heap → FitsWith m'.heap a m'.globals.items None
      → Calls
      (of_state (λ st. Call (entry parts f (values_at s.slots st.globals sources) target) []
      (at (next p) s.slots) st) m.globals.items) p s m callee c m'
  call_enters fewer fits = record {
    leads = λ number ran store stands. record {
      store = store;
      stands = stands_fewer m.heap m'.heap store fewer stands;
      so =
          ap (λ slots. Call (at callee slots) [] (at (next p) s.slots)
          (thread number ran m.globals.items store)) (sym slots_are)
          ∙ ap (λ gs.
          Call (at callee c.slots) [] (at (next p) s.slots) (thread number ran gs store))
          (sym same);
    };
    fits = enter_fits b c m'.globals.items (heads.Function (next p)) m'.heap enters
        (free_fits a b m'.globals.items locals m'.heap own
        (λ q. locals_held q (slice_get parts.functions f.n)) fits);
    below = below_is;
    none_made = ap (λ (f : Frames). f.made) enters;
  }

-- arguments of a callable are kept, since each of them is

either : (P : Type 0) (a b : ℕ) → 1 ≤ a + b → (1 ≤ a → P) → (1 ≤ b → P) → P
either P zero b one f g = g (omega arith)
either P (suc a) b one f g = f (omega arith)

module _ (h : Kept) (f : Frames) (gs : List Value) (fits : FitsWith h f gs None) where
  each_kept : (ss : List Source) → AllByRecursion IsFree ss
      → AreKept h (λ q. all_held q (values_at f.slots gs ss))
  each_kept [] free = record { each = λ q one. absurd (omega arith) }
  each_kept (s ∷ ss) (free, others) = record {
    each = λ q one.
        let here = operand_kept h f gs s (value_at f.slots gs s) free fits refl in
        let there = each_kept ss others in
        let both = all_cons q (value_at f.slots gs s) (values_at f.slots gs ss) in
        either _ (held q (value_at f.slots gs s)) (all_held q (values_at f.slots gs ss))
        (omega arith) (here.each q) (there.each q);
  }

  pub arguments_kept : (ss : List Source) (gs' : List Value) (vs : List Value) → AreFree ss
      → gs' ≡ gs → vs ≡ values_at f.slots gs' ss → AreKept h (λ q. all_held q vs)
  arguments_kept ss gs' vs free same is =
      subst (λ vs. AreKept h (λ q. all_held q vs))
      (sym (is ∙ ap (λ gs. values_at f.slots gs ss) same))
      (each_kept ss (recursion_from_All IsFree ss free))
