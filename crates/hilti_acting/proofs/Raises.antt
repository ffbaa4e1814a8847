-- Which handler a raise goes to, and what comes of it.
use Rattle.std.proofs.Common.{◌≡◌, ◌≢◌, ℕ, zero, suc, ◌<◌, ◌≤◌, List, [], ◌∷◌, refl, sym, ap, subst}
use Rattle.std.proofs.Common.{◌∙◌, Bool, Option, Some, None, arith, true, false, IsSomeAnd}
use Rattle.std.proofs.Common.{◌⊎◌, inl, inr, ⊎_elim}
use Rattle.std.specs.Prelude.{slice_get, slice_set, find, cond, ◌||◌, nat_eq}
use Rattle.std.specs.Option.{option_and_then}
use Rattle.std.proofs.lemmas.Bool.Decides.{eqb_tells}
use Rattle.std.proofs.lemmas.Option.{same_Some, slice_get_within, get_or_from_slice_get}
use Rattle.std.proofs.lemmas.List.Elements.{All-get_or}
use Rattle.hilti_parts.specs.declared.parts.Exception.{Exception}
use Rattle.hilti_parts.specs.declared.parts.Block.{Block}
use Rattle.hilti_parts.specs.declared.parts.Handler.{Handler}
use Rattle.hilti_typing.specs.Exceptions.{parent_of, IsBelow, ExceptionTree}
use Rattle.hilti_program.proofs.Chains.{here, stops, goes_on}
use Rattle.hilti_raise.specs.Handlers.{Catches, IsCatching}
use Rattle.hilti_calls.specs.Calls.{Action.Go}
use Rattle.hilti_parts.specs.declared.parts.Parts.{Parts}
use Rattle.hilti_raise.specs.Handlers.{block_at}
use Rattle.hilti_stack.specs.declared.head.Position.{Position}
use Rattle.hilti_stack.specs.Frames.{Frames, with_slots}
use Rattle.hilti_values.specs.declared.value.Value.TheVariants as values
use Rattle.hilti_effects.specs.Acting.{at}
use Rattle.hilti_effects.specs.Raising.{is_below_by, catches, catching, raised, as_action}
use Rattle.hilti_effects.specs.Raising.{to_handler, to_block}
use Rattle.hilti_effects.specs.State.{State}
use Rattle.hilti_effects.specs.declared.ending.Ending.TheVariants as endings
use Rattle.hilti_acting.specs.Acts.{Going, WentOn, Leaves, marks, of_state, thread}
use Rattle.hilti_acting.specs.Owned.{FitsWith, Fewer}
use Rattle.hilti_acting.specs.declared.did.Did.TheVariants as did
use Rattle.hilti_acting.specs.declared.memory.Memory.{Memory}
use Rattle.hilti_acting.proofs.Counts.{stands_fewer}

module _ (exceptions : List Exception) (tree : ExceptionTree exceptions) where
  none_below : (steps other : ℕ) → is_below_by exceptions steps None other ≡ false
  none_below zero other = refl
  none_below (suc steps) other = refl

  -- a search up the chain tells whether another stands above
  abbrev Tells : ℕ → ℕ → ℕ → Type 0
  Tells steps e other =
      ((is_below_by exceptions steps (Some e) other ≡ true) × IsBelow exceptions e other)
      ⊎ ((is_below_by exceptions steps (Some e) other ≡ false) × (IsBelow exceptions e other → ⊥))

  top_parent : (e : ℕ) → e ≤ 0 → parent_of exceptions e ≡ None
  top_parent zero le = ap (option_and_then (λ (x : Exception). x.parent)) tree.top
  top_parent (suc e) le = absurd (omega arith)

  module _ (steps e other : ℕ) (f : nat_eq e other ≡ false) (differs : e ≢ other) where
    abbrev rest : Option ℕ → Bool
    rest found = is_below_by exceptions steps found other

    over : (b : Bool) (found : Option ℕ) → parent_of exceptions e ≡ found → rest found ≡ b
        → is_below_by exceptions (suc steps) (Some e) other ≡ b
    over b found is r = ap (λ b. b || rest (parent_of exceptions e)) f ∙ ap rest is ∙ r

    up : e ≤ suc steps → ((q : ℕ) → q ≤ steps → Tells steps q other) → (found : Option ℕ)
        → parent_of exceptions e ≡ found → Tells (suc steps) e other
    up le more None is = inr
        (over false None is (none_below steps other), stops exceptions e other is differs)
    up le more (Some q) is =
        let less = tree.parent_before e q is in
        let iff = goes_on exceptions e q other is differs in
        ⊎_elim
        (λ (x : (rest (Some q) ≡ true) × IsBelow exceptions q other).
        inl (over true (Some q) is x.0, iff.1 x.1))
        (λ (x : (rest (Some q) ≡ false) × (IsBelow exceptions q other → ⊥)).
        inr (over false (Some q) is x.0, λ b. x.1 (iff.0 b)))
        (more q (omega arith))

  tells : (steps e other : ℕ) → e ≤ steps → Tells steps e other
  tells zero e other le = ⊎_elim
      (λ (x : (nat_eq e other ≡ true) × (e ≡ other)). inl (x.0, here exceptions e other x.1))
      (λ (x : (nat_eq e other ≡ false) × (e ≢ other)).
      inr (x.0, stops exceptions e other (top_parent e le) x.1))
      (eqb_tells e other)
  tells (suc steps) e other le = ⊎_elim
      (λ (x : (nat_eq e other ≡ true) × (e ≡ other)).
      inl (
        ap (λ b. b || is_below_by exceptions steps (parent_of exceptions e) other) x.0,
        here exceptions e other x.1,
      ))
      (λ (x : (nat_eq e other ≡ false) × (e ≢ other)).
      up steps e other x.0 x.1 le (λ q below. tells steps q other below)
      (parent_of exceptions e) refl)
      (eqb_tells e other)

  module _ (e : ℕ) where
    caught : (h : Handler) → Tells e e h.exception
    caught h = tells e e h.exception (omega arith)

    passes : (h : Handler) (hs : List Handler) → (Catches exceptions e h → ⊥)
        → find (catches exceptions e) (h ∷ hs) ≡ find (catches exceptions e) hs
    passes h hs not = ⊎_elim
        (λ (x : (catches exceptions e h ≡ true) × Catches exceptions e h). absurd (not x.1))
        (λ (x : (catches exceptions e h ≡ false) × (Catches exceptions e h → ⊥)).
        ap (λ b. cond b (Some h) (find (catches exceptions e) hs)) x.0)
        (caught h)

    takes : (h : Handler) (hs : List Handler) → Catches exceptions e h
        → find (catches exceptions e) (h ∷ hs) ≡ Some h
    takes h hs does = ⊎_elim
        (λ (x : (catches exceptions e h ≡ true) × Catches exceptions e h).
        ap (λ b. cond b (Some h) (find (catches exceptions e) hs)) x.0)
        (λ (x : (catches exceptions e h ≡ false) × (Catches exceptions e h → ⊥)).
        absurd (x.1 does))
        (caught h)

    none_found : (hs : List Handler)
        → ((k : ℕ) (g : Handler) → slice_get hs k ≡ Some g → Catches exceptions e g → ⊥)
        → find (catches exceptions e) hs ≡ None
    none_found [] none = refl
    none_found (h ∷ hs) none =
        passes h hs (none zero h refl) ∙ none_found hs (λ k g s. none (suc k) g s)

    first_found : (hs : List Handler) (at : ℕ) (h : Handler) → slice_get hs at ≡ Some h
        → Catches exceptions e h
        → ((k : ℕ) (g : Handler) → k < at → slice_get hs k ≡ Some g → Catches exceptions e g → ⊥)
        → find (catches exceptions e) hs ≡ Some h
    first_found [] at h s does none = absurd cc
    first_found (g ∷ hs) zero h s does none =
        let i = same_Some g h s in
        takes g hs (subst (Catches exceptions e) (sym i) does) ∙ s
    first_found (g ∷ hs) (suc at) h s does none =
        passes g hs (none zero g (omega arith) refl)
        ∙ first_found hs at h s does (λ k f less t. none (suc k) f (omega arith) t)

    found_is : (hs : List Handler) (found : Option Handler) → IsCatching exceptions e hs found
        → find (catches exceptions e) hs ≡ found
    found_is hs None none = none_found hs (λ k g s.
        subst (λ h. Catches exceptions e h → ⊥) (get_or_from_slice_get hs k g g s)
        (All-get_or (λ h. Catches exceptions e h → ⊥) hs k g (slice_get_within hs k g s) none))
    found_is hs (Some h) first =
        first_found hs first.at h first.stands first.catches first.none_before

    pub catching_is : (block : Option Block) (found : Option Handler)
        → IsSomeAnd block (λ (b : Block). IsCatching exceptions e b.handlers found)
        → catching exceptions e block ≡ found
    catching_is None found is = absurd is
    catching_is (Some b) found is = found_is b.handlers found is

-- what a raise comes to

module _ (parts : Parts) (tree : ExceptionTree parts.exceptions) (p : Position) (s : Frames)
    (m : Memory) (e : ℕ) (text : List ℕ) (found : Option Handler)
    (is : IsSomeAnd (block_at parts p.function.n p.block)
    (λ (b : Block). IsCatching parts.exceptions e b.handlers found)) where
  pub raised_is : (st : State)
      → raised parts p s.slots st e text ≡ to_handler p s.slots st e text found
  unfolding raised
  raised_is st = ap (to_handler p s.slots st e text)
      (catching_is parts.exceptions tree e (block_at parts p.function.n p.block) found is)

  abbrev raises : Going
  raises = of_state (λ st. as_action (raised parts p s.slots st e text)) m.globals.items

  pub raise_taken : (h : Handler) → found ≡ Some h → (p' : Position) (s' : Frames) (m' : Memory)
      → p' ≡ to_block p h.block
      → s' ≡ with_slots s (slice_set s.slots h.slot (values.Text text))
      → m'.globals.items ≡ m.globals.items → Fewer m.heap m'.heap
      → FitsWith m'.heap s' m'.globals.items None → s.made ≡ []
      → WentOn raises s m (marks did.Went) p' s' m'
  raise_taken h is_handler p' s' m' place stack globals fewer fits made = record {
    leads = λ number ran store stands. record {
      store = store;
      stands = stands_fewer m.heap m'.heap store fewer stands;
      so =
          ap as_action (raised_is (thread number ran m.globals.items store))
          ∙ ap (λ found. as_action
          (to_handler p s.slots (thread number ran m.globals.items store) e text found))
          is_handler
          ∙ ap (λ (f : Frames). Go [] (at (to_block p h.block) f.slots)
          (thread number ran m.globals.items store)) (sym stack)
          ∙ ap (λ gs. Go [] (at (to_block p h.block) s'.slots) (thread number ran gs store))
          (sym globals)
          ∙ ap (λ q. Go [] (at q s'.slots) (thread number ran m'.globals.items store)) (sym place);
    };
    fits = fits;
    below = ap (λ (f : Frames). f.below) stack;
    none_made = ap (λ (f : Frames). f.made) stack ∙ made;
  }

  pub raise_leaves : found ≡ None → FitsWith m.heap s m.globals.items None
      → Leaves raises p s m (endings.Raised e text) p s m
  raise_leaves none fits = record {
    leads = λ number ran store stands. record {
      store = store;
      stands = stands;
      so =
          ap as_action (raised_is (thread number ran m.globals.items store))
          ∙ ap (λ found. as_action
          (to_handler p s.slots (thread number ran m.globals.items store) e text found)) none;
    };
    fits = fits;
    stack = refl;
    position = refl;
    globals = refl;
  }
