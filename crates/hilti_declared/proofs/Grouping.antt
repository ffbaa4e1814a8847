-- Bodies of hooks: by priority, and each with its hook.
use Rattle.std.proofs.Common.{◌≡◌, refl, sym, ◌∙◌, ap, ap₂, ℕ, zero, suc, ◌+◌, ◌<◌, ◌≤◌, nat_eq, Bool, true, false, cond, List, [], ◌∷◌, ◌++◌, length, map, drop, set, get_or, append_assoc, append-nil, Option, Some, None, arith, add-one, eq-eqb}
use Rattle.std.specs.Prelude.{filter}
use Rattle.std.proofs.lemmas.List.{map-append, at_drop_more, at_drop_all}
use Rattle.std.proofs.lemmas.Bool.{ne_eqb}
use Rattle.std.proofs.lemmas.List.Elements.{filter-append}
use Rattle.hilti_base.specs.declared.names.FnId.{FnId}
use Rattle.hilti_module.specs.declared.module.Module.{Module}
use Rattle.hilti_link.specs.declared.tables.LinkedFunction.{LinkedFunction}
use Rattle.hilti_link.specs.declared.tables.LinkedHook.{LinkedHook}
use Rattle.hilti_parts.specs.declared.parts.Hook.{Hook}
use Rattle.hilti_declared.specs.declared.hooks.HookBody.{HookBody}
use Rattle.hilti_declared.specs.Turns.{first_or_none}
use Rattle.hilti_declared.proofs.Handing.{none_left}
use Rattle.hilti_declared.specs.Sites.{item_at}
use Rattle.hilti_declared.specs.Hooks.{priority_in, body_of, body_by, bodies_from, functions_of, lists_from, hooks_from, in_order}

-- one function further
module _ (modules : List Module) (functions : List LinkedFunction) (n : ℕ) (f : LinkedFunction) (found all : List HookBody) where
  abbrev left : ℕ → List HookBody
  left n = bodies_from modules n (drop n functions)

  one : (more : List LinkedFunction) → bodies_from modules n (f ∷ more) ≡ body_of modules n f ++ bodies_from modules (suc n) more
  unfolding bodies_from
  one more = refl

  pub body_more : (new : List HookBody) → n < length functions → f ≡ get_or functions n f → found ++ left n ≡ all
      → new ≡ found ++ body_of modules n f → new ++ left (n + 1) ≡ all
  body_more new below is so_far new_is =
      ap (λ l. l ++ left (n + 1)) new_is
      ∙ append_assoc found (body_of modules n f) (left (n + 1))
      ∙ ap (λ l. found ++ l) (ap (λ k. body_of modules n f ++ bodies_from modules k (drop (n + 1) functions)) (add-one n) ∙ sym (one (drop (n + 1) functions)))
      ∙ ap (λ g. found ++ bodies_from modules n (g ∷ drop (n + 1) functions)) is
      ∙ sym (at_drop_more (λ l. found ++ bodies_from modules n l) functions n f below)
      ∙ so_far

pub bodies_end : (modules : List Module) (functions : List LinkedFunction) (n : ℕ) (found all : List HookBody) → length functions ≤ n
    → found ++ bodies_from modules n (drop n functions) ≡ all → found ≡ all
unfolding bodies_from
bodies_end modules functions n found all past so_far =
    sym (append-nil found) ∙ sym (at_drop_all (λ l. found ++ bodies_from modules n l) functions n past) ∙ so_far

pub body_is : (modules : List Module) (n : ℕ) (f : LinkedFunction) (hook priority number : ℕ) → f.hook ≡ Some hook
    → priority ≡ priority_in (item_at modules f.site) → number ≡ n
    → record { hook = hook; priority = priority; function = record { n = number } } ∷ [] ≡ body_of modules n f
body_is modules n f hook priority number e first second =
    ap₂ {B = ℕ} {C = List HookBody} (λ p k. record { hook = hook; priority = p; function = record { n = k } } ∷ []) first second ∙ ap (body_by modules n f) (sym e)

pub no_body : (modules : List Module) (n : ℕ) (f : LinkedFunction) (hook : Option ℕ) → f.hook ≡ hook → ((h : ℕ) → hook ≡ Some h → ⊥)
    → [] ≡ body_of modules n f
no_body modules n f None e none = ap (body_by modules n f) (sym e)
no_body modules n f (Some h) e none = absurd (none h refl)

-- one body more among those of each hook
module _ (before : List HookBody) (body : HookBody) where
  added : (n : ℕ) → functions_of n (before ++ body ∷ []) ≡ functions_of n before ++ cond (nat_eq body.hook n) (body.function ∷ []) []
  added n =
      ap (map (λ (b : HookBody). b.function)) (filter-append (λ (b : HookBody). nat_eq b.hook n) before (body ∷ []))
      ∙ map-append (λ (b : HookBody). b.function) (filter (λ (b : HookBody). nat_eq b.hook n) before) (filter (λ (b : HookBody). nat_eq b.hook n) (body ∷ []))
      ∙ ap (λ l. functions_of n before ++ l) (last (nat_eq body.hook n) refl)
    where
      last : (b : Bool) → nat_eq body.hook n ≡ b → map (λ (b : HookBody). b.function) (filter (λ (b : HookBody). nat_eq b.hook n) (body ∷ [])) ≡ cond (nat_eq body.hook n) (body.function ∷ []) []
      last true e = rw e refl
      last false e = rw e refl

  apart : (n : ℕ) → nat_eq body.hook n ≡ false → functions_of n (before ++ body ∷ []) ≡ functions_of n before
  apart n other = added n ∙ ap (λ b. functions_of n before ++ cond b (body.function ∷ []) []) other ∙ append-nil (functions_of n before)

  its_own : (n : ℕ) → nat_eq body.hook n ≡ true → functions_of n (before ++ body ∷ []) ≡ functions_of n before ++ body.function ∷ []
  its_own n same = added n ∙ ap (λ b. functions_of n before ++ cond b (body.function ∷ []) []) same

  -- no list from a number on is its hook's
  pub in_front : (n count : ℕ) → body.hook < n → lists_from (before ++ body ∷ []) n count ≡ lists_from before n count
  unfolding lists_from
  in_front n zero h = refl
  in_front n (suc count) h = ap₂ (λ x l. x ∷ l) (apart n (ne_eqb body.hook n (omega arith))) (in_front (suc n) count (omega arith))

  pub behind : (n count : ℕ) → n + count ≤ body.hook → lists_from (before ++ body ∷ []) n count ≡ lists_from before n count
  unfolding lists_from
  behind n zero h = refl
  behind n (suc count) h = ap₂ (λ x l. x ∷ l) (apart n (ne_eqb body.hook n (omega arith))) (behind (suc n) count (omega arith))

  -- the list of its hook has it last
  pub put : (n count i : ℕ) (d : List FnId) → body.hook ≡ n + i → i < count
      → lists_from (before ++ body ∷ []) n count ≡ set (lists_from before n count) i (get_or (lists_from before n count) i d ++ body.function ∷ [])
  unfolding lists_from
  put n zero i d is h = absurd (omega arith)
  put n (suc count) zero d is h = ap₂ (λ x l. x ∷ l) (its_own n (eq-eqb body.hook n (omega arith))) (in_front (suc n) count (omega arith))
  put n (suc count) (suc i) d is h = ap₂ (λ x l. x ∷ l) (apart n (ne_eqb body.hook n (omega arith))) (put (suc n) count i d (omega arith) (omega arith))

pub length_lists : (bodies : List HookBody) (n count : ℕ) → length (lists_from bodies n count) ≡ count
unfolding lists_from
length_lists bodies n zero = refl
length_lists bodies n (suc count) = ap (λ k. suc k) (length_lists bodies (suc n) count)

empty_more : (k n : ℕ) → lists_from [] k n ++ [] ∷ [] ≡ lists_from [] k (suc n)
unfolding lists_from
empty_more k zero = refl
empty_more k (suc n) = ap (λ l. [] ∷ l) (empty_more (suc k) n)

pub one_list_more : (n : ℕ) → lists_from [] 0 n ++ [] ∷ [] ≡ lists_from [] 0 (n + 1)
one_list_more n = empty_more 0 n ∙ ap (lists_from [] 0) (sym (add-one n))

-- hooks made of those that were handed out, with what is left of the hooks and of the lists
pub record Joined (bodies : List HookBody) (made : List Hook) (done : ℕ) (hooks all : List LinkedHook) (lists : List (List FnId)) (count : ℕ) : Type 0 where
  pub so_far : made ++ hooks_from bodies done hooks ≡ hooks_from bodies 0 all
  pub lists_are : lists ≡ lists_from (in_order bodies) done (length hooks)
  pub counted : count ≡ length hooks

pub joined_none : (bodies : List HookBody) (all : List LinkedHook) (lists : List (List FnId)) (count : ℕ)
    → lists ≡ lists_from (in_order bodies) 0 (length all) → count ≡ length all → Joined bodies [] 0 all all lists count
joined_none bodies all lists count are counted = record { so_far = refl; lists_are = are; counted = counted }

pub joined_more : (bodies : List HookBody) (made new : List Hook) (done next : ℕ) (hooks rest all : List LinkedHook) (h : LinkedHook) (lists others : List (List FnId)) (list : List FnId) (count fewer : ℕ)
    → Joined bodies made done hooks all lists count → next ≡ done + 1 → hooks ≡ h ∷ rest → count ≡ fewer + 1 → list ≡ first_or_none lists → others ≡ drop 1 lists
    → new ≡ made ++ record { name = h.name; params = h.parameters; bodies = list } ∷ []
    → Joined bodies new next rest all others fewer
unfolding lists_from hooks_from
joined_more bodies made new done next hooks rest all h lists others list count fewer so next_is is fewer_is first_is rest_is new_is =
    let lists_so : lists ≡ lists_from (in_order bodies) done (length (h ∷ rest)) = so.lists_are ∙ ap (λ l. lists_from (in_order bodies) done (length l)) is in
    let list_is : list ≡ functions_of done (in_order bodies) = first_is ∙ ap first_or_none lists_so in
    let others_are : others ≡ lists_from (in_order bodies) (suc done) (length rest) = rest_is ∙ ap (drop 1) lists_so in
    let hook_is : Hook = record { name = h.name; params = h.parameters; bodies = list } in
    record {
      so_far = ap₂ (λ l k. l ++ hooks_from bodies k rest) new_is (next_is ∙ add-one done)
          ∙ append_assoc made (hook_is ∷ []) (hooks_from bodies (suc done) rest)
          ∙ ap (λ l. made ++ record { name = h.name; params = h.parameters; bodies = l } ∷ hooks_from bodies (suc done) rest) list_is
          ∙ ap (λ l. made ++ hooks_from bodies done l) (sym is) ∙ so.so_far;
      lists_are = others_are ∙ ap (λ k. lists_from (in_order bodies) k (length rest)) (sym (next_is ∙ add-one done));
      counted = (let counted = so.counted in let same = ap length is in omega arith);
    }

pub joined_all : (bodies : List HookBody) (made : List Hook) (done : ℕ) (hooks all : List LinkedHook) (lists : List (List FnId)) (count : ℕ)
    → Joined bodies made done hooks all lists count → count ≡ 0 → made ≡ hooks_from bodies 0 all
unfolding hooks_from
joined_all bodies made done hooks all lists count so zero_ =
    let counted = so.counted in
    let empty = none_left hooks (omega arith) in
    sym (append-nil made) ∙ ap (λ l. made ++ hooks_from bodies done l) (sym empty) ∙ so.so_far
