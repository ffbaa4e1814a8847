-- Each hook body belongs to one hook, at one place.
use Rattle.std.proofs.Common.{◌≡◌, refl, sym, ◌∙◌, ap, ℕ, zero, suc, ◌+◌, ◌<◌, ◌≤◌, nat_eq, Bool, true, false, cond, List, [], ◌∷◌, ◌++◌, map, Option, Some, None, arith, eqb-true, eq-eqb}
use Rattle.std.specs.Prelude.{slice_get, filter, nat_lt}
use Rattle.std.specs.Option.{option_map, option_and_then}
use Rattle.std.proofs.lemmas.Bool.{ne_eqb, eqb-false, ltb-true, ltb-false, lt-ltb, le-ltb}
use Rattle.hilti_base.specs.declared.names.FnId.{FnId}
use Rattle.hilti_module.specs.declared.module.Module.{Module}
use Rattle.hilti_link.specs.declared.tables.LinkedFunction.{LinkedFunction}
use Rattle.hilti_link.specs.declared.tables.LinkedHook.{LinkedHook}
use Rattle.hilti_link.specs.Linking.{tables_of}
use Rattle.hilti_parts.specs.declared.parts.Hook.{Hook}
use Rattle.hilti_declared.specs.declared.hooks.HookBody.{HookBody}
use Rattle.hilti_declared.specs.Hooks.{body_by, bodies_from, hook_bodies, by_priority, above, in_order, functions_of, hook_of, hooks_from}
use Rattle.hilti_declared.specs.Laws.{BodiesBelongOnce}

-- how often a function stands among bodies
module _ (n : ℕ) where
  abbrev one_if : HookBody → ℕ
  one_if b = cond (nat_eq b.function.n n) 1 0

  times : List HookBody → ℕ
  times [] = 0
  times (b ∷ more) = one_if b + times more

  times-append : (xs ys : List HookBody) → times (xs ++ ys) ≡ times xs + times ys
  unfolding times
  times-append [] ys = omega arith
  times-append (x ∷ xs) ys = let rest = times-append xs ys in omega (arith, rest)

  -- of those with priorities below a bound
  below : ℕ → List HookBody → ℕ
  below p [] = 0
  below p (b ∷ more) = cond (nat_lt b.priority p) (one_if b) 0 + below p more

  split : (p : ℕ) (xs : List HookBody) → times (filter (λ (b : HookBody). nat_eq b.priority p) xs) + below p xs ≡ below (suc p) xs
  unfolding times below
  split p [] = refl
  split p (x ∷ xs) = by (nat_eq x.priority p) refl (split p xs)
    where
      by : (b : Bool) → nat_eq x.priority p ≡ b → times (filter (λ (b : HookBody). nat_eq b.priority p) xs) + below p xs ≡ below (suc p) xs
          → times (filter (λ (b : HookBody). nat_eq b.priority p) (x ∷ xs)) + below p (x ∷ xs) ≡ below (suc p) (x ∷ xs)
      by true is rest =
          let same : x.priority ≡ p = eqb-true x.priority p is in
          let less : nat_lt x.priority p ≡ false = le-ltb x.priority p (omega arith) in
          let within : nat_lt x.priority (suc p) ≡ true = lt-ltb x.priority (suc p) (omega arith) in
          rw (is, less, within) (omega (arith, rest))
      by false is rest = apart (nat_lt x.priority p) refl
        where
          apart : (b : Bool) → nat_lt x.priority p ≡ b → times (filter (λ (b : HookBody). nat_eq b.priority p) (x ∷ xs)) + below p (x ∷ xs) ≡ below (suc p) (x ∷ xs)
          apart true less =
              let within : nat_lt x.priority (suc p) ≡ true = lt-ltb x.priority (suc p) (omega (arith, ltb-true x.priority p less)) in
              rw (is, less, within) (omega (arith, rest))
          apart false less =
              let past : nat_lt x.priority (suc p) ≡ false = le-ltb x.priority (suc p) (omega (arith, ltb-false x.priority p less, eqb-false x.priority p is)) in
              rw (is, less, past) (omega (arith, rest))

  none_below : (xs : List HookBody) → below 0 xs ≡ 0
  unfolding below
  none_below [] = refl
  none_below (x ∷ xs) =
      let less : nat_lt x.priority 0 ≡ false = le-ltb x.priority 0 (omega arith) in
      let rest = none_below xs in
      let same : 0 + below 0 xs ≡ 0 = omega (arith, rest) in
      ap (λ b. cond {A = ℕ} b (one_if x) 0 + below 0 xs) less ∙ same

  placed_below : (p : ℕ) (xs : List HookBody) → times (by_priority p xs) ≡ below p xs
  unfolding by_priority times
  placed_below zero xs = sym (none_below xs)
  placed_below (suc p) xs =
      times-append (filter (λ (b : HookBody). nat_eq b.priority p) xs) (by_priority p xs)
      ∙ ap (λ k. times (filter (λ (b : HookBody). nat_eq b.priority p) xs) + k) (placed_below p xs) ∙ split p xs

  fewer : (p : ℕ) (xs : List HookBody) → below p xs ≤ times xs
  unfolding below times
  fewer p [] = omega arith
  fewer p (x ∷ xs) = let rest = fewer p xs in by (nat_lt x.priority p) rest
    where
      by : (b : Bool) → below p xs ≤ times xs → cond b (one_if x) 0 + below p xs ≤ one_if x + times xs
      by true rest = omega (arith, rest)
      by false rest = omega (arith, rest)

  -- bodies have rising numbers
  behind : (modules : List Module) (k : ℕ) (fs : List LinkedFunction) → n < k → times (bodies_from modules k fs) ≡ 0
  unfolding bodies_from times
  behind modules k [] h = refl
  behind modules k (f ∷ more) h = by f.hook (behind modules (suc k) more (omega arith))
    where
      by : (hook : Option ℕ) → times (bodies_from modules (suc k) more) ≡ 0 → times (body_by modules k f hook ++ bodies_from modules (suc k) more) ≡ 0
      by None rest = rest
      by (Some hook) rest = let other : nat_eq k n ≡ false = ne_eqb k n (omega arith) in rw other (omega (arith, rest))

  once : (modules : List Module) (k : ℕ) (fs : List LinkedFunction) → times (bodies_from modules k fs) ≤ 1
  unfolding bodies_from times
  once modules k [] = omega arith
  once modules k (f ∷ more) = by f.hook (once modules (suc k) more)
    where
      here : (b : Bool) → nat_eq k n ≡ b → times (bodies_from modules (suc k) more) ≤ 1 → cond (nat_eq k n) 1 0 + times (bodies_from modules (suc k) more) ≤ 1
      here true is rest =
          let same : k ≡ n = eqb-true k n is in
          let none = behind modules (suc k) more (omega arith) in
          rw is (omega (arith, none))
      here false is rest = rw is (omega (arith, rest))

      by : (hook : Option ℕ) → times (bodies_from modules (suc k) more) ≤ 1 → times (body_by modules k f hook ++ bodies_from modules (suc k) more) ≤ 1
      by None rest = rest
      by (Some hook) rest = here (nat_eq k n) refl rest

  in_order_once : (modules : List Module) (fs : List LinkedFunction) → times (in_order (hook_bodies modules fs)) ≤ 1
  in_order_once modules fs =
      let all = hook_bodies modules fs in
      let first = placed_below (above all) all in
      let second = fewer (above all) all in
      let third = once modules 0 fs in
      omega (arith, first, second, third)

  -- a function that is among a hook's is among all
  there : (xs : List HookBody) (hook k : ℕ) → slice_get (functions_of hook xs) k ≡ Some (record { n = n }) → 1 ≤ times xs
  unfolding times
  there [] hook k at = cc
  there (x ∷ xs) hook k at = by (nat_eq x.hook hook) k at (there xs hook)
    where
      first : (b : Bool) → nat_eq x.function.n n ≡ b → x.function ≡ record { n = n } → 1 ≤ one_if x + times xs
      first true is same = rw is (omega arith)
      first false is same = absurd (eqb-false x.function.n n is (ap (λ (f : FnId). f.n) same))

      by : (b : Bool) (k : ℕ) → slice_get (map (λ (b : HookBody). b.function) (cond b (x ∷ filter (λ (b : HookBody). nat_eq b.hook hook) xs) (filter (λ (b : HookBody). nat_eq b.hook hook) xs))) k ≡ Some (record { n = n })
          → ((k : ℕ) → slice_get (functions_of hook xs) k ≡ Some (record { n = n }) → 1 ≤ times xs) → 1 ≤ one_if x + times xs
      by true zero at rest = first (nat_eq x.function.n n) refl cc
      by true (suc k) at rest = let more = rest k at in omega (arith, more)
      by false k at rest = let more = rest k at in omega (arith, more)

-- where a function stands once among bodies, it stands in one hook's list, at one place
abbrev Own : List HookBody → ℕ → ℕ → FnId → Type 0
Own xs hook k f = slice_get (functions_of hook xs) k ≡ Some f

-- the list of a hook behind one body more
abbrev listed : Bool → HookBody → List FnId → List FnId
listed true x rest = x.function ∷ rest
listed false x rest = rest

list_more : (x : HookBody) (xs : List HookBody) (hook : ℕ) → functions_of hook (x ∷ xs) ≡ listed (nat_eq x.hook hook) x (functions_of hook xs)
list_more x xs hook = by (nat_eq x.hook hook) refl
  where
    by : (b : Bool) → nat_eq x.hook hook ≡ b → functions_of hook (x ∷ xs) ≡ listed (nat_eq x.hook hook) x (functions_of hook xs)
    by true is = rw is refl
    by false is = rw is refl

-- a place in it is the first, or one behind it
data Where (x : HookBody) (xs : List HookBody) (hook k : ℕ) (f : FnId) : Type 0 where
  First : x.hook ≡ hook → k ≡ 0 → x.function ≡ f → Where x xs hook k f
  Behind : (j : ℕ) → x.hook ≡ hook → k ≡ suc j → Own xs hook j f → Where x xs hook k f
  Other : nat_eq x.hook hook ≡ false → Own xs hook k f → Where x xs hook k f

where_of : (x : HookBody) (xs : List HookBody) (hook k : ℕ) (f : FnId) → Own (x ∷ xs) hook k f → Where x xs hook k f
where_of x xs hook k f at = by (nat_eq x.hook hook) refl k refl (sym (ap (λ l. slice_get l k) (list_more x xs hook)) ∙ at)
  where
    by : (b : Bool) → nat_eq x.hook hook ≡ b → (j : ℕ) → k ≡ j → slice_get (listed (nat_eq x.hook hook) x (functions_of hook xs)) k ≡ Some f → Where x xs hook k f
    by true is zero e at = First (eqb-true x.hook hook is) e (same (ap (λ n. slice_get (listed (nat_eq x.hook hook) x (functions_of hook xs)) n) (sym e) ∙ at))
      where
        same : slice_get (listed (nat_eq x.hook hook) x (functions_of hook xs)) 0 ≡ Some f → x.function ≡ f
        same h = let g : Some x.function ≡ Some f = ap (λ b. slice_get (listed b x (functions_of hook xs)) 0) (sym is) ∙ h in cc
    by true is (suc j) e at = Behind j (eqb-true x.hook hook is) e
        (ap (λ b. slice_get (listed b x (functions_of hook xs)) (suc j)) (sym is) ∙ ap (λ n. slice_get (listed (nat_eq x.hook hook) x (functions_of hook xs)) n) (sym e) ∙ at)
    by false is j e at = Other is (ap (λ b. slice_get (listed b x (functions_of hook xs)) k) (sym is) ∙ at)

twice : (x : HookBody) (xs : List HookBody) (f : FnId) (hook k : ℕ) → times f.n (x ∷ xs) ≤ 1 → x.function ≡ f → Own xs hook k f → ⊥
unfolding times
twice x xs f hook k few same at =
    let more = there f.n xs hook k at in
    let one : ◌≡◌ {A = ℕ} (cond (nat_eq x.function.n f.n) 1 0) 1 = ap (λ b. cond {A = ℕ} b 1 0) (eq-eqb x.function.n f.n (ap (λ (f : FnId). f.n) same)) in
    omega (arith, few, more, one)

fewer_times : (x : HookBody) (xs : List HookBody) (n : ℕ) → times n (x ∷ xs) ≤ 1 → times n xs ≤ 1
unfolding times
fewer_times x xs n few = omega (arith, few)

unique : (xs : List HookBody) (f : FnId) (h k i j : ℕ) → times f.n xs ≤ 1 → Own xs h k f → Own xs i j f → (h ≡ i) × (k ≡ j)
unique [] f h k i j few first second = cc
unique (x ∷ xs) f h k i j few first second = by (where_of x xs h k f first) (where_of x xs i j f second) (λ a b first second. unique xs f h a i b (fewer_times x xs f.n few) first second)
  where
    by : Where x xs h k f → Where x xs i j f → ((a b : ℕ) → Own xs h a f → Own xs i b f → (h ≡ i) × (a ≡ b)) → (h ≡ i) × (k ≡ j)
    by (First one at is) (First other there is_too) rest = (sym one ∙ other, at ∙ sym there)
    by (First one at is) (Behind b other there own) rest = absurd (twice x xs f i b few is own)
    by (First one at is) (Other apart own) rest = absurd (twice x xs f i j few is own)
    by (Behind a one at own) (First other there is) rest = absurd (twice x xs f h a few is own)
    by (Behind a one at own) (Behind b other there own_too) rest = let same = rest a b own own_too in (same.0, at ∙ ap (λ n. suc n) same.1 ∙ sym there)
    by (Behind a one at own) (Other apart own_too) rest = let same = rest a j own own_too in absurd (eqb-false x.hook i apart (one ∙ same.0))
    by (Other apart own) (First other there is) rest = absurd (twice x xs f h k few is own)
    by (Other apart own) (Behind b other there own_too) rest = let same = rest k b own own_too in absurd (eqb-false x.hook h apart (other ∙ sym same.0))
    by (Other apart own) (Other apart_too own_too) rest = rest k j own own_too

pub hook_at : (bodies : List HookBody) (n : ℕ) (hooks : List LinkedHook) (k : ℕ) → slice_get (hooks_from bodies n hooks) k ≡ option_map (hook_of bodies (n + k)) (slice_get hooks k)
unfolding hooks_from
hook_at bodies n [] k = refl
hook_at bodies n (h ∷ more) zero = ap (λ m. Some (hook_of bodies m h)) (omega arith)
hook_at bodies n (h ∷ more) (suc k) = hook_at bodies (suc n) more k ∙ ap (λ m. option_map (hook_of bodies m) (slice_get more k)) (omega arith)

own_of : (bodies : List HookBody) (hooks : List LinkedHook) (hook k : ℕ) (f : FnId)
    → option_and_then (λ (h : Hook). slice_get h.bodies k) (slice_get (hooks_from bodies 0 hooks) hook) ≡ Some f → Own (in_order bodies) hook k f
own_of bodies hooks hook k f at = by (slice_get hooks hook) refl
  where
    there_is : option_and_then (λ (h : Hook). slice_get h.bodies k) (option_map (hook_of bodies (0 + hook)) (slice_get hooks hook)) ≡ Some f
    there_is = ap (option_and_then (λ (h : Hook). slice_get h.bodies k)) (sym (hook_at bodies 0 hooks hook)) ∙ at

    by : (found : Option LinkedHook) → slice_get hooks hook ≡ found → Own (in_order bodies) hook k f
    by None is = let none : None ≡ Some f = ap (λ o. option_and_then (λ (h : Hook). slice_get h.bodies k) (option_map (hook_of bodies (0 + hook)) o)) (sym is) ∙ there_is in cc
    by (Some h) is = ap (λ n. slice_get (functions_of n (in_order bodies)) k) (omega arith)
        ∙ ap (λ o. option_and_then (λ (h : Hook). slice_get h.bodies k) (option_map (hook_of bodies (0 + hook)) o)) (sym is) ∙ there_is

pub bodies_belong_once : BodiesBelongOnce
bodies_belong_once modules blocks f h k i j first second =
    let tables = tables_of modules in
    let bodies = hook_bodies modules tables.functions in
    unique (in_order bodies) f h k i j (in_order_once f.n modules tables.functions) (own_of bodies tables.hooks h k f first) (own_of bodies tables.hooks i j f second)
