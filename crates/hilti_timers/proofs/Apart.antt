-- Entries whose serials are apart, and the map of them.
use Rattle.std.proofs.Common.{◌≡◌, ℕ, ◌+◌, ◌<◌, zero, suc, List, [], ◌∷◌, ◌++◌, map, length, get_or, take, drop, set, Option, Some, None, cond, Bool, true, false, T, refl, sym, ap, subst, ◌∙◌, arith}
use Rattle.std.proofs.lemmas.List.{map-append}
use Rattle.std.proofs.lemmas.List.Elements.{All-head, All-tail}
use Rattle.std.specs.List.{All}
use Rattle.std.specs.Option.{IsSomeAnd, IsNone, is_some}
use Rattle.std.specs.Ordering.{nat_cmp, eq_by_cmp, is_eq}
use Rattle.std.specs.Cmp.{nat_cmp_total, eq_by_cmp_equiv}
use Rattle.std.specs.declared.cmp.Ordering.{Ordering}
use Rattle.std.specs.declared.cmp.Ordering.TheVariants.{Less, Equal, Greater}
use Rattle.std.specs.FinMap.{find, get, insert, len, remove, from_entries, get-from_entries, get-insert, get-remove, len-insert, len-empty, same_map, nat_cmp-IsAntisymmetric, from_entries_push}
use Rattle.std.specs.FinMap.Entries.{find-append}
use Rattle.hilti_timers.specs.declared.manager.Waiting.{Waiting}
use Rattle.hilti_timers.specs.Kept.{AreApart, pair, schedule_of}

abbrev pub same : ℕ → ℕ → Bool
same a b = eq_by_cmp nat_cmp a b

equal : (r : Ordering) → T (is_eq r) → r ≡ Equal
equal Less e = absurd e
equal Equal e = refl
equal Greater e = absurd e

pub ties : (a b : ℕ) → same a b ≡ true → a ≡ b
ties a b e = nat_cmp-IsAntisymmetric a b (equal (nat_cmp a b) (subst T (sym e) tt))

tied : (a : ℕ) → same a a ≡ true
tied a = (eq_by_cmp_equiv nat_cmp_total).refl a

not_Some : {A : Type 0} (x : A) → ¬ (Some x ≡ None)
not_Some x e = subst T (ap is_some e) tt

pub found_tied : {X : Type 0} (a b : ℕ) (x : X) (rest : Option X) → a ≡ b → cond (same a b) (Some x) rest ≡ Some x
found_tied a b x rest e = ap (λ t. cond t (Some x) rest) (subst (λ c. same a c ≡ true) e (tied a))

-- where nothing is found, the first has another serial, and nothing is found behind it
nothing_first : {X : Type 0} (b : Bool) (x : X) (rest : Option X) → cond b (Some x) rest ≡ None → (b ≡ false) × (rest ≡ None)
nothing_first true x rest e = absurd (not_Some x e)
nothing_first false x rest e = (refl, e)

never_both : {A : Type 0} (b : Bool) → b ≡ true → b ≡ false → A
never_both b holds fails = absurd (subst T (sym holds ∙ fails) tt)

pub absent : {E : Type 0} (ws : List (Waiting E)) (k : ℕ) → IsNone (get (schedule_of ws) k) → find nat_cmp k (map pair ws) ≡ None
absent ws k none = nothing _ (ap is_some (sym (get-from_entries nat_cmp_total (map pair ws) k)) ∙ none)
  where
    nothing : {X : Type 0} (o : Option X) → is_some o ≡ false → o ≡ None
    nothing None e = refl
    nothing (Some x) e = never_both true refl e

pub no_place : {E : Type 0} (ws : List (Waiting E)) (k : ℕ) → All (λ w. ¬ (w.serial.n ≡ k)) ws → find nat_cmp k (map pair ws) ≡ None
no_place [] k none = refl
no_place (w ∷ ws) k none =
    elim (same k w.serial.n) as (λ b. same k w.serial.n ≡ b → cond b (Some (w.due, w.entry)) (find nat_cmp k (map pair ws)) ≡ None) [
      | true ↦ λ e. absurd (All-head (λ w. ¬ (w.serial.n ≡ k)) w ws none (sym (ties k w.serial.n e)))
      | false ↦ λ _. no_place ws k (All-tail (λ w. ¬ (w.serial.n ≡ k)) w ws none)
    ] refl

pub size_of : {E : Type 0} (ws : List (Waiting E)) → AreApart ws → len (schedule_of ws) ≡ length ws
size_of {E} [] apart = len-empty nat_cmp (ℕ × E)
size_of (w ∷ ws) apart =
    len-insert nat_cmp_total (schedule_of ws) w.serial.n (w.due, w.entry)
    ∙ ap (λ o. cond (is_some o) (len (schedule_of ws)) (len (schedule_of ws) + 1)) (get-from_entries nat_cmp_total (map pair ws) w.serial.n ∙ apart.0)
    ∙ ap (λ n. n + 1) (size_of ws apart.1) ∙ omega arith

pub push_of : {E : Type 0} (ws : List (Waiting E)) (w : Waiting E) → IsNone (get (schedule_of ws) w.serial.n) → schedule_of (ws ++ w ∷ []) ≡ insert (schedule_of ws) w.serial.n (w.due, w.entry)
push_of ws w none = ap from_entries (map-append pair ws (w ∷ [])) ∙ from_entries_push nat_cmp_total nat_cmp-IsAntisymmetric (map pair ws) w.serial.n (w.due, w.entry) (absent ws w.serial.n none)

pub apart_push : {E : Type 0} (ws : List (Waiting E)) (w : Waiting E) → IsNone (get (schedule_of ws) w.serial.n) → AreApart ws → AreApart (ws ++ w ∷ [])
apart_push ws w none apart = go ws (absent ws w.serial.n none) apart
  where
    go : (ws : List (Waiting _)) → find nat_cmp w.serial.n (map pair ws) ≡ None → AreApart ws → AreApart (ws ++ w ∷ [])
    go [] none apart = (refl, tt)
    go (x ∷ ws) none apart =
        let parts = nothing_first _ _ _ none in (
          ap (find nat_cmp x.serial.n) (map-append pair ws (w ∷ [])) ∙ find-append nat_cmp nat_cmp_total (map pair ws) w.serial.n (w.due, w.entry) x.serial.n parts.1
              ∙ ap (λ b. cond b (Some (w.due, w.entry)) (find nat_cmp x.serial.n (map pair ws))) ((eq_by_cmp_equiv nat_cmp_total).symm x.serial.n w.serial.n ∙ parts.0) ∙ apart.0,
          go ws parts.1 apart.1,
        )

-- the entry at a place is found
pub found_at : {E : Type 0} (ws : List (Waiting E)) (i : ℕ) (d : Waiting E) → i < length ws → AreApart ws
    → find nat_cmp (get_or ws i d).serial.n (map pair ws) ≡ Some ((get_or ws i d).due, (get_or ws i d).entry)
found_at [] i d in' apart = absurd (omega (arith, in'))
found_at (w ∷ ws) zero d in' apart = found_tied w.serial.n w.serial.n (w.due, w.entry) _ refl
found_at (w ∷ ws) (suc i) d in' apart =
    let k = (get_or ws i d).serial.n in
    let later = found_at ws i d (omega (arith, in')) apart.1 in
    elim (same k w.serial.n) as (λ b. same k w.serial.n ≡ b → cond b (Some (w.due, w.entry)) (find nat_cmp k (map pair ws)) ≡ Some ((get_or ws i d).due, (get_or ws i d).entry)) [
      | true ↦ λ e. absurd (not_Some _ (sym later ∙ ap (λ q. find nat_cmp q (map pair ws)) (ties k w.serial.n e) ∙ apart.0))
      | false ↦ λ _. later
    ] refl

-- a serial that is not the first's does not tie with it
other : {E : Type 0} (w : Waiting E) (ws : List (Waiting E)) (k : ℕ) → find nat_cmp w.serial.n (map pair ws) ≡ None → {x : ℕ × E} → find nat_cmp k (map pair ws) ≡ Some x → same w.serial.n k ≡ false
other w ws k none {x} some =
    elim (same w.serial.n k) as (λ b. same w.serial.n k ≡ b → b ≡ false) [
      | true ↦ λ e. absurd (not_Some x (sym some ∙ ap (λ q. find nat_cmp q (map pair ws)) (sym (ties w.serial.n k e)) ∙ none))
      | false ↦ λ _. refl
    ] refl

-- the first is taken away
first_gone : {E : Type 0} (w : Waiting E) (ws : List (Waiting E)) (q : ℕ) → find nat_cmp w.serial.n (map pair ws) ≡ None
    → find nat_cmp q (map pair ws) ≡ cond (same q w.serial.n) None (find nat_cmp q (map pair (w ∷ ws)))
first_gone w ws q none =
    elim (same q w.serial.n) as (λ b. same q w.serial.n ≡ b → find nat_cmp q (map pair ws) ≡ cond b None (cond b (Some (w.due, w.entry)) (find nat_cmp q (map pair ws)))) [
      | true ↦ λ e. ap (λ k. find nat_cmp k (map pair ws)) (ties q w.serial.n e) ∙ none
      | false ↦ λ _. refl
    ] refl

-- two tests of one number against numbers that differ
crossed : {X : Type 0} (a b : Bool) (x y z : X) → (a ≡ true → b ≡ false) → cond a x (cond b y z) ≡ cond b y (cond a x z)
crossed true true x y z apart = never_both true refl (apart refl)
crossed true false x y z apart = refl
crossed false b x y z apart = refl

never : {X : Type 0} (b : Bool) → ◌≡◌ {A = Option X} (cond b None None) None
never true = refl
never false = refl

find_removed : {E : Type 0} (ws : List (Waiting E)) (i : ℕ) (d : Waiting E) (q : ℕ) → i < length ws → AreApart ws
    → find nat_cmp q (map pair (take i ws ++ drop (suc i) ws)) ≡ cond (same q (get_or ws i d).serial.n) None (find nat_cmp q (map pair ws))
find_removed [] i d q in' apart = absurd (omega (arith, in'))
find_removed (w ∷ ws) zero d q in' apart = first_gone w ws q apart.0
find_removed (w ∷ ws) (suc i) d q in' apart =
    let k = (get_or ws i d).serial.n in
    let within : i < length ws = omega (arith, in') in
    let differs : same q w.serial.n ≡ true → same q k ≡ false = λ e. ap (λ n. same n k) (ties q w.serial.n e) ∙ other w ws k apart.0 (found_at ws i d within apart.1) in
    ap (cond (same q w.serial.n) (Some (w.due, w.entry))) (find_removed ws i d q within apart.1) ∙ crossed (same q w.serial.n) (same q k) _ _ _ differs

pub apart_removed : {E : Type 0} (ws : List (Waiting E)) (i : ℕ) (d : Waiting E) → i < length ws → AreApart ws → AreApart (take i ws ++ drop (suc i) ws)
apart_removed [] i d in' apart = absurd (omega (arith, in'))
apart_removed (w ∷ ws) zero d in' apart = apart.1
apart_removed (w ∷ ws) (suc i) d in' apart =
    let within : i < length ws = omega (arith, in') in
    (find_removed ws i d w.serial.n within apart.1 ∙ ap (cond (same w.serial.n (get_or ws i d).serial.n) None) apart.0 ∙ never (same w.serial.n (get_or ws i d).serial.n), apart_removed ws i d within apart.1)

pub removed_of : {E : Type 0} (ws : List (Waiting E)) (i : ℕ) (d : Waiting E) → i < length ws → AreApart ws
    → schedule_of (take i ws ++ drop (suc i) ws) ≡ remove (schedule_of ws) (get_or ws i d).serial.n
removed_of ws i d in' apart =
    let k = (get_or ws i d).serial.n in
    same_map nat_cmp_total nat_cmp-IsAntisymmetric _ _ (λ q. get-from_entries nat_cmp_total (map pair (take i ws ++ drop (suc i) ws)) q ∙ find_removed ws i d q in' apart
    ∙ sym (get-remove nat_cmp_total (schedule_of ws) k q ∙ ap (cond (same q k) None) (get-from_entries nat_cmp_total (map pair ws) q)))

pub nothing_removed : {E : Type 0} (ws : List (Waiting E)) (k : ℕ) → find nat_cmp k (map pair ws) ≡ None → schedule_of ws ≡ remove (schedule_of ws) k
nothing_removed ws k none =
    same_map nat_cmp_total nat_cmp-IsAntisymmetric _ _ (λ q. get-from_entries nat_cmp_total (map pair ws) q ∙ gone q
    ∙ sym (get-remove nat_cmp_total (schedule_of ws) k q ∙ ap (cond (same q k) None) (get-from_entries nat_cmp_total (map pair ws) q)))
  where
    gone : (q : ℕ) → find nat_cmp q (map pair ws) ≡ cond (same q k) None (find nat_cmp q (map pair ws))
    gone q = elim (same q k) as (λ b. same q k ≡ b → find nat_cmp q (map pair ws) ≡ cond b None (find nat_cmp q (map pair ws))) [
      | true ↦ λ e. ap (λ n. find nat_cmp n (map pair ws)) (ties q k e) ∙ none
      | false ↦ λ _. refl
    ] refl

find_set : {E : Type 0} (ws : List (Waiting E)) (i : ℕ) (d v : Waiting E) (q : ℕ) → i < length ws → AreApart ws → find nat_cmp v.serial.n (map pair ws) ≡ None
    → find nat_cmp q (map pair (set ws i v)) ≡ cond (same q v.serial.n) (Some (v.due, v.entry)) (cond (same q (get_or ws i d).serial.n) None (find nat_cmp q (map pair ws)))
find_set [] i d v q in' apart fresh = absurd (omega (arith, in'))
find_set (w ∷ ws) zero d v q in' apart fresh = ap (cond (same q v.serial.n) (Some (v.due, v.entry))) (first_gone w ws q apart.0)
find_set (w ∷ ws) (suc i) d v q in' apart fresh =
    let k = (get_or ws i d).serial.n in
    let within : i < length ws = omega (arith, in') in
    let parts = nothing_first _ _ _ fresh in
    let new_differs : same q w.serial.n ≡ true → same q v.serial.n ≡ false = λ e.
    ap (λ n. same n v.serial.n) (ties q w.serial.n e) ∙ (eq_by_cmp_equiv nat_cmp_total).symm w.serial.n v.serial.n ∙ parts.0 in
    let differs : same q w.serial.n ≡ true → same q k ≡ false = λ e. ap (λ n. same n k) (ties q w.serial.n e) ∙ other w ws k apart.0 (found_at ws i d within apart.1) in
    ap (cond (same q w.serial.n) (Some (w.due, w.entry))) (find_set ws i d v q within apart.1 parts.1) ∙ crossed (same q w.serial.n) (same q v.serial.n) _ _ _ new_differs
    ∙ ap (cond (same q v.serial.n) (Some (v.due, v.entry))) (crossed (same q w.serial.n) (same q k) _ _ _ differs)

pub apart_set : {E : Type 0} (ws : List (Waiting E)) (i : ℕ) (d v : Waiting E) → i < length ws → AreApart ws → find nat_cmp v.serial.n (map pair ws) ≡ None → AreApart (set ws i v)
apart_set [] i d v in' apart fresh = absurd (omega (arith, in'))
apart_set (w ∷ ws) zero d v in' apart fresh = ((nothing_first _ _ _ fresh).1, apart.1)
apart_set (w ∷ ws) (suc i) d v in' apart fresh =
    let within : i < length ws = omega (arith, in') in
    let parts = nothing_first _ _ _ fresh in (
      find_set ws i d v w.serial.n within apart.1 parts.1 ∙ ap (λ b. cond b (Some (v.due, v.entry)) (cond (same w.serial.n (get_or ws i d).serial.n) None (find nat_cmp w.serial.n (map pair ws)))) ((eq_by_cmp_equiv nat_cmp_total).symm w.serial.n v.serial.n ∙ parts.0)
          ∙ ap (cond (same w.serial.n (get_or ws i d).serial.n) None) apart.0 ∙ never (same w.serial.n (get_or ws i d).serial.n),
      apart_set ws i d v within apart.1 parts.1,
    )

pub set_of : {E : Type 0} (ws : List (Waiting E)) (i : ℕ) (d v : Waiting E) → i < length ws → AreApart ws → find nat_cmp v.serial.n (map pair ws) ≡ None
    → schedule_of (set ws i v) ≡ insert (remove (schedule_of ws) (get_or ws i d).serial.n) v.serial.n (v.due, v.entry)
set_of ws i d v in' apart fresh =
    let k = (get_or ws i d).serial.n in
    same_map nat_cmp_total nat_cmp-IsAntisymmetric _ _ (λ q. get-from_entries nat_cmp_total (map pair (set ws i v)) q ∙ find_set ws i d v q in' apart fresh
    ∙ sym (get-insert nat_cmp_total (remove (schedule_of ws) k) v.serial.n (v.due, v.entry) q
    ∙ ap (cond (same q v.serial.n) (Some (v.due, v.entry))) (get-remove nat_cmp_total (schedule_of ws) k q ∙ ap (cond (same q k) None) (get-from_entries nat_cmp_total (map pair ws) q))))

pub got_at : {E : Type 0} (ws : List (Waiting E)) (k : ℕ) → get (schedule_of ws) k ≡ find nat_cmp k (map pair ws)
got_at ws k = get-from_entries nat_cmp_total (map pair ws) k

-- what is found behind the first is found
pub no_other : {E : Type 0} (w : Waiting E) (ws : List (Waiting E)) (k : ℕ) (P : ℕ × E → Type 0) → find nat_cmp w.serial.n (map pair ws) ≡ None
    → IsSomeAnd (find nat_cmp k (map pair ws)) P → IsSomeAnd (find nat_cmp k (map pair (w ∷ ws))) P
no_other w ws k P none is =
    elim (same k w.serial.n) as (λ b. same k w.serial.n ≡ b → IsSomeAnd (cond b (Some (w.due, w.entry)) (find nat_cmp k (map pair ws))) P) [
      | true ↦ λ e. absurd (subst (λ o. IsSomeAnd o P) (ap (λ q. find nat_cmp q (map pair ws)) (ties k w.serial.n e) ∙ none) is)
      | false ↦ λ _. is
    ] refl
