-- Each step of a turn keeps its rule and tells its seat what it says.
use Rattle.std.proofs.Common.{◌≡◌, ◌≢◌, ℕ, ◌+◌, ◌%◌, ◌^◌, ◌<◌, ◌≤◌, true, false, zero, suc, inl, inr, ⊎_elim, List, [], ◌∷◌, ◌++◌, length, get_or, set, refl, sym, ap, ◌∙◌, subst, arith, le_refl, Option, Some}
use Rattle.std.proofs.lemmas.List.{append-nil}
use Rattle.std.proofs.lemmas.List.Elements.{All-nil}
use Rattle.std.specs.List.{All}
use mathlib.Core.Logic.{dite}
use mathlib.Core.Option as core
use mathlib.Core.List.{IsPrefix}
use native.Mathlib.Decide.{ℕ_discrete}
use lib.ListN.{get_elem?}
use lib.Seq.{set-get_or}
use Rattle.std.specs.Prelude.{unwrap_or}
use Rattle.atomic_table.specs.Table.{State, Me, Step, step, keeps, takes, gives, put_back, stepped, opening, Allows}
use Rattle.atomic_table.proofs.Lists.{set_here, set_else, set_again, one_turn}
use Rattle.hilti_turn.specs.declared.view.Stage.{Stage}
use Rattle.hilti_turn.specs.declared.view.Stage.TheVariants.{Outside, Waiting, Inside, Spent}
use Rattle.hilti_turn.specs.declared.view.View.{View}
use Rattle.hilti_turn.specs.Journal.{made_by, GoesOnBy}
use Rattle.hilti_turn.specs.Rule.{has_ticket, IsTicketed, lying, taken, Stands, Remembers, Knows, IsPlaced, InTurn, first_view, waiting, within, grown, gone, claimed, looked, ComesIn, counted, released}
use Rattle.hilti_turn.proofs.Entries.{prefix_self, new_entries}
use Rattle.hilti_turn.proofs.Views.{at_length, held, held_at, tickets_out_le}
use Rattle.hilti_turn.proofs.Frames.{moves}

module _ {V E : Type 0} where
  -- the others stand where they stood when a ticket is given
  stands_claim : (given served : ℕ) (log : List E) (homes : List (core.Option (Option V))) (st : Stage) (t : ℕ) (seen : List E) → Stands given served log homes st t seen → Stands (given + 1) served log homes st t seen
  stands_claim given served log homes Outside t seen k = tt
  stands_claim given served log homes Waiting t seen k = let below = k.1 in (k.0, omega arith)
  stands_claim given served log homes Inside t seen k = let below = k.1 in (k.0, omega arith, k.2, k.3)
  stands_claim given served log homes Spent t seen k = tt

  -- and when the one whose ticket is served takes the slot, adds entries or goes
  stands_other : (given served served' : ℕ) (log log' : List E) (homes homes' : List (core.Option (Option V))) (st : Stage) (t : ℕ) (seen : List E) → served' ≤ served + 1 → (has_ticket st ≡ true → t ≢ served)
      → Stands given served log homes st t seen → Stands given served' log' homes' st t seen
  stands_other given served served' log log' homes homes' Outside t seen near apart k = tt
  stands_other given served served' log log' homes homes' Waiting t seen near apart k = let low = k.0 in let other : t ≢ served = apart refl in (omega arith, k.1)
  stands_other given served served' log log' homes homes' Inside t seen near apart k = absurd (apart refl k.0)
  stands_other given served served' log log' homes homes' Spent t seen near apart k = tt

  -- a ticket that is out was given
  under : (given served : ℕ) (log : List E) (homes : List (core.Option (Option V))) (st : Stage) (t : ℕ) (seen : List E) → has_ticket st ≡ true → Stands given served log homes st t seen → (served ≤ t) × (t < given)
  under given served log homes Outside t seen ticketed k = absurd (cc ticketed)
  under given served log homes Waiting t seen ticketed k = k
  under given served log homes Inside t seen ticketed k = let is = k.0 in (omega arith, k.1)
  under given served log homes Spent t seen ticketed k = absurd (cc ticketed)

-- what a step tells doesn't depend on its operands
abbrev any_step : {V : Type 0} → Step (Option V)
any_step = step 0 0 0 0 core.none

only : {X : Type 0} (x : X) (i : ℕ) (y : X) → get_elem? (x ∷ []) i ≡ core.some y → (i ≡ 0) × (x ≡ y)
only x zero y at = (refl, core.some-injective x y at)
only x (suc i) y at = absurd (core.some-ne-none y (sym at))

ticketed_live : {E A : Type 0} (v : View E A) → IsTicketed v → v.stage ≢ Spent
ticketed_live v ticketed is = let x : false ≡ true = ap has_ticket (sym is) ∙ ticketed in absurd (cc x)

-- a number counted on by one, modulo 2^64
counts_on : (n : ℕ) → (n % 2 ^ 64 + 1) % 2 ^ 64 ≡ (n + 1) % 2 ^ 64
counts_on n = omega arith

module _ {V E A : Type 0} (entries : V → List E) (maker : E → ℕ) (about : V → A) (topic : A) (seats : ℕ) where
  abbrev St : Type 0
  St = State (Option V) (View E A)

  abbrev M : Type 0
  M = Me (Option V) (View E A)

  abbrev Rule : St → Type 0
  Rule = InTurn entries maker about topic seats

  pub opens : (ws spots : List ℕ) (slots : List (Option V)) (x : V) → ws ≡ 0 ∷ 0 ∷ 0 ∷ spots → slots ≡ Some x ∷ [] → entries x ≡ [] → about x ≡ topic → 1 ≤ seats → seats ≤ 65 → Rule (opening ws slots (first_view topic))
  opens ws spots slots x words whole empty same one most = subst (λ l. Rule (opening ws l (first_view topic))) (sym whole) record {
    log = [];
    given = 0;
    served = 0;
    spots = spots;
    words = words;
    placed = inl (x, refl, empty, same);
    balance = refl;
    few = (one, most);
    numbered = All-nil (λ (e : E). maker e < 1);
    knows = λ i v at _. let t = only (first_view topic) i v at in
        subst (λ (z : ℕ × View E A). Knows maker topic 0 0 [] (lying (Some x)) (first_view topic ∷ []) z.0 z.1) (λ k. (sym t.0 k, t.1 k)) record {
          number = refl;
          about = refl;
          seen = ([], refl);
          mine = refl;
          heard = All-nil (Remembers maker topic [] (first_view topic ∷ []));
          made = λ _. refl;
          stands = tt;
        };
    apart = λ i j v w at here _ _ _. (only (first_view topic) i v at).0 ∙ sym (only (first_view topic) j w here).0;
  }

  -- the word that a step finds
  found_given : (s : St) (r : Rule s) → get_or s.words 0 0 ≡ r.given % 2 ^ 64
  found_given s r = ap (λ l. get_or l 0 0) r.words

  found_served : (s : St) (r : Rule s) → get_or s.words 1 0 ≡ r.served % 2 ^ 64
  found_served s r = ap (λ l. get_or l 1 0) r.words

  -- where a view that is not inside changes, the value stays where it is
  stays : (s : St) (log : List E) (ws : List ℕ) (id : ℕ) (v w : View E A) → get_elem? s.views id ≡ core.some v → v.stage ≢ Inside → IsPlaced entries maker about topic seats log s
      → IsPlaced entries maker about topic seats log record { words = ws; homes = s.homes; views = set s.views id w }
  stays s log ws id v w at out placed = ⊎_elim
      (λ (t : (x : V) × (s.homes ≡ lying (Some x)) × (entries x ≡ log) × (about x ≡ topic)). inl t)
      (λ (t : (s.homes ≡ taken) × ((holder : ℕ) × (u : View E A) × (get_elem? s.views holder ≡ core.some u) × (u.stage ≡ Inside))).
      let h = t.1 in
      let apart : h.0 ≢ id = λ same. let e : h.1 ≡ v = core.some-injective h.1 v (sym h.2 ∙ (ap (get_elem? s.views) same ∙ at)) in out (ap (λ (z : View E A). z.stage) (sym e) ∙ h.3) in
      inr (t.0, (h.0, h.1, set_else s.views id h.0 w apart ∙ h.2, h.3)))
      placed

  ticket_bounds : (s : St) (r : Rule s) (i : ℕ) (u : View E A) → get_elem? s.views i ≡ core.some u → IsTicketed u → (r.served ≤ u.ticket) × (u.ticket < r.given)
  ticket_bounds s r i u at ticketed = under r.given r.served r.log s.homes u.stage u.ticket u.seen ticketed (r.knows i u at (ticketed_live u ticketed)).stands

  pub claims : (slots id : ℕ) (me : M) → me.0.stage ≡ Outside → Allows Rule slots id me 0 (λ n. (n + 1) % 2 ^ 64) (claimed any_step me)
  claims slots id me outside s r _ at _ =
      let v : View E A = me.0 in let w : View E A = waiting v r.given in
      let live : v.stage ≢ Spent = λ e. absurd (cc (outside, e)) in
      let out : v.stage ≢ Inside = λ e. absurd (cc (outside, e)) in
      let mine = r.knows id v at live in
      let number : (get_or s.words 0 0 + 1) % 2 ^ 64 ≡ (r.given + 1) % 2 ^ 64 = ap (λ n. (n + 1) % 2 ^ 64) (found_given s r) ∙ counts_on r.given in
      let ws : List ℕ = set s.words 0 ((get_or s.words 0 0 + 1) % 2 ^ 64) in
      let none : held v ≡ 0 = ap (λ (x : Stage). held_at (has_ticket x)) outside in
      let balance = r.balance in (
        w,
        keeps,
        tt,
        moves entries maker about topic seats s r id v w ws s.homes (r.given + 1) r.served r.log [] at live (sym (append-nil r.log)) (All-nil (λ (e : E). maker e ≡ id))
            (λ k. set (r.words k) 0 (number k))
            (stays s r.log ws id v w at out r.placed)
            (omega arith)
            record { live = λ e. cc e; number = refl; about = refl; made = refl; heard = refl; mine = sym (append-nil v.mine) }
            mine.seen
            (omega arith, omega arith)
            (λ i u _ _ k. stands_claim r.given r.served r.log s.homes u.stage u.ticket u.seen k)
            (λ _ i u apart there ticketed same. let bounds = ticket_bounds s r i u there ticketed in absurd (omega arith)),
        (r.given, sym (found_given s r), refl),
      )

  -- nothing changes at a look that finds another's ticket
  looks_away : (s : St) (r : Rule s) (id : ℕ) (me : M) → get_elem? s.views id ≡ core.some me.0 → Rule (stepped s 1 (get_or s.words 1 0) id me.1 me.0 keeps)
  looks_away s r id me at = subst Rule (λ k. record { words = sym (set-get_or s.words 1 0) k; homes = s.homes; views = sym (set_again s.views id me.0 at) k }) r

  -- no other seat has the ticket that is served
  served_once : (s : St) (r : Rule s) (id : ℕ) (v : View E A) → get_elem? s.views id ≡ core.some v → IsTicketed v → v.ticket ≡ r.served
      → (i : ℕ) (u : View E A) → i ≢ id → get_elem? s.views i ≡ core.some u → IsTicketed u → u.ticket ≢ r.served
  served_once s r id v at ticketed is i u apart there ticketed' same = apart (r.apart i id u v there at ticketed' ticketed (same ∙ sym is))

  comes_in : (slots id : ℕ) (me : M) (s : St) (r : Rule s) → me.0.stage ≡ Waiting → get_elem? s.views id ≡ core.some me.0 → me.0.ticket ≡ r.served
      → (x : V) → s.homes ≡ lying (Some x) → entries x ≡ r.log → about x ≡ topic
      → Rule (stepped s 1 (get_or s.words 1 0) id me.1 (within me.0 (entries x)) (takes 0 (Some x))) × ComesIn entries maker about me (within me.0 (entries x), (0, Some x) ∷ me.1)
  comes_in slots id me s r waits at is x home whole same =
      let v : View E A = me.0 in let w : View E A = within v (entries x) in
      let live : v.stage ≢ Spent = λ e. absurd (cc (waits, e)) in
      let ticketed : IsTicketed v = ap has_ticket waits in
      let mine = r.knows id v at live in
      let bounds = ticket_bounds s r id v at ticketed in
      let one : held v ≡ 1 = ap (λ (z : Stage). held_at (has_ticket z)) waits in
      let away : set s.homes 0 core.none ≡ taken = ap (λ h. set h 0 core.none) home in (
        moves entries maker about topic seats s r id v w (set s.words 1 (get_or s.words 1 0)) (set s.homes 0 core.none) r.given r.served r.log [] at live (sym (append-nil r.log)) (All-nil (λ (e : E). maker e ≡ id))
            (λ k. set (r.words k) 1 (found_served s r k))
            (inr (away, (id, w, set_here s.views id w (at_length s.views id v at), refl)))
            (omega arith)
            record { live = λ e. cc e; number = refl; about = refl; made = refl; heard = refl; mine = sym (append-nil v.mine) }
            (subst (λ l. IsPrefix l r.log) (sym whole) (prefix_self r.log))
            (is, bounds.1, whole, away)
            (λ i u apart there k. stands_other r.given r.served r.served r.log r.log s.homes (set s.homes 0 core.none) u.stage u.ticket u.seen (omega arith) (served_once s r id v at ticketed is i u apart there) k)
            (λ _ i u apart there ticketed' same'. served_once s r id v at ticketed is i u apart there ticketed' (same' ∙ is)),
        (
          x,
          refl,
          subst (IsPrefix v.seen) (sym whole) mine.seen,
          (λ k. made_by maker (mine.number k) (whole k)) ∙ mine.mine,
          mine.about ∙ ap Some (sym same),
        ),
      )

  -- nobody is inside while a waiting ticket is served
  nobody_inside : (s : St) (r : Rule s) (id : ℕ) (v : View E A) → v.stage ≡ Waiting → get_elem? s.views id ≡ core.some v → v.ticket ≡ r.served → (h : ℕ) (u : View E A) → get_elem? s.views h ≡ core.some u → u.stage ≡ Inside → ⊥
  nobody_inside s r id v waits at is h u there inside =
      let known = r.knows h u there (λ e. absurd (cc (inside, e))) in
      let stands = subst (λ z. Stands r.given r.served r.log s.homes z u.ticket u.seen) inside known.stands in
      let same : h ≡ id = r.apart h id u v there at (ap has_ticket inside) (ap has_ticket waits) (stands.0 ∙ sym is) in
      let e : u ≡ v = core.some-injective u v (sym there ∙ (ap (get_elem? s.views) same ∙ at)) in
      let clash : Inside ≡ Waiting = sym inside ∙ (ap (λ (z : View E A). z.stage) e ∙ waits) in cc clash

  pub looks : (slots id : ℕ) (me : M) → me.0.stage ≡ Waiting → Allows Rule slots id me 1 (λ n. n) (looked entries maker about any_step me)
  looks slots id me waits s r _ at _ = dite (ℕ_discrete (me.0.ticket % 2 ^ 64) (get_or s.words 1 0))
      (λ found.
      let ticketed : IsTicketed me.0 = ap has_ticket waits in
      let bounds = ticket_bounds s r id me.0 at ticketed in
      let balance = r.balance in let out = tickets_out_le s.views in let few = r.few in
      let is : r.served ≡ me.0.ticket = one_turn r.served me.0.ticket (2 ^ 64) bounds.0 (omega arith) (sym (found_served s r) ∙ sym found) in
      ⊎_elim
      (λ (t : (x : V) × (s.homes ≡ lying (Some x)) × (entries x ≡ r.log) × (about x ≡ topic)).
      let both = comes_in slots id me s r waits at (sym is) t.0 t.1 t.2 t.3 in (
        within me.0 (entries t.0),
        takes 0 (Some t.0),
        ap (λ h. get_elem? h 0) t.1,
        both.0,
        (λ _. both.1, λ other. absurd (other found)),
      ))
      (λ (t : (s.homes ≡ taken) × ((holder : ℕ) × (u : View E A) × (get_elem? s.views holder ≡ core.some u) × (u.stage ≡ Inside))).
      absurd (nobody_inside s r id me.0 waits at (sym is) t.1.0 t.1.1 t.1.2 t.1.3))
      r.placed)
      (λ other. (me.0, keeps, tt, looks_away s r id me at, (λ found. absurd (other found), λ _. refl)))

  abbrev value_or : V → List (ℕ × Option V) → V
  value_or d [] = d
  value_or d (x ∷ xs) = unwrap_or x.1 d

  pub counts : (slots id : ℕ) (me : M) (x : V) (n : ℕ) → me.0.stage ≡ Inside → me.1 ≡ (0, Some x) ∷ [] → GoesOnBy maker me.0.number me.0.seen (entries x) → n ≡ length (entries x)
      → Allows Rule slots id me 2 (λ _. n) (counted entries any_step me)
  counts slots id me x n inside holds grows is s r _ at _ =
      let v : View E A = me.0 in let w : View E A = grown v (entries x) in
      let live : v.stage ≢ Spent = λ e. absurd (cc (inside, e)) in
      let ticketed : IsTicketed v = ap has_ticket inside in
      let mine = r.knows id v at live in
      let stands = subst (λ z. Stands r.given r.served r.log s.homes z v.ticket v.seen) inside mine.stands in
      let one : held v ≡ 1 = ap (λ (z : Stage). held_at (has_ticket z)) inside in
      let more : List E = grows.0 in
      let log : entries x ≡ r.log ++ more = grows.1 ∙ ap (λ l. l ++ more) stands.2 in (
        w,
        keeps,
        tt,
        moves entries maker about topic seats s r id v w (set s.words 2 n) s.homes r.given r.served (entries x) more at live log (subst (λ z. All (λ (e : E). maker e ≡ z) more) mine.number grows.2)
            (λ k. set (r.words k) 2 (is k))
            (inr (stands.3, (id, w, set_here s.views id w (at_length s.views id v at), refl)))
            (omega arith)
            record { live = λ e. cc e; number = refl; about = refl; made = refl; heard = refl; mine = ap (λ l. v.mine ++ l) (new_entries v.seen more (entries x) grows.1) }
            (prefix_self (entries x))
            (stands.0, stands.1, refl, stands.3)
            (λ i u apart there k. stands_other r.given r.served r.served r.log (entries x) s.homes s.homes u.stage u.ticket u.seen (omega arith) (served_once s r id v at ticketed stands.0 i u apart there) k)
            (λ _ i u apart there ticketed' same. served_once s r id v at ticketed stands.0 i u apart there ticketed' (same ∙ stands.0)),
        λ y holds'. let same : x ≡ y = ap (value_or x) (sym holds ∙ holds') in λ k. (grown v (entries (same k)), me.1),
      )

  pub releases : (slots id : ℕ) (me : M) (x : V) → me.0.stage ≡ Inside → me.1 ≡ (0, Some x) ∷ [] → entries x ≡ me.0.seen → me.0.about ≡ Some (about x)
      → Allows Rule slots id me 1 (λ n. (n + 1) % 2 ^ 64) (released any_step me)
  releases slots id me x inside holds whole same s r _ at _ =
      let v : View E A = me.0 in let w : View E A = gone v in
      let live : v.stage ≢ Spent = λ e. absurd (cc (inside, e)) in
      let ticketed : IsTicketed v = ap has_ticket inside in
      let mine = r.knows id v at live in
      let stands = subst (λ z. Stands r.given r.served r.log s.homes z v.ticket v.seen) inside mine.stands in
      let one : held v ≡ 1 = ap (λ (z : Stage). held_at (has_ticket z)) inside in
      let number : (get_or s.words 1 0 + 1) % 2 ^ 64 ≡ (r.served + 1) % 2 ^ 64 = ap (λ n. (n + 1) % 2 ^ 64) (found_served s r) ∙ counts_on r.served in
      let topics : Some (about x) ≡ Some topic = sym same ∙ mine.about in
      let homes : put_back s.homes me.1 ≡ lying (Some x) = λ k. put_back (stands.3 k) (holds k) in (
        w,
        gives,
        tt,
        moves entries maker about topic seats s r id v w (set s.words 1 ((get_or s.words 1 0 + 1) % 2 ^ 64)) (put_back s.homes me.1) r.given (r.served + 1) r.log [] at live (sym (append-nil r.log)) (All-nil (λ (e : E). maker e ≡ id))
            (λ k. set (r.words k) 1 (number k))
            (inl (x, homes, whole ∙ stands.2, cc topics))
            (omega arith)
            record { live = λ e. cc e; number = refl; about = refl; made = refl; heard = refl; mine = sym (append-nil v.mine) }
            mine.seen
            tt
            (λ i u apart there k. stands_other r.given r.served (r.served + 1) r.log r.log s.homes (put_back s.homes me.1) u.stage u.ticket u.seen (le_refl (r.served + 1)) (served_once s r id v at ticketed stands.0 i u apart there) k)
            (λ none. absurd (cc none)),
        refl,
      )
