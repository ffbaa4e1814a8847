-- When the rule of a turn holds again after a step of one seat.
use Rattle.std.proofs.Common.{◌≡◌, ◌≢◌, ℕ, ◌+◌, ◌%◌, ◌^◌, ◌<◌, ◌≤◌, true, false, zero, suc, ◌⊎◌, inl, inr, ⊎_elim, List, [], ◌∷◌, ◌++◌, length, set, refl, sym, ap, ◌∙◌, subst, arith, length-set, length-append, Option, Some}
use Rattle.std.proofs.lemmas.List.Elements.{All-weaker, All-append, All-nil, All-cons}
use Rattle.std.specs.List.{All}
use mathlib.Core.Option as core
use mathlib.Core.List.{IsPrefix}
use lib.ListN.{get_elem?}
use Rattle.atomic_table.specs.Table.{State, Splits, Joins}
use Rattle.atomic_table.proofs.Lists.{at_set, set_else, set_here, at_longer}
use Rattle.hilti_turn.specs.declared.view.Stage.TheVariants.{Outside, Inside, Spent}
use Rattle.hilti_turn.specs.declared.view.Heard.{Heard}
use Rattle.hilti_turn.specs.declared.view.View.{View}
use Rattle.hilti_turn.specs.Journal.{made_by}
use Rattle.hilti_turn.specs.Rule.{has_ticket, IsTicketed, tickets_out, lying, taken, Stands, Remembers, Knows, IsPlaced, InTurn, one_more, newcomer, told_of, joined, spent}
use Rattle.hilti_turn.proofs.Entries.{prefix_longer, made_by-other, made_by-longer, made_by-none}
use Rattle.hilti_turn.proofs.Views.{at_length, held, held_at, tickets_out-set, tickets_out_push}

module _ {X : Type 0} where
  -- what stands in a list one longer stands in the list, or is the last
  pub at_push : (xs : List X) (y z : X) (i : ℕ) → get_elem? (xs ++ y ∷ []) i ≡ core.some z → (get_elem? xs i ≡ core.some z) ⊎ ((i ≡ length xs) × (y ≡ z))
  at_push [] y z zero at = inr (refl, core.some-injective y z at)
  at_push [] y z (suc i) at = absurd (core.some-ne-none z (sym at))
  at_push (x ∷ xs) y z zero at = inl at
  at_push (x ∷ xs) y z (suc i) at = ⊎_elim (λ t. inl t) (λ t. inr (ap suc t.0, t.1)) (at_push xs y z i at)

module _ {E A : Type 0} (maker : E → ℕ) (topic : A) where
  remembers_on : (log log' more : List E) (views : List (View E A)) (id : ℕ) (v w : View E A) → log' ≡ log ++ more → All (λ e. maker e ≡ id) more → get_elem? views id ≡ core.some v → v.stage ≢ Spent
      → (h : Heard E A) → Remembers maker topic log views h → Remembers maker topic log' (set views id w) h
  remembers_on log log' more views id v w is own at live h known =
      let apart : h.number ≢ id = λ same.
      let here : v ≡ known.3.0 = core.some-injective v known.3.0 (sym at ∙ (ap (get_elem? views) (sym same) ∙ known.3.1)) in
      live (ap (λ (z : View E A). z.stage) here ∙ known.3.2) in
      subst (λ l. Remembers maker topic l (set views id w) h) (sym is) (
        prefix_longer h.seen log more known.0,
        made_by-other maker id h.number log more apart own ∙ known.1,
        known.2,
        (known.3.0, set_else views id h.number w apart ∙ known.3.1, known.3.2),
      )

module _ {V E A : Type 0} (maker : E → ℕ) (topic : A) where
  knows_on : (given served given' served' : ℕ) (log log' more : List E) (homes homes' : List (core.Option (Option V))) (views : List (View E A)) (id : ℕ) (v w : View E A)
      → log' ≡ log ++ more → All (λ e. maker e ≡ id) more → get_elem? views id ≡ core.some v → v.stage ≢ Spent
      → (i : ℕ) (u : View E A) → i ≢ id → Stands given' served' log' homes' u.stage u.ticket u.seen
      → Knows maker topic given served log homes views i u → Knows maker topic given' served' log' homes' (set views id w) i u
  knows_on given served given' served' log log' more homes homes' views id v w is own at live i u apart stands known = record {
    number = known.number;
    about = known.about;
    seen = subst (IsPrefix u.seen) (sym is) (prefix_longer u.seen log more known.seen);
    mine = ap (made_by maker i) is ∙ (made_by-other maker id i log more apart own ∙ known.mine);
    heard = All-weaker (Remembers maker topic log views) (Remembers maker topic log' (set views id w)) (remembers_on maker topic log log' more views id v w is own at live) u.heard known.heard;
    made = λ zero. known.made zero ∙ sym (length-set views id w);
    stands = stands;
  }

-- what a step changes in a view, and what it leaves
pub record Follows {E A : Type 0} (v w : View E A) (more : List E) : Type 0 where
  pub live : w.stage ≢ Spent
  pub number : w.number ≡ v.number
  pub about : w.about ≡ v.about
  pub made : w.made ≡ v.made
  pub heard : w.heard ≡ v.heard
  pub mine : w.mine ≡ v.mine ++ more

module _ {V E A : Type 0} (entries : V → List E) (maker : E → ℕ) (about : V → A) (topic : A) (seats : ℕ) where
  abbrev St : Type 0
  St = State (Option V) (View E A)

  abbrev Rule : St → Type 0
  Rule = InTurn entries maker about topic seats

  -- the rule holds again where one seat's view becomes w, the journal grows by its entries alone, and the others stand where they stood
  pub moves : (s : St) (r : Rule s) (id : ℕ) (v w : View E A) (ws : List ℕ) (homes : List (core.Option (Option V))) (given served : ℕ) (log more : List E)
      → get_elem? s.views id ≡ core.some v → v.stage ≢ Spent → log ≡ r.log ++ more → All (λ e. maker e ≡ id) more
      → ws ≡ given % 2 ^ 64 ∷ served % 2 ^ 64 ∷ length log ∷ r.spots
      → IsPlaced entries maker about topic seats log record { words = ws; homes = homes; views = set s.views id w }
      → held w + served + r.given ≡ held v + r.served + given
      → Follows v w more → IsPrefix w.seen log → Stands given served log homes w.stage w.ticket w.seen
      → ((i : ℕ) (u : View E A) → i ≢ id → get_elem? s.views i ≡ core.some u → Stands r.given r.served r.log s.homes u.stage u.ticket u.seen → Stands given served log homes u.stage u.ticket u.seen)
      → (IsTicketed w → (i : ℕ) (u : View E A) → i ≢ id → get_elem? s.views i ≡ core.some u → IsTicketed u → u.ticket ≢ w.ticket)
      → Rule record { words = ws; homes = homes; views = set s.views id w }
  moves s r id v w ws homes given served log more at live is own words placed balance follows seen stands others apart = let mine = r.knows id v at live in record {
    log = log;
    given = given;
    served = served;
    spots = r.spots;
    words = words;
    placed = placed;
    balance = let out = tickets_out-set s.views id v w at in let before = r.balance in omega arith;
    few = (let same = length-set s.views id w in let few = r.few in omega arith, r.few.1);
    numbered =
        let n : ℕ = length s.views in let inside = at_length s.views id v at in
        subst (λ (z : ℕ × List E). All (λ (e : E). maker e < z.0) z.1) (λ k. (sym (length-set s.views id w) k, sym is k))
        (All-append (λ (e : E). maker e < n) r.log more r.numbered (All-weaker (λ (e : E). maker e ≡ id) (λ (e : E). maker e < n) (λ e by. omega arith) more own));
    knows = λ i u there alive. ⊎_elim
        (λ (t : (i ≡ id) × (w ≡ u)). subst (λ (z : ℕ × View E A). Knows maker topic given served log homes (set s.views id w) z.0 z.1) (λ k. (sym t.0 k, t.1 k)) record {
          number = follows.number ∙ mine.number;
          about = follows.about ∙ mine.about;
          seen = seen;
          mine = ap (made_by maker id) is ∙ (made_by-longer maker id r.log more own ∙ (ap (λ zs. zs ++ more) mine.mine ∙ sym follows.mine));
          heard = subst (All (Remembers maker topic log (set s.views id w))) (sym follows.heard)
              (All-weaker (Remembers maker topic r.log s.views) (Remembers maker topic log (set s.views id w)) (remembers_on maker topic r.log log more s.views id v w is own at live) v.heard mine.heard);
          made = λ root. follows.made ∙ (mine.made root ∙ sym (length-set s.views id w));
          stands = stands;
        })
        (λ (t : (i ≢ id) × (get_elem? s.views i ≡ core.some u)). let known = r.knows i u t.1 alive in
        knows_on maker topic r.given r.served given served r.log log more s.homes homes s.views id v w is own at live i u t.0 (others i u t.0 t.1 known.stands) known)
        (at_set s.views id i w u there);
    apart = λ i j a b there here ta tb same. ⊎_elim
        (λ (t : (i ≡ id) × (w ≡ a)). ⊎_elim
        (λ (q : (j ≡ id) × (w ≡ b)). t.0 ∙ sym q.0)
        (λ (q : (j ≢ id) × (get_elem? s.views j ≡ core.some b)). absurd (apart (subst IsTicketed (sym t.1) ta) j b q.0 q.1 tb (sym same ∙ ap (λ (z : View E A). z.ticket) (sym t.1))))
        (at_set s.views id j w b here))
        (λ (t : (i ≢ id) × (get_elem? s.views i ≡ core.some a)). ⊎_elim
        (λ (q : (j ≡ id) × (w ≡ b)). absurd (apart (subst IsTicketed (sym q.1) tb) i a t.0 t.1 ta (same ∙ ap (λ (z : View E A). z.ticket) (sym q.1))))
        (λ (q : (j ≢ id) × (get_elem? s.views j ≡ core.some b)). r.apart i j a b t.1 q.1 ta tb same)
        (at_set s.views id j w b here))
        (at_set s.views id i w a there);
  }

  -- the rule holds again where only seats outside have come, gone or changed
  pub regroups : (s : St) (r : Rule s) (views : List (View E A)) → tickets_out views ≡ tickets_out s.views → length s.views ≤ length views → length views ≤ seats
      → ((n : ℕ) (x : View E A) → get_elem? s.views n ≡ core.some x → x.stage ≢ Outside → get_elem? views n ≡ core.some x)
      → ((n : ℕ) (x : View E A) → get_elem? views n ≡ core.some x → IsTicketed x → get_elem? s.views n ≡ core.some x)
      → ((seat : ℕ) (v : View E A) → get_elem? views seat ≡ core.some v → v.stage ≢ Spent → Knows maker topic r.given r.served r.log s.homes views seat v)
      → Rule record { words = s.words; homes = s.homes; views = views }
  regroups s r views tickets longer few keeps olds knows = record {
    log = r.log;
    given = r.given;
    served = r.served;
    spots = r.spots;
    words = r.words;
    placed = ⊎_elim
        (λ (t : (x : V) × (s.homes ≡ lying (Some x)) × (entries x ≡ r.log) × (about x ≡ topic)). inl t)
        (λ (t : (s.homes ≡ taken) × ((holder : ℕ) × (v : View E A) × (get_elem? s.views holder ≡ core.some v) × (v.stage ≡ Inside))).
        let out = t.1 in inr (t.0, (out.0, out.1, keeps out.0 out.1 out.2 (λ e. absurd (cc (out.3, e))), out.3)))
        r.placed;
    balance = let b = r.balance in omega arith;
    few = (few, r.few.1);
    numbered = All-weaker (λ (e : E). maker e < length s.views) (λ (e : E). maker e < length views) (λ e lt. omega arith) r.log r.numbered;
    knows = knows;
    apart = λ i j a b there here ta tb same. r.apart i j a b (olds i a there ta) (olds j b here tb) ta tb same;
  }

  remembers_kept : (log : List E) (views views' : List (View E A)) → ((n : ℕ) (x : View E A) → get_elem? views n ≡ core.some x → x.stage ≢ Outside → get_elem? views' n ≡ core.some x)
      → (h : Heard E A) → Remembers maker topic log views h → Remembers maker topic log views' h
  remembers_kept log views views' keeps h known = (known.0, known.1, known.2, (known.3.0, keeps h.number known.3.0 known.3.1 (λ e. absurd (cc (known.3.2, e))), known.3.2))

  not_ticketed : (v : View E A) → v.stage ≡ Outside → ¬ (IsTicketed v)
  not_ticketed v outside ticketed = let e : false ≡ true = ap has_ticket (sym outside) ∙ ticketed in absurd (cc e)

  -- seat 0 makes one seat more
  pub splits : (id : ℕ) (v : View E A) → v.number ≡ 0 → v.stage ≡ Outside → v.made < seats → Splits Rule id v (one_more v) (newcomer v)
  splits id v root outside room s r at =
      let live : v.stage ≢ Spent = λ e. absurd (cc (outside, e)) in
      let mine = r.knows id v at live in
      let zero : id ≡ 0 = sym mine.number ∙ root in
      let made : v.made ≡ length s.views = mine.made zero in
      let front : List (View E A) = set s.views id (one_more v) in
      let views : List (View E A) = front ++ newcomer v ∷ [] in
      let front_long : length front ≡ length s.views = length-set s.views id (one_more v) in
      let long : length views ≡ length s.views + 1 = length-append front (newcomer v ∷ []) ∙ ap (λ n. n + 1) front_long in
      let keeps : (n : ℕ) (x : View E A) → get_elem? s.views n ≡ core.some x → x.stage ≢ Outside → get_elem? views n ≡ core.some x = λ n x there busy.
      let apart : n ≢ id = λ same. let e : x ≡ v = core.some-injective x v (sym there ∙ (ap (get_elem? s.views) same ∙ at)) in busy (ap (λ (z : View E A). z.stage) e ∙ outside) in
      at_longer front (newcomer v ∷ []) n x (set_else s.views id n (one_more v) apart ∙ there) in
      let hears : (u : View E A) → All (Remembers maker topic r.log s.views) u.heard → All (Remembers maker topic r.log views) u.heard = λ u. All-weaker (Remembers maker topic r.log s.views) (Remembers maker topic r.log views) (remembers_kept r.log s.views views keeps) u.heard in
      regroups s r views
      (tickets_out_push front (newcomer v) ∙ (let t = tickets_out-set s.views id v (one_more v) at in omega arith))
      (omega arith)
      (omega arith)
      keeps
      (λ n x there ticketed. ⊎_elim
      (λ (t : get_elem? front n ≡ core.some x). ⊎_elim
      (λ (q : (n ≡ id) × (one_more v ≡ x)). absurd (not_ticketed (one_more v) outside (subst IsTicketed (sym q.1) ticketed)))
      (λ (q : (n ≢ id) × (get_elem? s.views n ≡ core.some x)). q.1)
      (at_set s.views id n (one_more v) x t))
      (λ (t : (n ≡ length front) × (newcomer v ≡ x)). absurd (not_ticketed (newcomer v) refl (subst IsTicketed (sym t.1) ticketed)))
      (at_push front (newcomer v) x n there))
      (λ i u there alive. ⊎_elim
      (λ (t : get_elem? front i ≡ core.some u). ⊎_elim
      (λ (q : (i ≡ id) × (one_more v ≡ u)). subst (λ (z : ℕ × View E A). Knows maker topic r.given r.served r.log s.homes views z.0 z.1) (λ k. (sym q.0 k, q.1 k)) record {
        number = mine.number;
        about = mine.about;
        seen = mine.seen;
        mine = mine.mine;
        heard = hears v mine.heard;
        made = λ _. ap (λ n. n + 1) made ∙ sym long;
        stands = mine.stands;
      })
      (λ (q : (i ≢ id) × (get_elem? s.views i ≡ core.some u)). let known = r.knows i u q.1 alive in record {
        number = known.number;
        about = known.about;
        seen = known.seen;
        mine = known.mine;
        heard = hears u known.heard;
        made = λ root. absurd (q.0 (root ∙ sym zero));
        stands = known.stands;
      })
      (at_set s.views id i (one_more v) u t))
      (λ (t : (i ≡ length front) × (newcomer v ≡ u)). subst (λ (z : ℕ × View E A). Knows maker topic r.given r.served r.log s.homes views z.0 z.1) (λ k. (sym t.0 k, t.1 k)) record {
        number = made ∙ sym front_long;
        about = mine.about;
        seen = (r.log, refl);
        mine = made_by-none maker (length front) r.log (subst (λ n. All (λ (e : E). maker e < n) r.log) (sym front_long) r.numbered);
        heard = All-nil (Remembers maker topic r.log views);
        made = λ root. let inside = at_length s.views id v at in absurd (omega arith);
        stands = tt;
      })
      (at_push front (newcomer v) u i there))

  -- one seat takes over what another knew
  pub joins : (id : ℕ) (v : View E A) (other : ℕ) (w : View E A) → v.stage ≡ Outside → w.stage ≡ Outside → Joins Rule id v other w (joined v w) spent
  joins id v other w outside outside' s r at apart at' =
      let live : v.stage ≢ Spent = λ e. absurd (cc (outside, e)) in
      let live' : w.stage ≢ Spent = λ e. absurd (cc (outside', e)) in
      let there' : get_elem? s.views other ≡ core.some w = sym (set_else s.views id other (joined v w) apart) ∙ at' in
      let mine = r.knows id v at live in
      let theirs = r.knows other w there' live' in
      let front : List (View E A) = set s.views id (joined v w) in
      let views : List (View E A) = set front other spent in
      let front_long : length front ≡ length s.views = length-set s.views id (joined v w) in
      let long : length views ≡ length s.views = length-set front other spent ∙ front_long in
      let keeps : (n : ℕ) (x : View E A) → get_elem? s.views n ≡ core.some x → x.stage ≢ Outside → get_elem? views n ≡ core.some x = λ n x there busy.
      let not_id : n ≢ id = λ same. let e : x ≡ v = core.some-injective x v (sym there ∙ (ap (get_elem? s.views) same ∙ at)) in busy (ap (λ (z : View E A). z.stage) e ∙ outside) in
      let not_other : n ≢ other = λ same. let e : x ≡ w = core.some-injective x w (sym there ∙ (ap (get_elem? s.views) same ∙ there')) in busy (ap (λ (z : View E A). z.stage) e ∙ outside') in
      set_else front other n spent not_other ∙ (set_else s.views id n (joined v w) not_id ∙ there) in
      let hears : (hs : List (Heard E A)) → All (Remembers maker topic r.log s.views) hs → All (Remembers maker topic r.log views) hs = λ hs. All-weaker (Remembers maker topic r.log s.views) (Remembers maker topic r.log views) (remembers_kept r.log s.views views keeps) hs in
      let same_number : w.number ≡ other = theirs.number in
      let first : Heard E A = told_of w in
      let remembered : Remembers maker topic r.log views first = (
        theirs.seen,
        ap (λ n. made_by maker n r.log) same_number ∙ theirs.mine,
        theirs.about,
        (spent, ap (get_elem? views) same_number ∙ set_here front other spent (let inside = at_length front other w at' in inside), refl),
      ) in
      regroups s r views
      (let one = tickets_out-set s.views id v (joined v w) at in let two = tickets_out-set front other w spent at' in let none : held w ≡ 0 = ap (λ st. held_at (has_ticket st)) outside' in omega arith)
      (omega arith)
      (let few = r.few in omega arith)
      keeps
      (λ n x there ticketed. ⊎_elim
      (λ (t : (n ≡ other) × (spent ≡ x)). absurd (let e : false ≡ true = subst IsTicketed (sym t.1) ticketed in cc e))
      (λ (t : (n ≢ other) × (get_elem? front n ≡ core.some x)). ⊎_elim
      (λ (q : (n ≡ id) × (joined v w ≡ x)). absurd (not_ticketed (joined v w) outside (subst IsTicketed (sym q.1) ticketed)))
      (λ (q : (n ≢ id) × (get_elem? s.views n ≡ core.some x)). q.1)
      (at_set s.views id n (joined v w) x t.1))
      (at_set front other n spent x there))
      (λ i u there alive. ⊎_elim
      (λ (t : (i ≡ other) × (spent ≡ u)). absurd (alive (ap (λ (z : View E A). z.stage) (sym t.1))))
      (λ (t : (i ≢ other) × (get_elem? front i ≡ core.some u)). ⊎_elim
      (λ (q : (i ≡ id) × (joined v w ≡ u)). subst (λ (z : ℕ × View E A). Knows maker topic r.given r.served r.log s.homes views z.0 z.1) (λ k. (sym q.0 k, q.1 k)) record {
        number = mine.number;
        about = mine.about;
        seen = mine.seen;
        mine = mine.mine;
        heard = All-cons (Remembers maker topic r.log views) first (w.heard ++ v.heard) remembered (All-append (Remembers maker topic r.log views) w.heard v.heard (hears w.heard theirs.heard) (hears v.heard mine.heard));
        made = λ root. mine.made root ∙ sym long;
        stands = mine.stands;
      })
      (λ (q : (i ≢ id) × (get_elem? s.views i ≡ core.some u)). let known = r.knows i u q.1 alive in record {
        number = known.number;
        about = known.about;
        seen = known.seen;
        mine = known.mine;
        heard = hears u.heard known.heard;
        made = λ root. known.made root ∙ sym long;
        stands = known.stands;
      })
      (at_set s.views id i (joined v w) u t.1))
      (at_set front other i spent u there))
