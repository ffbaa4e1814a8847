-- The order of one worker goes on to an end.
use Rattle.std.proofs.Common.{◌≡◌, ℕ, ◌+◌, ◌<◌, ◌≤◌, zero, suc, Bool, true, false, List, [], ◌∷◌, ◌++◌, length, drop, Option, Some, None, refl, ap, sym, ◌∙◌, subst, arith, append_assoc, eqb, ltb, ◌⊎◌, inl, inr}
use Rattle.std.specs.Prelude.{nat_lt}
use Rattle.std.specs.List.{All}
use Rattle.std.proofs.lemmas.List.{append-nil, length_push}
use Rattle.std.proofs.lemmas.Bool.{eqb-true, eq-eqb}
use Rattle.std.proofs.lemmas.Bool.Decides.{nat_tests}
use Rattle.hilti_base.specs.declared.names.ThreadId.{ThreadId}
use Rattle.hilti_tree.specs.declared.call.Call.{Call}
use Rattle.hilti_core.specs.declared.pieces.Segment.{Segment}
use Rattle.hilti_core.specs.declared.event.Event.{Event}
use Rattle.hilti_core.specs.declared.event.Event.TheVariants.{Feed, Take, Put}
use Rattle.hilti_core.specs.Sending.{Effect}
use Rattle.hilti_core.specs.Core.{Running, Resident, Core, goes_on, begins, comes_home, after_segment, left, left_of, take_by, feed, step, play, core}
use Rattle.hilti_core.specs.Body.{HasSegments}
use Rattle.hilti_core.specs.Schedule.{NoneSuspended, IsLeastSuspended, IsFirstPosted, ArrivedFirst, NobodyArrived, OneByOne, OneByOne.Feeding, OneByOne.Turn, IsOver, GoesToEnd, ReachesEnd}
use Rattle.hilti_core.proofs.Lists.{put_cases, drop_next}
use Rattle.hilti_core.proofs.Moves.{Moves, Moves.Goes, Moves.Starts, Moves.Home, moves, fed_core}
use Rattle.hilti_core.proofs.Kept.{kept}
use Rattle.hilti_core.proofs.Journals.{core_next, core_more}
use Rattle.hilti_core.proofs.UnderWay.{under_way}
use Rattle.hilti_core.proofs.Schedule.{InTurn, Between, nothing_runs, between, taken, is_busy, put_here, put_apart, first_of}

-- no thread has more segments left than this
abbrev LeftMost : Effect → ℕ → Core → Type 0
LeftMost effect most c = (x : ℕ) → length (left effect x (c.thread x)) ≤ most

-- one segment less is left
after_left : (effect : Effect) (r : ℕ) (t : Resident) (running : Running) (segment : Segment) (rest : List Segment) →
    drop running.given (effect r t.finished running.call) ≡ segment ∷ rest → left effect r (after_segment t running segment rest) ≡ rest
after_left effect r t running segment [] e = refl
after_left effect r t running segment (x ∷ more) e = drop_next running.given (effect r t.finished running.call) segment (x ∷ more) e

module _ (effect : Effect) (calls : List Call) (limit : ℕ) where
  -- of one busy thread the segments left have a most
  some_most : (c : Core) → InTurn effect calls c → (most : ℕ) × LeftMost effect most c
  some_most c h = (length (left effect h.busy (c.thread h.busy)), λ x. go x (eqb x h.busy) refl)
    where
      idle : (x : ℕ) → (c.thread x).running ≡ None → length (left effect x (c.thread x)) ≡ 0
      idle x e = ap (λ o. length (left_of effect x (c.thread x).finished o)) e

      go : (x : ℕ) (b : Bool) → eqb x h.busy ≡ b → length (left effect x (c.thread x)) ≤ length (left effect h.busy (c.thread h.busy))
      go x true e = let k : length (left effect x (c.thread x)) ≡ length (left effect h.busy (c.thread h.busy)) = ap (λ y. length (left effect y (c.thread y))) (eqb-true x h.busy e) in omega (arith, k)
      go x false e = let k = idle x (h.others x (λ is. let l : true ≡ false = sym (eq-eqb x h.busy is) ∙ e in cc)) in omega (arith, k)

  -- what a put leaves: as many starts, nothing unfed, and one segment less
  record Less (b d : Core) : Type 0 where
    unfed : d.unfed ≡ b.unfed
    started : length d.started ≡ length b.started
    less : (most : ℕ) → LeftMost effect most b → (x : ℕ) → length (left effect x (d.thread x)) < most

  put_less : (b d : Core) (event : Event) (worker : ℕ) → event ≡ Put worker → Moves effect limit b d event → InTurn effect calls b → Less b d
  put_less b d event worker is_put move h = go event is_put move
    where
      idle : (x : ℕ) → (b.thread x).running ≡ None → length (left effect x (b.thread x)) ≡ 0
      idle x e = ap (λ o. length (left_of effect x (b.thread x).finished o)) e

      home : (w r : ℕ) (running : Running) (segment : Segment) (rest : List Segment) → (b.thread r).running ≡ Some running →
          drop running.given (effect r (b.thread r).finished running.call) ≡ segment ∷ rest → Less b (comes_home w r running segment rest b)
      home w r running segment rest runs cut =
          let some : length (left effect r (b.thread r)) ≡ suc (length rest) = ap length (ap (left_of effect r (b.thread r).finished) runs ∙ cut) in
          let then : length (left effect r (after_segment (b.thread r) running segment rest)) ≡ length rest = ap length (after_left effect r (b.thread r) running segment rest cut) in
          record {
            unfed = refl;
            started = refl;
            less = λ most bound. let low = bound r in put_apart (λ x t. length (left effect x t) < most) b.thread r (after_segment (b.thread r) running segment rest) (omega (arith, low, some, then))
                (λ x other. let none = idle x (h.others x (λ is. other (is ∙ sym (is_busy effect calls b h r running runs)))) in omega (arith, low, some, none));
          }

      go : (event : Event) → event ≡ Put worker → Moves effect limit b d event → Less b d
      go Feed e move = absurd cc
      go (Take w x) e move = absurd cc
      go (Put w) e (Home v r running segment rest is) = subst (Less b) (sym is.gives) (home v r running segment rest is.runs is.left)

  -- a take goes on with as many starts, or starts one more where it may
  abbrev Kept : Core → Core → Type 0
  Kept c b = (length b.started ≡ length c.started) × ((most : ℕ) → LeftMost effect most c → LeftMost effect most b)

  abbrev Started : Core → Core → Type 0
  Started c b = (length b.started ≡ suc (length c.started)) × (length c.started < limit)

  took : (c b : Core) (event : Event) (worker : ℕ) (thread : ThreadId) → event ≡ Take worker thread → Moves effect limit c b event → Kept c b ⊎ Started c b
  took c b event worker thread is_take move = go event is_take move
    where
      go : (event : Event) → event ≡ Take worker thread → Moves effect limit c b event → Kept c b ⊎ Started c b
      go Feed e move = absurd cc
      go (Put w) e move = absurd cc
      go (Take w x) e (Goes v y running is) = inl (subst (Kept c) (sym is.gives) (
        refl,
        λ most bound. put_cases (λ x t. length (left effect x t) ≤ most) c.thread y.n (record (c.thread y.n) { worker = Some v }) (bound y.n) bound,
      ))
      go (Take w x) e (Starts v y head rest is) = inr (subst (Started c) (sym is.gives) (
        (let k = length_push c.started (record { sender = head.sender; receiver = y.n; message = head.message; sent = (c.thread y.n).sent }) in omega (arith, k)),
        is.room,
      ))

  -- whoever arrived first may be taken, where it is suspended or a call may start
  may_take : (c : Core) → Between effect calls c → (r : ℕ) → IsLeastSuspended c r ⊎ ((NoneSuspended c × IsFirstPosted c r) × (length c.started < limit)) →
      (b : Core) × (step effect limit (Take 0 (record { n = r })) c ≡ Some b)
  may_take c h r (inl least) =
      let t : Resident = c.thread r in
      let may : Bool = nat_lt (length c.started) limit in (
        goes_on 0 r c,
        ap (λ o. take_by 0 r c o t.worker t.running (c.inbox r) may) (h.home 0)
            ∙ (ap (λ o. take_by 0 r c None o t.running (c.inbox r) may) least.suspended.home ∙ ap (λ o. take_by 0 r c None None o (c.inbox r) may) least.suspended.runs),
      )
  may_take c h r (inr (first, room)) =
      let t : Resident = c.thread r in
      let posted = first.1 in
      let may : Bool = nat_lt (length c.started) limit in (
        begins 0 r posted.head posted.rest c,
        ap (λ o. take_by 0 r c o t.worker t.running (c.inbox r) may) (h.home 0)
            ∙ (ap (λ o. take_by 0 r c None o t.running (c.inbox r) may) (at_home t.worker refl)
            ∙ (ap (λ o. take_by 0 r c None None o (c.inbox r) may) (nothing_runs c h.seats h.home first.0 r)
            ∙ (ap (λ l. take_by 0 r c None None None l may) posted.inbox ∙ ap (take_by 0 r c None None None (posted.head ∷ posted.rest)) (may_start may refl)))),
      )
    where
      at_home : (w : Option ℕ) → (c.thread r).worker ≡ w → (c.thread r).worker ≡ None
      at_home None e = e
      at_home (Some w) e = absurd (let k : Some r ≡ None = sym (h.seats.sits r w e) ∙ h.home w in cc)

      may_start : (b : Bool) → nat_lt (length c.started) limit ≡ b → nat_lt (length c.started) limit ≡ true
      may_start true e = e
      may_start false e = absurd (grind (arith, nat_tests, room))

  module _ (sound : Call → Type 0) (segments : HasSegments effect sound) (all : All sound calls) where
    -- a turn: the core behind it, and what it took
    record Next (journal : List Event) (c : Core) (thread : ThreadId) : Type 0 where
      last : Core
      leads : core effect calls limit (journal ++ Take 0 thread ∷ Put 0 ∷ []) ≡ Some last
      order : OneByOne effect calls limit last
      unfed : last.unfed ≡ []
      took_less : ((length last.started ≡ length c.started) × ((most : ℕ) → LeftMost effect most c → (x : ℕ) → length (left effect x (last.thread x)) < most)) ⊎ Started c last

    next : (journal : List Event) (c b : Core) (r : ℕ) → core effect calls limit journal ≡ Some c → OneByOne effect calls limit c → c.unfed ≡ [] → ArrivedFirst c r →
        step effect limit (Take 0 (record { n = r })) c ≡ Some b → Next journal c (record { n = r })
    next journal c b r e way fed first s =
        let thread : ThreadId = record { n = r } in
        let take : Event = Take 0 thread in
        let one = moves effect limit take c b s in
        let t = taken effect calls limit c b take 0 thread refl one (between effect calls limit c way) fed first in
        let has : b.out 0 ≡ Some r = ap (λ (f : ℕ → Option ℕ). f 0) t.2 ∙ put_here c.out 0 (Some r) in
        let legal : core effect calls limit (journal ++ take ∷ []) ≡ Some b = core_next effect calls limit journal take c e ∙ s in
        let put = (under_way effect sound segments calls limit (journal ++ take ∷ []) b all legal).puts 0 r has in
        let d : Core = put.0 in
        let less = put_less b d (Put 0) 0 refl (moves effect limit (Put 0) b d put.1) t.0 in
        let plays : play effect limit (take ∷ Put 0 ∷ []) (Some c) ≡ Some d = ap (play effect limit (Put 0 ∷ [])) s ∙ ap (play effect limit []) put.1 in
        record {
          last = d;
          leads = core_more effect calls limit journal (take ∷ Put 0 ∷ []) c e ∙ plays;
          order = Turn c d 0 thread way fed first plays;
          unfed = less.unfed ∙ t.1;
          took_less = by less (took c b take 0 thread refl one);
        }
      where
        by : {d : Core} → Less b d → Kept c b ⊎ Started c b →
            ((length d.started ≡ length c.started) × ((most : ℕ) → LeftMost effect most c → (x : ℕ) → length (left effect x (d.thread x)) < most)) ⊎ Started c d
        by less (inl k) = inl (less.started ∙ k.0, λ most bound. less.less most (k.1 most bound))
        by less (inr k) = inr (less.started ∙ k.0, k.1)

    behind : (journal front : List Event) → GoesToEnd effect calls limit (journal ++ front) → GoesToEnd effect calls limit journal
    behind journal front h = record {
      more = front ++ h.more;
      last = h.last;
      leads = ap (core effect calls limit) (sym (append_assoc journal front h.more)) ∙ h.leads;
      order = h.order;
      over = h.over;
    }

    -- an end is reached, where so many more calls may start and so many segments are left
    abbrev Reaches : ℕ → ℕ → Type 0
    Reaches n most = (journal : List Event) (c : Core) → core effect calls limit journal ≡ Some c → OneByOne effect calls limit c → c.unfed ≡ [] →
        limit ≤ length c.started + n → LeftMost effect most c → GoesToEnd effect calls limit journal

    here : (journal : List Event) (c : Core) → core effect calls limit journal ≡ Some c → OneByOne effect calls limit c → IsOver limit c → GoesToEnd effect calls limit journal
    here journal c e way over = record { more = []; last = c; leads = ap (core effect calls limit) (append-nil journal) ∙ e; order = way; over = over }

    turn_on : (n most : ℕ) → ((k m : ℕ) → n ≡ suc k → Reaches k m) → ((m : ℕ) → most ≡ suc m → Reaches n m) → Reaches n most
    turn_on n most fewer less journal c e way fed low bound = by (first_of effect calls limit c h within)
      where
        h : Between effect calls c
        h = between effect calls limit c way

        within : length c.started ≤ limit
        within = (kept effect calls limit journal c e).within

        -- behind a turn
        after : (r : ℕ) → Next journal c (record { n = r }) → GoesToEnd effect calls limit journal
        after r x = behind journal (Take 0 (record { n = r }) ∷ Put 0 ∷ []) (go x.took_less)
          where
            go : ((length x.last.started ≡ length c.started) × ((most : ℕ) → LeftMost effect most c → (y : ℕ) → length (left effect y (x.last.thread y)) < most)) ⊎ Started c x.last →
                GoesToEnd effect calls limit (journal ++ Take 0 (record { n = r }) ∷ Put 0 ∷ [])
            go (inl k) = fall most refl
              where
                fall : (most_is : ℕ) → most ≡ most_is → GoesToEnd effect calls limit (journal ++ Take 0 (record { n = r }) ∷ Put 0 ∷ [])
                fall zero is = absurd (let l = k.1 most bound 0 in omega (arith, l, is))
                fall (suc m) is = less m is (journal ++ Take 0 (record { n = r }) ∷ Put 0 ∷ []) x.last x.leads x.order x.unfed (let l = k.0 in omega (arith, l, low))
                    (λ y. let l = k.1 most bound y in omega (arith, l, is))
            go (inr k) = fall n refl
              where
                fall : (n_is : ℕ) → n ≡ n_is → GoesToEnd effect calls limit (journal ++ Take 0 (record { n = r }) ∷ Put 0 ∷ [])
                fall zero is = absurd (let l = k.1 in omega (arith, l, is, low))
                fall (suc m) is =
                    let t = some_most x.last (between effect calls limit x.last x.order).turn in
                    fewer m t.0 is (journal ++ Take 0 (record { n = r }) ∷ Put 0 ∷ []) x.last x.leads x.order x.unfed (let l = k.0 in omega (arith, l, low, is)) t.1

        turn : (r : ℕ) → ArrivedFirst c r → (b : Core) × (step effect limit (Take 0 (record { n = r })) c ≡ Some b) → GoesToEnd effect calls limit journal
        turn r first b = after r (next journal c b.0 r e way fed first b.1)

        -- the first call waits: it is started if one may be
        waits : (r : ℕ) (first : NoneSuspended c × IsFirstPosted c r) (may : Bool) → ltb (length c.started) limit ≡ may → GoesToEnd effect calls limit journal
        waits r first true is = turn r (inr first) (may_take c h r (inr (first, grind (arith, nat_tests))))
        waits r first false is = here journal c e way (record { unfed = fed; suspended = first.0; no_more = inr (grind (arith, nat_tests)) })

        by : NobodyArrived c ⊎ ((r : ℕ) × ArrivedFirst c r) → GoesToEnd effect calls limit journal
        by (inl nobody) = here journal c e way (record { unfed = fed; suspended = nobody.suspended; no_more = inl nobody.inboxes })
        by (inr (r, inl least)) = turn r (inl least) (may_take c h r (inl least))
        by (inr (r, inr first)) = waits r first (ltb (length c.started) limit) refl

    one_less : (x y : ℕ) → suc x ≡ suc y → x ≡ y
    one_less x y e = omega (arith, e)

    by_segments : (n most : ℕ) → ((k m : ℕ) → n ≡ suc k → Reaches k m) → Reaches n most
    by_segments n zero fewer = turn_on n zero fewer (λ m e. absurd (omega (arith, e)))
    by_segments n (suc most) fewer = turn_on n (suc most) fewer (λ m e. subst (Reaches n) (one_less most m e) (by_segments n most fewer))

    by_starts : (n most : ℕ) → Reaches n most
    by_starts zero most = by_segments zero most (λ k m e. absurd (omega (arith, e)))
    by_starts (suc n) most = by_segments (suc n) most (λ k m e. subst (λ x. Reaches x m) (one_less n k e) (by_starts n m))

    -- first all calls are fed
    by_feeds : (unfed : List Call) (journal : List Event) (c : Core) → c.unfed ≡ unfed → core effect calls limit journal ≡ Some c → OneByOne effect calls limit c → GoesToEnd effect calls limit journal
    by_feeds [] journal c is e way =
        let t = some_most c (between effect calls limit c way).turn in
        by_starts limit t.0 journal c e way is (omega arith) t.1
    by_feeds (call ∷ rest) journal c is e way =
        let s : step effect limit Feed c ≡ Some (fed_core call rest c) = ap (feed c) is in
        behind journal (Feed ∷ []) (by_feeds rest (journal ++ Feed ∷ []) (fed_core call rest c) refl (core_next effect calls limit journal Feed c e ∙ s) (Feeding c (fed_core call rest c) way s))

pub reaches_end : (effect : Effect) (sound : Call → Type 0) → HasSegments effect sound → (calls : List Call) (limit : ℕ) (journal : List Event) → ReachesEnd effect sound calls limit journal
reaches_end effect sound segments calls limit journal c all e way = by_feeds effect calls limit sound segments all c.unfed journal c refl e way
