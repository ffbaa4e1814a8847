-- What the entries of a pool say of its core, and of threads that are out.
use Rattle.std.proofs.Common.{◌≡◌, ℕ, ◌+◌, ◌<◌, ◌≤◌, suc, zero, Bool, true, false, List, [], ◌∷◌, ◌++◌, length, Option, Some, None, IsSome, refl, ap, sym, ◌∙◌, subst, arith, eqb, All, cond, inl, inr, ◌⊎◌, append_assoc, append-nil}
use Rattle.std.proofs.lemmas.Bool.{eqb-true, eq-eqb}
use Rattle.std.proofs.lemmas.List.{length-append}
use Rattle.hilti_tree.specs.declared.call.Call.{Call}
use Rattle.hilti_core.specs.declared.event.Event.{Event}
use Rattle.hilti_core.specs.declared.event.Event.TheVariants as events
use Rattle.hilti_core.specs.declared.pieces.Segment.{Segment}
use Rattle.hilti_core.specs.Sending.{Effect, put_at}
use Rattle.hilti_core.specs.Core.{Core, core, core_of_none, step, play, left, finished_after, running_after}
use Rattle.hilti_core.specs.Body.{Runs}
use Rattle.hilti_core.specs.Journals.{IsNoPut, IsStillOut}
use Rattle.hilti_core.proofs.Moves.{Moves, Moves.Fed, Moves.Goes, Moves.Starts, Moves.Home, moves}
use Rattle.hilti_core.proofs.Journals.{front_legal, stays_out, core_more}
use Rattle.hilti_core.proofs.Kept.{takes_more}
use Rattle.hilti_turn.specs.Journal.{made_by}
use Rattle.hilti_pool.specs.declared.entries.Entry.{Entry}
use Rattle.hilti_pool.specs.declared.entries.Subject.{Subject}
use Rattle.hilti_pool.specs.State.{PoolState, InCore, core_of}
use Rattle.hilti_pool.specs.Entries.{maker_of, entries_of, subject_of}
use Rattle.hilti_pool.specs.Standing.{IsStanding}
use Rattle.hilti_pool.specs.Work.{IsDone}
use Rattle.hilti_workers.specs.Entries.{events_in, calls_in, takes_in, puts_in, AreEven, Shows}
use Rattle.hilti_workers.proofs.Listed.{events_in-append, calls_in-append, events_are, calls_are, takes_of, puts_of, takes_by, puts_by, takes_made, puts_made, no_put}

abbrev pub count_out : Option ℕ → ℕ
count_out None = 0
count_out (Some r) = 1

eq_true : (w : ℕ) (other : ℕ) → eqb other w ≡ true → eqb w other ≡ true
eq_true w other e = eq-eqb w other (sym (eqb-true other w e))

eq_false : (w : ℕ) (other : ℕ) → eqb other w ≡ false → eqb w other ≡ false
eq_false w other e = go (eqb w other) refl
  where
    go : (b : Bool) → eqb w other ≡ b → b ≡ false
    go false is = refl
    go true is = let k : eqb other w ≡ true = eq-eqb other w (sym (eqb-true w other is)) in let l : true ≡ false = sym k ∙ e in cc

-- a worker that had nothing has what it took
taken_out : (w other r : ℕ) (f : ℕ → Option ℕ) → f other ≡ None → count_out (put_at f other (Some r) w) ≡ count_out (f w) + cond (eqb other w) 1 0
taken_out w other r f free = go (eqb other w) refl
  where
    go : (b : Bool) → eqb other w ≡ b → count_out (put_at f other (Some r) w) ≡ count_out (f w) + cond b 1 0
    go true e =
        let a : put_at f other (Some r) w ≡ Some r = ap (λ b. cond b (Some r) (f w)) (eq_true w other e) in
        let b : f w ≡ None = ap f (sym (eqb-true other w e)) ∙ free in
        let c : count_out (put_at f other (Some r) w) ≡ 1 = ap count_out a in
        let d : count_out (f w) ≡ 0 = ap count_out b in
        omega (arith, c, d)
    go false e =
        let a : put_at f other (Some r) w ≡ f w = ap (λ b. cond b (Some r) (f w)) (eq_false w other e) in
        let c : count_out (put_at f other (Some r) w) ≡ count_out (f w) = ap count_out a in
        omega (arith, c)

put_home : (w other r : ℕ) (f : ℕ → Option ℕ) → f other ≡ Some r → count_out (put_at f other None w) + cond (eqb other w) 1 0 ≡ count_out (f w)
put_home w other r f has = go (eqb other w) refl
  where
    go : (b : Bool) → eqb other w ≡ b → count_out (put_at f other None w) + cond b 1 0 ≡ count_out (f w)
    go true e =
        let a : put_at f other None w ≡ None = ap (λ b. cond b None (f w)) (eq_true w other e) in
        let b : f w ≡ Some r = ap f (sym (eqb-true other w e)) ∙ has in
        let c : count_out (put_at f other None w) ≡ 0 = ap count_out a in
        let d : count_out (f w) ≡ 1 = ap count_out b in
        omega (arith, c, d)
    go false e =
        let a : put_at f other None w ≡ f w = ap (λ b. cond b None (f w)) (eq_false w other e) in
        let c : count_out (put_at f other None w) ≡ count_out (f w) = ap count_out a in
        omega (arith, c)

count_step : (effect : Effect) (limit w : ℕ) (e : Event) (c d : Core) → Moves effect limit c d e → count_out (d.out w) + puts_of w e ≡ count_out (c.out w) + takes_of w e
count_step effect limit w events.Feed c d (Fed call rest is) = let same : count_out (d.out w) ≡ count_out (c.out w) = ap (λ k. count_out (k.out w)) is.gives in omega (arith, same)
count_step effect limit w (events.Take x t) c d (Goes other thread running is) =
    let same : count_out (d.out w) ≡ count_out (put_at c.out other (Some thread.n) w) = ap (λ k. count_out (k.out w)) is.gives in
    let more = taken_out w other thread.n c.out is.free in
    omega (arith, same, more)
count_step effect limit w (events.Take x t) c d (Starts other thread head rest is) =
    let same : count_out (d.out w) ≡ count_out (put_at c.out other (Some thread.n) w) = ap (λ k. count_out (k.out w)) is.gives in
    let more = taken_out w other thread.n c.out is.free in
    omega (arith, same, more)
count_step effect limit w (events.Put x) c d (Home other r running segment rest is) =
    let same : count_out (d.out w) ≡ count_out (put_at c.out other None w) = ap (λ k. count_out (k.out w)) is.gives in
    let more = put_home w other r c.out is.has in
    omega (arith, same, more)

-- what a worker has is what it took and didn't put back
count_play : (effect : Effect) (limit w : ℕ) (journal : List Event) (c d : Core) → play effect limit journal (Some c) ≡ Some d → count_out (d.out w) + puts_by w journal ≡ count_out (c.out w) + takes_by w journal
count_play effect limit w [] c d e = let same : c ≡ d = cc in let n : count_out (c.out w) ≡ count_out (d.out w) = ap (λ k. count_out (k.out w)) same in omega (arith, n)
count_play effect limit w (event ∷ more) c d e =
    let front = front_legal effect limit more (step effect limit event c) d e in
    let first = count_step effect limit w event c front.0 (moves effect limit event c front.0 front.1) in
    let rest = count_play effect limit w more front.0 d front.2 in
    omega (arith, first, rest)

nothing_out : (o : Option ℕ) → count_out o ≡ 0 → o ≡ None
nothing_out None e = refl
nothing_out (Some r) e = absurd (omega (arith, e))

module _ {D : Type 0} (effect : D → Effect) where
  -- a pool's entries show its core
  pub shown : (pool : PoolState D) (P : Core → Type 0) → IsStanding effect pool → InCore effect pool P → Shows effect (subject_of pool) (entries_of pool) P
  shown pool P stands h = record {
    at = h.core;
    legal = ap (λ calls. core (effect pool.about) calls pool.limit (events_in (entries_of pool))) (calls_are pool.fed pool.journal pool.ended stands.entries.feeds)
        ∙ ap (core (effect pool.about) pool.fed pool.limit) (events_are pool.fed pool.journal pool.ended stands.entries.feeds)
        ∙ h.is;
    holds = h.holds;
  }

  -- a worker that put back all it took has nothing
  pub is_free : (w : ℕ) (pool : PoolState D) → IsStanding effect pool → AreEven (made_by maker_of w (entries_of pool)) → InCore effect pool (λ c. c.out w ≡ None)
  is_free w pool stands even =
      let events = events_in (entries_of pool) in
      let same : events_in (entries_of pool) ≡ pool.journal = events_are pool.fed pool.journal pool.ended stands.entries.feeds in
      let takes : takes_in (made_by maker_of w (entries_of pool)) ≡ takes_by w pool.journal = takes_made w (entries_of pool) ∙ ap (takes_by w) same in
      let puts : puts_in (made_by maker_of w (entries_of pool)) ≡ puts_by w pool.journal = puts_made w (entries_of pool) ∙ ap (puts_by w) same in
      let all = count_play (effect pool.about) pool.limit w pool.journal (core_of_none pool.fed) stands.at stands.legal in
      record { core = stands.at; is = stands.legal; holds = nothing_out (stands.at.out w) (omega (arith, takes, puts, all, even)) }

pub made-append : (w : ℕ) (xs ys : List Entry) → made_by maker_of w (xs ++ ys) ≡ made_by maker_of w xs ++ made_by maker_of w ys
made-append w [] ys = refl
made-append w (x ∷ xs) ys = go (eqb (maker_of x) w) (made-append w xs ys)
  where
    go : (b : Bool) → made_by maker_of w (xs ++ ys) ≡ made_by maker_of w xs ++ made_by maker_of w ys →
        cond b (x ∷ made_by maker_of w (xs ++ ys)) (made_by maker_of w (xs ++ ys)) ≡ cond b (x ∷ made_by maker_of w xs) (made_by maker_of w xs) ++ made_by maker_of w ys
    go true h = ap (λ l. x ∷ l) h
    go false h = h

empty_of : (xs : List Entry) → length xs ≡ 0 → xs ≡ []
empty_of [] e = refl
empty_of (x ∷ xs) e = absurd (omega (arith, e))

pub made_none : (w : ℕ) (seen more : List Entry) → made_by maker_of w (seen ++ more) ≡ made_by maker_of w seen → made_by maker_of w more ≡ []
made_none w seen more same =
    let both : made_by maker_of w seen ++ made_by maker_of w more ≡ made_by maker_of w seen = sym (made-append w seen more) ∙ same in
    let lengths : length (made_by maker_of w seen) + length (made_by maker_of w more) ≡ length (made_by maker_of w seen) = sym (length-append (made_by maker_of w seen) (made_by maker_of w more)) ∙ ap length both in
    empty_of (made_by maker_of w more) (omega (arith, lengths))

module _ {D V : Type 0} (effect : D → Effect) (runs : D → V → Runs) (w r : ℕ) (vt : V) (segment : Segment) where
  done_later : (about : D) (c d : Core) → IsDone (effect about) (runs about) w r vt segment c → d.out w ≡ Some r → d.thread r ≡ c.thread r → IsDone (effect about) (runs about) w r vt segment d
  done_later about c d done has same = record {
    out = has;
    running = done.running;
    busy = ap (λ x. x.running) same ∙ done.busy;
    rest = done.rest;
    next = ap (left (effect about) r) same ∙ done.next;
    runs_it = subst (λ x. runs about vt r (finished_after x.finished done.running done.rest) (running_after done.running done.rest)) (sym same) done.runs_it;
  }

  -- what a worker did for its thread is still to be put, whatever others added to the entries
  pub still_done : (pool : PoolState D) (seen more : List Entry) → IsStanding effect pool → entries_of pool ≡ seen ++ more →
      made_by maker_of w (entries_of pool) ≡ made_by maker_of w seen →
      Shows effect (subject_of pool) seen (λ c. IsDone (effect pool.about) (runs pool.about) w r vt segment c) →
      InCore effect pool (λ c. IsDone (effect pool.about) (runs pool.about) w r vt segment c)
  still_done pool seen more stands is own done =
      let e = effect pool.about in
      let fed : calls_in seen ++ calls_in more ≡ pool.fed = sym (calls_in-append seen more) ∙ ap calls_in (sym is) ∙ calls_are pool.fed pool.journal pool.ended stands.entries.feeds in
      let journal : events_in seen ++ events_in more ≡ pool.journal = sym (events_in-append seen more) ∙ ap events_in (sym is) ∙ events_are pool.fed pool.journal pool.ended stands.entries.feeds in
      let first : Core = record (done.at) { unfed = done.at.unfed ++ calls_in more } in
      let wide : core e pool.fed pool.limit (events_in seen) ≡ Some first = ap (λ calls. core e calls pool.limit (events_in seen)) (sym fed) ∙ takes_more e (calls_in seen) (calls_in more) pool.limit (events_in seen) done.at done.legal in
      let then : core e pool.fed pool.limit (events_in seen ++ events_in more) ≡ Some stands.at = ap (core e pool.fed pool.limit) journal ∙ stands.legal in
      let none : made_by maker_of w more ≡ [] = made_none w seen more (ap (made_by maker_of w) (sym is) ∙ own) in
      let still = stays_out e pool.fed pool.limit (events_in seen) (events_in more) first stands.at w r wide then (no_put w more none) done.holds.out in
      record { core = stands.at; is = stands.legal; holds = done_later pool.about done.at stands.at done.holds still.has still.same }
