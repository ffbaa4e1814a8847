-- Journals one after the other, and threads that stay out.
use Rattle.std.proofs.Common.{◌≡◌, ℕ, Bool, true, false, cond, List, [], ◌∷◌, ◌++◌, Option, Some, None, refl, ap, sym, ◌∙◌, subst, eqb}
use Rattle.std.specs.List.{All}
use Rattle.std.proofs.lemmas.List.Elements.{All-head, All-tail}
use Rattle.std.proofs.lemmas.Bool.{eqb-true}
use Rattle.hilti_tree.specs.declared.call.Call.{Call}
use Rattle.hilti_core.specs.declared.event.Event.{Event}
use Rattle.hilti_core.specs.declared.event.Event.TheVariants.{Feed, Take, Put}
use Rattle.hilti_core.specs.Sending.{Effect, put_at}
use Rattle.hilti_core.specs.Core.{Core, core_of_none, step, play, core}
use Rattle.hilti_core.specs.Atomic.{HasSeats}
use Rattle.hilti_core.specs.Journals.{RunsOn, IsNoPut, IsStillOut, StaysOut}
use Rattle.hilti_core.proofs.Moves.{Moves, Moves.Fed, Moves.Goes, Moves.Starts, Moves.Home, moves, keeps_play}
use Rattle.hilti_core.proofs.Seats.{seats_step, seats_none}

pub play_append : (effect : Effect) (limit : ℕ) (first second : List Event) (o : Option Core) →
    play effect limit (first ++ second) o ≡ play effect limit second (play effect limit first o)
play_append effect limit [] second None = refl
play_append effect limit [] second (Some c) = refl
play_append effect limit (event ∷ first) [] None = refl
play_append effect limit (event ∷ first) (next ∷ second) None = refl
play_append effect limit (event ∷ first) second (Some c) = play_append effect limit first second (step effect limit event c)

pub runs_on : (effect : Effect) (calls : List Call) (limit : ℕ) (first : List Event) → RunsOn effect calls limit first
runs_on effect calls limit first second = play_append effect limit first second (Some (core_of_none calls))

-- the core of a journal with more events behind it, where the journal's own core is known
pub core_more : (effect : Effect) (calls : List Call) (limit : ℕ) (journal more : List Event) (c : Core) → core effect calls limit journal ≡ Some c →
    core effect calls limit (journal ++ more) ≡ play effect limit more (Some c)
core_more effect calls limit journal more c e = runs_on effect calls limit journal more ∙ ap (play effect limit more) e

-- and with one more event
pub core_next : (effect : Effect) (calls : List Call) (limit : ℕ) (journal : List Event) (event : Event) (c : Core) → core effect calls limit journal ≡ Some c →
    core effect calls limit (journal ++ event ∷ []) ≡ step effect limit event c
core_next effect calls limit journal event c e = core_more effect calls limit journal (event ∷ []) c e ∙ last (step effect limit event c)
  where
    last : (o : Option Core) → play effect limit [] o ≡ o
    last None = refl
    last (Some d) = refl

-- the journal behind which another is legal is legal itself
pub front_legal : (effect : Effect) (limit : ℕ) (more : List Event) (o : Option Core) (d : Core) → play effect limit more o ≡ Some d → (c : Core) × (o ≡ Some c) × (play effect limit more (Some c) ≡ Some d)
front_legal effect limit more (Some c) d e = (c, refl, e)
front_legal effect limit [] None d e = absurd cc
front_legal effect limit (event ∷ more) None d e = absurd cc

-- a function that is changed at another number
pub put_other : {A : Type 0} (f : ℕ → A) (n : ℕ) (v : A) (x : ℕ) → ¬ (x ≡ n) → put_at f n v x ≡ f x
put_other f n v x other = go (eqb x n) refl
  where
    go : (b : Bool) → eqb x n ≡ b → cond b v (f x) ≡ f x
    go true e = absurd (other (eqb-true x n e))
    go false e = refl

some_is : {A : Type 0} (x y : A) → Some x ≡ Some y → x ≡ y
some_is x y e = cc

-- an event that isn't the put of its worker leaves a thread out
pub still_step : (effect : Effect) (limit : ℕ) (event : Event) (c d : Core) (worker r : ℕ) → IsNoPut worker event → Moves effect limit c d event →
    HasSeats c.thread c.out → c.out worker ≡ Some r → IsStillOut worker r c d
still_step effect limit event c d worker r leaves move seats has = go event leaves move
  where
    mine : (c.thread r).worker ≡ Some worker
    mine = seats.seated worker r has

    -- another worker's take is of another thread
    not_free : (other : ℕ) → c.out other ≡ None → ¬ (worker ≡ other)
    not_free other free e = let k : c.out worker ≡ None = ap c.out e ∙ free in let l : Some r ≡ None = sym has ∙ k in cc

    not_home : (x : ℕ) → (c.thread x).worker ≡ None → ¬ (r ≡ x)
    not_home x home e = let k : (c.thread r).worker ≡ None = ap (λ y. (c.thread y).worker) e ∙ home in let l : Some worker ≡ None = sym mine ∙ k in cc

    not_theirs : (other x : ℕ) → ¬ (other ≡ worker) → c.out other ≡ Some x → ¬ (r ≡ x)
    not_theirs other x leaves has e =
        let k : (c.thread r).worker ≡ Some other = ap (λ y. (c.thread y).worker) e ∙ seats.seated other x has in
        leaves (some_is other worker (sym k ∙ mine))

    go : (event : Event) → IsNoPut worker event → Moves effect limit c d event → IsStillOut worker r c d
    go Feed leaves (Fed call rest is) = subst (IsStillOut worker r c) (sym is.gives) (record { has = has; same = refl })
    go (Take w x) leaves (Goes other thread running is) = subst (IsStillOut worker r c) (sym is.gives) (record {
      has = put_other c.out other (Some thread.n) worker (not_free other is.free) ∙ has;
      same = put_other c.thread thread.n _ r (not_home thread.n is.home);
    })
    go (Take w x) leaves (Starts other thread head rest is) = subst (IsStillOut worker r c) (sym is.gives) (record {
      has = put_other c.out other (Some thread.n) worker (not_free other is.free) ∙ has;
      same = put_other c.thread thread.n _ r (not_home thread.n is.home);
    })
    go (Put w) leaves (Home other x running segment rest is) = subst (IsStillOut worker r c) (sym is.gives) (record {
      has = put_other c.out other None worker (λ e. leaves (sym e)) ∙ has;
      same = put_other c.thread x _ r (not_theirs other x leaves is.has);
    })

pub still_play : (effect : Effect) (limit : ℕ) (worker r : ℕ) (journal : List Event) (c d : Core) → All (IsNoPut worker) journal → play effect limit journal (Some c) ≡ Some d →
    HasSeats c.thread c.out → c.out worker ≡ Some r → IsStillOut worker r c d
still_play effect limit worker r [] c d leaves e seats has = subst (IsStillOut worker r c) (some_is c d e) (record { has = has; same = refl })
still_play effect limit worker r (event ∷ more) c d leaves e seats has =
    let front = front_legal effect limit more (step effect limit event c) d e in
    let b : Core = front.0 in
    let move = moves effect limit event c b front.1 in
    let first = still_step effect limit event c b worker r (All-head (IsNoPut worker) event more leaves) move seats has in
    let then = still_play effect limit worker r more b d (All-tail (IsNoPut worker) event more leaves) front.2 (seats_step effect limit c b event move seats) first.has in
    record { has = then.has; same = then.same ∙ first.same }

-- the seats of a legal core
pub seats_of : (effect : Effect) (calls : List Call) (limit : ℕ) (journal : List Event) (c : Core) → core effect calls limit journal ≡ Some c → HasSeats c.thread c.out
seats_of effect calls limit journal c e =
    keeps_play effect limit (λ x. HasSeats x.thread x.out) (λ event x y move h. seats_step effect limit x y event move h) journal (core_of_none calls) c e (seats_none calls)

pub stays_out : (effect : Effect) (calls : List Call) (limit : ℕ) (first : List Event) → StaysOut effect calls limit first
stays_out effect calls limit first second c d worker r here there leaves has =
    still_play effect limit worker r second c d leaves (sym (core_more effect calls limit first second c here) ∙ there) (seats_of effect calls limit first c here) has
