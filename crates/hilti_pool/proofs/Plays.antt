-- A journal with one more event, and what each event leaves.
use Rattle.std.proofs.Common.{◌≡◌, ℕ, ◌<◌, true, List, [], ◌∷◌, ◌++◌, length, Option, Some, None, refl, ap, ◌∙◌, arith}
use Rattle.std.proofs.lemmas.Bool.Decides.{nat_tests}
use Rattle.std.specs.Prelude.{nat_lt}
use Rattle.hilti_base.specs.declared.names.ThreadId.{ThreadId}
use Rattle.hilti_tree.specs.declared.call.Call.{Call}
use Rattle.hilti_core.specs.declared.pieces.Segment.{Segment}
use Rattle.hilti_core.specs.declared.event.Event.{Event}
use Rattle.hilti_core.specs.declared.event.Event.TheVariants.{Feed, Take, Put}
use Rattle.hilti_core.specs.Sending.{Effect}
use Rattle.hilti_core.specs.Core.{Waiting, Running, Core, feed, goes_on, begins, take_by, left, comes_home, put_by, put_of, step, play}
use Rattle.hilti_core.proofs.Moves.{fed_core}

play_nil : (effect : Effect) (limit : ℕ) (s : Option Core) → play effect limit [] s ≡ s
play_nil effect limit None = refl
play_nil effect limit (Some c) = refl

-- one more event is one step
pub play_push : (effect : Effect) (limit : ℕ) (xs : List Event) (e : Event) (s : Option Core) (c : Core) → play effect limit xs s ≡ Some c → play effect limit (xs ++ e ∷ []) s ≡ step effect limit e c
play_push effect limit [] e None c h = absurd cc
play_push effect limit (x ∷ xs) e None c h = absurd cc
play_push effect limit [] e (Some b) c h = let same : b ≡ c = cc in ap (λ x. play effect limit (e ∷ []) (Some x)) same ∙ play_nil effect limit (step effect limit e c)
play_push effect limit (x ∷ xs) e (Some b) c h = play_push effect limit xs e (step effect limit x b) c h

-- where all calls were fed but this one
pub feeds : (effect : Effect) (limit : ℕ) (c : Core) (call : Call) → c.unfed ≡ [] →
    step effect limit Feed (record c { unfed = c.unfed ++ call ∷ [] }) ≡ Some (fed_core call [] c)
feeds effect limit c call none = ap (λ u. feed (record c { unfed = u ++ call ∷ [] }) (u ++ call ∷ [])) none

pub goes : (effect : Effect) (limit worker : ℕ) (thread : ThreadId) (c : Core) (running : Running) → c.out worker ≡ None → (c.thread thread.n).worker ≡ None →
    (c.thread thread.n).running ≡ Some running → step effect limit (Take worker thread) c ≡ Some (goes_on worker thread.n c)
goes effect limit worker thread c running free home busy =
    let inbox = c.inbox thread.n in
    let may = nat_lt (length c.started) limit in
    ap (λ o. take_by worker thread.n c o (c.thread thread.n).worker (c.thread thread.n).running inbox may) free
    ∙ ap (λ h. take_by worker thread.n c None h (c.thread thread.n).running inbox may) home
    ∙ ap (λ x. take_by worker thread.n c None None x inbox may) busy

may_start : (n limit : ℕ) → n < limit → nat_lt n limit ≡ true
may_start n limit h = grind (arith, nat_tests)

pub starts : (effect : Effect) (limit worker : ℕ) (thread : ThreadId) (c : Core) (head : Waiting) (rest : List Waiting) → c.out worker ≡ None → (c.thread thread.n).worker ≡ None →
    (c.thread thread.n).running ≡ None → c.inbox thread.n ≡ head ∷ rest → length c.started < limit →
    step effect limit (Take worker thread) c ≡ Some (begins worker thread.n head rest c)
starts effect limit worker thread c head rest free home idle inbox few =
    ap (λ o. take_by worker thread.n c o (c.thread thread.n).worker (c.thread thread.n).running (c.inbox thread.n) (nat_lt (length c.started) limit)) free
    ∙ ap (λ h. take_by worker thread.n c None h (c.thread thread.n).running (c.inbox thread.n) (nat_lt (length c.started) limit)) home
    ∙ ap (λ x. take_by worker thread.n c None None x (c.inbox thread.n) (nat_lt (length c.started) limit)) idle
    ∙ ap (λ x. take_by worker thread.n c None None None x (nat_lt (length c.started) limit)) inbox
    ∙ ap (λ b. take_by worker thread.n c None None None (head ∷ rest) b) (may_start (length c.started) limit few)

pub puts : (effect : Effect) (limit worker r : ℕ) (c : Core) (running : Running) (segment : Segment) (rest : List Segment) → c.out worker ≡ Some r →
    (c.thread r).running ≡ Some running → left effect r (c.thread r) ≡ segment ∷ rest → step effect limit (Put worker) c ≡ Some (comes_home worker r running segment rest c)
puts effect limit worker r c running segment rest has busy next =
    ap (put_of effect worker c) has
    ∙ ap (λ x. put_by worker r c x (left effect r (c.thread r))) busy
    ∙ ap (λ x. put_by worker r c (Some running) x) next
