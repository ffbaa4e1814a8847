-- Where the history of a journal is complete, told by the core.
use Rattle.std.proofs.Common.{◌≡◌, ℕ, Bool, true, false, cond, List, [], ◌∷◌, ◌++◌, Some, refl, ap, sym, ◌∙◌, subst, eqb}
use Rattle.hilti_tree.specs.declared.call.Call.{Call}
use Rattle.hilti_core.specs.declared.event.Event.{Event}
use Rattle.hilti_core.specs.Sending.{Sender, Sender.Capture, Sender.Thread, Message, messages, Effect}
use Rattle.hilti_core.specs.Machine.{Machine, IsComplete}
use Rattle.hilti_core.specs.Core.{Waiting, Core}
use Rattle.hilti_core.specs.Atomic.{from_sender, to_come, to_feed, Compares, NothingRuns, NothingWaits}
use Rattle.hilti_core.specs.Complete.{NothingComes, CompletesWith, CompletesWithCore}
use Rattle.hilti_core.proofs.Lists.{same_sender_refl}
use Rattle.hilti_core.proofs.Simulates.{to_post, channel_is}
use Rattle.hilti_core.proofs.Atomic.{call_atomic}

left_empty : {A : Type 0} (xs ys : List A) → xs ++ ys ≡ [] → xs ≡ []
left_empty [] ys e = refl
left_empty (x ∷ xs) ys e = absurd cc

right_empty : {A : Type 0} (xs ys : List A) → xs ++ ys ≡ [] → ys ≡ []
right_empty [] ys e = e
right_empty (x ∷ xs) ys e = absurd cc

-- an inbox with nothing of any sender is empty
empty_inbox : (inbox : List Waiting) → ((s : Sender) → from_sender s inbox ≡ []) → inbox ≡ []
empty_inbox [] h = refl
empty_inbox (waiting ∷ more) h = absurd (
    let e = sym (ap (λ b. cond b (waiting.message ∷ from_sender waiting.sender more) (from_sender waiting.sender more)) (same_sender_refl waiting.sender)) ∙ h waiting.sender in
    let k : waiting.message ∷ from_sender waiting.sender more ≡ [] = e in cc)

no_messages : (n : ℕ) (calls : List Call) → messages n calls ≡ [] → calls ≡ []
no_messages n [] e = refl
no_messages n (call ∷ more) e = absurd cc

module _ (effect : Effect) (m : Machine) (c : Core) (h : Compares effect m c) where
  waits : IsComplete m → NothingWaits c
  waits complete = record {
    inboxes = λ to. empty_inbox (c.inbox to) (λ s. left_empty (from_sender s (c.inbox to)) (to_post effect c s to) (sym (channel_is effect m c h s to) ∙ complete s to));
    unfed = no_messages c.fed c.unfed (right_empty (from_sender Capture (c.inbox 0)) (to_feed c 0) (sym (h.capture 0) ∙ complete Capture 0));
  }

  comes : IsComplete m → NothingComes effect c
  comes complete from to = right_empty (from_sender (Thread from) (c.inbox to)) (to_come effect from (c.thread from) to) (sym (h.channels from to) ∙ complete (Thread from) to)

  complete : NothingWaits c → NothingComes effect c → IsComplete m
  complete waits comes Capture to = h.capture to ∙ (ap (λ l. from_sender Capture l ++ to_feed c to) (waits.inboxes to) ∙ (ap (λ l. cond (eqb to 0) (messages c.fed l) []) waits.unfed ∙ nothing (eqb to 0)))
    where
      none : List Message
      none = []

      nothing : (b : Bool) → cond b none none ≡ none
      nothing true = refl
      nothing false = refl
  complete waits comes (Thread from) to = h.channels from to ∙ (ap (λ l. from_sender (Thread from) l ++ to_come effect from (c.thread from) to) (waits.inboxes to) ∙ comes from to)

  still_comes : NothingRuns c → NothingComes effect c
  still_comes still from to = ap (λ o. to_come effect from (record (c.thread from) { running = o }) to) (still from)

  pub completes_with : CompletesWith effect m c
  completes_with = record {
    exact = ((λ k. (waits k, comes k)), λ k. complete k.0 k.1);
    still = λ still. (waits, λ k. complete k (still_comes still));
  }

pub completes : (effect : Effect) (calls : List Call) (limit : ℕ) (journal : List Event) → CompletesWithCore effect calls limit journal
completes effect calls limit journal c m e runs =
    let all = call_atomic effect calls limit journal c e in
    let same : all.0 ≡ m = some_is all.0 m (sym all.1 ∙ runs) in
    subst (λ (x : Machine). CompletesWith effect x c) same (completes_with effect all.0 c all.2.compares)
  where
    some_is : (x y : Machine) → Some x ≡ Some y → x ≡ y
    some_is x y e = cc
