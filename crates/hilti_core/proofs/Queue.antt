-- The one-worker history is a history: what its queue holds is what the channels hold.
use Rattle.std.proofs.Common.{◌≡◌, ℕ, ◌+◌, ◌<◌, ◌≤◌, zero, suc, Bool, true, false, cond, List, [], ◌∷◌, ◌++◌, length, Some, refl, ap, sym, ◌∙◌, arith, eqb, length-append}
use Rattle.std.specs.Prelude.{◌&&◌, map}
use Rattle.std.proofs.lemmas.List.{nil_from_length}
use Rattle.std.proofs.lemmas.Bool.{eqb-true, eq-eqb}
use Rattle.hilti_tree.specs.declared.call.Call.{Call}
use Rattle.hilti_core.specs.Sending.{Sender, Sender.Capture, Sender.Thread, same_sender, Message, Letter, mail, messages, Effect}
use Rattle.hilti_core.specs.Machine.{Machine, Pick, machine, without_head, after_message, pick_from, run_from, IsComplete}
use Rattle.hilti_core.specs.One.{letters_of, picks_for, one_from}
use Rattle.hilti_core.proofs.Lists.{same_sender_refl, same_sender_true}

-- how many picks of this channel a queue holds
abbrev pub holds : Sender → ℕ → List Pick → ℕ
holds from to [] = 0
holds from to (pick ∷ more) = cond (same_sender from pick.sender && (eqb to pick.receiver)) (suc (holds from to more)) (holds from to more)

holds-append : (s : Sender) (x : ℕ) (ps qs : List Pick) → holds s x (ps ++ qs) ≡ holds s x ps + holds s x qs
holds-append s x [] qs = omega arith
holds-append s x (p ∷ ps) qs = go (same_sender s p.sender && eqb x p.receiver) (holds-append s x ps qs)
  where
    go : (b : Bool) → holds s x (ps ++ qs) ≡ holds s x ps + holds s x qs → cond b (suc (holds s x (ps ++ qs))) (holds s x (ps ++ qs)) ≡ cond b (suc (holds s x ps)) (holds s x ps) + holds s x qs
    go true e = omega (arith, e)
    go false e = e

holds_letters : (s : Sender) (x r : ℕ) (sent : List Letter) → holds s x (picks_for r sent) ≡ length (cond (same_sender s (Thread r)) (mail x sent) [])
holds_letters s x r [] = go (same_sender s (Thread r))
  where
    none : List Message
    none = []

    go : (b : Bool) → 0 ≡ length (cond b none none)
    go true = refl
    go false = refl
holds_letters s x r (letter ∷ more) = go (same_sender s (Thread r)) (eqb x letter.to) (holds_letters s x r more)
  where
    go : (t b : Bool) → holds s x (picks_for r more) ≡ length (cond t (mail x more) []) →
        cond (t && b) (suc (holds s x (picks_for r more))) (holds s x (picks_for r more)) ≡ length (cond t (cond b (letter.message ∷ mail x more) (mail x more)) [])
    go true true e = ap suc e
    go true false e = e
    go false true e = e
    go false false e = e

-- each channel holds as many calls as the queue has picks of it
abbrev pub Queues : Machine → List Pick → Type 0
Queues m queue = (s : Sender) (x : ℕ) → holds s x queue ≡ length (m.channel s x)

queues_more : (effect : Effect) (m : Machine) (pick : Pick) (queue : List Pick) (message : Message) (rest : List Message) → Queues m (pick ∷ queue) →
    m.channel pick.sender pick.receiver ≡ message ∷ rest → Queues (after_message effect pick message rest m) (queue ++ picks_for pick.receiver (letters_of effect pick m (message ∷ rest)))
queues_more effect m pick queue message rest h here s x =
    let sent : List Letter = letters_of effect pick m (message ∷ rest) in
    let a = holds-append s x queue (picks_for pick.receiver sent) in
    let b = holds_letters s x pick.receiver sent in
    let c = length-append (without_head pick rest m.channel s x) (cond (same_sender s (Thread pick.receiver)) (mail x sent) []) in
    let d = go (same_sender s pick.sender) (eqb x pick.receiver) refl refl (h s x) in
    omega (arith, a, b, c, d)
  where
    go : (t b : Bool) → same_sender s pick.sender ≡ t → eqb x pick.receiver ≡ b → cond (t && b) (suc (holds s x queue)) (holds s x queue) ≡ length (m.channel s x) →
        holds s x queue ≡ length (cond (t && b) rest (m.channel s x))
    go true true e1 e2 is =
        let e : length (m.channel s x) ≡ suc (length rest) = ap length (ap (λ y. m.channel y x) (same_sender_true s pick.sender e1) ∙ (ap (λ y. m.channel pick.sender y) (eqb-true x pick.receiver e2) ∙ here)) in
        omega (arith, e, is)
    go true false e1 e2 is = is
    go false true e1 e2 is = is
    go false false e1 e2 is = is

-- where the queue leads
pub record Leads (effect : Effect) (limit : ℕ) (m : Machine) (queue : List Pick) (n : Machine) : Type 0 where
  pub runs : run_from effect (one_from effect limit (Some m) queue) (Some m) ≡ Some n
  pub within : length (one_from effect limit (Some m) queue) ≤ limit
  pub ends : length (one_from effect limit (Some m) queue) < limit → IsComplete n

pub leads : (effect : Effect) (limit : ℕ) (m : Machine) (queue : List Pick) → Queues m queue → (n : Machine) × Leads effect limit m queue n
leads effect zero m queue h = (m, record { runs = refl; within = omega arith; ends = λ low. absurd (omega arith) })
leads effect (suc limit) m [] h = (m, record { runs = refl; within = omega arith; ends = λ low s x. nil_from_length (m.channel s x) (sym (h s x)) })
leads effect (suc limit) m (pick ∷ queue) h = go (leads effect limit) (m.channel pick.sender pick.receiver) refl
  where
    first : holds pick.sender pick.receiver (pick ∷ queue) ≡ suc (holds pick.sender pick.receiver queue)
    first =
        ap (λ b. cond (b && (eqb pick.receiver pick.receiver)) (suc (holds pick.sender pick.receiver queue)) (holds pick.sender pick.receiver queue)) (same_sender_refl pick.sender)
        ∙ ap (λ b. cond b (suc (holds pick.sender pick.receiver queue)) (holds pick.sender pick.receiver queue)) (eq-eqb pick.receiver pick.receiver refl)

    go : ((m : Machine) (queue : List Pick) → Queues m queue → (n : Machine) × Leads effect limit m queue n) → (channel : List Message) → m.channel pick.sender pick.receiver ≡ channel →
        (n : Machine) × Leads effect (suc limit) m (pick ∷ queue) n
    go again [] is = absurd (let e = h pick.sender pick.receiver in let k : length (m.channel pick.sender pick.receiver) ≡ 0 = ap length is in omega (arith, e, first, k))
    go again (message ∷ rest) is =
        let after : Machine = after_message effect pick message rest m in
        let next : List Pick = queue ++ picks_for pick.receiver (letters_of effect pick m (message ∷ rest)) in
        let then = again after next (queues_more effect m pick queue message rest h is) in
        let path : one_from effect (suc limit) (Some m) (pick ∷ queue) ≡ pick ∷ one_from effect limit (Some after) next =
        ap (λ l. pick ∷ one_from effect limit (pick_from effect pick m l) (queue ++ picks_for pick.receiver (letters_of effect pick m l))) is in (
          then.0,
          record {
            runs = ap (λ l. run_from effect l (Some m)) path ∙ (ap (λ l. run_from effect (one_from effect limit (Some after) next) (pick_from effect pick m l)) is ∙ then.1.runs);
            within = let k = ap length path in omega (arith, k, then.1.within);
            ends = λ low. then.1.ends (let k = ap length path in omega (arith, k, low));
          },
        )

queues_first : (calls : List Call) → Queues (machine calls) (map (λ _. record { sender = Capture; receiver = 0 }) calls)
queues_first calls s x = go 0 calls s x
  where
    all : (n : ℕ) (x : ℕ) (calls : List Call) → holds Capture x (map (λ _. record { sender = Capture; receiver = 0 }) calls) ≡ length (cond (eqb x 0) (messages n calls) [])
    all n x [] = at (eqb x 0)
      where
        none : List Message
        none = []

        at : (b : Bool) → 0 ≡ length (cond b none none)
        at true = refl
        at false = refl
    all n x (call ∷ more) = at (eqb x 0) (all (suc n) x more)
      where
        at : (b : Bool) → holds Capture x (map (λ _. record { sender = Capture; receiver = 0 }) more) ≡ length (cond b (messages (suc n) more) []) →
            cond b (suc (holds Capture x (map (λ _. record { sender = Capture; receiver = 0 }) more))) (holds Capture x (map (λ _. record { sender = Capture; receiver = 0 }) more)) ≡ length (cond b (record { call = call; place = n } ∷ messages (suc n) more) [])
        at true e = ap suc e
        at false e = e

    none : (from x : ℕ) (calls : List Call) → holds (Thread from) x (map (λ _. record { sender = Capture; receiver = 0 }) calls) ≡ 0
    none from x [] = refl
    none from x (call ∷ more) = none from x more

    go : (n : ℕ) (calls : List Call) (s : Sender) (x : ℕ) → holds s x (map (λ _. record { sender = Capture; receiver = 0 }) calls) ≡ length ((machine calls).channel s x)
    go n calls Capture x = all 0 x calls
    go n calls (Thread from) x = none from x calls

pub one_leads : (effect : Effect) (calls : List Call) (limit : ℕ) → (n : Machine) × Leads effect limit (machine calls) (map (λ _. record { sender = Capture; receiver = 0 }) calls) n
one_leads effect calls limit = leads effect limit (machine calls) (map (λ _. record { sender = Capture; receiver = 0 }) calls) (queues_first calls)
