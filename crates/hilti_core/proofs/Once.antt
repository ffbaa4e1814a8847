-- No call is started twice, and a history goes on wherever a channel holds a call.
use Rattle.std.proofs.Common.{◌≡◌, ℕ, ◌<◌, ◌≤◌, zero, suc, Bool, true, false, cond, List, [], ◌∷◌, ◌++◌, length, Some, refl, ap, sym, ◌∙◌, subst, arith, eqb, get_or, ◌⊎◌, inl, inr}
use Rattle.std.specs.Prelude.{◌&&◌}
use Rattle.std.specs.List.{Contains}
use Rattle.std.proofs.lemmas.List.Elements.{Contains-append_left, Contains-append_right}
use Rattle.std.proofs.lemmas.Bool.{eqb-true, eq-eqb}
use Rattle.hilti_tree.specs.declared.call.Call.{Call}
use Rattle.hilti_core.specs.declared.pieces.Item.{Item}
use Rattle.hilti_core.specs.declared.pieces.Item.TheVariants.{Send, Line}
use Rattle.hilti_core.specs.Sending.{Sender, Sender.Capture, Sender.Thread, same_sender, Message, Letter, letters, mail, messages, Effect}
use Rattle.hilti_core.specs.Machine.{Start, Machine, Pick, machine, after_message, pick_from, run_from, run}
use Rattle.hilti_core.specs.History.{did, picked, sent_to, IsReached}
use Rattle.hilti_core.specs.Causes.{Name, start_name}
use Rattle.hilti_core.specs.Kept.{StartsOnce, AreHistories}
use Rattle.hilti_core.proofs.Lists.{same_sender_refl}
use Rattle.hilti_core.proofs.Posts.{push_cut}
use Rattle.hilti_core.proofs.Causal.{contains_here, contains_cut, mail_late, messages_late}
use Rattle.hilti_core.proofs.Histories.{keeps_all, picks_bound, reached_first, reached_more}
use Rattle.hilti_core.proofs.Atomic.{run_from-append}

contains_cases : {A : Type 0} (x : A) (xs : List A) (y : A) → Contains (x ∷ xs) y → (x ≡ y) ⊎ Contains xs y
contains_cases {A} x xs y h = go h.0 h.1 h.2
  where
    go : (k : ℕ) → k < length (x ∷ xs) → get_or (x ∷ xs) k y ≡ y → (x ≡ y) ⊎ Contains xs y
    go zero low e = inl e
    go (suc k) low e = inr (k, omega arith, e)

-- what is mail for a thread is a letter to it
mail_letter : (x : ℕ) (sent : List Letter) (message : Message) → Contains (mail x sent) message → Contains sent (record { to = x; message = message })
mail_letter x [] message h = absurd (omega (arith, h.1))
mail_letter x (letter ∷ sent) message h = go (mail_letter x sent message) (eqb x letter.to) refl h
  where
    here : x ≡ letter.to → letter.message ≡ message → Contains (letter ∷ sent) (record { to = x; message = message })
    here a b = subst (Contains (letter ∷ sent)) (ap (λ n. record { to = n; message = letter.message }) (sym a) ∙ ap (λ (m : Message). record { to = x; message = m }) b) (contains_here letter sent)

    there : Contains sent (record { to = x; message = message }) → Contains (letter ∷ sent) (record { to = x; message = message })
    there c = Contains-append_right (letter ∷ []) sent (record { to = x; message = message }) c

    pick : x ≡ letter.to → (Contains (mail x sent) message → Contains sent (record { to = x; message = message })) → (letter.message ≡ message) ⊎ Contains (mail x sent) message → Contains (letter ∷ sent) (record { to = x; message = message })
    pick a again (inl b) = here a b
    pick a again (inr c) = there (again c)

    go : (Contains (mail x sent) message → Contains sent (record { to = x; message = message })) → (b : Bool) → eqb x letter.to ≡ b → Contains (cond b (letter.message ∷ mail x sent) (mail x sent)) message → Contains (letter ∷ sent) (record { to = x; message = message })
    go again false e c = there (again c)
    go again true e c = pick (eqb-true x letter.to e) again (contains_cases letter.message (mail x sent) message c)

letter_late : (k : ℕ) (items : List Item) (p : Letter) → Contains (letters k items) p → k ≤ p.message.place
letter_late k [] p h = absurd (omega (arith, h.1))
letter_late k (Send to call ∷ items) p h = go (letter_late (suc k) items p) (contains_cases first (letters (suc k) items) p h)
  where
    first : Letter
    first = record { to = to.n; message = record { call = call; place = k } }

    go : (Contains (letters (suc k) items) p → suc k ≤ p.message.place) → (first ≡ p) ⊎ Contains (letters (suc k) items) p → k ≤ p.message.place
    go again (inl e) = let q : k ≡ p.message.place = ap (λ (l : Letter). l.message.place) e in omega (arith, q)
    go again (inr c) = omega (arith, again c)
letter_late k (Line text ∷ items) p h = letter_late k items p h

-- letters of one place go to one thread
letter_one : (k : ℕ) (items : List Item) (p q : Letter) → Contains (letters k items) p → Contains (letters k items) q → p.message.place ≡ q.message.place → p.to ≡ q.to
letter_one k [] p q h i e = absurd (omega (arith, h.1))
letter_one k (Send to call ∷ items) p q h i e = go (letter_one (suc k) items p q) (contains_cases first (letters (suc k) items) p h) (contains_cases first (letters (suc k) items) q i)
  where
    first : Letter
    first = record { to = to.n; message = record { call = call; place = k } }

    late : (r : Letter) → Contains (letters (suc k) items) r → suc k ≤ r.message.place
    late r c = letter_late (suc k) items r c

    go : (Contains (letters (suc k) items) p → Contains (letters (suc k) items) q → p.message.place ≡ q.message.place → p.to ≡ q.to) →
        (first ≡ p) ⊎ Contains (letters (suc k) items) p → (first ≡ q) ⊎ Contains (letters (suc k) items) q → p.to ≡ q.to
    go again (inl a) (inl b) = ap (λ (l : Letter). l.to) (sym a ∙ b)
    go again (inl a) (inr b) = absurd (let x : k ≡ p.message.place = ap (λ (l : Letter). l.message.place) a in omega (arith, x, late q b, e))
    go again (inr a) (inl b) = absurd (let x : k ≡ q.message.place = ap (λ (l : Letter). l.message.place) b in omega (arith, x, late p a, e))
    go again (inr a) (inr b) = again a b e
letter_one k (Line text ∷ items) p q h i e = letter_one k items p q h i e

-- places rise along the mail for a thread
mail_rises : (x k : ℕ) (items : List Item) (front : List Message) (message : Message) (back : List Message) → mail x (letters k items) ≡ front ++ message ∷ back →
    (other : Message) → Contains front other → other.place < message.place
mail_rises x k [] front message back e other h = absurd (none front e)
  where
    none : (front : List Message) → [] ≡ front ++ message ∷ back → ⊥
    none [] e = cc
    none (y ∷ front) e = cc
mail_rises x k (Send to call ∷ items) front message back e other h = go (mail_rises x (suc k) items) (eqb x to.n) front e h
  where
    first : Message
    first = record { call = call; place = k }

    rest : List Message
    rest = mail x (letters (suc k) items)

    next : (front : List Message) → rest ≡ front ++ message ∷ back → suc k ≤ message.place
    next front e = mail_late x (suc k) items message (subst (λ l. Contains l message) (sym e) (Contains-append_right front (message ∷ back) message (contains_here message back)))

    both : (front : List Message) → first ∷ [] ≡ first ∷ [] → rest ≡ front ++ message ∷ back → (Contains front other → other.place < message.place) → (f : Message) → first ≡ f → (f ≡ other) ⊎ Contains front other → other.place < message.place
    both front s e again f is (inl a) = let p : k ≡ other.place = ap (λ (m : Message). m.place) (is ∙ a) in omega (arith, p, next front e)
    both front s e again f is (inr c) = again c

    go : ((front : List Message) (message : Message) (back : List Message) → mail x (letters (suc k) items) ≡ front ++ message ∷ back → (other : Message) → Contains front other → other.place < message.place) →
        (b : Bool) → (front : List Message) → cond b (first ∷ rest) rest ≡ front ++ message ∷ back → Contains front other → other.place < message.place
    go again false front e h = again front message back e other h
    go again true [] e h = absurd (omega (arith, h.1))
    go again true (f ∷ front) e h =
        let tail : rest ≡ front ++ message ∷ back = cc in
        both front refl tail (again front message back tail other) f (let same : first ≡ f = cc in same) (contains_cases f front other h)
mail_rises x k (Line text ∷ items) front message back e other h = mail_rises x k items front message back e other h

messages_rise : (k : ℕ) (calls : List Call) (front : List Message) (message : Message) (back : List Message) → messages k calls ≡ front ++ message ∷ back →
    (other : Message) → Contains front other → other.place < message.place
messages_rise k [] [] message back e other h = absurd (omega (arith, h.1))
messages_rise k [] (f ∷ front) message back e other h = absurd cc
messages_rise k (call ∷ calls) [] message back e other h = absurd (omega (arith, h.1))
messages_rise k (call ∷ calls) (f ∷ front) message back e other h = go (messages_rise (suc k) calls front message back tail other) (contains_cases f front other h)
  where
    tail : messages (suc k) calls ≡ front ++ message ∷ back
    tail = cc

    first : record { call = call; place = k } ≡ f
    first = cc

    next : suc k ≤ message.place
    next = messages_late (suc k) calls message (subst (λ l. Contains l message) (sym tail) (Contains-append_right front (message ∷ back) message (contains_here message back)))

    go : (Contains front other → other.place < message.place) → (f ≡ other) ⊎ Contains front other → other.place < message.place
    go again (inl a) = let p : k ≡ other.place = ap (λ (m : Message). m.place) (first ∙ a) in omega (arith, p, next)
    go again (inr c) = again c

module _ (effect : Effect) (calls : List Call) (m : Machine) where
  sent_rises : (s : Sender) (x : ℕ) (front : List Message) (message : Message) (back : List Message) → sent_to effect calls m s x ≡ front ++ message ∷ back → (other : Message) → Contains front other → other.place < message.place
  sent_rises (Thread from) x front message back e other h = mail_rises x 0 (did effect from (m.thread from).calls) front message back e other h
  sent_rises Capture x front message back e other h = go (eqb x 0) e
    where
      none : (front : List Message) → [] ≡ front ++ message ∷ back → ⊥
      none [] e = cc
      none (y ∷ front) e = cc

      go : (b : Bool) → cond b (messages 0 calls) [] ≡ front ++ message ∷ back → other.place < message.place
      go true e = messages_rise 0 calls front message back e other h
      go false e = absurd (none front e)

  sent_one : (s : Sender) (x y : ℕ) (p q : Message) → Contains (sent_to effect calls m s x) p → Contains (sent_to effect calls m s y) q → p.place ≡ q.place → x ≡ y
  sent_one (Thread from) x y p q h i e =
      let sent : List Letter = letters 0 (did effect from (m.thread from).calls) in
      letter_one 0 (did effect from (m.thread from).calls) (record { to = x; message = p }) (record { to = y; message = q }) (mail_letter x sent p h) (mail_letter y sent q i) e
  sent_one Capture x y p q h i e = zero_of x p h ∙ sym (zero_of y q i)
    where
      zero_of : (z : ℕ) (r : Message) → Contains (cond (eqb z 0) (messages 0 calls) []) r → z ≡ 0
      zero_of z r c = go (eqb z 0) refl c
        where
          go : (b : Bool) → eqb z 0 ≡ b → Contains (cond b (messages 0 calls) []) r → z ≡ 0
          go true t c = eqb-true z 0 t
          go false t c = absurd (omega (arith, c.1))

-- a started call's message is among those picked from its sender
picked_has : (started : List Start) (start : Start) → Contains started start → Contains (picked start.sender start.receiver started) start.message
picked_has started start c =
    let cut = contains_cut started start c in
    subst (λ l. Contains (picked start.sender start.receiver l) start.message) (sym cut.2) (go cut.0 cut.1)
  where
    here : (back : List Start) → Contains (picked start.sender start.receiver (start ∷ back)) start.message
    here back = subst (λ b. Contains (cond b (start.message ∷ picked start.sender start.receiver back) (picked start.sender start.receiver back)) start.message) (sym yes) (contains_here start.message (picked start.sender start.receiver back))
      where
        yes : same_sender start.sender start.sender && eqb start.receiver start.receiver ≡ true
        yes = ap (λ b. b && eqb start.receiver start.receiver) (same_sender_refl start.sender) ∙ eq-eqb start.receiver start.receiver refl

    more : (y : Start) (xs : List Start) (b : Bool) → Contains (picked start.sender start.receiver xs) start.message → Contains (cond b (y.message ∷ picked start.sender start.receiver xs) (picked start.sender start.receiver xs)) start.message
    more y xs true h = Contains-append_right (y.message ∷ []) (picked start.sender start.receiver xs) start.message h
    more y xs false h = h

    go : (front back : List Start) → Contains (picked start.sender start.receiver (front ++ start ∷ back)) start.message
    go [] back = here back
    go (y ∷ front) back = more y (front ++ start ∷ back) (same_sender start.sender y.sender && eqb start.receiver y.receiver) (go front back)

record ReachedOnce (effect : Effect) (calls : List Call) (m : Machine) : Type 0 where
  reached : IsReached effect calls m
  once : StartsOnce m

once_more : (effect : Effect) (calls : List Call) (pick : Pick) (m : Machine) (message : Message) (rest : List Message) → m.channel pick.sender pick.receiver ≡ message ∷ rest →
    ReachedOnce effect calls m → ReachedOnce effect calls (after_message effect pick message rest m)
once_more effect calls pick m message rest here h = record {
  reached = reached_more effect calls pick m message rest here h.reached;
  once = λ front back start earlier is c e. at front start earlier c e (push_cut m.started new front start back is);
}
  where
    new : Start
    new = record { sender = pick.sender; receiver = pick.receiver; message = message; sent = (m.thread pick.receiver).sent }

    all : (x : ℕ) → picked pick.sender x m.started ++ m.channel pick.sender x ≡ sent_to effect calls m pick.sender x
    all x = h.reached.channels pick.sender x

    whole : sent_to effect calls m pick.sender pick.receiver ≡ picked pick.sender pick.receiver m.started ++ message ∷ rest
    whole = sym (all pick.receiver) ∙ ap (λ l. picked pick.sender pick.receiver m.started ++ l) here

    fresh : (earlier : Start) → Contains m.started earlier → start_name earlier ≡ start_name new → ⊥
    fresh earlier c e =
        let by : earlier.sender ≡ pick.sender = ap (λ (n : Name). n.sender) e in
        let place : earlier.message.place ≡ message.place = ap (λ (n : Name). n.place) e in
        let got : Contains (picked pick.sender earlier.receiver m.started) earlier.message = subst (λ s. Contains (picked s earlier.receiver m.started) earlier.message) by (picked_has m.started earlier c) in
        let first : Contains (sent_to effect calls m pick.sender earlier.receiver) earlier.message =
        subst (λ l. Contains l earlier.message) (all earlier.receiver) (Contains-append_left (picked pick.sender earlier.receiver m.started) (m.channel pick.sender earlier.receiver) earlier.message got) in
        let second : Contains (sent_to effect calls m pick.sender pick.receiver) message =
        subst (λ l. Contains l message) (sym whole) (Contains-append_right (picked pick.sender pick.receiver m.started) (message ∷ rest) message (contains_here message rest)) in
        let to : earlier.receiver ≡ pick.receiver = sent_one effect calls m pick.sender earlier.receiver pick.receiver earlier.message message first second place in
        let there : Contains (picked pick.sender pick.receiver m.started) earlier.message = subst (λ x. Contains (picked pick.sender x m.started) earlier.message) to got in
        let low = sent_rises effect calls m pick.sender pick.receiver (picked pick.sender pick.receiver m.started) message rest whole earlier.message there in
        omega (arith, low, place)

    at : (front : List Start) (start earlier : Start) → Contains front earlier → start_name earlier ≡ start_name start → ((back : List Start) × (m.started ≡ front ++ start ∷ back)) ⊎ ((front ≡ m.started) × (start ≡ new)) → ⊥
    at front start earlier c e (inl k) = h.once front k.0 start earlier k.1 c e
    at front start earlier c e (inr k) = fresh earlier (subst (λ l. Contains l earlier) k.0 c) (e ∙ ap start_name k.1)

pub are_histories : (effect : Effect) (calls : List Call) (picks : List Pick) → AreHistories effect calls picks
are_histories effect calls picks m e =
    let h = keeps_all effect (ReachedOnce effect calls) (picks_bound picks)
    (λ pick m message rest low here h. once_more effect calls pick m message rest here h) picks (machine calls) m (omega arith) e
    (record { reached = reached_first effect calls; once = λ front back start earlier is c same. none front back start is }) in
    record {
      reached = h.reached;
      once = h.once;
      on = λ pick some. on pick (m.channel pick.sender pick.receiver) refl some;
    }
  where
    none : (front back : List Start) (start : Start) → [] ≡ front ++ start ∷ back → ⊥
    none [] back start e = cc
    none (x ∷ front) back start e = cc

    on : (pick : Pick) (channel : List Message) → m.channel pick.sender pick.receiver ≡ channel → ¬ (m.channel pick.sender pick.receiver ≡ []) → (n : Machine) × (run effect calls (picks ++ pick ∷ []) ≡ Some n)
    on pick [] is some = absurd (some is)
    on pick (message ∷ rest) is some =
        (after_message effect pick message rest m, run_from-append effect picks (pick ∷ []) (Some (machine calls)) ∙ (ap (run_from effect (pick ∷ [])) e ∙ ap (λ l. run_from effect [] (pick_from effect pick m l)) is))
