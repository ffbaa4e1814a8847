-- What one turn after another leaves.
use Rattle.std.proofs.Common.{◌≡◌, ℕ, ◌+◌, ◌<◌, ◌≤◌, suc, List, [], ◌∷◌, ◌++◌, Option, Some, None, IsSomeAnd, refl, ap, sym, ◌∙◌, subst, arith, inl, inr, ◌⊎◌, append_assoc, append-nil}
use Rattle.std.proofs.lemmas.List.{flat_map_more}
use Rattle.std.specs.List.{flat_map}
use Rattle.hilti_base.specs.declared.names.ThreadId.{ThreadId}
use Rattle.hilti_turn.specs.declared.pass.Pass.{Pass}
use Rattle.hilti_turn.specs.Passes.{number, about, mine, IsSamePass}
use Rattle.hilti_pool.specs.declared.entries.Entry.{Entry}
use Rattle.hilti_pool.specs.declared.entries.Entry.TheVariants.{Feed, FeedEnd, Take, Put}
use Rattle.hilti_pool.specs.declared.entries.Subject.{Subject}
use Rattle.hilti_workers.specs.Entries.{takes_in, puts_in, AreEven}
use Rattle.hilti_workers.specs.Finding.{ShowsOver}
use Rattle.hilti_workers.specs.Turns.{IsAbout, OfSeen, RanOne, RanAll, BrokeOff, Tells}
use Rattle.hilti_workers.specs.declared.turns.Turned.{Turned}
use Rattle.hilti_workers.specs.declared.turns.Turned.TheVariants.{Ran, Idle, Over}
use Rattle.hilti_core.specs.Sending.{Effect}

pub takes-append : (xs ys : List Entry) → takes_in (xs ++ ys) ≡ takes_in xs + takes_in ys
takes-append [] ys = let same : takes_in ys ≡ 0 + takes_in ys = omega arith in same
takes-append (Feed call ∷ xs) ys = takes-append xs ys
takes-append (FeedEnd ∷ xs) ys = takes-append xs ys
takes-append (Take worker thread ∷ xs) ys = let more = takes-append xs ys in omega (arith, more)
takes-append (Put worker ∷ xs) ys = takes-append xs ys

pub puts-append : (xs ys : List Entry) → puts_in (xs ++ ys) ≡ puts_in xs + puts_in ys
puts-append [] ys = let same : puts_in ys ≡ 0 + puts_in ys = omega arith in same
puts-append (Feed call ∷ xs) ys = puts-append xs ys
puts-append (FeedEnd ∷ xs) ys = puts-append xs ys
puts-append (Take worker thread ∷ xs) ys = puts-append xs ys
puts-append (Put worker ∷ xs) ys = let more = puts-append xs ys in omega (arith, more)

pub even_more : (before after : List Entry) (w : ℕ) (thread : ThreadId) → AreEven before → after ≡ before ++ Take w thread ∷ Put w ∷ [] → AreEven after
even_more before after w thread even is =
    let takes : takes_in after ≡ takes_in before + 1 = ap takes_in is ∙ takes-append before (Take w thread ∷ Put w ∷ []) in
    let puts : puts_in after ≡ puts_in before + 1 = ap puts_in is ∙ puts-append before (Take w thread ∷ Put w ∷ []) in
    omega (arith, takes, puts, even)

module _ {V D : Type 0} where
  pub same_twice : (a b c : Pass V Entry (Subject D)) → IsSamePass a b → IsSamePass b c → IsSamePass a c
  same_twice a b c h k = record {
    table = k.table ∙ h.table;
    seat = k.seat ∙ h.seat;
    number = k.number ∙ h.number;
    known_number = k.known_number ∙ h.known_number;
    about = k.about ∙ h.about;
  }

  pub same_self : (a : Pass V Entry (Subject D)) → IsSamePass a a
  same_self a = record { table = refl; seat = refl; number = refl; known_number = refl; about = refl }

  -- a pass that is the same is about the same body
  pub about_same : (data_of : D) (a b : Pass V Entry (Subject D)) → IsSamePass a b → IsAbout data_of a → IsAbout data_of b
  about_same data_of a b same h = subst (λ o. IsSomeAnd o (λ subject. subject.body ≡ data_of)) (sym same.about) h

  pub ran_none : (a : Pass V Entry (Subject D)) → RanAll a a
  ran_none a = ([], sym (append-nil (mine a)))

  pub ran_more : (a b c : Pass V Entry (Subject D)) → IsSamePass a b → RanAll a b → RanOne b c → RanAll a c
  ran_more a b c same (threads, ran) (thread, one) = (
    threads ++ thread ∷ [],
    one
        ∙ ap (λ w. mine b ++ Take w thread ∷ Put w ∷ []) same.number
        ∙ ap (λ l. l ++ Take (number a) thread ∷ Put (number a) ∷ []) ran
        ∙ flat_map_more (λ t. Take (number a) t ∷ Put (number a) ∷ []) (mine a) threads thread,
  )

  -- nothing was made in the last turn
  pub ran_same : (a b c : Pass V Entry (Subject D)) → mine c ≡ mine b → RanAll a b → RanAll a c
  ran_same a b c same (threads, ran) = (threads, same ∙ ran)

module _ {V D : Type 0} (old mid new : Pass V Entry (Subject D)) where
  -- a take, and then its put
  pub ran_one : (thread : ThreadId) → number mid ≡ number old → mine mid ≡ mine old ++ Take (number old) thread ∷ [] → mine new ≡ mine mid ++ Put (number mid) ∷ [] → RanOne old new
  ran_one thread same took put = (
    thread,
    put
        ∙ ap (λ l. l ++ Put (number mid) ∷ []) took
        ∙ append_assoc (mine old) (Take (number old) thread ∷ []) (Put (number mid) ∷ [])
        ∙ ap (λ w. mine old ++ Take (number old) thread ∷ Put w ∷ []) same,
  )

  -- a take, and then no put
  pub broke_later : (thread : ThreadId) → mine mid ≡ mine old ++ Take (number old) thread ∷ [] → mine new ≡ mine mid ++ [] → BrokeOff old new
  broke_later thread took none = inr (thread, none ∙ append-nil (mine mid) ∙ took)

pub broke_first : {V D : Type 0} (old new : Pass V Entry (Subject D)) → mine new ≡ mine old ++ [] → BrokeOff old new
broke_first old new none = inl (none ∙ append-nil (mine old))

module _ {V D : Type 0} (effect : D → Effect) (first old new : Pass V Entry (Subject D)) where
  -- what one more turn leaves
  pub after_turn : (turned : Turned) → Tells effect old new turned → IsSamePass first old → AreEven (mine old) → RanAll first old → AreEven (mine new) × RanAll first new
  after_turn Ran tells same even ran = (even_more (mine old) (mine new) (number old) tells.0 even tells.1, ran_more first old new same ran tells)
  after_turn Idle tells same even ran = (subst AreEven (sym tells.0) even, ran_same first old new tells.0 ran)
  after_turn Over tells same even ran = (subst AreEven (sym tells.0) even, ran_same first old new tells.0 ran)

  -- where a turn says that all is over, it is
  pub over_told : (turned : Turned) → turned ≡ Over → Tells effect old new turned → OfSeen new (ShowsOver effect)
  over_told Ran is tells = absurd cc
  over_told Idle is tells = absurd cc
  over_told Over is tells = tells.1
