-- What feeding one call after another leaves.
use Rattle.std.proofs.Common.{◌≡◌, ℕ, ◌+◌, ◌≤◌, List, [], ◌∷◌, ◌++◌, length, drop, Bool, true, false, Option, Some, None, IfSome, IfNone, MatchOption, IsSome, Result, Ok, Err, refl, ap, sym, ◌∙◌, subst, arith, inl, inr, ◌⊎◌, append_assoc, append-nil}
use Rattle.std.specs.List.{All}
use Rattle.std.proofs.lemmas.List.Elements.{All-nil, All-cons, All-push}
use mathlib.Core.List.{IsPrefix}
use Rattle.hilti_tree.specs.declared.call.Call.{Call}
use Rattle.hilti_outside.specs.Faults.{Rose}
use Rattle.hilti_feeder.specs.Feeding.{Gave, WasEmpty, BecameLost, CountsFaults}
use Rattle.hilti_pool.specs.declared.entries.Entry.{Entry}
use Rattle.hilti_pool.specs.declared.entries.Entry.TheVariants.{Feed, FeedEnd}
use Rattle.hilti_core.specs.declared.event.Event.{Event}
use Rattle.hilti_pool.specs.State.{PoolState, end_of}
use Rattle.hilti_pool.specs.Entries.{maker_of}
use Rattle.hilti_workers.specs.Entries.{calls_in, takes_in, puts_in}
use Rattle.hilti_workers.specs.Feeding.{WereGiven, Feeds, entries_of_feed}
use Rattle.hilti_workers.proofs.Listed.{calls_in-append}
use Rattle.hilti_workers.proofs.Sections.{mine_there}
use Rattle.hilti_workers.proofs.Working.{takes-append, puts-append}

-- what was to come at first is what was given, and then what is to come now
abbrev pub Leaves : Option (List Call) → List Call → Option (List Call) → Type 0
Leaves None calls None = Unit {0}
Leaves (Some all) calls (Some rest) = all ≡ calls ++ rest
Leaves None calls (Some rest) = ⊥
Leaves (Some all) calls None = ⊥

-- some calls were fed, and others may come
pub record IsFeeding (gives : Call → Type 0) (first coming : Option (List Call)) (old new : List Entry) : Type 0 where
  pub calls : List Call
  pub fed : calls_in new ≡ calls_in old ++ calls
  pub tested : All gives calls
  pub left : Leaves first calls coming
  pub takes : takes_in new ≡ takes_in old
  pub puts : puts_in new ≡ puts_in old

leaves_none : (coming : Option (List Call)) → Leaves coming [] coming
leaves_none None = tt
leaves_none (Some all) = refl

leaves_more : (first before after : Option (List Call)) (calls : List Call) (call : Call) → Leaves first calls before → Gave before call after → Leaves first (calls ++ call ∷ []) after
leaves_more None None None calls call left gave = tt
leaves_more None None (Some rest) calls call left gave = absurd gave
leaves_more None (Some before) after calls call left gave = absurd left
leaves_more (Some all) None after calls call left gave = absurd left
leaves_more (Some all) (Some before) None calls call left gave = absurd gave
leaves_more (Some all) (Some before) (Some rest) calls call left gave = left ∙ ap (λ l. calls ++ l) gave ∙ sym (append_assoc calls (call ∷ []) rest)

leaves_begin : (first coming : Option (List Call)) (calls : List Call) → Leaves first calls coming → IfSome first (λ all. IsPrefix calls all)
leaves_begin None coming calls left = tt
leaves_begin (Some all) None calls left = absurd left
leaves_begin (Some all) (Some rest) calls left = (rest, sym left)

leaves_whole : (first coming : Option (List Call)) (calls : List Call) → Leaves first calls coming → WasEmpty coming → IfSome first (λ all. calls ≡ all)
leaves_whole None coming calls left empty = tt
leaves_whole (Some all) None calls left empty = absurd left
leaves_whole (Some all) (Some rest) calls left empty = sym (left ∙ ap (λ l. calls ++ l) empty ∙ append-nil calls)

module _ (gives : Call → Type 0) (first : Option (List Call)) (old : List Entry) where
  pub begins : IsFeeding gives first first old old
  begins = record { calls = []; fed = sym (append-nil (calls_in old)); tested = All-nil gives; left = leaves_none first; takes = refl; puts = refl }

  pub goes_on : (before after : Option (List Call)) (call : Call) (new newer : List Entry) → IsFeeding gives first before old new → Gave before call after → gives call → newer ≡ new ++ Feed call ∷ [] →
      IsFeeding gives first after old newer
  goes_on before after call new newer h gave tested is =
      let takes : takes_in newer ≡ takes_in new + 0 = ap takes_in is ∙ takes-append new (Feed call ∷ []) in
      let puts : puts_in newer ≡ puts_in new + 0 = ap puts_in is ∙ puts-append new (Feed call ∷ []) in
      record {
        calls = h.calls ++ call ∷ [];
        fed = ap calls_in is ∙ calls_in-append new (Feed call ∷ []) ∙ ap (λ l. l ++ call ∷ []) h.fed ∙ append_assoc (calls_in old) h.calls (call ∷ []);
        tested = All-push gives h.calls call h.tested tested;
        left = leaves_more first before after h.calls call h.left gave;
        takes = let same = h.takes in omega (arith, takes, same);
        puts = let same = h.puts in omega (arith, puts, same);
      }

  -- at the end all was fed, but where the feeder was lost
  pub ends : (coming : Option (List Call)) (lost lost' : Bool) (new newer : List Entry) → IsFeeding gives first coming old new → WasEmpty coming ⊎ BecameLost lost lost' →
      (newer ≡ new) ⊎ (newer ≡ new ++ FeedEnd ∷ []) → Feeds gives first lost' old newer
  ends coming lost lost' new newer h none is =
      let fed : calls_in newer ≡ calls_in new = elim is [ inl same ↦ ap calls_in same | inr more ↦ ap calls_in more ∙ calls_in-append new (FeedEnd ∷ []) ∙ append-nil (calls_in new) ] in
      let takes : takes_in newer ≡ takes_in new = elim is [ inl same ↦ ap takes_in same | inr more ↦ ap takes_in more ∙ takes-append new (FeedEnd ∷ []) ∙ omega arith ] in
      let puts : puts_in newer ≡ puts_in new = elim is [ inl same ↦ ap puts_in same | inr more ↦ ap puts_in more ∙ puts-append new (FeedEnd ∷ []) ∙ omega arith ] in
      record {
        calls = h.calls;
        fed = fed ∙ h.fed;
        given = record {
          tested = h.tested;
          begin = leaves_begin first coming h.calls h.left;
          whole = λ kept. elim none [ inl empty ↦ leaves_whole first coming h.calls h.left empty | inr lost ↦ let both : false ≡ true = sym kept ∙ lost.1 in cc ];
        };
        takes = takes ∙ h.takes;
        puts = puts ∙ h.puts;
      }

rose_further : (a b c : ℕ) → Rose a b → b ≤ c → Rose a c
rose_further a b c rose more = let k = rose.kept in let r = rose.risen in record { kept = omega (arith, k, more); risen = omega (arith, r, more) }

rose_later : (a b c : ℕ) → a ≤ b → Rose b c → Rose a c
rose_later a b c more rose = let k = rose.kept in let r = rose.risen in record { kept = omega (arith, k, more); risen = omega (arith, r, more) }

pub counts_none : (n : ℕ) (lost : Bool) → CountsFaults n n lost lost
counts_none n lost = record { counted = omega arith; stays = λ h. h; cause = λ became. let both : false ≡ true = sym became.0 ∙ became.1 in cc }

-- one call after another
pub counts_twice : (a b c : ℕ) (k l m : Bool) → CountsFaults a b k l → CountsFaults b c l m → CountsFaults a c k m
counts_twice a b c k false m h i = let x = h.counted in let y = i.counted in record {
  counted = omega (arith, x, y);
  stays = λ is. i.stays (h.stays is);
  cause = λ became. rose_later a b c h.counted (i.cause (refl, became.1));
}
counts_twice a b c k true m h i = let x = h.counted in let y = i.counted in record {
  counted = omega (arith, x, y);
  stays = λ is. i.stays (h.stays is);
  cause = λ became. rose_further a b c (h.cause (became.0, refl)) i.counted;
}

pub all_fed : {A E : Type 0} (call : Call) (r : Result A E) → All (λ e. maker_of e ≡ 0) (entries_of_feed call r)
all_fed call (Ok done) = All-cons (λ e. maker_of e ≡ 0) (Feed call) [] refl (All-nil (λ e. maker_of e ≡ 0))
all_fed call (Err error) = All-nil (λ e. maker_of e ≡ 0)

-- the end of the feed is added once
pub ended_more : (ended : Option ℕ) (before after : List Entry) → MatchOption ended (after ≡ before ++ FeedEnd ∷ []) (λ _. after ≡ before) →
    (added : List Entry) × (after ≡ before ++ added) × All (λ e. maker_of e ≡ 0) added × ((added ≡ []) ⊎ (added ≡ FeedEnd ∷ []))
ended_more None before after is = (FeedEnd ∷ [], is, All-cons (λ e. maker_of e ≡ 0) FeedEnd [] refl (All-nil (λ e. maker_of e ≡ 0)), inr refl)
ended_more (Some place) before after is = ([], is ∙ sym (append-nil before), All-nil (λ e. maker_of e ≡ 0), inl refl)

pub ended_mine : (seen first last added old before after : List Entry) → seen ≡ first → last ≡ first ++ added → (added ≡ []) ⊎ (added ≡ FeedEnd ∷ []) → before ≡ old →
    after ≡ before ++ drop (length seen) last → (after ≡ old) ⊎ (after ≡ old ++ FeedEnd ∷ [])
ended_mine seen first last added old before after is adds which same grows =
    let grown : after ≡ old ++ added = mine_there 0 0 seen first last (λ _. added) old before after refl is adds same grows in
    elim which [ inl none ↦ inl (grown ∙ ap (λ l. old ++ l) none ∙ append-nil old) | inr one ↦ inr (grown ∙ ap (λ l. old ++ l) one) ]

some_end : (ended : Option ℕ) (journal : List Event) → IsSome (end_of ended journal)
some_end None journal = refl
some_end (Some place) journal = refl

-- a pool whose feed was ended has its end
pub ended_some : {D : Type 0} (old new : PoolState D) → new ≡ record old { ended = end_of old.ended old.journal } → IsSome new.ended
ended_some old new is = subst (λ p. IsSome p.ended) (sym is) (some_end old.ended old.journal)

-- what holds of what an option has
pub some_has : {A : Type 0} (o : Option A) (x : A) (P : A → Type 0) → o ≡ Some x → IfSome o P → P x
some_has o x P is h = subst (λ o. IfSome o P) is h

pub none_has : {A : Type 0} (o : Option A) (P : Type 0) → o ≡ None → IfNone o P → P
none_has o P is h = subst (λ o. IfNone o P) is h
