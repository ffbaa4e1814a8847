-- The texts of the threads that ran, with one thread more.
use Rattle.std.proofs.Common.{◌≡◌, ℕ, ◌+◌, ◌<◌, ◌≤◌, suc, zero, List, [], ◌∷◌, ◌++◌, length, get_or, refl, ap, sym, ◌∙◌, subst, arith, map, take, Option, Some, None, slice_get, MatchOption}
use Rattle.std.specs.List.{flat_map}
use Rattle.std.proofs.lemmas.List.{map-append, take_more, take_all, flat_map_more}
use Rattle.std.proofs.lemmas.Option.{get_or_from_slice_get}
use Rattle.hilti_core.specs.Sending.{Text, Effect}
use Rattle.hilti_core.specs.Core.{Core}
use Rattle.hilti_pool.specs.State.{PoolState, InCore, core_of}
use Rattle.hilti_pool.specs.Roll.{IsRoll, IsLogAt, HasThreads, EndsBy}
use Rattle.hilti_pool.specs.Threads.{calls_of}
use Rattle.hilti_log.specs.Texts.{thread_text}
use Rattle.hilti_log.specs.Reports.{log_of, threads_text, AddsThreads}
use Rattle.hilti_log.proofs.Rolls.{one_roll}

some_is : {A : Type 0} (x y : A) → Some x ≡ Some y → x ≡ y
some_is x y e = cc

-- a pool stands for one core
pub one_core : {D : Type 0} (effect : D → Effect) (pool : PoolState D) (c d : Core) → core_of effect pool ≡ Some c → core_of effect pool ≡ Some d → c ≡ d
one_core effect pool c d a b = some_is c d (sym a ∙ b)

inside : {A : Type 0} (xs : List A) (i : ℕ) (x : A) → slice_get xs i ≡ Some x → i < length xs
inside [] i x e = absurd cc
inside (y ∷ ys) zero x e = omega arith
inside (y ∷ ys) (suc i) x e = let more = inside ys i x e in omega (arith, more)

log_is : (c : Core) (thread calls : ℕ) (lines : List Text) → calls ≡ calls_of thread c.started → lines ≡ (c.thread thread).log → record { thread = thread; calls = calls; lines = lines } ≡ log_of c thread
log_is c thread calls lines a b = cc

pub thread_more : (c : Core) (old out new : List ℕ) (place : ℕ) (threads : List ℕ) (thread calls : ℕ) (lines : List Text) →
    IsRoll c.started threads → IsLogAt place thread calls lines c → out ≡ old ++ threads_text c (take place threads) →
    new ≡ out ++ thread_text (record { thread = thread; calls = calls; lines = lines }) →
    new ≡ old ++ threads_text c (take (place + 1) threads)
thread_more c old out new place threads thread calls lines ran log so_far adds =
    let same : log.roll ≡ threads = one_roll c.started log.roll threads log.is ran in
    let at : slice_get threads place ≡ Some thread = subst (λ r. slice_get r place ≡ Some thread) same log.at in
    let here : get_or threads place 0 ≡ thread = get_or_from_slice_get threads place thread 0 at in
    let step : take (place + 1) threads ≡ take place threads ++ thread ∷ [] =
    take_more threads place 0 (inside threads place thread at) ∙ ap (λ t. take place threads ++ t ∷ []) here in
    let front = map (log_of c) (take place threads) in
    adds
    ∙ ap (λ o. o ++ thread_text (record { thread = thread; calls = calls; lines = lines })) so_far
    ∙ ap (λ r. (old ++ flat_map thread_text front) ++ thread_text r) (log_is c thread calls lines log.calls_are log.lines_are)
    ∙ flat_map_more thread_text old front (log_of c thread)
    ∙ ap (λ logs. old ++ flat_map thread_text logs) (sym (map-append (log_of c) (take place threads) (thread ∷ [])))
    ∙ ap (λ l. old ++ threads_text c l) (sym step)

-- a place below the number of threads isn't past the end
pub not_past : (c : Core) (n place : ℕ) → HasThreads n c → EndsBy place c → place < n → ⊥
not_past c n place has ends low =
    let same : length has.roll ≡ length ends.roll = ap length (one_roll c.started has.roll ends.roll has.is ends.is) in
    omega (arith, same, has.count, ends.ends, low)

-- all of them
pub all_threads : (c : Core) (old new : List ℕ) (n place : ℕ) (has : HasThreads n c) → n ≤ place → new ≡ old ++ threads_text c (take place has.roll) → AddsThreads c old new
all_threads c old new n place has past is = record {
  threads = has.roll;
  ran = has.is;
  adds = is ∙ ap (λ l. old ++ threads_text c l) (take_all place has.roll (omega (arith, has.count)));
}

-- no thread is missing before the end
pub nothing_past : {D X : Type 0} (effect : D → Effect) (pool : PoolState D) (n place : ℕ) (o : Option X) (P : Core → X → Type 0) → o ≡ None →
    InCore effect pool (HasThreads n) → InCore effect pool (λ c. MatchOption o (EndsBy place c) (P c)) → place < n → ⊥
nothing_past effect pool n place o P is has ends low =
    let at_end : EndsBy place ends.core = subst (λ o. MatchOption o (EndsBy place ends.core) (P ends.core)) is ends.holds in
    not_past has.core n place has.holds (subst (EndsBy place) (one_core effect pool ends.core has.core ends.is has.is) at_end) low

-- what is told of a thread holds in the pool's core
pub told : {D X : Type 0} (effect : D → Effect) (pool : PoolState D) (c : Core) (o : Option X) (x : X) (Q : Core → Type 0) (P : Core → X → Type 0) → o ≡ Some x →
    core_of effect pool ≡ Some c → InCore effect pool (λ c. MatchOption o (Q c) (P c)) → P c x
told effect pool c o x Q P is legal log =
    let here : P log.core x = subst (λ o. MatchOption o (Q log.core) (P log.core)) is log.holds in
    subst (λ d. P d x) (one_core effect pool log.core c log.is legal) here
