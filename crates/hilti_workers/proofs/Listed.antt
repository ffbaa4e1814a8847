-- What entries say, taken apart.
use Rattle.std.proofs.Common.{◌≡◌, ℕ, ◌+◌, ◌<◌, ◌≤◌, suc, zero, Bool, true, false, List, [], ◌∷◌, ◌++◌, length, map, take, drop, filter, Option, Some, None, IsSome, refl, ap, sym, ◌∙◌, subst, arith, eqb, All, Contains, append_assoc, cond}
use Rattle.std.proofs.lemmas.Bool.{eqb-true, eq-eqb}
use Rattle.std.proofs.lemmas.List.{take-append-drop, length-append, drop_all}
use Rattle.std.proofs.lemmas.List.Elements.{All-nil, All-cons, All-append, All-contains, Contains-append_left, Contains-append_right, Contains-push}
use Rattle.hilti_base.specs.declared.names.ThreadId.{ThreadId}
use Rattle.hilti_tree.specs.declared.call.Call.{Call}
use Rattle.hilti_core.specs.declared.event.Event.{Event}
use Rattle.hilti_core.specs.declared.event.Event.TheVariants as events
use Rattle.hilti_core.specs.Journals.{IsNoPut}
use Rattle.hilti_turn.specs.Journal.{made_by}
use Rattle.hilti_pool.specs.declared.entries.Entry.{Entry}
use Rattle.hilti_pool.specs.declared.entries.Entry.TheVariants.{Feed, FeedEnd, Take, Put}
use Rattle.hilti_pool.specs.Entries.{feeds_in, entries_from, with_end, maker_of}
use Rattle.hilti_workers.specs.Entries.{events_in, calls_in, takes_in, puts_in}

pub events_in-append : (xs ys : List Entry) → events_in (xs ++ ys) ≡ events_in xs ++ events_in ys
events_in-append [] ys = refl
events_in-append (Feed call ∷ xs) ys = ap (λ l. events.Feed ∷ l) (events_in-append xs ys)
events_in-append (FeedEnd ∷ xs) ys = events_in-append xs ys
events_in-append (Take worker thread ∷ xs) ys = ap (λ l. events.Take worker thread ∷ l) (events_in-append xs ys)
events_in-append (Put worker ∷ xs) ys = ap (λ l. events.Put worker ∷ l) (events_in-append xs ys)

pub calls_in-append : (xs ys : List Entry) → calls_in (xs ++ ys) ≡ calls_in xs ++ calls_in ys
calls_in-append [] ys = refl
calls_in-append (Feed call ∷ xs) ys = ap (λ l. call ∷ l) (calls_in-append xs ys)
calls_in-append (FeedEnd ∷ xs) ys = calls_in-append xs ys
calls_in-append (Take worker thread ∷ xs) ys = calls_in-append xs ys
calls_in-append (Put worker ∷ xs) ys = calls_in-append xs ys

events_in-from : (fed : List Call) (journal : List Event) → feeds_in journal ≡ length fed → events_in (entries_from fed journal) ≡ journal
events_in-from fed [] same = refl
events_in-from [] (events.Feed ∷ journal) same = absurd (omega (arith, same))
events_in-from (x ∷ fed) (events.Feed ∷ journal) same = ap (λ l. events.Feed ∷ l) (events_in-from fed journal (omega (arith, same)))
events_in-from fed (events.Take worker thread ∷ journal) same = ap (λ l. events.Take worker thread ∷ l) (events_in-from fed journal same)
events_in-from fed (events.Put worker ∷ journal) same = ap (λ l. events.Put worker ∷ l) (events_in-from fed journal same)

calls_in-from : (fed : List Call) (journal : List Event) → feeds_in journal ≡ length fed → calls_in (entries_from fed journal) ≡ fed
calls_in-from [] [] same = refl
calls_in-from (x ∷ fed) [] same = absurd (omega (arith, same))
calls_in-from [] (events.Feed ∷ journal) same = absurd (omega (arith, same))
calls_in-from (x ∷ fed) (events.Feed ∷ journal) same = ap (λ l. x ∷ l) (calls_in-from fed journal (omega (arith, same)))
calls_in-from fed (events.Take worker thread ∷ journal) same = calls_in-from fed journal same
calls_in-from fed (events.Put worker ∷ journal) same = calls_in-from fed journal same

-- the end of the feed is no event and no call
events_in-end : (ended : Option ℕ) (xs : List Entry) → events_in (with_end ended xs) ≡ events_in xs
events_in-end None xs = refl
events_in-end (Some place) xs =
    events_in-append (take place xs) (FeedEnd ∷ drop place xs)
    ∙ sym (events_in-append (take place xs) (drop place xs))
    ∙ ap events_in (take-append-drop place xs)

calls_in-end : (ended : Option ℕ) (xs : List Entry) → calls_in (with_end ended xs) ≡ calls_in xs
calls_in-end None xs = refl
calls_in-end (Some place) xs =
    calls_in-append (take place xs) (FeedEnd ∷ drop place xs)
    ∙ sym (calls_in-append (take place xs) (drop place xs))
    ∙ ap calls_in (take-append-drop place xs)

pub events_are : (fed : List Call) (journal : List Event) (ended : Option ℕ) → feeds_in journal ≡ length fed → events_in (with_end ended (entries_from fed journal)) ≡ journal
events_are fed journal ended same = events_in-end ended (entries_from fed journal) ∙ events_in-from fed journal same

pub calls_are : (fed : List Call) (journal : List Event) (ended : Option ℕ) → feeds_in journal ≡ length fed → calls_in (with_end ended (entries_from fed journal)) ≡ fed
calls_are fed journal ended same = calls_in-end ended (entries_from fed journal) ∙ calls_in-from fed journal same

no_end : (fed : List Call) (journal : List Event) → All (λ e. ¬ (e ≡ FeedEnd)) (entries_from fed journal)
no_end fed [] = All-nil (λ e. ¬ (e ≡ FeedEnd))
no_end [] (events.Feed ∷ journal) = no_end [] journal
no_end (x ∷ fed) (events.Feed ∷ journal) = All-cons (λ e. ¬ (e ≡ FeedEnd)) (Feed x) (entries_from fed journal) (λ is. cc) (no_end fed journal)
no_end fed (events.Take worker thread ∷ journal) = All-cons (λ e. ¬ (e ≡ FeedEnd)) (Take worker thread) (entries_from fed journal) (λ is. cc) (no_end fed journal)
no_end fed (events.Put worker ∷ journal) = All-cons (λ e. ¬ (e ≡ FeedEnd)) (Put worker) (entries_from fed journal) (λ is. cc) (no_end fed journal)

-- the end of the feed is there exactly where the feed ended
pub open_feed : (fed : List Call) (journal : List Event) (ended : Option ℕ) → ended ≡ None → ¬ Contains (with_end ended (entries_from fed journal)) FeedEnd
open_feed fed journal None is here = All-contains (λ e. ¬ (e ≡ FeedEnd)) (entries_from fed journal) FeedEnd (no_end fed journal) here refl
open_feed fed journal (Some place) is here = absurd cc

pub ended_feed : (ended : Option ℕ) (xs : List Entry) → IsSome ended → Contains (with_end ended xs) FeedEnd
ended_feed None xs is = absurd cc
ended_feed (Some place) xs is =
    Contains-append_right (take place xs) (FeedEnd ∷ drop place xs) FeedEnd (Contains-append_left (FeedEnd ∷ []) (drop place xs) FeedEnd (Contains-push [] FeedEnd))

-- how often an entry is the take of a worker, or its put
abbrev pub takes_of : ℕ → Event → ℕ
takes_of w events.Feed = 0
takes_of w (events.Take other thread) = cond (eqb other w) 1 0
takes_of w (events.Put other) = 0

abbrev pub puts_of : ℕ → Event → ℕ
puts_of w events.Feed = 0
puts_of w (events.Take other thread) = 0
puts_of w (events.Put other) = cond (eqb other w) 1 0

abbrev pub takes_by : ℕ → List Event → ℕ
takes_by w [] = 0
takes_by w (e ∷ es) = takes_of w e + takes_by w es

abbrev pub puts_by : ℕ → List Event → ℕ
puts_by w [] = 0
puts_by w (e ∷ es) = puts_of w e + puts_by w es

pub takes_made : (w : ℕ) (xs : List Entry) → takes_in (made_by maker_of w xs) ≡ takes_by w (events_in xs)
takes_made w [] = refl
takes_made w (Feed call ∷ xs) = go (eqb 0 w) (takes_made w xs)
  where
    go : (b : Bool) → takes_in (made_by maker_of w xs) ≡ takes_by w (events_in xs) → takes_in (cond b (Feed call ∷ made_by maker_of w xs) (made_by maker_of w xs)) ≡ 0 + takes_by w (events_in xs)
    go true h = omega (arith, h)
    go false h = omega (arith, h)
takes_made w (FeedEnd ∷ xs) = go (eqb 0 w) (takes_made w xs)
  where
    go : (b : Bool) → takes_in (made_by maker_of w xs) ≡ takes_by w (events_in xs) → takes_in (cond b (FeedEnd ∷ made_by maker_of w xs) (made_by maker_of w xs)) ≡ takes_by w (events_in xs)
    go true h = h
    go false h = h
takes_made w (Take other thread ∷ xs) = go (eqb other w) (takes_made w xs)
  where
    go : (b : Bool) → takes_in (made_by maker_of w xs) ≡ takes_by w (events_in xs) → takes_in (cond b (Take other thread ∷ made_by maker_of w xs) (made_by maker_of w xs)) ≡ cond b 1 0 + takes_by w (events_in xs)
    go true h = omega (arith, h)
    go false h = omega (arith, h)
takes_made w (Put other ∷ xs) = go (eqb other w) (takes_made w xs)
  where
    go : (b : Bool) → takes_in (made_by maker_of w xs) ≡ takes_by w (events_in xs) → takes_in (cond b (Put other ∷ made_by maker_of w xs) (made_by maker_of w xs)) ≡ 0 + takes_by w (events_in xs)
    go true h = omega (arith, h)
    go false h = omega (arith, h)

pub puts_made : (w : ℕ) (xs : List Entry) → puts_in (made_by maker_of w xs) ≡ puts_by w (events_in xs)
puts_made w [] = refl
puts_made w (Feed call ∷ xs) = go (eqb 0 w) (puts_made w xs)
  where
    go : (b : Bool) → puts_in (made_by maker_of w xs) ≡ puts_by w (events_in xs) → puts_in (cond b (Feed call ∷ made_by maker_of w xs) (made_by maker_of w xs)) ≡ 0 + puts_by w (events_in xs)
    go true h = omega (arith, h)
    go false h = omega (arith, h)
puts_made w (FeedEnd ∷ xs) = go (eqb 0 w) (puts_made w xs)
  where
    go : (b : Bool) → puts_in (made_by maker_of w xs) ≡ puts_by w (events_in xs) → puts_in (cond b (FeedEnd ∷ made_by maker_of w xs) (made_by maker_of w xs)) ≡ puts_by w (events_in xs)
    go true h = h
    go false h = h
puts_made w (Take other thread ∷ xs) = go (eqb other w) (puts_made w xs)
  where
    go : (b : Bool) → puts_in (made_by maker_of w xs) ≡ puts_by w (events_in xs) → puts_in (cond b (Take other thread ∷ made_by maker_of w xs) (made_by maker_of w xs)) ≡ 0 + puts_by w (events_in xs)
    go true h = omega (arith, h)
    go false h = omega (arith, h)
puts_made w (Put other ∷ xs) = go (eqb other w) (puts_made w xs)
  where
    go : (b : Bool) → puts_in (made_by maker_of w xs) ≡ puts_by w (events_in xs) → puts_in (cond b (Put other ∷ made_by maker_of w xs) (made_by maker_of w xs)) ≡ cond b 1 0 + puts_by w (events_in xs)
    go true h = omega (arith, h)
    go false h = omega (arith, h)

rest_none : (b : Bool) (e : Entry) (made : List Entry) → cond b (e ∷ made) made ≡ [] → made ≡ []
rest_none true e made h = absurd cc
rest_none false e made h = h

-- entries of which the worker made none have no put of it
pub no_put : (w : ℕ) (xs : List Entry) → made_by maker_of w xs ≡ [] → All (IsNoPut w) (events_in xs)
no_put w [] none = All-nil (IsNoPut w)
no_put w (Feed call ∷ xs) none = All-cons (IsNoPut w) events.Feed (events_in xs) tt (no_put w xs (rest_none (eqb 0 w) (Feed call) (made_by maker_of w xs) none))
no_put w (FeedEnd ∷ xs) none = no_put w xs (rest_none (eqb 0 w) FeedEnd (made_by maker_of w xs) none)
no_put w (Take other thread ∷ xs) none = All-cons (IsNoPut w) (events.Take other thread) (events_in xs) tt (no_put w xs (rest_none (eqb other w) (Take other thread) (made_by maker_of w xs) none))
no_put w (Put other ∷ xs) none = All-cons (IsNoPut w) (events.Put other) (events_in xs) (not_made (Put other) (made_by maker_of w xs) none) (no_put w xs (rest_none (eqb other w) (Put other) (made_by maker_of w xs) none))
  where
    not_made : (e : Entry) (made : List Entry) → cond (eqb other w) (e ∷ made) made ≡ [] → ¬ (other ≡ w)
    not_made e made h same =
        let first : cond (eqb other w) (e ∷ made) made ≡ e ∷ made = ap (λ b. cond b (e ∷ made) made) (eq-eqb other w same) in
        let both : e ∷ made ≡ [] = sym first ∙ h in
        cc
