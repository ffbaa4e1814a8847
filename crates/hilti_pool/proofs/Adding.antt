-- What each event adds to the entries.
use Rattle.std.proofs.Common.{◌≡◌, ℕ, ◌+◌, ◌≤◌, suc, List, [], ◌∷◌, ◌++◌, length, map, take, drop, Option, Some, None, IfSome, MatchOption, refl, ap, sym, ◌∙◌, subst, arith, length-append, append_assoc}
use Rattle.std.proofs.lemmas.List.{take-append-le, drop-append-le, take_all, drop_all, length_push, length-take, length-drop}
use Rattle.hilti_base.specs.declared.names.ThreadId.{ThreadId}
use Rattle.hilti_tree.specs.declared.call.Call.{Call}
use Rattle.hilti_core.specs.declared.event.Event.{Event}
use Rattle.hilti_core.specs.declared.event.Event.TheVariants as events
use Rattle.hilti_pool.specs.declared.entries.Entry.{Entry}
use Rattle.hilti_pool.specs.declared.entries.Entry.TheVariants.{Feed, FeedEnd, Take, Put}
use Rattle.hilti_pool.specs.State.{PoolState, end_of}
use Rattle.hilti_pool.specs.Entries.{feeds_in, entries_from, with_end, AreEntries, entries_of}

entries_from-feed : (fed : List Call) (journal : List Event) (call : Call) → feeds_in journal ≡ length fed → entries_from (fed ++ call ∷ []) (journal ++ events.Feed ∷ []) ≡ entries_from fed journal ++ Feed call ∷ []
entries_from-feed [] [] call same = refl
entries_from-feed (x ∷ fed) [] call same = absurd cc
entries_from-feed [] (events.Feed ∷ journal) call same = absurd cc
entries_from-feed (x ∷ fed) (events.Feed ∷ journal) call same = ap (λ l. Feed x ∷ l) (entries_from-feed fed journal call (omega (arith, same)))
entries_from-feed fed (events.Take worker thread ∷ journal) call same = ap (λ l. Take worker thread ∷ l) (entries_from-feed fed journal call same)
entries_from-feed fed (events.Put worker ∷ journal) call same = ap (λ l. Put worker ∷ l) (entries_from-feed fed journal call same)

entries_from-take : (fed : List Call) (journal : List Event) (worker : ℕ) (thread : ThreadId) → entries_from fed (journal ++ events.Take worker thread ∷ []) ≡ entries_from fed journal ++ Take worker thread ∷ []
entries_from-take fed [] worker thread = refl
entries_from-take fed (events.Feed ∷ journal) worker thread =
    ap (λ l. map Feed (take 1 fed) ++ l) (entries_from-take (drop 1 fed) journal worker thread) ∙ sym (append_assoc (map Feed (take 1 fed)) (entries_from (drop 1 fed) journal) (Take worker thread ∷ []))
entries_from-take fed (events.Take w t ∷ journal) worker thread = ap (λ l. Take w t ∷ l) (entries_from-take fed journal worker thread)
entries_from-take fed (events.Put w ∷ journal) worker thread = ap (λ l. Put w ∷ l) (entries_from-take fed journal worker thread)

entries_from-put : (fed : List Call) (journal : List Event) (worker : ℕ) → entries_from fed (journal ++ events.Put worker ∷ []) ≡ entries_from fed journal ++ Put worker ∷ []
entries_from-put fed [] worker = refl
entries_from-put fed (events.Feed ∷ journal) worker =
    ap (λ l. map Feed (take 1 fed) ++ l) (entries_from-put (drop 1 fed) journal worker) ∙ sym (append_assoc (map Feed (take 1 fed)) (entries_from (drop 1 fed) journal) (Put worker ∷ []))
entries_from-put fed (events.Take w t ∷ journal) worker = ap (λ l. Take w t ∷ l) (entries_from-put fed journal worker)
entries_from-put fed (events.Put w ∷ journal) worker = ap (λ l. Put w ∷ l) (entries_from-put fed journal worker)

length-entries_from : (fed : List Call) (journal : List Event) → feeds_in journal ≡ length fed → length (entries_from fed journal) ≡ length journal
length-entries_from [] [] same = refl
length-entries_from (x ∷ fed) [] same = absurd cc
length-entries_from [] (events.Feed ∷ journal) same = absurd cc
length-entries_from (x ∷ fed) (events.Feed ∷ journal) same = ap suc (length-entries_from fed journal (omega (arith, same)))
length-entries_from fed (events.Take worker thread ∷ journal) same = ap suc (length-entries_from fed journal same)
length-entries_from fed (events.Put worker ∷ journal) same = ap suc (length-entries_from fed journal same)

-- an entry behind those that are there stands behind the end of the feed too
end_before : (ended : Option ℕ) (xs : List Entry) (x : Entry) → IfSome ended (λ place. place ≤ length xs) → with_end ended (xs ++ x ∷ []) ≡ with_end ended xs ++ x ∷ []
end_before None xs x h = refl
end_before (Some place) xs x h =
    ap (λ l. l ++ FeedEnd ∷ drop place (xs ++ x ∷ [])) (take-append-le place xs (x ∷ []) h)
    ∙ ap (λ l. take place xs ++ FeedEnd ∷ l) (drop-append-le place xs (x ∷ []) h)
    ∙ sym (append_assoc (take place xs) (FeedEnd ∷ drop place xs) (x ∷ []))

placed : (ended : Option ℕ) (n m : ℕ) → n ≡ m → IfSome ended (λ place. place ≤ n) → IfSome ended (λ place. place ≤ m)
placed None n m same h = tt
placed (Some place) n m same h = omega (arith, same, h)

later : (ended : Option ℕ) (n m : ℕ) → n ≤ m → IfSome ended (λ place. place ≤ n) → IfSome ended (λ place. place ≤ m)
later None n m more h = tt
later (Some place) n m more h = omega (arith, more, h)

feeds-other : (journal : List Event) (e : Event) → feeds_in (e ∷ []) ≡ 0 → feeds_in (journal ++ e ∷ []) ≡ feeds_in journal
feeds-other [] e none = none
feeds-other (events.Feed ∷ journal) e none = ap suc (feeds-other journal e none)
feeds-other (events.Take worker thread ∷ journal) e none = feeds-other journal e none
feeds-other (events.Put worker ∷ journal) e none = feeds-other journal e none

feeds-feed : (journal : List Event) → feeds_in (journal ++ events.Feed ∷ []) ≡ suc (feeds_in journal)
feeds-feed [] = refl
feeds-feed (events.Feed ∷ journal) = ap suc (feeds-feed journal)
feeds-feed (events.Take worker thread ∷ journal) = feeds-feed journal
feeds-feed (events.Put worker ∷ journal) = feeds-feed journal

module _ (fed : List Call) (journal : List Event) (ended : Option ℕ) (h : AreEntries fed journal ended) where
  behind : IfSome ended (λ place. place ≤ length (entries_from fed journal))
  behind = placed ended (length journal) (length (entries_from fed journal)) (sym (length-entries_from fed journal h.feeds)) h.place

  pub feed_adds : (call : Call) → with_end ended (entries_from (fed ++ call ∷ []) (journal ++ events.Feed ∷ [])) ≡ with_end ended (entries_from fed journal) ++ Feed call ∷ []
  feed_adds call = ap (with_end ended) (entries_from-feed fed journal call h.feeds) ∙ end_before ended (entries_from fed journal) (Feed call) behind

  pub take_adds : (worker : ℕ) (thread : ThreadId) → with_end ended (entries_from fed (journal ++ events.Take worker thread ∷ [])) ≡ with_end ended (entries_from fed journal) ++ Take worker thread ∷ []
  take_adds worker thread = ap (with_end ended) (entries_from-take fed journal worker thread) ∙ end_before ended (entries_from fed journal) (Take worker thread) behind

  pub put_adds : (worker : ℕ) → with_end ended (entries_from fed (journal ++ events.Put worker ∷ [])) ≡ with_end ended (entries_from fed journal) ++ Put worker ∷ []
  put_adds worker = ap (with_end ended) (entries_from-put fed journal worker) ∙ end_before ended (entries_from fed journal) (Put worker) behind

  pub fed_entries : (call : Call) → AreEntries (fed ++ call ∷ []) (journal ++ events.Feed ∷ []) ended
  fed_entries call = record {
    feeds = let a = feeds-feed journal in let b = length_push fed call in omega (arith, a, b, h.feeds);
    place = let a = length_push journal events.Feed in later ended (length journal) (length (journal ++ events.Feed ∷ [])) (omega (arith, a)) h.place;
  }

  -- an event that isn't a feed
  pub other_entries : (e : Event) → feeds_in (e ∷ []) ≡ 0 → AreEntries fed (journal ++ e ∷ []) ended
  other_entries e none = record {
    feeds = feeds-other journal e none ∙ h.feeds;
    place = let a = length_push journal e in later ended (length journal) (length (journal ++ e ∷ [])) (omega (arith, a)) h.place;
  }

  -- how many entries there are
  pub count_going : (n : ℕ) → n ≡ length journal → ended ≡ None → n ≡ length (with_end ended (entries_from fed journal))
  count_going n is on = is ∙ sym (length-entries_from fed journal h.feeds) ∙ ap (λ o. length (with_end o (entries_from fed journal))) (sym on)

  pub count_ended : (n place : ℕ) → n ≡ length journal → ended ≡ Some place → n + 1 ≡ length (with_end ended (entries_from fed journal))
  count_ended n place is at =
      let all = length-entries_from fed journal h.feeds in
      let a = length-take place (entries_from fed journal) in
      let b = length-drop place (entries_from fed journal) in
      let both = length-append (take place (entries_from fed journal)) (FeedEnd ∷ drop place (entries_from fed journal)) in
      let low : place ≤ length journal = subst (λ o. IfSome o (λ place. place ≤ length journal)) at h.place in
      let same : n + 1 ≡ length (with_end (Some place) (entries_from fed journal)) = omega (arith, all, a, b, both, is, low) in
      same ∙ ap (λ o. length (with_end o (entries_from fed journal))) (sym at)

-- the feed ends behind all entries, if it hadn't ended before
pub end_adds : (fed : List Call) (journal : List Event) → feeds_in journal ≡ length fed → with_end (end_of None journal) (entries_from fed journal) ≡ entries_from fed journal ++ FeedEnd ∷ []
end_adds fed journal feeds =
    let all = length-entries_from fed journal feeds in
    let below : length (entries_from fed journal) ≤ length journal = omega (arith, all) in
    ap (λ l. l ++ FeedEnd ∷ drop (length journal) (entries_from fed journal)) (take_all (length journal) (entries_from fed journal) below)
    ∙ ap (λ l. entries_from fed journal ++ FeedEnd ∷ l) (drop_all (length journal) (entries_from fed journal) below)

-- what the end of the feed adds, in words of a pool whose feed hasn't ended
pub end_tells : {D : Type 0} (pool shown : PoolState D) (n : ℕ) → pool ≡ shown → AreEntries pool.fed pool.journal pool.ended → pool.ended ≡ None → n ≡ length pool.journal →
    MatchOption shown.ended (with_end (Some n) (entries_from pool.fed pool.journal) ≡ entries_of shown ++ FeedEnd ∷ []) (λ _. with_end (Some n) (entries_from pool.fed pool.journal) ≡ entries_of shown)
end_tells pool shown n is h on long =
    let ended = entries_from pool.fed pool.journal in
    let adds : with_end (Some n) ended ≡ entries_of shown ++ FeedEnd ∷ [] =
    ap (λ k. with_end (Some k) ended) long ∙ end_adds pool.fed pool.journal h.feeds ∙ ap (λ o. with_end o ended ++ FeedEnd ∷ []) (sym on) ∙ ap (λ p. entries_of p ++ FeedEnd ∷ []) is in
    subst (λ o. MatchOption o (with_end (Some n) ended ≡ entries_of shown ++ FeedEnd ∷ []) (λ _. with_end (Some n) ended ≡ entries_of shown)) (sym (ap (λ p. p.ended) (sym is) ∙ on)) adds
