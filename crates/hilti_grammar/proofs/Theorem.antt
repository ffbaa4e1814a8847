-- Reading ends exactly.
use Rattle.std.proofs.Common.{◌≡◌, ℕ, zero, suc, Bool, true, false, ◌&&◌, List, [], ◌∷◌, ◌++◌, Some, refl, sym, ◌∙◌, ap, subst, append_assoc, get_or}
use Rattle.std.specs.Prelude.{slice_get}
use Rattle.std.specs.List.{list_all}
use Rattle.std.specs.Option.{option_map}
use Rattle.std.proofs.Common.{inl, inr}
use Rattle.std.proofs.lemmas.List.{append-nil}
use Rattle.std.proofs.lemmas.Option.{slice_get-map, get_or_from_slice_get}
use Rattle.hilti_grammar.specs.Grammar.{Grammar, Keep, Symbol, Symbol.One, Symbol.Empty, Symbol.◌▹◌, Symbol.◌⊕◌, Symbol.Many, Symbol.Rule, Tree, Tree.Nothing, Tree.Pair, Tree.Left, Tree.Right, has, sees, kept}
use Rattle.hilti_grammar.specs.Derives.{Derives, Derives.AToken, Derives.NoToken, Derives.Both, Derives.TheLeft, Derives.TheRight, Derives.NoMore, Derives.OneMore, Derives.ByRule, CanBegin}
use Rattle.hilti_grammar.specs.Predictive.{Known, within, known, fits, has_sample, told, table, unknown, brings, rule_holds, is_predictive}
use Rattle.hilti_grammar.specs.Runs.{Faults, Outcome, Outcome.Done, Outcome.Failed, changed, Runs, Runs.GivesUp, Runs.Takes, Runs.Refuses, Runs.Leaves, Runs.FirstFails, Runs.Then, Runs.ToLeft, Runs.ToRight, Runs.Ends, Runs.NextFails, Runs.GoesOn, Runs.Follows}
use Rattle.hilti_grammar.specs.Exact.{GoesNoFurther, EndsExactly, known_rules, ReadsExactly, EndsWhole, ReadsWhole, RefusesFirst, HasOneTree}
use Rattle.hilti_grammar.proofs.Sets.{and_left, and_right, or_cases, next_sees, true_not_false, within_has, four_parts}
use Rattle.hilti_grammar.proofs.Lookahead.{IsSound, Fruitful, first, more, first_of}
use Rattle.hilti_grammar.proofs.Derived.{two_fit, either_fits, many_fits, one_tree}
use Rattle.hilti_grammar.proofs.Ends.{NoLonger, Took, Held, Stopped, EndsSo, begin_two, begin_second, begin_next, begin_later, begin_left, begin_right, begin_rule, whole_begins, regroup, sampled, two_longest, two_held, first_longest, first_held, many_longest, many_held, next_longest, next_held, left_longest, left_held, right_longest, right_held}

module _ {K R P T : Type 0} (g : Grammar K R P T) (of_rule : R → Known K) where
  -- what is known to derive something does, where that holds of rules
  pub fruit_from : ((r : R) → (of_rule r).fruitful ≡ true → Fruitful g (Rule r)) → (s : Symbol K R) → (known g of_rule s).fruitful ≡ true → Fruitful g s
  fruit_from rules (One keep set) h = sampled g keep set h
  fruit_from rules Empty h = ([], Nothing, NoToken)
  fruit_from rules (a ▹ b) h =
      let (us, x, d) = fruit_from rules a (and_left (known g of_rule a).fruitful (known g of_rule b).fruitful h) in
      let (vs, y, f) = fruit_from rules b (and_right (known g of_rule a).fruitful (known g of_rule b).fruitful h) in
      (us ++ vs, Pair x y, Both d f)
  fruit_from rules (a ⊕ b) h = elim (or_cases (known g of_rule a).fruitful (known g of_rule b).fruitful h) [
    | inl i ↦ let (us, x, d) = fruit_from rules a i in (us, Left x, TheLeft d)
    | inr i ↦ let (us, x, d) = fruit_from rules b i in (us, Right x, TheRight d)
  ]
  fruit_from rules (Many a) h = ([], Nothing, NoMore)
  fruit_from rules (Rule r) h = rules r h

module _ {K R P T E : Type 0} (g : Grammar K R P T) (of_rule : R → Known K) (S : IsSound g of_rule) (faults : Faults E K T) where
  fruit_of : (s : Symbol K R) → (known g of_rule s).fruitful ≡ true → Fruitful g s
  fruit_of = fruit_from g of_rule (λ r h. S.fruit r)

  -- one token
  takes : (keep : Keep) (set : List K) (token : T) (rest : List T) → has g set (g.kind token) ≡ true → Took g (One keep set) (token ∷ rest) (kept g keep token) rest
  takes keep set token rest h = record { used = token ∷ []; split = refl; derives = AToken h; longest = longest }
    where
      longest : NoLonger g (One keep set) (token ∷ []) rest
      longest _ _ (AToken i) k m e r next = cc

  refuses : (keep : Keep) (set : List K) (ts : List T) (e : E) → has_sample g set ≡ true → sees g set ts ≡ false → faults.explains e set ts ≡ true → Stopped g of_rule faults (One keep set) ts e ts
  refuses keep set ts e fit unseen explained = record {
    used = [];
    split = refl;
    viable = sampled g keep set fit;
    ends = ends;
    held = held;
    wanted = set;
    explained = explained;
    allowed = λ token h. ([], kept g keep token, AToken h);
  }
    where
      ends : NoLonger g (One keep set) [] ts
      ends _ _ (AToken {token = token} i) k m e r next =
          let same : token ≡ k = cc in
          true_not_false (sees g set ts) (next_sees g set ts k r next (subst (λ t. has g set (g.kind t) ≡ true) same i)) unseen

      held : Held g of_rule (One keep set) [] ts
      held _ _ (AToken i) e = cc

  leaves : (ts : List T) → Took g Empty ts Nothing ts
  leaves ts = record { used = []; split = refl; derives = NoToken; longest = longest }
    where
      longest : NoLonger g Empty [] ts
      longest _ _ NoToken k m e r next = cc

  -- two symbols
  first_fails : (a b : Symbol K R) (ts left : List T) (e : E) → fits g of_rule (a ▹ b) ≡ true → Stopped g of_rule faults a ts e left → Stopped g of_rule faults (a ▹ b) ts e left
  first_fails a b ts left e fit p =
      let fruit = fruit_of b (two_fit g of_rule S a b fit).2 in
      record {
        used = p.used;
        split = p.split;
        viable = begin_two g a b p.used p.viable fruit;
        ends = first_longest g of_rule S a b p.used left fit p.viable p.ends p.held;
        held = first_held g of_rule S a b p.used left fit p.viable p.ends p.held;
        wanted = p.wanted;
        explained = p.explained;
        allowed = λ token h. begin_two g a b (p.used ++ token ∷ []) (p.allowed token h) fruit;
      }

  split_two : (ts mid left ua ub : List T) → ts ≡ ua ++ mid → mid ≡ ub ++ left → ts ≡ (ua ++ ub) ++ left
  split_two ts mid left ua ub p q = p ∙ ap (λ l. ua ++ l) q ∙ sym (append_assoc ua ub left)

  second_ends : (a b : Symbol K R) (ts mid : List T) (x : Tree P T) (out : Outcome E P T) → fits g of_rule (a ▹ b) ≡ true → Took g a ts x mid → EndsSo g of_rule faults b mid out →
      EndsSo g of_rule faults (a ▹ b) ts (changed (Pair x) out)
  second_ends a b ts mid x (Done y left) fit p q = record {
    used = p.used ++ q.used;
    split = split_two ts mid left p.used q.used p.split q.split;
    derives = Both p.derives q.derives;
    longest = two_longest g of_rule S a b p.used q.used mid left fit (whole_begins g a p.used x p.derives) p.longest q.split q.longest;
  }
  second_ends a b ts mid x (Failed e left) fit p stops = λ refusing.
      let q = stops refusing in
      record {
        used = p.used ++ q.used;
        split = split_two ts mid left p.used q.used p.split q.split;
        viable = begin_second g a b p.used q.used x p.derives q.viable;
        ends = two_longest g of_rule S a b p.used q.used mid left fit (whole_begins g a p.used x p.derives) p.longest q.split q.ends;
        held = two_held g of_rule S a b p.used q.used mid left fit (whole_begins g a p.used x p.derives) p.longest q.split q.held;
        wanted = q.wanted;
        explained = q.explained;
        allowed = λ token h. regroup g (a ▹ b) p.used q.used (token ∷ []) (begin_second g a b p.used (q.used ++ token ∷ []) x p.derives (q.allowed token h));
      }

  -- two alternatives
  left_ends : (a b : Symbol K R) (ts : List T) (out : Outcome E P T) → fits g of_rule (a ⊕ b) ≡ true → sees g (first g of_rule a) ts ≡ true → EndsSo g of_rule faults a ts out →
      EndsSo g of_rule faults (a ⊕ b) ts (changed Left out)
  left_ends a b ts (Done x left) fit seen p = record {
    used = p.used;
    split = p.split;
    derives = TheLeft p.derives;
    longest = left_longest g of_rule S a b ts p.used left fit seen p.split p.longest;
  }
  left_ends a b ts (Failed e left) fit seen stops = λ refusing.
      let p = stops refusing in
      record {
        used = p.used;
        split = p.split;
        viable = begin_left g a b p.used p.viable;
        ends = left_longest g of_rule S a b ts p.used left fit seen p.split p.ends;
        held = left_held g of_rule S a b ts p.used left fit seen p.split p.held;
        wanted = p.wanted;
        explained = p.explained;
        allowed = λ token h. begin_left g a b (p.used ++ token ∷ []) (p.allowed token h);
      }

  right_ends : (a b : Symbol K R) (ts : List T) (out : Outcome E P T) → fits g of_rule (a ⊕ b) ≡ true → sees g (first g of_rule a) ts ≡ false → EndsSo g of_rule faults b ts out →
      EndsSo g of_rule faults (a ⊕ b) ts (changed Right out)
  right_ends a b ts (Done x left) fit unseen p = record {
    used = p.used;
    split = p.split;
    derives = TheRight p.derives;
    longest = right_longest g of_rule S a b ts p.used left fit unseen p.split p.longest;
  }
  right_ends a b ts (Failed e left) fit unseen stops = λ refusing.
      let p = stops refusing in
      record {
        used = p.used;
        split = p.split;
        viable = begin_right g a b p.used p.viable;
        ends = right_longest g of_rule S a b ts p.used left fit unseen p.split p.ends;
        held = right_held g of_rule S a b ts p.used left fit unseen p.split p.held;
        wanted = p.wanted;
        explained = p.explained;
        allowed = λ token h. begin_right g a b (p.used ++ token ∷ []) (p.allowed token h);
      }

  -- repetitions
  none_more : (a : Symbol K R) (ts : List T) → sees g (first g of_rule a) ts ≡ false → Took g (Many a) ts Nothing ts
  none_more a ts unseen = record { used = []; split = refl; derives = NoMore; longest = longest }
    where
      longest : NoLonger g (Many a) [] ts
      longest vs y d k m e r next = true_not_false (sees g (first g of_rule a) ts) (next_sees g (first g of_rule a) ts k r next (first_of g of_rule S _ _ _ d k m e)) unseen

  next_fails : (a : Symbol K R) (ts left : List T) (e : E) → fits g of_rule (Many a) ≡ true → sees g (first g of_rule a) ts ≡ true →
      Stopped g of_rule faults a ts e left → Stopped g of_rule faults (Many a) ts e left
  next_fails a ts left e fit seen p = record {
    used = p.used;
    split = p.split;
    viable = begin_next g a p.used p.viable;
    ends = next_longest g of_rule S a p.used left fit p.viable p.ends p.held;
    held = next_held g of_rule S a ts p.used left fit seen p.split p.viable p.ends p.held;
    wanted = p.wanted;
    explained = p.explained;
    allowed = λ token h. begin_next g a (p.used ++ token ∷ []) (p.allowed token h);
  }

  later_ends : (a : Symbol K R) (ts mid : List T) (x : Tree P T) (out : Outcome E P T) → fits g of_rule (Many a) ≡ true → Took g a ts x mid → EndsSo g of_rule faults (Many a) mid out →
      EndsSo g of_rule faults (Many a) ts (changed (Pair x) out)
  later_ends a ts mid x (Done y left) fit p q = record {
    used = p.used ++ q.used;
    split = split_two ts mid left p.used q.used p.split q.split;
    derives = OneMore p.derives q.derives;
    longest = many_longest g of_rule S a p.used q.used mid left fit (whole_begins g a p.used x p.derives) p.longest q.split q.longest;
  }
  later_ends a ts mid x (Failed e left) fit p stops = λ refusing.
      let q = stops refusing in
      record {
        used = p.used ++ q.used;
        split = split_two ts mid left p.used q.used p.split q.split;
        viable = begin_later g a p.used q.used x p.derives q.viable;
        ends = many_longest g of_rule S a p.used q.used mid left fit (whole_begins g a p.used x p.derives) p.longest q.split q.ends;
        held = many_held g of_rule S a p.used q.used mid left x fit p.derives p.longest q.split q.held;
        wanted = q.wanted;
        explained = q.explained;
        allowed = λ token h. regroup g (Many a) p.used q.used (token ∷ []) (begin_later g a p.used (q.used ++ token ∷ []) x p.derives (q.allowed token h));
      }

  -- a rule
  rule_longest : (r : R) (used left : List T) → NoLonger g (g.body r) used left → NoLonger g (Rule r) used left
  rule_longest r used left ends _ _ (ByRule {us = us} {x = x} d) = ends us x d

  rule_held : (r : R) (used left : List T) → Held g of_rule (g.body r) used left → Held g of_rule (Rule r) used left
  rule_held r used left held _ _ (ByRule {us = us} {x = x} d) e = grow left (held us x d e)
    where
      grow : (left : List T) → sees g (more g of_rule (g.body r)) left ≡ true → sees g (more g of_rule (Rule r)) left ≡ true
      grow [] h = h
      grow (t ∷ left) h = S.more r (g.kind t) h

  rule_ends : (r : R) (ts : List T) (out : Outcome E P T) → EndsSo g of_rule faults (g.body r) ts out → EndsSo g of_rule faults (Rule r) ts out
  rule_ends r ts (Done x left) p = record { used = p.used; split = p.split; derives = ByRule p.derives; longest = rule_longest r p.used left p.longest }
  rule_ends r ts (Failed e left) stops = λ refusing.
      let p = stops refusing in
      record {
        used = p.used;
        split = p.split;
        viable = begin_rule g r p.used p.viable;
        ends = rule_longest r p.used left p.ends;
        held = rule_held r p.used left p.held;
        wanted = p.wanted;
        explained = p.explained;
        allowed = λ token h. begin_rule g r (p.used ++ token ∷ []) (p.allowed token h);
      }

  -- reading ends as the derivations say
  pub ends_so : (s : Symbol K R) (ts : List T) (out : Outcome E P T) → Runs g of_rule faults s ts out → fits g of_rule s ≡ true → EndsSo g of_rule faults s ts out
  ends_so _ _ _ (GivesUp {e = e} h) fit = λ refusing. absurd (true_not_false (faults.refuses e) refusing h)
  ends_so _ _ _ (Takes {keep = keep} {set = set} {token = token} {rest = rest} h) fit = takes keep set token rest h
  ends_so _ _ _ (Refuses {keep = keep} {set = set} {ts = ts} {e = e} unseen explained) fit = λ refusing. refuses keep set ts e fit unseen explained
  ends_so _ _ _ (Leaves {ts = ts}) fit = leaves ts
  ends_so _ _ _ (FirstFails {a = a} {b = b} {ts = ts} {rest = rest} {e = e} d) fit = λ refusing. first_fails a b ts rest e fit (ends_so _ _ _ d (two_fit g of_rule S a b fit).0 refusing)
  ends_so _ _ _ (Then {a = a} {b = b} {ts = ts} {mid = mid} {x = x} {out = out} d f) fit =
      second_ends a b ts mid x out fit (ends_so _ _ _ d (two_fit g of_rule S a b fit).0) (ends_so _ _ _ f (two_fit g of_rule S a b fit).1)
  ends_so _ _ _ (ToLeft {a = a} {b = b} {ts = ts} {out = out} seen d) fit = left_ends a b ts out fit seen (ends_so _ _ _ d (either_fits g of_rule S a b fit).0)
  ends_so _ _ _ (ToRight {a = a} {b = b} {ts = ts} {out = out} unseen d) fit = right_ends a b ts out fit unseen (ends_so _ _ _ d (either_fits g of_rule S a b fit).1)
  ends_so _ _ _ (Ends {a = a} {ts = ts} unseen) fit = none_more a ts unseen
  ends_so _ _ _ (NextFails {a = a} {ts = ts} {rest = rest} {e = e} seen d) fit = λ refusing. next_fails a ts rest e fit seen (ends_so _ _ _ d (many_fits g of_rule S a fit).0 refusing)
  ends_so _ _ _ (GoesOn {a = a} {ts = ts} {mid = mid} {x = x} {out = out} seen d f) fit =
      later_ends a ts mid x out fit (ends_so _ _ _ d (many_fits g of_rule S a fit).0) (ends_so _ _ _ f fit)
  ends_so _ _ _ (Follows {r = r} {ts = ts} {out = out} d) fit = rule_ends r ts out (ends_so _ _ _ d (S.fits r))

-- from what is known after the rounds
module _ {K R P T : Type 0} (g : Grammar K R P T) where
  -- what a rule's entry is after a round
  told-suc : (n : ℕ) (r : R) → told g (table g (suc n)) r ≡ known g (told g (table g n)) (g.body r)
  told-suc n r =
      get_or_from_slice_get (table g (suc n)) (g.index r) (known g (told g (table g n)) (g.body r)) unknown
      (slice_get-map (λ q. known g (told g (table g n)) (g.body q)) g.rules (g.index r) ∙ ap (option_map (λ q. known g (told g (table g n)) (g.body q))) (g.listed r))

  fruitful_after : (n : ℕ) (r : R) → (told g (table g n) r).fruitful ≡ true → Fruitful g (Rule r)
  fruitful_after zero r h = nothing (g.index r) h
    where
      nothing : (i : ℕ) → (get_or [] i (unknown {K = K})).fruitful ≡ true → Fruitful g (Rule r)
      nothing zero h = cc
      nothing (suc i) h = cc
  fruitful_after (suc n) r h =
      let is : (known g (told g (table g n)) (g.body r)).fruitful ≡ true = subst (λ k. k.fruitful ≡ true) (told-suc n r) h in
      let (us, x, d) = fruit_from g (told g (table g n)) (fruitful_after n) (g.body r) is in
      (us, x, ByRule d)

  listed_holds : (p : R → Bool) (rs : List R) (i : ℕ) (r : R) → slice_get rs i ≡ Some r → list_all p rs ≡ true → p r ≡ true
  listed_holds p [] i r e h = cc
  listed_holds p (q ∷ rs) zero r e h = let same : q ≡ r = cc in subst (λ t. p t ≡ true) same (and_left (p q) (list_all p rs) h)
  listed_holds p (q ∷ rs) (suc i) r e h = listed_holds p rs i r e (and_right (p q) (list_all p rs) h)

  brought : (a b : Bool) → brings a b ≡ true → a ≡ true → b ≡ true
  brought true b h i = h
  brought false b h i = cc

  -- what a predictive grammar knows of its rules is so
  pub sound : is_predictive g ≡ true → IsSound g (known_rules g)
  sound predictive = record {
    empty = λ r. brought (known g of_rule (g.body r)).empty (of_rule r).empty (and_left _ (tests r) (holds r));
    first = λ r k. within_has g (known g of_rule (g.body r)).first (of_rule r).first k (parts r).1;
    more = λ r k. within_has g (known g of_rule (g.body r)).more (of_rule r).more k (parts r).2;
    fits = λ r. (parts r).3;
    fruit = λ r. fruitful_after g.rounds r (parts r).0;
  }
    where
      of_rule : R → Known K
      of_rule = known_rules g

      holds : (r : R) → rule_holds g (known_rules g) r ≡ true
      holds r = listed_holds (rule_holds g (known_rules g)) g.rules (g.index r) r (g.listed r) predictive

      tests : R → Bool
      tests r = (known_rules g r).fruitful && (within g (known g (known_rules g) (g.body r)).first (known_rules g r).first && (within g (known g (known_rules g) (g.body r)).more (known_rules g r).more && fits g (known_rules g) (g.body r)))

      parts : (r : R) → ((known_rules g r).fruitful ≡ true) × (within g (known g (known_rules g) (g.body r)).first (known_rules g r).first ≡ true)
          × (within g (known g (known_rules g) (g.body r)).more (known_rules g r).more ≡ true) × (fits g (known_rules g) (g.body r) ≡ true)
      parts r = four_parts _ _ _ _ (and_right (brings (known g (known_rules g) (g.body r)).empty (known_rules g r).empty) (tests r) (holds r))

module _ {K R P T E : Type 0} (g : Grammar K R P T) (faults : Faults E K T) where
  none_begins : (s : Symbol K R) (used : List T) (next : T) (rest : List T) → NoLonger g s used (next ∷ rest) → CanBegin g s (used ++ next ∷ []) → ⊥
  none_begins s used next rest ends (z, y, d) = ends ((used ++ next ∷ []) ++ z) y d next z (append_assoc used (next ∷ []) z) rest refl

  goes_no_further : (of_rule : R → Known K) (s : Symbol K R) (used left : List T) → NoLonger g s used left → Held g of_rule s used left → GoesNoFurther g s used left
  goes_no_further of_rule s used [] ends held = λ y d. ended (held used y d refl)
    where
      ended : false ≡ true → ⊥
      ended h = cc
  goes_no_further of_rule s used (next ∷ rest) ends held = none_begins s used next rest ends

  pub exactly : ReadsExactly g faults
  exactly predictive r ts out d = go out (ends_so g (known_rules g) (sound g predictive) faults (Rule r) ts out d refl)
    where
      go : (out : Outcome E P T) → EndsSo g (known_rules g) faults (Rule r) ts out → EndsExactly g faults (Rule r) ts out
      go (Done x rest) p = record {
        used = p.used;
        split = p.split;
        derives = p.derives;
        only = λ y f. one_tree g (known_rules g) (sound g predictive) (Rule r) _ _ f _ _ p.derives refl refl;
        longest = λ next more e h. none_begins (Rule r) p.used next more (subst (NoLonger g (Rule r) p.used) e p.longest) h;
      }
      go (Failed e left) stops = λ refusing.
          let p = stops refusing in
          record {
            used = p.used;
            split = p.split;
            refused = record { viable = p.viable; ends = goes_no_further (known_rules g) (Rule r) p.used left p.ends p.held };
            wanted = p.wanted;
            explained = p.explained;
            allowed = p.allowed;
          }

  pub ends_whole : ReadsWhole g faults
  ends_whole predictive r ts out d = go out (exactly predictive r ts out d)
    where
      go : (out : Outcome E P T) → EndsExactly g faults (Rule r) ts out → EndsWhole g faults (Rule r) ts out
      go (Done x []) p =
          let all : p.used ≡ ts = sym (append-nil p.used) ∙ sym p.split in
          (subst (λ l. Derives g (Rule r) l x) all p.derives, λ y f. p.only y (subst (λ l. Derives g (Rule r) l y) (sym all) f))
      go (Done x (next ∷ rest)) p = (p.used, p.split, record { viable = whole_begins g (Rule r) p.used x p.derives; ends = p.longest next rest refl })
      go (Failed e left) p = p

module _ {K R P T : Type 0} (g : Grammar K R P T) where
  fewer : (s : Symbol K R) (us vs : List T) → CanBegin g s (us ++ vs) → CanBegin g s us
  fewer s us vs (z, y, d) = (vs ++ z, y, subst (λ l. Derives g s l y) (append_assoc us vs z) d)

  pub first_refusal : RefusesFirst g
  first_refusal s used left p = record {
    fronts = λ us vs e. fewer s us vs (subst (CanBegin g s) (sym e) p.viable);
    behind = λ next us vs e h. no_more left p.ends next us vs e h;
    whole = λ y d. no_whole left p.ends y d;
  }
    where
      no_more : (left : List T) → GoesNoFurther g s used left → (next : T) (us vs : List T) → (next ∷ us) ++ vs ≡ left → CanBegin g s (used ++ next ∷ us) → ⊥
      no_more [] ends next us vs e h = cc
      no_more (t ∷ left) ends next us vs e h =
          let same : next ≡ t = cc in
          ends (subst (λ k. CanBegin g s (used ++ k ∷ [])) same (fewer s (used ++ next ∷ []) us (subst (CanBegin g s) (sym (append_assoc used (next ∷ []) us)) h)))

      no_whole : (left : List T) → GoesNoFurther g s used left → (y : Tree P T) → Derives g s (used ++ left) y → ⊥
      no_whole [] ends y d = ends y (subst (λ l. Derives g s l y) (append-nil used) d)
      no_whole (t ∷ left) ends y d = ends (left, y, subst (λ l. Derives g s l y) (sym (append_assoc used (t ∷ []) left)) d)

  pub has_one_tree : HasOneTree g
  has_one_tree predictive r ts x y d f = one_tree g (known_rules g) (sound g predictive) (Rule r) ts x d ts y f refl refl
