-- How reading each symbol ends, from how reading its parts ends.
use Rattle.std.proofs.Common.{◌≡◌, true, false, List, [], ◌∷◌, ◌++◌, refl, sym, ◌∙◌, ap, subst, append_assoc}
use Rattle.std.proofs.lemmas.List.{append-nil}
use Rattle.hilti_grammar.specs.Grammar.{Grammar, Keep, Symbol, Symbol.One, Symbol.◌▹◌, Symbol.◌⊕◌, Symbol.Many, Symbol.Rule, Tree, Tree.Nothing, Tree.Pair, Tree.Left, Tree.Right, has, sees, kept}
use Rattle.hilti_grammar.specs.Derives.{Derives, Derives.AToken, Derives.Both, Derives.TheLeft, Derives.TheRight, Derives.NoMore, Derives.OneMore, Derives.ByRule, CanBegin}
use Rattle.hilti_grammar.specs.Predictive.{Known, union, fits, has_sample, where_so}
use Rattle.hilti_grammar.specs.Runs.{Faults, Outcome, Outcome.Done, Outcome.Failed}
use Rattle.hilti_grammar.proofs.Sets.{has_left, has_right, sees_more, sees_next, next_sees, true_not_false}
use Rattle.hilti_grammar.proofs.Cuts.{Cuts, Cuts.Same, Cuts.Shorter, Cuts.Longer, cuts, append_empty_left, not_empty}
use Rattle.hilti_grammar.proofs.Lookahead.{IsSound, Fruitful, first, more, empty, empty_of, first_of}
use Rattle.hilti_grammar.proofs.Derived.{longer, two_fit, many_fits, apart_two, apart_many, apart_either, not_empty_many, not_empty_left}

-- no list of the symbol is the tokens used, the next token of what is left, and more
abbrev pub NoLonger : {K R P T : Type 0} → Grammar K R P T → Symbol K R → List T → List T → Type 0
NoLonger {P} {T} g s used left = (vs : List T) (y : Tree P T) → Derives g s vs y → (k : T) (m : List T) → vs ≡ used ++ k ∷ m → (r : List T) → left ≡ k ∷ r → ⊥

-- a tree was read
pub record Took {K R P T : Type 0} (g : Grammar K R P T) (s : Symbol K R) (ts : List T) (tree : Tree P T) (rest : List T) : Type 0 where
  pub used : List T
  pub split : ts ≡ used ++ rest
  pub derives : Derives g s used tree
  pub longest : NoLonger g s used rest

-- where the tokens used are a list of the symbol, the next token is one that goes on behind it
abbrev pub Held : {K R P T : Type 0} → Grammar K R P T → (R → Known K) → Symbol K R → List T → List T → Type 0
Held {P} {T} g of_rule s used left = (vs : List T) (y : Tree P T) → Derives g s vs y → vs ≡ used → sees g (more g of_rule s) left ≡ true

-- reading was refused
pub record Stopped {K R P T E : Type 0} (g : Grammar K R P T) (of_rule : R → Known K) (faults : Faults E K T) (s : Symbol K R) (ts : List T) (e : E) (left : List T) : Type 0 where
  pub used : List T
  pub split : ts ≡ used ++ left
  pub viable : CanBegin g s used
  pub ends : NoLonger g s used left
  pub held : Held g of_rule s used left
  pub wanted : List K
  pub explained : faults.explains e wanted left ≡ true
  pub allowed : (token : T) → has g wanted (g.kind token) ≡ true → CanBegin g s (used ++ token ∷ [])

abbrev pub EndsSo : {K R P T E : Type 0} → Grammar K R P T → (R → Known K) → Faults E K T → Symbol K R → List T → Outcome E P T → Type 0
EndsSo g of_rule faults s ts (Done tree rest) = Took g s ts tree rest
EndsSo g of_rule faults s ts (Failed e left) = faults.refuses e ≡ true → Stopped g of_rule faults s ts e left

-- the one list is empty, or both begin with one token
abbrev pub Shares : {T : Type 0} → List T → List T → Type 0
Shares {T} z left = (k : T) (m : List T) → z ≡ k ∷ m → (r : List T) × (left ≡ k ∷ r)

shares_next : {T : Type 0} (k : T) (m left r : List T) → left ≡ k ∷ r → Shares (k ∷ m) left
shares_next k m left r e j n i = (r, let same : k ≡ j = cc in subst (λ t. left ≡ t ∷ r) same e)

shares_none : {T : Type 0} (left : List T) → Shares [] left
shares_none left j n i = absurd (nothing i)
  where
    nothing : [] ≡ j ∷ n → ⊥
    nothing i = cc

shares_behind : {T : Type 0} (ub z left : List T) → Shares z left → Shares (ub ++ z) (ub ++ left)
shares_behind [] z left h j n i = h j n i
shares_behind (u ∷ us) z left h j n i = (us ++ left, let same : u ≡ j = cc in ap (λ t. t ∷ (us ++ left)) same)

-- a list that ends in a token begins with one, and so does the list that it is a front of
front_of : {T : Type 0} (used : List T) (k : T) (m left r : List T) → left ≡ k ∷ r → (t : T) × (w w' : List T) × (used ++ k ∷ m ≡ t ∷ w) × (used ++ left ≡ t ∷ w')
front_of [] k m left r e = (k, m, r, refl, e)
front_of (u ∷ us) k m left r e = (u, us ++ k ∷ m, us ++ left, refl, refl)

module _ {K R P T : Type 0} (g : Grammar K R P T) where
  -- what some list of a part begins with, some list of the whole begins with
  pub begin_two : (a b : Symbol K R) (used : List T) → CanBegin g a used → Fruitful g b → CanBegin g (a ▹ b) used
  begin_two a b used (z, x, d) (l, y, f) = (z ++ l, Pair x y, subst (λ ts. Derives g (a ▹ b) ts (Pair x y)) (append_assoc used z l) (Both d f))

  pub begin_second : (a b : Symbol K R) (ua ub : List T) (x : Tree P T) → Derives g a ua x → CanBegin g b ub → CanBegin g (a ▹ b) (ua ++ ub)
  begin_second a b ua ub x d (z, y, f) = (z, Pair x y, subst (λ ts. Derives g (a ▹ b) ts (Pair x y)) (sym (append_assoc ua ub z)) (Both d f))

  pub begin_next : (a : Symbol K R) (used : List T) → CanBegin g a used → CanBegin g (Many a) used
  begin_next a used (z, x, d) = (z ++ [], Pair x Nothing, subst (λ ts. Derives g (Many a) ts (Pair x Nothing)) (append_assoc used z []) (OneMore d NoMore))

  pub begin_later : (a : Symbol K R) (ua ub : List T) (x : Tree P T) → Derives g a ua x → CanBegin g (Many a) ub → CanBegin g (Many a) (ua ++ ub)
  begin_later a ua ub x d (z, y, f) = (z, Pair x y, subst (λ ts. Derives g (Many a) ts (Pair x y)) (sym (append_assoc ua ub z)) (OneMore d f))

  pub begin_left : (a b : Symbol K R) (used : List T) → CanBegin g a used → CanBegin g (a ⊕ b) used
  begin_left a b used (z, x, d) = (z, Left x, TheLeft d)

  pub begin_right : (a b : Symbol K R) (used : List T) → CanBegin g b used → CanBegin g (a ⊕ b) used
  begin_right a b used (z, x, d) = (z, Right x, TheRight d)

  pub begin_rule : (r : R) (used : List T) → CanBegin g (g.body r) used → CanBegin g (Rule r) used
  begin_rule r used (z, x, d) = (z, x, ByRule d)

  pub whole_begins : (s : Symbol K R) (us : List T) (x : Tree P T) → Derives g s us x → CanBegin g s us
  whole_begins s us x d = ([], x, subst (λ ts. Derives g s ts x) (sym (append-nil us)) d)

  pub regroup : (s : Symbol K R) (us vs ws : List T) → CanBegin g s (us ++ (vs ++ ws)) → CanBegin g s ((us ++ vs) ++ ws)
  regroup s us vs ws h = subst (CanBegin g s) (sym (append_assoc us vs ws)) h

  -- a set with a token of its own lets some list be
  pub sampled : (keep : Keep) (set : List K) → has_sample g set ≡ true → Fruitful g (One keep set)
  sampled keep [] h = cc
  sampled keep (k ∷ ks) h = (g.sample k ∷ [], kept g keep (g.sample k), AToken h)

module _ {K R P T : Type 0} (g : Grammar K R P T) (of_rule : R → Known K) (S : IsSound g of_rule) where
  -- where a first part is cut off by what it used, the rest belongs to the second
  agree : (a : Symbol K R) (first_b : List K) (used left va vb z : List T) (x : Tree P T) → fits g of_rule a ≡ true →
      ((k : T) → has g (more g of_rule a) (g.kind k) ≡ true → has g first_b (g.kind k) ≡ true → ⊥) →
      CanBegin g a used → NoLonger g a used left → Derives g a va x →
      ((k : T) (m : List T) → vb ≡ k ∷ m → has g first_b (g.kind k) ≡ true) →
      va ++ vb ≡ used ++ z → Shares z left → (va ≡ used) × (vb ≡ z)
  agree a first_b used left va vb z x fit separate (z0, x0, d0) ends d begins_b e shares = go (cuts va used vb z e)
    where
      go : Cuts va used vb z → (va ≡ used) × (vb ≡ z)
      go (Same p q) = (p, q)
      go (Shorter k m p q) =
          let e : used ++ z0 ≡ va ++ k ∷ (m ++ z0) = ap (λ l. l ++ z0) p ∙ append_assoc va (k ∷ m) z0 in
          absurd (separate k ((longer g of_rule S _ _ _ d _ _ d0 fit).0 k (m ++ z0) e) (begins_b k (m ++ z) q))
      go (Longer k m p q) = let next = shares k (m ++ vb) q in absurd (ends va x d k m p next.0 next.1)

  -- two symbols
  pub two_longest : (a b : Symbol K R) (ua ub mid left : List T) → fits g of_rule (a ▹ b) ≡ true → CanBegin g a ua → NoLonger g a ua mid → mid ≡ ub ++ left →
      NoLonger g b ub left → NoLonger g (a ▹ b) (ua ++ ub) left
  two_longest a b ua ub mid left fit viable ends_a is ends_b _ _ (Both {us = va} {vs = vb} {x = x} {y = y} d f) k m e r next =
      let same = agree a (first g of_rule b) ua mid va vb (ub ++ k ∷ m) x (two_fit g of_rule S a b fit).0 (apart_two g of_rule S a b fit) viable ends_a d
      (first_of g of_rule S _ _ _ f) (e ∙ append_assoc ua ub (k ∷ m))
      (subst (Shares (ub ++ k ∷ m)) (sym is) (shares_behind ub (k ∷ m) left (shares_next k m left r next))) in
      ends_b vb y f k m same.1 r next

  pub two_held : (a b : Symbol K R) (ua ub mid left : List T) → fits g of_rule (a ▹ b) ≡ true → CanBegin g a ua → NoLonger g a ua mid → mid ≡ ub ++ left →
      Held g of_rule b ub left → Held g of_rule (a ▹ b) (ua ++ ub) left
  two_held a b ua ub mid left fit viable ends_a is held_b _ _ (Both {us = va} {vs = vb} {x = x} {y = y} d f) e =
      let none : Shares (ub ++ []) (ub ++ left) = shares_behind ub [] left (shares_none left) in
      let same = agree a (first g of_rule b) ua mid va vb ub x (two_fit g of_rule S a b fit).0 (apart_two g of_rule S a b fit) viable ends_a d
      (first_of g of_rule S _ _ _ f) e
      (subst (Shares ub) (sym is) (subst (λ l. Shares l (ub ++ left)) (append-nil ub) none)) in
      sees_more g (more g of_rule b) (more g of_rule (a ▹ b)) left (λ k h. has_left g (more g of_rule b) (where_so (empty g of_rule b) (more g of_rule a)) k h) (held_b vb y f same.1)

  pub first_longest : (a b : Symbol K R) (ua left : List T) → fits g of_rule (a ▹ b) ≡ true → CanBegin g a ua → NoLonger g a ua left → Held g of_rule a ua left → NoLonger g (a ▹ b) ua left
  first_longest a b ua left fit viable ends held _ _ (Both {us = va} {vs = vb} {x = x} d f) k m e r next =
      let same = agree a (first g of_rule b) ua left va vb (k ∷ m) x (two_fit g of_rule S a b fit).0 (apart_two g of_rule S a b fit) viable ends d
      (first_of g of_rule S _ _ _ f) e (shares_next k m left r next) in
      apart_two g of_rule S a b fit k (sees_next g (more g of_rule a) left k r next (held va x d same.0)) (first_of g of_rule S _ _ _ f k m same.1)

  pub first_held : (a b : Symbol K R) (ua left : List T) → fits g of_rule (a ▹ b) ≡ true → CanBegin g a ua → NoLonger g a ua left → Held g of_rule a ua left → Held g of_rule (a ▹ b) ua left
  first_held a b ua left fit viable ends held _ _ (Both {us = va} {vs = vb} {x = x} d f) e =
      let same = agree a (first g of_rule b) ua left va vb [] x (two_fit g of_rule S a b fit).0 (apart_two g of_rule S a b fit) viable ends d
      (first_of g of_rule S _ _ _ f) (e ∙ sym (append-nil ua)) (shares_none left) in
      let b_empty : empty g of_rule b ≡ true = empty_of g of_rule S _ _ _ f same.1 in
      sees_more g (more g of_rule a) (more g of_rule (a ▹ b)) left
      (λ k h. has_right g (more g of_rule b) (where_so (empty g of_rule b) (more g of_rule a)) k (subst (λ c. has g (where_so c (more g of_rule a)) k ≡ true) (sym b_empty) h))
      (held va x d same.0)

  -- repetitions
  pub many_longest : (a : Symbol K R) (ua ub mid left : List T) → fits g of_rule (Many a) ≡ true → CanBegin g a ua → NoLonger g a ua mid → mid ≡ ub ++ left →
      NoLonger g (Many a) ub left → NoLonger g (Many a) (ua ++ ub) left
  many_longest a ua ub mid left fit viable ends_a is ends_b _ _ NoMore k m e r next = not_empty (ua ++ ub) m k e
  many_longest a ua ub mid left fit viable ends_a is ends_b _ _ (OneMore {us = va} {vs = vb} {x = x} {y = y} d f) k m e r next =
      let same = agree a (first g of_rule a) ua mid va vb (ub ++ k ∷ m) x (many_fits g of_rule S a fit).0 (apart_many g of_rule S a fit) viable ends_a d
      (first_of g of_rule S _ _ _ f) (e ∙ append_assoc ua ub (k ∷ m))
      (subst (Shares (ub ++ k ∷ m)) (sym is) (shares_behind ub (k ∷ m) left (shares_next k m left r next))) in
      ends_b vb y f k m same.1 r next

  pub many_held : (a : Symbol K R) (ua ub mid left : List T) (t : Tree P T) → fits g of_rule (Many a) ≡ true → Derives g a ua t → NoLonger g a ua mid → mid ≡ ub ++ left →
      Held g of_rule (Many a) ub left → Held g of_rule (Many a) (ua ++ ub) left
  many_held a ua ub mid left t fit whole ends_a is held_b _ _ NoMore e = absurd (not_empty_many g of_rule S a fit ua t whole (append_empty_left ua ub (sym e)))
  many_held a ua ub mid left t fit whole ends_a is held_b _ _ (OneMore {us = va} {vs = vb} {x = x} {y = y} d f) e =
      let none : Shares (ub ++ []) (ub ++ left) = shares_behind ub [] left (shares_none left) in
      let same = agree a (first g of_rule a) ua mid va vb ub x (many_fits g of_rule S a fit).0 (apart_many g of_rule S a fit) (whole_begins g a ua t whole) ends_a d
      (first_of g of_rule S _ _ _ f) e
      (subst (Shares ub) (sym is) (subst (λ l. Shares l (ub ++ left)) (append-nil ub) none)) in
      held_b vb y f same.1

  pub next_longest : (a : Symbol K R) (ua left : List T) → fits g of_rule (Many a) ≡ true → CanBegin g a ua → NoLonger g a ua left → Held g of_rule a ua left → NoLonger g (Many a) ua left
  next_longest a ua left fit viable ends held _ _ NoMore k m e r next = not_empty ua m k e
  next_longest a ua left fit viable ends held _ _ (OneMore {us = va} {vs = vb} {x = x} d f) k m e r next =
      let same = agree a (first g of_rule a) ua left va vb (k ∷ m) x (many_fits g of_rule S a fit).0 (apart_many g of_rule S a fit) viable ends d
      (first_of g of_rule S _ _ _ f) e (shares_next k m left r next) in
      apart_many g of_rule S a fit k (sees_next g (more g of_rule a) left k r next (held va x d same.0)) (first_of g of_rule S _ _ _ f k m same.1)

  pub next_held : (a : Symbol K R) (ts ua left : List T) → fits g of_rule (Many a) ≡ true → sees g (first g of_rule a) ts ≡ true → ts ≡ ua ++ left →
      CanBegin g a ua → NoLonger g a ua left → Held g of_rule a ua left → Held g of_rule (Many a) ua left
  next_held a ts ua left fit seen split viable ends held _ _ NoMore e =
      let at_once : ts ≡ left = split ∙ ap (λ l. l ++ left) (sym e) in
      sees_more g (first g of_rule a) (more g of_rule (Many a)) left (λ k h. has_left g (first g of_rule a) (more g of_rule a) k h)
      (subst (λ l. sees g (first g of_rule a) l ≡ true) at_once seen)
  next_held a ts ua left fit seen split viable ends held _ _ (OneMore {us = va} {vs = vb} {x = x} d f) e =
      let same = agree a (first g of_rule a) ua left va vb [] x (many_fits g of_rule S a fit).0 (apart_many g of_rule S a fit) viable ends d
      (first_of g of_rule S _ _ _ f) (e ∙ sym (append-nil ua)) (shares_none left) in
      sees_more g (more g of_rule a) (more g of_rule (Many a)) left (λ k h. has_right g (first g of_rule a) (more g of_rule a) k h) (held va x d same.0)

  -- two alternatives
  pub left_longest : (a b : Symbol K R) (ts used left : List T) → fits g of_rule (a ⊕ b) ≡ true → sees g (first g of_rule a) ts ≡ true → ts ≡ used ++ left →
      NoLonger g a used left → NoLonger g (a ⊕ b) used left
  left_longest a b ts used left fit seen split ends _ _ (TheLeft {us = us} {x = x} d) k m e r next = ends us x d k m e r next
  left_longest a b ts used left fit seen split ends _ _ (TheRight f) k m e r next =
      let front = front_of used k m left r next in
      apart_either g of_rule S a b fit front.0 (sees_next g (first g of_rule a) ts front.0 front.2 (split ∙ front.4) seen) (first_of g of_rule S _ _ _ f front.0 front.1 (e ∙ front.3))

  pub left_held : (a b : Symbol K R) (ts used left : List T) → fits g of_rule (a ⊕ b) ≡ true → sees g (first g of_rule a) ts ≡ true → ts ≡ used ++ left →
      Held g of_rule a used left → Held g of_rule (a ⊕ b) used left
  left_held a b ts used left fit seen split held _ _ (TheLeft {us = us} {x = x} d) e =
      sees_more g (more g of_rule a) (more g of_rule (a ⊕ b)) left
      (λ k h. has_left g (union g (more g of_rule a) (more g of_rule b)) _ k (has_left g (more g of_rule a) (more g of_rule b) k h)) (held us x d e)
  left_held a b ts [] left fit seen split held _ _ (TheRight f) e =
      let b_empty : empty g of_rule b ≡ true = empty_of g of_rule S _ _ _ f e in
      sees_more g (first g of_rule a) (more g of_rule (a ⊕ b)) left
      (λ k h. has_right g (union g (more g of_rule a) (more g of_rule b)) _ k
      (has_left g (where_so (empty g of_rule b) (first g of_rule a)) (where_so (empty g of_rule a) (first g of_rule b)) k
      (subst (λ c. has g (where_so c (first g of_rule a)) k ≡ true) (sym b_empty) h)))
      (subst (λ l. sees g (first g of_rule a) l ≡ true) split seen)
  left_held a b ts (u ∷ used) left fit seen split held _ _ (TheRight f) e =
      absurd (apart_either g of_rule S a b fit u (sees_next g (first g of_rule a) ts u (used ++ left) split seen) (first_of g of_rule S _ _ _ f u used e))

  pub right_longest : (a b : Symbol K R) (ts used left : List T) → fits g of_rule (a ⊕ b) ≡ true → sees g (first g of_rule a) ts ≡ false → ts ≡ used ++ left →
      NoLonger g b used left → NoLonger g (a ⊕ b) used left
  right_longest a b ts used left fit unseen split ends _ _ (TheRight {us = us} {x = x} d) k m e r next = ends us x d k m e r next
  right_longest a b ts used left fit unseen split ends _ _ (TheLeft f) k m e r next =
      let front = front_of used k m left r next in
      true_not_false (sees g (first g of_rule a) ts) (next_sees g (first g of_rule a) ts front.0 front.2 (split ∙ front.4) (first_of g of_rule S _ _ _ f front.0 front.1 (e ∙ front.3))) unseen

  pub right_held : (a b : Symbol K R) (ts used left : List T) → fits g of_rule (a ⊕ b) ≡ true → sees g (first g of_rule a) ts ≡ false → ts ≡ used ++ left →
      Held g of_rule b used left → Held g of_rule (a ⊕ b) used left
  right_held a b ts used left fit unseen split held _ _ (TheRight {us = us} {x = x} d) e =
      sees_more g (more g of_rule b) (more g of_rule (a ⊕ b)) left
      (λ k h. has_left g (union g (more g of_rule a) (more g of_rule b)) _ k (has_right g (more g of_rule a) (more g of_rule b) k h)) (held us x d e)
  right_held a b ts [] left fit unseen split held _ _ (TheLeft {us = us} {x = x} f) e = absurd (not_empty_left g of_rule S a b fit us x f e)
  right_held a b ts (u ∷ used) left fit unseen split held _ _ (TheLeft f) e =
      absurd (true_not_false (sees g (first g of_rule a) ts) (next_sees g (first g of_rule a) ts u (used ++ left) split (first_of g of_rule S _ _ _ f u used e)) unseen)
