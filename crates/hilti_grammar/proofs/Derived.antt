-- Two lists that one symbol derives: what goes on behind the shorter is known, and equal lists have equal trees.
use Rattle.std.proofs.Common.{◌≡◌, true, not, List, [], ◌∷◌, ◌++◌, refl, sym, ◌∙◌, ap, subst, append_assoc}
use Rattle.hilti_grammar.specs.Grammar.{Grammar, Symbol, Symbol.◌▹◌, Symbol.◌⊕◌, Symbol.Many, Tree, Tree.Pair, Tree.Left, Tree.Right, has, kept}
use Rattle.hilti_grammar.specs.Derives.{Derives, Derives.AToken, Derives.NoToken, Derives.Both, Derives.TheLeft, Derives.TheRight, Derives.NoMore, Derives.OneMore, Derives.ByRule}
use Rattle.hilti_grammar.specs.Predictive.{Known, union, apart, known, fits, where_so}
use Rattle.hilti_grammar.proofs.Sets.{four_parts, three_parts, not_both, has_left, has_right, apart_none}
use Rattle.hilti_grammar.proofs.Cuts.{Cuts, Cuts.Same, Cuts.Shorter, Cuts.Longer, cuts, append_empty_left, not_empty}
use Rattle.hilti_grammar.proofs.Lookahead.{IsSound, first, more, empty, empty_of, first_of}

-- the one list is the other and more, so the next kind is in the set
abbrev pub GoesOnIn : {K R P T : Type 0} → Grammar K R P T → List K → List T → List T → Type 0
GoesOnIn {T} g xs us vs = (k : T) (m : List T) → vs ≡ us ++ k ∷ m → has g xs (g.kind k) ≡ true

module _ {K R P T : Type 0} (g : Grammar K R P T) where
  -- two lists in two parts each, where what goes on behind the first part doesn't begin the second
  two_go_on : (more_a more_b first_b result : List K) (ua ub va vb : List T) →
      ((k : T) → has g more_a (g.kind k) ≡ true → has g first_b (g.kind k) ≡ true → ⊥) →
      (ub ≡ [] → (k : T) → has g more_a (g.kind k) ≡ true → has g result (g.kind k) ≡ true) →
      ((k : T) → has g more_b (g.kind k) ≡ true → has g result (g.kind k) ≡ true) →
      ((k : T) (m : List T) → ub ≡ k ∷ m → has g first_b (g.kind k) ≡ true) →
      ((k : T) (m : List T) → vb ≡ k ∷ m → has g first_b (g.kind k) ≡ true) →
      GoesOnIn g more_a ua va → GoesOnIn g more_a va ua → GoesOnIn g more_b ub vb →
      GoesOnIn g result (ua ++ ub) (va ++ vb)
  two_go_on more_a more_b first_b result ua ub va vb separate from_a from_b begins_u begins_v on_a back_a on_b k m e =
      go ub from_a begins_u on_b (cuts va ua vb (ub ++ k ∷ m) (e ∙ append_assoc ua ub (k ∷ m)))
    where
      behind_a : (ub : List T) → (ub ≡ [] → (k : T) → has g more_a (g.kind k) ≡ true → has g result (g.kind k) ≡ true) →
          ((k : T) (m : List T) → ub ≡ k ∷ m → has g first_b (g.kind k) ≡ true) →
          (j : T) (n : List T) → va ≡ ua ++ j ∷ n → ub ++ k ∷ m ≡ (j ∷ n) ++ vb → has g result (g.kind k) ≡ true
      behind_a [] from_a begins_u j n is next =
          let same : j ≡ k = cc in from_a refl k (subst (λ t. has g more_a (g.kind t) ≡ true) same (on_a j n is))
      behind_a (u ∷ us) from_a begins_u j n is next =
          let same : u ≡ j = cc in absurd (separate j (on_a j n is) (subst (λ t. has g first_b (g.kind t) ≡ true) same (begins_u u us refl)))

      go : (ub : List T) → (ub ≡ [] → (k : T) → has g more_a (g.kind k) ≡ true → has g result (g.kind k) ≡ true) →
          ((k : T) (m : List T) → ub ≡ k ∷ m → has g first_b (g.kind k) ≡ true) → GoesOnIn g more_b ub vb →
          Cuts va ua vb (ub ++ k ∷ m) → has g result (g.kind k) ≡ true
      go ub from_a begins_u on_b (Same a b) = from_b k (on_b k m b)
      go ub from_a begins_u on_b (Shorter j n a b) = absurd (separate j (back_a j n a) (begins_v j (n ++ (ub ++ k ∷ m)) b))
      go ub from_a begins_u on_b (Longer j n a b) = behind_a ub from_a begins_u j n a b

module _ {K R P T : Type 0} (g : Grammar K R P T) (of_rule : R → Known K) (S : IsSound g of_rule) where
  -- what it takes for two symbols to fit, for two alternatives, and for a repetition
  pub two_fit : (a b : Symbol K R) → fits g of_rule (a ▹ b) ≡ true →
      (fits g of_rule a ≡ true) × (fits g of_rule b ≡ true) × ((known g of_rule b).fruitful ≡ true) × (apart g (more g of_rule a) (first g of_rule b) ≡ true)
  two_fit a b h = four_parts (fits g of_rule a) (fits g of_rule b) (known g of_rule b).fruitful (apart g (more g of_rule a) (first g of_rule b)) h

  pub either_fits : (a b : Symbol K R) → fits g of_rule (a ⊕ b) ≡ true →
      (fits g of_rule a ≡ true) × (fits g of_rule b ≡ true) × (not (empty g of_rule a) ≡ true) × (apart g (first g of_rule a) (first g of_rule b) ≡ true)
  either_fits a b h = four_parts (fits g of_rule a) (fits g of_rule b) (not (empty g of_rule a)) (apart g (first g of_rule a) (first g of_rule b)) h

  pub many_fits : (a : Symbol K R) → fits g of_rule (Many a) ≡ true →
      (fits g of_rule a ≡ true) × (not (empty g of_rule a) ≡ true) × (apart g (more g of_rule a) (first g of_rule a) ≡ true)
  many_fits a h = three_parts (fits g of_rule a) (not (empty g of_rule a)) (apart g (more g of_rule a) (first g of_rule a)) h

  -- the kinds of a first symbol's going on don't begin the second
  pub apart_two : (a b : Symbol K R) → fits g of_rule (a ▹ b) ≡ true → (k : T) → has g (more g of_rule a) (g.kind k) ≡ true → has g (first g of_rule b) (g.kind k) ≡ true → ⊥
  apart_two a b h k = apart_none g (more g of_rule a) (first g of_rule b) (g.kind k) (two_fit a b h).3

  pub apart_many : (a : Symbol K R) → fits g of_rule (Many a) ≡ true → (k : T) → has g (more g of_rule a) (g.kind k) ≡ true → has g (first g of_rule a) (g.kind k) ≡ true → ⊥
  apart_many a h k = apart_none g (more g of_rule a) (first g of_rule a) (g.kind k) (many_fits a h).2

  pub apart_either : (a b : Symbol K R) → fits g of_rule (a ⊕ b) ≡ true → (k : T) → has g (first g of_rule a) (g.kind k) ≡ true → has g (first g of_rule b) (g.kind k) ≡ true → ⊥
  apart_either a b h k = apart_none g (first g of_rule a) (first g of_rule b) (g.kind k) (either_fits a b h).3

  -- a repeated symbol isn't empty
  pub not_empty_many : (a : Symbol K R) → fits g of_rule (Many a) ≡ true → (us : List T) (x : Tree P T) → Derives g a us x → us ≡ [] → ⊥
  not_empty_many a h us x d e = not_both (empty g of_rule a) (many_fits a h).1 (empty_of g of_rule S _ _ _ d e)

  -- a first alternative isn't empty
  pub not_empty_left : (a b : Symbol K R) → fits g of_rule (a ⊕ b) ≡ true → (us : List T) (x : Tree P T) → Derives g a us x → us ≡ [] → ⊥
  not_empty_left a b h us x d e = not_both (empty g of_rule a) (either_fits a b h).2 (empty_of g of_rule S _ _ _ d e)

  -- of two lists of two alternatives the one doesn't go on as the other, unless the other is the empty second
  across : (a b : Symbol K R) → fits g of_rule (a ⊕ b) ≡ true → (us vs : List T) (x y : Tree P T) → Derives g a us x → Derives g b vs y →
      GoesOnIn g (more g of_rule (a ⊕ b)) vs us
  across a b h us [] x y d f k m e =
      has_right g (union g (more g of_rule a) (more g of_rule b)) _ (g.kind k)
      (has_left g (where_so (empty g of_rule b) (first g of_rule a)) (where_so (empty g of_rule a) (first g of_rule b)) (g.kind k)
      (let b_empty : empty g of_rule b ≡ true = empty_of g of_rule S _ _ _ f refl in
      subst (λ c. has g (where_so c (first g of_rule a)) (g.kind k) ≡ true) (sym b_empty) (first_of g of_rule S _ _ _ d k m e)))
  across a b h us (v ∷ vs) x y d f k m e =
      absurd (apart_either a b h v (first_of g of_rule S _ _ _ d v (vs ++ k ∷ m) e) (first_of g of_rule S _ _ _ f v vs refl))

  across_back : (a b : Symbol K R) → fits g of_rule (a ⊕ b) ≡ true → (us vs : List T) (x y : Tree P T) → Derives g a us x → Derives g b vs y →
      GoesOnIn g (more g of_rule (a ⊕ b)) us vs
  across_back a b h [] vs x y d f k m e = absurd (not_empty_left a b h [] x d refl)
  across_back a b h (u ∷ us) vs x y d f k m e =
      absurd (apart_either a b h u (first_of g of_rule S _ _ _ d u us refl) (first_of g of_rule S _ _ _ f u (us ++ k ∷ m) e))

  left_more : (a b : Symbol K R) (us vs : List T) → GoesOnIn g (more g of_rule a) us vs → GoesOnIn g (more g of_rule (a ⊕ b)) us vs
  left_more a b us vs on k m e = has_left g (union g (more g of_rule a) (more g of_rule b)) _ (g.kind k) (has_left g (more g of_rule a) (more g of_rule b) (g.kind k) (on k m e))

  right_more : (a b : Symbol K R) (us vs : List T) → GoesOnIn g (more g of_rule b) us vs → GoesOnIn g (more g of_rule (a ⊕ b)) us vs
  right_more a b us vs on k m e = has_left g (union g (more g of_rule a) (more g of_rule b)) _ (g.kind k) (has_right g (more g of_rule a) (more g of_rule b) (g.kind k) (on k m e))

  -- two lists of two symbols
  pair_go_on : (a b : Symbol K R) (ua ub va vb : List T) → fits g of_rule (a ▹ b) ≡ true → (y w : Tree P T) → Derives g b ub y → Derives g b vb w →
      GoesOnIn g (more g of_rule a) ua va → GoesOnIn g (more g of_rule a) va ua → GoesOnIn g (more g of_rule b) ub vb →
      GoesOnIn g (more g of_rule (a ▹ b)) (ua ++ ub) (va ++ vb)
  pair_go_on a b ua ub va vb h y w db fb =
      two_go_on g (more g of_rule a) (more g of_rule b) (first g of_rule b) (more g of_rule (a ▹ b)) ua ub va vb (apart_two a b h)
      (λ e k i. has_right g (more g of_rule b) (where_so (empty g of_rule b) (more g of_rule a)) (g.kind k)
      (let b_empty : empty g of_rule b ≡ true = empty_of g of_rule S _ _ _ db e in subst (λ c. has g (where_so c (more g of_rule a)) (g.kind k) ≡ true) (sym b_empty) i))
      (λ k i. has_left g (more g of_rule b) (where_so (empty g of_rule b) (more g of_rule a)) (g.kind k) i)
      (first_of g of_rule S _ _ _ db) (first_of g of_rule S _ _ _ fb)

  -- two lists of repetitions
  many_go_on : (a : Symbol K R) (ua ub va vb : List T) → fits g of_rule (Many a) ≡ true → (y w : Tree P T) → Derives g (Many a) ub y → Derives g (Many a) vb w →
      GoesOnIn g (more g of_rule a) ua va → GoesOnIn g (more g of_rule a) va ua → GoesOnIn g (more g of_rule (Many a)) ub vb →
      GoesOnIn g (more g of_rule (Many a)) (ua ++ ub) (va ++ vb)
  many_go_on a ua ub va vb h y w db fb =
      two_go_on g (more g of_rule a) (more g of_rule (Many a)) (first g of_rule a) (more g of_rule (Many a)) ua ub va vb (apart_many a h)
      (λ e k i. has_right g (first g of_rule a) (more g of_rule a) (g.kind k) i) (λ k i. i)
      (first_of g of_rule S _ _ _ db) (first_of g of_rule S _ _ _ fb)

  -- a longer list of repetitions than none begins with what begins the symbol
  many_from_none : (a : Symbol K R) (vs : List T) (y : Tree P T) → Derives g (Many a) vs y → GoesOnIn g (more g of_rule (Many a)) [] vs
  many_from_none a vs y d k m e = has_left g (first g of_rule a) (more g of_rule a) (g.kind k) (first_of g of_rule S _ _ _ d k m e)

  -- what goes on behind a list in a longer one is among the kinds that do, either way round
  pub longer : (s : Symbol K R) (us : List T) (x : Tree P T) → Derives g s us x → (vs : List T) (y : Tree P T) → Derives g s vs y → fits g of_rule s ≡ true →
      GoesOnIn g (more g of_rule s) us vs × GoesOnIn g (more g of_rule s) vs us
  longer _ _ _ (AToken h) _ _ (AToken i) fit = (λ k m e. cc, λ k m e. cc)
  longer _ _ _ NoToken _ _ NoToken fit = (λ k m e. cc, λ k m e. cc)
  longer _ _ _ (Both {a = a} {b = b} {us = ua} {vs = ub} {y = y} d f) _ _ (Both {us = va} {vs = vb} {y = w} d' f') fit =
      let of_a = longer _ _ _ d _ _ d' (two_fit a b fit).0 in
      let of_b = longer _ _ _ f _ _ f' (two_fit a b fit).1 in
      (pair_go_on a b ua ub va vb fit y w f f' of_a.0 of_a.1 of_b.0, pair_go_on a b va vb ua ub fit w y f' f of_a.1 of_a.0 of_b.1)
  longer _ _ _ (TheLeft {a = a} {b = b} {us = us} d) _ _ (TheLeft {us = vs} d') fit =
      let of_a = longer _ _ _ d _ _ d' (either_fits a b fit).0 in (left_more a b us vs of_a.0, left_more a b vs us of_a.1)
  longer _ _ _ (TheLeft {a = a} {b = b} {us = us} {x = x} d) _ _ (TheRight {us = vs} {x = y} f) fit =
      (across_back a b fit us vs x y d f, across a b fit us vs x y d f)
  longer _ _ _ (TheRight {a = a} {b = b} {us = us} {x = x} f) _ _ (TheLeft {us = vs} {x = y} d) fit =
      (across a b fit vs us y x d f, across_back a b fit vs us y x d f)
  longer _ _ _ (TheRight {a = a} {b = b} {us = us} d) _ _ (TheRight {us = vs} d') fit =
      let of_b = longer _ _ _ d _ _ d' (either_fits a b fit).1 in (right_more a b us vs of_b.0, right_more a b vs us of_b.1)
  longer _ _ _ (NoMore {a = a}) _ _ NoMore fit = (λ k m e. cc, λ k m e. cc)
  longer _ _ _ (NoMore {a = a}) _ _ (OneMore {us = va} {vs = vb} {x = x} {y = y} d f) fit =
      (many_from_none a (va ++ vb) (Pair x y) (OneMore d f), λ k m e. absurd (not_empty (va ++ vb) m k e))
  longer _ _ _ (OneMore {a = a} {us = va} {vs = vb} {x = x} {y = y} d f) _ _ NoMore fit =
      (λ k m e. absurd (not_empty (va ++ vb) m k e), many_from_none a (va ++ vb) (Pair x y) (OneMore d f))
  longer _ _ _ (OneMore {a = a} {us = ua} {vs = ub} {y = y} d f) _ _ (OneMore {us = va} {vs = vb} {y = w} d' f') fit =
      let of_a = longer _ _ _ d _ _ d' (many_fits a fit).0 in
      let of_b = longer _ _ _ f _ _ f' fit in
      (many_go_on a ua ub va vb fit y w f f' of_a.0 of_a.1 of_b.0, many_go_on a va vb ua ub fit w y f' f of_a.1 of_a.0 of_b.1)
  longer _ _ _ (ByRule {r = r} d) _ _ (ByRule d') fit =
      let of_body = longer _ _ _ d _ _ d' (S.fits r) in (λ k m e. S.more r (g.kind k) (of_body.0 k m e), λ k m e. S.more r (g.kind k) (of_body.1 k m e))

  -- two cuts of one list into the lists of two symbols are one
  one_cut : (a : Symbol K R) (first_b : List K) (ua va ub vb : List T) → ((k : T) → has g (more g of_rule a) (g.kind k) ≡ true → has g first_b (g.kind k) ≡ true → ⊥) →
      GoesOnIn g (more g of_rule a) ua va → GoesOnIn g (more g of_rule a) va ua →
      ((k : T) (m : List T) → ub ≡ k ∷ m → has g first_b (g.kind k) ≡ true) → ((k : T) (m : List T) → vb ≡ k ∷ m → has g first_b (g.kind k) ≡ true) →
      ua ++ ub ≡ va ++ vb → (ua ≡ va) × (ub ≡ vb)
  one_cut a first_b ua va ub vb separate on back begins_u begins_v e = go (cuts ua va ub vb e)
    where
      go : Cuts ua va ub vb → (ua ≡ va) × (ub ≡ vb)
      go (Same p q) = (p, q)
      go (Shorter k m p q) = absurd (separate k (on k m p) (begins_u k (m ++ vb) q))
      go (Longer k m p q) = absurd (separate k (back k m p) (begins_v k (m ++ ub) q))

  pair_alike : {x y z w : Tree P T} → x ≡ z → y ≡ w → Pair x y ≡ Pair z w
  pair_alike p q = cc

  -- one list has one tree
  pub one_tree : (s : Symbol K R) (us : List T) (x : Tree P T) → Derives g s us x → (vs : List T) (y : Tree P T) → Derives g s vs y → fits g of_rule s ≡ true → us ≡ vs → x ≡ y
  one_tree _ _ _ (AToken {keep = keep} {token = t} h) _ _ (AToken {token = u} i) fit e = let same : t ≡ u = cc in ap (kept g keep) same
  one_tree _ _ _ NoToken _ _ NoToken fit e = refl
  one_tree _ _ _ (Both {a = a} {b = b} {us = ua} {vs = ub} d f) _ _ (Both {us = va} {vs = vb} d' f') fit e =
      let of_a = longer _ _ _ d _ _ d' (two_fit a b fit).0 in
      let same = one_cut a (first g of_rule b) ua va ub vb (apart_two a b fit) of_a.0 of_a.1 (first_of g of_rule S _ _ _ f) (first_of g of_rule S _ _ _ f') e in
      pair_alike (one_tree _ _ _ d _ _ d' (two_fit a b fit).0 same.0) (one_tree _ _ _ f _ _ f' (two_fit a b fit).1 same.1)
  one_tree _ _ _ (TheLeft {a = a} {b = b} d) _ _ (TheLeft d') fit e = ap Left (one_tree _ _ _ d _ _ d' (either_fits a b fit).0 e)
  one_tree _ _ _ (TheLeft {a = a} {b = b} {us = us} {x = x} d) _ _ (TheRight {us = vs} f) fit e = absurd (not_alike us refl)
    where
      not_alike : (l : List T) → us ≡ l → ⊥
      not_alike [] i = not_empty_left a b fit us x d i
      not_alike (t ∷ l) i = apart_either a b fit t (first_of g of_rule S _ _ _ d t l i) (first_of g of_rule S _ _ _ f t l (sym e ∙ i))
  one_tree _ _ _ (TheRight {a = a} {b = b} {us = vs} f) _ _ (TheLeft {us = us} {x = x} d) fit e = absurd (not_alike us refl)
    where
      not_alike : (l : List T) → us ≡ l → ⊥
      not_alike [] i = not_empty_left a b fit us x d i
      not_alike (t ∷ l) i = apart_either a b fit t (first_of g of_rule S _ _ _ d t l i) (first_of g of_rule S _ _ _ f t l (e ∙ i))
  one_tree _ _ _ (TheRight {a = a} {b = b} d) _ _ (TheRight d') fit e = ap Right (one_tree _ _ _ d _ _ d' (either_fits a b fit).1 e)
  one_tree _ _ _ NoMore _ _ NoMore fit e = refl
  one_tree _ _ _ (NoMore {a = a}) _ _ (OneMore {us = va} {vs = vb} {x = x} d f) fit e = absurd (not_empty_many a fit va x d (append_empty_left va vb (sym e)))
  one_tree _ _ _ (OneMore {a = a} {us = va} {vs = vb} {x = x} d f) _ _ NoMore fit e = absurd (not_empty_many a fit va x d (append_empty_left va vb e))
  one_tree _ _ _ (OneMore {a = a} {us = ua} {vs = ub} d f) _ _ (OneMore {us = va} {vs = vb} d' f') fit e =
      let of_a = longer _ _ _ d _ _ d' (many_fits a fit).0 in
      let same = one_cut a (first g of_rule a) ua va ub vb (apart_many a fit) of_a.0 of_a.1 (first_of g of_rule S _ _ _ f) (first_of g of_rule S _ _ _ f') e in
      pair_alike (one_tree _ _ _ d _ _ d' (many_fits a fit).0 same.0) (one_tree _ _ _ f _ _ f' fit same.1)
  one_tree _ _ _ (ByRule {r = r} d) _ _ (ByRule d') fit e = one_tree _ _ _ d _ _ d' (S.fits r) e
