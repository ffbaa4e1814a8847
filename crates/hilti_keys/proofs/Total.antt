-- The order of keys is total.
use Rattle.std.proofs.Common.{◌≡◌, ◌↔◌, refl, sym, ◌∙◌, ap, subst, ℕ, Bool, true, false, IsTrue, List, [], ◌∷◌, ◌&&◌, get_or, map, nat_eq, ◌⊎◌, inl, inr, ⊎_elim, arith}
use Rattle.std.proofs.lemmas.Bool.{false≢true}
use Rattle.std.proofs.lemmas.Bool.Decides.{nat_tests}
use Rattle.std.proofs.lemmas.Cmp.{nat_list_cmp_total}
use Rattle.std.proofs.lemmas.Map.Lookups.{exact_bytes}
use Rattle.std.specs.Ordering.{is_eq, is_gt, is_lt, ordering_reverse, ordering_then}
use Rattle.std.specs.declared.cmp.Ordering.{Ordering}
use Rattle.std.specs.declared.cmp.Ordering.TheVariants.{Less, Equal, Greater}
use Rattle.hilti_tree.specs.declared.tree.Tree.{Tree, out-Tree, roll-Tree, out-roll-Tree, roll-out-Tree}
use Rattle.hilti_tree.specs.declared.tree.Tree.TheOpen.{Tree-F}
use Rattle.hilti_tree.specs.declared.tree.Tree.TheFolds.{fold_out-Tree, ind-Tree, map-Tree}
use Rattle.hilti_keys.specs.Keys.{Key, Numbers, Parts, NoKey, Scalar, Truth, Whole, Text, Bytes, Address, Net, Port, Time, Span, Constant, place, same_scalar, as_key, alike, alike_step, alike_keys, all_pass, AreKeys}
use Rattle.hilti_keys.specs.Orders.{order_of, order_step, key_cmp, in_turn}

abbrev mapped : {A B : Type 0} → (A → B) → Key A → Key B
mapped f (Numbers scalar numbers) = Numbers scalar numbers
mapped f (Parts parts) = Parts (map f parts)
mapped f NoKey = NoKey

-- the layer of a tree with its parts changed
as_key_mapped : {A B : Type 0} (f : A → B) (x : Tree-F A) → as_key (map-Tree A B f x) ≡ mapped f (as_key x)
as_key_mapped f (Tree-F.Bool value) = refl
as_key_mapped f (Tree-F.Int n) = refl
as_key_mapped f (Tree-F.Text bytes) = refl
as_key_mapped f (Tree-F.Bytes bytes) = refl
as_key_mapped f (Tree-F.Addr address) = refl
as_key_mapped f (Tree-F.Net address length) = refl
as_key_mapped f (Tree-F.Port number is_udp) = refl
as_key_mapped f (Tree-F.Time nanos) = refl
as_key_mapped f (Tree-F.Span nanos) = refl
as_key_mapped f (Tree-F.Pick n) = refl
as_key_mapped f Tree-F.Null = refl
as_key_mapped f Tree-F.Unset = refl
as_key_mapped f (Tree-F.Tuple parts) = refl
as_key_mapped f (Tree-F.List items) = refl
as_key_mapped f (Tree-F.Vector items) = refl
as_key_mapped f (Tree-F.Set keys) = refl
as_key_mapped f (Tree-F.Map keys values) = refl
as_key_mapped f (Tree-F.Fields fields) = refl
as_key_mapped f (Tree-F.Rules fields priorities values compiled) = refl

-- what a tree is among keys
abbrev key : Tree → Key Tree
key tree = as_key (out-Tree tree)

alike_is : (a b : Tree) → alike a b ≡ alike_keys (mapped alike (key a)) (key b)
alike_is a b =
    ap (λ f. f b) (fold_out-Tree (Tree → Bool) alike_step a)
    ∙ ap (λ k. alike_keys k (key b)) (as_key_mapped alike (out-Tree a))

order_is : (a b : Tree) → order_of a b ≡ key_cmp (mapped order_of (key a)) (key b)
order_is a b =
    ap (λ f. f b) (fold_out-Tree (Tree → Ordering) order_step a)
    ∙ ap (λ k. key_cmp k (key b)) (as_key_mapped order_of (out-Tree a))

module _ (P : Tree → Type 0)
    (of_numbers : (t : Tree) (scalar : Scalar) (numbers : List ℕ) → key t ≡ Numbers scalar numbers → P t)
    (of_parts : (t : Tree) (each : List ((part : Tree) × P part)) → key t ≡ Parts (map (λ e. e.0) each) → P t)
    (of_none : (t : Tree) → key t ≡ NoKey → P t) where
  by_key : (t : Tree) (k : Key ((part : Tree) × P part)) → key t ≡ mapped (λ e. e.0) k → P t
  by_key t (Numbers scalar numbers) is = of_numbers t scalar numbers is
  by_key t (Parts each) is = of_parts t each is
  by_key t NoKey is = of_none t is

  -- what holds of each key where it holds of its parts
  key_induction : (t : Tree) → P t
  key_induction =
      ind-Tree P (λ x y is.
      by_key (roll-Tree x) (as_key y)
      (ap as_key (out-roll-Tree x ∙ sym is) ∙ as_key_mapped (λ e. e.0) y))

-- keys of one type
alike_at : (a b : Tree) (k l : Key Tree) → key a ≡ k → key b ≡ l → AreKeys a b → IsTrue (alike_keys (mapped alike k) l)
alike_at a b k l is_k is_l h =
    sym (alike_is a b ∙ ap (λ k. alike_keys (mapped alike k) (key b)) is_k ∙ ap (alike_keys (mapped alike k)) is_l) ∙ h

order_at : (a b : Tree) (k l : Key Tree) → key a ≡ k → key b ≡ l → order_of a b ≡ key_cmp (mapped order_of k) l
order_at a b k l is_k is_l =
    order_is a b ∙ ap (λ k. key_cmp (mapped order_of k) (key b)) is_k ∙ ap (key_cmp (mapped order_of k)) is_l

-- the tree of a key
abbrev scalar_of : Scalar → List ℕ → Tree-F Tree
scalar_of Truth numbers = Tree-F.Bool (nat_eq (get_or numbers 0 0) 1)
scalar_of Whole numbers = Tree-F.Int (get_or numbers 0 0)
scalar_of Text numbers = Tree-F.Text numbers
scalar_of Bytes numbers = Tree-F.Bytes numbers
scalar_of Address numbers = Tree-F.Addr (get_or numbers 0 0)
scalar_of Net numbers = Tree-F.Net (get_or numbers 0 0) (get_or numbers 1 0)
scalar_of Port numbers = Tree-F.Port (get_or numbers 0 0) (nat_eq (get_or numbers 1 0) 1)
scalar_of Time numbers = Tree-F.Time (get_or numbers 0 0)
scalar_of Span numbers = Tree-F.Span (get_or numbers 0 0)
scalar_of Constant numbers = Tree-F.Pick (get_or numbers 0 0)

abbrev layer_of : Key Tree → Tree-F Tree
layer_of (Numbers scalar numbers) = scalar_of scalar numbers
layer_of (Parts parts) = Tree-F.Tuple parts
layer_of NoKey = Tree-F.Null

layer_is : (x : Tree-F Tree) → (as_key x ≡ NoKey → ⊥) → layer_of (as_key x) ≡ x
layer_is (Tree-F.Bool true) is = refl
layer_is (Tree-F.Bool false) is = refl
layer_is (Tree-F.Int n) is = refl
layer_is (Tree-F.Text bytes) is = refl
layer_is (Tree-F.Bytes bytes) is = refl
layer_is (Tree-F.Addr address) is = refl
layer_is (Tree-F.Net address length) is = refl
layer_is (Tree-F.Port number true) is = refl
layer_is (Tree-F.Port number false) is = refl
layer_is (Tree-F.Time nanos) is = refl
layer_is (Tree-F.Span nanos) is = refl
layer_is (Tree-F.Pick n) is = refl
layer_is (Tree-F.Tuple parts) is = refl
layer_is Tree-F.Null is = absurd (is refl)
layer_is Tree-F.Unset is = absurd (is refl)
layer_is (Tree-F.List items) is = absurd (is refl)
layer_is (Tree-F.Vector items) is = absurd (is refl)
layer_is (Tree-F.Set keys) is = absurd (is refl)
layer_is (Tree-F.Map keys values) is = absurd (is refl)
layer_is (Tree-F.Fields fields) is = absurd (is refl)
layer_is (Tree-F.Rules fields priorities values compiled) is = absurd (is refl)

-- what is among keys the same is the same
same_key : (a b : Tree) (k : Key Tree) → key a ≡ k → key b ≡ k → (k ≡ NoKey → ⊥) → a ≡ b
same_key a b k is_a is_b some =
    let layer_a = layer_is (out-Tree a) (λ none. some (sym is_a ∙ none)) in
    let layer_b = layer_is (out-Tree b) (λ none. some (sym is_b ∙ none)) in
    sym (roll-out-Tree a)
    ∙ ap roll-Tree (sym layer_a ∙ ap layer_of (is_a ∙ sym is_b) ∙ layer_b)
    ∙ roll-out-Tree b

abbrev at_place : ℕ → Scalar
at_place n = get_or (Truth ∷ Whole ∷ Text ∷ Bytes ∷ Address ∷ Net ∷ Port ∷ Time ∷ Span ∷ Constant ∷ []) n Truth

at_its_place : (scalar : Scalar) → at_place (place scalar) ≡ scalar
at_its_place Truth = refl
at_its_place Whole = refl
at_its_place Text = refl
at_its_place Bytes = refl
at_its_place Address = refl
at_its_place Net = refl
at_its_place Port = refl
at_its_place Time = refl
at_its_place Span = refl
at_its_place Constant = refl

one_scalar : (scalar other : Scalar) → IsTrue (same_scalar scalar other) → scalar ≡ other
one_scalar scalar other same =
    let places : place scalar ≡ place other = grind (arith, nat_tests) in
    sym (at_its_place scalar) ∙ ap at_place places ∙ at_its_place other

abbrev is_some_key : {A : Type 0} → Key A → Bool
is_some_key (Numbers scalar numbers) = true
is_some_key (Parts parts) = true
is_some_key NoKey = false

numbers_some : (scalar : Scalar) (numbers : List ℕ) → ◌≡◌ {A = Key Tree} (Numbers scalar numbers) NoKey → ⊥
numbers_some scalar numbers is = false≢true (ap is_some_key (sym is))

parts_some : (parts : List Tree) → ◌≡◌ {A = Key Tree} (Parts parts) NoKey → ⊥
parts_some parts is = false≢true (ap is_some_key (sym is))

then_equal : (o p : Ordering) → ordering_then o p ≡ Equal → (o ≡ Equal) × (p ≡ Equal)
then_equal Less p is = absurd (false≢true (ap is_eq is))
then_equal Equal p is = (refl, is)
then_equal Greater p is = absurd (false≢true (ap is_eq is))

and_first : (p q : Bool) → IsTrue (p && q) → IsTrue p
and_first true q h = refl
and_first false q h = h

and_rest : (p q : Bool) → IsTrue (p && q) → IsTrue q
and_rest true q h = h
and_rest false q h = absurd (false≢true h)

-- only equal keys stand at one place
abbrev Settles : Tree → Type 0
Settles a = (b : Tree) → AreKeys a b → order_of a b ≡ Equal → a ≡ b

parts_settle : (each : List ((part : Tree) × Settles part)) (others : List Tree)
    → IsTrue (all_pass (map alike (map (λ e. e.0) each)) others)
    → in_turn (map order_of (map (λ e. e.0) each)) others ≡ Equal → map (λ e. e.0) each ≡ others
parts_settle [] [] h o = refl
parts_settle [] (b ∷ others) h o = absurd (false≢true h)
parts_settle (e ∷ each) [] h o = absurd (false≢true h)
parts_settle (e ∷ each) (b ∷ others) h o =
    let parts = map (λ (e : (part : Tree) × Settles part). e.0) each in
    let passes = and_first (alike e.0 b) (all_pass (map alike parts) others) h in
    let pass = and_rest (alike e.0 b) (all_pass (map alike parts) others) h in
    let both = then_equal (order_of e.0 b) (in_turn (map order_of parts) others) o in
    ap (λ a. a ∷ parts) (e.1 b passes both.0) ∙ ap (λ more. b ∷ more) (parts_settle each others pass both.1)

numbers_settle : (a : Tree) (scalar : Scalar) (numbers : List ℕ) → key a ≡ Numbers scalar numbers → Settles a
numbers_settle a scalar numbers is b h o = numbers_settle_at (key b) refl where
  numbers_settle_at : (l : Key Tree) → key b ≡ l → a ≡ b
  numbers_settle_at (Numbers other others) is_b =
      let same = one_scalar scalar other (alike_at a b _ _ is is_b h) in
      let equal = exact_bytes numbers others (sym (order_at a b _ _ is is_b) ∙ o) in
      same_key a b (Numbers other others)
      (is ∙ ap (λ s. Numbers s numbers) same ∙ ap (Numbers other) equal) is_b (numbers_some other others)
  numbers_settle_at (Parts others) is_b = absurd (false≢true (alike_at a b _ _ is is_b h))
  numbers_settle_at NoKey is_b = absurd (false≢true (alike_at a b _ _ is is_b h))

tuples_settle : (a : Tree) (each : List ((part : Tree) × Settles part)) → key a ≡ Parts (map (λ e. e.0) each) → Settles a
tuples_settle a each is b h o = tuples_settle_at (key b) refl where
  tuples_settle_at : (l : Key Tree) → key b ≡ l → a ≡ b
  tuples_settle_at (Parts others) is_b =
      let equal = parts_settle each others (alike_at a b _ _ is is_b h) (sym (order_at a b _ _ is is_b) ∙ o) in
      same_key a b (Parts others) (is ∙ ap Parts equal) is_b (parts_some others)
  tuples_settle_at (Numbers other others) is_b = absurd (false≢true (alike_at a b _ _ is is_b h))
  tuples_settle_at NoKey is_b = absurd (false≢true (alike_at a b _ _ is is_b h))

no_key : (a b : Tree) → key a ≡ NoKey → AreKeys a b → ⊥
no_key a b is h = false≢true (alike_at a b NoKey (key b) is refl h)

pub settles : (a b : Tree) → AreKeys a b → order_of a b ≡ Equal → a ≡ b
settles = key_induction Settles numbers_settle tuples_settle (λ a is b h. absurd (no_key a b is h))

-- turned round, the order is the other way
abbrev Turns : Tree → Type 0
Turns a = (b : Tree) → AreKeys a b → order_of b a ≡ ordering_reverse (order_of a b)

reverse_then : (o p : Ordering) → ordering_then (ordering_reverse o) (ordering_reverse p) ≡ ordering_reverse (ordering_then o p)
reverse_then Less p = refl
reverse_then Equal p = refl
reverse_then Greater p = refl

parts_turn : (each : List ((part : Tree) × Turns part)) (others : List Tree)
    → IsTrue (all_pass (map alike (map (λ e. e.0) each)) others)
    → in_turn (map order_of others) (map (λ e. e.0) each)
    ≡ ordering_reverse (in_turn (map order_of (map (λ e. e.0) each)) others)
parts_turn [] [] h = refl
parts_turn [] (b ∷ others) h = absurd (false≢true h)
parts_turn (e ∷ each) [] h = absurd (false≢true h)
parts_turn (e ∷ each) (b ∷ others) h =
    let parts = map (λ (e : (part : Tree) × Turns part). e.0) each in
    let passes = and_first (alike e.0 b) (all_pass (map alike parts) others) h in
    let pass = and_rest (alike e.0 b) (all_pass (map alike parts) others) h in
    ap (λ o. ordering_then o (in_turn (map order_of others) parts)) (e.1 b passes)
    ∙ ap (ordering_then (ordering_reverse (order_of e.0 b))) (parts_turn each others pass)
    ∙ reverse_then (order_of e.0 b) (in_turn (map order_of parts) others)

numbers_turn : (a : Tree) (scalar : Scalar) (numbers : List ℕ) → key a ≡ Numbers scalar numbers → Turns a
numbers_turn a scalar numbers is b h = numbers_turn_at (key b) refl where
  numbers_turn_at : (l : Key Tree) → key b ≡ l → order_of b a ≡ ordering_reverse (order_of a b)
  numbers_turn_at (Numbers other others) is_b =
      order_at b a _ _ is_b is ∙ nat_list_cmp_total.antisymm others numbers
      ∙ ap ordering_reverse (sym (order_at a b _ _ is is_b))
  numbers_turn_at (Parts others) is_b = absurd (false≢true (alike_at a b _ _ is is_b h))
  numbers_turn_at NoKey is_b = absurd (false≢true (alike_at a b _ _ is is_b h))

tuples_turn : (a : Tree) (each : List ((part : Tree) × Turns part)) → key a ≡ Parts (map (λ e. e.0) each) → Turns a
tuples_turn a each is b h = tuples_turn_at (key b) refl where
  tuples_turn_at : (l : Key Tree) → key b ≡ l → order_of b a ≡ ordering_reverse (order_of a b)
  tuples_turn_at (Parts others) is_b =
      order_at b a _ _ is_b is ∙ parts_turn each others (alike_at a b _ _ is is_b h)
      ∙ ap ordering_reverse (sym (order_at a b _ _ is is_b))
  tuples_turn_at (Numbers other others) is_b = absurd (false≢true (alike_at a b _ _ is is_b h))
  tuples_turn_at NoKey is_b = absurd (false≢true (alike_at a b _ _ is is_b h))

pub turns : (a b : Tree) → AreKeys a b → order_of b a ≡ ordering_reverse (order_of a b)
turns = key_induction Turns numbers_turn tuples_turn (λ a is b h. absurd (no_key a b is h))

-- what is below is below all that is above
abbrev Carries : Tree → Type 0
Carries a =
    (b c : Tree) → AreKeys a b → AreKeys b c → order_of a b ≡ Less → order_of b c ≡ Less
    → order_of a c ≡ Less

then_less : (o p : Ordering) → ordering_then o p ≡ Less → (o ≡ Less) ⊎ ((o ≡ Equal) × (p ≡ Less))
then_less Less p is = inl refl
then_less Equal p is = inr (refl, is)
then_less Greater p is = absurd (false≢true (ap is_lt is))

parts_carry : (each : List ((part : Tree) × Carries part)) (bs cs : List Tree)
    → IsTrue (all_pass (map alike (map (λ e. e.0) each)) bs) → IsTrue (all_pass (map alike bs) cs)
    → in_turn (map order_of (map (λ e. e.0) each)) bs ≡ Less → in_turn (map order_of bs) cs ≡ Less
    → in_turn (map order_of (map (λ e. e.0) each)) cs ≡ Less
parts_carry [] [] cs h k o p = p
parts_carry [] (b ∷ bs) cs h k o p = absurd (false≢true h)
parts_carry (e ∷ each) [] cs h k o p = absurd (false≢true h)
parts_carry (e ∷ each) (b ∷ bs) [] h k o p = absurd (false≢true k)
parts_carry (e ∷ each) (b ∷ bs) (c ∷ cs) h k o p =
    let parts = map (λ (e : (part : Tree) × Carries part). e.0) each in
    let first = and_first (alike e.0 b) (all_pass (map alike parts) bs) h in
    let second = and_first (alike b c) (all_pass (map alike bs) cs) k in
    let left = in_turn (map order_of parts) bs in
    let right = in_turn (map order_of bs) cs in
    let whole = in_turn (map order_of parts) cs in
    ⊎_elim
    (λ (below : order_of e.0 b ≡ Less). ap (λ o. ordering_then o whole)
    (⊎_elim
    (λ (above : order_of b c ≡ Less). e.1 b c first second below above)
    (λ (above : (order_of b c ≡ Equal) × (right ≡ Less)).
    ap (order_of e.0) (sym (settles b c second above.0)) ∙ below)
    (then_less (order_of b c) right p)))
    (λ (level : (order_of e.0 b ≡ Equal) × (left ≡ Less)).
    let same = settles e.0 b first level.0 in
    ⊎_elim
    (λ (above : order_of b c ≡ Less).
    ap (λ o. ordering_then o whole) (ap (λ a. order_of a c) same ∙ above))
    (λ (above : (order_of b c ≡ Equal) × (right ≡ Less)).
    ap (λ o. ordering_then o whole) (ap (λ a. order_of a c) same ∙ above.0)
    ∙ parts_carry each bs cs (and_rest (alike e.0 b) (all_pass (map alike parts) bs) h)
    (and_rest (alike b c) (all_pass (map alike bs) cs) k) level.1 above.1)
    (then_less (order_of b c) right p))
    (then_less (order_of e.0 b) left o)

numbers_carry : (a : Tree) (scalar : Scalar) (numbers : List ℕ) → key a ≡ Numbers scalar numbers → Carries a
numbers_carry a scalar numbers is b c h k o p = numbers_carry_at (key b) (key c) refl refl where
  numbers_carry_at : (l m : Key Tree) → key b ≡ l → key c ≡ m → order_of a c ≡ Less
  numbers_carry_at (Numbers other others) (Numbers third thirds) is_b is_c =
      order_at a c _ _ is is_c
      ∙ nat_list_cmp_total.trans numbers others thirds (sym (order_at a b _ _ is is_b) ∙ o)
      (sym (order_at b c _ _ is_b is_c) ∙ p)
  numbers_carry_at (Numbers other others) (Parts thirds) is_b is_c = absurd (false≢true (alike_at b c _ _ is_b is_c k))
  numbers_carry_at (Numbers other others) NoKey is_b is_c = absurd (false≢true (alike_at b c _ _ is_b is_c k))
  numbers_carry_at (Parts others) m is_b is_c = absurd (false≢true (alike_at a b _ _ is is_b h))
  numbers_carry_at NoKey m is_b is_c = absurd (false≢true (alike_at a b _ _ is is_b h))

tuples_carry : (a : Tree) (each : List ((part : Tree) × Carries part)) → key a ≡ Parts (map (λ e. e.0) each) → Carries a
tuples_carry a each is b c h k o p = tuples_carry_at (key b) (key c) refl refl where
  tuples_carry_at : (l m : Key Tree) → key b ≡ l → key c ≡ m → order_of a c ≡ Less
  tuples_carry_at (Parts others) (Parts thirds) is_b is_c =
      order_at a c _ _ is is_c
      ∙ parts_carry each others thirds (alike_at a b _ _ is is_b h) (alike_at b c _ _ is_b is_c k)
      (sym (order_at a b _ _ is is_b) ∙ o) (sym (order_at b c _ _ is_b is_c) ∙ p)
  tuples_carry_at (Parts others) (Numbers third thirds) is_b is_c = absurd (false≢true (alike_at b c _ _ is_b is_c k))
  tuples_carry_at (Parts others) NoKey is_b is_c = absurd (false≢true (alike_at b c _ _ is_b is_c k))
  tuples_carry_at (Numbers other others) m is_b is_c = absurd (false≢true (alike_at a b _ _ is is_b h))
  tuples_carry_at NoKey m is_b is_c = absurd (false≢true (alike_at a b _ _ is is_b h))

pub carries : (a b c : Tree) → AreKeys a b → AreKeys b c → order_of a b ≡ Less → order_of b c ≡ Less
    → order_of a c ≡ Less
carries = key_induction Carries numbers_carry tuples_carry (λ a is b c h. absurd (no_key a b is h))

level : (o : Ordering) → o ≡ ordering_reverse o → o ≡ Equal
level Less is = absurd (false≢true (ap is_gt is))
level Equal is = refl
level Greater is = absurd (false≢true (ap is_lt is))

pub equal_exactly : (a b : Tree) → AreKeys a b → (order_of a b ≡ Equal) ↔ (a ≡ b)
equal_exactly a b h = (
  settles a b h,
  λ (same : a ≡ b).
      ap (order_of a) (sym same)
      ∙ level (order_of a a) (turns a a (subst (λ b. AreKeys a b) (sym same) h)),
)
