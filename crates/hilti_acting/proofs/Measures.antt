-- How large the trees of values are, by their shapes, and what is left of a room behind them.
use Rattle.std.proofs.Common.{◌≡◌, ℕ, zero, suc, ◌+◌, ◌-◌, ◌<◌, ◌≤◌, List, map, refl, sym, ap}
use Rattle.std.proofs.Common.{◌∙◌}
use Rattle.std.proofs.Common.{length, take, get_or, arith, Option, Some, None}
use Rattle.std.specs.Prelude.{IfSome, IfNone, SomeIff}
use Rattle.hilti_tree.specs.Sizes.{tree_size, forest_size, size_step}
use Rattle.hilti_tree.specs.declared.tree.Tree.{Tree, roll-Tree}
use Rattle.hilti_tree.specs.declared.tree.Tree.TheOpen.{Tree-F}
use Rattle.hilti_tree.specs.declared.tree.Tree.TheVariants as trees
use Rattle.hilti_tree.specs.declared.tree.Tree.TheFolds.{fold-roll-Tree, map-Tree}
use Rattle.hilti_values.specs.declared.value.Value.{Value, out-Value, roll-Value, roll-out-Value}
use Rattle.hilti_values.specs.declared.value.Value.TheOpen.{Value-F}
use Rattle.hilti_values.specs.declared.value.Value.TheVariants as values
use Rattle.hilti_values.specs.declared.value.Value.TheFolds.{fold-roll-Value}
use Rattle.hilti_effects.specs.Printing.{tree_of, tree_step}
use Rattle.hilti_acting.proofs.Sizes.{sizes_up_to}

abbrev measure : Value → ℕ
measure v = tree_size (tree_of v)

abbrev shape_size : Value-F Value → ℕ
shape_size (Value-F.Text bytes) = 1 + length bytes
shape_size (Value-F.Bytes bytes) = 1 + length bytes
shape_size (Value-F.Tuple parts) = 1 + forest_size (map tree_of parts)
shape_size _ = 1

leaf : (y : Tree-F Tree) → tree_size (roll-Tree y) ≡ size_step (map-Tree Tree ℕ tree_size y)
leaf y = fold-roll-Tree ℕ size_step y

module _ (x : Value-F Value) (tree : Tree) (y : Tree-F Tree) (rolls : roll-Tree y ≡ tree) where
  by_tree : tree_of (roll-Value x) ≡ tree
      → measure (roll-Value x) ≡ size_step (map-Tree Tree ℕ tree_size y)
  by_tree is = ap tree_size (is ∙ sym rolls) ∙ leaf y

step : (x : Value-F Value) → measure (roll-Value x) ≡ shape_size x
step (Value-F.Bool b) = by_tree (Value-F.Bool b) (trees.Bool b) (Tree-F.Bool b) (trees.rolls-Bool b)
    (fold-roll-Value Tree tree_step (Value-F.Bool b))
step (Value-F.Int n) = by_tree (Value-F.Int n) (trees.Int n) (Tree-F.Int n) (trees.rolls-Int n)
    (fold-roll-Value Tree tree_step (Value-F.Int n))
step (Value-F.Text t) = by_tree (Value-F.Text t) (trees.Text t) (Tree-F.Text t) (trees.rolls-Text t)
    (fold-roll-Value Tree tree_step (Value-F.Text t))
step (Value-F.Bytes t) =
    by_tree (Value-F.Bytes t) (trees.Bytes t) (Tree-F.Bytes t) (trees.rolls-Bytes t)
    (fold-roll-Value Tree tree_step (Value-F.Bytes t))
step (Value-F.Addr a) = by_tree (Value-F.Addr a) (trees.Addr a) (Tree-F.Addr a) (trees.rolls-Addr a)
    (fold-roll-Value Tree tree_step (Value-F.Addr a))
step (Value-F.Net l a) =
    by_tree (Value-F.Net l a) (trees.Net a l) (Tree-F.Net a l) (trees.rolls-Net a l)
    (fold-roll-Value Tree tree_step (Value-F.Net l a))
step (Value-F.Port n b) =
    by_tree (Value-F.Port n b) (trees.Port n b) (Tree-F.Port n b) (trees.rolls-Port n b)
    (fold-roll-Value Tree tree_step (Value-F.Port n b))
step (Value-F.Time n) = by_tree (Value-F.Time n) (trees.Time n) (Tree-F.Time n) (trees.rolls-Time n)
    (fold-roll-Value Tree tree_step (Value-F.Time n))
step (Value-F.Span n) = by_tree (Value-F.Span n) (trees.Span n) (Tree-F.Span n) (trees.rolls-Span n)
    (fold-roll-Value Tree tree_step (Value-F.Span n))
step (Value-F.Pick n) = by_tree (Value-F.Pick n) (trees.Pick n) (Tree-F.Pick n) (trees.rolls-Pick n)
    (fold-roll-Value Tree tree_step (Value-F.Pick n))
step (Value-F.Tuple parts) =
    by_tree (Value-F.Tuple parts) (trees.Tuple (map tree_of parts))
    (Tree-F.Tuple (map tree_of parts))
    (trees.rolls-Tuple (map tree_of parts)) (fold-roll-Value Tree tree_step (Value-F.Tuple parts))
step Value-F.Null = by_tree Value-F.Null trees.Null Tree-F.Null trees.rolls-Null
    (fold-roll-Value Tree tree_step Value-F.Null)
step (Value-F.Ref r) = by_tree (Value-F.Ref r) trees.Null Tree-F.Null trees.rolls-Null
    (fold-roll-Value Tree tree_step (Value-F.Ref r))
step (Value-F.Iter c) = by_tree (Value-F.Iter c) trees.Null Tree-F.Null trees.rolls-Null
    (fold-roll-Value Tree tree_step (Value-F.Iter c))

by_shape : (v : Value) → measure v ≡ shape_size (out-Value v)
by_shape v = ap measure (sym (roll-out-Value v)) ∙ step (out-Value v)

-- each measures something
shape_some : (x : Value-F Value) → 1 ≤ shape_size x
shape_some (Value-F.Text t) = omega arith
shape_some (Value-F.Bytes t) = omega arith
shape_some (Value-F.Tuple parts) = omega arith
shape_some (Value-F.Bool b) = omega arith
shape_some (Value-F.Int n) = omega arith
shape_some (Value-F.Addr a) = omega arith
shape_some (Value-F.Net l a) = omega arith
shape_some (Value-F.Port n b) = omega arith
shape_some (Value-F.Time n) = omega arith
shape_some (Value-F.Span n) = omega arith
shape_some (Value-F.Pick n) = omega arith
shape_some Value-F.Null = omega arith
shape_some (Value-F.Ref r) = omega arith
shape_some (Value-F.Iter c) = omega arith

-- those that hold no bytes and no parts measure 1
shape_one : (x : Value-F Value) → ((t : List ℕ) → roll-Value x ≡ values.Text t → ⊥)
    → ((t : List ℕ) → roll-Value x ≡ values.Bytes t → ⊥)
    → ((parts : List Value) → roll-Value x ≡ values.Tuple parts → ⊥) → shape_size x ≡ 1
shape_one (Value-F.Text t) text bytes tuple = absurd (text t (values.rolls-Text t))
shape_one (Value-F.Bytes t) text bytes tuple = absurd (bytes t (values.rolls-Bytes t))
shape_one (Value-F.Tuple parts) text bytes tuple = absurd (tuple parts (values.rolls-Tuple parts))
shape_one (Value-F.Bool b) text bytes tuple = refl
shape_one (Value-F.Int n) text bytes tuple = refl
shape_one (Value-F.Addr a) text bytes tuple = refl
shape_one (Value-F.Net l a) text bytes tuple = refl
shape_one (Value-F.Port n b) text bytes tuple = refl
shape_one (Value-F.Time n) text bytes tuple = refl
shape_one (Value-F.Span n) text bytes tuple = refl
shape_one (Value-F.Pick n) text bytes tuple = refl
shape_one Value-F.Null text bytes tuple = refl
shape_one (Value-F.Ref r) text bytes tuple = refl
shape_one (Value-F.Iter c) text bytes tuple = refl

text_measure : (t : List ℕ) → measure (values.Text t) ≡ 1 + length t
text_measure t = ap measure (sym (values.rolls-Text t)) ∙ step (Value-F.Text t)

bytes_measure : (t : List ℕ) → measure (values.Bytes t) ≡ 1 + length t
bytes_measure t = ap measure (sym (values.rolls-Bytes t)) ∙ step (Value-F.Bytes t)

tuple_measure : (parts : List Value)
    → measure (values.Tuple parts) ≡ 1 + forest_size (map tree_of parts)
tuple_measure parts = ap measure (sym (values.rolls-Tuple parts)) ∙ step (Value-F.Tuple parts)

-- what is left

pub no_room : (r : Option ℕ) (v : Value) (room : ℕ) → ¬ (1 ≤ room) → IfNone r (room < measure v)
no_room (Some left) v room not = tt
no_room None v zero not = omega (arith, by_shape v, shape_some (out-Value v))
no_room None v (suc room) not = absurd (not (omega arith))

pub one_left : (v : Value) (room left : ℕ) → (1 ≤ room) × (left ≡ room - 1)
    → ((t : List ℕ) → v ≡ values.Text t → ⊥) → ((t : List ℕ) → v ≡ values.Bytes t → ⊥)
    → ((parts : List Value) → v ≡ values.Tuple parts → ⊥) → left + measure v ≡ room
one_left v room left (some, is) text bytes tuple =
    let one = shape_one (out-Value v) (λ t e. text t (sym (roll-out-Value v) ∙ e))
    (λ t e. bytes t (sym (roll-out-Value v) ∙ e))
    (λ parts e. tuple parts (sym (roll-out-Value v) ∙ e)) in
    omega (arith, by_shape v, one, some, is)

module _ (v : Value) (room left : ℕ) (first : (1 ≤ room) × (left ≡ room - 1)) where
  bytes_some : (r : Option ℕ) (n : ℕ) → measure v ≡ 1 + n → SomeIff r (n ≤ left) (left - n)
      → IfSome r (λ behind. behind + measure v ≡ room)
  bytes_some None n is h = tt
  bytes_some (Some behind) n is h = omega (arith, is, h.0, h.1, first.0, first.1)

  bytes_none : (r : Option ℕ) (n : ℕ) → measure v ≡ 1 + n → SomeIff r (n ≤ left) (left - n)
      → IfNone r (room < measure v)
  bytes_none (Some behind) n is h = tt
  bytes_none None n is h = omega (arith, is, not_le n left h, first.0, first.1)
    where
      not_le : (a b : ℕ) → ¬ (a ≤ b) → b < a
      not_le a b never = omega (arith, never)

  module _ (t u : List ℕ) (same : u ≡ t) where
    measured : measure v ≡ 1 + length t → measure v ≡ 1 + length u
    measured is = omega (arith, is, ap length same)

    pub text_some : (r : Option ℕ) → v ≡ values.Text t
        → SomeIff r (length u ≤ left) (left - length u)
        → IfSome r (λ behind. behind + measure v ≡ room)
    text_some r is = bytes_some r (length u) (measured (ap measure is ∙ text_measure t))

    pub text_none : (r : Option ℕ) → v ≡ values.Text t
        → SomeIff r (length u ≤ left) (left - length u) → IfNone r (room < measure v)
    text_none r is = bytes_none r (length u) (measured (ap measure is ∙ text_measure t))

    pub data_some : (r : Option ℕ) → v ≡ values.Bytes t
        → SomeIff r (length u ≤ left) (left - length u)
        → IfSome r (λ behind. behind + measure v ≡ room)
    data_some r is = bytes_some r (length u) (measured (ap measure is ∙ bytes_measure t))

    pub data_none : (r : Option ℕ) → v ≡ values.Bytes t
        → SomeIff r (length u ≤ left) (left - length u) → IfNone r (room < measure v)
    data_none r is = bytes_none r (length u) (measured (ap measure is ∙ bytes_measure t))

  module _ (parts : List Value) (is : v ≡ values.Tuple parts) where
    pub tuple_some : (r : Option ℕ)
        → IfSome r (λ behind. behind + forest_size (map tree_of parts) ≡ left)
        → IfSome r (λ behind. behind + measure v ≡ room)
    tuple_some None h = tt
    tuple_some (Some behind) h =
        omega (arith, ap measure is ∙ tuple_measure parts, h, first.0, first.1)

    pub tuple_none : (r : Option ℕ) → IfNone r (left < forest_size (map tree_of parts))
        → IfNone r (room < measure v)
    tuple_none (Some behind) h = tt
    tuple_none None h = omega (arith, ap measure is ∙ tuple_measure parts, h, first.0, first.1)

pub no_room_more : (r : Option ℕ) (vs items : List Value) (room left at : ℕ) (v : Value)
    → items ≡ vs → at < length items → v ≡ get_or items at v
    → left + forest_size (map tree_of (take at items)) ≡ room → left < measure v
    → IfNone r (room < forest_size (map tree_of vs))
no_room_more (Some x) vs items room left at v same below is so_far none = tt
no_room_more None vs items room left at v same below is so_far none =
    let upto = sizes_up_to tree_of items at v below is in
    let all = ap (λ vs. forest_size (map tree_of vs)) same in
    omega (arith, upto, all, so_far, none)
