-- Literals and defaults have the values that globals begin with.
use Rattle.std.proofs.Common.{◌≡◌, ℕ, false, List, [], ◌∷◌, map, refl, sym, ap, ◌∙◌, Some}
use Rattle.std.proofs.Math.Path.{subst}
use Rattle.hilti_addr.specs.Masks.{mapped}
use Rattle.hilti_tree.specs.declared.tree.Tree.{Tree, out-Tree, roll-Tree, roll-out-Tree}
use Rattle.hilti_tree.specs.declared.tree.Tree.TheOpen.{Tree-F}
use Rattle.hilti_tree.specs.declared.tree.Tree.TheFolds.{fold-roll-Tree, map-Tree}
use Rattle.hilti_tree.specs.declared.tree.Tree.TheVariants as trees
use Rattle.hilti_types.specs.declared.declared.Declared.{Declared}
use Rattle.hilti_types.specs.declared.value_type.Inner.{Inner}
use Rattle.hilti_types.specs.declared.value_type.Inner.TheOpen.{ValueType-F}
use Rattle.hilti_types.specs.declared.value_type.Inner.TheFolds.{fold-Inner, fold-roll-ValueType, ind-ValueType, map-ValueType}
use Rattle.hilti_types.specs.declared.value_type.ValueType.{ValueType, roll-ValueType}
use Rattle.hilti_typing.specs.Defaults.{default_of, default_step, no_default}
use Rattle.hilti_typing.specs.Fits.{IsValue}
use Rattle.hilti_values.specs.First.{first_of, first_step, no_value}
use Rattle.hilti_values.specs.Literals.{value_of}
use Rattle.hilti_values.specs.declared.value.Value.{Value}
use Rattle.hilti_values.specs.declared.value.Value.TheVariants as values
use Rattle.hilti_effects.specs.Effect.{value_of_tree, value_step}

-- a tree of a shape has the value of its shape
shape_value : (x : Tree-F Tree) (tree : Tree) → roll-Tree x ≡ tree
    → value_of_tree tree ≡ value_step (map-Tree Tree Value value_of_tree x)
shape_value x tree r = ap value_of_tree (sym r) ∙ fold-roll-Tree Value value_step x

module _ (table : List Declared) where
  -- a literal of a type has the value of its tree
  abbrev HasValue : ValueType → Tree → Type 0
  HasValue t tree = IsValue table t tree → value_of tree ≡ Some (value_of_tree tree)

  value_shape : (t : ValueType) (x : Tree-F Tree) → HasValue t (roll-Tree x)
  unfolding out-Tree denote.Hole.Carrier.out
  value_shape t (Tree-F.Bool b) = subst (HasValue t) (sym (trees.rolls-Bool b))
      (λ is. ap Some (sym (shape_value (Tree-F.Bool b) (trees.Bool b) (trees.rolls-Bool b))))
  value_shape t (Tree-F.Int n) = subst (HasValue t) (sym (trees.rolls-Int n))
      (λ is. ap Some (sym (shape_value (Tree-F.Int n) (trees.Int n) (trees.rolls-Int n))))
  value_shape t (Tree-F.Text bytes) = subst (HasValue t) (sym (trees.rolls-Text bytes))
      (λ is. ap Some (sym (shape_value (Tree-F.Text bytes) (trees.Text bytes) (trees.rolls-Text bytes))))
  value_shape t (Tree-F.Bytes bytes) = subst (HasValue t) (sym (trees.rolls-Bytes bytes))
      (λ is. ap Some (sym (shape_value (Tree-F.Bytes bytes) (trees.Bytes bytes) (trees.rolls-Bytes bytes))))
  value_shape t (Tree-F.Addr a) = subst (HasValue t) (sym (trees.rolls-Addr a))
      (λ is. ap Some (sym (shape_value (Tree-F.Addr a) (trees.Addr a) (trees.rolls-Addr a))))
  value_shape t (Tree-F.Net a l) = subst (HasValue t) (sym (trees.rolls-Net a l))
      (λ is. ap Some (sym (shape_value (Tree-F.Net a l) (trees.Net a l) (trees.rolls-Net a l))))
  value_shape t (Tree-F.Port n u) = subst (HasValue t) (sym (trees.rolls-Port n u))
      (λ is. ap Some (sym (shape_value (Tree-F.Port n u) (trees.Port n u) (trees.rolls-Port n u))))
  value_shape t (Tree-F.Time n) = subst (HasValue t) (sym (trees.rolls-Time n))
      (λ is. ap Some (sym (shape_value (Tree-F.Time n) (trees.Time n) (trees.rolls-Time n))))
  value_shape t (Tree-F.Span n) = subst (HasValue t) (sym (trees.rolls-Span n))
      (λ is. ap Some (sym (shape_value (Tree-F.Span n) (trees.Span n) (trees.rolls-Span n))))
  value_shape t (Tree-F.Pick n) = subst (HasValue t) (sym (trees.rolls-Pick n))
      (λ is. ap Some (sym (shape_value (Tree-F.Pick n) (trees.Pick n) (trees.rolls-Pick n))))
  value_shape t Tree-F.Null = subst (HasValue t) (sym trees.rolls-Null)
      (λ is. ap Some (sym (shape_value Tree-F.Null trees.Null trees.rolls-Null)))
  value_shape t Tree-F.Unset = subst (HasValue t) (sym trees.rolls-Unset) (λ is. absurd is)
  value_shape t (Tree-F.Tuple parts) = subst (HasValue t) (sym (trees.rolls-Tuple parts)) (λ is. absurd is)
  value_shape t (Tree-F.List items) = subst (HasValue t) (sym (trees.rolls-List items)) (λ is. absurd is)
  value_shape t (Tree-F.Vector items) = subst (HasValue t) (sym (trees.rolls-Vector items)) (λ is. absurd is)
  value_shape t (Tree-F.Set items) = subst (HasValue t) (sym (trees.rolls-Set items)) (λ is. absurd is)
  value_shape t (Tree-F.Map keys vals) = subst (HasValue t) (sym (trees.rolls-Map keys vals)) (λ is. absurd is)
  value_shape t (Tree-F.Fields fields) = subst (HasValue t) (sym (trees.rolls-Fields fields)) (λ is. absurd is)
  value_shape t (Tree-F.Rules rules ranks vals compiled) = subst (HasValue t) (sym (trees.rolls-Rules rules ranks vals
      compiled)) (λ is. absurd is)

  pub has_value : (t : ValueType) (tree : Tree) → HasValue t tree
  has_value t tree = subst (HasValue t) (roll-out-Tree tree) (value_shape t (out-Tree tree))

-- the default of a type has the value that variables of the type hold at first
abbrev IsFirst : ValueType → Type 0
IsFirst t = value_of_tree (default_of t) ≡ first_of t

abbrev Default : Type 0
Default = (t : ValueType) × IsFirst t

abbrev Layer : Type 0
Layer = ValueType-F (Inner × Unit {0}) Default

abbrev bare : Layer → ValueType-F Inner ValueType
bare y = map-ValueType (Inner × Unit {0}) Default Inner ValueType (λ e. e.0) (λ e. e.0) y

abbrev default_shape : ValueType-F Inner ValueType → Tree
default_shape x = default_step (map-ValueType Inner ValueType ℕ Tree (fold-Inner ℕ Tree no_default default_step)
    default_of x)

abbrev first_shape : ValueType-F Inner ValueType → Value
first_shape x = first_step (map-ValueType Inner ValueType ℕ Value (fold-Inner ℕ Value no_value first_step) first_of x)

one : (x : ValueType-F Inner ValueType) (z : Tree-F Tree) → roll-Tree z ≡ default_shape x
    → value_step (map-Tree Tree Value value_of_tree z) ≡ first_shape x → IsFirst (roll-ValueType x)
one x z r e = ap value_of_tree (fold-roll-ValueType ℕ Tree no_default default_step x)
    ∙ shape_value z (default_shape x) r ∙ e ∙ sym (fold-roll-ValueType ℕ Value no_value first_step x)

parts_are : (es : List Default) → map value_of_tree (map default_of (map (λ (e : Default). e.0) es))
    ≡ map first_of (map (λ (e : Default). e.0) es)
parts_are [] = refl
parts_are (e ∷ es) = cc (e.1, parts_are es)

layer : (y : Layer) → IsFirst (roll-ValueType (bare y))
layer ValueType-F.Bool = one ValueType-F.Bool (Tree-F.Bool false) (trees.rolls-Bool false) refl
layer (ValueType-F.Int bits) = one (ValueType-F.Int bits) (Tree-F.Int 0) (trees.rolls-Int 0) refl
layer ValueType-F.Text = one ValueType-F.Text (Tree-F.Text []) (trees.rolls-Text []) refl
layer ValueType-F.Bytes = one ValueType-F.Bytes (Tree-F.Bytes []) (trees.rolls-Bytes []) refl
layer ValueType-F.Addr = one ValueType-F.Addr (Tree-F.Addr (mapped 0)) (trees.rolls-Addr (mapped 0)) refl
layer ValueType-F.Net = one ValueType-F.Net (Tree-F.Net (mapped 0) 96) (trees.rolls-Net (mapped 0) 96) refl
layer ValueType-F.Port = one ValueType-F.Port (Tree-F.Port 0 false) (trees.rolls-Port 0 false) refl
layer ValueType-F.Time = one ValueType-F.Time (Tree-F.Time 0) (trees.rolls-Time 0) refl
layer ValueType-F.Span = one ValueType-F.Span (Tree-F.Span 0) (trees.rolls-Span 0) refl
layer ValueType-F.Callable = one ValueType-F.Callable Tree-F.Null trees.rolls-Null refl
layer (ValueType-F.Enum n) = one (ValueType-F.Enum n) (Tree-F.Pick 0) (trees.rolls-Pick 0) refl
layer (ValueType-F.Iter over) = one (ValueType-F.Iter over.0) Tree-F.Null trees.rolls-Null refl
layer (ValueType-F.Ref to) = one (ValueType-F.Ref to.0) Tree-F.Null trees.rolls-Null refl
layer (ValueType-F.Tuple es) =
    one (ValueType-F.Tuple (map (λ (e : Default). e.0) es))
    (Tree-F.Tuple (map default_of (map (λ (e : Default). e.0) es)))
    (trees.rolls-Tuple (map default_of (map (λ (e : Default). e.0) es)))
    (ap values.Tuple (parts_are es))

pub default_is_first : (t : ValueType) → IsFirst t
default_is_first = ind-ValueType (λ o. Unit {0}) IsFirst (λ x y is. tt) (λ x y is. subst (λ x. IsFirst (roll-ValueType
    x)) is (layer y))
