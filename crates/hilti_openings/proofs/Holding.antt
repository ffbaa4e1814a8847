-- Values of trees and types hold no object.
use Rattle.std.proofs.Common.{◌≡◌, ℕ, ◌+◌, List, [], ◌∷◌, ◌++◌, map, refl, sym, ap, ◌∙◌, Option, Some, None, arith, drop}
use Rattle.std.specs.Prelude.{slice_get}
use Rattle.std.proofs.lemmas.List.Sums.{sum-map, sum_by-append, sum_by-cons}
use Rattle.hilti_tree.specs.declared.tree.Tree.{Tree, out-Tree}
use Rattle.hilti_tree.specs.declared.tree.Tree.TheOpen.{Tree-F}
use Rattle.hilti_tree.specs.declared.tree.Tree.TheFolds.{fold-roll-Tree, ind-Tree, map-Tree}
use Rattle.hilti_types.specs.declared.value_type.Inner.{Inner}
use Rattle.hilti_types.specs.declared.value_type.ValueType.{ValueType}
use Rattle.hilti_types.specs.declared.value_type.Inner.TheOpen.{ValueType-F}
use Rattle.hilti_types.specs.declared.value_type.Inner.TheFolds.{fold-Inner, fold-roll-ValueType, ind-ValueType, map-ValueType}
use Rattle.hilti_values.specs.First.{first_of, first_step, no_value}
use Rattle.hilti_values.specs.Literals.{value_of, value_step as literal_step}
use Rattle.hilti_values.specs.declared.value.Value.{Value, roll-Value}
use Rattle.hilti_values.specs.declared.value.Value.TheVariants as values
use Rattle.hilti_values.specs.declared.value.Value.TheOpen.{Value-F}
use Rattle.hilti_values.specs.declared.value.Value.TheFolds.{fold-roll-Value, map-Value}
use Rattle.hilti_heap.specs.Held.{held, held_step, all_held}
use Rattle.hilti_base.specs.declared.names.FnId.{FnId}
use Rattle.hilti_parts.specs.declared.parts.Function.{Function}
use Rattle.hilti_parts.specs.declared.parts.Parts.{Parts}
use Rattle.hilti_stack.specs.Frames.{Frame}
use Rattle.hilti_effects.specs.Acting.{entry, locals_in}
use Rattle.hilti_effects.specs.Effect.{value_of_tree, value_step}
use Rattle.hilti_effects.specs.Operands.{value_or_null}
use Rattle.hilti_openings.specs.Openings.{BeginWithNothing}
use Rattle.hilti_parts.specs.declared.parts.Global.{Global}

-- a value of a shape holds what its shape says of what its parts hold
shape_held : (s : ℕ) (x : Value-F Value) → held s (roll-Value x) ≡ held_step s (map-Value Value ℕ (held s) x)
shape_held s x = fold-roll-Value ℕ (held_step s) x

module _ (s : ℕ) where
  bool_held : (b : _) → held s (values.Bool b) ≡ 0
  bool_held b = ap (held s) (sym (values.rolls-Bool b)) ∙ shape_held s (Value-F.Bool b)

  int_held : (n : ℕ) → held s (values.Int n) ≡ 0
  int_held n = ap (held s) (sym (values.rolls-Int n)) ∙ shape_held s (Value-F.Int n)

  text_held : (bytes : List ℕ) → held s (values.Text bytes) ≡ 0
  text_held bytes = ap (held s) (sym (values.rolls-Text bytes)) ∙ shape_held s (Value-F.Text bytes)

  bytes_held : (bytes : List ℕ) → held s (values.Bytes bytes) ≡ 0
  bytes_held bytes = ap (held s) (sym (values.rolls-Bytes bytes)) ∙ shape_held s (Value-F.Bytes bytes)

  addr_held : (a : ℕ) → held s (values.Addr a) ≡ 0
  addr_held a = ap (held s) (sym (values.rolls-Addr a)) ∙ shape_held s (Value-F.Addr a)

  net_held : (l a : ℕ) → held s (values.Net l a) ≡ 0
  net_held l a = ap (held s) (sym (values.rolls-Net l a)) ∙ shape_held s (Value-F.Net l a)

  port_held : (n : ℕ) (b : _) → held s (values.Port n b) ≡ 0
  port_held n b = ap (held s) (sym (values.rolls-Port n b)) ∙ shape_held s (Value-F.Port n b)

  time_held : (n : ℕ) → held s (values.Time n) ≡ 0
  time_held n = ap (held s) (sym (values.rolls-Time n)) ∙ shape_held s (Value-F.Time n)

  span_held : (n : ℕ) → held s (values.Span n) ≡ 0
  span_held n = ap (held s) (sym (values.rolls-Span n)) ∙ shape_held s (Value-F.Span n)

  pick_held : (n : ℕ) → held s (values.Pick n) ≡ 0
  pick_held n = ap (held s) (sym (values.rolls-Pick n)) ∙ shape_held s (Value-F.Pick n)

  null_held : held s values.Null ≡ 0
  null_held = ap (held s) (sym values.rolls-Null) ∙ shape_held s Value-F.Null

  tuple_held : (parts : List Value) → held s (values.Tuple parts) ≡ all_held s parts
  tuple_held parts = ap (held s) (sym (values.rolls-Tuple parts)) ∙ shape_held s (Value-F.Tuple parts)

  -- values hold what each of them holds
  pub all_cons : (v : Value) (vs : List Value) → all_held s (v ∷ vs) ≡ held s v + all_held s vs
  all_cons v vs =
      let whole = sum-map (held s) (v ∷ vs) in
      let parts = sum_by-cons (held s) v vs in
      let others = sum-map (held s) vs in
      omega (arith, whole, parts, others)

  pub all_append : (xs ys : List Value) → all_held s (xs ++ ys) ≡ all_held s xs + all_held s ys
  all_append xs ys =
      let whole = sum-map (held s) (xs ++ ys) in
      let parts = sum_by-append (held s) xs ys in
      let one = sum-map (held s) xs in
      let other = sum-map (held s) ys in
      omega (arith, whole, parts, one, other)

  -- parts that hold nothing, each with why
  parts_held : {T : Type 0} (f : T → Value) (each : List ((part : T) × (held s (f part) ≡ 0)))
      → all_held s (map f (map (λ e. e.0) each)) ≡ 0
  parts_held f [] = refl
  parts_held f (e ∷ each) =
      let others = parts_held f each in
      let both = all_cons (f e.0) (map f (map (λ e. e.0) each)) in
      omega (arith, both, e.1, others)

  pub tree_held : (tree : Tree) → held s (value_of_tree tree) ≡ 0
  tree_held =
      ind-Tree (λ t. held s (value_of_tree t) ≡ 0) (λ x y is.
      ap (held s) (fold-roll-Tree Value value_step x ∙ ap (λ z. value_step (map-Tree Tree Value value_of_tree z)) (sym is))
      ∙ layer y)
    where
      layer : (y : Tree-F ((part : Tree) × (held s (value_of_tree part) ≡ 0)))
          → held s (value_step (map-Tree Tree Value value_of_tree (map-Tree ((part : Tree) × (held s (value_of_tree part) ≡ 0)) Tree (λ e. e.0) y))) ≡ 0
      layer (Tree-F.Bool b) = bool_held b
      layer (Tree-F.Int n) = int_held n
      layer (Tree-F.Text bytes) = text_held bytes
      layer (Tree-F.Bytes bytes) = bytes_held bytes
      layer (Tree-F.Addr a) = addr_held a
      layer (Tree-F.Net a l) = net_held l a
      layer (Tree-F.Port n b) = port_held n b
      layer (Tree-F.Time n) = time_held n
      layer (Tree-F.Span n) = span_held n
      layer (Tree-F.Pick n) = pick_held n
      layer Tree-F.Null = null_held
      layer Tree-F.Unset = null_held
      layer (Tree-F.Tuple parts) =
          tuple_held (map value_of_tree (map (λ e. e.0) parts)) ∙ parts_held value_of_tree parts
      layer (Tree-F.List items) = null_held
      layer (Tree-F.Vector items) = null_held
      layer (Tree-F.Set keys) = null_held
      layer (Tree-F.Map keys vs) = null_held
      layer (Tree-F.Fields fields) = null_held
      layer (Tree-F.Rules fields priorities vs compiled) = null_held

  abbrev Part : Type 0
  Part = (part : ValueType) × (held s (first_of part) ≡ 0)

  abbrev Within : Type 0
  Within = (part : Inner) × Unit {0}

  pub first_held : (t : ValueType) → held s (first_of t) ≡ 0
  first_held =
      ind-ValueType (λ i. Unit {0}) (λ t. held s (first_of t) ≡ 0) (λ x y is. tt) (λ x y is.
      ap (held s) (fold-roll-ValueType ℕ Value no_value first_step x
      ∙ ap (λ z. first_step (map-ValueType Inner ValueType ℕ Value inner first_of z)) (sym is))
      ∙ layer y)
    where
      inner : Inner → ℕ
      inner = fold-Inner ℕ Value no_value first_step

      layer : (y : ValueType-F Within Part)
          → held s (first_step (map-ValueType Inner ValueType ℕ Value inner first_of (map-ValueType Within Part Inner ValueType (λ e. e.0) (λ e. e.0) y))) ≡ 0
      layer ValueType-F.Bool = bool_held _
      layer (ValueType-F.Int bits) = int_held 0
      layer ValueType-F.Text = text_held []
      layer ValueType-F.Bytes = bytes_held []
      layer ValueType-F.Addr = addr_held _
      layer ValueType-F.Net = net_held 96 _
      layer ValueType-F.Port = port_held 0 _
      layer ValueType-F.Time = time_held 0
      layer ValueType-F.Span = span_held 0
      layer ValueType-F.Callable = null_held
      layer (ValueType-F.Enum n) = pick_held 0
      layer (ValueType-F.Tuple parts) =
          tuple_held (map first_of (map (λ e. e.0) parts)) ∙ parts_held first_of parts
      layer (ValueType-F.Iter over) = null_held
      layer (ValueType-F.Ref to) = null_held

  -- the value of a literal
  pub literal_held : (tree : Tree) → held s (value_or_null (value_of tree)) ≡ 0
  literal_held tree = layer (out-Tree tree)
    where
      layer : (y : Tree-F Tree) → held s (value_or_null (literal_step y)) ≡ 0
      layer (Tree-F.Bool b) = bool_held b
      layer (Tree-F.Int n) = int_held n
      layer (Tree-F.Text bytes) = text_held bytes
      layer (Tree-F.Bytes bytes) = bytes_held bytes
      layer (Tree-F.Addr a) = addr_held a
      layer (Tree-F.Net a l) = net_held l a
      layer (Tree-F.Port n b) = port_held n b
      layer (Tree-F.Time n) = time_held n
      layer (Tree-F.Span n) = span_held n
      layer (Tree-F.Pick n) = pick_held n
      layer Tree-F.Null = null_held
      layer Tree-F.Unset = null_held
      layer (Tree-F.Tuple parts) = null_held
      layer (Tree-F.List items) = null_held
      layer (Tree-F.Vector items) = null_held
      layer (Tree-F.Set keys) = null_held
      layer (Tree-F.Map keys vs) = null_held
      layer (Tree-F.Fields fields) = null_held
      layer (Tree-F.Rules fields priorities vs compiled) = null_held

  -- lists of them
  all_of : {T : Type 0} (f : T → Value) → ((t : T) → held s (f t) ≡ 0) → (ts : List T) → all_held s (map f ts) ≡ 0
  all_of f none [] = refl
  all_of f none (t ∷ ts) =
      let both = all_cons (f t) (map f ts) in let others = all_of f none ts in
      omega (arith, both, none t, others)

  pub trees_held : (trees : List Tree) → all_held s (map value_of_tree trees) ≡ 0
  trees_held = all_of value_of_tree tree_held

  pub firsts_held : (types : List ValueType) → all_held s (map first_of types) ≡ 0
  firsts_held = all_of first_of first_held

  pub globals_held : (declared : List Global) → all_held s (map (λ (g : Global). value_of_tree g.first) declared) ≡ 0
  globals_held = all_of (λ (g : Global). value_of_tree g.first) (λ g. tree_held g.first)

  pub locals_held : (f : Option Function) → all_held s (locals_in f) ≡ 0
  locals_held None = refl
  locals_held (Some f) = firsts_held (drop f.params f.slots)

  entry_held : (parts : Parts) (f : FnId) (arguments : List Tree)
      → all_held s (entry parts f (map value_of_tree arguments) None).slots ≡ 0
  entry_held parts f arguments =
      let own = trees_held arguments in
      let locals = locals_held (slice_get parts.functions f.n) in
      let both = all_append (map value_of_tree arguments) (locals_in (slice_get parts.functions f.n)) in
      omega (arith, own, locals, both)

pub begin_with_nothing : (parts : Parts) → BeginWithNothing parts
begin_with_nothing parts = record {
  calls = λ f arguments o opens s.
      ap (λ (frame : Frame). all_held s frame.slots) opens.top ∙ entry_held s parts f arguments;
  threads = λ number s. globals_held s parts.globals;
}
