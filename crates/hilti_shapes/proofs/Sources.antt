-- Sources of the types that typed operands have.
use Rattle.std.proofs.Common.{◌≡◌, ℕ, ◌^◌, Bool, true, false, IsTrue, List, [], ◌∷◌, refl, sym, ap}
use Rattle.std.proofs.Common.{◌∙◌, Option, Some, None, slice_get}
use Rattle.std.proofs.Math.Path.{subst}
use Rattle.std.specs.Prelude.{nat_lt, nat_eq, ◌||◌}
use Rattle.std.specs.Option.{option_map, option_and_then}
use Rattle.std.proofs.lemmas.Bool.{false≢true}
use Rattle.std.proofs.lemmas.Option.{same_Some}
use Rattle.hilti_types.specs.declared.declared.Declared.{Declared}
use Rattle.hilti_types.specs.declared.value_type.Inner.{Inner}
use Rattle.hilti_types.specs.declared.value_type.Inner.TheOpen.{ValueType-F}
use Rattle.hilti_types.specs.declared.value_type.ValueType.{ValueType, out-ValueType}
use Rattle.hilti_types.specs.declared.value_type.ValueType.{roll-ValueType, roll-out-ValueType}
use Rattle.hilti_types.specs.declared.value_type.ValueType.TheVariants as types
use Rattle.hilti_tree.specs.declared.tree.Tree.{Tree, out-Tree, roll-Tree, roll-out-Tree}
use Rattle.hilti_tree.specs.declared.tree.Tree.TheOpen.{Tree-F}
use Rattle.hilti_tree.specs.declared.tree.Tree.TheVariants as trees
use Rattle.hilti_parts.specs.declared.parts.Operand.{Operand, out-Operand, roll-Operand, roll-out-Operand}
use Rattle.hilti_parts.specs.declared.parts.Operand.TheOpen.{Operand-F}
use Rattle.hilti_parts.specs.declared.parts.Operand.TheVariants as operands
use Rattle.hilti_parts.specs.declared.parts.Variable.{Variable}
use Rattle.hilti_parts.specs.declared.parts.Variable.TheVariants as variables
use Rattle.hilti_typing.specs.Context.{Context, variable_type}
use Rattle.hilti_typing.specs.Types.{may_be_null}
use Rattle.hilti_typing.specs.Fits.{Has as Fit, HaveAll, IsValue, is_wide, is_pick, is_constant}
use Rattle.hilti_values.specs.Literals.{value_of}
use Rattle.hilti_values.specs.declared.value.Value.{Value}
use Rattle.hilti_values.specs.declared.value.Value.TheOpen.{Value-F}
use Rattle.hilti_values.specs.declared.value.Value.TheVariants as values
use Rattle.hilti_rows.specs.Sources.{source_of, sources_of, variable_source, each_of, both}
use Rattle.hilti_rows.specs.declared.row.Source.{Source}
use Rattle.hilti_rows.specs.declared.row.Source.TheVariants as sources
use Rattle.hilti_shapes.specs.Needs.{needs, nothing, nothing_if}
use Rattle.hilti_shapes.specs.TypedRows.{IsSource, AreSources}
use Rattle.hilti_shapes.proofs.Values.{shape_needs}

-- what there was, where something came of it
pub mapped : {A B : Type 0} (f : A → B) (o : Option A) (y : B) → option_map f o ≡ Some y
    → (x : A) × (o ≡ Some x) × (f x ≡ y)
mapped f None y e = absurd cc
mapped f (Some x) y e = (x, refl, same_Some (f x) y e)

pub behind : {A B : Type 0} (f : A → Option B) (o : Option A) (y : B) → option_and_then f o ≡ Some y
    → (x : A) × (o ≡ Some x) × (f x ≡ Some y)
behind f None y e = absurd cc
behind f (Some x) y e = (x, refl, e)

pub both_are : {A B C : Type 0} (f : A → B → C) (a : Option A) (b : Option B) (y : C) → both f a b ≡ Some y
    → (x : A) × (z : B) × (a ≡ Some x) × (b ≡ Some z) × (f x z ≡ y)
both_are f None b y e = absurd cc
both_are f (Some x) None y e = absurd cc
both_are f (Some x) (Some z) y e = (x, z, refl, refl, same_Some (f x z) y e)

-- what is so of each shape of a type is so of each type
pub by_type : (P : ValueType → Type 0) → ((shape : ValueType-F Inner ValueType) → P (roll-ValueType shape))
    → (t : ValueType) → P t
by_type P f t = subst P (roll-out-ValueType t) (f (out-ValueType t))

module _ (table : List Declared) where
  pub fits_nothing : (b : Bool) → IsTrue b → nothing_if b ≡ nothing
  fits_nothing true h = refl
  fits_nothing false h = absurd (false≢true h)

  or_true : (a b : Bool) → IsTrue b → IsTrue (a || b)
  or_true true b h = refl
  or_true false b h = h

  -- literals of types need nothing
  wide : (n : ℕ) (shape : ValueType-F Inner ValueType) → IsTrue (is_wide n (roll-ValueType shape))
      → needs table (values.Int n) (roll-ValueType shape) ≡ nothing
  wide n ValueType-F.Bool h = absurd (false≢true (ap (is_wide n) (sym types.rolls-Bool) ∙ h))
  wide n (ValueType-F.Int bits) h =
      shape_needs table (Value-F.Int n) (values.Int n) (ValueType-F.Int bits) (roll-ValueType (ValueType-F.Int bits))
      (values.rolls-Int n) refl
      ∙ fits_nothing (nat_lt n (2 ^ bits)) (ap (is_wide n) (sym (types.rolls-Int bits)) ∙ h)
  wide n ValueType-F.Text h = absurd (false≢true (ap (is_wide n) (sym types.rolls-Text) ∙ h))
  wide n ValueType-F.Bytes h = absurd (false≢true (ap (is_wide n) (sym types.rolls-Bytes) ∙ h))
  wide n ValueType-F.Addr h = absurd (false≢true (ap (is_wide n) (sym types.rolls-Addr) ∙ h))
  wide n ValueType-F.Net h = absurd (false≢true (ap (is_wide n) (sym types.rolls-Net) ∙ h))
  wide n ValueType-F.Port h = absurd (false≢true (ap (is_wide n) (sym types.rolls-Port) ∙ h))
  wide n ValueType-F.Time h = absurd (false≢true (ap (is_wide n) (sym types.rolls-Time) ∙ h))
  wide n ValueType-F.Span h = absurd (false≢true (ap (is_wide n) (sym types.rolls-Span) ∙ h))
  wide n ValueType-F.Callable h = absurd (false≢true (ap (is_wide n) (sym types.rolls-Callable) ∙ h))
  wide n (ValueType-F.Enum m) h = absurd (false≢true (ap (is_wide n) (sym (types.rolls-Enum m)) ∙ h))
  wide n (ValueType-F.Tuple parts) h = absurd (false≢true (ap (is_wide n) (sym (types.rolls-Tuple parts)) ∙ h))
  wide n (ValueType-F.Iter over) h = absurd (false≢true (ap (is_wide n) (sym (types.rolls-Iter over)) ∙ h))
  wide n (ValueType-F.Ref to) h = absurd (false≢true (ap (is_wide n) (sym (types.rolls-Ref to)) ∙ h))

  pick : (n : ℕ) (shape : ValueType-F Inner ValueType) → IsTrue (is_pick table n (roll-ValueType shape))
      → needs table (values.Pick n) (roll-ValueType shape) ≡ nothing
  pick n ValueType-F.Bool h = absurd (false≢true (ap (is_pick table n) (sym types.rolls-Bool) ∙ h))
  pick n (ValueType-F.Int bits) h = absurd (false≢true (ap (is_pick table n) (sym (types.rolls-Int bits)) ∙ h))
  pick n ValueType-F.Text h = absurd (false≢true (ap (is_pick table n) (sym types.rolls-Text) ∙ h))
  pick n ValueType-F.Bytes h = absurd (false≢true (ap (is_pick table n) (sym types.rolls-Bytes) ∙ h))
  pick n ValueType-F.Addr h = absurd (false≢true (ap (is_pick table n) (sym types.rolls-Addr) ∙ h))
  pick n ValueType-F.Net h = absurd (false≢true (ap (is_pick table n) (sym types.rolls-Net) ∙ h))
  pick n ValueType-F.Port h = absurd (false≢true (ap (is_pick table n) (sym types.rolls-Port) ∙ h))
  pick n ValueType-F.Time h = absurd (false≢true (ap (is_pick table n) (sym types.rolls-Time) ∙ h))
  pick n ValueType-F.Span h = absurd (false≢true (ap (is_pick table n) (sym types.rolls-Span) ∙ h))
  pick n ValueType-F.Callable h = absurd (false≢true (ap (is_pick table n) (sym types.rolls-Callable) ∙ h))
  pick n (ValueType-F.Enum m) h =
      shape_needs table (Value-F.Pick n) (values.Pick n) (ValueType-F.Enum m) (roll-ValueType (ValueType-F.Enum m))
      (values.rolls-Pick n) refl
      ∙ fits_nothing (nat_eq n 0 || is_constant n (slice_get table m))
      (or_true (nat_eq n 0) (is_constant n (slice_get table m)) (ap (is_pick table n) (sym (types.rolls-Enum m)) ∙ h))
  pick n (ValueType-F.Tuple parts) h = absurd (false≢true (ap (is_pick table n) (sym (types.rolls-Tuple parts)) ∙ h))
  pick n (ValueType-F.Iter over) h = absurd (false≢true (ap (is_pick table n) (sym (types.rolls-Iter over)) ∙ h))
  pick n (ValueType-F.Ref to) h = absurd (false≢true (ap (is_pick table n) (sym (types.rolls-Ref to)) ∙ h))

  null : (shape : ValueType-F Inner ValueType) → IsTrue (may_be_null (roll-ValueType shape))
      → needs table values.Null (roll-ValueType shape) ≡ nothing
  null ValueType-F.Bool h = absurd (false≢true (ap may_be_null (sym types.rolls-Bool) ∙ h))
  null (ValueType-F.Int bits) h = absurd (false≢true (ap may_be_null (sym (types.rolls-Int bits)) ∙ h))
  null ValueType-F.Text h = absurd (false≢true (ap may_be_null (sym types.rolls-Text) ∙ h))
  null ValueType-F.Bytes h = absurd (false≢true (ap may_be_null (sym types.rolls-Bytes) ∙ h))
  null ValueType-F.Addr h = absurd (false≢true (ap may_be_null (sym types.rolls-Addr) ∙ h))
  null ValueType-F.Net h = absurd (false≢true (ap may_be_null (sym types.rolls-Net) ∙ h))
  null ValueType-F.Port h = absurd (false≢true (ap may_be_null (sym types.rolls-Port) ∙ h))
  null ValueType-F.Time h = absurd (false≢true (ap may_be_null (sym types.rolls-Time) ∙ h))
  null ValueType-F.Span h = absurd (false≢true (ap may_be_null (sym types.rolls-Span) ∙ h))
  null ValueType-F.Callable h = shape_needs table Value-F.Null values.Null ValueType-F.Callable (roll-ValueType
      ValueType-F.Callable) values.rolls-Null refl
  null (ValueType-F.Enum m) h = absurd (false≢true (ap may_be_null (sym (types.rolls-Enum m)) ∙ h))
  null (ValueType-F.Tuple parts) h = absurd (false≢true (ap may_be_null (sym (types.rolls-Tuple parts)) ∙ h))
  null (ValueType-F.Iter over) h = shape_needs table Value-F.Null values.Null (ValueType-F.Iter over) (roll-ValueType
      (ValueType-F.Iter over)) values.rolls-Null refl
  null (ValueType-F.Ref to) h = shape_needs table Value-F.Null values.Null (ValueType-F.Ref to) (roll-ValueType
      (ValueType-F.Ref to)) values.rolls-Null refl

  -- a literal of a type
  abbrev LiteralIs : ValueType → Tree → Type 0
  LiteralIs t tree = (value : Value) → IsValue table t tree → value_of tree ≡ Some value
      → needs table value t ≡ nothing

  same_literal : (value w : Value) (t u : ValueType) → t ≡ u → Some w ≡ Some value → needs table w u ≡ nothing
      → needs table value t ≡ nothing
  same_literal value w t u e f h = ap (λ v. needs table v t) (sym (same_Some w value f)) ∙ ap (needs table w) e ∙ h

  literal : (t : ValueType) (x : Tree-F Tree) → LiteralIs t (roll-Tree x)
  unfolding out-Tree denote.Hole.Carrier.out
  literal t (Tree-F.Bool b) = subst (LiteralIs t) (sym (trees.rolls-Bool b)) (λ value is e. same_literal value
      (values.Bool b) t types.Bool is e
      (shape_needs table (Value-F.Bool b) (values.Bool b) ValueType-F.Bool types.Bool (values.rolls-Bool b)
      types.rolls-Bool))
  literal t (Tree-F.Text bytes) = subst (LiteralIs t) (sym (trees.rolls-Text bytes)) (λ value is e. same_literal
      value (values.Text bytes) t types.Text is e
      (shape_needs table (Value-F.Text bytes) (values.Text bytes) ValueType-F.Text types.Text (values.rolls-Text
      bytes) types.rolls-Text))
  literal t (Tree-F.Bytes bytes) = subst (LiteralIs t) (sym (trees.rolls-Bytes bytes)) (λ value is e. same_literal
      value (values.Bytes bytes) t types.Bytes is e
      (shape_needs table (Value-F.Bytes bytes) (values.Bytes bytes) ValueType-F.Bytes types.Bytes (values.rolls-Bytes
      bytes) types.rolls-Bytes))
  literal t (Tree-F.Addr a) = subst (LiteralIs t) (sym (trees.rolls-Addr a)) (λ value is e. same_literal value
      (values.Addr a) t types.Addr is e
      (shape_needs table (Value-F.Addr a) (values.Addr a) ValueType-F.Addr types.Addr (values.rolls-Addr a)
      types.rolls-Addr))
  literal t (Tree-F.Net a l) = subst (LiteralIs t) (sym (trees.rolls-Net a l)) (λ value is e. same_literal value
      (values.Net l a) t types.Net is e
      (shape_needs table (Value-F.Net l a) (values.Net l a) ValueType-F.Net types.Net (values.rolls-Net l a)
      types.rolls-Net))
  literal t (Tree-F.Port n u) = subst (LiteralIs t) (sym (trees.rolls-Port n u)) (λ value is e. same_literal value
      (values.Port n u) t types.Port is e
      (shape_needs table (Value-F.Port n u) (values.Port n u) ValueType-F.Port types.Port (values.rolls-Port n u)
      types.rolls-Port))
  literal t (Tree-F.Time n) = subst (LiteralIs t) (sym (trees.rolls-Time n)) (λ value is e. same_literal value
      (values.Time n) t types.Time is e
      (shape_needs table (Value-F.Time n) (values.Time n) ValueType-F.Time types.Time (values.rolls-Time n)
      types.rolls-Time))
  literal t (Tree-F.Span n) = subst (LiteralIs t) (sym (trees.rolls-Span n)) (λ value is e. same_literal value
      (values.Span n) t types.Span is e
      (shape_needs table (Value-F.Span n) (values.Span n) ValueType-F.Span types.Span (values.rolls-Span n)
      types.rolls-Span))
  literal t (Tree-F.Int n) = subst (LiteralIs t) (sym (trees.rolls-Int n)) (λ value is e. same_literal value
      (values.Int n) t t refl e
      (by_type (λ t. IsTrue (is_wide n t) → needs table (values.Int n) t ≡ nothing) (wide n) t is))
  literal t (Tree-F.Pick n) = subst (LiteralIs t) (sym (trees.rolls-Pick n)) (λ value is e. same_literal value
      (values.Pick n) t t refl e
      (by_type (λ t. IsTrue (is_pick table n t) → needs table (values.Pick n) t ≡ nothing) (pick n) t is))
  literal t Tree-F.Null = subst (LiteralIs t) (sym trees.rolls-Null) (λ value is e. same_literal value values.Null t
      t refl e
      (by_type (λ t. IsTrue (may_be_null t) → needs table values.Null t ≡ nothing) null t is))
  literal t Tree-F.Unset = subst (LiteralIs t) (sym trees.rolls-Unset) (λ value is e. absurd is)
  literal t (Tree-F.Tuple parts) = subst (LiteralIs t) (sym (trees.rolls-Tuple parts)) (λ value is e. absurd is)
  literal t (Tree-F.List items) = subst (LiteralIs t) (sym (trees.rolls-List items)) (λ value is e. absurd is)
  literal t (Tree-F.Vector items) = subst (LiteralIs t) (sym (trees.rolls-Vector items)) (λ value is e. absurd is)
  literal t (Tree-F.Set items) = subst (LiteralIs t) (sym (trees.rolls-Set items)) (λ value is e. absurd is)
  literal t (Tree-F.Map keys vals) = subst (LiteralIs t) (sym (trees.rolls-Map keys vals)) (λ value is e. absurd is)
  literal t (Tree-F.Fields fields) = subst (LiteralIs t) (sym (trees.rolls-Fields fields)) (λ value is e. absurd is)
  literal t (Tree-F.Rules rules ranks vals compiled) = subst (LiteralIs t) (sym (trees.rolls-Rules rules ranks vals
      compiled)) (λ value is e. absurd is)

  pub literal_is : (t : ValueType) (tree : Tree) → LiteralIs t tree
  literal_is t tree = subst (LiteralIs t) (roll-out-Tree tree) (literal t (out-Tree tree))

module _ (c : Context) where
  -- the source of an operand of a type
  abbrev SourceIs : ValueType → Source → Operand → Type 0
  SourceIs t s x = Fit c t x → source_of x ≡ Some s → IsSource c s t

  variable_is : (v : Variable) (t : ValueType) (s : Source) → variable_type c v ≡ Some t
      → Some (variable_source v) ≡ Some s → IsSource c s t
  variable_is (variables.Slot n) t s is e = subst (λ s. IsSource c s t) (same_Some (sources.Slot n) s e) is
  variable_is (variables.Global n) t s is e = subst (λ s. IsSource c s t) (same_Some (sources.Global n) s e) is

  constant_is : (t : ValueType) (tree : Tree) (s : Source) → IsValue c.declared t tree
      → option_map sources.Constant (value_of tree) ≡ Some s → IsSource c s t
  constant_is t tree s is e =
      let m = mapped sources.Constant (value_of tree) s e in
      subst (λ s. IsSource c s t) m.2 (literal_is c.declared t tree m.0 is m.1)

  source_shape : (t : ValueType) (s : Source) (x : Operand-F Operand) → SourceIs t s (roll-Operand x)
  source_shape t s (Operand-F.Var v kind) = subst (SourceIs t s) (sym (operands.rolls-Var v kind)) (λ has e.
      variable_is v t s (has.sound ∙ has.of_type) e)
  source_shape t s (Operand-F.Literal kind tree) = subst (SourceIs t s) (sym (operands.rolls-Literal kind tree)) (λ
      has e.
      constant_is t tree s (subst (λ k. IsValue c.declared k tree) (same_Some kind t has.of_type) has.sound) e)
  source_shape t s Operand-F.Star = subst (SourceIs t s) (sym operands.rolls-Star) (λ has e. absurd has.sound)
  source_shape t s (Operand-F.Block n) = subst (SourceIs t s) (sym (operands.rolls-Block n)) (λ has e. absurd
      has.sound)
  source_shape t s (Operand-F.Function f) = subst (SourceIs t s) (sym (operands.rolls-Function f)) (λ has e. absurd
      has.sound)
  source_shape t s (Operand-F.Hook n) = subst (SourceIs t s) (sym (operands.rolls-Hook n)) (λ has e. absurd has.sound)
  source_shape t s (Operand-F.Exception n) = subst (SourceIs t s) (sym (operands.rolls-Exception n)) (λ has e. absurd
      has.sound)
  source_shape t s (Operand-F.Field n) = subst (SourceIs t s) (sym (operands.rolls-Field n)) (λ has e. absurd
      has.sound)
  source_shape t s (Operand-F.Overlay n) = subst (SourceIs t s) (sym (operands.rolls-Overlay n)) (λ has e. absurd
      has.sound)
  source_shape t s (Operand-F.New what) = subst (SourceIs t s) (sym (operands.rolls-New what)) (λ has e. absurd
      has.sound)
  source_shape t s (Operand-F.Mode access) = subst (SourceIs t s) (sym (operands.rolls-Mode access)) (λ has e. absurd
      has.sound)
  source_shape t s (Operand-F.Group items) = subst (SourceIs t s) (sym (operands.rolls-Group items)) (λ has e. absurd
      has.sound)

  pub source_is : (t : ValueType) (s : Source) (x : Operand) → SourceIs t s x
  source_is t s x = subst (SourceIs t s) (roll-out-Operand x) (source_shape t s (out-Operand x))

  pub sources_are : (ts : List ValueType) (xs : List Operand) (ss : List Source) → HaveAll c ts xs
      → sources_of xs ≡ Some ss → AreSources c ss ts
  sources_are [] [] ss h e = subst (λ ss. AreSources c ss []) (same_Some [] ss e) tt
  sources_are (t ∷ ts) (x ∷ xs) ss h e =
      let a = behind (λ y. option_map (λ ys. y ∷ ys) (each_of source_of xs)) (source_of x) ss e in
      let b = mapped (λ ys. a.0 ∷ ys) (each_of source_of xs) ss a.2 in
      subst (λ ss. AreSources c ss (t ∷ ts)) b.2 (source_is t a.0 x h.0 a.1, sources_are ts xs b.0 h.1 b.1)
  sources_are [] (x ∷ xs) ss h e = absurd h
  sources_are (t ∷ ts) [] ss h e = absurd h
