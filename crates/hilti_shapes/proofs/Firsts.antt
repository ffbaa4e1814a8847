-- What variables hold at first is of their types.
use Rattle.std.proofs.Common.{◌≡◌, ℕ, false, List, [], ◌∷◌, map, refl, sym, ap, ◌∙◌, ◌^◌, IsSomeAnd}
use Rattle.std.proofs.Math.Path.{subst}
use Rattle.std.specs.Prelude.{nat_lt}
use Rattle.std.specs.List.{AllZip}
use Rattle.std.proofs.lemmas.Nat.{pow_pos}
use Rattle.hilti_types.specs.declared.declared.Declared.{Declared}
use Rattle.hilti_types.specs.declared.value_type.Inner.{Inner}
use Rattle.hilti_types.specs.declared.value_type.Inner.TheOpen.{ValueType-F}
use Rattle.hilti_types.specs.declared.value_type.Inner.TheFolds.{ind-ValueType, map-ValueType, fold-roll-ValueType}
use Rattle.hilti_types.specs.declared.value_type.ValueType.{ValueType, roll-ValueType}
use Rattle.hilti_values.specs.First.{first_of, first_step, no_value}
use Rattle.hilti_values.specs.declared.value.Value.{Value, roll-Value}
use Rattle.hilti_values.specs.declared.value.Value.TheOpen.{Value-F}
use Rattle.hilti_values.specs.declared.value.Value.TheVariants as values
use Rattle.hilti_values.specs.declared.value.Value.TheFolds.{map-Value}
use Rattle.hilti_addr.specs.Masks.{mapped}
use Rattle.hilti_shapes.specs.Needs.{Meets, Has, Needs, needs, needs_shape, all_need, both_need, nothing, no_kinds}
use Rattle.hilti_shapes.proofs.Values.{shape_needs, below_true}
use Rattle.hilti_shapes.proofs.Sources.{fits_nothing}

module _ (table : List Declared) where
  -- a type whose first value needs nothing
  abbrev Begins : ValueType → Type 0
  Begins t = needs table (first_of t) t ≡ nothing

  abbrev Beginning : Type 0
  Beginning = (t : ValueType) × Begins t

  abbrev Layer : Type 0
  Layer = ValueType-F (Inner × Unit {0}) Beginning

  abbrev bare : Layer → ValueType-F Inner ValueType
  bare y = map-ValueType (Inner × Unit {0}) Beginning Inner ValueType (λ e. e.0) (λ e. e.0) y

  one : (x : ValueType-F Inner ValueType) (v : Value) (z : Value-F Value) → first_of (roll-ValueType x) ≡ v
      → roll-Value z ≡ v
      → needs_shape table (map-Value Value (ValueType → Needs) (needs table) z) x ≡ nothing
      → needs table (first_of (roll-ValueType x)) (roll-ValueType x) ≡ nothing
  one x v z e r n = ap (λ v. needs table v (roll-ValueType x)) e
      ∙ shape_needs table z v x (roll-ValueType x) r refl ∙ n

  both_nothing : (a b : Needs) → a ≡ nothing → b ≡ nothing → both_need a b ≡ nothing
  both_nothing a b e f = ap (λ a. both_need a b) e ∙ ap (both_need nothing) f

  parts_need : (es : List Beginning)
      → all_need (map (needs table) (map first_of (map (λ (e : Beginning). e.0) es))) (map (λ (e : Beginning). e.0)
      es) ≡ nothing
  parts_need [] = refl
  parts_need (e ∷ es) =
      both_nothing (needs table (first_of e.0) e.0) (all_need (map (needs table) (map first_of (map (λ (e :
      Beginning). e.0) es))) (map (λ (e : Beginning). e.0) es)) e.1 (parts_need es)

  layer : (y : Layer) → Begins (roll-ValueType (bare y))
  layer ValueType-F.Bool = one ValueType-F.Bool (values.Bool false) (Value-F.Bool false) (fold-roll-ValueType ℕ
      Value no_value first_step ValueType-F.Bool) (values.rolls-Bool false) refl
  layer ValueType-F.Text = one ValueType-F.Text (values.Text []) (Value-F.Text []) (fold-roll-ValueType ℕ Value
      no_value first_step ValueType-F.Text) (values.rolls-Text []) refl
  layer ValueType-F.Bytes = one ValueType-F.Bytes (values.Bytes []) (Value-F.Bytes []) (fold-roll-ValueType ℕ Value
      no_value first_step ValueType-F.Bytes) (values.rolls-Bytes []) refl
  layer ValueType-F.Addr = one ValueType-F.Addr (values.Addr (mapped 0)) (Value-F.Addr (mapped 0))
      (fold-roll-ValueType ℕ Value no_value first_step ValueType-F.Addr) (values.rolls-Addr (mapped 0)) refl
  layer ValueType-F.Net = one ValueType-F.Net (values.Net 96 (mapped 0)) (Value-F.Net 96 (mapped 0))
      (fold-roll-ValueType ℕ Value no_value first_step ValueType-F.Net) (values.rolls-Net 96 (mapped 0)) refl
  layer ValueType-F.Port = one ValueType-F.Port (values.Port 0 false) (Value-F.Port 0 false) (fold-roll-ValueType ℕ
      Value no_value first_step ValueType-F.Port) (values.rolls-Port 0 false) refl
  layer ValueType-F.Time = one ValueType-F.Time (values.Time 0) (Value-F.Time 0) (fold-roll-ValueType ℕ Value
      no_value first_step ValueType-F.Time) (values.rolls-Time 0) refl
  layer ValueType-F.Span = one ValueType-F.Span (values.Span 0) (Value-F.Span 0) (fold-roll-ValueType ℕ Value
      no_value first_step ValueType-F.Span) (values.rolls-Span 0) refl
  layer ValueType-F.Callable = one ValueType-F.Callable values.Null Value-F.Null (fold-roll-ValueType ℕ Value
      no_value first_step ValueType-F.Callable) values.rolls-Null refl
  layer (ValueType-F.Iter o) = one (ValueType-F.Iter o.0) values.Null Value-F.Null (fold-roll-ValueType ℕ Value
      no_value first_step (ValueType-F.Iter o.0)) values.rolls-Null refl
  layer (ValueType-F.Ref o) = one (ValueType-F.Ref o.0) values.Null Value-F.Null (fold-roll-ValueType ℕ Value
      no_value first_step (ValueType-F.Ref o.0)) values.rolls-Null refl
  layer (ValueType-F.Int bits) = one (ValueType-F.Int bits) (values.Int 0) (Value-F.Int 0) (fold-roll-ValueType ℕ
      Value no_value first_step (ValueType-F.Int bits)) (values.rolls-Int 0)
      (fits_nothing table (nat_lt 0 (2 ^ bits)) (below_true table 0 (2 ^ bits) (pow_pos bits)))
  layer (ValueType-F.Enum m) = one (ValueType-F.Enum m) (values.Pick 0) (Value-F.Pick 0) (fold-roll-ValueType ℕ
      Value no_value first_step (ValueType-F.Enum m)) (values.rolls-Pick 0) refl
  layer (ValueType-F.Tuple es) =
      one (ValueType-F.Tuple (map (λ (e : Beginning). e.0) es)) (values.Tuple (map first_of (map (λ (e : Beginning).
      e.0) es))) (Value-F.Tuple (map first_of (map (λ (e : Beginning). e.0) es)))
      (fold-roll-ValueType ℕ Value no_value first_step (ValueType-F.Tuple (map (λ (e : Beginning). e.0) es)))
      (values.rolls-Tuple (map first_of (map (λ (e : Beginning). e.0) es)))
      (parts_need es)

  first_needs : (t : ValueType) → Begins t
  first_needs = ind-ValueType (λ o. Unit {0}) Begins (λ x y is. tt) (λ x y is. subst (λ x. Begins (roll-ValueType x))
      is (layer y))

  pub first_has : (t : ValueType) → Has table no_kinds (first_of t) t
  first_has t = subst (λ o. IsSomeAnd o (Meets no_kinds)) (sym (first_needs t)) tt

  pub firsts_have : (ts : List ValueType) → AllZip (Has table no_kinds) (map first_of ts) ts
  firsts_have [] = tt
  firsts_have (t ∷ ts) = (first_has t, firsts_have ts)
