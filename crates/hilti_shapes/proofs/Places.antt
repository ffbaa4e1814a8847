-- Values at sources and in targets, where slots and globals are of their types.
use Rattle.std.proofs.Common.{◌≡◌, List, [], ◌∷◌, refl, sym, ap, Some, IsSomeAnd, is_some}
use Rattle.std.proofs.Math.Path.{subst}
use Rattle.std.proofs.lemmas.Option.{slice_get_within}
use Rattle.hilti_types.specs.declared.value_type.ValueType.{ValueType}
use Rattle.hilti_parts.specs.declared.parts.Variable.{Variable}
use Rattle.hilti_parts.specs.declared.parts.Variable.TheVariants as variables
use Rattle.hilti_typing.specs.Context.{Context}
use Rattle.hilti_values.specs.declared.value.Value.{Value}
use Rattle.hilti_rows.specs.declared.row.Source.{Source}
use Rattle.hilti_rows.specs.declared.row.Source.TheVariants as sources
use Rattle.hilti_effects.specs.Operands.{found, value_or_null, value_at, values_at, slots_with, globals_with}
use Rattle.hilti_effects.specs.Asks.{IsThere, Gets}
use Rattle.hilti_shapes.specs.Needs.{Kinds, Meets, Has, Have}
use Rattle.hilti_shapes.specs.TypedRows.{IsSource, AreSources, IsTarget}
use Rattle.hilti_shapes.proofs.Growing.{zip_at, zip_put}

module _ (c : Context) (k : Kinds) (slots globals : List Value) (hs : Have c.declared k slots c.slots) (hg : Have
    c.declared k globals c.globals) where
  pub found_has : (s : Source) (t : ValueType) → IsSource c s t
      → (x : Value) × (found slots globals s ≡ Some x) × Has c.declared k x t
  found_has (sources.Slot n) t e = zip_at (Has c.declared k) slots c.slots n t hs e
  found_has (sources.Global n) t e = zip_at (Has c.declared k) globals c.globals n t hg e
  found_has (sources.Constant value) t e = (value, refl, subst (λ o. IsSomeAnd o (Meets k)) (sym e) tt)

  pub value_has : (s : Source) (t : ValueType) → IsSource c s t → Has c.declared k (value_at slots globals s) t
  value_has s t e = let f = found_has s t e in subst (λ x. Has c.declared k x t) (sym (ap value_or_null f.1)) f.2

  pub values_have : (ss : List Source) (ts : List ValueType) → AreSources c ss ts
      → Have c.declared k (values_at slots globals ss) ts
  values_have [] [] h = tt
  values_have (s ∷ ss) (t ∷ ts) h = (value_has s t h.0, values_have ss ts h.1)
  values_have [] (t ∷ ts) h = absurd h
  values_have (s ∷ ss) [] h = absurd h

  pub gets : (so : Value → Type 0) (s : Source) (t : ValueType) → IsSource c s t → so (value_at slots globals s)
      → Gets slots globals so s
  gets so s t e h = let f = found_has s t e in record { there = ap is_some f.1; is_so = h }

  pub target_there : (v : Variable) (t : ValueType) → IsTarget c v t → IsThere slots globals v
  target_there (variables.Slot n) t e = let f = zip_at (Has c.declared k) slots c.slots n t hs e in slice_get_within
      slots n f.0 f.1
  target_there (variables.Global n) t e = let f = zip_at (Has c.declared k) globals c.globals n t hg e in
      slice_get_within globals n f.0 f.1

  pub slots_put : (v : Variable) (t : ValueType) (x : Value) → IsTarget c v t → Has c.declared k x t
      → Have c.declared k (slots_with v x slots) c.slots
  slots_put (variables.Slot n) t x e h = zip_put (Has c.declared k) slots c.slots n x t hs e h
  slots_put (variables.Global n) t x e h = hs

  pub globals_put : (v : Variable) (t : ValueType) (x : Value) → IsTarget c v t → Has c.declared k x t
      → Have c.declared k (globals_with v x globals) c.globals
  globals_put (variables.Slot n) t x e h = hg
  globals_put (variables.Global n) t x e h = zip_put (Has c.declared k) globals c.globals n x t hg e h
