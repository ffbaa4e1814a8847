-- The exceptions of linked modules: each parent stands in front of what is below it.
use Rattle.std.proofs.Common.{◌≡◌, refl, sym, ◌∙◌, ap, subst, ℕ, zero, suc, ◌+◌, ◌-◌, ◌<◌, false, List, [], ◌∷◌, ◌++◌, length, take, map, Option, Some, None, IsSomeAnd, arith}
use Rattle.std.specs.Prelude.{slice_get}
use Rattle.std.specs.Option.{option_map}
use mathlib.Core.Logic.{◌⊎◌, inl, inr}
use Rattle.std.proofs.lemmas.List.{length_push}
use Rattle.std.proofs.lemmas.Option.{slice_get-map}
use Rattle.std.proofs.Math.Seq.{take-append_seam}
use Rattle.hilti_base.specs.declared.names.Place.{Place}
use Rattle.hilti_module.specs.declared.types.Name.{Name}
use Rattle.hilti_module.specs.declared.types.Word.{Word}
use Rattle.hilti_module.specs.declared.module.Item.{Item}
use Rattle.hilti_module.specs.declared.module.Item.TheVariants as items
use Rattle.hilti_module.specs.declared.module.Shape.{Shape}
use Rattle.hilti_module.specs.declared.module.Shape.TheVariants as shapes
use Rattle.hilti_module.specs.declared.module.Module.{Module}
use Rattle.hilti_scope.specs.declared.meaning.Meaning.{Meaning}
use Rattle.hilti_scope.specs.declared.meaning.Meaning.TheVariants as means
use Rattle.hilti_scope.specs.Items.{placed, is_exception}
use Rattle.hilti_scope.specs.Meanings.{count_items, meaning_in}
use Rattle.hilti_link.specs.declared.tables.LinkedException.{LinkedException}
use Rattle.hilti_link.specs.Items.{Seen, item_refusal, tables_behind, site_of, view_of, declared_again}
use Rattle.hilti_link.specs.Linking.{behind_item, tables_of}
use Rattle.hilti_link.specs.Refusals.{first_refusal}
use Rattle.hilti_link.specs.Seeing.{qualified}
use Rattle.hilti_link.specs.Shapes.{shape_refusal, parent_refusal_by, parent_meant, parent_by, parent_of, exception_number}
use Rattle.hilti_parts.specs.declared.parts.Exception.{Exception}
use Rattle.hilti_typing.specs.Exceptions.{built_in_exceptions}
use Rattle.hilti_declared.specs.Declaring.{exception_of, exceptions_of}
use Rattle.hilti_declared.specs.Laws.{ExceptionsAreTyped}
use Rattle.hilti_declared.proofs.Accepted.{unrefused}
use Rattle.hilti_declared.proofs.Numbers.{numbered, counted_too, not_counted, next_exception, named_smaller, past_front}
use Rattle.hilti_declared.proofs.Walks.{Here, neither, walked}

-- an element of a list with one more is one of the list, or that one
pub pushed : {X : Type 0} (xs : List X) (y : X) (k : ℕ) (x : X) → slice_get (xs ++ y ∷ []) k ≡ Some x → (slice_get xs k ≡ Some x) ⊎ ((k ≡ length xs) × (y ≡ x))
pushed [] y zero x e = inr (refl, cc)
pushed [] y (suc k) x e = cc
pushed (z ∷ xs) y zero x e = inl e
pushed (z ∷ xs) y (suc k) x e = further (pushed xs y k x e)
  where
    further : (slice_get xs k ≡ Some x) ⊎ ((k ≡ length xs) × (y ≡ x)) → (slice_get (z ∷ xs) (suc k) ≡ Some x) ⊎ ((suc k ≡ length (z ∷ xs)) × (y ≡ x))
    further (inl is) = inl is
    further (inr last) = inr (ap (λ n. suc n) last.0, last.1)

module _ (modules : List Module) where
  record ParentsSo (s : Seen) : Type 0 where
    counted : length s.tables.exceptions ≡ count_items is_exception (take s.here (placed modules))
    parents : (k : ℕ) (e : LinkedException) → slice_get s.tables.exceptions k ≡ Some e → e.parent < 7 + k

  kept : (s : Seen) (item : Item) → Here modules s item → is_exception item ≡ false → ParentsSo s
      → length s.tables.exceptions ≡ count_items is_exception (take (suc s.here) (placed modules))
  kept s item here other so = so.counted ∙ sym (not_counted is_exception (placed modules) s.here _ (numbered modules s item here) other)

  -- the parent of an exception has a smaller number
  module _ (s : Seen) (item : Item) (here : Here modules s item) (so : ParentsSo s) where
    abbrev mean : Name → Meaning
    mean = meaning_in s.modules s.file s.here []

    named_parent : (name : Name) (meaning : Meaning) → mean name ≡ meaning → parent_meant meaning name.first.place ≡ None → exception_number meaning < next_exception modules s.here
    named_parent name (means.Exception n) is e =
        named_smaller modules s.here s.file name n (ap (λ ms. meaning_in ms s.file s.here [] name) (sym here.modules_are) ∙ is)
    named_parent name means.Nothing is e = cc
    named_parent name (means.Local slot) is e = cc
    named_parent name (means.Struct n) is e = cc
    named_parent name (means.Enum n) is e = cc
    named_parent name (means.Overlay n) is e = cc
    named_parent name (means.Global n) is e = cc
    named_parent name (means.Function n) is e = cc
    named_parent name (means.Hook n) is e = cc

    less : (parent : Option Name) → parent_refusal_by mean parent ≡ None → parent_by mean parent < next_exception modules s.here
    less None e = omega arith
    less (Some name) e = named_parent name (mean name) refl e

    less_than : (parent : Option Name) → parent_refusal_by mean parent ≡ None → parent_by mean parent < 7 + length s.tables.exceptions
    less_than parent e = let below = less parent e in let counted = so.counted in omega (arith, below, counted)

  exception_step : (s : Seen) (name : Word) (place : Place) (parent : Option Name) → Here modules s (items.Type name (shapes.Exception place parent))
      → item_refusal s (items.Type name (shapes.Exception place parent)) ≡ None → ParentsSo s → ParentsSo (behind_item s (items.Type name (shapes.Exception place parent)))
  unfolding tables_behind item_refusal
  exception_step s name place parent here none so =
      let item = items.Type name (shapes.Exception place parent) in
      let told = neither (declared_again s name) (shape_refusal (view_of s) (shapes.Exception place parent)) none in
      let new : LinkedException = record { site = site_of s name; name = qualified s.owner name.bytes; parent = parent_of (view_of s) parent } in
      let below = less_than s item here so parent told.1 in
      record {
        counted = (let more = length_push s.tables.exceptions new in let one = counted_too is_exception (placed modules) s.here _ (numbered modules s item here) refl in
            let counted = so.counted in omega (arith, more, one, counted));
        parents = λ k e at. each new below k e (pushed s.tables.exceptions new k e at);
      }
    where
      each : (new : LinkedException) → new.parent < 7 + length s.tables.exceptions → (k : ℕ) (e : LinkedException)
          → (slice_get s.tables.exceptions k ≡ Some e) ⊎ ((k ≡ length s.tables.exceptions) × (new ≡ e)) → e.parent < 7 + k
      each new below k e (inl at) = so.parents k e at
      each new below k e (inr last) = subst (λ (e : LinkedException). e.parent < 7 + k) last.1 (let at = last.0 in omega (arith, below, at))

  type_step : (s : Seen) (name : Word) (shape : Shape) → Here modules s (items.Type name shape) → item_refusal s (items.Type name shape) ≡ None
      → ParentsSo s → ParentsSo (behind_item s (items.Type name shape))
  unfolding tables_behind
  type_step s name (shapes.Struct place fields) here none so = record { counted = kept s _ here refl so; parents = so.parents }
  type_step s name (shapes.Enum place words) here none so = record { counted = kept s _ here refl so; parents = so.parents }
  type_step s name (shapes.Overlay place fields) here none so = record { counted = kept s _ here refl so; parents = so.parents }
  type_step s name (shapes.Exception place parent) here none so = exception_step s name place parent here none so

  parents_step : (s : Seen) (item : Item) → Here modules s item → item_refusal s item ≡ None → ParentsSo s → ParentsSo (behind_item s item)
  unfolding tables_behind
  parents_step s (items.Type name shape) here none so = type_step s name shape here none so
  parents_step s (items.Global kind name value) here none so = record { counted = kept s _ here refl so; parents = so.parents }
  parents_step s (items.Hook name parameters) here none so = record { counted = kept s _ here refl so; parents = so.parents }
  parents_step s (items.HookBody name parameters priority body) here none so = record { counted = kept s _ here refl so; parents = so.parents }
  parents_step s (items.Function result name parameters body) here none so = record { counted = kept s _ here refl so; parents = so.parents }

  pub parents_in_front : first_refusal modules ≡ None → (let tables = tables_of modules in (k : ℕ) (e : LinkedException) → slice_get tables.exceptions k ≡ Some e → e.parent < 7 + k)
  unfolding tables_of
  parents_in_front none =
      let all = walked modules ParentsSo (λ s m so. record { counted = so.counted; parents = so.parents }) (λ s so. record { counted = so.counted; parents = so.parents })
      parents_step (unrefused modules none) (record { counted = refl; parents = λ k e at. cc }) in
      all.parents

declared_there : (xs : List LinkedException) → ((k : ℕ) (e : LinkedException) → slice_get xs k ≡ Some e → e.parent < 7 + k)
    → (n : ℕ) (e : Exception) (found : Option LinkedException) → slice_get xs n ≡ found → option_map exception_of found ≡ Some e → IsSomeAnd e.parent (λ p. p < 7 + n)
declared_there xs parents n e None at is = cc
declared_there xs parents n e (Some x) at is =
    let same : exception_of x ≡ e = cc in
    subst (λ (e : Exception). IsSomeAnd e.parent (λ p. p < 7 + n)) same (parents n x at)

pub exceptions_are_typed : ExceptionsAreTyped
exceptions_are_typed modules none =
    let tables = tables_of modules in
    record {
      built_in = take-append_seam built_in_exceptions (map exception_of tables.exceptions);
      declared = λ at e is from.
          let n = at - 7 in
          let same : at ≡ 7 + n = omega arith in
          let there = sym (past_front built_in_exceptions (map exception_of tables.exceptions) n) ∙ ap (slice_get (exceptions_of tables.exceptions)) (sym same) ∙ is in
          subst (λ k. IsSomeAnd e.parent (λ p. p < k)) (sym same)
          (declared_there tables.exceptions (parents_in_front modules none) n e (slice_get tables.exceptions n) refl (sym (slice_get-map exception_of tables.exceptions n) ∙ there));
    }
