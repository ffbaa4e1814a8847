-- The literals of the globals of linked modules are of their types.
use Rattle.std.proofs.Common.{◌≡◌, refl, sym, ◌∙◌, ap, subst, ℕ, zero, suc, Bool, true, false, ◌&&◌, List, [], ◌∷◌, ◌++◌, length, Option, Some, None}
use Rattle.std.specs.Prelude.{slice_get}
use Rattle.std.specs.List.{All}
use Rattle.std.specs.Option.{option_or, option_and_then}
use Rattle.std.proofs.lemmas.Bool.{false≢true}
use Rattle.std.proofs.lemmas.List.Elements.{All-nil, All-push, All-weaker}
use Rattle.hilti_base.specs.declared.names.Place.{Place}
use Rattle.hilti_module.specs.declared.types.Name.{Name}
use Rattle.hilti_module.specs.declared.types.Word.{Word}
use Rattle.hilti_module.specs.declared.types.TypeText.{TypeText}
use Rattle.hilti_module.specs.declared.module.Item.{Item}
use Rattle.hilti_module.specs.declared.module.Item.TheVariants as items
use Rattle.hilti_module.specs.declared.module.Shape.{Shape}
use Rattle.hilti_module.specs.declared.module.Shape.TheVariants as shapes
use Rattle.hilti_module.specs.declared.module.Literal.{Literal}
use Rattle.hilti_module.specs.declared.module.Literal.TheVariants as literals
use Rattle.hilti_module.specs.declared.module.Module.{Module}
use Rattle.hilti_types.specs.declared.declared.Declared.{Declared}
use Rattle.hilti_types.specs.declared.value_type.ValueType.{ValueType}
use Rattle.hilti_scope.specs.declared.meaning.Meaning.{Meaning}
use Rattle.hilti_scope.specs.declared.meaning.Meaning.TheVariants as means
use Rattle.hilti_scope.specs.Meanings.{meaning_in}
use Rattle.hilti_resolve.specs.Literals.{literal_refusal, constant_refusal, of_kind, is_enum_of, has_constant}
use Rattle.hilti_link.specs.declared.tables.Tables.{Tables}
use Rattle.hilti_link.specs.Items.{Seen, item_refusal, tables_behind, site_of, view_of, value_refusal, value_refusal_by, declared_again}
use Rattle.hilti_link.specs.Linking.{behind_item, modules_refusal, tables_of}
use Rattle.hilti_link.specs.Refusals.{first_refusal}
use Rattle.hilti_link.specs.Entries.{entries_refusal}
use Rattle.hilti_link.specs.Seeing.{refusal_of_type, type_at, qualified}
use Rattle.hilti_declared.specs.Globals.{literal_in, literal_at, accepts_by, IsAccepted}
use Rattle.hilti_declared.specs.Sites.{item_at, meaning_at}
use Rattle.hilti_declared.proofs.Walks.{Here, neither, walked}

-- a longer list has what a list has
pub later : {X : Type 0} (a more : List X) (n : ℕ) (x : X) → slice_get a n ≡ Some x → slice_get (a ++ more) n ≡ Some x
later [] more n x e = cc
later (y ∷ a) more zero x e = e
later (y ∷ a) more (suc n) x e = later a more n x e

fits_none : (b : Bool) (place : Place) → of_kind b place ≡ None → b ≡ true
fits_none true place e = refl
fits_none false place e = cc

both : (b c : Bool) → (b && c) ≡ true → (b ≡ true) × (c ≡ true)
both true c e = (refl, e)
both false c e = absurd (false≢true e)

module _ (a more : List Declared) where
  constant_later : (n : ℕ) (word : List ℕ) (d : Option Declared) → slice_get a n ≡ d → has_constant d word ≡ true
      → has_constant (slice_get (a ++ more) n) word ≡ true
  constant_later n word None is e = absurd (false≢true e)
  constant_later n word (Some d) is e = ap (λ o. has_constant o word) (later a more n d is) ∙ e

  meant_later : (kind : ValueType) (meaning : Meaning) (place : Place) (word : List ℕ) → constant_refusal a kind meaning place word ≡ None
      → constant_refusal (a ++ more) kind meaning place word ≡ None
  meant_later kind (means.Enum n) place word e =
      let it = both (is_enum_of n kind) (has_constant (slice_get a n) word) (fits_none _ place e) in
      ap (λ b. of_kind (b && has_constant (slice_get (a ++ more) n) word) place) it.0
      ∙ ap (λ b. of_kind b place) (constant_later n word (slice_get a n) refl it.1)
  meant_later kind means.Nothing place word e = cc
  meant_later kind _ place word e = cc

  literal_later : (mean : Name → Meaning) (kind : ValueType) (literal : Literal) → literal_refusal a mean kind literal ≡ None
      → literal_refusal (a ++ more) mean kind literal ≡ None
  literal_later mean kind (literals.Number number) e = e
  literal_later mean kind (literals.Address place bits) e = e
  literal_later mean kind (literals.Net place bits length) e = e
  literal_later mean kind (literals.Port place number udp) e = e
  literal_later mean kind (literals.Text place bytes) e = e
  literal_later mean kind (literals.Bytes place bytes) e = e
  literal_later mean kind (literals.True place) e = e
  literal_later mean kind (literals.False place) e = e
  literal_later mean kind (literals.Null place) e = e
  literal_later mean kind (literals.Constant name constant) e = meant_later kind (mean name) name.first.place constant.bytes e
  literal_later mean kind (literals.Time place number) e = e
  literal_later mean kind (literals.Interval place number) e = e

  accepts_later : (mean : Name → Meaning) (kind : ValueType) (literal : Option Literal) → accepts_by a mean kind literal
      → accepts_by (a ++ more) mean kind literal
  accepts_later mean kind None e = tt
  accepts_later mean kind (Some literal) e = literal_later mean kind literal e

-- what stands at the site of an item is the item, and names mean there what they mean in the item
module _ (modules : List Module) (s : Seen) (item : Item) (here : Here modules s item) (word : Word) where
  pub item_there : item_at modules (site_of s word) ≡ Some item
  item_there = ap (option_and_then (λ (m : Module). slice_get m.items s.at)) here.in_modules ∙ here.in_module

  pub meaning_there : meaning_at modules (site_of s word) ≡ meaning_in s.modules s.file s.here []
  meaning_there = ap (λ n. meaning_in modules s.file n []) (sym here.here_is) ∙ ap (λ ms. meaning_in ms s.file s.here []) (sym here.modules_are)

module _ (modules : List Module) where
  abbrev AllAccepted : Seen → Type 0
  AllAccepted s = All (IsAccepted modules s.tables.types) s.tables.globals

  longer : (s : Seen) (d : Declared) → AllAccepted s → All (IsAccepted modules (s.tables.types ++ d ∷ [])) s.tables.globals
  longer s d p = All-weaker (IsAccepted modules s.tables.types) (IsAccepted modules (s.tables.types ++ d ∷ []))
      (λ g h. accepts_later s.tables.types (d ∷ []) (meaning_at modules g.site) g.kind (literal_at modules g.site) h) s.tables.globals p

  type_step : (s : Seen) (name : Word) (shape : Shape) → AllAccepted s → AllAccepted (behind_item s (items.Type name shape))
  unfolding tables_behind
  type_step s name (shapes.Struct place fields) p = longer s _ p
  type_step s name (shapes.Enum place words) p = longer s _ p
  type_step s name (shapes.Overlay place fields) p = longer s _ p
  type_step s name (shapes.Exception place parent) p = p

  accepts_value : (s : Seen) (kind : ValueType) (value : Option Literal) → value_refusal_by (view_of s) kind value ≡ None
      → accepts_by s.tables.types (meaning_in s.modules s.file s.here []) kind value
  accepts_value s kind None e = tt
  accepts_value s kind (Some literal) e = e

  global_step : (s : Seen) (kind : TypeText) (name : Word) (value : Option Literal) → Here modules s (items.Global kind name value)
      → item_refusal s (items.Global kind name value) ≡ None → AllAccepted s → AllAccepted (behind_item s (items.Global kind name value))
  unfolding tables_behind item_refusal
  global_step s kind name value here none p =
      let typed = neither (refusal_of_type (view_of s) kind) (option_or (declared_again s name) (value_refusal (view_of s) kind value)) none in
      let valued = neither (declared_again s name) (value_refusal (view_of s) kind value) typed.1 in
      let k = type_at (view_of s) kind in
      All-push (IsAccepted modules s.tables.types) s.tables.globals
      (record { site = site_of s name; name = qualified s.owner name.bytes; kind = k }) p
      (subst (λ (o : Option Item). accepts_by s.tables.types (meaning_at modules (site_of s name)) k (literal_in o)) (sym (item_there modules s _ here name))
      (subst (λ (mean : Name → Meaning). accepts_by s.tables.types mean k value) (sym (meaning_there modules s _ here name)) (accepts_value s k value valued.1)))

  accepted_step : (s : Seen) (item : Item) → Here modules s item → item_refusal s item ≡ None → AllAccepted s → AllAccepted (behind_item s item)
  unfolding tables_behind
  accepted_step s (items.Type name shape) here none p = type_step s name shape p
  accepted_step s (items.Global kind name value) here none p = global_step s kind name value here none p
  accepted_step s (items.Hook name parameters) here none p = p
  accepted_step s (items.HookBody name parameters priority body) here none p = p
  accepted_step s (items.Function result name parameters body) here none p = p

  pub unrefused : first_refusal modules ≡ None → modules_refusal modules ≡ None
  unfolding first_refusal
  unrefused none = (neither (modules_refusal modules) (entries_refusal modules) none).0

  pub accepted_globals : (tables : Tables) → tables ≡ tables_of modules → first_refusal modules ≡ None
      → All (IsAccepted modules tables.types) tables.globals
  unfolding tables_of
  accepted_globals tables is none = subst (λ (t : Tables). All (IsAccepted modules t.types) t.globals) (sym is)
      (walked modules AllAccepted (λ s m p. p) (λ s p. p) accepted_step (unrefused none)
      (All-nil (IsAccepted modules [])))
