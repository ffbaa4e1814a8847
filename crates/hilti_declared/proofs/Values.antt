-- What globals begin with is a value of their types.
use Rattle.std.proofs.Common.{◌≡◌, ◌∙◌, refl, sym, ap, subst, ℕ, suc, ◌+◌, ◌<◌, ◌^◌, Bool, true, false, cond, IsTrue, List, [], ◌∷◌, length, Option, Some, None, arith}
use mathlib.Core.Logic.{◌⊎◌, inl, inr}
use Rattle.std.specs.Prelude.{nat_lt, not, ◌||◌, ◌&&◌, bytes_eq, slice_get}
use Rattle.std.specs.Option.{unwrap_or}
use Rattle.std.specs.List.{position, position_or_len, list_any}
use Rattle.std.proofs.lemmas.Bool.{false≢true, lt-ltb, eqb-true}
use Rattle.std.proofs.lemmas.List.Elements.{All-map, All-weaker}
use Rattle.hilti_base.specs.declared.names.Place.{Place}
use Rattle.hilti_base.specs.declared.refusal.Refusal.TheVariants.{At}
use Rattle.hilti_types.specs.declared.declared.Declared.{Declared}
use Rattle.hilti_types.specs.declared.declared.Declared.TheVariants as tabled
use Rattle.hilti_types.specs.declared.value_type.ValueType.{ValueType}
use Rattle.hilti_types.specs.declared.value_type.ValueType.TheVariants as types
use Rattle.hilti_module.specs.declared.types.Name.{Name}
use Rattle.hilti_module.specs.declared.types.Number.{Number}
use Rattle.hilti_module.specs.declared.module.Literal.{Literal}
use Rattle.hilti_module.specs.declared.module.Literal.TheVariants as literals
use Rattle.hilti_module.specs.declared.module.Seconds.{Seconds}
use Rattle.hilti_scope.specs.declared.meaning.Meaning.{Meaning}
use Rattle.hilti_scope.specs.declared.meaning.Meaning.TheVariants as means
use Rattle.hilti_resolve.specs.Forms.{is_addr, is_port, is_bytes}
use Rattle.hilti_resolve.specs.Literals.{literal_refusal, number_refusal, of_kind, is_bool, is_text, is_net, is_time, is_span, may_be_null, seconds_refusal, nanoseconds, constant_refusal, is_enum_of, has_constant}
use Rattle.hilti_resolve.specs.LiteralValues.{literal_value, constant_place, place_in}
use Rattle.hilti_link.specs.declared.tables.LinkedGlobal.{LinkedGlobal}
use Rattle.hilti_link.specs.Linking.{tables_of}
use Rattle.hilti_typing.specs.Fits.{IsValue, is_wide, is_pick, is_constant}
use Rattle.hilti_typing.specs.Defaults.{default_of}
use Rattle.hilti_typing.specs.Programs.{BeginsTyped}
use Rattle.hilti_declared.specs.Globals.{literal_at, value_by, accepts_by, global_of, IsAccepted}
use Rattle.hilti_declared.specs.Laws.{GlobalsBeginTyped}
use Rattle.hilti_declared.specs.Sites.{meaning_at}
use Rattle.hilti_declared.proofs.Accepted.{accepted_globals}

fits_none : (b : Bool) (place : Place) → of_kind b place ≡ None → b ≡ true
fits_none true place e = refl
fits_none false place e = cc

bool_is : (t : ValueType) → is_bool t ≡ true → t ≡ types.Bool
bool_is types.Bool e = refl
bool_is _ e = absurd (false≢true e)

text_is : (t : ValueType) → is_text t ≡ true → t ≡ types.Text
text_is types.Text e = refl
text_is _ e = absurd (false≢true e)

bytes_is : (t : ValueType) → is_bytes t ≡ true → t ≡ types.Bytes
bytes_is types.Bytes e = refl
bytes_is _ e = absurd (false≢true e)

addr_is : (t : ValueType) → is_addr t ≡ true → t ≡ types.Addr
addr_is types.Addr e = refl
addr_is _ e = absurd (false≢true e)

net_is : (t : ValueType) → is_net t ≡ true → t ≡ types.Net
net_is types.Net e = refl
net_is _ e = absurd (false≢true e)

port_is : (t : ValueType) → is_port t ≡ true → t ≡ types.Port
port_is types.Port e = refl
port_is _ e = absurd (false≢true e)

time_is : (t : ValueType) → is_time t ≡ true → t ≡ types.Time
time_is types.Time e = refl
time_is _ e = absurd (false≢true e)

span_is : (t : ValueType) → is_span t ≡ true → t ≡ types.Span
span_is types.Span e = refl
span_is _ e = absurd (false≢true e)

enum_is : (n : ℕ) (t : ValueType) → is_enum_of n t ≡ true → t ≡ types.Enum n
enum_is n (types.Enum m) e = ap types.Enum (sym (eqb-true n m e))
enum_is n _ e = absurd (false≢true e)

number_is : (t : ValueType) (number : Number) → number_refusal t number ≡ None → IsTrue (is_wide number.value t)
number_is (types.Int bits) number e = wide (nat_lt number.value (2 ^ bits)) refl e
  where
    wide : (b : Bool) → nat_lt number.value (2 ^ bits) ≡ b → cond b None (Some (At number.place 36)) ≡ None → IsTrue (nat_lt number.value (2 ^ bits))
    wide true is e = is
    wide false is e = cc
number_is _ number e = cc

seconds_fit : (b : Bool) (place : Place) (number : Seconds) → seconds_refusal b place number ≡ None → b ≡ true
seconds_fit b place number e = small (nat_lt (nanoseconds number) (2 ^ 64)) e
  where
    small : (s : Bool) → cond s (of_kind b place) (Some (At place 36)) ≡ None → b ≡ true
    small true e = fits_none b place e
    small false e = cc

pub both : (a b : Bool) → (a && b) ≡ true → (a ≡ true) × (b ≡ true)
both true true e = (refl, refl)
both true false e = absurd (false≢true e)
both false b e = absurd (false≢true e)

shorter : (b : Bool) (n m : ℕ) → (b ≡ false → n < m) → cond (not b) (1 + n) 0 < suc m
shorter true n m h = omega arith
shorter false n m h = let k = h refl in omega (arith, k)

other_passes : (b c : Bool) → b ≡ false → (b || c) ≡ true → c ≡ true
other_passes false c is e = e
other_passes true c is e = cc

module _ {X : Type 0} (p : X → Bool) where
  pub first_within : (xs : List X) → list_any p xs ≡ true → position_or_len p xs < length xs
  first_within [] e = absurd (false≢true e)
  first_within (x ∷ xs) e = shorter (p x) (position_or_len p xs) (length xs) (λ is. first_within xs (other_passes (p x) (list_any p xs) is e))

  pub found_within : (xs : List X) → list_any p xs ≡ true → nat_lt (unwrap_or (position p xs) 0) (length xs) ≡ true
  found_within xs e =
      let h = lt-ltb (position_or_len p xs) (length xs) (first_within xs e) in
      ap (λ (b : Bool). nat_lt (unwrap_or (cond b (Some (position_or_len p xs)) None) 0) (length xs)) h ∙ h

constant_there : (d : Option Declared) (word : List ℕ) → has_constant d word ≡ true → IsTrue (is_constant (unwrap_or (place_in d word) 0) d)
constant_there (Some (tabled.Enum name words)) word e = found_within (λ other. bytes_eq other word) words e
constant_there (Some (tabled.Struct name fields)) word e = absurd (false≢true e)
constant_there (Some (tabled.Overlay name fields)) word e = absurd (false≢true e)
constant_there None word e = absurd (false≢true e)

constant_is : (table : List Declared) (t : ValueType) (meaning : Meaning) (place : Place) (word : List ℕ) → constant_refusal table t meaning place word ≡ None
    → IsTrue (is_pick table (constant_place table meaning word) t)
constant_is table t (means.Enum n) place word e =
    let it = both (is_enum_of n t) (has_constant (slice_get table n) word) (fits_none _ place e) in
    subst (λ (k : ValueType). IsTrue (is_pick table (constant_place table (means.Enum n) word) k)) (sym (enum_is n t it.0)) (constant_there (slice_get table n) word it.1)
constant_is table t means.Nothing place word e = cc
constant_is table t _ place word e = cc

value_is : (table : List Declared) (mean : Name → Meaning) (t : ValueType) (literal : Literal) → literal_refusal table mean t literal ≡ None
    → IsValue table t (literal_value table mean literal)
value_is table mean t (literals.Number number) e = number_is t number e
value_is table mean t (literals.Address place bits) e = addr_is t (fits_none _ place e)
value_is table mean t (literals.Net place bits length) e = net_is t (fits_none _ place e)
value_is table mean t (literals.Port place number udp) e = port_is t (fits_none _ place e)
value_is table mean t (literals.Text place bytes) e = text_is t (fits_none _ place e)
value_is table mean t (literals.Bytes place bytes) e = bytes_is t (fits_none _ place e)
value_is table mean t (literals.True place) e = bool_is t (fits_none _ place e)
value_is table mean t (literals.False place) e = bool_is t (fits_none _ place e)
value_is table mean t (literals.Null place) e = fits_none (may_be_null t) place e
value_is table mean t (literals.Constant name constant) e = constant_is table t (mean name) name.first.place constant.bytes e
value_is table mean t (literals.Time place number) e = time_is t (seconds_fit _ place number e)
value_is table mean t (literals.Interval place number) e = span_is t (seconds_fit _ place number e)

abbrev begins_by : List Declared → (Name → Meaning) → ValueType → Option Literal → Type 0
begins_by table mean kind literal =
    IsValue table kind (value_by table mean kind literal) ⊎ (value_by table mean kind literal ≡ default_of kind)

value_begins : (table : List Declared) (mean : Name → Meaning) (kind : ValueType) (literal : Option Literal) → accepts_by table mean kind literal
    → begins_by table mean kind literal
value_begins table mean kind (Some literal) accepted = inl (value_is table mean kind literal accepted)
value_begins table mean kind None accepted = inr refl

pub globals_begin_typed : GlobalsBeginTyped
globals_begin_typed modules blocks none =
    let tables = tables_of modules in
    All-map (BeginsTyped tables.types) (global_of modules tables.types) tables.globals
    (All-weaker (IsAccepted modules tables.types) (λ (g : LinkedGlobal). BeginsTyped tables.types (global_of modules tables.types g))
    (λ g accepted. value_begins tables.types (meaning_at modules g.site) g.kind (literal_at modules g.site) accepted)
    tables.globals (accepted_globals modules tables refl none))
