-- Whether a literal is a value of a type.
use Rattle.std.specs.Prelude.{ℕ, ◌+◌, ◌*◌, ◌^◌, nat_lt, nat_eq, Bool, true, false, cond, ◌&&◌}
use Rattle.std.specs.Prelude.{bytes_eq, List, Option, Some, None}
use Rattle.std.specs.List.{list_any, slice_get}
use Rattle.hilti_base.specs.declared.names.Place.{Place}
use Rattle.hilti_base.specs.declared.refusal.Refusal.{Refusal}
use Rattle.hilti_base.specs.declared.refusal.Refusal.TheVariants.{At}
use Rattle.hilti_module.specs.declared.types.Name.{Name}
use Rattle.hilti_module.specs.declared.types.Number.{Number}
use Rattle.hilti_module.specs.declared.module.Literal.{Literal}
use Rattle.hilti_module.specs.declared.module.Literal.TheVariants as literals
use Rattle.hilti_module.specs.declared.module.Seconds.{Seconds}
use Rattle.hilti_module.specs.declared.module.Seconds.TheVariants as seconds
use Rattle.hilti_types.specs.declared.declared.Declared.{Declared}
use Rattle.hilti_types.specs.declared.declared.Declared.TheVariants as tabled
use Rattle.hilti_types.specs.declared.value_type.ValueType.{ValueType}
use Rattle.hilti_types.specs.declared.value_type.ValueType.TheVariants as types
use Rattle.hilti_scope.specs.declared.meaning.Meaning.{Meaning}
use Rattle.hilti_scope.specs.declared.meaning.Meaning.TheVariants as means
use Rattle.hilti_resolve.specs.Forms.{is_addr, is_port, is_bytes}

abbrev pub is_bool : ValueType → Bool
is_bool types.Bool = true
is_bool _ = false

abbrev pub is_text : ValueType → Bool
is_text types.Text = true
is_text _ = false

abbrev pub is_net : ValueType → Bool
is_net types.Net = true
is_net _ = false

abbrev pub is_time : ValueType → Bool
is_time types.Time = true
is_time _ = false

abbrev pub is_span : ValueType → Bool
is_span types.Span = true
is_span _ = false

-- references, iterators and callables may be Null
abbrev pub may_be_null : ValueType → Bool
may_be_null types.Callable = true
may_be_null (types.Iter over) = true
may_be_null (types.Ref to) = true
may_be_null _ = false

-- a literal of another type is refused with code 30
abbrev pub of_kind : Bool → Place → Option Refusal
of_kind fits place = cond fits None (Some (At place 30))

-- a number is a value of an `int`, and where it doesn't fit it is refused with code 36
abbrev pub number_refusal : ValueType → Number → Option Refusal
number_refusal (types.Int bits) number =
    cond (nat_lt number.value (2 ^ bits)) None (Some (At number.place 36))
number_refusal _ number = Some (At number.place 30)

-- the nanoseconds of a time or an interval
abbrev pub nanoseconds : Seconds → ℕ
nanoseconds (seconds.Whole place whole) = whole * 1000000000
nanoseconds (seconds.Parts place whole parts) = whole * 1000000000 + parts

-- a time or an interval that is too large is refused with code 36, whatever is asked
abbrev pub seconds_refusal : Bool → Place → Seconds → Option Refusal
seconds_refusal fits place number =
    cond (nat_lt (nanoseconds number) (2 ^ 64)) (of_kind fits place) (Some (At place 36))

-- whether a declared type is an enum with this constant
abbrev pub has_constant : Option Declared → List ℕ → Bool
has_constant (Some (tabled.Enum name words)) constant =
    list_any (λ word. bytes_eq word constant) words
has_constant _ constant = false

abbrev pub is_enum_of : ℕ → ValueType → Bool
is_enum_of n (types.Enum other) = nat_eq n other
is_enum_of n _ = false

-- a constant is a value of its enum; one of a name that means nothing is refused with code 21
abbrev pub constant_refusal : List Declared → ValueType → Meaning → Place → List ℕ → Option Refusal
constant_refusal table kind means.Nothing place constant = Some (At place 21)
constant_refusal table kind (means.Enum n) place constant =
    of_kind (is_enum_of n kind && has_constant (slice_get table n) constant) place
constant_refusal table kind _ place constant = Some (At place 30)

-- the refusal of a literal where a value of this type is asked
abbrev pub literal_refusal : List Declared → (Name → Meaning) → ValueType → Literal → Option Refusal
literal_refusal table mean kind (literals.Number number) = number_refusal kind number
literal_refusal table mean kind (literals.Address place bits) = of_kind (is_addr kind) place
literal_refusal table mean kind (literals.Net place bits length) = of_kind (is_net kind) place
literal_refusal table mean kind (literals.Port place number udp) = of_kind (is_port kind) place
literal_refusal table mean kind (literals.Text place bytes) = of_kind (is_text kind) place
literal_refusal table mean kind (literals.Bytes place bytes) = of_kind (is_bytes kind) place
literal_refusal table mean kind (literals.True place) = of_kind (is_bool kind) place
literal_refusal table mean kind (literals.False place) = of_kind (is_bool kind) place
literal_refusal table mean kind (literals.Null place) = of_kind (may_be_null kind) place
literal_refusal table mean kind (literals.Constant name constant) =
    constant_refusal table kind (mean name) name.first.place constant.bytes
literal_refusal table mean kind (literals.Time place number) =
    seconds_refusal (is_time kind) place number
literal_refusal table mean kind (literals.Interval place number) =
    seconds_refusal (is_span kind) place number
