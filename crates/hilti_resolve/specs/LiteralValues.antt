-- The values of literals, and the types that they have by themselves.
use Rattle.std.specs.Prelude.{ℕ, true, false, bytes_eq, List, Option, Some, None}
use Rattle.std.specs.List.{position, slice_get}
use Rattle.std.specs.Option.{unwrap_or}
use Rattle.hilti_module.specs.declared.types.Name.{Name}
use Rattle.hilti_module.specs.declared.module.Literal.{Literal}
use Rattle.hilti_module.specs.declared.module.Literal.TheVariants as literals
use Rattle.hilti_tree.specs.declared.tree.Tree.{Tree}
use Rattle.hilti_tree.specs.declared.tree.Tree.TheVariants as trees
use Rattle.hilti_types.specs.declared.declared.Declared.{Declared}
use Rattle.hilti_types.specs.declared.declared.Declared.TheVariants as tabled
use Rattle.hilti_types.specs.declared.value_type.ValueType.{ValueType}
use Rattle.hilti_types.specs.declared.value_type.ValueType.TheVariants as types
use Rattle.hilti_scope.specs.declared.meaning.Meaning.{Meaning}
use Rattle.hilti_scope.specs.declared.meaning.Meaning.TheVariants as means
use Rattle.hilti_resolve.specs.Literals.{nanoseconds}

-- the place of a constant among those of its enum
abbrev pub place_in : Option Declared → List ℕ → Option ℕ
place_in (Some (tabled.Enum name words)) constant = position (λ word. bytes_eq word constant) words
place_in _ constant = None

abbrev pub constant_place : List Declared → Meaning → List ℕ → ℕ
constant_place table (means.Enum n) constant = unwrap_or (place_in (slice_get table n) constant) 0
constant_place table _ constant = 0

-- the value of a literal that isn't refused
abbrev pub literal_value : List Declared → (Name → Meaning) → Literal → Tree
literal_value table mean (literals.Number number) = trees.Int number.value
literal_value table mean (literals.Address place bits) = trees.Addr bits
literal_value table mean (literals.Net place bits length) = trees.Net bits length
literal_value table mean (literals.Port place number udp) = trees.Port number udp
literal_value table mean (literals.Text place bytes) = trees.Text bytes
literal_value table mean (literals.Bytes place bytes) = trees.Bytes bytes
literal_value table mean (literals.True place) = trees.Bool true
literal_value table mean (literals.False place) = trees.Bool false
literal_value table mean (literals.Null place) = trees.Null
literal_value table mean (literals.Constant name constant) =
    trees.Pick (constant_place table (mean name) constant.bytes)
literal_value table mean (literals.Time place number) = trees.Time (nanoseconds number)
literal_value table mean (literals.Interval place number) = trees.Span (nanoseconds number)

abbrev pub enum_of : Meaning → Option ValueType
enum_of (means.Enum n) = Some (types.Enum n)
enum_of _ = None

-- the type of a literal by itself: a number and Null take theirs from where they stand
abbrev pub literal_type : (Name → Meaning) → Literal → Option ValueType
literal_type mean (literals.Number number) = None
literal_type mean (literals.Address place bits) = Some types.Addr
literal_type mean (literals.Net place bits length) = Some types.Net
literal_type mean (literals.Port place number udp) = Some types.Port
literal_type mean (literals.Text place bytes) = Some types.Text
literal_type mean (literals.Bytes place bytes) = Some types.Bytes
literal_type mean (literals.True place) = Some types.Bool
literal_type mean (literals.False place) = Some types.Bool
literal_type mean (literals.Null place) = None
literal_type mean (literals.Constant name constant) = enum_of (mean name)
literal_type mean (literals.Time place number) = Some types.Time
literal_type mean (literals.Interval place number) = Some types.Span
