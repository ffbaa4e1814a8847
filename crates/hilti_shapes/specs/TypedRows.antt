-- Typed rows: sources and targets of the types that a row computes with, in the context of a body.
use Rattle.std.specs.Prelude.{◌≡◌, ℕ, ◌<◌, List, slice_get, Option, Some, None}
use Rattle.std.specs.Prelude.{IfSome, IsSomeAnd}
use Rattle.std.specs.List.{AllByRecursion, AllZip}
use Rattle.hilti_int.specs.Integers.{bits_of}
use Rattle.hilti_types.specs.declared.value_type.Inner.TheVariants as inners
use Rattle.hilti_types.specs.declared.value_type.ValueType.{ValueType}
use Rattle.hilti_types.specs.declared.value_type.ValueType.TheVariants as types
use Rattle.hilti_parts.specs.declared.parts.Variable.{Variable}
use Rattle.hilti_rows.specs.declared.row.Binary.{Binary}
use Rattle.hilti_rows.specs.declared.row.Binary.TheVariants as binaries
use Rattle.hilti_rows.specs.declared.row.Printed.{Printed}
use Rattle.hilti_rows.specs.declared.row.Row.{Row}
use Rattle.hilti_rows.specs.declared.row.Row.TheVariants as rows
use Rattle.hilti_rows.specs.declared.row.Source.{Source}
use Rattle.hilti_rows.specs.declared.row.Source.TheVariants as sources
use Rattle.hilti_rows.specs.declared.row.StructRow.{StructRow}
use Rattle.hilti_rows.specs.declared.row.StructRow.TheVariants as structs
use Rattle.hilti_rows.specs.declared.row.Unary.{Unary}
use Rattle.hilti_rows.specs.declared.row.Unary.TheVariants as unaries
use Rattle.hilti_typing.specs.Context.{Signature, Context, variable_type}
use Rattle.hilti_shapes.specs.Needs.{needs, nothing}
use Rattle.hilti_shapes.specs.Objects.{field_types}

-- a source of a type; the value of a literal names no object
abbrev pub IsSource : Context → Source → ValueType → Type 0
IsSource c (sources.Slot n) t = slice_get c.slots n ≡ Some t
IsSource c (sources.Global n) t = slice_get c.globals n ≡ Some t
IsSource c (sources.Constant value) t = needs c.declared value t ≡ nothing

-- a target of a type
abbrev pub IsTarget : Context → Variable → ValueType → Type 0
IsTarget c target t = variable_type c target ≡ Some t

-- what an operation makes of a value of a type
abbrev pub Turns : Unary → ValueType → ValueType → Type 0
Turns unaries.Assign from to = to ≡ from
Turns unaries.Not from to = (from ≡ types.Bool) × (to ≡ types.Bool)
Turns (unaries.IntAs width) from to =
    ((bits : ℕ) × (from ≡ types.Int bits)) × (to ≡ types.Int (bits_of width))
Turns (unaries.IntAsExact width) from to =
    ((bits : ℕ) × (from ≡ types.Int bits)) × (to ≡ types.Int (bits_of width))

-- what an operation makes of two values of a type
abbrev pub Combines : Binary → ValueType → ValueType → Type 0
Combines binaries.And of to = (of ≡ types.Bool) × (to ≡ types.Bool)
Combines binaries.Or of to = (of ≡ types.Bool) × (to ≡ types.Bool)
Combines (binaries.Int op width) of to =
    (of ≡ types.Int (bits_of width)) × (to ≡ types.Int (bits_of width))
Combines (binaries.Compare op width) of to =
    (of ≡ types.Int (bits_of width)) × (to ≡ types.Bool)

pub record IsUnary (c : Context) (op : Unary) (target : Variable) (a : Source) : Type 0 where
  pub from : ValueType
  pub to : ValueType
  pub turns : Turns op from to
  pub operand : IsSource c a from
  pub goes : IsTarget c target to

pub record IsBinary (c : Context) (op : Binary) (target : Variable) (a b : Source) : Type 0 where
  pub of : ValueType
  pub to : ValueType
  pub combines : Combines op of to
  pub first : IsSource c a of
  pub second : IsSource c b of
  pub goes : IsTarget c target to

pub record IsSelect (c : Context) (target : Variable) (test a b : Source) : Type 0 where
  pub of : ValueType
  pub condition : IsSource c test types.Bool
  pub first : IsSource c a of
  pub second : IsSource c b of
  pub goes : IsTarget c target of

pub record IsTest (c : Context) (target : Variable) (a : Source) : Type 0 where
  pub of : ValueType
  pub operand : IsSource c a of
  pub goes : IsTarget c target types.Bool

-- arguments of the types of the parameters
abbrev pub AreSources : Context → List Source → List ValueType → Type 0
AreSources c = AllZip (IsSource c)

-- a target, if there is one, takes a result of its type
abbrev pub Receives : Context → Option Variable → Option ValueType → Type 0
Receives c target result = IfSome target (λ v. IsSomeAnd result (IsTarget c v))

pub record IsCall (c : Context) (arguments : List Source) (target : Option Variable)
    (f : Signature) : Type 0 where
  pub given : AreSources c arguments f.parameters
  pub receives : Receives c target f.result

pub record IsBind (c : Context) (target : Variable) (arguments : List Source) (f : Signature)
    : Type 0 where
  pub void : f.result ≡ None
  pub given : AreSources c arguments f.parameters
  pub goes : IsTarget c target types.Callable

pub record IsBranch (c : Context) (test : Source) (a b : ℕ) : Type 0 where
  pub condition : IsSource c test types.Bool
  pub first : a < c.blocks
  pub second : b < c.blocks

pub record IsThrow (c : Context) (exception : ℕ) (text : Source) : Type 0 where
  pub there : exception < c.exceptions
  pub of_text : IsSource c text types.Text

-- a field of a struct, and its type
pub record IsField (c : Context) (object : Source) (at : ℕ) : Type 0 where
  pub struct : ℕ
  pub kind : ValueType
  pub holder : IsSource c object (types.Ref (inners.Struct struct))
  pub there : slice_get (field_types c.declared struct) at ≡ Some kind

abbrev pub IsStructRow : Context → StructRow → Type 0
IsStructRow c (structs.New target n) = IsTarget c target (types.Ref (inners.Struct n))
IsStructRow c (structs.Get target o at) = (f : IsField c o at) × IsTarget c target f.kind
IsStructRow c (structs.Set o at x) = (f : IsField c o at) × IsSource c x f.kind
IsStructRow c (structs.Unset o at) = IsField c o at
IsStructRow c (structs.IsSet target o at) = IsField c o at × IsTarget c target types.Bool

-- a row is typed
abbrev pub IsRow : Context → Row → Type 0
IsRow c rows.Nop = Unit {0}
IsRow c (rows.Unary op target a) = IsUnary c op target a
IsRow c (rows.Binary op target a b) = IsBinary c op target a b
IsRow c (rows.Select target test a b) = IsSelect c target test a b
IsRow c (rows.IsNull target a) = IsTest c target a
IsRow c (rows.Print items) =
    AllByRecursion (λ (item : Printed). IsSource c item.value item.kind) items
IsRow c rows.Yield = Unit {0}
IsRow c (rows.Call f arguments target) =
    IsSomeAnd (slice_get c.functions f.n) (IsCall c arguments target)
IsRow c (rows.Bind target f arguments) =
    IsSomeAnd (slice_get c.functions f.n) (IsBind c target arguments)
IsRow c (rows.Jump block) = block < c.blocks
IsRow c (rows.IfElse test a b) = IsBranch c test a b
IsRow c rows.ReturnVoid = c.result ≡ None
IsRow c (rows.ReturnResult value) = IsSomeAnd c.result (IsSource c value)
IsRow c (rows.Throw exception text) = IsThrow c exception text
IsRow c (rows.Struct row) = IsStructRow c row
