-- What the operands of lines are where they fit, by the shape of their rows.
use Rattle.std.specs.Prelude.{◌≡◌, ℕ, ◌<◌, ◌≤◌, IsTrue, List, [], ◌∷◌, length, map}
use Rattle.std.specs.Prelude.{slice_get}
use Rattle.std.specs.Prelude.{Option, Some, None, IsSomeAnd}
use Rattle.std.specs.List.{All, AllZip}
use Rattle.hilti_types.specs.declared.declared.OverlayField.{OverlayField}
use Rattle.hilti_types.specs.declared.value_type.Inner.{Inner, out-Inner}
use Rattle.hilti_types.specs.declared.value_type.Inner.TheVariants as inners
use Rattle.hilti_types.specs.declared.value_type.ValueType.{ValueType}
use Rattle.hilti_types.specs.declared.value_type.ValueType.TheVariants as types
use Rattle.hilti_types.specs.Sendable.{IsSendable}
use Rattle.hilti_table.specs.declared.row.Callee.{Callee}
use Rattle.hilti_table.specs.declared.row.Family.{Family}
use Rattle.hilti_table.specs.declared.row.Plain.{Plain}
use Rattle.hilti_table.specs.declared.row.Test.{Test}
use Rattle.hilti_parts.specs.declared.parts.Operand.{Operand}
use Rattle.hilti_parts.specs.Named.{grouped, named_block}
use Rattle.hilti_typing.specs.Context.{Signature, Context, Setting}
use Rattle.hilti_typing.specs.Types.{plain_type, in_family, passes, can_be_made, parts_of}
use Rattle.hilti_typing.specs.Types.{asked_for}
use Rattle.hilti_typing.specs.Fits.{Has, HaveAll, AsksOwn, AreParts, MayBe, Matches, callee}
use Rattle.hilti_typing.specs.Fits.{exception_number, field_number, literal_number, made}
use Rattle.hilti_typing.specs.Fits.{field_type, is_mode, overlay}

-- a type that passes a test
abbrev pub Passes : Setting → Test → ValueType → Type 0
Passes s test t = IsTrue (passes s.context.declared test t)

-- an object of a family
abbrev pub IsOf : Family → Inner → Type 0
IsOf family object = IsTrue (in_family family (out-Inner object))

-- two numbers of the line's width
abbrev pub TwoNumbers : Setting → List Operand → Type 0
TwoNumbers s = HaveAll s.context (types.Int s.width ∷ types.Int s.width ∷ [])

-- at most 8 values, each of a type that passes a test
pub record SomeValues (test : Test) (s : Setting) (items : List Operand) : Type 0 where
  pub few : length items ≤ 8
  pub each : All (AsksOwn s.context test) items
  pub no_target : s.target ≡ None

-- an operand that names a block
abbrev pub NamesBlock : Setting → Operand → Type 0
NamesBlock s x = IsSomeAnd (named_block x) (λ n. n < s.context.blocks)

-- one block
pub record OneBlock (s : Setting) (items : List Operand) : Type 0 where
  pub block : Operand
  pub are : items ≡ block ∷ []
  pub named : NamesBlock s block

-- a value of a type, and two blocks
pub record ValueAndBlocks (t : ValueType) (s : Setting) (items : List Operand) : Type 0 where
  pub test : Operand
  pub first : Operand
  pub second : Operand
  pub are : items ≡ test ∷ first ∷ second ∷ []
  pub test_is : Has s.context t test
  pub first_named : NamesBlock s first
  pub second_named : NamesBlock s second

-- a value of the type of the body's result
pub record ResultValue (s : Setting) (items : List Operand) : Type 0 where
  pub kind : ValueType
  pub result : s.context.result ≡ Some kind
  pub value : HaveAll s.context (kind ∷ []) items

-- an exception, and a value of a type
pub record ExceptionAndValue (t : ValueType) (s : Setting) (items : List Operand) : Type 0 where
  pub exception : Operand
  pub value : Operand
  pub are : items ≡ exception ∷ value ∷ []
  pub named : IsSomeAnd (exception_number exception) (λ n. n < s.context.exceptions)
  pub value_is : Has s.context t value

-- the type of an object that can be made
pub record MadeObject (s : Setting) (items : List Operand) : Type 0 where
  pub word : Operand
  pub object : Inner
  pub are : items ≡ word ∷ []
  pub names : made word ≡ Some object
  pub can : IsTrue (can_be_made object)

-- what is called, as `find` finds it, and arguments of the types of its parameters
pub record Calling (find : Context → Operand → Option Signature) (s : Setting)
    (called group : Operand) : Type 0 where
  pub signature : Signature
  pub arguments : List Operand
  pub calls : find s.context called ≡ Some signature
  pub groups : grouped group ≡ Some arguments
  pub arguments_are : HaveAll s.context signature.parameters arguments

-- a function or a hook, and its arguments
pub record CalledWith (find : Context → Operand → Option Signature) (s : Setting)
    (items : List Operand) : Type 0 where
  pub called : Operand
  pub group : Operand
  pub are : items ≡ called ∷ group ∷ []
  pub calling : Calling find s called group

-- a number of a type, a function, and arguments of sendable types
pub record SentWith (t : ValueType) (which : Callee) (s : Setting)
    (items : List Operand) : Type 0 where
  pub number : Operand
  pub called : Operand
  pub group : Operand
  pub are : items ≡ number ∷ called ∷ group ∷ []
  pub number_is : Has s.context t number
  pub calling : Calling callee s called group
  pub may_be : MayBe which calling.signature
  pub sendable : All (IsSendable s.context.declared) calling.signature.parameters

-- values in parentheses that make a tuple
pub record TupleParts (s : Setting) (items : List Operand) : Type 0 where
  pub group : Operand
  pub values : List Operand
  pub are : items ≡ group ∷ []
  pub groups : grouped group ≡ Some values
  pub each : AreParts s.context values

-- a tuple, and the place of one of its parts
pub record PartOfTuple (s : Setting) (items : List Operand) : Type 0 where
  pub tuple : Operand
  pub place : Operand
  pub parts : List ValueType
  pub at : ℕ
  pub kind : ValueType
  pub are : items ≡ tuple ∷ place ∷ []
  pub tuple_is : Has s.context (types.Tuple parts) tuple
  pub written : literal_number place ≡ Some at
  pub part_is : slice_get parts at ≡ Some kind

-- a struct and one of its fields, and further operands
pub record FieldOfStruct (more : List Operand) (s : Setting) (items : List Operand) : Type 0 where
  pub holder : Operand
  pub name : Operand
  pub struct_number : ℕ
  pub at : ℕ
  pub kind : ValueType
  pub are : items ≡ holder ∷ name ∷ more
  pub holder_is : Has s.context (types.Ref (inners.Struct struct_number)) holder
  pub written : field_number name ≡ Some at
  pub field_is : field_type s.context (inners.Struct struct_number) at ≡ Some kind

-- an object of a type, `Create` or `Access`, and values of these types
pub record TimeoutOf (t : ValueType) (a b : Plain) (s : Setting)
    (items : List Operand) : Type 0 where
  pub object : Operand
  pub mode : Operand
  pub first : Operand
  pub second : Operand
  pub are : items ≡ object ∷ mode ∷ first ∷ second ∷ []
  pub object_is : Has s.context t object
  pub mode_is : IsTrue (is_mode mode)
  pub first_is : Has s.context (plain_type a) first
  pub second_is : Has s.context (plain_type b) second

-- values in parentheses, one for each of these types, of which this is so
pub record Grouped (so : ValueType → Operand → Type 0) (kinds : List ValueType)
    (group : Operand) : Type 0 where
  pub values : List Operand
  pub groups : grouped group ≡ Some values
  pub each : AllZip so kinds values

-- a classifier, a rule of it, a number of a type, and a value
pub record RuleAndValue (a : Plain) (rule value : ValueType) (s : Setting)
    (items : List Operand) : Type 0 where
  pub holder : Operand
  pub group : Operand
  pub number : Operand
  pub last : Operand
  pub are : items ≡ holder ∷ group ∷ number ∷ last ∷ []
  pub holder_is : Has s.context (types.Ref (inners.Classifier rule value)) holder
  pub matches : Grouped (Matches s.context) (parts_of rule) group
  pub number_is : Has s.context (plain_type a) number
  pub last_is : Has s.context value last

-- a classifier, and what it is asked for
pub record ClassifierAsked (rule value : ValueType) (s : Setting)
    (items : List Operand) : Type 0 where
  pub holder : Operand
  pub group : Operand
  pub are : items ≡ holder ∷ group ∷ []
  pub holder_is : Has s.context (types.Ref (inners.Classifier rule value)) holder
  pub asked : Grouped (Has s.context) (map asked_for (parts_of rule)) group

-- an overlay and one of its fields, and values of these types
pub record FieldOfOverlay (a b : Plain) (s : Setting) (items : List Operand) : Type 0 where
  pub form : Operand
  pub name : Operand
  pub first : Operand
  pub second : Operand
  pub fields : List OverlayField
  pub at : ℕ
  pub field : OverlayField
  pub are : items ≡ form ∷ name ∷ first ∷ second ∷ []
  pub reads : overlay s.context form ≡ Some fields
  pub written : field_number name ≡ Some at
  pub there : slice_get fields at ≡ Some field
  pub first_is : Has s.context (plain_type a) first
  pub second_is : Has s.context (plain_type b) second
