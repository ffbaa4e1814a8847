-- What lines of a shape meet, and what types pass tests.
use Rattle.std.specs.Prelude.{◌≡◌, ℕ, IsTrue, List, [], ◌∷◌, map, Some}
use Rattle.hilti_types.specs.declared.declared.Declared.{Declared}
use Rattle.hilti_types.specs.declared.op.Op.{Op}
use Rattle.hilti_types.specs.declared.op.Op.TheVariants as ops
use Rattle.hilti_types.specs.declared.value_type.Inner.{Inner}
use Rattle.hilti_types.specs.declared.value_type.Inner.TheVariants as inners
use Rattle.hilti_types.specs.declared.value_type.ValueType.{ValueType}
use Rattle.hilti_types.specs.declared.value_type.ValueType.TheVariants as types
use Rattle.hilti_table.specs.declared.row.Callee.{Callee}
use Rattle.hilti_table.specs.declared.row.Family.{Family}
use Rattle.hilti_table.specs.declared.row.Family.TheVariants as families
use Rattle.hilti_table.specs.declared.row.Flow.{Flow}
use Rattle.hilti_table.specs.declared.row.Gives.{Gives}
use Rattle.hilti_table.specs.declared.row.Gives.TheVariants as gives
use Rattle.hilti_table.specs.declared.row.Kind.TheVariants.{Fixed, Sized, Own, Same, Part, Label}
use Rattle.hilti_table.specs.declared.row.Kind.TheVariants.{Returned, Function, Hook, Arguments}
use Rattle.hilti_table.specs.declared.row.Kind.TheVariants.{Sent, Exception, New, Mode, Parts}
use Rattle.hilti_table.specs.declared.row.Kind.TheVariants.{Index, Field, Rule, Query, Overlay}
use Rattle.hilti_table.specs.declared.row.Kind.TheVariants.{OverlayField}
use Rattle.hilti_table.specs.declared.row.Part.TheVariants as parts
use Rattle.hilti_table.specs.declared.row.Plain.{Plain}
use Rattle.hilti_table.specs.declared.row.Raises.{Raises}
use Rattle.hilti_table.specs.declared.row.Takes.{Takes}
use Rattle.hilti_table.specs.declared.row.Takes.TheVariants as takes
use Rattle.hilti_table.specs.declared.row.Test.{Test}
use Rattle.hilti_table.specs.declared.row.Test.TheVariants as tests
use Rattle.hilti_table.specs.Table.{line_of}
use Rattle.hilti_parts.specs.declared.parts.Operand.{Operand}
use Rattle.hilti_typing.specs.Context.{Setting, Known}
use Rattle.hilti_typing.specs.Types.{plain_type, passes, item_of}
use Rattle.hilti_typing.specs.Fits.{Has, HaveAll, Gets, FitsRow, MayBe, Needs, callee, hook, given}
use Rattle.hilti_typing.specs.Facts.{Passes, IsOf, TwoNumbers, SomeValues, OneBlock}
use Rattle.hilti_typing.specs.Facts.{ValueAndBlocks, ResultValue, ExceptionAndValue, MadeObject}
use Rattle.hilti_typing.specs.Facts.{CalledWith, SentWith, TupleParts, PartOfTuple}
use Rattle.hilti_typing.specs.Facts.{FieldOfStruct, TimeoutOf, RuleAndValue, ClassifierAsked}
use Rattle.hilti_typing.specs.Facts.{FieldOfOverlay}

-- a line that fits a row with these operands meets this; `gets` says what its target is where this
-- is known behind the operands
abbrev pub Meets : Takes → (Setting → (Known → Type 0) → List Operand → Type 0) → Type 0
Meets takes found =
    (s : Setting) (g : Gives) (r : Raises) (f : Flow) (items : List Operand) →
    FitsRow s (record { takes = takes; gives = g; raises = r; flow = f }) items →
    found s (Gets s g) items

-- a line that fits the row of a mnemonic meets this
abbrev pub MeetsAt : Op → (Setting → List Operand → Type 0) → Type 0
MeetsAt op found =
    (s : Setting) (items : List Operand) → FitsRow s (line_of op).row items → found s items

-- rows on values of plain types
pub record PlainRows : Type 0 where
  pub none : Meets takes.Nothing (λ s gets items. (items ≡ []) × gets Known.Nothing)
  pub one : (a : Plain) → Meets (takes.One (Fixed a))
      (λ s gets items. HaveAll s.context (plain_type a ∷ []) items × gets Known.Nothing)
  pub two : (a b : Plain) → Meets (takes.Two (Fixed a) (Fixed b))
      (λ s gets items. HaveAll s.context (plain_type a ∷ plain_type b ∷ []) items
      × gets Known.Nothing)
  pub three : (a b c : Plain) → Meets (takes.Three (Fixed a) (Fixed b) (Fixed c))
      (λ s gets items. HaveAll s.context (plain_type a ∷ plain_type b ∷ plain_type c ∷ []) items
      × gets Known.Nothing)

-- rows on two numbers of the line's width
abbrev pub NumberRows : Type 0
NumberRows =
    Meets (takes.Two Sized Sized) (λ s gets items. TwoNumbers s items × gets Known.Nothing)

-- rows on values of a type that passes a test
pub record OwnRows : Type 0 where
  pub one : (test : Test) → Meets (takes.One (Own test))
      (λ s gets items. (t : ValueType) × Passes s test t × HaveAll s.context (t ∷ []) items
      × gets (Known.Of t))
  pub two : (test : Test) → Meets (takes.Two (Own test) Same)
      (λ s gets items. (t : ValueType) × Passes s test t × HaveAll s.context (t ∷ t ∷ []) items
      × gets (Known.Of t))
  pub choice : (a : Plain) (test : Test) → Meets (takes.Three (Fixed a) (Own test) Same)
      (λ s gets items. (t : ValueType) × Passes s test t
      × HaveAll s.context (plain_type a ∷ t ∷ t ∷ []) items × gets (Known.Of t))
  pub print : MeetsAt ops.Print (SomeValues tests.Sendable)

-- rows that go on elsewhere
pub record FlowRows : Type 0 where
  pub block : Meets (takes.One Label) (λ s gets items. OneBlock s items × gets Known.Nothing)
  pub blocks : (a : Plain) → Meets (takes.Three (Fixed a) Label Label)
      (λ s gets items. ValueAndBlocks (plain_type a) s items × gets Known.Nothing)
  pub returned : Meets (takes.One Returned)
      (λ s gets items. ResultValue s items × gets Known.Nothing)
  pub thrown : (a : Plain) → Meets (takes.Two Exception (Fixed a))
      (λ s gets items. ExceptionAndValue (plain_type a) s items × gets Known.Nothing)

-- rows that call, bind or send
pub record CallRows : Type 0 where
  pub functions : (which : Callee) → Meets (takes.Two (Function which) Arguments)
      (λ s gets items. (c : CalledWith callee s items) × MayBe which c.calling.signature
      × gets (Known.Calls c.calling.signature))
  pub hooks : Meets (takes.Two Hook Arguments)
      (λ s gets items. (c : CalledWith hook s items) × gets (Known.Calls c.calling.signature))
  pub sends : (a : Plain) (which : Callee) →
      Meets (takes.Three (Fixed a) (Function which) Sent)
      (λ s gets items. (c : SentWith (plain_type a) which s items)
      × gets (Known.Calls c.calling.signature))

-- rows on an object of any family
pub record ObjectRows : Type 0 where
  pub made : Meets (takes.One New)
      (λ s gets items. (m : MadeObject s items) × gets (Known.Of (types.Ref m.object)))
  pub one : (family : Family) → Meets (takes.One (Own (tests.Object family)))
      (λ s gets items. (o : Inner) × IsOf family o × HaveAll s.context (types.Ref o ∷ []) items
      × gets (Known.Of (types.Ref o)))
  pub number : (family : Family) (a : Plain) →
      Meets (takes.Two (Own (tests.Object family)) (Fixed a))
      (λ s gets items. (o : Inner) × IsOf family o
      × HaveAll s.context (types.Ref o ∷ plain_type a ∷ []) items
      × gets (Known.Of (types.Ref o)))
  pub timeout : (family : Family) (a b : Plain) →
      Meets (takes.Four (Own (tests.Object family)) Mode (Fixed a) (Fixed b))
      (λ s gets items. (o : Inner) × IsOf family o × TimeoutOf (types.Ref o) a b s items
      × gets (Known.Of (types.Ref o)))

-- rows on an object of a family and items in it; `of` makes the type of the object of theirs
pub record ItemRows (family : Family) (of : ValueType → Inner) : Type 0 where
  pub objects : (o : Inner) → IsOf family o → (t : ValueType) × (o ≡ of t)
  pub item : Meets (takes.Two (Own (tests.Object family)) (Part parts.First))
      (λ s gets items. (t : ValueType) × HaveAll s.context (types.Ref (of t) ∷ t ∷ []) items
      × gets (Known.Of (types.Ref (of t))))
  pub place : (a : Plain) →
      Meets (takes.Three (Own (tests.Object family)) (Fixed a) (Part parts.First))
      (λ s gets items. (t : ValueType)
      × HaveAll s.context (types.Ref (of t) ∷ plain_type a ∷ t ∷ []) items
      × gets (Known.Of (types.Ref (of t))))
  pub target : (s : Setting) (t : ValueType) →
      Gets s (gives.Part parts.First) (Known.Of (types.Ref (of t))) → s.target ≡ Some t

-- rows on a map, keys and values
pub record MapRows : Type 0 where
  pub objects : (o : Inner) → IsOf families.Map o →
      (k : ValueType) × (v : ValueType) × (o ≡ inners.Map k v)
  pub key : Meets (takes.Two (Own (tests.Object families.Map)) (Part parts.First))
      (λ s gets items. (k : ValueType) × (v : ValueType)
      × HaveAll s.context (types.Ref (inners.Map k v) ∷ k ∷ []) items
      × gets (Known.Of (types.Ref (inners.Map k v))))
  pub value : Meets
      (takes.Three (Own (tests.Object families.Map)) (Part parts.First) (Part parts.Second))
      (λ s gets items. (k : ValueType) × (v : ValueType)
      × HaveAll s.context (types.Ref (inners.Map k v) ∷ k ∷ v ∷ []) items
      × gets (Known.Of (types.Ref (inners.Map k v))))
  pub target : (s : Setting) (k v : ValueType) →
      Gets s (gives.Part parts.Second) (Known.Of (types.Ref (inners.Map k v))) → s.target ≡ Some v

-- rows on structs and their fields
pub record StructRows : Type 0 where
  pub field : Meets (takes.Two (Own (tests.Object families.Struct)) Field)
      (λ s gets items. (f : FieldOfStruct [] s items) × gets (Known.Of f.kind))
  pub value : Meets (takes.Three (Own (tests.Object families.Struct)) Field Same)
      (λ s gets items. (x : Operand) × (f : FieldOfStruct (x ∷ []) s items)
      × Has s.context f.kind x × gets (Known.Of f.kind))

-- rows on tuples
pub record TupleRows : Type 0 where
  pub make : Meets (takes.One Parts)
      (λ s gets items. (p : TupleParts s items)
      × gets (Known.Of (types.Tuple (map given p.values))))
  pub get : Meets (takes.Two (Own tests.Tuple) Index)
      (λ s gets items. (p : PartOfTuple s items) × gets (Known.Of p.kind))

-- rows on a classifier
pub record ClassifierRows : Type 0 where
  pub objects : (o : Inner) → IsOf families.Classifier o →
      (r : ValueType) × (v : ValueType) × (o ≡ inners.Classifier r v)
  pub add : (a : Plain) →
      Meets (takes.Four (Own (tests.Object families.Classifier)) Rule (Fixed a) (Part parts.Second))
      (λ s gets items. (r : ValueType) × (v : ValueType) × RuleAndValue a r v s items
      × gets (Known.Of (types.Ref (inners.Classifier r v))))
  pub ask : Meets (takes.Two (Own (tests.Object families.Classifier)) Query)
      (λ s gets items. (r : ValueType) × (v : ValueType) × ClassifierAsked r v s items
      × gets (Known.Of (types.Ref (inners.Classifier r v))))
  pub target : (s : Setting) (r v : ValueType) →
      Gets s (gives.Part parts.Second) (Known.Of (types.Ref (inners.Classifier r v))) →
      s.target ≡ Some v

-- rows on overlays and their fields
abbrev pub OverlayRows : Type 0
OverlayRows = (a b : Plain) → Meets (takes.Four Overlay OverlayField (Fixed a) (Fixed b))
    (λ s gets items. (f : FieldOfOverlay a b s items) × gets (Known.Of f.field.kind))

-- which types pass the tests of a whole number, a tuple and an iterator
pub record PassedTests : Type 0 where
  pub int : (table : List Declared) (t : ValueType) → IsTrue (passes table tests.Int t) →
      (bits : ℕ) × (t ≡ types.Int bits)
  pub tuple : (table : List Declared) (t : ValueType) → IsTrue (passes table tests.Tuple t) →
      (parts : List ValueType) × (t ≡ types.Tuple parts)
  pub iterator : (table : List Declared) (t : ValueType) →
      IsTrue (passes table tests.Iterator t) → (o : Inner) × (t ≡ types.Iter o)

-- targets that follow what is known
pub record Targets : Type 0 where
  pub same : (s : Setting) (t : ValueType) → Gets s gives.Same (Known.Of t) → s.target ≡ Some t
  pub iterator : (s : Setting) (o : Inner) →
      Gets s gives.Iterator (Known.Of (types.Ref o)) → s.target ≡ Some (types.Iter o)
  pub item : (s : Setting) (o : Inner) →
      Gets s gives.Item (Known.Of (types.Iter o)) → Needs s.target (item_of o)
