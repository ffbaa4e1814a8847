-- What operands and a target fit a row of the table.
use Rattle.std.specs.Prelude.{◌≡◌, ℕ, ◌<◌, ◌≤◌, ◌^◌, nat_lt, Bool, true, false, IsTrue, List, []}
use Rattle.std.specs.Prelude.{◌∷◌, length, map, slice_get, Option, Some, None, IfSome, IsSome}
use Rattle.std.specs.Prelude.{IsSomeAnd}
use Rattle.std.specs.List.{All, AllZip}
use Rattle.std.specs.Option.{option_map, option_or, option_and_then, unwrap_or}
use Rattle.hilti_types.specs.declared.declared.Declared.{Declared}
use Rattle.hilti_types.specs.declared.declared.Declared.TheVariants as declared
use Rattle.hilti_types.specs.declared.declared.Member.{Member}
use Rattle.hilti_types.specs.declared.declared.OverlayField.{OverlayField}
use Rattle.hilti_types.specs.declared.value_type.Inner.{Inner}
use Rattle.hilti_types.specs.declared.value_type.ValueType.{ValueType, out-ValueType}
use Rattle.hilti_types.specs.declared.value_type.ValueType.TheVariants as types
use Rattle.hilti_types.specs.declared.op.Op.{Op}
use Rattle.hilti_types.specs.Sendable.{IsSendable}
use Rattle.hilti_tree.specs.declared.tree.Tree.{Tree}
use Rattle.hilti_tree.specs.declared.tree.Tree.TheVariants as trees
use Rattle.hilti_table.specs.declared.row.Body.TheVariants as bodies
use Rattle.hilti_table.specs.declared.row.Callee.{Callee}
use Rattle.hilti_table.specs.declared.row.Callee.TheVariants as callees
use Rattle.hilti_table.specs.declared.row.Flow.{Flow}
use Rattle.hilti_table.specs.declared.row.Flow.TheVariants as flows
use Rattle.hilti_table.specs.declared.row.Gives.{Gives}
use Rattle.hilti_table.specs.declared.row.Gives.TheVariants as gives
use Rattle.hilti_table.specs.declared.row.Kind.{Kind}
use Rattle.hilti_table.specs.declared.row.Kind.TheVariants as kind
use Rattle.hilti_table.specs.declared.row.Part.{Part}
use Rattle.hilti_table.specs.declared.row.Part.TheVariants as parts
use Rattle.hilti_table.specs.declared.row.Row.{Row}
use Rattle.hilti_table.specs.declared.row.Test.{Test}
use Rattle.hilti_table.specs.Rows.{IsCount, kinds}
use Rattle.hilti_table.specs.Table.{line_of}
use Rattle.hilti_parts.specs.declared.parts.Operand.{Operand}
use Rattle.hilti_parts.specs.declared.parts.Operand.TheVariants as operands
use Rattle.hilti_parts.specs.Named.{given_kind}
use Rattle.hilti_parts.specs.Named.{named_block, named_function, grouped}
use Rattle.hilti_typing.specs.Context.{Signature, Context, Setting, Known, variable_type}
use Rattle.hilti_typing.specs.Types.{plain_type, passes, may_be_null, is_int, object_of, iterated}
use Rattle.hilti_typing.specs.Types.{part_of, item_of, parts_of, rule_of, asked_for, can_be_made}
use Rattle.hilti_typing.specs.Types.{overlay_fields, fields_of}

abbrev pub is_wide : ℕ → ValueType → Bool
is_wide n (types.Int bits) = nat_lt n (2 ^ bits)
is_wide n _ = false

abbrev pub is_constant : ℕ → Option Declared → Bool
is_constant n (Some (declared.Enum name words)) = nat_lt n (length words)
is_constant n _ = false

abbrev pub is_pick : List Declared → ℕ → ValueType → Bool
is_pick table n (types.Enum m) = is_constant n (slice_get table m)
is_pick table n _ = false

-- whether a literal is a value of a type
abbrev pub IsValue : List Declared → ValueType → Tree → Type 0
IsValue table t (trees.Bool value) = t ≡ types.Bool
IsValue table t (trees.Int n) = IsTrue (is_wide n t)
IsValue table t (trees.Text bytes) = t ≡ types.Text
IsValue table t (trees.Bytes bytes) = t ≡ types.Bytes
IsValue table t (trees.Addr n) = t ≡ types.Addr
IsValue table t (trees.Net n len) = t ≡ types.Net
IsValue table t (trees.Port n udp) = t ≡ types.Port
IsValue table t (trees.Time nanos) = t ≡ types.Time
IsValue table t (trees.Span nanos) = t ≡ types.Span
IsValue table t (trees.Pick n) = IsTrue (is_pick table n t)
IsValue table t trees.Null = IsTrue (may_be_null t)
IsValue table t _ = ⊥

-- an operand that gives a value: a variable with its type, or a literal of its type
abbrev pub IsSound : Context → Operand → Type 0
IsSound c (operands.Var v t) = variable_type c v ≡ Some t
IsSound c (operands.Literal t value) = IsValue c.declared t value
IsSound c _ = ⊥

-- an operand that gives a value of a type
pub record Has (c : Context) (t : ValueType) (x : Operand) : Type 0 where
  pub sound : IsSound c x
  pub of_type : given_kind x ≡ Some t

-- a value of a type that is known
abbrev pub HasKnown : Context → Option ValueType → Operand → Type 0
HasKnown c known x = IsSomeAnd known (λ t. Has c t x)

-- values of these types, one for one
abbrev pub HaveAll : Context → List ValueType → List Operand → Type 0
HaveAll c = AllZip (Has c)

-- for each part of a rule a value, or `*`
abbrev pub Matches : Context → ValueType → Operand → Type 0
Matches c t operands.Star = Unit {0}
Matches c t x = Has c t x

-- what is known
abbrev pub known_type : Known → Option ValueType
known_type (Known.Of t) = Some t
known_type _ = None

abbrev pub known_object : Known → Option Inner
known_object known = option_and_then object_of (known_type known)

abbrev pub known_part : Part → Known → Option ValueType
known_part part known = option_and_then (part_of part) (known_object known)

abbrev pub known_rule : Known → Option (List ValueType)
known_rule known = option_and_then rule_of (known_object known)

abbrev pub known_signature : Known → Option Signature
known_signature (Known.Calls signature) = Some signature
known_signature _ = None

abbrev pub known_overlay : Known → Option (List OverlayField)
known_overlay (Known.Reads fields) = Some fields
known_overlay _ = None

-- what an operand names
abbrev pub field_number : Operand → Option ℕ
field_number (operands.Field n) = Some n
field_number _ = None

abbrev pub literal_number : Operand → Option ℕ
literal_number (operands.Literal t (trees.Int n)) = Some n
literal_number _ = None

abbrev pub hook_number : Operand → Option ℕ
hook_number (operands.Hook n) = Some n
hook_number _ = None

abbrev pub exception_number : Operand → Option ℕ
exception_number (operands.Exception n) = Some n
exception_number _ = None

abbrev pub overlay_number : Operand → Option ℕ
overlay_number (operands.Overlay n) = Some n
overlay_number _ = None

abbrev pub made : Operand → Option Inner
made (operands.New what) = Some what
made _ = None

abbrev pub is_mode : Operand → Bool
is_mode (operands.Mode access) = true
is_mode _ = false

-- the function, the hook or the overlay that an operand names
abbrev pub callee : Context → Operand → Option Signature
callee c x = option_and_then (λ (f : ℕ). slice_get c.functions f) (named_function x)

abbrev pub hook : Context → Operand → Option Signature
hook c x = option_and_then (λ (n : ℕ). slice_get c.hooks n) (hook_number x)

abbrev pub overlay : Context → Operand → Option (List OverlayField)
overlay c x =
    option_and_then (λ (n : ℕ). overlay_fields (slice_get c.declared n)) (overlay_number x)

-- the type of the field of a struct or an overlay, or of the part of a tuple
abbrev pub field_type : Context → Inner → ℕ → Option ValueType
field_type c object n =
    option_map (λ (m : Member). m.kind) (slice_get (fields_of c.declared object) n)

abbrev pub field : Context → Known → Operand → Option ValueType
field c known x = option_and_then (λ (n : ℕ).
    option_and_then (λ (o : Inner). field_type c o n) (known_object known)) (field_number x)

abbrev pub overlay_field : Known → Operand → Option ValueType
overlay_field known x = option_and_then (λ (n : ℕ).
    option_and_then (λ (fields : List OverlayField).
    option_map (λ (f : OverlayField). f.kind) (slice_get fields n)) (known_overlay known))
    (field_number x)

abbrev pub tuple_part : Known → Operand → Option ValueType
tuple_part known x = option_and_then (λ (n : ℕ).
    option_and_then (λ (t : ValueType). slice_get (parts_of t) n) (known_type known))
    (literal_number x)

-- the types of values in parentheses, and the tuple of them
abbrev pub given : Operand → ValueType
given x = unwrap_or (given_kind x) types.Bool

abbrev pub tuple_type : Operand → Option ValueType
tuple_type x = option_map (λ (items : List Operand). types.Tuple (map given items)) (grouped x)

-- a function may have to be void
abbrev pub MayBe : Callee → Signature → Type 0
MayBe callees.Any f = Unit {0}
MayBe callees.Void f = f.result ≡ None

abbrev pub AsksOwn : Context → Test → Operand → Type 0
AsksOwn c test x =
    IsSound c x × IsSomeAnd (given_kind x) (λ t. IsTrue (passes c.declared test t))

-- a value for each parameter
abbrev pub AsksArguments : Context → Known → Operand → Type 0
AsksArguments c known x =
    IsSomeAnd (known_signature known) (λ f. IsSomeAnd (grouped x) (HaveAll c f.parameters))

abbrev pub AsksSent : Context → Known → Operand → Type 0
AsksSent c known x =
    AsksArguments c known x
    × IsSomeAnd (known_signature known) (λ f. All (IsSendable c.declared) f.parameters)

-- 1 to 8 values
pub record AreParts (c : Context) (items : List Operand) : Type 0 where
  pub some : 1 ≤ length items
  pub few : length items ≤ 8
  pub sound : All (IsSound c) items

abbrev pub AsksRule : Context → Known → Operand → Type 0
AsksRule c known x =
    IsSomeAnd (known_rule known) (λ rule. IsSomeAnd (grouped x) (AllZip (Matches c) rule))

abbrev pub AsksQuery : Context → Known → Operand → Type 0
AsksQuery c known x =
    IsSomeAnd (known_rule known) (λ rule. IsSomeAnd (grouped x) (HaveAll c (map asked_for rule)))

-- what a kind asks of an operand
abbrev pub Asks : Setting → Kind → Known → Operand → Type 0
Asks s (kind.Fixed t) known x = Has s.context (plain_type t) x
Asks s kind.Sized known x = Has s.context (types.Int s.width) x
Asks s (kind.Part part) known x = HasKnown s.context (known_part part known) x
Asks s kind.Same known x = HasKnown s.context (known_type known) x
Asks s kind.Returned known x = HasKnown s.context s.context.result x
Asks s (kind.Own test) known x = AsksOwn s.context test x
Asks s (kind.Function which) known x = IsSomeAnd (callee s.context x) (MayBe which)
Asks s kind.Hook known x = IsSome (hook s.context x)
Asks s kind.Label known x = IsSomeAnd (named_block x) (λ n. n < s.context.blocks)
Asks s kind.Exception known x = IsSomeAnd (exception_number x) (λ n. n < s.context.exceptions)
Asks s kind.Overlay known x = IsSome (overlay s.context x)
Asks s kind.New known x = IsSomeAnd (made x) (λ o. IsTrue (can_be_made o))
Asks s kind.Mode known x = IsTrue (is_mode x)
Asks s kind.Index known x = IsSome (tuple_part known x)
Asks s kind.Field known x = IsSome (field s.context known x)
Asks s kind.OverlayField known x = IsSome (overlay_field known x)
Asks s kind.Arguments known x = AsksArguments s.context known x
Asks s kind.Sent known x = AsksSent s.context known x
Asks s kind.Parts known x = IsSomeAnd (grouped x) (AreParts s.context)
Asks s kind.Rule known x = AsksRule s.context known x
Asks s kind.Query known x = AsksQuery s.context known x

abbrev pub knowing : Option ValueType → Known
knowing (Some t) = Known.Of t
knowing None = Known.Nothing

abbrev pub calling : Option Signature → Known
calling (Some f) = Known.Calls f
calling None = Known.Nothing

abbrev pub reading : Option (List OverlayField) → Known
reading (Some fields) = Known.Reads fields
reading None = Known.Nothing

-- what is known behind an operand
abbrev pub learn : Setting → Kind → Known → Operand → Known
learn s (kind.Own test) known x = knowing (given_kind x)
learn s (kind.Function which) known x = calling (callee s.context x)
learn s kind.Hook known x = calling (hook s.context x)
learn s kind.Overlay known x = reading (overlay s.context x)
learn s kind.New known x = knowing (option_map types.Ref (made x))
learn s kind.Index known x = knowing (tuple_part known x)
learn s kind.Field known x = knowing (field s.context known x)
learn s kind.OverlayField known x = knowing (overlay_field known x)
learn s kind.Parts known x = knowing (tuple_type x)
learn s _ known x = known

-- a target of this type has to be there
abbrev pub Needs : Option ValueType → Option ValueType → Type 0
Needs target result = IsSomeAnd target (λ t. result ≡ Some t)

-- a target of this type may be there
abbrev pub MayTake : Option ValueType → Option ValueType → Type 0
MayTake target result = IfSome target (λ t. result ≡ Some t)

abbrev pub called_result : Known → Option ValueType
called_result known = option_and_then (λ (f : Signature). f.result) (known_signature known)

-- the rule of the target
abbrev pub Gets : Setting → Gives → Known → Type 0
Gets s gives.Nothing known = s.target ≡ None
Gets s (gives.Fixed t) known = s.target ≡ Some (plain_type t)
Gets s gives.Sized known = s.target ≡ Some (types.Int s.width)
Gets s gives.Same known = Needs s.target (known_type known)
Gets s (gives.Part part) known = Needs s.target (known_part part known)
Gets s gives.Popped known = MayTake s.target (known_part parts.First known)
Gets s gives.Iterator known = Needs s.target (option_map types.Iter (known_object known))
Gets s gives.Item known =
    Needs s.target (option_and_then item_of (option_and_then iterated (known_type known)))
Gets s gives.Called known = MayTake s.target (called_result known)
Gets s gives.AnyInt known = IsSomeAnd s.target (λ t. IsTrue (is_int (out-ValueType t)))

-- operands and a target that fit kinds and a result, behind what is known
unfoldable pub Fit : Setting → Gives → List Kind → Known → List Operand → Type 0
Fit s rule [] known [] = Gets s rule known
Fit s rule [] known (x ∷ more) = ⊥
Fit s rule (asked ∷ others) known [] = ⊥
Fit s rule (asked ∷ others) known (x ∷ more) =
    Asks s asked known x × Fit s rule others (learn s asked known x) more

-- the bodies that an instruction may stand in
abbrev pub Stands : Context → Flow → Type 0
Stands c (flows.Leaves bodies.Void) = c.result ≡ None
Stands c (flows.Leaves bodies.Result) = IsSome c.result
Stands c (flows.Leaves bodies.Hook) = c.in_hook ≡ true
Stands c _ = Unit {0}

-- operands and a target that fit a row
pub record FitsRow (s : Setting) (row : Row) (items : List Operand) : Type 0 where
  pub counted : IsCount row.takes (length items)
  pub fit : Fit s row.gives (kinds row.takes (length items)) Known.Nothing items
  pub stands : Stands s.context row.flow

-- the width of a line's numbers: that of its first operand that is a variable of an int type,
-- else of its target, else 64
abbrev pub int_width : Option ValueType → Option ℕ
int_width (Some (types.Int bits)) = Some bits
int_width _ = None

abbrev pub variable_width : Operand → Option ℕ
variable_width (operands.Var v t) = int_width (Some t)
variable_width _ = None

unfoldable pub first_width : List Operand → Option ℕ
first_width [] = None
first_width (x ∷ more) = option_or (variable_width x) (first_width more)

abbrev pub width_of : Option ValueType → List Operand → ℕ
width_of target items = unwrap_or (option_or (first_width items) (int_width target)) 64

abbrev pub setting : Context → Option ValueType → List Operand → Setting
setting c target items = record { context = c; target = target; width = width_of target items }

-- a typed line of a body: its operands and the type of its target fit the row of its mnemonic
abbrev pub IsTypedLine : Context → Op → Option ValueType → List Operand → Type 0
IsTypedLine c op target items = FitsRow (setting c target items) (line_of op).row items
