-- The texts of value trees.
use Rattle.std.specs.Prelude.{ℕ, ◌+◌, ◌==◌, if◌then◌else◌, Bool, true, false}
use Rattle.std.specs.Prelude.{List, [], ◌∷◌, ◌++◌, length, flat_map, slice_get, codes}
use Rattle.std.specs.Prelude.{Option, Some, None}
use Rattle.std.specs.Fmt.{decimal}
use Rattle.std.specs.Option.{option_map, unwrap_or}
use Rattle.hilti_tree.specs.declared.tree.Tree.{Tree, out-Tree}
use Rattle.hilti_tree.specs.declared.tree.Tree.TheOpen.{Tree-F}
use Rattle.hilti_tree.specs.declared.tree.Tree.TheFolds.{fold-Tree}
use Rattle.hilti_types.specs.declared.declared.Declared.{Declared}
use Rattle.hilti_types.specs.declared.declared.Member.{Member}
use Rattle.hilti_types.specs.declared.value_type.Inner.{Inner, out-Inner}
use Rattle.hilti_types.specs.declared.value_type.Inner.TheOpen.{Inner-F, ValueType-F}
use Rattle.hilti_types.specs.declared.value_type.ValueType.{ValueType, out-ValueType}
use Rattle.hilti_print.specs.Addresses.{address_text, net_text, port_text}
use Rattle.hilti_print.specs.Texts.{moment_text, escaped_text}

-- what is known of the type of a tree
abbrev pub Shape : Type 0
Shape = Option ValueType

-- the object that a type refers to
abbrev pub object_in : ValueType-F Inner ValueType → Option Inner
object_in (ValueType-F.Ref to) = Some to
object_in _ = None

abbrev pub object_of : Shape → Option Inner
object_of (Some t) = object_in (out-ValueType t)
object_of None = None

-- the type of the items of a list or a vector, or of the keys of a set
abbrev pub item_in : Inner-F Inner ValueType → Shape
item_in (Inner-F.List item) = Some item
item_in (Inner-F.Vector item) = Some item
item_in (Inner-F.Set item) = Some item
item_in _ = None

abbrev pub items_of : Option Inner → Shape
items_of (Some object) = item_in (out-Inner object)
items_of None = None

abbrev pub item_shape : Shape → Shape
item_shape shape = items_of (object_of shape)

-- the type of the keys of a map, and that of its values
abbrev pub key_in : Inner-F Inner ValueType → Shape
key_in (Inner-F.Map key value) = Some key
key_in _ = None

abbrev pub keys_of : Option Inner → Shape
keys_of (Some object) = key_in (out-Inner object)
keys_of None = None

abbrev pub key_shape : Shape → Shape
key_shape shape = keys_of (object_of shape)

abbrev pub value_in : Inner-F Inner ValueType → Shape
value_in (Inner-F.Map key value) = Some value
value_in _ = None

abbrev pub values_of : Option Inner → Shape
values_of (Some object) = value_in (out-Inner object)
values_of None = None

abbrev pub value_shape : Shape → Shape
value_shape shape = values_of (object_of shape)

-- the types of the parts of a tuple
abbrev pub parts_in : ValueType-F Inner ValueType → List ValueType
parts_in (ValueType-F.Tuple parts) = parts
parts_in _ = []

abbrev pub part_shapes : Shape → List ValueType
part_shapes (Some t) = parts_in (out-ValueType t)
part_shapes None = []

-- the words of an enum
abbrev pub declared_words : Option Declared → List (List ℕ)
declared_words (Some (Declared.Enum name words)) = words
declared_words _ = []

abbrev pub words_in : List Declared → ValueType-F Inner ValueType → List (List ℕ)
words_in types (ValueType-F.Enum n) = declared_words (slice_get types n)
words_in types _ = []

abbrev pub words_of : List Declared → Shape → List (List ℕ)
words_of types (Some t) = words_in types (out-ValueType t)
words_of types None = []

-- the fields of a struct
abbrev pub declared_members : Option Declared → List Member
declared_members (Some (Declared.Struct name fields)) = fields
declared_members _ = []

abbrev pub members_in : List Declared → Inner-F Inner ValueType → List Member
members_in types (Inner-F.Struct n) = declared_members (slice_get types n)
members_in types _ = []

abbrev pub members_over : List Declared → Option Inner → List Member
members_over types (Some object) = members_in types (out-Inner object)
members_over types None = []

abbrev pub members_of : List Declared → Shape → List Member
members_of types shape = members_over types (object_of shape)

-- a name, or the place of what has none
abbrev pub named : Option (List ℕ) → ℕ → List ℕ
named (Some (byte ∷ bytes)) place = byte ∷ bytes
named _ place = decimal place

-- texts with a comma and a space between them
abbrev pub commas : List (List ℕ) → List ℕ
commas [] = []
commas (text ∷ more) = text ++ flat_map (λ text. codes ", " ++ text) more

-- what stands before an item at a place
abbrev pub before : ℕ → List ℕ
before at = if at == 0 then [] else codes ", "

-- the texts of items, each from its place and itself, from a place on
abbrev pub placed : {A : Type 0} → (ℕ → A → List ℕ) → ℕ → List A → List (List ℕ)
placed text at [] = []
placed text at (item ∷ items) = text at item ∷ placed text (at + 1) items

abbrev pub listed : {A : Type 0} → (ℕ → A → List ℕ) → List A → List ℕ
listed text items = commas (placed text 0 items)

-- a tree of a type as it stands within another
abbrev pub Text : Type 0
Text = Shape → List ℕ

abbrev pub part_text : List ValueType → ℕ → Text → List ℕ
part_text shapes at part = part (slice_get shapes at)

abbrev pub item_text : Shape → ℕ → Text → List ℕ
item_text shape at item = item shape

abbrev pub field_text : List Member → ℕ → Text → List ℕ
field_text members at field =
    named (option_map (λ member. member.name) (slice_get members at)) at ++ codes "="
    ++ field (option_map (λ member. member.kind) (slice_get members at))

abbrev pub value_at : List Text → Shape → ℕ → List ℕ
value_at values shape at = unwrap_or (option_map (λ value. value shape) (slice_get values at)) []

abbrev pub entry_text : Shape → List Text → ℕ → Text → List ℕ
entry_text shape values at key =
    key (key_shape shape) ++ codes ": " ++ value_at values (value_shape shape) at

abbrev pub truth_text : Bool → List ℕ
truth_text true = codes "True"
truth_text false = codes "False"

-- bytes with their escapes, between quotes
abbrev pub quoted_text : List ℕ → List ℕ
quoted_text bytes = 34 ∷ escaped_text bytes ++ 34 ∷ []

-- the texts of the trees in it stand in their places
abbrev pub value_step : List Declared → Tree-F Text → Text
value_step types (Tree-F.Bool value) shape = truth_text value
value_step types (Tree-F.Int n) shape = decimal n
value_step types (Tree-F.Text bytes) shape = quoted_text bytes
value_step types (Tree-F.Bytes bytes) shape = quoted_text bytes
value_step types (Tree-F.Addr address) shape = address_text address
value_step types (Tree-F.Net address length) shape = net_text address length
value_step types (Tree-F.Port number is_udp) shape = port_text number is_udp
value_step types (Tree-F.Time nanos) shape = moment_text nanos
value_step types (Tree-F.Span nanos) shape = moment_text nanos
value_step types (Tree-F.Pick n) shape = named (slice_get (words_of types shape) n) n
value_step types Tree-F.Null shape = codes "Null"
value_step types Tree-F.Unset shape = codes "unset"
value_step types (Tree-F.Tuple parts) shape =
    codes "(" ++ listed (part_text (part_shapes shape)) parts ++ codes ")"
value_step types (Tree-F.List items) shape =
    codes "[" ++ listed (item_text (item_shape shape)) items ++ codes "]"
value_step types (Tree-F.Vector items) shape =
    codes "[" ++ listed (item_text (item_shape shape)) items ++ codes "]"
value_step types (Tree-F.Set keys) shape =
    codes "{" ++ listed (item_text (item_shape shape)) keys ++ codes "}"
value_step types (Tree-F.Map keys values) shape =
    codes "{" ++ listed (entry_text shape values) keys ++ codes "}"
value_step types (Tree-F.Fields fields) shape =
    codes "<" ++ listed (field_text (members_of types shape)) fields ++ codes ">"
value_step types (Tree-F.Rules fields priorities values compiled) shape =
    codes "classifier(" ++ decimal (length fields) ++ codes ")"

-- a tree as it stands within another; where its type doesn't name its parts, their places do
abbrev pub value_text : List Declared → Tree → Text
value_text types = fold-Tree Text (value_step types)

-- a string and bytes have no quotes where they stand alone
abbrev pub alone : Tree-F Tree → List ℕ → List ℕ
alone (Tree-F.Text bytes) text = escaped_text bytes
alone (Tree-F.Bytes bytes) text = escaped_text bytes
alone _ text = text

-- a tree of a type as `print` shows it
abbrev pub tree_text : List Declared → ValueType → Tree → List ℕ
tree_text types shape tree = alone (out-Tree tree) (value_text types tree (Some shape))
