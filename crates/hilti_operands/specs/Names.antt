-- What written names stand for.
use Rattle.std.specs.Prelude.{ℕ, ◌+◌, nat_lt, Bool, true, false, not, ◌&&◌, cond, List, [], length}
use Rattle.std.specs.Prelude.{codes, bytes_eq, slice_get, Option, Some, None, is_some, ok_or}
use Rattle.std.specs.Prelude.{Result, Ok, Err}
use Rattle.std.specs.List.{position}
use Rattle.hilti_base.specs.declared.names.Place.{Place}
use Rattle.hilti_base.specs.declared.refusal.Refusal.{Refusal}
use Rattle.hilti_base.specs.declared.refusal.Refusal.TheVariants.{At}
use Rattle.hilti_types.specs.declared.declared.Declared.{Declared}
use Rattle.hilti_types.specs.declared.declared.Member.{Member}
use Rattle.hilti_types.specs.declared.declared.OverlayField.{OverlayField}
use Rattle.hilti_types.specs.declared.value_type.Inner.{Inner}
use Rattle.hilti_types.specs.declared.value_type.Inner.TheVariants as inners
use Rattle.hilti_types.specs.declared.value_type.ValueType.{ValueType}
use Rattle.hilti_types.specs.declared.value_type.ValueType.TheVariants as types
use Rattle.hilti_tree.specs.declared.tree.Tree.TheVariants as trees
use Rattle.hilti_module.specs.declared.types.Number.{Number}
use Rattle.hilti_module.specs.declared.types.Word.{Word}
use Rattle.hilti_module.specs.declared.module.Literal.TheVariants as literals
use Rattle.hilti_module.specs.declared.module.Simple.{Simple}
use Rattle.hilti_module.specs.declared.module.Simple.TheVariants as simples
use Rattle.hilti_scope.specs.declared.meaning.Meaning.{Meaning}
use Rattle.hilti_scope.specs.declared.meaning.Meaning.TheVariants as means
use Rattle.hilti_resolve.specs.Containers.{container_start, container_refusal}
use Rattle.hilti_resolve.specs.Values.{container_value_of}
use Rattle.hilti_link.specs.declared.tables.LinkedFunction.{LinkedFunction}
use Rattle.hilti_link.specs.declared.tables.LinkedHook.{LinkedHook}
use Rattle.hilti_table.specs.declared.row.Callee.{Callee}
use Rattle.hilti_table.specs.declared.row.Callee.TheVariants as callees
use Rattle.hilti_parts.specs.declared.parts.Operand.{Operand}
use Rattle.hilti_parts.specs.declared.parts.Operand.TheVariants as operands
use Rattle.hilti_typing.specs.Context.{Known}
use Rattle.hilti_typing.specs.Fits.{known_type, known_object, known_overlay}
use Rattle.hilti_typing.specs.Types.{overlay_fields, fields_of, parts_of}
use Rattle.hilti_operands.specs.Answers.{refused, if_passes}
use Rattle.hilti_operands.specs.Seen.{BodySeen}
use Rattle.hilti_operands.specs.Values.{wrong}

-- what a name means, and nothing where the operand is no name
abbrev pub meaning_of : BodySeen → Simple → Meaning
meaning_of body (simples.Name name) = body.mean name
meaning_of body _ = means.Nothing

-- an operand that names something of a kind
abbrev pub named : BodySeen → Option Operand → Simple → Result Operand Refusal
named body meant simple = ok_or meant (wrong body simple)

abbrev pub read_named : BodySeen → (Meaning → Option Operand) → Simple → Result Operand Refusal
read_named body meant simple = named body (meant (meaning_of body simple)) simple

-- a function that is no hook body, and may have to be void
abbrev pub may_be : Callee → Option ValueType → Bool
may_be callees.Any result = true
may_be callees.Void result = not (is_some result)

abbrev pub may_be_named : Callee → LinkedFunction → Bool
may_be_named which f = not (is_some f.hook) && may_be which f.result

abbrev pub function_at : Callee → ℕ → Option LinkedFunction → Option Operand
function_at which n None = None
function_at which n (Some f) =
    cond (may_be_named which f) (Some (operands.Function (record { n = n }))) None

abbrev pub function_meant : BodySeen → Callee → Meaning → Option Operand
function_meant body which (means.Function n) =
    function_at which n (slice_get body.tables.functions n)
function_meant body which _ = None

-- a hook
abbrev pub hook_at : ℕ → Option LinkedHook → Option Operand
hook_at n None = None
hook_at n (Some hook) = Some (operands.Hook n)

abbrev pub hook_meant : BodySeen → Meaning → Option Operand
hook_meant body (means.Hook n) = hook_at n (slice_get body.tables.hooks n)
hook_meant body _ = None

-- an exception: the seven built-in ones come first
abbrev pub exception_meant : BodySeen → Meaning → Option Operand
exception_meant body (means.Exception n) =
    cond (nat_lt n (7 + length body.tables.exceptions)) (Some (operands.Exception n)) None
exception_meant body _ = None

-- an overlay
abbrev pub overlay_at : ℕ → Option (List OverlayField) → Option Operand
overlay_at n None = None
overlay_at n (Some fields) = Some (operands.Overlay n)

abbrev pub overlay_meant : BodySeen → Meaning → Option Operand
overlay_meant body (means.Overlay n) = overlay_at n (overlay_fields (slice_get body.tables.types n))
overlay_meant body _ = None

-- the type of an object that can be made: a struct, a container or a timer manager
abbrev pub struct_meant : Meaning → Option Operand
struct_meant (means.Struct n) = Some (operands.New (inners.Struct n))
struct_meant _ = None

abbrev pub container_made : Place → Option Refusal → Result Inner Place → Result Operand Refusal
container_made start (Some refusal) object = Err refusal
container_made start None (Ok object) = Ok (operands.New object)
container_made start None (Err place) = refused start 30

abbrev pub read_new : BodySeen → Simple → Result Operand Refusal
read_new body (simples.Container container) =
    container_made (container_start container)
    (container_refusal body.tables.types body.mean container)
    (container_value_of body.tables.types body.mean container)
read_new body (simples.Manager place) = Ok (operands.New inners.Manager)
read_new body simple = read_named body struct_meant simple

-- a label of the body; one that means nothing is refused at its word
abbrev pub block_at : ℕ → Option ℕ → Option Operand
block_at blocks None = None
block_at blocks (Some n) = cond (nat_lt n blocks) (Some (operands.Block n)) None

abbrev pub read_label : BodySeen → Simple → Result Operand Refusal
read_label body (simples.Label place name) =
    ok_or (block_at body.blocks (body.label name.bytes)) (At name.place 21)
read_label body simple = Err (wrong body simple)

-- an operand of one word; such a word is refused with code 30 alone
abbrev pub alone : Word → Option Word → Option Word
alone first None = Some first
alone first (Some second) = None

abbrev pub one_word : Simple → Option Word
one_word (simples.Name name) = alone name.first name.second
one_word _ = None

abbrev pub word_meant :
    BodySeen → (List ℕ → Option Operand) → Option Word → Simple → Result Operand Refusal
word_meant body meant (Some word) simple = ok_or (meant word.bytes) (At word.place 30)
word_meant body meant None simple = Err (wrong body simple)

abbrev pub read_word : BodySeen → (List ℕ → Option Operand) → Simple → Result Operand Refusal
read_word body meant simple = word_meant body meant (one_word simple) simple

-- `Create` or `Access`
abbrev pub mode_meant : List ℕ → Option Operand
mode_meant word =
    cond (bytes_eq word (codes "Create")) (Some (operands.Mode false))
    (cond (bytes_eq word (codes "Access")) (Some (operands.Mode true)) None)

-- a field of the known struct
abbrev pub members : List Declared → Option Inner → List Member
members table None = []
members table (Some object) = fields_of table object

abbrev pub field_at : Option ℕ → Option Operand
field_at None = None
field_at (Some n) = Some (operands.Field n)

unfoldable pub member_place : List Member → List ℕ → Option ℕ
member_place fields word = position (λ (m : Member). bytes_eq m.name word) fields

abbrev pub field_meant : List Member → List ℕ → Option Operand
field_meant fields word = field_at (member_place fields word)

abbrev pub read_field : BodySeen → Known → Simple → Result Operand Refusal
read_field body known simple =
    read_word body (field_meant (members body.tables.types (known_object known))) simple

-- a field of the known overlay
abbrev pub read_fields : Option (List OverlayField) → List OverlayField
read_fields None = []
read_fields (Some fields) = fields

unfoldable pub field_place : List OverlayField → List ℕ → Option ℕ
field_place fields word = position (λ (f : OverlayField). bytes_eq f.name word) fields

abbrev pub overlay_field_meant : List OverlayField → List ℕ → Option Operand
overlay_field_meant fields word = field_at (field_place fields word)

abbrev pub read_overlay_field : BodySeen → Known → Simple → Result Operand Refusal
read_overlay_field body known simple =
    read_word body (overlay_field_meant (read_fields (known_overlay known))) simple

-- the place of a part of the known tuple, as a number; one that isn't below their count is refused
-- with code 36
abbrev pub known_parts : Option ValueType → List ValueType
known_parts None = []
known_parts (Some kind) = parts_of kind

abbrev pub number_below : Number → ℕ → Result Operand Refusal
number_below number count =
    if_passes (nat_lt number.value count)
    (operands.Literal (types.Int 64) (trees.Int number.value)) (At number.place 36)

abbrev pub read_index : BodySeen → Known → Simple → Result Operand Refusal
read_index body known (simples.Literal (literals.Number number)) =
    number_below number (length (known_parts (known_type known)))
read_index body known simple = Err (wrong body simple)
