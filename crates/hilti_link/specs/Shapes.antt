-- What declared types are.
use Rattle.std.specs.Prelude.{ℕ, ◌+◌, nat_lt, List, [], cond, map, codes, Option, Some, None}
use Rattle.std.specs.Prelude.{Result, Ok, Err}
use Rattle.std.specs.Option.{option_or}
use Rattle.hilti_base.specs.declared.names.Place.{Place}
use Rattle.hilti_base.specs.declared.refusal.Refusal.{Refusal}
use Rattle.hilti_base.specs.declared.refusal.Refusal.TheVariants.{At}
use Rattle.hilti_module.specs.declared.types.Name.{Name}
use Rattle.hilti_module.specs.declared.types.Word.{Word}
use Rattle.hilti_module.specs.declared.module.Parameter.{Parameter}
use Rattle.hilti_module.specs.declared.module.Field.{Field}
use Rattle.hilti_module.specs.declared.module.Form.{Form}
use Rattle.hilti_module.specs.declared.module.Form.TheVariants as forms
use Rattle.hilti_module.specs.declared.module.Shape.{Shape}
use Rattle.hilti_module.specs.declared.module.Shape.TheVariants as shapes
use Rattle.hilti_types.specs.declared.declared.Member.{Member}
use Rattle.hilti_types.specs.declared.declared.OverlayField.{OverlayField}
use Rattle.hilti_types.specs.declared.value_type.ValueType.{ValueType}
use Rattle.hilti_types.specs.Depths.{greatest}
use Rattle.hilti_scope.specs.declared.meaning.Meaning.{Meaning}
use Rattle.hilti_scope.specs.declared.meaning.Meaning.TheVariants as means
use Rattle.hilti_scope.specs.Meanings.{is_among}
use Rattle.hilti_resolve.specs.declared.form.FieldForm.{FieldForm}
use Rattle.hilti_resolve.specs.Forms.{form_of}
use Rattle.hilti_resolve.specs.Names.{first_unknown}
use Rattle.hilti_resolve.specs.Values.{value_of}
use Rattle.hilti_link.specs.declared.typed_words.Role.TheVariants as roles
use Rattle.hilti_link.specs.InTurn.{first_in_turn}
use Rattle.hilti_link.specs.Seeing.{View, refusal_of_type, type_at, depth_at, again, taking}
use Rattle.hilti_link.specs.TypedWords.{words_refusal}

-- a struct is 1 deeper than its deepest field, and refused at its word where that is more than 16
abbrev pub struct_depth : View → List Parameter → ℕ
struct_depth view fields = 1 + greatest (map (λ field. depth_at view field.kind) fields)

abbrev pub deep_struct : View → Place → List Parameter → Option Refusal
deep_struct view place fields =
    cond (nat_lt 16 (struct_depth view fields)) (Some (At place 26)) None

-- a constant is refused where it stands again
abbrev pub constant_refusal : List (List ℕ) → Word → Option Refusal
constant_refusal taken word = again (is_among taken word.bytes) word

abbrev pub constants_refusal : List Word → Option Refusal
constants_refusal words = first_in_turn constant_refusal taking [] words

abbrev pub no_form : Option FieldForm → Place → Option Refusal
no_form None place = Some (At place 25)
no_form (Some form) place = None

-- a field is refused at its name where its type breaks the rules of types or isn't its form's;
-- where a name in its type means nothing, neither is looked at
abbrev pub form_refusal : Option Place → Result ValueType Place → Form → Place → Option Refusal
form_refusal None (Ok kind) form place = no_form (form_of kind form) place
form_refusal None (Err broken) form place = Some (At place 25)
form_refusal (Some unknown) value form place = None

abbrev pub field_refusal : View → List (List ℕ) → Field → Option Refusal
field_refusal view taken field =
    let unknown = first_unknown view.mean field.kind in
    let value = value_of view.tables.types view.mean field.kind in
    option_or (again (is_among taken field.name.bytes) field.name)
    (option_or (form_refusal unknown value field.form field.name.place)
    (refusal_of_type view field.kind))

abbrev pub taking_field : List (List ℕ) → Field → List (List ℕ)
taking_field taken field = taking taken field.name

abbrev pub fields_refusal : View → List Field → Option Refusal
fields_refusal view fields = first_in_turn (field_refusal view) taking_field [] fields

-- a parent is an exception that is declared in front
abbrev pub parent_meant : Meaning → Place → Option Refusal
parent_meant means.Nothing place = Some (At place 21)
parent_meant (means.Exception n) place = None
parent_meant _ place = Some (At place 25)

abbrev pub parent_refusal_by : (Name → Meaning) → Option Name → Option Refusal
parent_refusal_by mean None = None
parent_refusal_by mean (Some name) = parent_meant (mean name) name.first.place

abbrev pub parent_refusal : View → Option Name → Option Refusal
parent_refusal view parent = parent_refusal_by view.mean parent

abbrev pub shape_refusal : View → Shape → Option Refusal
shape_refusal view (shapes.Struct place fields) =
    option_or (deep_struct view place fields) (words_refusal view roles.Member fields)
shape_refusal view (shapes.Enum place words) = constants_refusal words
shape_refusal view (shapes.Overlay place fields) = fields_refusal view fields
shape_refusal view (shapes.Exception place parent) = parent_refusal view parent

-- the fields of structs and overlays, as the table has them
abbrev pub member_of : View → Parameter → Member
member_of view field = record { name = field.name.bytes; kind = type_at view field.kind }

abbrev pub form_word : Form → List ℕ
form_word (forms.Bytes place length) = codes "Bytes"
form_word (forms.Word word bits) = word.bytes

abbrev pub or_no_form : Option FieldForm → FieldForm
or_no_form None = record { size = 0; bits = None }
or_no_form (Some form) = form

abbrev pub overlay_field_by : Field → ValueType → OverlayField
overlay_field_by field kind =
    let form = or_no_form (form_of kind field.form) in
    record {
      name = field.name.bytes;
      kind = kind;
      offset = field.offset.value;
      form = form_word field.form;
      size = form.size;
      bits = form.bits;
    }

abbrev pub overlay_field_of : View → Field → OverlayField
overlay_field_of view field = overlay_field_by field (type_at view field.kind)

-- the number of an exception's parent; without a parent it stands below `Exception`
abbrev pub exception_number : Meaning → ℕ
exception_number (means.Exception n) = n
exception_number _ = 0

abbrev pub parent_by : (Name → Meaning) → Option Name → ℕ
parent_by mean None = 0
parent_by mean (Some name) = exception_number (mean name)

abbrev pub parent_of : View → Option Name → ℕ
parent_of view parent = parent_by view.mean parent
