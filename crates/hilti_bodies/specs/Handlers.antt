-- What handlers stand for.
use Rattle.std.specs.Prelude.{ℕ, ◌+◌, nat_lt, nat_le, Bool, true, false, ◌&&◌, cond, length}
use Rattle.std.specs.Prelude.{slice_get, Option, Some, None, ok_or, Result, Ok}
use Rattle.hilti_base.specs.declared.refusal.Refusal.{Refusal}
use Rattle.hilti_base.specs.declared.refusal.Refusal.TheVariants.{At}
use Rattle.hilti_types.specs.declared.value_type.ValueType.{ValueType}
use Rattle.hilti_types.specs.declared.value_type.ValueType.TheVariants as types
use Rattle.hilti_module.specs.declared.types.Name.{Name}
use Rattle.hilti_module.specs.declared.types.Word.{Word}
use Rattle.hilti_module.specs.declared.module.Handler.{Handler as Written}
use Rattle.hilti_scope.specs.declared.meaning.Meaning.{Meaning}
use Rattle.hilti_scope.specs.declared.meaning.Meaning.TheVariants as means
use Rattle.hilti_link.specs.declared.tables.LinkedFunction.{LinkedFunction}
use Rattle.hilti_parts.specs.declared.parts.Handler.{Handler}
use Rattle.hilti_operands.specs.Answers.{then_read}
use Rattle.hilti_operands.specs.Seen.{BodySeen}
use Rattle.hilti_operands.specs.Values.{name_code}

-- the exception that is caught: there are seven built-in ones
abbrev pub caught : ℕ → Meaning → Option ℕ
caught declared (means.Exception n) = cond (nat_lt n (7 + declared)) (Some n) None
caught declared _ = None

abbrev pub read_caught : BodySeen → Name → Result ℕ Refusal
read_caught body name =
    let meaning = body.mean name in
    ok_or (caught (length body.tables.exceptions) meaning) (At name.first.place (name_code meaning))

-- the block that a label of the body means
abbrev pub read_block_of : BodySeen → Word → Result ℕ Refusal
read_block_of body label = ok_or (body.label label.bytes) (At label.place 21)

-- the slot of the text: a local of type string, which is no parameter
abbrev pub is_text : Option ValueType → Bool
is_text (Some types.Text) = true
is_text _ = false

abbrev pub is_text_local : LinkedFunction → ℕ → Bool
is_text_local function slot =
    nat_le function.parameters slot && is_text (slice_get function.slots slot)

abbrev pub text_slot : LinkedFunction → Meaning → Option ℕ
text_slot function (means.Local slot) = cond (is_text_local function slot) (Some slot) None
text_slot function _ = None

abbrev pub plain : Word → Name
plain word = record { first = word; second = None }

abbrev pub read_slot : BodySeen → Word → Result ℕ Refusal
read_slot body word =
    let meaning = body.mean (plain word) in
    ok_or (text_slot body.function meaning) (At word.place (name_code meaning))

-- a handler: first its exception is looked at, then its block, then its slot
abbrev pub read_handler : BodySeen → Written → Result Handler Refusal
read_handler body handler =
    then_read (read_caught body handler.exception)
    (λ (exception : ℕ). then_read (read_block_of body handler.target)
    (λ (block : ℕ). then_read (read_slot body handler.slot)
    (λ (slot : ℕ). Ok (record { exception = exception; block = block; slot = slot }))))
