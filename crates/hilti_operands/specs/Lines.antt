-- What the operands of a line stand for, one after another.
use Rattle.std.specs.Prelude.{◌≡◌, ℕ, Bool, true, false, cond, List, [], ◌∷◌, ◌++◌}
use Rattle.std.specs.Prelude.{Option, Some, None, Result, Ok, IfOk}
use Rattle.std.specs.Option.{option_or, unwrap_or}
use Rattle.hilti_base.specs.declared.names.Place.{Place}
use Rattle.hilti_base.specs.declared.refusal.Refusal.{Refusal}
use Rattle.hilti_types.specs.declared.declared.Declared.{Declared}
use Rattle.hilti_types.specs.declared.value_type.ValueType.{ValueType}
use Rattle.hilti_module.specs.declared.module.Operand.{Operand as Written}
use Rattle.hilti_module.specs.declared.module.Operand.TheVariants as written
use Rattle.hilti_module.specs.declared.module.Simple.TheVariants as simples
use Rattle.hilti_table.specs.declared.row.Kind.{Kind}
use Rattle.hilti_table.specs.declared.row.Kind.TheVariants as kinds
use Rattle.hilti_table.specs.declared.row.Test.{Test}
use Rattle.hilti_table.specs.declared.row.Test.TheVariants as tests
use Rattle.hilti_parts.specs.declared.parts.Operand.{Operand}
use Rattle.hilti_typing.specs.Context.{Known}
use Rattle.hilti_typing.specs.Fits.{learn, int_width}
use Rattle.hilti_typing.specs.Types.{passes}
use Rattle.hilti_operands.specs.Answers.{then_read, refused}
use Rattle.hilti_operands.specs.Operands.{read_operand}
use Rattle.hilti_operands.specs.Seen.{BodySeen, LineSeen, setting, known_of}
use Rattle.hilti_operands.specs.declared.known.Known.{Known as Kept}
use Rattle.hilti_operands.specs.declared.lines.ReadOperands.{ReadOperands}
use Rattle.hilti_operands.specs.Values.{given, kind_given}

-- operands of a line, and what is known behind them
pub record Read : Type 0 where
  pub operands : List Operand
  pub known : Known

abbrev pub in_front : Operand → Read → Read
in_front x others = record { operands = x ∷ others.operands; known = others.known }

-- the operands of a line, from left to right, each behind what those in front of it tell; there is
-- one for each kind
unfoldable pub read_all : LineSeen → List Kind → Known → List Written → Result Read Refusal
read_all line [] known [] = Ok (record { operands = []; known = known })
read_all line [] known (x ∷ more) = refused line.mnemonic 31
read_all line (kind ∷ others) known [] = refused line.mnemonic 31
read_all line (kind ∷ others) known (x ∷ more) =
    then_read (read_operand line kind known x)
    (λ (first : Operand). then_read
    (read_all line others (learn (setting line) kind known first) more)
    (λ (rest : Read). Ok (in_front first rest)))

-- what the code holds of operands that were read
abbrev pub so_far : BodySeen → List Operand → Kept → Read
so_far body operands known = record { operands = operands; known = known_of body known }

abbrev pub read_of : BodySeen → ReadOperands → Read
read_of body read = so_far body read.operands read.known

-- an answer that is known, seen from a body, is this
abbrev pub Knows : {E : Type 0} → BodySeen → Result Kept E → Known → Type 0
Knows body result told = IfOk result (λ (known : Kept). known_of body known ≡ told)

-- and so is what was known before, where nothing else is told
abbrev pub told_or : BodySeen → Known → Option Kept → Known
told_or body before None = before
told_or body before (Some known) = known_of body known

abbrev pub Tells : {E : Type 0} → BodySeen → Known → Result (Option Kept) E → Known → Type 0
Tells body before result told =
    IfOk result (λ (known : Option Kept). told_or body before known ≡ told)

-- one operand more
abbrev pub with_next : LineSeen → Kind → Operand → Read → Read
with_next line kind x read = record {
  operands = read.operands ++ x ∷ [];
  known = learn (setting line) kind read.known x;
}

abbrev pub with_read : LineSeen → Kind → Read → Written → Result Read Refusal
with_read line kind read x =
    then_read (read_operand line kind read.known x)
    (λ (first : Operand). Ok (with_next line kind first read))

-- whether a kind asks for a value
abbrev pub asks_value : Kind → Bool
asks_value (kinds.Fixed plain) = true
asks_value kinds.Sized = true
asks_value (kinds.Part part) = true
asks_value kinds.Same = true
asks_value kinds.Returned = true
asks_value (kinds.Own test) = true
asks_value _ = false

-- the type of an operand that is a variable, where a value is asked
abbrev pub variable_written : BodySeen → Written → Option ValueType
variable_written body (written.Simple (simples.Name name)) = kind_given (given body name)
variable_written body _ = None

abbrev pub written_type : BodySeen → Kind → Written → Option ValueType
written_type body kind x = cond (asks_value kind) (variable_written body x) None

-- a type that is there and passes a test
abbrev pub if_passing : List Declared → Test → Option ValueType → Option ValueType
if_passing table test None = None
if_passing table test (Some kind) = cond (passes table test kind) (Some kind) None

-- the type of the first operand that is a variable of a type that passes a test
unfoldable pub first_variable :
    BodySeen → Test → List Kind → List Written → Option ValueType
first_variable body test [] items = None
first_variable body test (kind ∷ others) [] = None
first_variable body test (kind ∷ others) (x ∷ more) =
    option_or (if_passing body.tables.types test (written_type body kind x))
    (first_variable body test others more)

-- the width of a line: that of the first operand that is a variable of an int type, else that of
-- the target, else 64
abbrev pub written_width : BodySeen → Option ValueType → List Kind → List Written → ℕ
written_width body target kinds items =
    unwrap_or (int_width (option_or (first_variable body tests.Int kinds items) target)) 64

-- the type of Null where no other is asked: that of the first operand that is a variable of a type
-- with Null, else that of the target
abbrev pub written_null :
    BodySeen → Option ValueType → List Kind → List Written → Option ValueType
written_null body target kinds items =
    option_or (first_variable body tests.Nullable kinds items) target

-- a line with these operands
abbrev pub line_with :
    BodySeen → Place → Option ValueType → List Kind → List Written → LineSeen
line_with body mnemonic target kinds items = record {
  body = body;
  mnemonic = mnemonic;
  target = target;
  width = written_width body target kinds items;
  null = written_null body target kinds items;
}
