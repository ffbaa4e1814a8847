-- What is so of all operands that are read.
use Rattle.std.specs.Prelude.{◌≡◌, ℕ, List, length, take, slice_get, Option, Some, None, IsSome}
use Rattle.std.specs.Prelude.{IsSomeAnd, IfSome, Ok, Err}
use Rattle.std.specs.List.{AllByRecursion}
use Rattle.hilti_base.specs.declared.names.Place.{Place}
use Rattle.hilti_base.specs.declared.refusal.Refusal.{Refusal}
use Rattle.hilti_link.specs.declared.tables.Tables.{Tables}
use Rattle.hilti_types.specs.declared.value_type.ValueType.{ValueType}
use Rattle.hilti_module.specs.declared.module.Operand.{Operand as Written}
use Rattle.hilti_table.specs.declared.row.Gives.{Gives}
use Rattle.hilti_table.specs.declared.row.Kind.{Kind}
use Rattle.hilti_table.specs.declared.row.Kind.TheVariants as kinds
use Rattle.hilti_parts.specs.declared.parts.Operand.{Operand}
use Rattle.hilti_parts.specs.Named.{named_function}
use Rattle.hilti_typing.specs.Context.{Known}
use Rattle.hilti_typing.specs.Fits.{Asks, Fit, Gets, width_of}
use Rattle.hilti_operands.specs.Lines.{Read, read_all, line_with, written_width}
use Rattle.hilti_operands.specs.Operands.{read_operand}
use Rattle.hilti_operands.specs.Seen.{BodySeen, LineSeen, setting}

-- where a value of the type of the body's result is asked, the body has a result
abbrev pub MayAsk : LineSeen → Kind → Type 0
MayAsk line kinds.Returned = IsSome line.body.function.result
MayAsk line kind = Unit {0}

-- what is read where a kind is asked is what the kind asks for
abbrev pub ReadsWhatIsAsked : Type 0
ReadsWhatIsAsked =
    (line : LineSeen) (kind : Kind) (known : Known) (x : Written) (operand : Operand)
    → MayAsk line kind → read_operand line kind known x ≡ Ok operand
    → Asks (setting line) kind known operand

-- operands that are read fit a row of their kinds, where its target is what it asks for
abbrev pub ReadsWhatFits : Type 0
ReadsWhatFits =
    (line : LineSeen) (gives : Gives) (asked : List Kind) (known : Known) (items : List Written)
    (read : Read) → AllByRecursion (MayAsk line) asked
    → read_all line asked known items ≡ Ok read → Gets (setting line) gives read.known
    → Fit (setting line) gives asked known read.operands

-- the width that operands were read at is the one that typing finds in them
abbrev pub ReadsAtItsWidth : Type 0
ReadsAtItsWidth =
    (body : BodySeen) (mnemonic : Place) (target : Option ValueType) (asked : List Kind)
    (items : List Written) (read : Read)
    → read_all (line_with body mnemonic target asked items) asked Known.Nothing items ≡ Ok read
    → width_of target read.operands ≡ written_width body target asked items

-- the operand at a place is refused, behind those in front of it, which are read
pub record IsRefusedAt (line : LineSeen) (asked : List Kind) (known : Known)
    (items : List Written) (refusal : Refusal) (at : ℕ) : Type 0 where
  pub front : Read
  pub kind : Kind
  pub operand : Written
  pub front_is : read_all line (take at asked) known (take at items) ≡ Ok front
  pub kind_is : slice_get asked at ≡ Some kind
  pub operand_is : slice_get items at ≡ Some operand
  pub refused : read_operand line kind front.known operand ≡ Err refusal

-- where there is an operand for each kind, a refusal is that of the first operand that is refused
abbrev pub RefusesTheFirst : Type 0
RefusesTheFirst =
    (line : LineSeen) (asked : List Kind) (known : Known) (items : List Written)
    (refusal : Refusal) → length asked ≡ length items
    → read_all line asked known items ≡ Err refusal
    → (at : ℕ) × IsRefusedAt line asked known items refusal at

-- an operand that names a function names one that is there and is no hook body
abbrev pub NamesNoBody : Tables → Operand → Type 0
NamesNoBody tables x =
    IfSome (named_function x) (λ n. IsSomeAnd (slice_get tables.functions n) (λ f. f.hook ≡ None))

abbrev pub ReadsNoBodies : Type 0
ReadsNoBodies =
    (line : LineSeen) (asked : List Kind) (known : Known) (items : List Written) (read : Read)
    → read_all line asked known items ≡ Ok read
    → AllByRecursion (NamesNoBody line.body.tables) read.operands
