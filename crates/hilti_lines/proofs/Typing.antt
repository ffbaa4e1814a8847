-- A line that is read is typed.
use Rattle.std.proofs.Common.{◌≡◌, ◌∙◌, ℕ, suc, Bool, true, false, cond, IsTrue, List, [], ◌∷◌, length, sym, refl, ap, subst, Option, Some, None, Ok, Err}
use Rattle.std.specs.Prelude.{◌&&◌, not, is_some, Result, IsSomeAnd, IfSome}
use Rattle.std.specs.List.{All, AllByRecursion}
use Rattle.std.specs.Option.{option_and_then}
use Rattle.std.proofs.lemmas.Bool.{false≢true, eqb-true, leb-true}
use Rattle.std.proofs.lemmas.List.Elements.{All-from_recursion}
use Rattle.hilti_base.specs.declared.names.Place.{Place}
use Rattle.hilti_base.specs.declared.refusal.Refusal.{Refusal}
use Rattle.hilti_base.specs.declared.refusal.Refusal.TheVariants.{At}
use Rattle.hilti_types.specs.declared.op.Op.{Op}
use Rattle.hilti_types.specs.declared.value_type.ValueType.{ValueType, out-ValueType}
use Rattle.hilti_types.specs.declared.value_type.ValueType.TheVariants as types
use Rattle.hilti_module.specs.declared.module.Mnemonic.{Mnemonic}
use Rattle.hilti_module.specs.declared.module.Operand.{Operand as Written}
use Rattle.hilti_module.specs.declared.types.Name.{Name}
use Rattle.hilti_table.specs.declared.row.Body.TheVariants as bodies
use Rattle.hilti_table.specs.declared.row.Flow.{Flow}
use Rattle.hilti_table.specs.declared.row.Flow.TheVariants as flows
use Rattle.hilti_table.specs.declared.row.Gives.{Gives}
use Rattle.hilti_table.specs.declared.row.Gives.TheVariants as rules
use Rattle.hilti_table.specs.declared.row.Kind.{Kind}
use Rattle.hilti_table.specs.declared.row.Row.{Row}
use Rattle.hilti_table.specs.declared.row.Takes.{Takes}
use Rattle.hilti_table.specs.declared.row.Takes.TheVariants as takes
use Rattle.hilti_table.specs.Rows.{IsCount, kinds}
use Rattle.hilti_table.specs.Table.{line_of}
use Rattle.hilti_parts.specs.declared.parts.Instruction.{Instruction}
use Rattle.hilti_parts.specs.declared.parts.Operand.{Operand}
use Rattle.hilti_parts.specs.declared.parts.Operand.TheVariants as operands
use Rattle.hilti_row_types.specs.Same.{same_type}
use Rattle.hilti_row_types.proofs.Sameness.{equal_types}
use Rattle.hilti_typing.specs.Context.{Context, Setting, Known, variable_type}
use Rattle.hilti_typing.specs.Fits.{Needs, MayTake, Gets, Fit, Stands, FitsRow, width_of, learn, setting as typed_setting}
use Rattle.hilti_typing.specs.Programs.{IsTarget, IsTypedInstruction}
use Rattle.hilti_typing.specs.Types.{plain_type, is_int}
use Rattle.hilti_operands.specs.Answers.{if_passes}
use Rattle.hilti_operands.specs.Laws.{NamesNoBody}
use Rattle.hilti_operands.specs.Lines.{Read, in_front, read_all, written_width}
use Rattle.hilti_operands.specs.Operands.{read_operand}
use Rattle.hilti_operands.specs.Seen.{BodySeen, LineSeen, context, setting}
use Rattle.hilti_operands.specs.Values.{given, kind_given, variable_meant}
use Rattle.hilti_operands.proofs.Joining.{all_fit}
use Rattle.hilti_operands.proofs.ReadValues.{then_ok, passed, ok_is, found}
use Rattle.hilti_operands.proofs.Widening.{width_is_kept, no_bodies}
use Rattle.hilti_lines.specs.Laws.{ReadsTypedLines, NamesNoBodies}
use Rattle.hilti_lines.specs.Lines.{is_count, has_counts, read_operands, may_stand, stand_code, instruction, end_read, read_row, line_of_row, op_in, read_in, read_line, read_mnemonic}
use Rattle.hilti_lines.specs.Targets.{target_variable, target_type, variable_named, is_given, needs, may_take, is_any_int, gets, is_variable, is_target, target_refusal}
use Rattle.hilti_lines.proofs.Returning.{may_ask}

both : (a b : Bool) → (a && b) ≡ true → (a ≡ true) × (b ≡ true)
both true true e = (refl, refl)
both true false e = absurd (false≢true e)
both false b e = absurd (false≢true e)

chosen : {A : Type 0} (b : Bool) (r : Result A Refusal) (x : A) (place : Place) (code : ℕ) → cond b r (Err (At place code)) ≡ Ok x → (b ≡ true) × (r ≡ Ok x)
chosen true r x place code e = (refl, e)
chosen false r x place code e = cc

-- counts
count_right : (row : Takes) (n : ℕ) → is_count row n ≡ true → IsCount row n
count_right takes.Nothing n e = eqb-true n 0 e
count_right (takes.One a) n e = eqb-true n 1 e
count_right (takes.Two a b) n e = eqb-true n 2 e
count_right (takes.Three a b c) n e = eqb-true n 3 e
count_right (takes.Four a b c d) n e = eqb-true n 4 e
count_right (takes.UpToEight a) n e = leb-true n 8 e

as_many : (line : LineSeen) (asked : List Kind) (known : Known) (items : List Written) (read : Read) → read_all line asked known items ≡ Ok read → length read.operands ≡ length items
unfolding read_all
as_many line [] known [] read e =
    let same : ◌≡◌ {A = Read} (record { operands = []; known = known }) read = ok_is _ read e in
    sym (ap (λ (r : Read). length r.operands) same)
as_many line [] known (x ∷ more) read e = cc
as_many line (kind ∷ others) known [] read e = cc
as_many line (kind ∷ others) known (x ∷ more) read e =
    let first = then_ok (read_operand line kind known x) _ read e in
    let next = then_ok (read_all line others (learn (setting line) kind known first.0) more) _ read first.2 in
    let same : in_front first.0 next.0 ≡ read = ok_is (in_front first.0 next.0) read next.2 in
    sym (ap (λ (r : Read). length r.operands) same) ∙ ap suc (as_many line others (learn (setting line) kind known first.0) more next.0 next.1)

-- bodies
none_there : {A : Type 0} (o : Option A) → not (is_some o) ≡ true → o ≡ None
none_there None e = refl
none_there (Some x) e = absurd (false≢true e)

stands_right : (body : BodySeen) (flow : Flow) → may_stand body flow ≡ true → Stands (context body) flow
stands_right body (flows.Leaves bodies.Void) e = none_there body.function.result e
stands_right body (flows.Leaves bodies.Result) e = e
stands_right body (flows.Leaves bodies.Hook) e = e
stands_right body _ e = tt

-- targets
given_right : (kind : ValueType) (result : Option ValueType) → is_given kind result ≡ true → result ≡ Some kind
given_right kind None e = absurd (false≢true e)
given_right kind (Some result) e = ap Some (equal_types result kind e)

needs_right : (target result : Option ValueType) → needs target result ≡ true → Needs target result
needs_right None result e = absurd (false≢true e)
needs_right (Some kind) result e = given_right kind result e

takes_right : (target result : Option ValueType) → may_take target result ≡ true → MayTake target result
takes_right None result e = tt
takes_right (Some kind) result e = given_right kind result e

is_right : (target : Option ValueType) (kind : ValueType) → needs target (Some kind) ≡ true → target ≡ Some kind
is_right None kind e = absurd (false≢true e)
is_right (Some own) kind e = sym (given_right own (Some kind) e)

any_right : (target : Option ValueType) → is_any_int target ≡ true → IsSomeAnd target (λ t. IsTrue (is_int (out-ValueType t)))
any_right None e = absurd (false≢true e)
any_right (Some kind) e = e

gets_right : (c : Context) (target : Option ValueType) (width : ℕ) (rule : Gives) (known : Known) → gets width target rule known ≡ true
    → Gets (record { context = c; target = target; width = width }) rule known
gets_right c target width rules.Nothing known e = none_there target e
gets_right c target width (rules.Fixed t) known e = is_right target (plain_type t) e
gets_right c target width rules.Sized known e = is_right target (types.Int width) e
gets_right c target width rules.Same known e = needs_right target _ e
gets_right c target width (rules.Part part) known e = needs_right target _ e
gets_right c target width rules.Popped known e = takes_right target _ e
gets_right c target width rules.Iterator known e = needs_right target _ e
gets_right c target width rules.Item known e = needs_right target _ e
gets_right c target width rules.Called known e = takes_right target _ e
gets_right c target width rules.AnyInt known e = any_right target e

target_right : (body : BodySeen) (target : Option Name) → IsTarget (context body) (target_variable body target) (target_type body target)
target_right body None = refl
target_right body (Some name) = by_given (given body name) refl
  where
    by_given : (g : Option Operand) → given body name ≡ g → IsTarget (context body) (option_and_then variable_named g) (kind_given g)
    by_given None e = refl
    by_given (Some x) e =
        let it = found body (variable_meant (body.mean name)) x e in
        subst (λ (y : Operand). IsTarget (context body) (option_and_then variable_named (Some y)) (kind_given (Some y))) (sym it.2) it.3

-- what a row is read of
record RowRead (line : LineSeen) (op : Op) (target : Option Name) (items : List Written) (xs : List Operand) : Type 0 where
  read : Read
  counted : is_count (line_of op).row.takes (length items) ≡ true
  all : read_all line (kinds (line_of op).row.takes (length items)) Known.Nothing items ≡ Ok read
  stands : may_stand line.body (line_of op).row.flow ≡ true
  right : gets line.width line.target (line_of op).row.gives read.known ≡ true
  are : read.operands ≡ xs

row_read : (line : LineSeen) (op : Op) (target : Option Name) (items : List Written) (xs : List Operand) → read_row line (line_of op).row target items ≡ Ok xs → RowRead line op target items xs
row_read line op target items xs e =
    let row = (line_of op).row in
    let o = then_ok (read_operands line row.takes items) (end_read line row target) xs e in
    let c = chosen (has_counts line row.takes items) (read_all line (kinds row.takes (length items)) Known.Nothing items) o.0 line.mnemonic 31 o.1 in
    let s = chosen (may_stand line.body row.flow) (if_passes (is_target line target row.gives o.0.known) o.0.operands (target_refusal line target)) xs line.mnemonic (stand_code row.flow) o.2 in
    let t = passed (is_target line target row.gives o.0.known) o.0.operands xs (target_refusal line target) s.1 in
    record {
      read = o.0;
      counted = (both (is_count row.takes (length items)) _ c.0).0;
      all = c.1;
      stands = s.0;
      right = (both (is_variable target line.target) _ t.0).1;
      are = t.1;
    }

in_setting : (body : BodySeen) (target : Option ValueType) (op : Op) (items : List Written) (xs : List Operand) (width : ℕ) → width_of target xs ≡ width → length xs ≡ length items
    → Fit (record { context = context body; target = target; width = width }) (line_of op).row.gives (kinds (line_of op).row.takes (length items)) Known.Nothing xs
    → Fit (typed_setting (context body) target xs) (line_of op).row.gives (kinds (line_of op).row.takes (length xs)) Known.Nothing xs
in_setting body target op items xs width w l fit =
    subst (λ (n : ℕ). Fit (typed_setting (context body) target xs) (line_of op).row.gives (kinds (line_of op).row.takes n) Known.Nothing xs) (sym l)
    (subst (λ (v : ℕ). Fit (record { context = context body; target = target; width = v }) (line_of op).row.gives (kinds (line_of op).row.takes (length items)) Known.Nothing xs) (sym w) fit)

row_typed : (body : BodySeen) (mnemonic : Place) (op : Op) (target : Option Name) (items : List Written) (xs : List Operand)
    → RowRead (line_of_row body mnemonic (line_of op).row target items) op target items xs → FitsRow (typed_setting (context body) (target_type body target) xs) (line_of op).row xs
row_typed body mnemonic op target items xs r =
    let line = line_of_row body mnemonic (line_of op).row target items in
    let asked = kinds (line_of op).row.takes (length items) in
    let kind = target_type body target in
    let many : length r.read.operands ≡ length items = as_many line asked Known.Nothing items r.read r.all in
    let fits = all_fit line (line_of op).row.gives asked Known.Nothing items r.read (may_ask line op (length items) r.stands) r.all
    (gets_right (context body) kind line.width (line_of op).row.gives r.read.known r.right) in
    let width = width_is_kept body mnemonic kind asked items r.read r.all in
    subst (λ (ys : List Operand). FitsRow (typed_setting (context body) kind ys) (line_of op).row ys) r.are
    (record {
      counted = count_right (line_of op).row.takes (length r.read.operands) (ap (is_count (line_of op).row.takes) many ∙ r.counted);
      fit = in_setting body kind op items r.read.operands line.width width many fits;
      stands = stands_right body (line_of op).row.flow r.stands;
    })

instruction_typed : (body : BodySeen) (mnemonic : Place) (op : Op) (target : Option Name) (items : List Written) (i : Instruction)
    → read_in body mnemonic op target items ≡ Ok i → IsTypedInstruction (context body) i
instruction_typed body mnemonic op target items i e =
    let r = then_ok (read_row (line_of_row body mnemonic (line_of op).row target items) (line_of op).row target items) _ i e in
    subst (λ (j : Instruction). IsTypedInstruction (context body) j) (ok_is (instruction op body target r.0) i r.2)
    (record {
      target = target_right body target;
      line = row_typed body mnemonic op target items r.0 (row_read _ op target items r.0 r.1);
    })

pub lines_typed : ReadsTypedLines
lines_typed body target mnemonic items i e =
    let m = then_ok (read_mnemonic mnemonic) _ i e in
    instruction_typed body mnemonic.first.place (op_in body m.0) target items i m.2

instruction_names : (body : BodySeen) (mnemonic : Place) (op : Op) (target : Option Name) (items : List Written) (i : Instruction)
    → read_in body mnemonic op target items ≡ Ok i → All (NamesNoBody body.tables) i.operands
instruction_names body mnemonic op target items i e =
    let line = line_of_row body mnemonic (line_of op).row target items in
    let r = then_ok (read_row line (line_of op).row target items) _ i e in
    let it = row_read line op target items r.0 r.1 in
    let none = no_bodies line (kinds (line_of op).row.takes (length items)) Known.Nothing items it.read it.all in
    subst (λ (j : Instruction). All (NamesNoBody body.tables) j.operands) (ok_is (instruction op body target r.0) i r.2)
    (subst (λ (ys : List Operand). All (NamesNoBody body.tables) ys) it.are (All-from_recursion (NamesNoBody body.tables) it.read.operands none))

pub names_none : NamesNoBodies
names_none body target mnemonic items i e =
    let m = then_ok (read_mnemonic mnemonic) _ i e in
    instruction_names body mnemonic.first.place (op_in body m.0) target items i m.2
