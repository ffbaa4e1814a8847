-- The rows of instructions are free: no literal names an object.
use Rattle.std.proofs.Common.{◌≡◌, ℕ, List, [], ◌∷◌, sym, subst, Option, Some, None}
use Rattle.std.specs.Prelude.{IfSome}
use Rattle.std.specs.List.{All, AllByRecursion}
use Rattle.std.specs.Option.{option_map, option_and_then}
use Rattle.std.proofs.lemmas.List.Elements.{All-from_recursion}
use Rattle.hilti_int.specs.declared.comparisons.IntCmp.{IntCmp}
use Rattle.hilti_int.specs.declared.operations.IntOp.{IntOp}
use Rattle.hilti_int.specs.declared.width.Width.{Width}
use Rattle.hilti_types.specs.declared.op.Op.{Op}
use Rattle.hilti_types.specs.declared.op.Op.TheVariants as ops
use Rattle.hilti_types.specs.declared.value_type.ValueType.{ValueType}
use Rattle.hilti_parts.specs.declared.parts.Instruction.{Instruction}
use Rattle.hilti_parts.specs.declared.parts.Operand.{Operand, out-Operand, roll-Operand}
use Rattle.hilti_parts.specs.declared.parts.Operand.{roll-out-Operand}
use Rattle.hilti_parts.specs.declared.parts.Operand.TheOpen.{Operand-F}
use Rattle.hilti_parts.specs.declared.parts.Operand.TheVariants as operands
use Rattle.hilti_parts.specs.declared.parts.Variable.{Variable}
use Rattle.hilti_parts.specs.declared.parts.Variable.TheVariants as variables
use Rattle.hilti_parts.specs.Named.{given_kind, grouped, named_block}
use Rattle.hilti_typing.specs.Fits.{exception_number, field_number}
use Rattle.hilti_heap.specs.Held.{held}
use Rattle.hilti_openings.proofs.Holding.{literal_held}
use Rattle.hilti_values.specs.Literals.{value_of}
use Rattle.hilti_values.specs.declared.value.Value.{Value}
use Rattle.hilti_effects.specs.Operands.{value_or_null}
use Rattle.hilti_rows.specs.declared.row.Binary.{Binary}
use Rattle.hilti_rows.specs.declared.row.Binary.TheVariants as binaries
use Rattle.hilti_rows.specs.declared.row.Printed.{Printed}
use Rattle.hilti_rows.specs.declared.row.Row.{Row}
use Rattle.hilti_rows.specs.declared.row.Row.TheVariants as rows
use Rattle.hilti_rows.specs.declared.row.Source.{Source}
use Rattle.hilti_rows.specs.declared.row.Source.TheVariants as sources
use Rattle.hilti_rows.specs.declared.row.StructRow.TheVariants as structs
use Rattle.hilti_rows.specs.declared.row.Unary.{Unary}
use Rattle.hilti_rows.specs.declared.row.Unary.TheVariants as unaries
use Rattle.hilti_rows.specs.Sources.{source_of, variable_source, sources_of, grouped_sources}
use Rattle.hilti_rows.specs.Sources.{each_of, both, printed_of, printed_with}
use Rattle.hilti_rows.specs.Resolving.{row_of, row_by, unary, binary, sized, compared, converted}
use Rattle.hilti_rows.specs.Resolving.{selected, tested, called, bound, jumps, branches, returned}
use Rattle.hilti_rows.specs.Resolving.{thrown, printed_row, new_struct, struct_get, struct_is_set}
use Rattle.hilti_rows.specs.Resolving.{struct_set, struct_unset, of_numbers, int_op, comparison}
use Rattle.hilti_rows.specs.Resolving.{function, declared_struct, line_width, target_width}
use Rattle.hilti_acting.specs.Owned.{IsFree}
use Rattle.hilti_acting.specs.Free.{IsFreeRow, AreFree}

-- what is so of a thing that may be missing, where it is there

mapped : {A B : Type 0} (P : B → Type 0) (f : A → B) (o : Option A)
    → IfSome o (λ x. P (f x)) → IfSome (option_map f o) P
mapped P f None h = tt
mapped P f (Some x) h = h

then : {A B : Type 0} (P : B → Type 0) (f : A → Option B) (o : Option A)
    → IfSome o (λ x. IfSome (f x) P) → IfSome (option_and_then f o) P
then P f None h = tt
then P f (Some x) h = h

always : {A : Type 0} (P : A → Type 0) (o : Option A) → ((x : A) → P x) → IfSome o P
always P None h = tt
always P (Some x) h = h x

also : {A : Type 0} (P Q : A → Type 0) (o : Option A) → ((x : A) → P x → Q x) → IfSome o P
    → IfSome o Q
also P Q None h is = tt
also P Q (Some x) h is = h x is

-- sources

constant : (found : Option Value) → ((s : ℕ) → held s (value_or_null found) ≡ 0)
    → IfSome (option_map sources.Constant found) IsFree
constant None none = tt
constant (Some value) none = none

variable : (v : Variable) → IsFree (variable_source v)
variable (variables.Slot n) = tt
variable (variables.Global n) = tt

abbrev Frees : Operand → Type 0
Frees x = IfSome (source_of x) IsFree

shape : (x : Operand-F Operand) → Frees (roll-Operand x)
shape (Operand-F.Var v kind) = subst Frees (sym (operands.rolls-Var v kind)) (variable v)
shape (Operand-F.Literal kind tree) =
    subst Frees (sym (operands.rolls-Literal kind tree))
    (constant (value_of tree) (λ s. literal_held s tree))
shape Operand-F.Star = subst Frees (sym operands.rolls-Star) tt
shape (Operand-F.Block n) = subst Frees (sym (operands.rolls-Block n)) tt
shape (Operand-F.Function f) = subst Frees (sym (operands.rolls-Function f)) tt
shape (Operand-F.Hook n) = subst Frees (sym (operands.rolls-Hook n)) tt
shape (Operand-F.Exception n) = subst Frees (sym (operands.rolls-Exception n)) tt
shape (Operand-F.Field n) = subst Frees (sym (operands.rolls-Field n)) tt
shape (Operand-F.Overlay n) = subst Frees (sym (operands.rolls-Overlay n)) tt
shape (Operand-F.New what) = subst Frees (sym (operands.rolls-New what)) tt
shape (Operand-F.Mode access) = subst Frees (sym (operands.rolls-Mode access)) tt
shape (Operand-F.Group items) = subst Frees (sym (operands.rolls-Group items)) tt

source : (x : Operand) → Frees x
source x = subst Frees (roll-out-Operand x) (shape (out-Operand x))

module _ {A B : Type 0} (P : B → Type 0) (of : A → Option B)
    (each : (x : A) → IfSome (of x) P) where
  all_by : (xs : List A) → IfSome (each_of of xs) (AllByRecursion P)
  all_by [] = tt
  all_by (x ∷ xs) =
      then (AllByRecursion P) (λ y. option_map (λ ys. y ∷ ys) (each_of of xs)) (of x)
      (also P (λ y. IfSome (option_map (λ ys. y ∷ ys) (each_of of xs)) (AllByRecursion P)) (of x)
      (λ y is. mapped (AllByRecursion P) (λ ys. y ∷ ys) (each_of of xs)
      (also (AllByRecursion P) (λ ys. AllByRecursion P (y ∷ ys)) (each_of of xs)
      (λ ys all. (is, all)) (all_by xs)))
      (each x))

  all : (xs : List A) → IfSome (each_of of xs) (All P)
  all xs = also (AllByRecursion P) (All P) (each_of of xs) (All-from_recursion P) (all_by xs)

group : (x : Operand) → IfSome (grouped_sources x) AreFree
group x =
    then AreFree sources_of (grouped x)
    (always (λ xs. IfSome (sources_of xs) AreFree) (grouped x) (all IsFree source_of source))

given : (kind : Option ValueType) (s : Source) → IsFree s
    → IfSome (printed_with kind s) (λ (item : Printed). IsFree item.value)
given None s is = tt
given (Some kind) s is = is

item : (x : Operand) → IfSome (printed_of x) (λ (item : Printed). IsFree item.value)
item x =
    then (λ (item : Printed). IsFree item.value) (printed_with (given_kind x)) (source_of x)
    (also IsFree
    (λ s. IfSome (printed_with (given_kind x) s) (λ (item : Printed). IsFree item.value))
    (source_of x) (given (given_kind x)) (source x))

-- rows

abbrev FreesRow : Option Row → Type 0
FreesRow row = IfSome row IsFreeRow

two : {A B : Type 0} (P : A → Type 0) (Q : B → Type 0) (make : A → B → Row) (a : Option A)
    (b : Option B) → IfSome a P → IfSome b Q → ((x : A) (y : B) → P x → Q y → IsFreeRow (make x y))
    → FreesRow (both make a b)
two P Q make None b p q h = tt
two P Q make (Some x) None p q h = tt
two P Q make (Some x) (Some y) p q h = h x y p q

one_row : (op : Unary) (t : Option Variable) (xs : List Operand) → FreesRow (unary op t xs)
one_row op None xs = tt
one_row op (Some t) [] = tt
one_row op (Some t) (a ∷ []) = mapped IsFreeRow (rows.Unary op t) (source_of a) (source a)
one_row op (Some t) (a ∷ b ∷ xs) = tt

two_row : (op : Binary) (t : Option Variable) (xs : List Operand) → FreesRow (binary op t xs)
two_row op None xs = tt
two_row op (Some t) [] = tt
two_row op (Some t) (a ∷ []) = tt
two_row op (Some t) (a ∷ b ∷ []) =
    two IsFree IsFree (rows.Binary op t) (source_of a) (source_of b) (source a) (source b)
    (λ x y p q. (p, q))
two_row op (Some t) (a ∷ b ∷ c ∷ xs) = tt

sized_row : (op : IntOp) (i : Instruction) → FreesRow (sized op i)
sized_row op i =
    then IsFreeRow (λ w. binary (binaries.Int op w) i.target i.operands) (line_width i)
    (always (λ w. FreesRow (binary (binaries.Int op w) i.target i.operands)) (line_width i)
    (λ w. two_row (binaries.Int op w) i.target i.operands))

compared_row : (op : IntCmp) (i : Instruction) → FreesRow (compared op i)
compared_row op i =
    then IsFreeRow (λ w. binary (binaries.Compare op w) i.target i.operands) (line_width i)
    (always (λ w. FreesRow (binary (binaries.Compare op w) i.target i.operands)) (line_width i)
    (λ w. two_row (binaries.Compare op w) i.target i.operands))

converted_row : (op : Width → Unary) (i : Instruction) → FreesRow (converted op i)
converted_row op i =
    then IsFreeRow (λ w. unary (op w) i.target i.operands) (target_width i)
    (always (λ w. FreesRow (unary (op w) i.target i.operands)) (target_width i)
    (λ w. one_row (op w) i.target i.operands))

numbers_row : (op : Option IntOp) (test : Option IntCmp) (i : Instruction)
    → FreesRow (of_numbers op test i)
numbers_row (Some op) test i = sized_row op i
numbers_row None (Some test) i = compared_row test i
numbers_row None None i = tt

selected_row : (t : Option Variable) (xs : List Operand) → FreesRow (selected t xs)
selected_row None xs = tt
selected_row (Some t) [] = tt
selected_row (Some t) (c ∷ []) = tt
selected_row (Some t) (c ∷ a ∷ []) = tt
selected_row (Some t) (c ∷ a ∷ b ∷ []) =
    then IsFreeRow (λ s. both (rows.Select t s) (source_of a) (source_of b)) (source_of c)
    (also IsFree (λ s. FreesRow (both (rows.Select t s) (source_of a) (source_of b))) (source_of c)
    (λ s is. two IsFree IsFree (rows.Select t s) (source_of a) (source_of b) (source a) (source b)
    (λ x y p q. (is, p, q))) (source c))
selected_row (Some t) (c ∷ a ∷ b ∷ d ∷ xs) = tt

tested_row : (t : Option Variable) (xs : List Operand) → FreesRow (tested t xs)
tested_row None xs = tt
tested_row (Some t) [] = tt
tested_row (Some t) (a ∷ []) = mapped IsFreeRow (rows.IsNull t) (source_of a) (source a)
tested_row (Some t) (a ∷ b ∷ xs) = tt

called_row : (t : Option Variable) (xs : List Operand) → FreesRow (called t xs)
called_row t [] = tt
called_row t (f ∷ []) = tt
called_row t (f ∷ g ∷ []) =
    two (λ f. Unit {0}) AreFree (λ f arguments. rows.Call f arguments t) (function f)
    (grouped_sources g) (always (λ f. Unit {0}) (function f) (λ f. tt)) (group g) (λ x y p q. q)
called_row t (f ∷ g ∷ h ∷ xs) = tt

bound_row : (t : Option Variable) (xs : List Operand) → FreesRow (bound t xs)
bound_row None xs = tt
bound_row (Some t) [] = tt
bound_row (Some t) (f ∷ []) = tt
bound_row (Some t) (f ∷ g ∷ []) =
    two (λ f. Unit {0}) AreFree (rows.Bind t) (function f) (grouped_sources g)
    (always (λ f. Unit {0}) (function f) (λ f. tt)) (group g) (λ x y p q. q)
bound_row (Some t) (f ∷ g ∷ h ∷ xs) = tt

jump_row : (xs : List Operand) → FreesRow (jumps xs)
jump_row [] = tt
jump_row (b ∷ []) =
    mapped IsFreeRow rows.Jump (named_block b) (always (λ n. Unit {0}) (named_block b) (λ n. tt))
jump_row (b ∷ c ∷ xs) = tt

branch_row : (xs : List Operand) → FreesRow (branches xs)
branch_row [] = tt
branch_row (c ∷ []) = tt
branch_row (c ∷ a ∷ []) = tt
branch_row (c ∷ a ∷ b ∷ []) =
    then IsFreeRow (λ s. both (rows.IfElse s) (named_block a) (named_block b)) (source_of c)
    (also IsFree (λ s. FreesRow (both (rows.IfElse s) (named_block a) (named_block b)))
    (source_of c)
    (λ s is. two (λ n. Unit {0}) (λ n. Unit {0}) (rows.IfElse s) (named_block a) (named_block b)
    (always (λ n. Unit {0}) (named_block a) (λ n. tt))
    (always (λ n. Unit {0}) (named_block b) (λ n. tt))
    (λ x y p q. is)) (source c))
branch_row (c ∷ a ∷ b ∷ d ∷ xs) = tt

result_row : (xs : List Operand) → FreesRow (returned xs)
result_row [] = tt
result_row (x ∷ []) = mapped IsFreeRow rows.ReturnResult (source_of x) (source x)
result_row (x ∷ y ∷ xs) = tt

throw_row : (xs : List Operand) → FreesRow (thrown xs)
throw_row [] = tt
throw_row (e ∷ []) = tt
throw_row (e ∷ x ∷ []) =
    two (λ n. Unit {0}) IsFree rows.Throw (exception_number e) (source_of x)
    (always (λ n. Unit {0}) (exception_number e) (λ n. tt)) (source x) (λ n y p q. q)
throw_row (e ∷ x ∷ y ∷ xs) = tt

print_row : (xs : List Operand) → FreesRow (printed_row xs)
print_row xs =
    mapped IsFreeRow rows.Print (each_of printed_of xs)
    (all (λ (item : Printed). IsFree item.value) printed_of item xs)

new_row : (t : Option Variable) (xs : List Operand) → FreesRow (new_struct t xs)
new_row None xs = tt
new_row (Some t) [] = tt
new_row (Some t) (word ∷ []) =
    mapped IsFreeRow (λ n. rows.Struct (structs.New t n)) (declared_struct word)
    (always (λ n. Unit {0}) (declared_struct word) (λ n. tt))
new_row (Some t) (word ∷ x ∷ xs) = tt

field_row : (make : Source → ℕ → Row) (o f : Operand)
    → ((s : Source) (n : ℕ) → IsFree s → IsFreeRow (make s n))
    → FreesRow (both make (source_of o) (field_number f))
field_row make o f h =
    two IsFree (λ n. Unit {0}) make (source_of o) (field_number f) (source o)
    (always (λ n. Unit {0}) (field_number f) (λ n. tt)) (λ s n p q. h s n p)

get_row : (t : Option Variable) (xs : List Operand) → FreesRow (struct_get t xs)
get_row None xs = tt
get_row (Some t) [] = tt
get_row (Some t) (o ∷ []) = tt
get_row (Some t) (o ∷ f ∷ []) =
    field_row (λ o n. rows.Struct (structs.Get t o n)) o f (λ s n is. is)
get_row (Some t) (o ∷ f ∷ x ∷ xs) = tt

is_set_row : (t : Option Variable) (xs : List Operand) → FreesRow (struct_is_set t xs)
is_set_row None xs = tt
is_set_row (Some t) [] = tt
is_set_row (Some t) (o ∷ []) = tt
is_set_row (Some t) (o ∷ f ∷ []) =
    field_row (λ o n. rows.Struct (structs.IsSet t o n)) o f (λ s n is. is)
is_set_row (Some t) (o ∷ f ∷ x ∷ xs) = tt

set_row : (xs : List Operand) → FreesRow (struct_set xs)
set_row [] = tt
set_row (o ∷ []) = tt
set_row (o ∷ f ∷ []) = tt
set_row (o ∷ f ∷ x ∷ []) =
    then IsFreeRow
    (λ o. both (λ n v. rows.Struct (structs.Set o n v)) (field_number f) (source_of x))
    (source_of o)
    (also IsFree
    (λ o. FreesRow (both (λ n v. rows.Struct (structs.Set o n v)) (field_number f) (source_of x)))
    (source_of o)
    (λ s is. two (λ n. Unit {0}) IsFree (λ n v. rows.Struct (structs.Set s n v)) (field_number f)
    (source_of x) (always (λ n. Unit {0}) (field_number f) (λ n. tt)) (source x)
    (λ n y p q. (is, q)))
    (source o))
set_row (o ∷ f ∷ x ∷ y ∷ xs) = tt

unset_row : (xs : List Operand) → FreesRow (struct_unset xs)
unset_row [] = tt
unset_row (o ∷ []) = tt
unset_row (o ∷ f ∷ []) = field_row (λ o n. rows.Struct (structs.Unset o n)) o f (λ s n is. is)
unset_row (o ∷ f ∷ x ∷ xs) = tt

-- the row that a mnemonic has
free_by : (op : Op) (i : Instruction) → FreesRow (row_by op i)
free_by ops.Nop i = tt
free_by ops.Assign i = one_row unaries.Assign i.target i.operands
free_by ops.Select i = selected_row i.target i.operands
free_by ops.Print i = print_row i.operands
free_by ops.Yield i = tt
free_by ops.Call i = called_row i.target i.operands
free_by ops.CallableBind i = bound_row i.target i.operands
free_by ops.Jump i = jump_row i.operands
free_by ops.IfElse i = branch_row i.operands
free_by ops.ReturnVoid i = tt
free_by ops.ReturnResult i = result_row i.operands
free_by ops.ExceptionThrow i = throw_row i.operands
free_by ops.New i = new_row i.target i.operands
free_by ops.RefIsNull i = tested_row i.target i.operands
free_by ops.BoolAnd i = two_row binaries.And i.target i.operands
free_by ops.BoolOr i = two_row binaries.Or i.target i.operands
free_by ops.BoolNot i = one_row unaries.Not i.target i.operands
free_by ops.IntAs i = converted_row unaries.IntAs i
free_by ops.IntAsExact i = converted_row unaries.IntAsExact i
free_by ops.StructGet i = get_row i.target i.operands
free_by ops.StructSet i = set_row i.operands
free_by ops.StructUnset i = unset_row i.operands
free_by ops.StructIsSet i = is_set_row i.target i.operands
free_by op i = numbers_row (int_op op) (comparison op) i

-- each source of a row of an instruction is free
pub free_row : (i : Option Instruction) (row : Row) → option_and_then row_of i ≡ Some row
    → IsFreeRow row
free_row None row e = absurd cc
free_row (Some i) row e = subst FreesRow e (free_by i.op i)
