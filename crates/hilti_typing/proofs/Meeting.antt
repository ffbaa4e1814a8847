-- From operands that fit to what lines meet.
use Rattle.std.proofs.Common.{◌≡◌, ◌≤◌, List, [], ◌∷◌, refl, replicate, length}
use Rattle.std.proofs.Common.{Option, Some, None, All, IsSomeAnd}
use Rattle.std.proofs.lemmas.List.Elements.{All-nil, All-cons}
use Rattle.hilti_types.specs.declared.value_type.ValueType.{ValueType}
use Rattle.hilti_table.specs.declared.row.Gives.{Gives}
use Rattle.hilti_table.specs.declared.row.Gives.TheVariants as gives
use Rattle.hilti_table.specs.declared.row.Kind.TheVariants.{Fixed, Sized, Own, Same, Label}
use Rattle.hilti_table.specs.declared.row.Kind.TheVariants.{Returned, Exception}
use Rattle.hilti_table.specs.declared.row.Plain.{Plain}
use Rattle.hilti_table.specs.declared.row.Test.{Test}
use Rattle.hilti_table.specs.declared.row.Test.TheVariants as tests
use Rattle.hilti_parts.specs.declared.parts.Operand.{Operand}
use Rattle.hilti_parts.specs.Named.{given_kind}
use Rattle.hilti_typing.specs.Context.{Setting, Known}
use Rattle.hilti_typing.specs.Types.{plain_type}
use Rattle.hilti_typing.specs.Fits.{IsSound, Has, HasKnown, HaveAll, Gets, Fit, AsksOwn}
use Rattle.hilti_typing.specs.Fits.{knowing, known_type}
use Rattle.hilti_typing.specs.Facts.{Passes, TwoNumbers, SomeValues, OneBlock, ValueAndBlocks, ResultValue, ExceptionAndValue}
use Rattle.hilti_typing.specs.Laws.{PlainRows, NumberRows, OwnRows, FlowRows}

-- values of plain types
no_value : (s : Setting) (g : Gives) (items : List Operand) → Fit s g [] Known.Nothing items → (items ≡ []) × Gets s g Known.Nothing
unfolding Fit
no_value s g [] fit = (refl, fit)
no_value s g (x ∷ more) fit = absurd fit

one_value : (s : Setting) (g : Gives) (a : Plain) (items : List Operand) → Fit s g (Fixed a ∷ []) Known.Nothing items →
    HaveAll s.context (plain_type a ∷ []) items × Gets s g Known.Nothing
unfolding Fit
one_value s g a [] fit = absurd fit
one_value s g a (x ∷ []) fit = ((fit.0, tt), fit.1)
one_value s g a (x ∷ y ∷ more) fit = absurd fit.1

two_values : (s : Setting) (g : Gives) (a b : Plain) (items : List Operand) → Fit s g (Fixed a ∷ Fixed b ∷ []) Known.Nothing items →
    HaveAll s.context (plain_type a ∷ plain_type b ∷ []) items × Gets s g Known.Nothing
unfolding Fit
two_values s g a b [] fit = absurd fit
two_values s g a b (x ∷ []) fit = absurd fit.1
two_values s g a b (x ∷ y ∷ []) fit = ((fit.0, (fit.1.0, tt)), fit.1.1)
two_values s g a b (x ∷ y ∷ z ∷ more) fit = absurd fit.1.1

three_values : (s : Setting) (g : Gives) (a b c : Plain) (items : List Operand) → Fit s g (Fixed a ∷ Fixed b ∷ Fixed c ∷ []) Known.Nothing items →
    HaveAll s.context (plain_type a ∷ plain_type b ∷ plain_type c ∷ []) items × Gets s g Known.Nothing
unfolding Fit
three_values s g a b c [] fit = absurd fit
three_values s g a b c (x ∷ []) fit = absurd fit.1
three_values s g a b c (x ∷ y ∷ []) fit = absurd fit.1.1
three_values s g a b c (x ∷ y ∷ z ∷ []) fit = ((fit.0, (fit.1.0, (fit.1.1.0, tt))), fit.1.1.1)
three_values s g a b c (x ∷ y ∷ z ∷ w ∷ more) fit = absurd fit.1.1.1

two_numbers : (s : Setting) (g : Gives) (items : List Operand) → Fit s g (Sized ∷ Sized ∷ []) Known.Nothing items →
    TwoNumbers s items × Gets s g Known.Nothing
unfolding Fit
two_numbers s g [] fit = absurd fit
two_numbers s g (x ∷ []) fit = absurd fit.1
two_numbers s g (x ∷ y ∷ []) fit = ((fit.0, (fit.1.0, tt)), fit.1.1)
two_numbers s g (x ∷ y ∷ z ∷ more) fit = absurd fit.1.1

pub plain_rows : PlainRows
plain_rows = record {
  none = λ s g r f items fits. no_value s g items fits.fit;
  one = λ a s g r f items fits. one_value s g a items fits.fit;
  two = λ a b s g r f items fits. two_values s g a b items fits.fit;
  three = λ a b c s g r f items fits. three_values s g a b c items fits.fit;
}

pub number_rows : NumberRows
number_rows s g r f items fits = two_numbers s g items fits.fit

-- the type of a value that passes a test is known behind it
own_of : (s : Setting) (test : Test) (x : Operand) (kind : Option ValueType) (rest : Known → Type 0) → given_kind x ≡ kind → IsSound s.context x →
    IsSomeAnd kind (λ t. Passes s test t) → rest (knowing kind) → (t : ValueType) × Passes s test t × Has s.context t x × rest (Known.Of t)
own_of s test x None rest e sound is more = absurd is
own_of s test x (Some t) rest e sound is more = (t, is, record { sound = sound; of_type = e }, more)

pub own : (s : Setting) (test : Test) (x : Operand) (rest : Known → Type 0) → AsksOwn s.context test x → rest (knowing (given_kind x)) →
    (t : ValueType) × Passes s test t × Has s.context t x × rest (Known.Of t)
own s test x rest asks more = own_of s test x (given_kind x) rest refl asks.0 asks.1 more

own_one : (s : Setting) (g : Gives) (test : Test) (items : List Operand) → Fit s g (Own test ∷ []) Known.Nothing items →
    (t : ValueType) × Passes s test t × HaveAll s.context (t ∷ []) items × Gets s g (Known.Of t)
unfolding Fit
own_one s g test [] fit = absurd fit
own_one s g test (x ∷ []) fit = let it = own s test x (λ k. Gets s g k) fit.0 fit.1 in (it.0, it.1, (it.2, tt), it.3)
own_one s g test (x ∷ y ∷ more) fit = absurd fit.1

own_two : (s : Setting) (g : Gives) (test : Test) (items : List Operand) → Fit s g (Own test ∷ Same ∷ []) Known.Nothing items →
    (t : ValueType) × Passes s test t × HaveAll s.context (t ∷ t ∷ []) items × Gets s g (Known.Of t)
unfolding Fit
own_two s g test [] fit = absurd fit
own_two s g test (x ∷ []) fit = absurd fit.1
own_two s g test (x ∷ y ∷ []) fit = let it = own s test x (λ k. HasKnown s.context (known_type k) y × Gets s g k) fit.0 fit.1 in
    (it.0, it.1, (it.2, (it.3.0, tt)), it.3.1)
own_two s g test (x ∷ y ∷ z ∷ more) fit = absurd fit.1.1

own_choice : (s : Setting) (g : Gives) (a : Plain) (test : Test) (items : List Operand) → Fit s g (Fixed a ∷ Own test ∷ Same ∷ []) Known.Nothing items →
    (t : ValueType) × Passes s test t × HaveAll s.context (plain_type a ∷ t ∷ t ∷ []) items × Gets s g (Known.Of t)
unfolding Fit
own_choice s g a test [] fit = absurd fit
own_choice s g a test (w ∷ []) fit = absurd fit.1
own_choice s g a test (w ∷ x ∷ []) fit = absurd fit.1.1
own_choice s g a test (w ∷ x ∷ y ∷ []) fit = let it = own s test x (λ k. HasKnown s.context (known_type k) y × Gets s g k) fit.1.0 fit.1.1 in
    (it.0, it.1, (fit.0, (it.2, (it.3.0, tt))), it.3.1)
own_choice s g a test (w ∷ x ∷ y ∷ z ∷ more) fit = absurd fit.1.1.1

all_own : (s : Setting) (test : Test) (known : Known) (items : List Operand) →
    Fit s gives.Nothing (replicate (length items) (Own test)) known items → All (AsksOwn s.context test) items × (s.target ≡ None)
unfolding Fit
all_own s test known [] fit = (All-nil (AsksOwn s.context test), fit)
all_own s test known (x ∷ more) fit = let it = all_own s test (knowing (given_kind x)) more fit.1 in
    (All-cons (AsksOwn s.context test) x more fit.0 it.0, it.1)

printed : (s : Setting) (items : List Operand) → length items ≤ 8 →
    Fit s gives.Nothing (replicate (length items) (Own tests.Sendable)) Known.Nothing items → SomeValues tests.Sendable s items
printed s items few fit = let it = all_own s tests.Sendable Known.Nothing items fit in record { few = few; each = it.0; no_target = it.1 }

pub own_rows : OwnRows
own_rows = record {
  one = λ test s g r f items fits. own_one s g test items fits.fit;
  two = λ test s g r f items fits. own_two s g test items fits.fit;
  choice = λ a test s g r f items fits. own_choice s g a test items fits.fit;
  print = λ s items fits. printed s items fits.counted fits.fit;
}

-- lines that go on elsewhere
one_block : (s : Setting) (g : Gives) (items : List Operand) → Fit s g (Label ∷ []) Known.Nothing items → OneBlock s items × Gets s g Known.Nothing
unfolding Fit
one_block s g [] fit = absurd fit
one_block s g (x ∷ []) fit = (record { block = x; are = refl; named = fit.0 }, fit.1)
one_block s g (x ∷ y ∷ more) fit = absurd fit.1

value_and_blocks : (s : Setting) (g : Gives) (a : Plain) (items : List Operand) → Fit s g (Fixed a ∷ Label ∷ Label ∷ []) Known.Nothing items →
    ValueAndBlocks (plain_type a) s items × Gets s g Known.Nothing
unfolding Fit
value_and_blocks s g a [] fit = absurd fit
value_and_blocks s g a (x ∷ []) fit = absurd fit.1
value_and_blocks s g a (x ∷ y ∷ []) fit = absurd fit.1.1
value_and_blocks s g a (x ∷ y ∷ z ∷ []) fit =
    (record { test = x; first = y; second = z; are = refl; test_is = fit.0; first_named = fit.1.0; second_named = fit.1.1.0 }, fit.1.1.1)
value_and_blocks s g a (x ∷ y ∷ z ∷ w ∷ more) fit = absurd fit.1.1.1

result_of : (s : Setting) (x : Operand) (t : Option ValueType) → s.context.result ≡ t → HasKnown s.context t x → ResultValue s (x ∷ [])
result_of s x None e has = absurd has
result_of s x (Some t) e has = record { kind = t; result = e; value = (has, tt) }

result_value : (s : Setting) (g : Gives) (items : List Operand) → Fit s g (Returned ∷ []) Known.Nothing items → ResultValue s items × Gets s g Known.Nothing
unfolding Fit
result_value s g [] fit = absurd fit
result_value s g (x ∷ []) fit = (result_of s x s.context.result refl fit.0, fit.1)
result_value s g (x ∷ y ∷ more) fit = absurd fit.1

exception_and_value : (s : Setting) (g : Gives) (a : Plain) (items : List Operand) → Fit s g (Exception ∷ Fixed a ∷ []) Known.Nothing items →
    ExceptionAndValue (plain_type a) s items × Gets s g Known.Nothing
unfolding Fit
exception_and_value s g a [] fit = absurd fit
exception_and_value s g a (x ∷ []) fit = absurd fit.1
exception_and_value s g a (x ∷ y ∷ []) fit = (record { exception = x; value = y; are = refl; named = fit.0; value_is = fit.1.0 }, fit.1.1)
exception_and_value s g a (x ∷ y ∷ z ∷ more) fit = absurd fit.1.1

pub flow_rows : FlowRows
flow_rows = record {
  block = λ s g r f items fits. one_block s g items fits.fit;
  blocks = λ a s g r f items fits. value_and_blocks s g a items fits.fit;
  returned = λ s g r f items fits. result_value s g items fits.fit;
  thrown = λ a s g r f items fits. exception_and_value s g a items fits.fit;
}
