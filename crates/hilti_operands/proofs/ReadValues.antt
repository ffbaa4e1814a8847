-- What is read of a value is a value of its type.
use Rattle.std.proofs.Common.{◌≡◌, ◌∙◌, ℕ, suc, ◌+◌, ◌<◌, ◌^◌, Bool, true, false, cond, IsTrue, List, [], ◌∷◌, length, sym, refl, ap, subst, Option, Some, None, Ok, Err, arith}
use Rattle.std.specs.Prelude.{nat_lt, not, ◌||◌, ◌&&◌, Result, IsSomeAnd, IsSome, bytes_eq}
use Rattle.std.specs.Option.{option_map, option_and_then, unwrap_or}
use Rattle.std.specs.List.{position, position_or_len, list_any, slice_get}
use Rattle.std.proofs.lemmas.Bool.{false≢true, lt-ltb, eqb-true}
use Rattle.hilti_base.specs.declared.names.Place.{Place}
use Rattle.hilti_base.specs.declared.refusal.Refusal.{Refusal}
use Rattle.hilti_base.specs.declared.refusal.Refusal.TheVariants.{At}
use Rattle.hilti_types.specs.declared.declared.Declared.{Declared}
use Rattle.hilti_types.specs.declared.declared.Declared.TheVariants as tabled
use Rattle.hilti_types.specs.declared.value_type.ValueType.{ValueType}
use Rattle.hilti_types.specs.declared.value_type.ValueType.TheVariants as types
use Rattle.hilti_tree.specs.declared.tree.Tree.{Tree}
use Rattle.hilti_module.specs.declared.types.Name.{Name}
use Rattle.hilti_module.specs.declared.types.Number.{Number}
use Rattle.hilti_module.specs.declared.module.Literal.{Literal}
use Rattle.hilti_module.specs.declared.module.Literal.TheVariants as literals
use Rattle.hilti_module.specs.declared.module.Seconds.{Seconds}
use Rattle.hilti_module.specs.declared.module.Simple.{Simple}
use Rattle.hilti_module.specs.declared.module.Simple.TheVariants as simples
use Rattle.hilti_scope.specs.declared.meaning.Meaning.{Meaning}
use Rattle.hilti_scope.specs.declared.meaning.Meaning.TheVariants as means
use Rattle.hilti_resolve.specs.Forms.{is_addr, is_port, is_bytes}
use Rattle.hilti_resolve.specs.Literals.{literal_refusal, number_refusal, of_kind, is_bool, is_text, is_net, is_time, is_span, may_be_null, seconds_refusal, nanoseconds, constant_refusal, is_enum_of, has_constant}
use Rattle.hilti_resolve.specs.LiteralValues.{literal_value, constant_place, place_in}
use Rattle.hilti_table.specs.declared.row.Test.{Test}
use Rattle.hilti_parts.specs.declared.parts.Operand.{Operand}
use Rattle.hilti_parts.specs.declared.parts.Operand.TheVariants as operands
use Rattle.hilti_parts.specs.declared.parts.Variable.{Variable}
use Rattle.hilti_parts.specs.Named.{given_kind}
use Rattle.hilti_typing.specs.Context.{variable_type}
use Rattle.hilti_typing.specs.Fits.{Has, HasKnown, IsSound, IsValue, AsksOwn, is_wide, is_pick, is_constant}
use Rattle.hilti_typing.specs.Types.{passes}
use Rattle.hilti_row_types.proofs.Sameness.{equal_types}
use Rattle.hilti_operands.specs.declared.own.Untyped.{Untyped}
use Rattle.hilti_operands.specs.Answers.{then_read, if_passes}
use Rattle.hilti_operands.specs.Seen.{BodySeen, LineSeen, context}
use Rattle.hilti_operands.specs.Values.{variable_meant, with_its_type, given, is_of_type, variable_of_type, literal_of_type, read_value, read_asked, read_own, own_type, is_passing, read_tested, untyped_by, read_returned}

pub then_ok : {A B : Type 0} (r : Result A Refusal) (f : A → Result B Refusal) (y : B) → then_read r f ≡ Ok y → (x : A) × (r ≡ Ok x) × (f x ≡ Ok y)
then_ok (Ok x) f y e = (x, refl, e)
then_ok (Err refusal) f y e = cc

pub passed : {A : Type 0} (b : Bool) (x y : A) (refusal : Refusal) → if_passes b x refusal ≡ Ok y → (b ≡ true) × (x ≡ y)
passed true x y refusal e = (refl, cc)
passed false x y refusal e = cc

pub ok_is : {A : Type 0} (x y : A) → ◌≡◌ {A = Result A Refusal} (Ok x) (Ok y) → x ≡ y
ok_is x y e = cc

-- a variable with its type
pub found : (body : BodySeen) (o : Option Variable) (x : Operand) → option_and_then (with_its_type body) o ≡ Some x → (variable : Variable) × (kind : ValueType) × (x ≡ operands.Var variable kind) × (variable_type (context body) variable ≡ Some kind)
found body None x e = cc
found body (Some variable) x e = there (variable_type (context body) variable) refl e
  where
    there : (k : Option ValueType) → variable_type (context body) variable ≡ k → option_map (λ (kind : ValueType). operands.Var variable kind) k ≡ Some x → (w : Variable) × (kind : ValueType) × (x ≡ operands.Var w kind) × (variable_type (context body) w ≡ Some kind)
    there None k e = cc
    there (Some kind) k e = (variable, kind, cc, k)

pub of_type_ok : (kind : ValueType) (g : Option Operand) (r : Refusal) (x : Operand) → variable_of_type kind r g ≡ Ok x → (g ≡ Some x) × (is_of_type kind (given_kind x) ≡ true)
of_type_ok kind None r x e = cc
of_type_ok kind (Some operand) r x e = let p = passed (is_of_type kind (given_kind operand)) operand x r e in (ap Some p.1, sym (ap (λ y. is_of_type kind (given_kind y)) p.1) ∙ p.0)

variable_has : (body : BodySeen) (kind own : ValueType) (variable : Variable) → is_of_type kind (given_kind (operands.Var variable own)) ≡ true → variable_type (context body) variable ≡ Some own → Has (context body) kind (operands.Var variable own)
variable_has body kind own variable e k = record { sound = k; of_type = ap Some (equal_types own kind e) }

name_has : (body : BodySeen) (kind : ValueType) (name : Name) (r : Refusal) (x : Operand) → variable_of_type kind r (given body name) ≡ Ok x → Has (context body) kind x
name_has body kind name r x e =
    let ok = of_type_ok kind (given body name) r x e in
    let it = found body (variable_meant (body.mean name)) x ok.0 in
    subst (λ (y : Operand). Has (context body) kind y) (sym it.2) (variable_has body kind it.1 it.0 (sym (ap (λ y. is_of_type kind (given_kind y)) it.2) ∙ ok.1) it.3)

-- literals
fits_none : (b : Bool) (place : Place) → of_kind b place ≡ None → b ≡ true
fits_none true place e = refl
fits_none false place e = cc

bool_is : (t : ValueType) → is_bool t ≡ true → t ≡ types.Bool
bool_is types.Bool e = refl
bool_is _ e = absurd (false≢true e)

text_is : (t : ValueType) → is_text t ≡ true → t ≡ types.Text
text_is types.Text e = refl
text_is _ e = absurd (false≢true e)

bytes_is : (t : ValueType) → is_bytes t ≡ true → t ≡ types.Bytes
bytes_is types.Bytes e = refl
bytes_is _ e = absurd (false≢true e)

addr_is : (t : ValueType) → is_addr t ≡ true → t ≡ types.Addr
addr_is types.Addr e = refl
addr_is _ e = absurd (false≢true e)

net_is : (t : ValueType) → is_net t ≡ true → t ≡ types.Net
net_is types.Net e = refl
net_is _ e = absurd (false≢true e)

port_is : (t : ValueType) → is_port t ≡ true → t ≡ types.Port
port_is types.Port e = refl
port_is _ e = absurd (false≢true e)

time_is : (t : ValueType) → is_time t ≡ true → t ≡ types.Time
time_is types.Time e = refl
time_is _ e = absurd (false≢true e)

span_is : (t : ValueType) → is_span t ≡ true → t ≡ types.Span
span_is types.Span e = refl
span_is _ e = absurd (false≢true e)

enum_is : (n : ℕ) (t : ValueType) → is_enum_of n t ≡ true → t ≡ types.Enum n
enum_is n (types.Enum m) e = ap types.Enum (sym (eqb-true n m e))
enum_is n _ e = absurd (false≢true e)

number_is : (t : ValueType) (number : Number) → number_refusal t number ≡ None → IsTrue (is_wide number.value t)
number_is (types.Int bits) number e = wide (nat_lt number.value (2 ^ bits)) refl e
  where
    wide : (b : Bool) → nat_lt number.value (2 ^ bits) ≡ b → cond b None (Some (At number.place 36)) ≡ None → IsTrue (nat_lt number.value (2 ^ bits))
    wide true is e = is
    wide false is e = cc
number_is _ number e = cc

seconds_fit : (b : Bool) (place : Place) (number : Seconds) → seconds_refusal b place number ≡ None → b ≡ true
seconds_fit b place number e = small (nat_lt (nanoseconds number) (2 ^ 64)) e
  where
    small : (s : Bool) → cond s (of_kind b place) (Some (At place 36)) ≡ None → b ≡ true
    small true e = fits_none b place e
    small false e = cc

both : (a b : Bool) → (a && b) ≡ true → (a ≡ true) × (b ≡ true)
both true true e = (refl, refl)
both true false e = absurd (false≢true e)
both false b e = absurd (false≢true e)

shorter : (b : Bool) (n m : ℕ) → (b ≡ false → n < m) → cond (not b) (1 + n) 0 < suc m
shorter true n m h = omega arith
shorter false n m h = let k = h refl in omega (arith, k)

other_passes : (b c : Bool) → b ≡ false → (b || c) ≡ true → c ≡ true
other_passes false c is e = e
other_passes true c is e = cc

module _ {X : Type 0} (p : X → Bool) where
  below : (xs : List X) → list_any p xs ≡ true → position_or_len p xs < length xs
  below [] e = absurd (false≢true e)
  below (x ∷ xs) e = shorter (p x) (position_or_len p xs) (length xs) (λ is. below xs (other_passes (p x) (list_any p xs) is e))

  pub found_within : (xs : List X) → list_any p xs ≡ true → nat_lt (unwrap_or (position p xs) 0) (length xs) ≡ true
  found_within xs e =
      let h = lt-ltb (position_or_len p xs) (length xs) (below xs e) in
      ap (λ (b : Bool). nat_lt (unwrap_or (cond b (Some (position_or_len p xs)) None) 0) (length xs)) h ∙ h

constant_there : (d : Option Declared) (word : List ℕ) → has_constant d word ≡ true → IsTrue (is_constant (unwrap_or (place_in d word) 0) d)
constant_there (Some (tabled.Enum name words)) word e = found_within (λ other. bytes_eq other word) words e
constant_there (Some (tabled.Struct name fields)) word e = absurd (false≢true e)
constant_there (Some (tabled.Overlay name fields)) word e = absurd (false≢true e)
constant_there None word e = absurd (false≢true e)

constant_is : (table : List Declared) (t : ValueType) (meaning : Meaning) (place : Place) (word : List ℕ) → constant_refusal table t meaning place word ≡ None
    → IsTrue (is_pick table (constant_place table meaning word) t)
constant_is table t (means.Enum n) place word e =
    let it = both (is_enum_of n t) (has_constant (slice_get table n) word) (fits_none _ place e) in
    subst (λ (k : ValueType). IsTrue (is_pick table (constant_place table (means.Enum n) word) k)) (sym (enum_is n t it.0)) (constant_there (slice_get table n) word it.1)
constant_is table t means.Nothing place word e = cc
constant_is table t _ place word e = cc

value_is : (table : List Declared) (mean : Name → Meaning) (t : ValueType) (literal : Literal) → literal_refusal table mean t literal ≡ None
    → IsValue table t (literal_value table mean literal)
value_is table mean t (literals.Number number) e = number_is t number e
value_is table mean t (literals.Address place bits) e = addr_is t (fits_none _ place e)
value_is table mean t (literals.Net place bits length) e = net_is t (fits_none _ place e)
value_is table mean t (literals.Port place number udp) e = port_is t (fits_none _ place e)
value_is table mean t (literals.Text place bytes) e = text_is t (fits_none _ place e)
value_is table mean t (literals.Bytes place bytes) e = bytes_is t (fits_none _ place e)
value_is table mean t (literals.True place) e = bool_is t (fits_none _ place e)
value_is table mean t (literals.False place) e = bool_is t (fits_none _ place e)
value_is table mean t (literals.Null place) e = fits_none (may_be_null t) place e
value_is table mean t (literals.Constant name constant) e = constant_is table t (mean name) name.first.place constant.bytes e
value_is table mean t (literals.Time place number) e = time_is t (seconds_fit _ place number e)
value_is table mean t (literals.Interval place number) e = span_is t (seconds_fit _ place number e)

literal_has : (body : BodySeen) (kind : ValueType) (refusal : Option Refusal) (value : Tree) (x : Operand)
    → (refusal ≡ None → IsValue body.tables.types kind value) → literal_of_type kind refusal value ≡ Ok x → Has (context body) kind x
literal_has body kind (Some r) value x is e = cc
literal_has body kind None value x is e =
    subst (λ (y : Operand). Has (context body) kind y) (ok_is (operands.Literal kind value) x e)
    (let it : Has (context body) kind (operands.Literal kind value) = record { sound = is refl; of_type = refl } in it)

-- what is read at a type is of that type
pub value_has : (body : BodySeen) (kind : ValueType) (simple : Simple) (x : Operand) → read_value body kind simple ≡ Ok x → Has (context body) kind x
value_has body kind (simples.Name name) x e = name_has body kind name _ x e
value_has body kind (simples.Literal literal) x e = literal_has body kind (literal_refusal body.tables.types body.mean kind literal) (literal_value body.tables.types body.mean literal) x (value_is body.tables.types body.mean kind literal) e
value_has body kind (simples.Label place name) x e = cc
value_has body kind (simples.Any place) x e = cc
value_has body kind (simples.Plain place plain) x e = cc
value_has body kind (simples.Parametric parametric) x e = cc
value_has body kind (simples.Timer place) x e = cc
value_has body kind (simples.Manager place) x e = cc
value_has body kind (simples.Container container) x e = cc

pub asked_has : (body : BodySeen) (kind : Option ValueType) (simple : Simple) (x : Operand) → read_asked body kind simple ≡ Ok x → HasKnown (context body) kind x
asked_has body None simple x e = cc
asked_has body (Some kind) simple x e = value_has body kind simple x e

sound_of : (body : BodySeen) (x : Operand) (kind : Option ValueType) → HasKnown (context body) kind x → IsSound (context body) x
sound_of body x None h = absurd h
sound_of body x (Some kind) h = h.sound

pub own_sound : (body : BodySeen) (untyped : Untyped) (simple : Simple) (x : Operand) → read_own body untyped simple ≡ Ok x → IsSound (context body) x
own_sound body untyped simple x e = sound_of body x (own_type body untyped simple) (asked_has body (own_type body untyped simple) simple x e)

passing : (table : List Declared) (test : Test) (kind : Option ValueType) → is_passing table test kind ≡ true → IsSomeAnd kind (λ t. IsTrue (passes table test t))
passing table test (Some kind) e = e
passing table test None e = absurd (false≢true e)

pub own_asked : (line : LineSeen) (test : Test) (simple : Simple) (x : Operand) → read_tested line test simple ≡ Ok x → AsksOwn (context line.body) test x
own_asked line test simple x e =
    let first = then_ok (read_own line.body (untyped_by line test) simple) _ x e in
    let p = passed (is_passing line.body.tables.types test (given_kind first.0)) first.0 x _ first.2 in
    subst (λ (y : Operand). AsksOwn (context line.body) test y) p.1
    (own_sound line.body (untyped_by line test) simple first.0 first.1, passing line.body.tables.types test (given_kind first.0) p.0)

pub returned_has : (line : LineSeen) (kind : Option ValueType) (simple : Simple) (x : Operand) → IsSome kind → read_returned line kind simple ≡ Ok x → HasKnown (context line.body) kind x
returned_has line (Some kind) simple x some e = value_has line.body kind simple x e
returned_has line None simple x some e = absurd (false≢true some)
