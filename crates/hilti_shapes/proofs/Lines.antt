-- The rows of typed lines are typed.
use Rattle.std.proofs.Common.{◌≡◌, ℕ, ◌<◌, Bool, true, false, List, [], ◌∷◌, refl, sym, ap, ◌∙◌}
use Rattle.std.proofs.Common.{Option, Some, None, IsSomeAnd, slice_get, arith}
use Rattle.std.proofs.Math.Path.{subst}
use Rattle.std.specs.Prelude.{◌==◌, if◌then◌else◌}
use Rattle.std.specs.List.{AllByRecursion}
use Rattle.std.specs.Option.{option_map, option_and_then}
use Rattle.std.proofs.lemmas.Bool.Decides.{nat_tests}
use Rattle.std.proofs.lemmas.Option.{same_Some, slice_get-map}
use Rattle.hilti_base.specs.declared.names.FnId.{FnId}
use Rattle.hilti_int.specs.declared.comparisons.IntCmp.{IntCmp}
use Rattle.hilti_int.specs.declared.operations.IntOp.{IntOp}
use Rattle.hilti_int.specs.declared.width.Width.{Width}
use Rattle.hilti_int.specs.declared.width.Width.TheVariants.{W8, W16, W32, W64}
use Rattle.hilti_int.specs.Integers.{bits_of}
use Rattle.hilti_types.specs.declared.declared.Member.{Member}
use Rattle.hilti_types.specs.declared.value_type.Inner.{Inner, out-Inner, roll-Inner, roll-out-Inner, out-roll-Inner}
use Rattle.hilti_types.specs.declared.value_type.Inner.TheOpen.{Inner-F}
use Rattle.hilti_types.specs.declared.value_type.Inner.TheVariants as inners
use Rattle.hilti_types.specs.declared.value_type.ValueType.{ValueType}
use Rattle.hilti_types.specs.declared.value_type.ValueType.TheVariants as types
use Rattle.hilti_table.specs.declared.row.Test.TheVariants as tests
use Rattle.hilti_parts.specs.declared.parts.Operand.{Operand, out-Operand, roll-Operand, roll-out-Operand}
use Rattle.hilti_parts.specs.declared.parts.Operand.TheOpen.{Operand-F}
use Rattle.hilti_parts.specs.declared.parts.Operand.TheVariants as operands
use Rattle.hilti_parts.specs.declared.parts.Variable.{Variable}
use Rattle.hilti_parts.specs.Named.{given_kind, named_block, named_function, grouped}
use Rattle.hilti_typing.specs.Context.{Signature, Context, Setting}
use Rattle.hilti_typing.specs.Types.{fields_of, fields_of_shape, struct_fields}
use Rattle.hilti_typing.specs.Fits.{Has as Fit, HaveAll, AsksOwn, MayTake, callee, exception_number}
use Rattle.hilti_typing.specs.Fits.{field_number, field_type, int_width, made}
use Rattle.hilti_typing.specs.Facts.{FieldOfStruct}
use Rattle.hilti_typing.specs.Programs.{IsTarget as HasTarget}
use Rattle.hilti_rows.specs.declared.row.Binary.{Binary}
use Rattle.hilti_rows.specs.declared.row.Binary.TheVariants as binaries
use Rattle.hilti_rows.specs.declared.row.Printed.{Printed}
use Rattle.hilti_rows.specs.declared.row.Row.{Row}
use Rattle.hilti_rows.specs.declared.row.Row.TheVariants as rows
use Rattle.hilti_rows.specs.declared.row.Source.{Source}
use Rattle.hilti_rows.specs.declared.row.StructRow.TheVariants as structs
use Rattle.hilti_rows.specs.declared.row.Unary.{Unary}
use Rattle.hilti_rows.specs.Sources.{source_of, sources_of, grouped_sources, printed_of, printed_with, each_of}
use Rattle.hilti_rows.specs.Resolving.{width, unary, binary, selected, tested, function, called}
use Rattle.hilti_rows.specs.Resolving.{bound, jumps, branches, returned, thrown, struct_number}
use Rattle.hilti_rows.specs.Resolving.{declared_struct, new_struct}
use Rattle.hilti_shapes.specs.Objects.{field_types}
use Rattle.hilti_shapes.specs.TypedRows.{IsSource, AreSources, IsTarget, Turns, Combines, Receives}
use Rattle.hilti_shapes.specs.TypedRows.{IsCall, IsBind, IsField, IsRow}
use Rattle.hilti_shapes.proofs.Sources.{mapped, behind, both_are, source_is, sources_are}

-- the width of so many bits has so many
width_by : (n : ℕ) (w : Width) (a b c d : Bool) → (a ≡ true → n ≡ 8) → (b ≡ true → n ≡ 16) → (c ≡ true → n ≡ 32)
    → (d ≡ true → n ≡ 64)
    → (if a then Some W8 else if b then Some W16 else if c then Some W32 else if d then Some W64 else None) ≡ Some w
    → n ≡ bits_of w
width_by n w true b c d f g h i e = f refl ∙ ap bits_of (same_Some W8 w e)
width_by n w false true c d f g h i e = g refl ∙ ap bits_of (same_Some W16 w e)
width_by n w false false true d f g h i e = h refl ∙ ap bits_of (same_Some W32 w e)
width_by n w false false false true f g h i e = i refl ∙ ap bits_of (same_Some W64 w e)
width_by n w false false false false f g h i e = absurd cc

same_number : (n m : ℕ) → (n == m) ≡ true → n ≡ m
same_number n m h = grind (arith, nat_tests, h)

width_is : (n : ℕ) (w : Width) → width n ≡ Some w → n ≡ bits_of w
width_is n w e = width_by n w (n == 8) (n == 16) (n == 32) (n == 64) (same_number n 8) (same_number n 16)
    (same_number n 32) (same_number n 64) e

-- what operands name
function_shape : (f : FnId) (x : Operand-F Operand) → function (roll-Operand x) ≡ Some f
    → named_function (roll-Operand x) ≡ Some f.n
function_shape f (Operand-F.Function g) e = subst (λ x. function x ≡ Some f
    → named_function x ≡ Some f.n) (sym (operands.rolls-Function g)) (λ e. ap (λ (o : FnId). Some o.n) (same_Some g f
    e)) e
function_shape f (Operand-F.Var v kind) e = absurd (subst (λ x. function x ≡ Some f
    → ⊥) (sym (operands.rolls-Var v kind)) (λ e. cc) e)
function_shape f (Operand-F.Literal kind tree) e = absurd (subst (λ x. function x ≡ Some f
    → ⊥) (sym (operands.rolls-Literal kind tree)) (λ e. cc) e)
function_shape f Operand-F.Star e = absurd (subst (λ x. function x ≡ Some f
    → ⊥) (sym operands.rolls-Star) (λ e. cc) e)
function_shape f (Operand-F.Block n) e = absurd (subst (λ x. function x ≡ Some f
    → ⊥) (sym (operands.rolls-Block n)) (λ e. cc) e)
function_shape f (Operand-F.Hook n) e = absurd (subst (λ x. function x ≡ Some f
    → ⊥) (sym (operands.rolls-Hook n)) (λ e. cc) e)
function_shape f (Operand-F.Exception n) e = absurd (subst (λ x. function x ≡ Some f
    → ⊥) (sym (operands.rolls-Exception n)) (λ e. cc) e)
function_shape f (Operand-F.Field n) e = absurd (subst (λ x. function x ≡ Some f
    → ⊥) (sym (operands.rolls-Field n)) (λ e. cc) e)
function_shape f (Operand-F.Overlay n) e = absurd (subst (λ x. function x ≡ Some f
    → ⊥) (sym (operands.rolls-Overlay n)) (λ e. cc) e)
function_shape f (Operand-F.New what) e = absurd (subst (λ x. function x ≡ Some f
    → ⊥) (sym (operands.rolls-New what)) (λ e. cc) e)
function_shape f (Operand-F.Mode access) e = absurd (subst (λ x. function x ≡ Some f
    → ⊥) (sym (operands.rolls-Mode access)) (λ e. cc) e)
function_shape f (Operand-F.Group items) e = absurd (subst (λ x. function x ≡ Some f
    → ⊥) (sym (operands.rolls-Group items)) (λ e. cc) e)

function_named : (f : FnId) (x : Operand) → function x ≡ Some f → named_function x ≡ Some f.n
function_named f x = subst (λ x. function x ≡ Some f
    → named_function x ≡ Some f.n) (roll-out-Operand x) (function_shape f (out-Operand x))

struct_shape : (n : ℕ) (x : Inner-F Inner ValueType) → struct_number (roll-Inner x) ≡ Some n
    → roll-Inner x ≡ inners.Struct n
struct_shape n (Inner-F.Struct m) e = subst (λ x. struct_number x ≡ Some n
    → x ≡ inners.Struct n) (sym (inners.rolls-Struct m)) (λ e. ap inners.Struct (same_Some m n e)) e
struct_shape n Inner-F.Timer e = absurd (subst (λ x. struct_number x ≡ Some n
    → ⊥) (sym inners.rolls-Timer) (λ e. cc) e)
struct_shape n Inner-F.Manager e = absurd (subst (λ x. struct_number x ≡ Some n
    → ⊥) (sym inners.rolls-Manager) (λ e. cc) e)
struct_shape n (Inner-F.List item) e = absurd (subst (λ x. struct_number x ≡ Some n
    → ⊥) (sym (inners.rolls-List item)) (λ e. cc) e)
struct_shape n (Inner-F.Vector item) e = absurd (subst (λ x. struct_number x ≡ Some n
    → ⊥) (sym (inners.rolls-Vector item)) (λ e. cc) e)
struct_shape n (Inner-F.Set item) e = absurd (subst (λ x. struct_number x ≡ Some n
    → ⊥) (sym (inners.rolls-Set item)) (λ e. cc) e)
struct_shape n (Inner-F.Map key value) e = absurd (subst (λ x. struct_number x ≡ Some n
    → ⊥) (sym (inners.rolls-Map key value)) (λ e. cc) e)
struct_shape n (Inner-F.Classifier rule value) e = absurd (subst (λ x. struct_number x ≡ Some n
    → ⊥) (sym (inners.rolls-Classifier rule value)) (λ e. cc) e)

struct_named : (n : ℕ) (o : Inner) → struct_number o ≡ Some n → o ≡ inners.Struct n
struct_named n o = subst (λ x. struct_number x ≡ Some n
    → x ≡ inners.Struct n) (roll-out-Inner o) (struct_shape n (out-Inner o))

module _ (c : Context) where
  pub at_target : (target : Option Variable) (kind : Option ValueType) → HasTarget c target kind
      → (v : Variable) (t : ValueType) → target ≡ Some v → kind ≡ Some t → IsTarget c v t
  at_target None kind is v t e f = absurd cc
  at_target (Some w) None is v t e f = absurd is
  at_target (Some w) (Some u) is v t e f = subst (λ w. IsTarget c w t) (same_Some w v e) (is ∙ f)

  no_target : (target : Option Variable) (kind : Option ValueType) → HasTarget c target kind → (v : Variable)
      → target ≡ Some v → kind ≡ None → ⊥
  no_target None kind is v e f = cc
  no_target (Some w) None is v e f = is
  no_target (Some w) (Some u) is v e f = cc

  module _ (target : Option Variable) (kind : Option ValueType) (is : HasTarget c target kind) where
    pub unary_row : (op : Unary) (from to : ValueType) (items : List Operand) (row : Row) (o : Option Variable)
        → target ≡ o → Turns op from to → HaveAll c (from ∷ []) items → kind ≡ Some to
        → unary op o items ≡ Some row → IsRow c row
    unary_row op from to (a ∷ []) row (Some v) f turns h k e =
        let m = mapped (rows.Unary op v) (source_of a) row e in
        subst (IsRow c) m.2 (record {
          from = from;
          to = to;
          turns = turns;
          operand = source_is c from m.0 a h.0 m.1;
          goes = at_target target kind is v to f k;
        })
    unary_row op from to [] row o f turns h k e = absurd h
    unary_row op from to (a ∷ b ∷ more) row o f turns h k e = absurd h.1
    unary_row op from to (a ∷ []) row None f turns h k e = absurd cc

    pub binary_row : (op : Binary) (of to : ValueType) (items : List Operand) (row : Row) (o : Option Variable)
        → target ≡ o → Combines op of to → HaveAll c (of ∷ of ∷ []) items → kind ≡ Some to
        → binary op o items ≡ Some row → IsRow c row
    binary_row op of to (a ∷ b ∷ []) row (Some v) f combines h k e =
        let m = both_are (rows.Binary op v) (source_of a) (source_of b) row e in
        subst (IsRow c) m.4 (record {
          of = of;
          to = to;
          combines = combines;
          first = source_is c of m.0 a h.0 m.2;
          second = source_is c of m.1 b h.1.0 m.3;
          goes = at_target target kind is v to f k;
        })
    binary_row op of to [] row o f combines h k e = absurd h
    binary_row op of to (a ∷ []) row o f combines h k e = absurd h.1
    binary_row op of to (a ∷ b ∷ d ∷ more) row o f combines h k e = absurd h.1.1
    binary_row op of to (a ∷ b ∷ []) row None f combines h k e = absurd cc

    pub sized_row : (op : IntOp) (n : ℕ) (items : List Operand) (row : Row)
        → HaveAll c (types.Int n ∷ types.Int n ∷ []) items → kind ≡ Some (types.Int n)
        → option_and_then (λ w. binary (binaries.Int op w) target items) (width n) ≡ Some row → IsRow c row
    sized_row op n items row h k e =
        let m = behind (λ w. binary (binaries.Int op w) target items) (width n) row e in
        let i = ap types.Int (width_is n m.0 m.1) in
        binary_row (binaries.Int op m.0) (types.Int n) (types.Int n) items row target refl (i, i) h k m.2

    pub compared_row : (op : IntCmp) (n : ℕ) (items : List Operand) (row : Row)
        → HaveAll c (types.Int n ∷ types.Int n ∷ []) items → kind ≡ Some types.Bool
        → option_and_then (λ w. binary (binaries.Compare op w) target items) (width n) ≡ Some row → IsRow c row
    compared_row op n items row h k e =
        let m = behind (λ w. binary (binaries.Compare op w) target items) (width n) row e in
        binary_row (binaries.Compare op m.0) (types.Int n) types.Bool items row target refl (
          ap types.Int (width_is n
              m.0 m.1),
          refl,
        ) h k m.2

    pub converted_row : (op : Width → Unary) → ((w : Width) (bits : ℕ)
        → Turns (op w) (types.Int bits) (types.Int (bits_of w))) → (bits n : ℕ) (items : List Operand) (row : Row)
        → HaveAll c (types.Int bits ∷ []) items → kind ≡ Some (types.Int n)
        → option_and_then (λ w. unary (op w) target items) (option_and_then width (int_width kind)) ≡ Some row
        → IsRow c row
    converted_row op turns bits n items row h k e =
        let m = behind (λ w. unary (op w) target items) (option_and_then width (int_width kind)) row e in
        let i : width n ≡ Some m.0 = ap (λ o. option_and_then width (int_width o)) (sym k) ∙ m.1 in
        unary_row (op m.0) (types.Int bits) (types.Int (bits_of m.0)) items row target refl (turns m.0 bits) h (k
        ∙ ap (λ n. Some (types.Int n)) (width_is n m.0 i)) m.2

    pub selected_row : (of : ValueType) (items : List Operand) (row : Row) (o : Option Variable) → target ≡ o
        → HaveAll c (types.Bool ∷ of ∷ of ∷ []) items → kind ≡ Some of → selected o items ≡ Some row → IsRow c row
    selected_row of (test ∷ a ∷ b ∷ []) row (Some v) f h k e =
        let m = behind _ (source_of test) row e in
        let n = both_are (rows.Select v m.0) (source_of a) (source_of b) row m.2 in
        subst (IsRow c) n.4 (record {
          of = of;
          condition = source_is c types.Bool m.0 test h.0 m.1;
          first = source_is
              c of n.0 a h.1.0 n.2;
          second = source_is c of n.1 b h.1.1.0 n.3;
          goes = at_target target kind is v of f k;
        })
    selected_row of [] row o f h k e = absurd h
    selected_row of (test ∷ []) row o f h k e = absurd h.1
    selected_row of (test ∷ a ∷ []) row o f h k e = absurd h.1.1
    selected_row of (test ∷ a ∷ b ∷ d ∷ more) row o f h k e = absurd h.1.1.1
    selected_row of (test ∷ a ∷ b ∷ []) row None f h k e = absurd cc

    pub tested_row : (of : ValueType) (items : List Operand) (row : Row) (o : Option Variable) → target ≡ o
        → HaveAll c (of ∷ []) items → kind ≡ Some types.Bool → tested o items ≡ Some row → IsRow c row
    tested_row of (a ∷ []) row (Some v) f h k e =
        let m = mapped (rows.IsNull v) (source_of a) row e in
        subst (IsRow c) m.2 (record {
          of = of;
          operand = source_is c of m.0 a h.0 m.1;
          goes = at_target target kind
              is v types.Bool f k;
        })
    tested_row of [] row o f h k e = absurd h
    tested_row of (a ∷ b ∷ more) row o f h k e = absurd h.1
    tested_row of (a ∷ []) row None f h k e = absurd cc

    -- arguments, and the function that takes them
    callee_is : (called : Operand) (f : FnId) (s : Signature) → function called ≡ Some f → callee c called ≡ Some s
        → slice_get c.functions f.n ≡ Some s
    callee_is called f s e is = sym (ap (option_and_then (λ (n : ℕ). slice_get c.functions n)) (function_named f
        called e)) ∙ is

    given : (group : Operand) (items : List Operand) (ss : List Source) (ts : List ValueType)
        → grouped group ≡ Some items → HaveAll c ts items → grouped_sources group ≡ Some ss → AreSources c ss ts
    given group items ss ts g h e = sources_are c ts items ss h (sym (ap (option_and_then sources_of) g) ∙ e)

    receives : (o : Option Variable) (result : Option ValueType) → target ≡ o → MayTake kind result
        → Receives c o result
    receives None result f may = tt
    receives (Some v) result f may = takes kind refl may
      where
        takes : (q : Option ValueType) → kind ≡ q → MayTake q result → IsSomeAnd result (IsTarget c v)
        takes None e may = absurd (no_target target kind is v f e)
        takes (Some t) e may = subst (λ r. IsSomeAnd r (IsTarget c v)) (sym may) (at_target target kind is v t f e)

    pub called_row : (x group : Operand) (args : List Operand) (s : Signature) (row : Row) → callee c x ≡ Some s
        → grouped group ≡ Some args → HaveAll c s.parameters args → MayTake kind s.result
        → called target (x ∷ group ∷ []) ≡ Some row → IsRow c row
    called_row x group args s row find g h may e =
        let m = both_are (λ f arguments. rows.Call f arguments target) (function x) (grouped_sources group) row e in
        subst (IsRow c) m.4 (subst (λ o. IsSomeAnd o (IsCall c m.1 target)) (sym (callee_is x m.0 s m.2 find))
        (record { given = given group args m.1 s.parameters g h m.3; receives = receives target s.result refl may }))

    pub bound_row : (x group : Operand) (args : List Operand) (s : Signature) (row : Row) (o : Option Variable)
        → target ≡ o → callee c x ≡ Some s → grouped group ≡ Some args → HaveAll c s.parameters args → s.result ≡ None
        → kind ≡ Some types.Callable → bound o (x ∷ group ∷ []) ≡ Some row → IsRow c row
    bound_row x group args s row (Some v) f find g h void k e =
        let m = both_are (rows.Bind v) (function x) (grouped_sources group) row e in
        subst (IsRow c) m.4 (subst (λ o. IsSomeAnd o (IsBind c v m.1)) (sym (callee_is x m.0 s m.2 find))
        (record {
          void = void;
          given = given group args m.1 s.parameters g h m.3;
          goes = at_target target kind is v
              types.Callable f k;
        }))
    bound_row x group args s row None f find g h void k e = absurd cc

    pub new_row : (word : Operand) (o : Inner) (row : Row) (t : Option Variable) → target ≡ t → made word ≡ Some o
        → kind ≡ Some (types.Ref o) → new_struct t (word ∷ []) ≡ Some row → IsRow c row
    new_row word o row (Some v) f names k e =
        let m = mapped (λ n. rows.Struct (structs.New v n)) (declared_struct word) row e in
        let n : struct_number o ≡ Some m.0 = sym (ap (option_and_then struct_number) names) ∙ m.1 in
        subst (IsRow c) m.2 (at_target target kind is v (types.Ref (inners.Struct m.0)) f (k
        ∙ ap (λ o. Some (types.Ref o)) (struct_named m.0 o n)))
    new_row word o row None f names k e = absurd cc

  same_fields : (n : ℕ) → fields_of c.declared (inners.Struct n) ≡ struct_fields (slice_get c.declared n)
  same_fields n = ap (fields_of c.declared) (sym (inners.rolls-Struct n))
      ∙ ap (fields_of_shape c.declared) (out-roll-Inner (Inner-F.Struct n))

  -- a field that a line names
  pub field_is : (s : Setting) (more items : List Operand) (f : FieldOfStruct more s items) → s.context ≡ c
      → (o : Source) (at : ℕ) → source_of f.holder ≡ Some o → field_number f.name ≡ Some at
      → (i : IsField c o at) × (i.kind ≡ f.kind)
  field_is s more items f same o at e n =
      let there : slice_get (field_types c.declared f.struct_number) f.at ≡ Some f.kind =
      slice_get-map (λ (m : Member). m.kind) (struct_fields (slice_get c.declared f.struct_number)) f.at
      ∙ ap (λ (ms : List Member). option_map (λ (m : Member). m.kind) (slice_get ms f.at)) (sym (same_fields
      f.struct_number))
      ∙ subst (λ (d : Context). field_type d (inners.Struct f.struct_number) f.at ≡ Some f.kind) same f.field_is in
      let i : f.at ≡ at = same_Some f.at at (sym f.written ∙ n) in (
        record {
          struct = f.struct_number;
          kind = f.kind;
          holder = source_is c (types.Ref (inners.Struct f.struct_number)) o f.holder (subst (λ (d : Context). Fit d
              (types.Ref (inners.Struct f.struct_number)) f.holder) same f.holder_is) e;
          there = subst (λ n. slice_get (field_types c.declared f.struct_number) n ≡ Some f.kind) i there;
        },
        refl,
      )

  -- values that are printed
  printed_given : (x : Operand) (s : Source) (item : Printed) (k : Option ValueType) → given_kind x ≡ k
      → source_of x ≡ Some s → printed_with k s ≡ Some item → AsksOwn c tests.Sendable x
      → IsSource c item.value item.kind
  printed_given x s item None g e p asks = absurd cc
  printed_given x s item (Some kind) g e p asks =
      subst (λ (i : Printed). IsSource c i.value i.kind) (same_Some (record { value = s; kind = kind }) item p)
      (source_is c kind s x (record { sound = asks.0; of_type = g }) e)

  printed_item : (x : Operand) (item : Printed) → AsksOwn c tests.Sendable x → printed_of x ≡ Some item
      → IsSource c item.value item.kind
  printed_item x item asks e =
      let m = behind (printed_with (given_kind x)) (source_of x) item e in
      printed_given x m.0 item (given_kind x) refl m.1 m.2 asks

  pub printed_items : (xs : List Operand) (items : List Printed) → AllByRecursion (AsksOwn c tests.Sendable) xs
      → each_of printed_of xs ≡ Some items → AllByRecursion (λ (item : Printed). IsSource c item.value item.kind)
      items
  printed_items [] items h e = subst (AllByRecursion (λ (item : Printed). IsSource c item.value item.kind))
      (same_Some [] items e) tt
  printed_items (x ∷ xs) items h e =
      let a = behind (λ y. option_map (λ ys. y ∷ ys) (each_of printed_of xs)) (printed_of x) items e in
      let b = mapped (λ ys. a.0 ∷ ys) (each_of printed_of xs) items a.2 in
      subst (AllByRecursion (λ (item : Printed). IsSource c item.value item.kind)) b.2 (
        printed_item x a.0 h.0 a.1,
        printed_items xs b.0 h.1 b.1,
      )

  -- rows that go on elsewhere
  block_below : (x : Operand) (n : ℕ) → named_block x ≡ Some n → IsSomeAnd (named_block x) (λ n. n < c.blocks)
      → n < c.blocks
  block_below x n e h = subst (λ o. IsSomeAnd o (λ n. n < c.blocks)) e h

  pub jump_row : (x : Operand) (row : Row) → IsSomeAnd (named_block x) (λ n. n < c.blocks)
      → jumps (x ∷ []) ≡ Some row → IsRow c row
  jump_row x row h e = let m = mapped rows.Jump (named_block x) row e in subst (IsRow c) m.2 (block_below x m.0 m.1 h)

  pub branch_row : (test x y : Operand) (row : Row) → Fit c types.Bool test
      → IsSomeAnd (named_block x) (λ n. n < c.blocks) → IsSomeAnd (named_block y) (λ n. n < c.blocks)
      → branches (test ∷ x ∷ y ∷ []) ≡ Some row → IsRow c row
  branch_row test x y row t h g e =
      let m = behind _ (source_of test) row e in
      let n = both_are (rows.IfElse m.0) (named_block x) (named_block y) row m.2 in
      subst (IsRow c) n.4 (record {
        condition = source_is c types.Bool m.0 test t m.1;
        first = block_below x n.0 n.2
            h;
        second = block_below y n.1 n.3 g;
      })

  pub result_row : (kind : ValueType) (items : List Operand) (row : Row) → c.result ≡ Some kind
      → HaveAll c (kind ∷ []) items → returned items ≡ Some row → IsRow c row
  result_row kind (x ∷ []) row r h e =
      let m = mapped rows.ReturnResult (source_of x) row e in
      subst (IsRow c) m.2 (subst (λ o. IsSomeAnd o (IsSource c m.0)) (sym r) (source_is c kind m.0 x h.0 m.1))
  result_row kind [] row r h e = absurd h
  result_row kind (x ∷ y ∷ more) row r h e = absurd h.1

  pub throw_row : (exception text : Operand) (row : Row)
      → IsSomeAnd (exception_number exception) (λ n. n < c.exceptions) → Fit c types.Text text
      → thrown (exception ∷ text ∷ []) ≡ Some row → IsRow c row
  throw_row exception text row h t e =
      let m = both_are rows.Throw (exception_number exception) (source_of text) row e in
      subst (IsRow c) m.4 (record {
        there = subst (λ o. IsSomeAnd o (λ n. n < c.exceptions)) m.2 h;
        of_text =
            source_is c types.Text m.1 text t m.3;
      })
