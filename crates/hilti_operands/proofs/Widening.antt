-- The width of a line is the same of what is written and of what is read; and no operand names a hook body.
use Rattle.std.proofs.Common.{◌≡◌, ◌∙◌, ℕ, ◌<◌, Bool, true, false, cond, IsTrue, List, [], ◌∷◌, sym, refl, ap, subst, Option, Some, None, Ok, Err}
use Rattle.std.specs.Prelude.{Result, IsSome, IsSomeAnd, IfSome, slice_get}
use Rattle.std.specs.List.{AllByRecursion}
use Rattle.std.specs.Option.{option_or, unwrap_or}
use Rattle.std.proofs.lemmas.Bool.{false≢true}
use Rattle.hilti_base.specs.declared.names.Place.{Place}
use Rattle.hilti_base.specs.declared.refusal.Refusal.{Refusal}
use Rattle.hilti_types.specs.declared.declared.Declared.{Declared}
use Rattle.hilti_types.specs.declared.value_type.Inner.{Inner}
use Rattle.hilti_types.specs.declared.value_type.ValueType.{ValueType}
use Rattle.hilti_types.specs.declared.value_type.ValueType as type_view
use Rattle.hilti_types.specs.declared.value_type.ValueType.TheVariants as types
use Rattle.hilti_tree.specs.declared.tree.Tree.{Tree}
use Rattle.hilti_module.specs.declared.types.Name.{Name}
use Rattle.hilti_module.specs.declared.module.Operand.{Operand as Written}
use Rattle.hilti_module.specs.declared.module.Operand.TheVariants as written
use Rattle.hilti_module.specs.declared.module.Simple.{Simple}
use Rattle.hilti_module.specs.declared.module.Simple.TheVariants as simples
use Rattle.hilti_link.specs.declared.tables.Tables.{Tables}
use Rattle.hilti_table.specs.declared.row.Kind.{Kind}
use Rattle.hilti_table.specs.declared.row.Kind.TheVariants as kinds
use Rattle.hilti_table.specs.declared.row.Test.{Test}
use Rattle.hilti_table.specs.declared.row.Test.TheVariants as tests
use Rattle.hilti_parts.specs.declared.parts.Operand.{Operand}
use Rattle.hilti_parts.specs.declared.parts.Operand as operand_view
use Rattle.hilti_parts.specs.declared.parts.Operand.TheVariants as operands
use denote.Hole.Carrier
use Rattle.hilti_parts.specs.Named.{given_kind, named_function, named_block, grouped}
use Rattle.hilti_typing.specs.Context.{Signature, Context, Known}
use Rattle.hilti_typing.specs.Fits.{MayBe, learn, callee, hook, overlay, exception_number, made, is_mode, tuple_part, field, overlay_field, int_width, variable_width, first_width, width_of}
use Rattle.hilti_operands.specs.Groups.{members_read, member_types, read_group}
use Rattle.hilti_operands.specs.Laws.{NamesNoBody, ReadsAtItsWidth, ReadsNoBodies}
use Rattle.hilti_operands.specs.Lines.{Read, in_front, read_all, if_passing, first_variable, asks_value, variable_written, written_type, line_with}
use Rattle.hilti_operands.specs.Operands.{read_simple, read_operand}
use Rattle.hilti_operands.specs.Seen.{BodySeen, LineSeen, context, setting}
use Rattle.hilti_operands.specs.Values.{given, kind_given, variable_meant, literal_of_type, read_value, read_asked, read_own, own_type, untyped_by, asked_type, read_tested, read_returned, is_passing}
use Rattle.hilti_operands.proofs.ReadValues.{then_ok, passed, ok_is, of_type_ok, found}
use Rattle.hilti_operands.proofs.ReadGroups.{members_ok}
use Rattle.hilti_operands.proofs.ReadNames.{function_no_body, function_asked, hook_asked, exception_asked, overlay_asked, label_asked, mode_asked, index_asked, field_asked, overlay_field_asked}
use Rattle.hilti_operands.proofs.ReadObjects.{new_asked}

-- an operand that is neither a variable of an int type nor a function
record Plain (x : Operand) : Type 0 where
  no_width : variable_width x ≡ None
  no_function : named_function x ≡ None

hook_plain : (c : Context) (x : Operand) → IsSome (hook c x) → Plain x
hook_plain c (operands.Hook n) h = record { no_width = refl; no_function = refl }
hook_plain c _ h = absurd (false≢true h)

nothing : (xs : List Operand) → ◌≡◌ {A = Option (List Operand)} None (Some xs) → ⊥
nothing xs e = cc

group_plain : (x : Operand) (xs : List Operand) → grouped x ≡ Some xs → Plain x
unfolding operand_view.out-Operand denote.Hole.Carrier.out
group_plain (operands.Var v t) xs e = absurd (nothing xs e)
group_plain (operands.Function f) xs e = absurd (nothing xs e)
group_plain _ xs e = record { no_width = refl; no_function = refl }

exception_plain : (P : ℕ → Type 0) (x : Operand) → IsSomeAnd (exception_number x) P → Plain x
exception_plain P (operands.Exception n) h = record { no_width = refl; no_function = refl }
exception_plain P _ h = absurd h

overlay_plain : (c : Context) (x : Operand) → IsSome (overlay c x) → Plain x
overlay_plain c (operands.Overlay n) h = record { no_width = refl; no_function = refl }
overlay_plain c _ h = absurd (false≢true h)

block_plain : (P : ℕ → Type 0) (x : Operand) → IsSomeAnd (named_block x) P → Plain x
block_plain P (operands.Block n) h = record { no_width = refl; no_function = refl }
block_plain P _ h = absurd h

made_plain : (P : Inner → Type 0) (x : Operand) → IsSomeAnd (made x) P → Plain x
made_plain P (operands.New what) h = record { no_width = refl; no_function = refl }
made_plain P _ h = absurd h

mode_plain : (x : Operand) → IsTrue (is_mode x) → Plain x
mode_plain (operands.Mode access) h = record { no_width = refl; no_function = refl }
mode_plain _ h = absurd (false≢true h)

index_plain : (known : Known) (x : Operand) → IsSome (tuple_part known x) → Plain x
index_plain known (operands.Literal t value) h = record { no_width = refl; no_function = refl }
index_plain known _ h = absurd (false≢true h)

field_plain : (c : Context) (known : Known) (x : Operand) → IsSome (field c known x) → Plain x
field_plain c known (operands.Field n) h = record { no_width = refl; no_function = refl }
field_plain c known _ h = absurd (false≢true h)

overlay_field_plain : (known : Known) (x : Operand) → IsSome (overlay_field known x) → Plain x
overlay_field_plain known (operands.Field n) h = record { no_width = refl; no_function = refl }
overlay_field_plain known _ h = absurd (false≢true h)

function_no_width : (c : Context) (P : Signature → Type 0) (x : Operand) → IsSomeAnd (callee c x) P → variable_width x ≡ None
function_no_width c P (operands.Function f) h = refl
function_no_width c P _ h = absurd h

-- a value has the width of the variable that is written
record Valued (body : BodySeen) (s : Simple) (x : Operand) : Type 0 where
  width : variable_width x ≡ int_width (variable_written body (written.Simple s))
  no_function : named_function x ≡ None

name_valued : (body : BodySeen) (name : Name) (x : Operand) → given body name ≡ Some x → Valued body (simples.Name name) x
name_valued body name x g =
    let it = found body (variable_meant (body.mean name)) x g in
    subst (λ (y : Operand). given body name ≡ Some y → Valued body (simples.Name name) y) (sym it.2)
    (λ g. record { width = sym (ap (λ (o : Option Operand). int_width (kind_given o)) g); no_function = refl }) g

literal_plain : (kind : ValueType) (refusal : Option Refusal) (value : Tree) (x : Operand) → literal_of_type kind refusal value ≡ Ok x → Plain x
literal_plain kind (Some r) value x e = cc
literal_plain kind None value x e =
    subst (λ (y : Operand). Plain y) (ok_is (operands.Literal kind value) x e)
    (let it : Plain (operands.Literal kind value) = record { no_width = refl; no_function = refl } in it)

valued : (body : BodySeen) (kind : ValueType) (s : Simple) (x : Operand) → read_value body kind s ≡ Ok x → Valued body s x
valued body kind (simples.Name name) x e = name_valued body name x (of_type_ok kind (given body name) _ x e).0
valued body kind (simples.Literal literal) x e =
    let p = literal_plain kind _ _ x e in record { width = p.no_width; no_function = p.no_function }
valued body kind (simples.Label place name) x e = cc
valued body kind (simples.Any place) x e = cc
valued body kind (simples.Plain place plain) x e = cc
valued body kind (simples.Parametric parametric) x e = cc
valued body kind (simples.Timer place) x e = cc
valued body kind (simples.Manager place) x e = cc
valued body kind (simples.Container container) x e = cc

asked_valued : (body : BodySeen) (kind : Option ValueType) (s : Simple) (x : Operand) → read_asked body kind s ≡ Ok x → Valued body s x
asked_valued body None s x e = cc
asked_valued body (Some kind) s x e = valued body kind s x e

tested_valued : (line : LineSeen) (test : Test) (s : Simple) (x : Operand) → read_tested line test s ≡ Ok x → Valued line.body s x
tested_valued line test s x e =
    let first = then_ok (read_own line.body (untyped_by line test) s) _ x e in
    let p = passed (is_passing line.body.tables.types test (given_kind first.0)) first.0 x _ first.2 in
    subst (λ (y : Operand). Valued line.body s y) p.1
    (asked_valued line.body (own_type line.body (untyped_by line test) s) s first.0 first.1)

returned_valued : (line : LineSeen) (kind : Option ValueType) (s : Simple) (x : Operand) → read_returned line kind s ≡ Ok x → Valued line.body s x
returned_valued line (Some kind) s x e = valued line.body kind s x e
returned_valued line None s x e = asked_valued line.body _ s x e

-- what is kept of an operand
record Kept (line : LineSeen) (kind : Kind) (w : Written) (x : Operand) : Type 0 where
  width : variable_width x ≡ int_width (written_type line.body kind w)
  no_body : NamesNoBody line.body.tables x

no_name : (tables : Tables) (x : Operand) → named_function x ≡ None → NamesNoBody tables x
no_name tables x e = subst (λ (f : Option ℕ). IfSome f (λ n. IsSomeAnd (slice_get tables.functions n) (λ g. g.hook ≡ None))) (sym e) tt

value_kept : (line : LineSeen) (kind : Kind) (s : Simple) (x : Operand) → asks_value kind ≡ true → Valued line.body s x → Kept line kind (written.Simple s) x
value_kept line kind s x asks v = record {
  width = v.width ∙ sym (ap (λ (b : Bool). int_width (cond b (variable_written line.body (written.Simple s)) None)) asks);
  no_body = no_name line.body.tables x v.no_function;
}

plain_kept : (line : LineSeen) (kind : Kind) (s : Simple) (x : Operand) → asks_value kind ≡ false → Plain x → Kept line kind (written.Simple s) x
plain_kept line kind s x asks p = record {
  width = p.no_width ∙ sym (ap (λ (b : Bool). int_width (cond b (variable_written line.body (written.Simple s)) None)) asks);
  no_body = no_name line.body.tables x p.no_function;
}

simple_kept : (line : LineSeen) (kind : Kind) (known : Known) (s : Simple) (x : Operand) → read_simple line kind known s ≡ Ok x → Kept line kind (written.Simple s) x
simple_kept line (kinds.Own test) known s x e = value_kept line (kinds.Own test) s x refl (tested_valued line test s x e)
simple_kept line kinds.Returned known s x e = value_kept line kinds.Returned s x refl (returned_valued line line.body.function.result s x e)
simple_kept line (kinds.Function which) known s x e = record {
  width = function_no_width (context line.body) (MayBe which) x (function_asked line.body which s x e);
  no_body = function_no_body line.body which s x e;
}
simple_kept line kinds.Hook known s x e = plain_kept line kinds.Hook s x refl (hook_plain (context line.body) x (hook_asked line.body s x e))
simple_kept line kinds.Exception known s x e = plain_kept line kinds.Exception s x refl (exception_plain _ x (exception_asked line.body s x e))
simple_kept line kinds.Overlay known s x e = plain_kept line kinds.Overlay s x refl (overlay_plain (context line.body) x (overlay_asked line.body s x e))
simple_kept line kinds.New known s x e = plain_kept line kinds.New s x refl (made_plain _ x (new_asked line.body s x e))
simple_kept line kinds.Label known s x e = plain_kept line kinds.Label s x refl (block_plain _ x (label_asked line.body s x e))
simple_kept line kinds.Mode known s x e = plain_kept line kinds.Mode s x refl (mode_plain x (mode_asked line.body s x e))
simple_kept line kinds.Index known s x e = plain_kept line kinds.Index s x refl (index_plain known x (index_asked line.body known s x e))
simple_kept line kinds.Field known s x e = plain_kept line kinds.Field s x refl (field_plain (context line.body) known x (field_asked line.body known s x e))
simple_kept line kinds.OverlayField known s x e = plain_kept line kinds.OverlayField s x refl (overlay_field_plain known x (overlay_field_asked line.body known s x e))
simple_kept line (kinds.Fixed plain) known s x e = value_kept line (kinds.Fixed plain) s x refl (asked_valued line.body (asked_type line (kinds.Fixed plain) known) s x e)
simple_kept line kinds.Sized known s x e = value_kept line kinds.Sized s x refl (asked_valued line.body (asked_type line kinds.Sized known) s x e)
simple_kept line (kinds.Part part) known s x e = value_kept line (kinds.Part part) s x refl (asked_valued line.body (asked_type line (kinds.Part part) known) s x e)
simple_kept line kinds.Same known s x e = value_kept line kinds.Same s x refl (asked_valued line.body (asked_type line kinds.Same known) s x e)
simple_kept line kinds.Arguments known s x e = cc
simple_kept line kinds.Sent known s x e = cc
simple_kept line kinds.Parts known s x e = cc
simple_kept line kinds.Rule known s x e = cc
simple_kept line kinds.Query known s x e = cc

grouped_in : (line : LineSeen) (kind : Kind) (place : Place) (items : List Simple) (ts : Option (List ValueType)) (x : Operand) → members_read line kind place items ts ≡ Ok x → (xs : List Operand) × (grouped x ≡ Some xs)
grouped_in line kind place items None x e = cc
grouped_in line kind place items (Some ts) x e = let it = members_ok line kind place items ts x e in (it.1.0, it.1.2)

no_width_in : (b : Bool) → int_width (cond b None None) ≡ None
no_width_in true = refl
no_width_in false = refl

group_kept : (line : LineSeen) (kind : Kind) (known : Known) (place : Place) (items : List Simple) (x : Operand) → read_group line kind known place items ≡ Ok x → Kept line kind (written.Group place items) x
group_kept line kind known place items x e =
    let it = grouped_in line kind place items (member_types line kind known) x e in
    let p = group_plain x it.0 it.1 in
    record { width = p.no_width ∙ sym (no_width_in (asks_value kind)); no_body = no_name line.body.tables x p.no_function }

operand_kept : (line : LineSeen) (kind : Kind) (known : Known) (w : Written) (x : Operand) → read_operand line kind known w ≡ Ok x → Kept line kind w x
operand_kept line kind known (written.Simple s) x e = simple_kept line kind known s x e
operand_kept line kind known (written.Group place items) x e = group_kept line kind known place items x e

-- the first of two that has a width
int_or : (table : List Declared) (t : ValueType) (rest : Option ValueType) → int_width (option_or (if_passing table tests.Int (Some t)) rest) ≡ option_or (int_width (Some t)) (int_width rest)
unfolding type_view.out-ValueType denote.Hole.Carrier.out
int_or table (types.Int bits) rest = refl
int_or table _ rest = refl

width_or : (table : List Declared) (o rest : Option ValueType) → int_width (option_or (if_passing table tests.Int o) rest) ≡ option_or (int_width o) (int_width rest)
width_or table None rest = refl
width_or table (Some t) rest = int_or table t rest

or_assoc : {A : Type 0} (a b c : Option A) → option_or (option_or a b) c ≡ option_or a (option_or b c)
or_assoc None b c = refl
or_assoc (Some x) b c = refl

pub widths_kept : (line : LineSeen) (asked : List Kind) (known : Known) (items : List Written) (read : Read) → read_all line asked known items ≡ Ok read
    → (rest : Option ValueType) → int_width (option_or (first_variable line.body tests.Int asked items) rest) ≡ option_or (first_width read.operands) (int_width rest)
unfolding read_all first_variable first_width
widths_kept line [] known [] read e rest =
    let same : ◌≡◌ {A = Read} (record { operands = []; known = known }) read = ok_is _ read e in
    ap (λ (r : Read). option_or (first_width r.operands) (int_width rest)) same
widths_kept line [] known (x ∷ more) read e rest = cc
widths_kept line (kind ∷ others) known [] read e rest = cc
widths_kept line (kind ∷ others) known (x ∷ more) read e rest =
    let first = then_ok (read_operand line kind known x) _ read e in
    let next = then_ok (read_all line others (learn (setting line) kind known first.0) more) _ read first.2 in
    let same : in_front first.0 next.0 ≡ read = ok_is (in_front first.0 next.0) read next.2 in
    let kept = operand_kept line kind known x first.0 first.1 in
    let written = written_type line.body kind x in
    let behind = option_or (first_variable line.body tests.Int others more) rest in
    let here = ap int_width (or_assoc (if_passing line.body.tables.types tests.Int written) (first_variable line.body tests.Int others more) rest) ∙ width_or line.body.tables.types written behind in
    here ∙ (ap (λ (w : Option ℕ). option_or w (int_width behind)) (sym kept.width)
    ∙ (ap (λ (w : Option ℕ). option_or (variable_width first.0) w) (widths_kept line others (learn (setting line) kind known first.0) more next.0 next.1 rest)
    ∙ (sym (or_assoc (variable_width first.0) (first_width next.0.operands) (int_width rest))
    ∙ ap (λ (r : Read). option_or (first_width r.operands) (int_width rest)) same)))

pub width_is_kept : ReadsAtItsWidth
width_is_kept body mnemonic target asked items read e =
    ap (λ (w : Option ℕ). unwrap_or w 64) (sym (widths_kept (line_with body mnemonic target asked items) asked Known.Nothing items read e target))

pub no_bodies : ReadsNoBodies
unfolding read_all
no_bodies line [] known [] read e =
    let same : ◌≡◌ {A = Read} (record { operands = []; known = known }) read = ok_is _ read e in
    subst (λ (r : Read). AllByRecursion (NamesNoBody line.body.tables) r.operands) same tt
no_bodies line [] known (x ∷ more) read e = cc
no_bodies line (kind ∷ others) known [] read e = cc
no_bodies line (kind ∷ others) known (x ∷ more) read e =
    let first = then_ok (read_operand line kind known x) _ read e in
    let next = then_ok (read_all line others (learn (setting line) kind known first.0) more) _ read first.2 in
    let same : in_front first.0 next.0 ≡ read = ok_is (in_front first.0 next.0) read next.2 in
    let kept = operand_kept line kind known x first.0 first.1 in
    subst (λ (r : Read). AllByRecursion (NamesNoBody line.body.tables) r.operands) same
    (kept.no_body, no_bodies line others (learn (setting line) kind known first.0) more next.0 next.1)
