-- What is read of a name is what is asked.
use Rattle.std.proofs.Common.{◌≡◌, ◌∙◌, ℕ, ◌+◌, ◌<◌, Bool, true, false, cond, IsTrue, List, [], ◌∷◌, length, sym, refl, ap, subst, Option, Some, None, Ok, arith}
use Rattle.std.specs.Prelude.{nat_lt, not, ◌&&◌, is_some, ok_or, IsSomeAnd, IsSome, bytes_eq, slice_get, codes}
use Rattle.std.specs.Option.{option_map, option_and_then}
use Rattle.std.specs.List.{position}
use Rattle.std.proofs.lemmas.Bool.{false≢true, ltb-true}
use Rattle.std.proofs.lemmas.List.Quantifiers.{position-Some}
use Rattle.std.proofs.lemmas.Option.{slice_get-get_or, slice_get-map}
use Rattle.hilti_base.specs.declared.refusal.Refusal.{Refusal}
use Rattle.hilti_types.specs.declared.declared.Member.{Member}
use Rattle.hilti_types.specs.declared.declared.OverlayField.{OverlayField}
use Rattle.hilti_types.specs.declared.value_type.Inner.{Inner}
use Rattle.hilti_types.specs.declared.value_type.ValueType.{ValueType}
use Rattle.hilti_types.specs.declared.value_type.ValueType.TheVariants as types
use Rattle.hilti_tree.specs.declared.tree.Tree.TheVariants as trees
use Rattle.hilti_module.specs.declared.types.Number.{Number}
use Rattle.hilti_module.specs.declared.types.Word.{Word}
use Rattle.hilti_module.specs.declared.module.Literal.{Literal}
use Rattle.hilti_module.specs.declared.module.Literal.TheVariants as literals
use Rattle.hilti_module.specs.declared.module.Simple.{Simple}
use Rattle.hilti_module.specs.declared.module.Simple.TheVariants as simples
use Rattle.hilti_scope.specs.declared.meaning.Meaning.{Meaning}
use Rattle.hilti_scope.specs.declared.meaning.Meaning.TheVariants as means
use Rattle.hilti_link.specs.declared.tables.LinkedFunction.{LinkedFunction}
use Rattle.hilti_link.specs.declared.tables.LinkedHook.{LinkedHook}
use Rattle.hilti_table.specs.declared.row.Callee.{Callee}
use Rattle.hilti_table.specs.declared.row.Callee.TheVariants as callees
use Rattle.hilti_parts.specs.declared.parts.Operand.{Operand}
use Rattle.hilti_parts.specs.declared.parts.Operand.TheVariants as operands
use Rattle.hilti_parts.specs.Named.{named_block}
use Rattle.hilti_typing.specs.Context.{Signature, Known}
use Rattle.hilti_typing.specs.Fits.{MayBe, callee, hook, overlay, exception_number, is_mode, tuple_part, field, overlay_field, field_type, known_type, known_object, known_overlay}
use Rattle.hilti_typing.specs.Types.{overlay_fields, fields_of, parts_of}
use Rattle.hilti_operands.specs.Laws.{NamesNoBody}
use Rattle.hilti_operands.specs.Seen.{BodySeen, context, function_signature, hook_signature}
use Rattle.hilti_operands.specs.Names.{meaning_of, read_named, may_be, may_be_named, function_at, function_meant, hook_at, hook_meant, exception_meant, overlay_at, overlay_meant, block_at, read_label, one_word, word_meant, read_word, mode_meant, members, field_at, member_place, field_meant, read_field, read_fields, field_place, overlay_field_meant, read_overlay_field, known_parts, number_below, read_index}
use Rattle.hilti_operands.proofs.ReadValues.{passed, ok_is}

-- what is there
pub there : {A : Type 0} (o : Option A) (r : Refusal) (x : A) → ok_or o r ≡ Ok x → o ≡ Some x
there None r x e = cc
there (Some y) r x e = ap Some (ok_is y x e)

some_if : {A : Type 0} (b : Bool) (x y : A) → cond b (Some x) None ≡ Some y → (b ≡ true) × (x ≡ y)
some_if true x y e = (refl, cc)
some_if false x y e = cc

same_operand : (x y : Operand) → Some x ≡ Some y → x ≡ y
same_operand x y e = cc

both : (a b : Bool) → (a && b) ≡ true → (a ≡ true) × (b ≡ true)
both true true e = (refl, refl)
both true false e = absurd (false≢true e)
both false b e = absurd (false≢true e)

-- functions
void_is : (which : Callee) (f : LinkedFunction) → may_be which f.result ≡ true → MayBe which (function_signature f)
void_is callees.Any f e = tt
void_is callees.Void f e = none f.result e
  where
    none : (r : Option ValueType) → not (is_some r) ≡ true → r ≡ None
    none None e = refl
    none (Some t) e = absurd (false≢true e)

function_found : (body : BodySeen) (which : Callee) (n : ℕ) (f : Option LinkedFunction) (x : Operand) → slice_get body.tables.functions n ≡ f → function_at which n f ≡ Some x
    → IsSomeAnd (callee (context body) x) (MayBe which)
function_found body which n None x is e = cc
function_found body which n (Some f) x is e =
    let p = some_if (may_be_named which f) (operands.Function (record { n = n })) x e in
    subst (λ (y : Operand). IsSomeAnd (callee (context body) y) (MayBe which)) p.1
    (subst (λ (o : Option Signature). IsSomeAnd o (MayBe which)) (sym (slice_get-map function_signature body.tables.functions n ∙ ap (option_map function_signature) is)) (void_is which f (both (not (is_some f.hook)) (may_be which f.result) p.0).1))

function_is : (body : BodySeen) (which : Callee) (meaning : Meaning) (x : Operand) → function_meant body which meaning ≡ Some x → IsSomeAnd (callee (context body) x) (MayBe which)
function_is body which (means.Function n) x e = function_found body which n (slice_get body.tables.functions n) x refl e
function_is body which _ x e = cc

pub function_asked : (body : BodySeen) (which : Callee) (simple : Simple) (x : Operand) → read_named body (function_meant body which) simple ≡ Ok x → IsSomeAnd (callee (context body) x) (MayBe which)
function_asked body which simple x e = function_is body which (meaning_of body simple) x (there _ _ x e)

-- and it is no hook body
no_body : (which : Callee) (f : LinkedFunction) → may_be_named which f ≡ true → f.hook ≡ None
no_body which f e = none f.hook (both (not (is_some f.hook)) (may_be which f.result) e).0
  where
    none : (h : Option ℕ) → not (is_some h) ≡ true → h ≡ None
    none None e = refl
    none (Some n) e = absurd (false≢true e)

function_named : (body : BodySeen) (which : Callee) (n : ℕ) (f : Option LinkedFunction) (x : Operand) → slice_get body.tables.functions n ≡ f → function_at which n f ≡ Some x → NamesNoBody body.tables x
function_named body which n None x is e = cc
function_named body which n (Some f) x is e =
    let p = some_if (may_be_named which f) (operands.Function (record { n = n })) x e in
    subst (λ (y : Operand). NamesNoBody body.tables y) p.1
    (subst (λ (o : Option LinkedFunction). IsSomeAnd o (λ g. g.hook ≡ None)) (sym is) (no_body which f p.0))

function_meaning : (body : BodySeen) (which : Callee) (meaning : Meaning) (x : Operand) → function_meant body which meaning ≡ Some x → NamesNoBody body.tables x
function_meaning body which (means.Function n) x e = function_named body which n (slice_get body.tables.functions n) x refl e
function_meaning body which _ x e = cc

pub function_no_body : (body : BodySeen) (which : Callee) (simple : Simple) (x : Operand) → read_named body (function_meant body which) simple ≡ Ok x → NamesNoBody body.tables x
function_no_body body which simple x e = function_meaning body which (meaning_of body simple) x (there _ _ x e)

-- hooks
hook_found : (body : BodySeen) (n : ℕ) (h : Option LinkedHook) (x : Operand) → slice_get body.tables.hooks n ≡ h → hook_at n h ≡ Some x → IsSome (hook (context body) x)
hook_found body n None x is e = cc
hook_found body n (Some h) x is e =
    subst (λ (y : Operand). IsSome (hook (context body) y)) (same_operand (operands.Hook n) x e)
    (subst (λ (o : Option Signature). IsSome o) (sym (slice_get-map hook_signature body.tables.hooks n ∙ ap (option_map hook_signature) is)) refl)

hook_is : (body : BodySeen) (meaning : Meaning) (x : Operand) → hook_meant body meaning ≡ Some x → IsSome (hook (context body) x)
hook_is body (means.Hook n) x e = hook_found body n (slice_get body.tables.hooks n) x refl e
hook_is body _ x e = cc

pub hook_asked : (body : BodySeen) (simple : Simple) (x : Operand) → read_named body (hook_meant body) simple ≡ Ok x → IsSome (hook (context body) x)
hook_asked body simple x e = hook_is body (meaning_of body simple) x (there _ _ x e)

-- exceptions
exception_is : (body : BodySeen) (meaning : Meaning) (x : Operand) → exception_meant body meaning ≡ Some x → IsSomeAnd (exception_number x) (λ n. n < 7 + length body.tables.exceptions)
exception_is body (means.Exception n) x e =
    let p = some_if (nat_lt n (7 + length body.tables.exceptions)) (operands.Exception n) x e in
    subst (λ (y : Operand). IsSomeAnd (exception_number y) (λ n. n < 7 + length body.tables.exceptions)) p.1 (ltb-true n (7 + length body.tables.exceptions) p.0)
exception_is body _ x e = cc

pub exception_asked : (body : BodySeen) (simple : Simple) (x : Operand) → read_named body (exception_meant body) simple ≡ Ok x → IsSomeAnd (exception_number x) (λ n. n < 7 + length body.tables.exceptions)
exception_asked body simple x e = exception_is body (meaning_of body simple) x (there _ _ x e)

-- overlays
overlay_found : (body : BodySeen) (n : ℕ) (fields : Option (List OverlayField)) (x : Operand) → overlay_fields (slice_get body.tables.types n) ≡ fields → overlay_at n fields ≡ Some x → IsSome (overlay (context body) x)
overlay_found body n None x is e = cc
overlay_found body n (Some fields) x is e =
    subst (λ (y : Operand). IsSome (overlay (context body) y)) (same_operand (operands.Overlay n) x e)
    (subst (λ (o : Option (List OverlayField)). IsSome o) (sym is) refl)

overlay_is : (body : BodySeen) (meaning : Meaning) (x : Operand) → overlay_meant body meaning ≡ Some x → IsSome (overlay (context body) x)
overlay_is body (means.Overlay n) x e = overlay_found body n (overlay_fields (slice_get body.tables.types n)) x refl e
overlay_is body _ x e = cc

pub overlay_asked : (body : BodySeen) (simple : Simple) (x : Operand) → read_named body (overlay_meant body) simple ≡ Ok x → IsSome (overlay (context body) x)
overlay_asked body simple x e = overlay_is body (meaning_of body simple) x (there _ _ x e)

-- labels
block_is : (blocks : ℕ) (n : Option ℕ) (x : Operand) → block_at blocks n ≡ Some x → IsSomeAnd (named_block x) (λ n. n < blocks)
block_is blocks None x e = cc
block_is blocks (Some n) x e =
    let p = some_if (nat_lt n blocks) (operands.Block n) x e in
    subst (λ (y : Operand). IsSomeAnd (named_block y) (λ n. n < blocks)) p.1 (ltb-true n blocks p.0)

pub label_asked : (body : BodySeen) (simple : Simple) (x : Operand) → read_label body simple ≡ Ok x → IsSomeAnd (named_block x) (λ n. n < body.blocks)
label_asked body (simples.Label place name) x e = block_is body.blocks (body.label name.bytes) x (there _ _ x e)
label_asked body (simples.Literal literal) x e = cc
label_asked body (simples.Name name) x e = cc
label_asked body (simples.Any place) x e = cc
label_asked body (simples.Plain place plain) x e = cc
label_asked body (simples.Parametric parametric) x e = cc
label_asked body (simples.Timer place) x e = cc
label_asked body (simples.Manager place) x e = cc
label_asked body (simples.Container container) x e = cc

-- words
word_is : (body : BodySeen) (meant : List ℕ → Option Operand) (word : Option Word) (simple : Simple) (x : Operand) → word_meant body meant word simple ≡ Ok x → (w : List ℕ) × (meant w ≡ Some x)
word_is body meant None simple x e = cc
word_is body meant (Some word) simple x e = (word.bytes, there _ _ x e)

mode_is : (word : List ℕ) (x : Operand) → mode_meant word ≡ Some x → IsTrue (is_mode x)
mode_is word x e = create (bytes_eq word (codes "Create")) (bytes_eq word (codes "Access")) e
  where
    create : (b c : Bool) → cond b (Some (operands.Mode false)) (cond c (Some (operands.Mode true)) None) ≡ Some x → IsTrue (is_mode x)
    create true c e = subst (λ (y : Operand). IsTrue (is_mode y)) (same_operand (operands.Mode false) x e) refl
    create false true e = subst (λ (y : Operand). IsTrue (is_mode y)) (same_operand (operands.Mode true) x e) refl
    create false false e = cc

pub mode_asked : (body : BodySeen) (simple : Simple) (x : Operand) → read_word body mode_meant simple ≡ Ok x → IsTrue (is_mode x)
mode_asked body simple x e = let it = word_is body mode_meant (one_word simple) simple x e in mode_is it.0 x it.1

-- the item at a place that was found
pub position_there : {X : Type 0} (items : List X) (test : X → Bool) (n : ℕ) → position test items ≡ Some n → IsSome (slice_get items n)
position_there [] test n e = cc
position_there (first ∷ more) test n e =
    let p = position-Some test (first ∷ more) n first e in
    ap is_some (slice_get-get_or (first ∷ more) n first p.0)

mapped_there : {X Y : Type 0} (f : X → Y) (o : Option X) → IsSome o → IsSome (option_map f o)
mapped_there f None h = absurd (false≢true h)
mapped_there f (Some x) h = refl

placed : (n : Option ℕ) (x : Operand) → field_at n ≡ Some x → (at : ℕ) × (n ≡ Some at) × (x ≡ operands.Field at)
placed None x e = cc
placed (Some at) x e = (at, refl, sym (same_operand (operands.Field at) x e))

member_there : (fields : List Member) (word : List ℕ) (at : ℕ) → member_place fields word ≡ Some at → IsSome (option_map (λ (m : Member). m.kind) (slice_get fields at))
unfolding member_place
member_there fields word at e = mapped_there (λ (m : Member). m.kind) (slice_get fields at) (position_there fields (λ (m : Member). bytes_eq m.name word) at e)

no_member : (word : List ℕ) (at : ℕ) → member_place [] word ≡ Some at → ⊥
unfolding member_place
no_member word at e = cc

no_field : (word : List ℕ) (at : ℕ) → field_place [] word ≡ Some at → ⊥
unfolding field_place
no_field word at e = cc

field_is : (body : BodySeen) (object : Option Inner) (word : List ℕ) (x : Operand) → field_meant (members body.tables.types object) word ≡ Some x
    → (at : ℕ) × (x ≡ operands.Field at) × IsSome (option_and_then (λ (o : Inner). field_type (context body) o at) object)
field_is body (Some o) word x e =
    let it = placed (member_place (fields_of body.tables.types o) word) x e in (it.0, it.2, member_there (fields_of body.tables.types o) word it.0 it.1)
field_is body None word x e =
    let it = placed (member_place [] word) x e in absurd (no_member word it.0 it.1)

pub field_asked : (body : BodySeen) (known : Known) (simple : Simple) (x : Operand) → read_field body known simple ≡ Ok x → IsSome (field (context body) known x)
field_asked body known simple x e =
    let it = word_is body (field_meant (members body.tables.types (known_object known))) (one_word simple) simple x e in
    let at = field_is body (known_object known) it.0 x it.1 in
    subst (λ (y : Operand). IsSome (field (context body) known y)) (sym at.1) at.2

overlay_there : (fields : List OverlayField) (word : List ℕ) (at : ℕ) → field_place fields word ≡ Some at → IsSome (option_map (λ (f : OverlayField). f.kind) (slice_get fields at))
unfolding field_place
overlay_there fields word at e = mapped_there (λ (f : OverlayField). f.kind) (slice_get fields at) (position_there fields (λ (f : OverlayField). bytes_eq f.name word) at e)

overlay_field_is : (fields : Option (List OverlayField)) (word : List ℕ) (x : Operand) → overlay_field_meant (read_fields fields) word ≡ Some x
    → (at : ℕ) × (x ≡ operands.Field at) × IsSome (option_and_then (λ (fs : List OverlayField). option_map (λ (f : OverlayField). f.kind) (slice_get fs at)) fields)
overlay_field_is (Some fs) word x e =
    let it = placed (field_place fs word) x e in (it.0, it.2, overlay_there fs word it.0 it.1)
overlay_field_is None word x e =
    let it = placed (field_place [] word) x e in absurd (no_field word it.0 it.1)

pub overlay_field_asked : (body : BodySeen) (known : Known) (simple : Simple) (x : Operand) → read_overlay_field body known simple ≡ Ok x → IsSome (overlay_field known x)
overlay_field_asked body known simple x e =
    let it = word_is body (overlay_field_meant (read_fields (known_overlay known))) (one_word simple) simple x e in
    let at = overlay_field_is (known_overlay known) it.0 x it.1 in
    subst (λ (y : Operand). IsSome (overlay_field known y)) (sym at.1) at.2

-- parts of tuples
part_there : (kind : Option ValueType) (n : ℕ) → nat_lt n (length (known_parts kind)) ≡ true → IsSome (option_and_then (λ (t : ValueType). slice_get (parts_of t) n) kind)
part_there (Some t) n e = within (parts_of t) n e
  where
    within : (ts : List ValueType) (n : ℕ) → nat_lt n (length ts) ≡ true → IsSome (slice_get ts n)
    within ts n e = ap is_some (slice_get-get_or ts n types.Bool (ltb-true n (length ts) e))
part_there None n e = absurd (omega (arith, ltb-true n 0 e))

number_is : (known : Known) (number : Number) (x : Operand) → number_below number (length (known_parts (known_type known))) ≡ Ok x → IsSome (tuple_part known x)
number_is known number x e =
    let p = passed (nat_lt number.value (length (known_parts (known_type known)))) (operands.Literal (types.Int 64) (trees.Int number.value)) x _ e in
    subst (λ (y : Operand). IsSome (tuple_part known y)) p.1 (part_there (known_type known) number.value p.0)

literal_index : (body : BodySeen) (known : Known) (literal : Literal) (x : Operand) → read_index body known (simples.Literal literal) ≡ Ok x → IsSome (tuple_part known x)
literal_index body known (literals.Number number) x e = number_is known number x e
literal_index body known (literals.Address place bits) x e = cc
literal_index body known (literals.Net place bits length) x e = cc
literal_index body known (literals.Port place number udp) x e = cc
literal_index body known (literals.Text place bytes) x e = cc
literal_index body known (literals.Bytes place bytes) x e = cc
literal_index body known (literals.True place) x e = cc
literal_index body known (literals.False place) x e = cc
literal_index body known (literals.Null place) x e = cc
literal_index body known (literals.Constant name constant) x e = cc
literal_index body known (literals.Time place number) x e = cc
literal_index body known (literals.Interval place number) x e = cc

pub index_asked : (body : BodySeen) (known : Known) (simple : Simple) (x : Operand) → read_index body known simple ≡ Ok x → IsSome (tuple_part known x)
index_asked body known (simples.Literal literal) x e = literal_index body known literal x e
index_asked body known (simples.Name name) x e = cc
index_asked body known (simples.Label place name) x e = cc
index_asked body known (simples.Any place) x e = cc
index_asked body known (simples.Plain place plain) x e = cc
index_asked body known (simples.Parametric parametric) x e = cc
index_asked body known (simples.Timer place) x e = cc
index_asked body known (simples.Manager place) x e = cc
index_asked body known (simples.Container container) x e = cc
