-- What is read of a group is what is asked.
use Rattle.std.proofs.Common.{◌≡◌, ◌∙◌, suc, ◌≤◌, Bool, true, false, cond, List, [], ◌∷◌, length, map, sym, refl, ap, subst, Option, Some, None, Ok, Err, arith}
use Rattle.std.specs.Prelude.{nat_le, ◌&&◌, Result, IsSomeAnd, slice_get, drop}
use Rattle.std.specs.List.{All, AllZip, AllByRecursion}
use Rattle.std.proofs.lemmas.Bool.{false≢true, eqb-true, leb-true}
use Rattle.std.proofs.lemmas.List.Elements.{All-from_recursion}
use Rattle.hilti_base.specs.declared.names.Place.{Place}
use Rattle.hilti_base.specs.declared.refusal.Refusal.{Refusal}
use Rattle.hilti_base.specs.declared.refusal.Refusal.TheVariants.{At}
use Rattle.hilti_types.specs.Sendable.{IsSendable, is_sendable_in}
use Rattle.hilti_types.specs.declared.value_type.ValueType.{ValueType}
use Rattle.hilti_module.specs.declared.module.Simple.{Simple}
use Rattle.hilti_module.specs.declared.module.Simple.TheVariants as simples
use Rattle.hilti_table.specs.declared.row.Kind.{Kind}
use Rattle.hilti_table.specs.declared.row.Kind.TheVariants as kinds
use Rattle.hilti_parts.specs.declared.parts.Operand.{Operand, out-roll-Operand}
use Rattle.hilti_parts.specs.declared.parts.Operand.TheOpen.{Operand-F}
use Rattle.hilti_parts.specs.declared.parts.Operand.TheVariants as operands
use Rattle.hilti_parts.specs.Named.{grouped, in_parentheses}
use Rattle.hilti_typing.specs.Context.{Signature, Context, Known}
use Rattle.hilti_typing.specs.Fits.{Has, HaveAll, Matches, IsSound, AreParts, AsksArguments, AsksSent, AsksRule, AsksQuery, known_signature, known_rule}
use Rattle.hilti_typing.specs.Types.{asked_for}
use Rattle.hilti_operands.specs.Seen.{BodySeen, LineSeen, context}
use Rattle.hilti_operands.specs.Values.{read_asked}
use Rattle.hilti_operands.specs.Names.{known_parts}
use Rattle.hilti_operands.specs.Groups.{read_sent, untyped_part, read_match, read_member, read_members, parameters_of, is_counted, grouped_read, members_read, read_group}
use Rattle.hilti_operands.proofs.ReadValues.{then_ok, passed, ok_is, own_sound, value_has}

-- operands that are read one for each type
module _ (read : Option ValueType → Simple → Result Operand Refusal) where
  pub one_for_each : (R : ValueType → Operand → Type 0) → ((t : ValueType) (s : Simple) (x : Operand) → read (Some t) s ≡ Ok x → R t x)
      → (ts : List ValueType) (items : List Simple) (xs : List Operand) → length ts ≡ length items → read_members read ts items ≡ Ok xs → AllZip R ts xs
  unfolding read_members
  one_for_each R each [] [] xs l e = subst (λ (ys : List Operand). AllZip R [] ys) (ok_is [] xs e) tt
  one_for_each R each [] (x ∷ more) xs l e = absurd (omega (arith, l))
  one_for_each R each (t ∷ ts) [] xs l e = absurd (omega (arith, l))
  one_for_each R each (t ∷ ts) (x ∷ more) xs l e =
      let first = then_ok (read (Some t) x) _ xs e in
      let rest = then_ok (read_members read ts more) _ xs first.2 in
      let fewer : length ts ≡ length more = omega (arith, l) in
      subst (λ (ys : List Operand). AllZip R (t ∷ ts) ys) (ok_is (first.0 ∷ rest.0) xs rest.2)
      (let it : AllZip R (t ∷ ts) (first.0 ∷ rest.0) = (each t x first.0 first.1, one_for_each R each ts more rest.0 fewer rest.1) in it)

  pub each_is : (P : Operand → Type 0) → ((t : Option ValueType) (s : Simple) (x : Operand) → read t s ≡ Ok x → P x)
      → (ts : List ValueType) (items : List Simple) (xs : List Operand) → read_members read ts items ≡ Ok xs → AllByRecursion P xs × (length xs ≡ length items)
  unfolding read_members
  each_is P each ts [] xs e = subst (λ (ys : List Operand). AllByRecursion P ys × (length ys ≡ 0)) (ok_is [] xs e) (tt, refl)
  each_is P each ts (x ∷ more) xs e =
      let first = then_ok (read (slice_get ts 0) x) _ xs e in
      let rest = then_ok (read_members read (drop 1 ts) more) _ xs first.2 in
      let others = each_is P each (drop 1 ts) more rest.0 rest.1 in
      subst (λ (ys : List Operand). AllByRecursion P ys × (length ys ≡ suc (length more))) (ok_is (first.0 ∷ rest.0) xs rest.2)
      ((each (slice_get ts 0) x first.0 first.1, others.0), ap suc others.1)

-- groups
group_is : (items : List Operand) → grouped (operands.Group items) ≡ Some items
group_is items = ap grouped (sym (operands.rolls-Group items)) ∙ ap in_parentheses (out-roll-Operand (Operand-F.Group items))

grouped_ok : (r : Result (List Operand) Refusal) (x : Operand) → grouped_read r ≡ Ok x → (xs : List Operand) × (r ≡ Ok xs) × (grouped x ≡ Some xs)
grouped_ok (Ok items) x e = (items, refl, sym (ap grouped (ok_is (operands.Group items) x e)) ∙ group_is items)
grouped_ok (Err refusal) x e = cc

-- a group is counted, and its operands are read
pub members_ok : (line : LineSeen) (kind : Kind) (place : Place) (items : List Simple) (ts : List ValueType) (x : Operand) → members_read line kind place items (Some ts) ≡ Ok x
    → (is_counted kind (length ts) (length items) ≡ true) × ((xs : List Operand) × (read_members (read_member line kind) ts items ≡ Ok xs) × (grouped x ≡ Some xs))
members_ok line kind place items ts x e = counted (is_counted kind (length ts) (length items)) refl e
  where
    counted : (b : Bool) → is_counted kind (length ts) (length items) ≡ b → cond b (grouped_read (read_members (read_member line kind) ts items)) (Err (At line.mnemonic 31)) ≡ Ok x
        → (is_counted kind (length ts) (length items) ≡ true) × ((xs : List Operand) × (read_members (read_member line kind) ts items ≡ Ok xs) × (grouped x ≡ Some xs))
    counted true is e = (is, grouped_ok (read_members (read_member line kind) ts items) x e)
    counted false is e = cc

in_group : (P : List Operand → Type 0) (x : Operand) (xs : List Operand) → grouped x ≡ Some xs → P xs → IsSomeAnd (grouped x) P
in_group P x xs e p = subst (λ (o : Option (List Operand)). IsSomeAnd o P) (sym e) p

-- arguments
arguments_are : (line : LineSeen) (place : Place) (items : List Simple) (f : Option Signature) (x : Operand) → members_read line kinds.Arguments place items (parameters_of f) ≡ Ok x
    → IsSomeAnd f (λ g. IsSomeAnd (grouped x) (HaveAll (context line.body) g.parameters))
arguments_are line place items None x e = cc
arguments_are line place items (Some f) x e =
    let it = members_ok line kinds.Arguments place items f.parameters x e in
    let same = eqb-true (length f.parameters) (length items) it.0 in
    in_group (HaveAll (context line.body) f.parameters) x it.1.0 it.1.2
    (one_for_each (read_member line kinds.Arguments) (Has (context line.body)) (λ t s y e. value_has line.body t s y e) f.parameters items it.1.0 same it.1.1)

pub arguments_asked : (line : LineSeen) (known : Known) (place : Place) (items : List Simple) (x : Operand) → read_group line kinds.Arguments known place items ≡ Ok x → AsksArguments (context line.body) known x
arguments_asked line known place items x e = arguments_are line place items (known_signature known) x e

-- arguments that are sent
record SentAs (body : BodySeen) (t : ValueType) (x : Operand) : Type 0 where
  has : Has (context body) t x
  may_go : IsSendable body.tables.types t

sent_is : (line : LineSeen) (t : ValueType) (s : Simple) (x : Operand) → read_sent line (Some t) s ≡ Ok x → SentAs line.body t x
sent_is line t s x e =
    let first = then_ok (read_asked line.body (Some t) s) _ x e in
    let p = passed (is_sendable_in line.body.tables.types t) first.0 x _ first.2 in
    subst (λ (y : Operand). SentAs line.body t y) p.1 (record { has = value_has line.body t s first.0 first.1; may_go = p.0 })

all_have : (body : BodySeen) (ts : List ValueType) (xs : List Operand) → AllZip (SentAs body) ts xs → HaveAll (context body) ts xs
all_have body [] [] h = tt
all_have body [] (x ∷ xs) h = absurd h
all_have body (t ∷ ts) [] h = absurd h
all_have body (t ∷ ts) (x ∷ xs) h = (h.0.has, all_have body ts xs h.1)

all_go : (body : BodySeen) (ts : List ValueType) (xs : List Operand) → AllZip (SentAs body) ts xs → AllByRecursion (IsSendable body.tables.types) ts
all_go body [] [] h = tt
all_go body [] (x ∷ xs) h = absurd h
all_go body (t ∷ ts) [] h = absurd h
all_go body (t ∷ ts) (x ∷ xs) h = (h.0.may_go, all_go body ts xs h.1)

sent_are : (line : LineSeen) (place : Place) (items : List Simple) (f : Option Signature) (x : Operand) → members_read line kinds.Sent place items (parameters_of f) ≡ Ok x
    → IsSomeAnd f (λ g. IsSomeAnd (grouped x) (HaveAll (context line.body) g.parameters)) × IsSomeAnd f (λ g. All (IsSendable line.body.tables.types) g.parameters)
sent_are line place items None x e = cc
sent_are line place items (Some f) x e =
    let it = members_ok line kinds.Sent place items f.parameters x e in
    let same = eqb-true (length f.parameters) (length items) it.0 in
    let all = one_for_each (read_member line kinds.Sent) (SentAs line.body) (sent_is line) f.parameters items it.1.0 same it.1.1 in (
      in_group (HaveAll (context line.body) f.parameters) x it.1.0 it.1.2 (all_have line.body f.parameters it.1.0 all),
      All-from_recursion (IsSendable line.body.tables.types) f.parameters (all_go line.body f.parameters it.1.0 all),
    )

pub sent_asked : (line : LineSeen) (known : Known) (place : Place) (items : List Simple) (x : Operand) → read_group line kinds.Sent known place items ≡ Ok x → AsksSent (context line.body) known x
sent_asked line known place items x e = sent_are line place items (known_signature known) x e

-- parts of a tuple
both : (a b : Bool) → (a && b) ≡ true → (a ≡ true) × (b ≡ true)
both true true e = (refl, refl)
both true false e = absurd (false≢true e)
both false b e = absurd (false≢true e)

pub parts_asked : (line : LineSeen) (known : Known) (place : Place) (items : List Simple) (x : Operand) → read_group line kinds.Parts known place items ≡ Ok x → IsSomeAnd (grouped x) (AreParts (context line.body))
parts_asked line known place items x e =
    let it = members_ok line kinds.Parts place items (known_parts line.target) x e in
    let few = both (nat_le 1 (length items)) (nat_le (length items) 8) it.0 in
    let all = each_is (read_member line kinds.Parts) (IsSound (context line.body)) (λ t s y e. own_sound line.body (untyped_part line t) s y e) (known_parts line.target) items it.1.0 it.1.1 in
    let low = leb-true 1 (length items) few.0 in
    let high = leb-true (length items) 8 few.1 in
    let some : 1 ≤ length it.1.0 = omega (arith, low, all.1) in
    let most : length it.1.0 ≤ 8 = omega (arith, high, all.1) in
    in_group (AreParts (context line.body)) x it.1.0 it.1.2
    (record { some = some; few = most; sound = All-from_recursion (IsSound (context line.body)) it.1.0 all.0 })

-- rules
has_matches : (c : Context) (t : ValueType) (x : Operand) → Has c t x → Matches c t x
has_matches c t operands.Star h = tt
has_matches c t _ h = h

match_is : (body : BodySeen) (t : ValueType) (s : Simple) (x : Operand) → read_match body (Some t) s ≡ Ok x → Matches (context body) t x
match_is body t (simples.Any place) x e = subst (λ (y : Operand). Matches (context body) t y) (ok_is operands.Star x e) tt
match_is body t (simples.Name name) x e = has_matches (context body) t x (value_has body t (simples.Name name) x e)
match_is body t (simples.Literal literal) x e = has_matches (context body) t x (value_has body t (simples.Literal literal) x e)
match_is body t (simples.Label place name) x e = cc
match_is body t (simples.Plain place plain) x e = cc
match_is body t (simples.Parametric parametric) x e = cc
match_is body t (simples.Timer place) x e = cc
match_is body t (simples.Manager place) x e = cc
match_is body t (simples.Container container) x e = cc

rule_are : (line : LineSeen) (place : Place) (items : List Simple) (rule : Option (List ValueType)) (x : Operand) → members_read line kinds.Rule place items rule ≡ Ok x
    → IsSomeAnd rule (λ r. IsSomeAnd (grouped x) (AllZip (Matches (context line.body)) r))
rule_are line place items None x e = cc
rule_are line place items (Some rule) x e =
    let it = members_ok line kinds.Rule place items rule x e in
    let same = eqb-true (length rule) (length items) it.0 in
    in_group (AllZip (Matches (context line.body)) rule) x it.1.0 it.1.2
    (one_for_each (read_member line kinds.Rule) (Matches (context line.body)) (match_is line.body) rule items it.1.0 same it.1.1)

pub rule_asked : (line : LineSeen) (known : Known) (place : Place) (items : List Simple) (x : Operand) → read_group line kinds.Rule known place items ≡ Ok x → AsksRule (context line.body) known x
rule_asked line known place items x e = rule_are line place items (known_rule known) x e

-- queries
mapped : (c : Context) (ts : List ValueType) (xs : List Operand) → AllZip (λ t x. Has c (asked_for t) x) ts xs → HaveAll c (map asked_for ts) xs
mapped c [] [] h = tt
mapped c [] (x ∷ xs) h = absurd h
mapped c (t ∷ ts) [] h = absurd h
mapped c (t ∷ ts) (x ∷ xs) h = (h.0, mapped c ts xs h.1)

query_are : (line : LineSeen) (place : Place) (items : List Simple) (rule : Option (List ValueType)) (x : Operand) → members_read line kinds.Query place items rule ≡ Ok x
    → IsSomeAnd rule (λ r. IsSomeAnd (grouped x) (HaveAll (context line.body) (map asked_for r)))
query_are line place items None x e = cc
query_are line place items (Some rule) x e =
    let it = members_ok line kinds.Query place items rule x e in
    let same = eqb-true (length rule) (length items) it.0 in
    in_group (HaveAll (context line.body) (map asked_for rule)) x it.1.0 it.1.2
    (mapped (context line.body) rule it.1.0
    (one_for_each (read_member line kinds.Query) (λ t x. Has (context line.body) (asked_for t) x) (λ t s y e. value_has line.body (asked_for t) s y e) rule items it.1.0 same it.1.1))

pub query_asked : (line : LineSeen) (known : Known) (place : Place) (items : List Simple) (x : Operand) → read_group line kinds.Query known place items ≡ Ok x → AsksQuery (context line.body) known x
query_asked line known place items x e = query_are line place items (known_rule known) x e
