-- What fields hold, before and after they change.
use Rattle.std.proofs.Common.{◌≡◌, ℕ, ◌+◌, ◌<◌, ◌≤◌, List, length, get_or, replicate, ap, subst, ◌∙◌}
use Rattle.std.proofs.Common.{Option, Some, None, arith}
use Rattle.std.proofs.lemmas.List.Folds.{sum_by-replicate}
use Rattle.std.proofs.lemmas.List.Sums.{sum_by-set, sum_by_more_le}
use Rattle.std.proofs.lemmas.Option.{slice_get-get_or}
use Rattle.std.specs.Option.{option_flatten}
use Rattle.hilti_values.specs.declared.value.Value.{Value}
use Rattle.hilti_values.specs.declared.value.Value.TheVariants.{Ref}
use Rattle.hilti_heap.specs.declared.object.Object.{Object}
use Rattle.hilti_heap.specs.declared.object.Object.TheVariants.{Struct, Bound}
use Rattle.hilti_heap.specs.Cells.{object_at}
use Rattle.hilti_heap.specs.Held.{part, held, object_held}
use Rattle.hilti_heap.specs.Kept.{Kept, Covers, AreKept, Holds, Releases, Changes}
use Rattle.hilti_heap.specs.Stands.{Goes, Creates}
use Rattle.hilti_heap.specs.Stores.{change}
use Rattle.hilti_heap.proofs.Standing.{create_goes, covers_kept, inner_kept, swap_covers, swap_goes}
use Rattle.hilti_heap_ops.specs.Meaning.{struct_new, struct_set, with_field, field_of}
use Rattle.hilti_heap_ops.specs.Shapes.{HasField, HasFieldAt, HasFieldIn, AreHeld}

-- a new struct
pub new_goes : (fields : List (Option Value)) (n : ℕ) (v : Value) (a b : Kept)
    → fields ≡ replicate n None → Creates (Struct fields) v a b → Goes (struct_new n) (Some v) a b
new_goes fields n v a b e made =
    create_goes (Struct (replicate n None)) v a b
    (λ s. let d = sum_by-replicate (part (held s)) n None in omega arith)
    (subst (λ fields. Creates (Struct fields) v a b) e made)

-- a field that is there
field_there : (q at : ℕ) (fields : List (Option Value)) → at < length fields
    → part (held q) (field_of at (Struct fields)) ≡ part (held q) (get_or fields at None)
field_there q at fields below =
    ap (λ o. part (held q) (option_flatten o)) (slice_get-get_or fields at None below)

pub field_changed : (q at : ℕ) (field : Option Value) (o : Object) → HasFieldIn at o
    → object_held q (with_field at field o) + part (held q) (field_of at o)
    ≡ object_held q o + part (held q) field
field_changed q at field (Struct fields) below =
    let x = sum_by-set (part (held q)) fields at field None below in
    let f = field_there q at fields below in
    omega arith
field_changed q at field (Bound function values) is = absurd is

field_held_le : (q at : ℕ) (o : Object) → HasFieldIn at o
    → part (held q) (field_of at o) ≤ object_held q o
field_held_le q at (Struct fields) below =
    let m = sum_by_more_le (part (held q)) fields at None below in
    let f = field_there q at fields below in
    omega arith
field_held_le q at (Bound function values) is = absurd is

-- the value of a field is kept
pub field_kept : (h : Kept) (v : Value) (s at : ℕ) (x : Value) (m : ℕ → ℕ) → v ≡ Ref s
    → HasField h at v → Covers h m
    → ((o : Object) → object_at s h.cells ≡ Some o → field_of at o ≡ Some x)
    → AreKept h (λ q. held q x)
field_kept h v s at x m e kind c is =
    let k : HasField h at (Ref s) = subst (HasField h at) e kind in
    inner_kept h s k.object m (λ q. held q x) c k.there
    (λ q.
    let g = ap (part (held q)) (is k.object k.there) in
    let f = field_held_le q at k.object k.field in
    omega arith)

-- what is shared of a held value is kept
pub shared_kept : (h : Kept) (x y : Value) → y ≡ x → AreHeld h x → AreKept h (λ s. held s y)
shared_kept h x y e c =
    covers_kept h (λ s. held s x) (λ s. held s y) c (λ s. let d = ap (held s) e in omega arith)

-- a field's content is another one
module _ (s at : ℕ) (field before : Option Value) (gained : ℕ → ℕ) (a b c : Kept)
    (kind : HasFieldAt a at s) (h : Holds a b gained)
    (gains : (q : ℕ) → gained q ≡ part (held q) field)
    (was : (o : Object) → object_at s b.cells ≡ Some o → field_of at o ≡ before)
    (ch : (o : Object) → object_at s b.cells ≡ Some o → Changes b c s o (with_field at field o)) where
  there_then : object_at s b.cells ≡ Some kind.object
  there_then = h.objects s ∙ kind.there

  more : (q : ℕ) → object_held q (with_field at field kind.object) + part (held q) before
      ≡ object_held q kind.object + gained q
  more q =
      let f = field_changed q at field kind.object kind.field in
      let w = ap (part (held q)) (was kind.object there_then) in
      let g = gains q in
      omega arith

  pub exchange_covers : (m : ℕ → ℕ) → Covers a m → Covers c (λ q. part (held q) before)
  exchange_covers m cov =
      swap_covers (with_field at field) s gained (λ q. part (held q) before) kind.object a b c c
      kind.there h (ch kind.object there_then) more m cov

  pub exchange_goes : (d : Kept) → Releases c d (λ q. part (held q) before)
      → Goes (change (with_field at field) (Ref s)) None a d
  exchange_goes d r =
      swap_goes (with_field at field) s gained (λ q. part (held q) before) kind.object a b c d
      kind.there h (ch kind.object there_then) more r

-- the value that is set equals its source
pub set_goes : (s at : ℕ) (x y : Value) (a d : Kept) → y ≡ x
    → Goes (change (with_field at (Some y)) (Ref s)) None a d → Goes (struct_set (Ref s) at x) None a d
set_goes s at x y a d e goes = subst (λ x. Goes (struct_set (Ref s) at x) None a d) e goes
