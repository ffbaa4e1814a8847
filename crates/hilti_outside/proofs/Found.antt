-- The search for the newest entry of a name.
use Rattle.std.proofs.Common.{◌≡◌, ℕ, ◌+◌, ◌<◌, List, [], take, length, get_or, Option, Some, None, cond, Bool, true, false, nat_eq, sym, ◌∙◌, ap, subst}
use Rattle.std.proofs.lemmas.List.{get_or_read}
use Rattle.std.proofs.lemmas.List.Sums.{fold_more}
use Rattle.std.specs.Ordering.{nat_cmp, eq_by_cmp}
use Rattle.std.specs.Cmp.{eq_by_cmp_equiv}
use Rattle.std.specs.Cmp.Lexicographic.{pointwise, slice_cmp, nat_list_cmp_total, texts_ties}
use Rattle.std.specs.FinMap.{empty, get, insert, get-empty, get-insert}
use Rattle.hilti_outside.specs.Shelf.{files_of, bytes_at}
use Rattle.hilti_outside.specs.declared.shelf.Entry.{Entry}

-- the file of a name among the entries below a place
abbrev pub IsFoundBelow : List Entry → ℕ → List ℕ → Option ℕ → Type 0
IsFoundBelow entries below name None = get (files_of (take below entries)) name ≡ None
IsFoundBelow entries below name (Some at) = (at < length entries) × (get (files_of (take below entries)) name ≡ Some (bytes_at entries at))

pub none_below : (entries : List Entry) (name : List ℕ) → IsFoundBelow entries 0 name None
none_below entries name = get-empty (slice_cmp nat_cmp) name

-- an entry stands for its name, and leaves the other names
one_more : (entries : List Entry) (at : ℕ) (name : List ℕ) (entry : Entry) (is : Bool) → at < length entries → entry ≡ get_or entries at entry → is ≡ pointwise nat_eq entry.name name
    → get (files_of (take (at + 1) entries)) name ≡ cond is (Some (bytes_at entries at)) (get (files_of (take at entries)) name)
one_more entries at name entry is within here tells =
    let none : Entry = record { name = []; bytes = [] } in
    let read : entry ≡ get_or entries at none = get_or_read entries at entry within here none in
    let ties : eq_by_cmp (slice_cmp nat_cmp) name (get_or entries at none).name ≡ is =
    (eq_by_cmp_equiv nat_list_cmp_total).symm name (get_or entries at none).name ∙ sym (texts_ties (get_or entries at none).name name) ∙ ap (λ e. pointwise nat_eq e.name name) (sym read) ∙ sym tells in
    ap (λ m. get m name) (fold_more (λ all e. insert all e.name e.bytes) empty entries at none within)
    ∙ get-insert nat_list_cmp_total (files_of (take at entries)) (get_or entries at none).name (get_or entries at none).bytes name
    ∙ ap (λ b. cond b (Some (bytes_at entries at)) (get (files_of (take at entries)) name)) ties

pub found_here : (entries : List Entry) (at : ℕ) (name : List ℕ) (entry : Entry) (next : Option ℕ) → at < length entries → entry ≡ get_or entries at entry → true ≡ pointwise nat_eq entry.name name → next ≡ Some at
    → IsFoundBelow entries (at + 1) name next
found_here entries at name entry next within here tells is =
    subst (IsFoundBelow entries (at + 1) name) (sym is) (within, one_more entries at name entry true within here tells)

pub found_before : (entries : List Entry) (at : ℕ) (name : List ℕ) (entry : Entry) (found next : Option ℕ) → at < length entries → entry ≡ get_or entries at entry → false ≡ pointwise nat_eq entry.name name → next ≡ found
    → IsFoundBelow entries at name found → IsFoundBelow entries (at + 1) name next
found_before entries at name entry found next within here tells is before =
    subst (IsFoundBelow entries (at + 1) name) (sym is) (stays found before)
  where
    stays : (found : Option ℕ) → IsFoundBelow entries at name found → IsFoundBelow entries (at + 1) name found
    stays None before = one_more entries at name entry false within here tells ∙ before
    stays (Some k) before = (before.0, one_more entries at name entry false within here tells ∙ before.1)
