-- Instructions that are built, and those that have rows.
use Rattle.std.proofs.Common.{◌≡◌, refl, Bool, true, false, ◌&&◌, cond, not, List, [], ◌∷◌, length, Option, Some, None, arith}
use Rattle.std.specs.Prelude.{IsTrue, IsSome, IfSome, find}
use Rattle.std.specs.List.{list_all, AllByRecursion, zip}
use Rattle.std.proofs.lemmas.Bool.{false≢true}
use Rattle.hilti_base.specs.declared.names.Place.{Place}
use Rattle.hilti_parts.specs.declared.parts.Instruction.{Instruction}
use Rattle.hilti_rows.specs.declared.row.Printed.{Printed}
use Rattle.hilti_rows.specs.declared.row.Row.{Row}
use Rattle.hilti_rows.specs.declared.row.Row.TheVariants as rows
use Rattle.hilti_rows.specs.Resolving.{row_of}
use Rattle.hilti_code.specs.Runnable.{has_text, PrintsTexts, HasRow}
use Rattle.hilti_check.specs.Built.{prints_texts, has_built, is_built, is_unbuilt}
use Rattle.hilti_check.specs.Laws.{BuiltIsHasRow}

-- both of two tests
both_true : (a b : Bool) → (a && b) ≡ true → (a ≡ true) × (b ≡ true)
both_true true b e = (refl, e)
both_true false b e = absurd (false≢true e)

true_both : (a b : Bool) → a ≡ true → b ≡ true → (a && b) ≡ true
true_both true b first second = second
true_both false b first second = absurd (false≢true first)

abbrev prints : Printed → Bool
prints item = has_text item.kind

each_prints : (items : List Printed) → list_all prints items ≡ true → AllByRecursion (λ (item : Printed). IsTrue (has_text item.kind)) items
each_prints [] e = tt
each_prints (x ∷ xs) e = let it = both_true (prints x) (list_all prints xs) e in (it.0, each_prints xs it.1)

prints_each : (items : List Printed) → AllByRecursion (λ (item : Printed). IsTrue (has_text item.kind)) items → list_all prints items ≡ true
prints_each [] h = refl
prints_each (x ∷ xs) h = true_both (prints x) (list_all prints xs) h.0 (prints_each xs h.1)

prints_is : (row : Row) → prints_texts row ≡ true → PrintsTexts row
prints_is (rows.Print items) e = each_prints items e
prints_is _ e = tt

is_prints : (row : Row) → PrintsTexts row → prints_texts row ≡ true
is_prints (rows.Print items) h = prints_each items h
is_prints _ h = refl

row_there : (o : Option Row) → has_built o ≡ true → IsSome o × IfSome o PrintsTexts
row_there None e = absurd (false≢true e)
row_there (Some row) e = (refl, prints_is row e)

there_row : (o : Option Row) → IsSome o → IfSome o PrintsTexts → has_built o ≡ true
there_row None some prints = absurd (false≢true some)
there_row (Some row) some prints = is_prints row prints

pub has_row : (i : Instruction) → is_built i ≡ true → HasRow i
has_row i e = let it = row_there (row_of i) e in record { some = it.0; prints = it.1 }

pub built_is_has_row : BuiltIsHasRow
built_is_has_row i = (λ e. has_row i e, λ (h : HasRow i). there_row (row_of i) h.some h.prints)

-- where none of some instructions with places is found, each has a row
first_unless : (v : Instruction) (k : Place) (b : Bool) (rest : Option (Place × Instruction)) → is_built v ≡ b → cond (not b) (Some (k, v)) rest ≡ None → HasRow v × (rest ≡ None)
first_unless v k true rest is e = (has_row v is, e)
first_unless v k false rest is e = absurd cc

pub all_have_rows : (ks : List Place) (vs : List Instruction) → length ks ≡ length vs → find is_unbuilt (zip ks vs) ≡ None → AllByRecursion HasRow vs
all_have_rows [] [] same e = tt
all_have_rows [] (v ∷ vs) same e = absurd (omega arith)
all_have_rows (k ∷ ks) [] same e = absurd (omega arith)
all_have_rows (k ∷ ks) (v ∷ vs) same e =
    let it = first_unless v k (is_built v) (find is_unbuilt (zip ks vs)) refl e in
    (it.0, all_have_rows ks vs (omega arith) it.1)
