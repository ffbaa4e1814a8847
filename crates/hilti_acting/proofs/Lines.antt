-- A line that is printed.
use Rattle.std.proofs.Common.{◌≡◌, ℕ, List, [], ◌++◌, refl, sym, ap, ◌∙◌, Bool, false}
use Rattle.std.proofs.Common.{codes}
use Rattle.std.specs.Prelude.{nat_lt, if◌then◌else◌, Ok, Err}
use Rattle.std.specs.List.{join_by}
use Rattle.hilti_base.specs.declared.refusal.Raise.TheVariants.{ValueError}
use Rattle.hilti_parts.specs.declared.parts.Parts.{Parts}
use Rattle.hilti_rows.specs.declared.row.Printed.{Printed}
use Rattle.hilti_stack.specs.declared.head.Position.{Position}
use Rattle.hilti_stack.specs.Frames.{Frames}
use Rattle.hilti_values.specs.declared.value.Value.{Value}
use Rattle.hilti_effects.specs.Acting.{next, prints}
use Rattle.hilti_effects.specs.Printing.{printed_line, shown}
use Rattle.hilti_acting.specs.Acts.{WentOn, Stands, marks, of_state, thread}
use Rattle.hilti_acting.specs.Printed.{shown_text, shown_size}
use Rattle.hilti_acting.specs.declared.did.Did.TheVariants as did
use Rattle.hilti_acting.specs.declared.memory.Memory.{Memory}
use Rattle.hilti_acting.proofs.Sizes.{texts_are, texts}

-- trees that aren't too large give their texts
line_is : (parts : Parts) (slots globals : List Value) (items : List Printed) (text : List ℕ)
    → false ≡ nat_lt 1000000 (shown_size slots globals items)
    → text ≡ join_by (shown_text parts.types slots globals) (codes " ") items
    → printed_line parts.types (shown slots globals items) ≡ Ok text
line_is parts slots globals items text small is =
    ap (λ (large : Bool). if large then Err ValueError
    else Ok (texts slots globals parts.types (codes " ") items)) (sym small)
    ∙ ap (λ line. Ok line) (texts_are slots globals parts.types (codes " ") items ∙ sym is)

pub line_said : (parts read : Parts) (p : Position) (s : Frames) (m : Memory)
    (items : List Printed) (text start : List ℕ) (gs hs : List Value) (large : Bool)
    → read ≡ parts → start ≡ [] → gs ≡ m.globals.items → hs ≡ m.globals.items
    → large ≡ nat_lt 1000000 (shown_size s.slots gs items) → large ≡ false
    → text ≡ start ++ join_by (shown_text read.types s.slots hs) (codes " ") items
    → Stands p s m
    → WentOn (of_state (λ st. prints parts p s.slots st
    (printed_line parts.types (shown s.slots st.globals items))) m.globals.items) s m
    (marks (did.Said text)) (next p) s m
line_said parts read p s m items text start gs hs large same none one other tests small is stands =
    record {
      leads = λ number ran store h. record {
        store = store;
        stands = h;
        so = ap (prints parts p s.slots (thread number ran m.globals.items store))
            (line_is parts s.slots m.globals.items items text
            (sym small ∙ tests ∙ ap (λ gs. nat_lt 1000000 (shown_size s.slots gs items)) one)
            (is
            ∙ ap (λ start. start ++ join_by (shown_text read.types s.slots hs) (codes " ") items)
            none
            ∙ ap (λ (q : Parts). join_by (shown_text q.types s.slots hs) (codes " ") items) same
            ∙ ap (λ gs. join_by (shown_text parts.types s.slots gs) (codes " ") items) other));
      };
      fits = stands.fits;
      below = refl;
      none_made = stands.none_made;
    }
