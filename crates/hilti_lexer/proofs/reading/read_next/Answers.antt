use Rattle.std.proofs.Common.{ℕ, List, length, ◌≤◌, ◌≡◌, arith, ap}
use Rattle.std.specs.Prelude.{Err}
use Rattle.hilti_lexer.specs.Readings.{behind_gap}
use Rattle.hilti_lexer.proofs.Lengths.{fails_within, stands_shorter}
use Rattle.hilti_lexer.proofs.Numerals.{some_bytes}
use Rattle.hilti_lexer.proofs.Places.{behind_room, column_room, gap_within, offset_room}
use Rattle.hilti_lexer.proofs.reading.read_next.Goals as goal

within_text : (text front : List ℕ) → front ≡ behind_gap text → length front ≤ length text
within_text text front e = omega (arith, ap length e, gap_within text)

pub overflow_sub-front : goal.overflow_sub-front
overflow_sub-front c =
    let some = some_bytes c.behind_gap-front.result.now c.is_empty.result c.is_empty.ensures c.if-is_empty.false in
    omega (arith, stands_shorter c.behind_gap-front.result.now c.in-Ok.field-0.rest.now c.in-Ok.field-0.kind some c.in-Ok.ensures.stands)

pub place_behind-behind-requires-clause-column : goal.place_behind-behind-requires-clause-column
place_behind-behind-requires-clause-column c =
    let some = some_bytes c.behind_gap-front.result.now c.is_empty.result c.is_empty.ensures c.if-is_empty.false in
    column_room c.args.at c.further-place.result c.args.text.now c.behind_gap-front.result.now c.in-Ok.field-0.rest.now c.requires c.further-place.ensures
    (within_text c.args.text.now c.behind_gap-front.result.now c.behind_gap-front.ensures)
    (stands_shorter c.behind_gap-front.result.now c.in-Ok.field-0.rest.now c.in-Ok.field-0.kind some c.in-Ok.ensures.stands)

pub further-requires : goal.further-requires
further-requires c =
    let fails = c.in-Err-At.ensures.fails c.in-Err-At.fault c.in-Err-At.offset (ap (λ missing. Err missing) c.in-Err-At.field-0-is) in
    let room = offset_room c.args.at c.further-place.result c.args.text.now c.behind_gap-front.result.now c.in-Err-At.offset c.requires c.further-place.ensures
    (within_text c.args.text.now c.behind_gap-front.result.now c.behind_gap-front.ensures)
    (fails_within c.behind_gap-front.result.now c.in-Err-At.fault c.in-Err-At.offset fails) in
    omega (arith, room, c.in-Err-At.offset-is)

pub returns-in-Ok-clause-room : goal.returns-in-Ok-clause-room
returns-in-Ok-clause-room c =
    let some = some_bytes c.behind_gap-front.result.now c.is_empty.result c.is_empty.ensures c.if-is_empty.false in
    behind_room c.args.at c.further-place.result c.place_behind-behind.result c.args.text.now c.behind_gap-front.result.now c.in-Ok.field-0.rest.now c.in-Ok.field-0.kind
    c.requires c.further-place.ensures (within_text c.args.text.now c.behind_gap-front.result.now c.behind_gap-front.ensures)
    (stands_shorter c.behind_gap-front.result.now c.in-Ok.field-0.rest.now c.in-Ok.field-0.kind some c.in-Ok.ensures.stands) c.place_behind-behind.ensures

pub returns-in-Ok-clause-shorter : goal.returns-in-Ok-clause-shorter
returns-in-Ok-clause-shorter c =
    let some = some_bytes c.behind_gap-front.result.now c.is_empty.result c.is_empty.ensures c.if-is_empty.false in
    omega (
      arith,
      stands_shorter c.behind_gap-front.result.now c.in-Ok.field-0.rest.now c.in-Ok.field-0.kind some c.in-Ok.ensures.stands,
      within_text c.args.text.now c.behind_gap-front.result.now c.behind_gap-front.ensures,
    )
